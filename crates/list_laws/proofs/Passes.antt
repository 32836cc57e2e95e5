-- One pass over a list that makes something of each run: it carries what is made so far of the open run, and a
-- state that knows whether the next item breaks.
use Rattle.std.proofs.Common.{◌≡◌, ℕ, ◌+◌, ◌-◌, ◌<◌, Bool, true, false, List, [], ◌∷◌, ◌++◌, length, take, drop, get_or, refl, sym, ap, ◌∙◌, arith, cond, append_assoc, add-one, drop-cons}
use Rattle.std.specs.List.{fold}
use Rattle.std.proofs.lemmas.List.Sums.{fold_push}
use Rattle.std.proofs.lemmas.List.{take_all}
use Rattle.list_laws.specs.Breaks.{put_before, runs_after, runs_of, after_last, made_of_each}

module _ {X : Type 0} where
  -- a run before runs
  abbrev pub put_run : (X → Bool) → List X → List (List X) → List (List X)
  put_run breaks run [] = run ∷ []
  put_run breaks run ([] ∷ runs) = run ∷ runs
  put_run breaks run ((y ∷ more) ∷ runs) = cond (breaks y) (run ∷ (y ∷ more) ∷ runs) ((run ++ y ∷ more) ∷ runs)

  one_run : (breaks : X → Bool) (x : X) (runs : List (List X)) → put_before breaks x runs ≡ put_run breaks (x ∷ []) runs
  one_run breaks x [] = refl
  one_run breaks x ([] ∷ runs) = refl
  one_run breaks x ((y ∷ more) ∷ runs) = refl

  put_put : (first later : X → Bool) (run : List X) (x : X) (runs : List (List X))
      → put_run first run (put_before later x runs) ≡ cond (first x) (run ∷ put_before later x runs) (put_run later (run ++ x ∷ []) runs)
  put_put first later run x [] = refl
  put_put first later run x ([] ∷ runs) = refl
  put_put first later run x ((y ∷ more) ∷ runs) =
      elim (later y) as (λ b. put_run first run (cond b ((x ∷ []) ∷ (y ∷ more) ∷ runs) ((x ∷ y ∷ more) ∷ runs)) ≡ cond (first x) (run ∷ cond b ((x ∷ []) ∷ (y ∷ more) ∷ runs) ((x ∷ y ∷ more) ∷ runs)) (cond b ((run ++ x ∷ []) ∷ (y ∷ more) ∷ runs) (((run ++ x ∷ []) ++ y ∷ more) ∷ runs))) [
        | true ↦ refl
        | false ↦ ap (λ (r : List X). cond (first x) (run ∷ (x ∷ y ∷ more) ∷ runs) (r ∷ runs)) (sym (append_assoc run (x ∷ []) (y ∷ more)))
      ]

  pub after_end : (test : X → X → Bool) (earlier : List X) (x y : X) → after_last test (earlier ++ x ∷ []) y ≡ test x y
  after_end test [] x y = refl
  after_end test (w ∷ []) x y = refl
  after_end test (w ∷ z ∷ zs) x y = after_end test (z ∷ zs) x y

module _ {X S State : Type 0} (begin : X → S) (grow : S → X → S) (test : State → X → Bool) (next : State → X → State) where
  abbrev pub pass : S → State → List X → List S
  pass s state [] = s ∷ []
  pass s state (x ∷ xs) = cond (test state x) (s ∷ pass (begin x) (next state x) xs) (pass (grow s x) (next state x) xs)

  module _ (breaks : List X → X → Bool) where
    -- the state knows which item breaks after these
    abbrev pub Knows : List X → State → Type 0
    Knows earlier state = (x : X) → breaks earlier x ≡ test state x

    module _ (step : (earlier : List X) (state : State) (x : X) → Knows earlier state → Knows (earlier ++ x ∷ []) (next state x)) where
      passed : (earlier : List X) (state : State) (first : X) (run xs : List X) → Knows earlier state
          → pass (fold grow (begin first) run) state xs ≡ made_of_each begin grow (put_run (breaks earlier) (first ∷ run) (runs_after breaks earlier xs))
      passed earlier state first run [] h = refl
      passed earlier state first run (x ∷ xs) h =
          let all = earlier ++ x ∷ [] in
          let after = next state x in
          let h' : Knows all after = step earlier state x h in
          let rest = runs_after breaks all xs in
          let made = fold grow (begin first) run in
          ap (λ (s : List S). cond (test state x) (made ∷ s) (pass (grow made x) after xs)) (passed all after x [] xs h')
          ∙ ap (λ (s : List S). cond (test state x) (made ∷ made_of_each begin grow (put_run (breaks all) (x ∷ []) rest)) s)
          (ap (λ (s : S). pass s after xs) (sym (fold_push grow (begin first) run x)) ∙ passed all after first (run ++ x ∷ []) xs h')
          ∙ elim (test state x) as (λ b. cond b (made ∷ made_of_each begin grow (put_run (breaks all) (x ∷ []) rest)) (made_of_each begin grow (put_run (breaks all) ((first ∷ run) ++ x ∷ []) rest)) ≡ made_of_each begin grow (cond b ((first ∷ run) ∷ put_before (breaks all) x rest) (put_run (breaks all) ((first ∷ run) ++ x ∷ []) rest))) [
            | true ↦ ap (λ (rs : List (List X)). made ∷ made_of_each begin grow rs) (sym (one_run (breaks all) x rest))
            | false ↦ refl
          ]
          ∙ ap (λ b. made_of_each begin grow (cond b ((first ∷ run) ∷ put_before (breaks all) x rest) (put_run (breaks all) ((first ∷ run) ++ x ∷ []) rest))) (sym (h x))
          ∙ ap (made_of_each begin grow) (sym (put_put (breaks earlier) (breaks all) (first ∷ run) x rest))

      pub passed_all : (state : State) (first : X) (xs : List X) → Knows (first ∷ []) state → pass (begin first) state xs ≡ made_of_each begin grow (runs_of breaks (first ∷ xs))
      passed_all state first xs h =
          passed (first ∷ []) state first [] xs h ∙ ap (made_of_each begin grow) (sym (one_run (breaks (first ∷ [])) first (runs_after breaks (first ∷ []) xs)))

      -- the pass at its start, in the words of a loop
      pub begun : (xs : List X) (a : X) (s : S) (state : State) → 0 < length xs → a ≡ get_or xs 0 a → s ≡ begin a → Knows (a ∷ []) state
          → pass s state (take (length xs - 1) (drop 1 xs)) ≡ made_of_each begin grow (runs_of breaks xs)
      begun [] a s state some e is h = absurd (omega arith)
      begun (x ∷ xs) a s state some e is h =
          let n : length (x ∷ xs) - 1 ≡ length xs = omega arith in
          ap (λ (k : ℕ). pass s state (take k xs)) n
          ∙ ap (pass s state) (take_all (length xs) xs (omega arith))
          ∙ ap (λ (t : S). pass t state xs) is
          ∙ passed_all state a xs h
          ∙ ap (λ (y : X). made_of_each begin grow (runs_of breaks (y ∷ xs))) e

  dropped : (xs : List X) (i : ℕ) (x : X) → i < length xs → x ≡ get_or xs i x → drop i xs ≡ x ∷ drop (i + 1) xs
  dropped xs i x h is = rw (drop-cons xs i x h, ← is, add-one i) refl

  module _ (i : ℕ) (xs : List X) (x : X) (done more : List S) (s s' : S) (state state' : State) (h : i < length xs) (is : x ≡ get_or xs i x) (moved : state' ≡ next state x) where
    abbrev rest : List X
    rest = drop (i + 1) xs

    cut : (b : Bool) → test state x ≡ b → pass s state (drop i xs) ≡ cond b (s ∷ pass (begin x) (next state x) rest) (pass (grow s x) (next state x) rest)
    cut b e = ap (pass s state) (dropped xs i x h is) ∙ ap (λ b. cond b (s ∷ pass (begin x) (next state x) rest) (pass (grow s x) (next state x) rest)) e

    -- an item that breaks
    pub broke : test state x ≡ true → more ≡ done ++ s ∷ [] → s' ≡ begin x → more ++ pass s' state' rest ≡ done ++ pass s state (drop i xs)
    broke e grows begins =
        (λ j. grows j ++ pass (begins j) (moved j) rest)
        ∙ append_assoc done (s ∷ []) (pass (begin x) (next state x) rest)
        ∙ ap (λ (ss : List S). done ++ ss) (sym (cut true e))

    -- an item that joins
    pub joined : test state x ≡ false → more ≡ done → s' ≡ grow s x → more ++ pass s' state' rest ≡ done ++ pass s state (drop i xs)
    joined e same grows = (λ j. same j ++ pass (grows j) (moved j) rest) ∙ ap (λ (ss : List S). done ++ ss) (sym (cut false e))

  -- the state after these items
  abbrev pub state_after : State → List X → State
  state_after state xs = fold next state xs

  pub pass-append : (s : S) (state : State) (xs : List X) (y : X) (ys : List X) → test (state_after state xs) y ≡ true
      → pass s state (xs ++ y ∷ ys) ≡ pass s state xs ++ pass (begin y) (next (state_after state xs) y) ys
  pass-append s state [] y ys h = ap (λ b. cond b (s ∷ pass (begin y) (next state y) ys) (pass (grow s y) (next state y) ys)) h
  pass-append s state (x ∷ xs) y ys h =
      elim (test state x) as (λ b. cond b (s ∷ pass (begin x) (next state x) (xs ++ y ∷ ys)) (pass (grow s x) (next state x) (xs ++ y ∷ ys))
      ≡ cond b (s ∷ pass (begin x) (next state x) xs) (pass (grow s x) (next state x) xs) ++ pass (begin y) (next (state_after (next state x) xs) y) ys) [
        | true ↦ ap (λ ss. s ∷ ss) (pass-append (begin x) (next state x) xs y ys h)
        | false ↦ pass-append (grow s x) (next state x) xs y ys h
      ]
