-- The longest of each kind are those that are longer than each before them and that none behind exceeds.
use Rattle.std.proofs.Common.{◌≡◌, ℕ, Bool, true, false, not, ◌&&◌, ◌||◌, List, [], ◌∷◌, ◌++◌, filter, refl, sym, ap, ◌∙◌, cond}
use Rattle.std.specs.List.{AllByRecursion, list_any}
use Rattle.std.proofs.lemmas.Bool.{and_parts}
use Rattle.std.proofs.lemmas.List.Folds.{list_any-append}
use Rattle.dataselect.specs.Longest.{is_exceeded, longest_by}
use Rattle.dataselect.specs.PickedLaw.{kept_by}
use Rattle.dataselect.proofs.Bests.{all_longest, filter_all}

-- tests that agree on the items of a list keep the same items
filter_same : {X : Type 0} (p q : X → Bool) (xs : List X) → AllByRecursion (λ x. p x ≡ q x) xs → filter p xs ≡ filter q xs
filter_same p q [] all = refl
filter_same p q (x ∷ xs) all = ap (λ b. cond b (x ∷ filter p xs) (filter p xs)) all.0 ∙ ap (λ ys. cond (q x) (x ∷ ys) ys) (filter_same p q xs all.1)

filter_both : {X : Type 0} (p q : X → Bool) (xs : List X) → filter p (filter q xs) ≡ filter (λ x. q x && p x) xs
filter_both p q [] = refl
filter_both p q (x ∷ xs) =
    let rest = filter_both p q xs in
    elim (q x) as (λ b. filter p (cond b (x ∷ filter q xs) (filter q xs)) ≡ cond (b && p x) (x ∷ filter (λ y. q y && p y) xs) (filter (λ y. q y && p y) xs)) [
      | true ↦ ap (λ ys. cond (p x) (x ∷ ys) ys) rest
      | false ↦ rest
    ]

all_map : {X : Type 0} (P Q : X → Type 0) → ((x : X) → P x → Q x) → (xs : List X) → AllByRecursion P xs → AllByRecursion Q xs
all_map P Q step [] all = tt
all_map P Q step (x ∷ xs) all = (step x all.0, all_map P Q step xs all.1)

pub any_filtered : {X : Type 0} (p q : X → Bool) (xs : List X) → list_any p (filter q xs) ≡ list_any (λ x. q x && p x) xs
any_filtered p q [] = refl
any_filtered p q (x ∷ xs) =
    let rest = any_filtered p q xs in
    elim (q x) as (λ b. list_any p (cond b (x ∷ filter q xs) (filter q xs)) ≡ ((b && p x) || list_any (λ y. q y && p y) xs)) [
      | true ↦ ap (λ b. p x || b) rest
      | false ↦ rest
    ]

and_true : (b : Bool) → (b && true) ≡ b
and_true true = refl
and_true false = refl

and_false : (b : Bool) → (b && false) ≡ false
and_false true = refl
and_false false = refl

-- one more before that is no longer block, and one more that blocks what is alike
still : (b l a m : Bool) → (a ≡ true → m ≡ true) → not b ≡ not (b || ((l && (a && not m)) || false))
still true l a m h = refl
still false false a m h = refl
still false true false m h = refl
still false true true m h = ap (λ t. not (not t || false)) (sym (h refl))

still_short : (b l a : Bool) → l ≡ false → not b ≡ not (b || ((l && a) || false))
still_short true l a h = refl
still_short false l a h = ap (λ t. not ((t && a) || false)) (sym h)

blocked_now : (b l a c m : Bool) → l ≡ true → c ≡ a → (a ≡ true → m ≡ false) → (not a && not b) ≡ not (b || ((l && (c && not m)) || false))
blocked_now true l a c m e f h = and_false (not a)
blocked_now false l true c m e f h = ap (λ t. not ((t && (true && not false)) || false)) (sym e) ∙ ap (λ t. not ((l && (t && not false)) || false)) (sym f) ∙ ap (λ t. not ((l && (c && not t)) || false)) (sym (h refl))
blocked_now false l false c m e f h = ap (λ t. not ((t && (false && not m)) || false)) (sym e) ∙ ap (λ t. not ((l && (t && not m)) || false)) (sym f)

or_false : (a b c : Bool) → ((a && b) || c) ≡ false → (a ≡ true → b ≡ false) × (c ≡ false)
or_false true true c h = (cc)
or_false true false c h = (λ _. refl, h)
or_false false b c h = (λ e. (cc), h)

not_longer : (b : Bool) → (b ≡ true → b ≡ false) → b ≡ false
not_longer true h = h refl
not_longer false h = refl

module _ (alike longer : List ℕ → List ℕ → Bool) (long : List ℕ → Bool)
    (turn : (x y : List ℕ) → alike x y ≡ alike y x)
    (same : (b s : List ℕ) → alike s b ≡ true → (r : List ℕ) → alike r s ≡ alike r b)
    (further : (b s : List ℕ) → longer s b ≡ false → (r : List ℕ) → longer r b ≡ true → longer r s ≡ true)
    (less : (x y : List ℕ) → longer x y ≡ true → longer y x ≡ false) where
  -- a long one before is alike and not shorter
  abbrev pub blocks : List (List ℕ) → List ℕ → Bool
  blocks before y = list_any (λ e. long e && (alike e y && not (longer y e))) before

  -- a long one behind is alike and longer
  abbrev pub is_passed : List ℕ → List (List ℕ) → Bool
  is_passed x behind = list_any (λ y. long y && (alike y x && longer y x)) behind

  abbrev pub wins : List (List ℕ) → List ℕ → List (List ℕ) → Bool
  wins before x behind = long x && (not (blocks before x) && not (is_passed x behind))

  -- no item that is alike is longer
  abbrev Tops : List (List ℕ) → List ℕ → Type 0
  Tops zs y = AllByRecursion (λ z. alike z y ≡ true → longer z y ≡ false) zs

  -- what exceeds x doesn't exceed the longest that is alike
  found : (x y : List ℕ) (zs : List (List ℕ)) → is_exceeded alike longer x zs ≡ true → Tops zs y → alike x y ≡ true → (w : List ℕ) × (longer w x ≡ true) × (longer w y ≡ false)
  found x y [] e tops h = absurd (cc)
  found x y (w ∷ ws) e tops h =
      elim (alike w x && longer w x) as (λ b. (alike w x && longer w x) ≡ b → (b || is_exceeded alike longer x ws) ≡ true → (v : List ℕ) × (longer v x ≡ true) × (longer v y ≡ false)) [
        | true ↦ λ k _. (let p = and_parts (alike w x) (longer w x) k in (w, p.1, tops.0 (sym (same y x h w) ∙ p.0)))
        | false ↦ λ k f. found x y ws f tops.1 h
      ] refl e

  longer_top : (x y : List ℕ) (zs : List (List ℕ)) → is_exceeded alike longer x zs ≡ true → Tops zs y → alike x y ≡ true → longer y x ≡ true
  longer_top x y zs e tops h =
      let w = found x y zs e tops h in
      elim (longer y x) as (λ b. longer y x ≡ b → b ≡ true) [
        | true ↦ λ _. refl
        | false ↦ λ k. absurd (let one : longer w.0 y ≡ true = further x y k w.0 w.1 in let two : longer w.0 y ≡ false = w.2 in (cc))
      ] refl

  under_top : (x y : List ℕ) (zs : List (List ℕ)) → is_exceeded alike longer x zs ≡ true → Tops zs y → alike x y ≡ true → longer x y ≡ false
  under_top x y zs e tops h = less y x (longer_top x y zs e tops h)

  tops_of : (x : List ℕ) (zs : List (List ℕ)) → is_exceeded alike longer x zs ≡ false → Tops zs x
  tops_of x [] e = tt
  tops_of x (z ∷ zs) e = let p = or_false (alike z x) (longer z x) (is_exceeded alike longer x zs) e in (p.0, tops_of x zs p.1)

  top_itself : (x : List ℕ) → longer x x ≡ false
  top_itself x = not_longer (longer x x) (less x x)

  apart_first : (a : Bool) (b : Bool) → not a ≡ true → b ≡ a → b ≡ true → ⊥
  apart_first true b h e k = (cc)
  apart_first false b h e k = (cc)

  all_apart : (z : List ℕ) (zs ys : List (List ℕ)) → AllByRecursion (Tops zs) ys → AllByRecursion (Tops (z ∷ zs)) (filter (λ y. not (alike y z)) ys)
  all_apart z zs [] all = tt
  all_apart z zs (y ∷ ys) all =
      let rest = all_apart z zs ys all.1 in
      elim (not (alike y z)) as (λ b. not (alike y z) ≡ b → AllByRecursion (Tops (z ∷ zs)) (cond b (y ∷ filter (λ v. not (alike v z)) ys) (filter (λ v. not (alike v z)) ys))) [
        | true ↦ λ e. ((λ h. absurd (apart_first (alike y z) (alike z y) e (turn z y) h), all.0), rest)
        | false ↦ λ _. rest
      ] refl

  all_top : (zs : List (List ℕ)) → AllByRecursion (Tops zs) (longest_by alike longer zs)
  all_top [] = tt
  all_top (z ∷ zs) =
      let rest = all_top zs in
      elim (is_exceeded alike longer z zs) as (λ b. is_exceeded alike longer z zs ≡ b → AllByRecursion (Tops (z ∷ zs)) (cond b (longest_by alike longer zs) (z ∷ filter (λ y. not (alike y z)) (longest_by alike longer zs)))) [
        | true ↦ λ e. all_map (Tops zs) (Tops (z ∷ zs)) (λ y t. (λ h. under_top z y zs e t h, t)) (longest_by alike longer zs) rest
        | false ↦ λ e. ((λ _. top_itself z, tops_of z zs e), all_apart z zs (longest_by alike longer zs) rest)
      ] refl

  one_more : (before : List (List ℕ)) (x y : List ℕ) → blocks (before ++ x ∷ []) y ≡ (blocks before y || ((long x && (alike x y && not (longer y x))) || false))
  one_more before x y = list_any-append (λ e. long e && (alike e y && not (longer y e))) before (x ∷ [])

  -- of the longest of each kind those that nothing before blocks are those that win
  winners : (before xs : List (List ℕ)) → filter (λ y. not (blocks before y)) (longest_by alike longer (filter long xs)) ≡ kept_by wins before xs
  winners before [] = refl
  winners before (x ∷ xs) =
      let zs = filter long xs in
      let others = longest_by alike longer zs in
      let now : List ℕ → Bool = λ y. not (blocks before y) in
      let then : List ℕ → Bool = λ y. not (blocks (before ++ x ∷ []) y) in
      let rest : filter then others ≡ kept_by wins (before ++ x ∷ []) xs = winners (before ++ x ∷ []) xs in
      let won = kept_by wins (before ++ x ∷ []) xs in
      let passed : is_exceeded alike longer x zs ≡ is_passed x xs = any_filtered (λ y. alike y x && longer y x) long xs in
      elim (long x) as (λ b. long x ≡ b → filter (λ y. not (blocks before y)) (longest_by alike longer (cond b (x ∷ filter long xs) (filter long xs)))
      ≡ cond (b && (not (blocks before x) && not (is_passed x xs))) (x ∷ kept_by wins (before ++ x ∷ []) xs) (kept_by wins (before ++ x ∷ []) xs)) [
        | true ↦ λ l.
            elim (is_exceeded alike longer x (filter long xs)) as (λ t. is_exceeded alike longer x (filter long xs) ≡ t
            → filter (λ y. not (blocks before y)) (cond t (longest_by alike longer (filter long xs)) (x ∷ filter (λ y. not (alike y x)) (longest_by alike longer (filter long xs))))
            ≡ cond (not (blocks before x) && not t) (x ∷ kept_by wins (before ++ x ∷ []) xs) (kept_by wins (before ++ x ∷ []) xs)) [
              | true ↦ λ e.
                  filter_same now then others (all_map (Tops zs) (λ y. now y ≡ then y) (λ y t. still (blocks before y) (long x) (alike x y) (longer y x) (longer_top x y zs e t) ∙ ap not (sym (one_more before x y))) others (all_top zs))
                  ∙ rest ∙ ap (λ t. cond t (x ∷ won) won) (sym (and_false (not (blocks before x))))
              | false ↦ λ e.
                  let below : AllByRecursion (λ y. alike y x ≡ true → longer y x ≡ false) others = all_longest alike longer (λ y. alike y x ≡ true → longer y x ≡ false) zs (tops_of x zs e) in
                  let left : filter now (filter (λ y. not (alike y x)) others) ≡ won =
                  filter_both now (λ y. not (alike y x)) others
                  ∙ filter_same (λ y. not (alike y x) && now y) then others (all_map (λ y. alike y x ≡ true → longer y x ≡ false) (λ y. (not (alike y x) && now y) ≡ then y)
                  (λ y h. blocked_now (blocks before y) (long x) (alike y x) (alike x y) (longer y x) l (turn x y) h ∙ ap not (sym (one_more before x y))) others below)
                  ∙ rest in
                  ap (λ ys. cond (now x) (x ∷ ys) ys) left ∙ ap (λ t. cond t (x ∷ won) won) (sym (and_true (now x)))
            ] refl
            ∙ ap (λ t. cond (not (blocks before x) && not t) (x ∷ won) won) passed
        | false ↦ λ l.
            filter_same now then others (all_map (Tops zs) (λ y. now y ≡ then y) (λ y t. still_short (blocks before y) (long x) (alike x y && not (longer y x)) l ∙ ap not (sym (one_more before x y))) others (all_top zs)) ∙ rest
      ] refl

  all_free : (ys : List (List ℕ)) → AllByRecursion (λ y. not (blocks [] y) ≡ true) ys
  all_free [] = tt
  all_free (y ∷ ys) = (refl, all_free ys)

  pub longest_win : (xs : List (List ℕ)) → longest_by alike longer (filter long xs) ≡ kept_by wins [] xs
  longest_win xs = sym (filter_all (λ y. not (blocks [] y)) (longest_by alike longer (filter long xs)) (all_free (longest_by alike longer (filter long xs)))) ∙ winners [] xs
