-- A replica stays a first part of its primary.
use Rattle.std.proofs.Common.{◌≡◌, ℕ, zero, suc, ◌+◌, ◌-◌, ◌<◌, ◌≤◌, ◌==◌, ◌&&◌, Bool, true, false, List, [], ◌∷◌, ◌++◌, length, take, drop, slice_get, refl, sym, ◌∙◌, ap, subst, arith, append_assoc}
use Rattle.std.specs.Prelude.{if◌then◌else◌, nat_le, filter}
use Rattle.std.specs.List.{AllByRecursion}
use Rattle.std.proofs.lemmas.List.{take-append-drop}
use Rattle.std.proofs.Math.Seq.{drop-append_seam, drop-nil}
use Rattle.std.proofs.lemmas.Bool.Decides.{nat_tests}
use mathlib.Core.List.{IsPrefix}
use Rattle.follow_law.specs.Following.{Sent, World, Step, grows, replies, delivers, breaks_off, crashes, numbered_from, coming, next_in, delivered, reply_of, step, after, IsStart}

both : (x y : Bool) → (x && y) ≡ true → (x ≡ true) × (y ≡ true)
both true y h = (refl, h)
both false y h = absurd cc

module _ {E : Type 0} where
  -- without some of the first ones of two lists in a row
  drop-both : (n : ℕ) (xs ys : List E) → drop n (xs ++ ys) ≡ drop n xs ++ drop (n - length xs) ys
  drop-both n [] ys = ap (λ (k : ℕ). drop k ys) (let e : n ≡ n - 0 = omega arith in e) ∙ ap (λ (l : List E). l ++ drop (n - 0) ys) (sym (drop-nil n))
  drop-both zero (x ∷ xs) ys = ap (λ (k : ℕ). (x ∷ xs) ++ drop k ys) (let e : 0 ≡ 0 - length (x ∷ xs) = omega arith in e)
  drop-both (suc n) (x ∷ xs) ys = drop-both n xs ys ∙ ap (λ (k : ℕ). drop n xs ++ drop k ys) (let e : n - length xs ≡ suc n - length (x ∷ xs) = omega arith in e)

  -- without the first ones twice
  drop-twice : (a b : ℕ) (xs : List E) → drop a (drop b xs) ≡ drop (b + a) xs
  drop-twice a b [] = ap (drop a) (drop-nil b) ∙ drop-nil a ∙ sym (drop-nil (b + a))
  drop-twice a zero (x ∷ xs) = ap (λ (k : ℕ). drop k (x ∷ xs)) (let e : a ≡ 0 + a = omega arith in e)
  drop-twice a (suc b) (x ∷ xs) = drop-twice a b xs ∙ ap (λ (k : ℕ). drop k (x ∷ xs)) (let e : suc (b + a) ≡ suc b + a = omega arith in e)

module _ {E : Type 0} (number : E → ℕ) where
  same_number : (e : E) (n : ℕ) → (number e == n) ≡ true → number e ≡ n
  same_number e n h = grind (arith, nat_tests)

  other_number : (e : E) (m n : ℕ) → number e ≡ m → m < n → (number e == n) ≡ false
  other_number e m n h lt = grind (arith, nat_tests)

  other_number-2 : (e : E) (m n : ℕ) → number e ≡ m → n < m → (number e == n) ≡ false
  other_number-2 e m n h lt = grind (arith, nat_tests)

  is_number : (e : E) (n : ℕ) → number e ≡ n → (number e == n) ≡ true
  is_number e n h = grind (arith, nat_tests)

  numbered_front : (n : ℕ) (xs ys : List E) → numbered_from number n (xs ++ ys) ≡ true → numbered_from number n xs ≡ true
  numbered_front n [] ys h = refl
  numbered_front n (x ∷ xs) ys h =
      let two = both (number x == n) (numbered_from number (n + 1) (xs ++ ys)) h in
      rw (two.0, numbered_front (n + 1) xs ys two.1) refl

  numbered_on : (n : ℕ) (xs ys : List E) → numbered_from number n xs ≡ true → numbered_from number (n + length xs) ys ≡ true → numbered_from number n (xs ++ ys) ≡ true
  numbered_on n [] ys h k = subst (λ (m : ℕ). numbered_from number m ys ≡ true) (let e : n + 0 ≡ n = omega arith in e) k
  numbered_on n (x ∷ xs) ys h k =
      let two = both (number x == n) (numbered_from number (n + 1) xs) h in
      let e : n + length (x ∷ xs) ≡ n + 1 + length xs = omega arith in
      rw (two.0, numbered_on (n + 1) xs ys two.1 (subst (λ (m : ℕ). numbered_from number m ys ≡ true) e k)) refl

  numbered_drop : (n b : ℕ) (xs : List E) → numbered_from number n xs ≡ true → numbered_from number (n + b) (drop b xs) ≡ true
  numbered_drop n b [] h = ap (numbered_from number (n + b)) (drop-nil b)
  numbered_drop n zero (x ∷ xs) h = subst (λ (m : ℕ). numbered_from number m (x ∷ xs) ≡ true) (let e : n ≡ n + 0 = omega arith in e) h
  numbered_drop n (suc b) (x ∷ xs) h =
      let two = both (number x == n) (numbered_from number (n + 1) xs) h in
      subst (λ (m : ℕ). numbered_from number m (drop b xs) ≡ true) (let e : n + 1 + b ≡ n + suc b = omega arith in e) (numbered_drop (n + 1) b xs two.1)

  -- entries that begin above the wanted one have nothing that comes next
  none_comes : (m n : ℕ) (es : List E) → numbered_from number m es ≡ true → n < m → coming number n es ≡ []
  none_comes m n [] h lt = refl
  none_comes m n (e ∷ es) h lt =
      let two = both (number e == m) (numbered_from number (m + 1) es) h in
      rw (other_number-2 e m n (same_number e m two.0) lt) (none_comes (m + 1) n es two.1 (omega (arith, lt)))

  -- entries that begin at or below it have what follows their first ones
  rest_comes : (m n : ℕ) (es : List E) → numbered_from number m es ≡ true → m ≤ n → coming number n es ≡ drop (n - m) es
  rest_comes m n [] h le = sym (drop-nil (n - m))
  rest_comes m n (e ∷ es) h le = by (λ k. rest_comes (m + 1) k es (both (number e == m) (numbered_from number (m + 1) es) h).1) (n - m) refl
    where
      two : ((number e == m) ≡ true) × (numbered_from number (m + 1) es ≡ true)
      two = both (number e == m) (numbered_from number (m + 1) es) h

      by : ((k : ℕ) → m + 1 ≤ k → coming number k es ≡ drop (k - (m + 1)) es) → (k : ℕ) → n - m ≡ k → coming number n (e ∷ es) ≡ drop (n - m) (e ∷ es)
      by again zero is =
          let same : n ≡ m = omega (arith, is, le) in
          let here : (number e == n) ≡ true = is_number e n (same_number e m two.0 ∙ sym same) in
          let on : n + 1 - (m + 1) ≡ 0 = omega (arith, is) in
          rw (here, is) (ap (λ (l : List E). e ∷ l) (again (n + 1) (omega (arith, le)) ∙ ap (λ (k : ℕ). drop k es) on))
      by again (suc k) is =
          let lt : m < n = omega (arith, is) in
          let on : n - (m + 1) ≡ k = omega (arith, is) in
          rw (other_number e m n (same_number e m two.0) lt, is) (again n (omega (arith, lt)) ∙ ap (λ (k : ℕ). drop k es) on)

  -- what comes next are all that are at least the wanted one
  all_above : (m n : ℕ) (es : List E) → numbered_from number m es ≡ true → n ≤ m → filter (λ e. nat_le n (number e)) es ≡ es
  all_above m n [] h le = refl
  all_above m n (e ∷ es) h le =
      let two = both (number e == m) (numbered_from number (m + 1) es) h in
      let at = same_number e m two.0 in
      let high : nat_le n (number e) ≡ true = grind (arith, nat_tests) in
      rw high (ap (λ (l : List E). e ∷ l) (all_above (m + 1) n es two.1 (omega (arith, le))))

  pub missing : (m n : ℕ) (es : List E) → numbered_from number m es ≡ true → m ≤ n → coming number n es ≡ filter (λ e. nat_le n (number e)) es
  missing m n [] h le = refl
  missing m n (e ∷ es) h le = by (λ lt. missing (m + 1) n es (both (number e == m) (numbered_from number (m + 1) es) h).1 lt) (n - m) refl
    where
      two : ((number e == m) ≡ true) × (numbered_from number (m + 1) es ≡ true)
      two = both (number e == m) (numbered_from number (m + 1) es) h

      by : (m + 1 ≤ n → coming number n es ≡ filter (λ e. nat_le n (number e)) es) → (k : ℕ) → n - m ≡ k → coming number n (e ∷ es) ≡ filter (λ e. nat_le n (number e)) (e ∷ es)
      by again zero is =
          let at = same_number e m two.0 in
          let same : n ≡ m = omega (arith, is, le) in
          let here : (number e == n) ≡ true = is_number e n (at ∙ sym same) in
          let high : nat_le n (number e) ≡ true = grind (arith, nat_tests) in
          let on : n + 1 - (m + 1) ≡ 0 = omega (arith, is) in
          rw (here, high) (ap (λ (l : List E). e ∷ l) (rest_comes (m + 1) (n + 1) es two.1 (omega (arith, le)) ∙ ap (λ (k : ℕ). drop k es) on ∙ sym (all_above (m + 1) n es two.1 (omega (arith, le)))))
      by again (suc k) is =
          let at = same_number e m two.0 in
          let lt : m < n = omega (arith, is) in
          let low : nat_le n (number e) ≡ false = grind (arith, nat_tests) in
          rw (other_number e m n at lt, low) (again (omega (arith, lt)))

  -- these are consecutive entries of the history, from behind so many on
  pub record IsPart (h es : List E) : Type 0 where
    pub before : ℕ
    pub rest : List E
    pub part : drop before h ≡ es ++ rest

  part_more : (h es more : List E) → IsPart h es → IsPart (h ++ more) es
  part_more h es more p = record {
    before = p.before;
    rest = p.rest ++ drop (p.before - length h) more;
    part = drop-both p.before h more ∙ ap (λ (l : List E). l ++ drop (p.before - length h) more) p.part ∙ append_assoc es p.rest (drop (p.before - length h) more);
  }

  -- what comes next of a part behind a first part goes on with that first part
  pub goes_on : (r h es : List E) → numbered_from number 1 h ≡ true → IsPrefix r h → IsPart h es → (t : List E) × (h ≡ r ++ (next_in number r es ++ t))
  goes_on r h es numbered (t, is) p = by (p.before - length r) refl
    where
      from : numbered_from number (p.before + 1) es ≡ true
      from = numbered_front (p.before + 1) es p.rest (subst (λ (l : List E). numbered_from number (p.before + 1) l ≡ true) p.part (subst (λ (m : ℕ). numbered_from number m (drop p.before h) ≡ true) (let e : 1 + p.before ≡ p.before + 1 = omega arith in e) (numbered_drop 1 p.before h numbered)))

      behind : drop (length r) h ≡ t
      behind = ap (drop (length r)) (sym is) ∙ drop-append_seam r t

      by : (k : ℕ) → p.before - length r ≡ k → (t : List E) × (h ≡ r ++ (next_in number r es ++ t))
      by zero k-is =
          let le : p.before ≤ length r = omega (arith, k-is) in
          let d = length r - p.before in
          let comes : next_in number r es ≡ drop d es = rest_comes (p.before + 1) (length r + 1) es from (omega (arith, le)) ∙ ap (λ (k : ℕ). drop k es) (let e : length r + 1 - (p.before + 1) ≡ d = omega arith in e) in
          let same : p.before + d ≡ length r = omega (arith, le) in
          let t-is : t ≡ drop d es ++ drop (d - length es) p.rest =
          sym behind ∙ ap (λ (k : ℕ). drop k h) (sym same) ∙ sym (drop-twice d p.before h) ∙ ap (drop d) p.part ∙ drop-both d es p.rest in
          (drop (d - length es) p.rest, sym is ∙ ap (λ (l : List E). r ++ l) (t-is ∙ ap (λ (l : List E). l ++ drop (d - length es) p.rest) (sym comes)))
      by (suc k) k-is =
          let comes : next_in number r es ≡ [] = none_comes (p.before + 1) (length r + 1) es from (omega (arith, k-is)) in
          (t, sym is ∙ ap (λ (l : List E). r ++ (l ++ t)) (sym comes))

  part_of_prefix : (r h es : List E) (some : ℕ) (t : List E) → h ≡ r ++ (es ++ t) → IsPrefix (r ++ take some es) h
  part_of_prefix r h es some t is =
      (drop some es ++ t, append_assoc r (take some es) (drop some es ++ t) ∙ ap (λ (l : List E). r ++ l) (sym (append_assoc (take some es) (drop some es) t) ∙ ap (λ (l : List E). l ++ t) (take-append-drop some es)) ∙ sym is)

  -- what holds at every moment
  record Holds (w : World E) : Type 0 where
    numbered : numbered_from number 1 w.primary ≡ true
    sent : AllByRecursion (λ (s : Sent E). IsPart w.primary s.entries) w.sent
    begins : IsPrefix w.replica w.primary

  all_more : (h more : List E) (sent : List (Sent E)) → AllByRecursion (λ (s : Sent E). IsPart h s.entries) sent → AllByRecursion (λ (s : Sent E). IsPart (h ++ more) s.entries) sent
  all_more h more [] all = tt
  all_more h more (s ∷ sent) all = (part_more h s.entries more all.0, all_more h more sent all.1)

  all_push : (P : Sent E → Type 0) (sent : List (Sent E)) (s : Sent E) → AllByRecursion P sent → P s → AllByRecursion P (sent ++ s ∷ [])
  all_push P [] s all p = (p, tt)
  all_push P (x ∷ sent) s all p = (all.0, all_push P sent s all.1 p)

  delivered_part : (h : List E) (sent : List (Sent E)) (which : ℕ) → AllByRecursion (λ (s : Sent E). IsPart h s.entries) sent → IsPart h (delivered number (slice_get sent which))
  delivered_part h [] which all = record { before = 0; rest = h; part = refl }
  delivered_part h (s ∷ sent) zero all = all.0
  delivered_part h (s ∷ sent) (suc which) all = delivered_part h sent which all.1

  prefix_more : (r h more : List E) → IsPrefix r h → IsPrefix r (h ++ more)
  prefix_more r h more (t, is) = (t ++ more, sym (append_assoc r t more) ∙ ap (λ (l : List E). l ++ more) is)

  keeps : (w : World E) (s : Step E) → Holds w → Holds (step number w s)
  keeps w (grows es) holds = by (numbered_from number (length w.primary + 1) es) refl
    where
      by : (t : Bool) → numbered_from number (length w.primary + 1) es ≡ t → Holds (record w { primary = if t then w.primary ++ es else w.primary })
      by true is = record {
        numbered = numbered_on 1 w.primary es holds.numbered (subst (λ (m : ℕ). numbered_from number m es ≡ true) (let e : length w.primary + 1 ≡ 1 + length w.primary = omega arith in e) is);
        sent = all_more w.primary es w.sent holds.sent;
        begins = prefix_more w.replica w.primary es holds.begins;
      }
      by false is = record { numbered = holds.numbered; sent = holds.sent; begins = holds.begins }
  keeps w (replies n count) holds = record {
    numbered = holds.numbered;
    sent = all_push (λ (s : Sent E). IsPart w.primary s.entries) w.sent (reply_of number w.primary n count) holds.sent (record { before = n - 1; rest = drop count (drop (n - 1) w.primary); part = sym (take-append-drop count (drop (n - 1) w.primary)) });
    begins = holds.begins;
  }
  keeps w (delivers which) holds =
      let es = delivered number (slice_get w.sent which) in
      let on = goes_on w.replica w.primary es holds.numbered holds.begins (delivered_part w.primary w.sent which holds.sent) in
      record { numbered = holds.numbered; sent = holds.sent; begins = (on.0, append_assoc w.replica (next_in number w.replica es) on.0 ∙ sym on.1) }
  keeps w (breaks_off which some) holds =
      let es = delivered number (slice_get w.sent which) in
      let on = goes_on w.replica w.primary es holds.numbered holds.begins (delivered_part w.primary w.sent which holds.sent) in
      record { numbered = holds.numbered; sent = holds.sent; begins = part_of_prefix w.replica w.primary (next_in number w.replica es) some on.0 on.1 }
  keeps w crashes holds = record { numbered = holds.numbered; sent = holds.sent; begins = holds.begins }

  always_holds : (w : World E) (steps : List (Step E)) → Holds w → Holds (after number w steps)
  always_holds w [] holds = holds
  always_holds w (s ∷ steps) holds = always_holds (step number w s) steps (keeps w s holds)

  pub always : (w : World E) (steps : List (Step E)) → IsStart number w → IsPrefix (after number w steps).replica (after number w steps).primary
  always w steps start = (always_holds w steps (record {
    numbered = start.numbered;
    sent = subst (AllByRecursion (λ (s : Sent E). IsPart w.primary s.entries)) (sym start.none) tt;
    begins = start.begins;
  })).begins
