-- A search among rising marks, from the last one that begins in time and while they reach a row's end, finds what is there.
use Rattle.std.proofs.Common.{◌≡◌, ℕ, zero, suc, ◌+◌, ◌<◌, ◌≤◌, ◌≤ℤ◌, ◌*ℤ◌, pos, ℤ, Bool, true, false, cond, ◌&&◌, ◌||◌, List, [], ◌∷◌, ◌++◌, length, take, reverse, get_or, Option, Some, None, refl, sym, ap, subst, ◌∙◌, arith}
use Rattle.std.specs.Prelude.{int_le}
use Rattle.std.specs.List.{AllByRecursion, AllWithin, list_any, take_while}
use Rattle.std.specs.List.Sorted.{IsPartitionedBy, IsPartitionPoint}
use Rattle.std.specs.Ordering.{int_cmp, is_le}
use Rattle.std.proofs.lemmas.Bool.{true≢false}
use Rattle.std.proofs.lemmas.Int.{ints}
use Rattle.std.proofs.lemmas.List.{reverse-append}
use Rattle.std.proofs.lemmas.List.Elements.{All-from_recursion}
use Rattle.std.proofs.lemmas.List.Folds.{list_any-append}
use Rattle.std.proofs.lemmas.List.Sums.{take_while-cons}
use Rattle.exact_time.specs.SampleTime.{sample_micros, sample_parts}
use Rattle.mseed_header.specs.Times.{last_index}
use Rattle.mseed_header.specs.declared.header.Header.{Header}
use Rattle.dataselect.specs.Query.{holds}
use Rattle.dataselect.proofs.Floors.{times_keep}
use Rattle.epoch_catalog.specs.Withdrawals.{micros_of, ends_by, AreRising}
use Rattle.epoch_catalog.specs.declared.withdrawals.Mark.{Mark}
use Rattle.access_digest.specs.Access.{is_over_by}
use Rattle.access_digest.proofs.Decided.{over_decides}

-- a row that ends by an end ends by a later one
pub over_grows : (h : Header) (a b : Option ℤ) → ends_by a b ≡ true → holds (λ stop. is_over_by h stop) a ≡ true → holds (λ stop. is_over_by h stop) b ≡ true
over_grows h a None le over = refl
over_grows h None (Some t) le over = absurd (true≢false (sym le))
over_grows h (Some s) (Some t) le over =
    let last = sample_micros h.start.micros (last_index h) h.rate in
    let p = sample_parts h.rate in
    let more : (s *ℤ pos p) ≤ℤ (t *ℤ pos p) = times_keep s t p (not_above s t le) in
    (over_decides last (t *ℤ pos p)).1 (up_to last (s *ℤ pos p) (t *ℤ pos p) ((over_decides last (s *ℤ pos p)).0 over) more)
  where
    not_above : (a b : ℤ) → int_le a b ≡ true → a ≤ℤ b
    not_above a b h = grind (arith, ints)

    up_to : (a b c : ℤ) → a ≤ℤ b → b ≤ℤ c → a ≤ℤ c
    up_to a b c h k = grind (arith, ints)

-- where a mark passes, those behind it do
abbrev pub Stays : (Mark → Bool) → List Mark → Type 0
Stays p [] = Unit {0}
Stays p (m ∷ ms) = (p m ≡ true → AllByRecursion (λ n. p n ≡ true) ms) × Stays p ms

pub reach_stays : (h : Header) (ms : List Mark) → AreRising ms → Stays (λ m. holds (λ stop. is_over_by h stop) (micros_of m.reach)) ms
reach_stays h [] up = tt
reach_stays h (m ∷ ms) up = (λ over. each ms up.0 over, reach_stays h ms up.1)
  where
    each : (ns : List Mark) → AllByRecursion (λ n. (int_le m.start.micros n.start.micros ≡ true) × (ends_by (micros_of m.reach) (micros_of n.reach) ≡ true)) ns
        → holds (λ stop. is_over_by h stop) (micros_of m.reach) ≡ true → AllByRecursion (λ n. holds (λ stop. is_over_by h stop) (micros_of n.reach) ≡ true) ns
    each [] all over = tt
    each (n ∷ ns) all over = (over_grows h (micros_of m.reach) (micros_of n.reach) all.0.1 over, each ns all.1 over)

-- the first ones of those that all pass, with one more behind them
all_taken : (p : Mark → Bool) (ns : List Mark) (m : Mark) → AllByRecursion (λ n. p n ≡ true) ns → take_while p (ns ++ m ∷ []) ≡ ns ++ take_while p (m ∷ [])
all_taken p [] m all = refl
all_taken p (n ∷ ns) m all = take_while-cons p n (ns ++ m ∷ []) ∙ ap (λ b. cond b (n ∷ take_while p (ns ++ m ∷ [])) []) all.0 ∙ ap (λ (l : List Mark). n ∷ l) (all_taken p ns m all.1)

none_taken : (p : Mark → Bool) (ns : List Mark) (m : Mark) → p m ≡ false → take_while p (ns ++ m ∷ []) ≡ take_while p ns
none_taken p [] m fails = take_while-cons p m [] ∙ ap (λ b. cond b (m ∷ take_while p []) []) fails
none_taken p (n ∷ ns) m fails =
    take_while-cons p n (ns ++ m ∷ []) ∙ ap (λ (l : List Mark). cond (p n) (n ∷ l) []) (none_taken p ns m fails) ∙ sym (take_while-cons p n ns)

all_turned : (p : Mark → Bool) (ns : List Mark) → AllByRecursion (λ n. p n ≡ true) ns → AllByRecursion (λ n. p n ≡ true) (reverse ns)
all_turned p [] all = tt
all_turned p (n ∷ ns) all = subst (λ (l : List Mark). AllByRecursion (λ x. p x ≡ true) l) (sym (reverse-append (n ∷ []) ns)) (joined (reverse ns) (all_turned p ns all.1))
  where
    joined : (ls : List Mark) → AllByRecursion (λ x. p x ≡ true) ls → AllByRecursion (λ x. p x ≡ true) (ls ++ n ∷ [])
    joined [] h = (all.0, tt)
    joined (l ∷ ls) h = (h.0, joined ls h.1)

all_pass : (p : Mark → Bool) (ns : List Mark) → AllByRecursion (λ n. p n ≡ true) ns → take_while p ns ≡ ns
all_pass p [] all = refl
all_pass p (n ∷ ns) all = take_while-cons p n ns ∙ ap (λ b. cond b (n ∷ take_while p ns) []) all.0 ∙ ap (λ (l : List Mark). n ∷ l) (all_pass p ns all.1)

or_turned : (a b : Bool) → (a || (b || false)) ≡ (b || a)
or_turned true true = refl
or_turned true false = refl
or_turned false true = refl
or_turned false false = refl

-- of marks that stay what is found from the last one, while they pass, is what is found of those that pass
pub found_while : (p f : Mark → Bool) (ms : List Mark) → Stays p ms → list_any f (take_while p (reverse ms)) ≡ list_any (λ m. p m && f m) ms
found_while p f [] stays = refl
found_while p f (m ∷ ms) stays =
    ap (λ (l : List Mark). list_any f (take_while p l)) (reverse-append (m ∷ []) ms) ∙ by (found_while p f ms stays.1) (p m) refl
  where
    by : list_any f (take_while p (reverse ms)) ≡ list_any (λ n. p n && f n) ms → (b : Bool) → p m ≡ b
        → list_any f (take_while p (reverse ms ++ m ∷ [])) ≡ ((p m && f m) || list_any (λ n. p n && f n) ms)
    by rest true is =
        let all = all_turned p ms (stays.0 is) in
        let one : take_while p (m ∷ []) ≡ m ∷ [] = take_while-cons p m [] ∙ ap (λ b. cond b (m ∷ take_while p []) []) is in
        ap (list_any f) (all_taken p (reverse ms) m all ∙ ap (λ (l : List Mark). reverse ms ++ l) one)
        ∙ list_any-append f (reverse ms) (m ∷ [])
        ∙ or_turned (list_any f (reverse ms)) (f m)
        ∙ ap (λ b. f m || b) (ap (list_any f) (sym (all_pass p (reverse ms) all)) ∙ rest)
        ∙ ap (λ b. (b && f m) || list_any (λ n. p n && f n) ms) (sym is)
    by rest false is = ap (list_any f) (none_taken p (reverse ms) m is) ∙ rest ∙ ap (λ b. (b && f m) || list_any (λ n. p n && f n) ms) (sym is)

-- the marks that begin in time stand first
pub starts_parted : (time : ℤ) (ms : List Mark) → AreRising ms → IsPartitionedBy (λ m. int_le m.start.micros time) ms
starts_parted time [] up = λ i j d le lt h. absurd (omega (arith, lt))
starts_parted time (m ∷ ms) up = λ i j d le lt h. at (starts_parted time ms up.1) i j d le lt h
  where
    before : (a b c : ℤ) → int_le a b ≡ true → int_le b c ≡ true → int_le a c ≡ true
    before a b c h k = grind (arith, ints)

    at : IsPartitionedBy (λ m. int_le m.start.micros time) ms → (i j : ℕ) (d : Mark) → i ≤ j → j < length (m ∷ ms) → int_le (get_or (m ∷ ms) j d).start.micros time ≡ true
        → int_le (get_or (m ∷ ms) i d).start.micros time ≡ true
    at rest zero zero d le lt h = h
    at rest zero (suc j) d le lt h =
        before m.start.micros (get_or ms j d).start.micros time (All-from_recursion (λ n. (int_le m.start.micros n.start.micros ≡ true) × (ends_by (micros_of m.reach) (micros_of n.reach) ≡ true)) ms up.0 j d (omega (arith, lt))).0 h
    at rest (suc i) zero d le lt h = absurd (omega (arith, le))
    at rest (suc i) (suc j) d le lt h = rest i j d (omega (arith, le)) (omega (arith, lt)) h

pub first_rising : (n : ℕ) (ms : List Mark) → AreRising ms → AreRising (take n ms)
first_rising zero ms up = tt
first_rising (suc n) [] up = tt
first_rising (suc n) (m ∷ ms) up = (first_all n ms up.0, first_rising n ms up.1)
  where
    first_all : (k : ℕ) (ns : List Mark) → AllByRecursion (λ x. (int_le m.start.micros x.start.micros ≡ true) × (ends_by (micros_of m.reach) (micros_of x.reach) ≡ true)) ns
        → AllByRecursion (λ x. (int_le m.start.micros x.start.micros ≡ true) × (ends_by (micros_of m.reach) (micros_of x.reach) ≡ true)) (take k ns)
    first_all zero ns all = tt
    first_all (suc k) [] all = tt
    first_all (suc k) (x ∷ ns) all = (all.0, first_all k ns all.1)

-- what is found of those that pass a first test is found of the first ones, where those stand first
pub found_first : (s g : Mark → Bool) (ms : List Mark) (n : ℕ) → IsPartitionPoint (λ m. s m ≡ true) (λ m. s m ≡ false) ms n → list_any g (take n ms) ≡ list_any (λ m. s m && g m) ms
found_first s g [] zero parts = refl
found_first s g [] (suc n) parts = refl
found_first s g (m ∷ ms) zero parts =
    found_first s g ms zero ((λ k d low high. absurd (omega (arith, high))), (λ k d low high. parts.1 (suc k) d (omega arith) (omega (arith, high))))
    ∙ ap (λ b. (b && g m) || list_any (λ x. s x && g x) ms) (sym (parts.1 zero m (omega arith) (omega arith)))
found_first s g (m ∷ ms) (suc n) parts =
    ap (λ b. g m || b) (found_first s g ms n ((λ k d low high. parts.0 (suc k) d (omega arith) (omega (arith, high))), (λ k d low high. parts.1 (suc k) d (omega (arith, low)) (omega (arith, high)))))
    ∙ ap (λ b. (b && g m) || list_any (λ x. s x && g x) ms) (sym (parts.0 zero m (omega arith) (omega arith)))
