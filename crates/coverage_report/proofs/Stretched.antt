-- What is swept is what the rows cover.
use Rattle.std.proofs.Common.{◌≡◌, ℕ, zero, suc, ◌+◌, ◌*◌, ◌<◌, ◌≤◌, min, ℤ, pos, ◌+ℤ◌, ◌-ℤ◌, ◌≤ℤ◌, Bool, true, false, not, ◌&&◌, ◌||◌, List, [], ◌∷◌, ◌++◌, filter, Option, Some, None, cond, refl, sym, ap, ap₂, ◌∙◌, arith, inl, inr, subst, nat_cmp}
use Rattle.std.specs.Prelude.{nat_le, nat_lt, int_le, int_lt, unsigned_abs}
use Rattle.std.specs.Cmp.{IsTotalOrder}
use Rattle.std.specs.List.{AllByRecursion, flat_map, list_any}
use Rattle.std.specs.List.Sorted.{IsStrictlySortedBy}
use Rattle.std.specs.Ordering.{ordering_then}
use Rattle.std.specs.declared.cmp.Ordering.{Ordering}
use Rattle.std.specs.declared.cmp.Ordering.TheVariants.{Less, Greater}
use Rattle.std.proofs.lemmas.Bool.{cases_lt}
use Rattle.std.proofs.lemmas.Bool.Decides.{nat_tests}
use Rattle.std.proofs.lemmas.Cmp.{nat_cmp_total, on_total, then_total}
use Rattle.std.proofs.lemmas.Int.{ints, by_lt_z}
use Rattle.std.proofs.lemmas.List.Folds.{list_any-append}
use Rattle.std.proofs.lemmas.Map.Lookups.{CmpEqualImpliesEq, exact_pairs, exact_unsigned}
use Rattle.list_laws.proofs.Keys.{all_in_order, any_in_order, sorted_in_order}
use Rattle.channel_globs.specs.declared.nslc.Nslc.{Nslc}
use Rattle.mseed_header.specs.declared.header.Header.{Header}
use Rattle.mseed_header.specs.declared.row.Row.{Row}
use Rattle.dataselect.specs.MergedSpans.{has_name}
use Rattle.coverage_report.specs.Covered.{covers, is_covered, covered}
use Rattle.coverage_report.specs.Days.{numbers_from, day_at}
use Rattle.coverage_report.specs.Ends.{end_moment}
use Rattle.coverage_report.specs.Lines.{line_if, lines_of_name}
use Rattle.coverage_report.specs.Printable.{IsSince1800}
use Rattle.coverage_report.specs.Stretches.{ahead_of, stretch_if, stretch_of, one_or_none, stretch_cmp, stretches_of, IsStretch}
use Rattle.coverage_report.specs.Sweep.{AreBehind, StartsRise, swept_on, lines_swept}
use Rattle.coverage_report.specs.declared.stretch.Stretch.{Stretch}
use Rattle.coverage_report.proofs.Counts.{is_in, is_swept, tally_is, tally_same, sweep_all}
use Rattle.coverage_report.proofs.Ends.{end_is}
use Rattle.coverage_report.proofs.Starts.{start_low}

-- the order of stretches
stretches_total : IsTotalOrder stretch_cmp
stretches_total = then_total (on_total (λ (s : Stretch). s.start) nat_cmp_total) (on_total (λ (s : Stretch). s.end) nat_cmp_total)

exact_stretches : CmpEqualImpliesEq stretch_cmp
exact_stretches a b h =
    ap (λ (p : ℕ × ℕ). record { start = p.0; end = p.1 }) (exact_pairs nat_cmp nat_cmp exact_unsigned exact_unsigned (a.start, a.end) (b.start, b.end) h)

not_above : (a b : ℕ) (o : Ordering) → ordering_then (nat_cmp a b) o ≡ Less → a ≤ b
not_above a b o h = elim (cases_lt b a) [
  | inl lt ↦ absurd (let e : nat_cmp a b ≡ Greater = grind (arith, nat_tests, lt) in let f : Greater ≡ Less = sym (ap (λ c. ordering_then c o) e) ∙ h in (cc))
  | inr le ↦ le
]

all_behind : (s : Stretch) (ss : List Stretch) → AllByRecursion (λ r. stretch_cmp s r ≡ Less) ss → AreBehind s ss
all_behind s [] h = tt
all_behind s (r ∷ ss) h = (not_above s.start r.start (nat_cmp s.end r.end) h.0, all_behind s ss h.1)

rises : (ss : List Stretch) → IsStrictlySortedBy stretch_cmp ss → StartsRise ss
unfolding IsStrictlySortedBy
rises [] h = tt
rises (s ∷ ss) h = (all_behind s ss h.0, rises ss h.1)

-- a moment, and how far it is behind the first one
reached : (first z : ℤ) (k : ℕ) → nat_le (ahead_of first z) k ≡ int_le z (first +ℤ pos k)
reached first z k =
    by_lt_z first z
    (λ h. let test : int_lt first z ≡ true = grind (arith, ints, h) in
    let gap : first +ℤ pos (unsigned_abs (z -ℤ first)) ≡ z = omega (arith, ints, h) in
    ap (λ b. nat_le (cond b (unsigned_abs (z -ℤ first)) 0) k) test
    ∙ short first (unsigned_abs (z -ℤ first)) k
    ∙ ap (λ (y : ℤ). int_le y (first +ℤ pos k)) gap)
    (λ h. let test : int_lt first z ≡ false = grind (arith, ints, h) in
    let l : nat_le 0 k ≡ true = grind (arith, nat_tests) in
    let r : int_le z (first +ℤ pos k) ≡ true = grind (arith, ints, h) in
    ap (λ b. nat_le (cond b (unsigned_abs (z -ℤ first)) 0) k) test ∙ l ∙ sym r)
  where
    short : (f : ℤ) (n j : ℕ) → nat_le n j ≡ int_le (f +ℤ pos n) (f +ℤ pos j)
    short f n j = grind (arith, ints)

not_reached : (first z : ℤ) (k : ℕ) → nat_lt k (ahead_of first z) ≡ int_lt (first +ℤ pos k) z
not_reached first z k =
    turned (ahead_of first z) k ∙ ap not (reached first z k) ∙ sym (turned_z z (first +ℤ pos k))
  where
    turned : (n j : ℕ) → nat_lt j n ≡ not (nat_le n j)
    turned n j = elim (cases_lt j n) [ inl h ↦ grind (arith, nat_tests, h) | inr h ↦ grind (arith, nat_tests, h) ]

    turned_z : (a b : ℤ) → int_lt b a ≡ not (int_le a b)
    turned_z a b = by_lt_z b a (λ h. grind (arith, ints, h)) (λ h. grind (arith, ints, h))

no_farther : (first z : ℤ) → z ≤ℤ (first +ℤ pos (ahead_of first z))
no_farther first z =
    let e = reached first z (ahead_of first z) in
    let l : nat_le (ahead_of first z) (ahead_of first z) ≡ true = grind (arith, nat_tests) in
    let test : int_le z (first +ℤ pos (ahead_of first z)) ≡ true = sym e ∙ l in
    at_most z (first +ℤ pos (ahead_of first z)) test
  where
    at_most : (a b : ℤ) → int_le a b ≡ true → a ≤ℤ b
    at_most a b h = grind (arith, ints)

-- a number is in the stretch from one to another, if there is something in it
in_one : (a b k : ℕ) → list_any (is_in k) (one_or_none (stretch_if a b)) ≡ (nat_le a k && nat_lt k b)
in_one a b k = elim (cases_lt a b) [
  | inl h ↦
      let test : nat_lt a b ≡ true = grind (arith, nat_tests, h) in
      ap (λ c. list_any (is_in k) (one_or_none (cond c (Some (record { start = a; end = b })) None))) test ∙ or_none (nat_le a k && nat_lt k b)
  | inr h ↦
      let test : nat_lt a b ≡ false = grind (arith, nat_tests, h) in
      let none : (nat_le a k && nat_lt k b) ≡ false = grind (arith, nat_tests, h) in
      ap (λ c. list_any (is_in k) (one_or_none (cond c (Some (record { start = a; end = b })) None))) test ∙ sym none
]
  where
    or_none : (c : Bool) → (c || false) ≡ c
    or_none true = refl
    or_none false = refl

capped_le : (n size k : ℕ) → k < size → nat_le (min n size) k ≡ nat_le n k
capped_le n size k h = elim (cases_lt k n) [ inl i ↦ grind (arith, nat_tests, h, i) | inr i ↦ grind (arith, nat_tests, h, i) ]

capped_lt : (n size k : ℕ) → k < size → nat_lt k (min n size) ≡ nat_lt k n
capped_lt n size k h = elim (cases_lt k n) [ inl i ↦ grind (arith, nat_tests, h, i) | inr i ↦ grind (arith, nat_tests, h, i) ]

-- what a record covers
covers_is : (first : ℤ) (size : ℕ) (h : Header) (k : ℕ) → k < size → list_any (is_in k) (one_or_none (stretch_of first size h)) ≡ covers h (first +ℤ pos k)
covers_is first size h k below =
    in_one (min (ahead_of first h.start.micros) size) (min (ahead_of first (end_moment h)) size) k
    ∙ ap₂ (λ (a b : Bool). a && b)
    (capped_le (ahead_of first h.start.micros) size k below ∙ reached first h.start.micros k)
    (capped_lt (ahead_of first (end_moment h)) size k below ∙ not_reached first (end_moment h) k ∙ end_is h (first +ℤ pos k))

module _ (rows : List Row) (first : ℤ) (size : ℕ) (name : Nslc) (k : ℕ) (below : k < size) where
  any_row : (some : List Row) → list_any (is_in k) (flat_map (λ (row : Row). one_or_none (stretch_of first size row.header)) (filter (has_name name) some)) ≡ is_covered some name (first +ℤ pos k)
  any_row [] = refl
  any_row (row ∷ some) =
      let rest = filter (has_name name) some in
      let f : Row → List Stretch = λ row. one_or_none (stretch_of first size row.header) in
      elim (has_name name row) as (λ b. list_any (is_in k) (flat_map f (cond b (row ∷ rest) rest)) ≡ ((b && covers row.header (first +ℤ pos k)) || is_covered some name (first +ℤ pos k))) [
        | true ↦ list_any-append (is_in k) (f row) (flat_map f rest) ∙ ap₂ (λ (a b : Bool). a || b) (covers_is first size row.header k below) (any_row some)
        | false ↦ any_row some
      ]

  -- of the days, what is in some stretch is what some row covers
  covered_is : is_swept (stretches_of rows first size name) k ≡ is_covered rows name (first +ℤ pos k)
  covered_is =
      any_in_order exact_stretches (is_in k) (flat_map (λ (row : Row). one_or_none (stretch_of first size row.header)) (filter (has_name name) rows)) ∙ any_row rows

module _ (rows : List Row) (first : ℤ) (days : ℕ) (name : Nslc) where
  abbrev pub own : List Stretch
  own = stretches_of rows first (days * 86_400_000_000) name

  pub own_rise : StartsRise own
  own_rise = rises own (sorted_in_order stretches_total (flat_map (λ (row : Row). one_or_none (stretch_of first (days * 86_400_000_000) row.header)) (filter (has_name name) rows)))

  -- a day is swept as its microseconds are counted
  pub swept_day : (d : ℕ) → d < days → swept_on 0 d own ≡ covered rows name (day_at first d)
  swept_day d h =
      let from = d * 86_400_000_000 in
      sym (tally_is (is_covered rows name) first from 86_400_000_000
      ∙ tally_same (λ k. is_covered rows name (first +ℤ pos k)) (is_swept own) (days * 86_400_000_000)
      (λ k below. sym (covered_is rows first (days * 86_400_000_000) name k below)) from 86_400_000_000 (omega (arith, h))
      ∙ sweep_all from 86_400_000_000 own own_rise)

  swept_days : (d n : ℕ) → d + n ≤ days
      → lines_swept name first 0 own d n ≡ flat_map (λ day. line_if name (day_at first day) (covered rows name (day_at first day))) (numbers_from d n)
  swept_days d zero h = refl
  swept_days d (suc n) h = λ i. line_if name (day_at first d) (swept_day d (omega (arith, h)) i) ++ swept_days (d + 1) n (omega (arith, h)) i

  -- the lines of the days
  pub lines_are : lines_swept name first 0 own 0 days ≡ lines_of_name rows first days name
  lines_are = swept_days 0 days (omega arith)

  one_stretch : (row : Row) (s : Option Stretch) → s ≡ stretch_of first (days * 86_400_000_000) row.header → AllByRecursion (IsStretch first days) (one_or_none s)
  one_stretch row None is = tt
  one_stretch row (Some s) is =
      let size = days * 86_400_000_000 in
      let a = min (ahead_of first row.header.start.micros) size in
      let b = min (ahead_of first (end_moment row.header)) size in
      let far = no_farther first row.header.start.micros in
      let low = start_low row in
      elim (cases_lt a b) [
        | inl h ↦
            let test : nat_lt a b ≡ true = grind (arith, nat_tests, h) in
            let same : Some s ≡ Some (record { start = a; end = b }) = is ∙ ap (λ c. cond c (Some (record { start = a; end = b })) None) test in
            let e : record { start = a; end = b } ≡ s = cc in
            let whole : a ≡ ahead_of first row.header.start.micros = omega (arith, h) in
            (subst (IsStretch first days) e (record { some = h; within = omega arith; since_1800 = since first row.header.start.micros a whole low far }), tt)
        | inr h ↦
            let test : nat_lt a b ≡ false = grind (arith, nat_tests, h) in
            let no_one : Some s ≡ None = is ∙ ap (λ c. cond c (Some (record { start = a; end = b })) None) test in
            absurd (cc)
      ]
    where
      since : (f z : ℤ) (n : ℕ) → n ≡ ahead_of f z → IsSince1800 z → z ≤ℤ (f +ℤ pos (ahead_of f z)) → IsSince1800 (f +ℤ pos n)
      since f z n e h k = subst (λ (m : ℕ). IsSince1800 (f +ℤ pos m)) (sym e) (above z (f +ℤ pos (ahead_of f z)) h k)
        where
          above : (a b : ℤ) → IsSince1800 a → a ≤ℤ b → IsSince1800 b
          above a b h k = omega (arith, ints, h, k)

  all_made : (some : List Row) → AllByRecursion (IsStretch first days) (flat_map (λ (row : Row). one_or_none (stretch_of first (days * 86_400_000_000) row.header)) some)
  all_made [] = tt
  all_made (row ∷ some) = all_both (IsStretch first days) (one_or_none (stretch_of first (days * 86_400_000_000) row.header)) _ (one_stretch row (stretch_of first (days * 86_400_000_000) row.header) refl) (all_made some)
    where
      all_both : (P : Stretch → Type 0) (xs ys : List Stretch) → AllByRecursion P xs → AllByRecursion P ys → AllByRecursion P (xs ++ ys)
      all_both P [] ys h k = k
      all_both P (x ∷ xs) ys h k = (h.0, all_both P xs ys h.1 k)

  -- all stretches are those of rows
  pub own_stretches : AllByRecursion (IsStretch first days) own
  own_stretches = all_in_order stretch_cmp (IsStretch first days) [] _ tt (all_made (filter (has_name name) rows))
