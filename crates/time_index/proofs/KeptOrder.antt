-- Two kept spans are one in either order: a mark's time in one rate tells it apart.
use Rattle.std.proofs.Common.{◌≡◌, ℕ, ◌+◌, ◌-◌, ◌*◌, ◌^◌, ◌<◌, ◌==◌, min, ℤ, pos, ◌+ℤ◌, ◌*ℤ◌, ◌≤ℤ◌, true, false, refl, sym, ap, ◌∙◌, arith, cond, Ordering, nat_cmp}
use Rattle.std.specs.Int.{int_min, int_max}
use Rattle.std.specs.Cmp.{IsTotalOrder}
use Rattle.std.specs.Ordering.{int_cmp, ordering_then, match_ordering, is_lt}
use Rattle.std.specs.declared.cmp.Ordering.TheVariants.{Less, Equal, Greater}
use Rattle.std.proofs.lemmas.Cmp.{nat_cmp_total, int_cmp_total, on_total, then_total}
use Rattle.std.proofs.lemmas.Int.{ints, clamps}
use Rattle.std.proofs.lemmas.Map.Lookups.{CmpEqualImpliesEq, exact_unsigned, exact_signed}
use Rattle.std.proofs.lemmas.Bool.Decides.{nat_tests}
use Rattle.list_laws.specs.Greater.{greater}
use Rattle.list_laws.proofs.Greatest.{greater_comm, greater_assoc}
use Rattle.exact_time.specs.SampleTime.{sample_micros, sample_parts}
use Rattle.exact_time.proofs.Wholes.{some_parts}
use Rattle.exact_time.specs.declared.moment.Moment.{Moment}
use Rattle.exact_time.specs.declared.ratio.Ratio.{Ratio}
use Rattle.dataselect.specs.MergedSpans.{micros_at, at_cmp}
use Rattle.dataselect.proofs.Floors.{times_cancel}
use Rattle.time_index.specs.declared.kept.Kept.{Kept}
use Rattle.time_index.specs.declared.kept.Mark.{Mark}
use Rattle.time_index.specs.Kept.{mark_at, mark_cmp, joined, both}

then_first : (o p : Ordering) → ordering_then o p ≡ Equal → o ≡ Equal
then_first Less p h = h
then_first Equal p h = refl
then_first Greater p h = h

then_second : (o p : Ordering) → ordering_then o p ≡ Equal → p ≡ Equal
then_second Less p h = absurd (cc)
then_second Equal p h = h
then_second Greater p h = absurd (cc)

marks_total : (rate : Ratio) → IsTotalOrder (mark_cmp rate)
marks_total rate = then_total (on_total (λ (m : Mark). micros_at (mark_at rate m) *ℤ pos (sample_parts rate)) int_cmp_total) (on_total (λ (m : Mark). m.k) nat_cmp_total)

no_more : (a b : ℤ) → a ≡ b → a ≤ℤ b
no_more a b h = omega (arith, ints, h)

one : (a b : ℤ) → a ≤ℤ b → b ≤ℤ a → a ≡ b
one a b h k = omega (arith, ints)

cancelled : (x y : ℤ) (p : ℕ) → 0 < p → x *ℤ pos p ≡ y *ℤ pos p → x ≡ y
cancelled x y p some h = one x y (times_cancel x y p some (no_more (x *ℤ pos p) (y *ℤ pos p) h)) (times_cancel y x p some (no_more (y *ℤ pos p) (x *ℤ pos p) (sym h)))

without : (a b : ℤ) (n : ℕ) → a +ℤ pos n ≡ b +ℤ pos n → a ≡ b
without a b n h = omega (arith, ints, h)

one_start : (s t : ℤ) (k : ℕ) (rate : Ratio) → sample_micros s k rate ≡ sample_micros t k rate → s ≡ t
one_start s t k rate h =
    elim (rate.num == 0) as (λ b. rate.num == 0 ≡ b → cond b s (s *ℤ pos rate.num +ℤ pos (k * rate.den * 1_000_000)) ≡ cond b t (t *ℤ pos rate.num +ℤ pos (k * rate.den * 1_000_000)) → s ≡ t) [
      | true ↦ λ _ e. e
      | false ↦ λ n e.
          let some : 0 < rate.num = grind (arith, nat_tests) in
          cancelled s t rate.num some (without (s *ℤ pos rate.num) (t *ℤ pos rate.num) (k * rate.den * 1_000_000) e)
    ] refl h

exact_marks : (rate : Ratio) → CmpEqualImpliesEq (mark_cmp rate)
exact_marks rate a b h =
    let p = sample_parts rate in
    let x = micros_at (mark_at rate a) in
    let y = micros_at (mark_at rate b) in
    let k : a.k ≡ b.k = exact_unsigned a.k b.k (then_second (int_cmp (x *ℤ pos p) (y *ℤ pos p)) (nat_cmp a.k b.k) h) in
    let times : x ≡ y = cancelled x y p (some_parts rate) (exact_signed (x *ℤ pos p) (y *ℤ pos p) (then_first (int_cmp (x *ℤ pos p) (y *ℤ pos p)) (nat_cmp a.k b.k) h)) in
    let start : a.start.micros ≡ b.start.micros = one_start a.start.micros b.start.micros b.k rate (ap (λ n. sample_micros a.start.micros n rate) (sym k) ∙ times) in
    λ i. record { start = record { micros = start i }; k = k i }

max_comm : (a b : ℤ) → int_max a b ≡ int_max b a
max_comm a b = omega (arith, ints, clamps)

max_assoc : (a b c : ℤ) → int_max (int_max a b) c ≡ int_max a (int_max b c)
max_assoc a b c = omega (arith, ints, clamps)

min_comm : (a b : ℤ) → int_min a b ≡ int_min b a
min_comm a b = omega (arith, ints, clamps)

min_assoc : (a b c : ℤ) → int_min (int_min a b) c ≡ int_min a (int_min b c)
min_assoc a b c = omega (arith, ints, clamps)

sum_comm : (a b m : ℕ) → min (a + b) m ≡ min (b + a) m
sum_comm a b m = omega arith

sum_assoc : (a b c m : ℕ) → min (min (a + b) m + c) m ≡ min (a + min (b + c) m) m
sum_assoc a b c m = omega arith

module _ (rate : Ratio) where
  join_comm : (a b : Kept) → joined rate a b ≡ joined rate b a
  join_comm a b = λ i. record {
    reach = record { micros = max_comm a.reach.micros b.reach.micros i };
    next = greater_comm (mark_cmp rate) (marks_total rate) (exact_marks rate) a.next b.next i;
    last = greater_comm (mark_cmp rate) (marks_total rate) (exact_marks rate) a.last b.last i;
    updated = record { micros = max_comm a.updated.micros b.updated.micros i };
    rows = sum_comm a.rows b.rows (2 ^ 64 - 1) i;
  }

  join_assoc : (a b c : Kept) → joined rate (joined rate a b) c ≡ joined rate a (joined rate b c)
  join_assoc a b c = λ i. record {
    reach = record { micros = max_assoc a.reach.micros b.reach.micros c.reach.micros i };
    next = greater_assoc (mark_cmp rate) (marks_total rate) (exact_marks rate) a.next b.next c.next i;
    last = greater_assoc (mark_cmp rate) (marks_total rate) (exact_marks rate) a.last b.last c.last i;
    updated = record { micros = max_assoc a.updated.micros b.updated.micros c.updated.micros i };
    rows = sum_assoc a.rows b.rows c.rows (2 ^ 64 - 1) i;
  }

  pub both_comm : (a b : Moment × Kept) → both rate a b ≡ both rate b a
  both_comm a b = λ i. (record { micros = min_comm a.0.micros b.0.micros i }, join_comm a.1 b.1 i)

  pub both_assoc : (a b c : Moment × Kept) → both rate (both rate a b) c ≡ both rate a (both rate b c)
  both_assoc a b c = λ i. (record { micros = min_assoc a.0.micros b.0.micros c.0.micros i }, join_assoc a.1 b.1 c.1 i)

-- the greater of two marks of a rate is that of their times
pub greater_at : (rate : Ratio) (a b : Mark) → greater at_cmp (mark_at rate a) (mark_at rate b) ≡ mark_at rate (greater (mark_cmp rate) a b)
greater_at rate a b =
    elim (at_cmp (mark_at rate a) (mark_at rate b)) as (λ o. match_ordering o (mark_at rate b) (mark_at rate a) (mark_at rate a) ≡ mark_at rate (match_ordering o b a a)) [
      | Less ↦ refl
      | Equal ↦ refl
      | Greater ↦ refl
    ]

pub then_parts : (o p : Ordering) → ordering_then o p ≡ Equal → (o ≡ Equal) × (p ≡ Equal)
then_parts o p h = (then_first o p h, then_second o p h)

-- a mark's time doesn't depend on its periods where there is no rate
pub micros_same : (s : ℤ) (k : ℕ) (rate : Ratio) → sample_micros s (cond (rate.num == 0) 0 k) rate ≡ sample_micros s k rate
micros_same s k rate =
    elim (rate.num == 0) as (λ b. cond b s (s *ℤ pos rate.num +ℤ pos (cond b 0 k * rate.den * 1_000_000)) ≡ cond b s (s *ℤ pos rate.num +ℤ pos (k * rate.den * 1_000_000))) [
      | true ↦ refl
      | false ↦ refl
    ]

pub is_less : {X : Type 0} (o : Ordering) (a b : X) → is_lt o ≡ true → b ≡ match_ordering o b a a
is_less Less a b h = refl
is_less Equal a b h = absurd (cc)
is_less Greater a b h = absurd (cc)

pub no_less : {X : Type 0} (o : Ordering) (a b : X) → is_lt o ≡ false → a ≡ match_ordering o b a a
no_less Less a b h = absurd (cc)
no_less Equal a b h = refl
no_less Greater a b h = refl
