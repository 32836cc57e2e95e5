-- Which segments are kept: the test decides it, and what it keeps are the picked places.
use Rattle.std.proofs.Common.{◌≡◌, ◌↔◌, ◌*◌, ◌<◌, ◌≤◌, ℕ, Bool, true, false, not, ◌&&◌, ◌||◌, List, [], ◌∷◌, ◌++◌, filter, cond, Option, Some, None, slice_index, refl, sym, ap, ◌∙◌, arith}
use Rattle.std.specs.List.{AllByRecursion, concat, list_any, slice_get}
use Rattle.std.proofs.lemmas.Bool.{and_parts, and_from}
use Rattle.std.proofs.lemmas.Bool.Decides.{nat_tests}
use Rattle.mseed_header.specs.declared.row.Row.{Row}
use Rattle.dataselect.specs.declared.lengths.Length.{Length}
use Rattle.dataselect.specs.declared.query.DataQuery.{DataQuery}
use Rattle.dataselect.specs.Picked.{long_segments, longest_segments, picked_of}
use Rattle.dataselect.specs.PickedLaw.{IsLong, IsLonger, HaveOneName, IsKept, ArePicked, kept_by}
use Rattle.dataselect.specs.Segments.{are_same_or, have_one_name, is_long, is_longer, segments_of, segment_length, lasts, exceeds}
use Rattle.dataselect.proofs.Breaks.{are_segments, or_parts, or_none}
use Rattle.dataselect.proofs.Fractions.{longer_further}
use Rattle.dataselect.proofs.Rises.{same_names, same_name_of}
use Rattle.dataselect.proofs.Waits.{alike_segments}
use Rattle.dataselect.proofs.Winners.{blocks, is_passed, longest_win}

lasts_decides : (minimum : ℕ) (l : Length) → lasts minimum l ≡ true ↔ (minimum * l.parts ≤ l.micros)
lasts_decides minimum l = (λ h. grind (arith, nat_tests), λ h. grind (arith, nat_tests))

exceeds_decides : (a b : Length) → exceeds a b ≡ true ↔ (b.micros * a.parts < a.micros * b.parts)
exceeds_decides a b = (λ h. grind (arith, nat_tests), λ h. grind (arith, nat_tests))

found_names : (a b : Option Row) → are_same_or a b ≡ true → (one : Row) × (other : Row) × (a ≡ Some one) × (b ≡ Some other) × (one.header.name ≡ other.header.name)
found_names (Some a) (Some b) h = (a, b, refl, refl, same_names a.header.name b.header.name h)
found_names (Some a) None h = (cc)
found_names None b h = (cc)

name_decides : (rows : List Row) (s t : List ℕ) → have_one_name rows s t ≡ true ↔ HaveOneName rows s t
unfolding have_one_name
name_decides rows s t = (
  λ h. (let f = found_names (slice_get rows (slice_index s 0)) (slice_get rows (slice_index t 0)) h in record { one = f.0; other = f.1; one_stands = f.2; other_stands = f.3; name = f.4 }),
  λ n. ap (λ (o : Option Row). are_same_or o (slice_get rows (slice_index t 0))) n.one_stands ∙ ap (are_same_or (Some n.one)) n.other_stands ∙ same_name_of n.one.header.name n.other.header.name n.name,
)

same_turned : (a b : Option Row) → are_same_or a b ≡ true → are_same_or b a ≡ true
same_turned (Some a) (Some b) h = same_name_of b.header.name a.header.name (sym (same_names a.header.name b.header.name h))
same_turned (Some a) None h = (cc)
same_turned None b h = (cc)

both_ways : (a b : Bool) → (a ≡ true → b ≡ true) → (b ≡ true → a ≡ true) → a ≡ b
both_ways true b f g = sym (f refl)
both_ways false true f g = g refl
both_ways false false f g = refl

turned : (rows : List Row) (s t : List ℕ) → have_one_name rows s t ≡ have_one_name rows t s
unfolding have_one_name
turned rows s t =
    let a = slice_get rows (slice_index s 0) in
    let b = slice_get rows (slice_index t 0) in
    both_ways (are_same_or a b) (are_same_or b a) (same_turned a b) (same_turned b a)

exceeds_less : (a b : Length) → exceeds a b ≡ true → exceeds b a ≡ false
exceeds_less a b h =
    let one : b.micros * a.parts < a.micros * b.parts = (exceeds_decides a b).0 h in
    grind (arith, nat_tests)

longer_less : (rows : List Row) (s t : List ℕ) → is_longer rows s t ≡ true → is_longer rows t s ≡ false
longer_less rows s t h = exceeds_less (segment_length rows s) (segment_length rows t) h

none_any : {X : Type 0} (test : X → Bool) (P : X → Type 0) → ((x : X) → (test x ≡ false) ↔ P x) → (xs : List X) → (list_any test xs ≡ false) ↔ AllByRecursion P xs
none_any test P each [] = (λ h. tt, λ h. refl)
none_any test P each (x ∷ xs) = (
  λ h. (let p = or_parts (test x) (list_any test xs) h in ((each x).0 p.0, (none_any test P each xs).0 p.1)),
  λ h. or_none (test x) (list_any test xs) ((each x).1 h.0) ((none_any test P each xs).1 h.1),
)

-- two conditions, and a third that fails or holds
fails : (a b c : Bool) (A B C : Type 0) → (a ≡ true ↔ A) → (b ≡ true ↔ B) → (c ≡ true ↔ C) → ((a && (b && not c)) ≡ false) ↔ (A → B → C)
fails true true true A B C p q r = (λ _ _ _. r.0 refl, λ _. refl)
fails true true false A B C p q r = (λ h. (cc), λ f. sym (r.1 (f (p.0 refl) (q.0 refl))))
fails true false c A B C p q r = (λ _ _ y. absurd (let k : false ≡ true = q.1 y in (cc)), λ _. refl)
fails false b c A B C p q r = (λ _ x. absurd (let k : false ≡ true = p.1 x in (cc)), λ _. refl)

holds_not : (a b c : Bool) (A B C : Type 0) → (a ≡ true ↔ A) → (b ≡ true ↔ B) → (c ≡ true ↔ C) → ((a && (b && c)) ≡ false) ↔ (A → B → ¬ C)
holds_not true true true A B C p q r = (λ h. (cc), λ f. absurd (f (p.0 refl) (q.0 refl) (r.0 refl)))
holds_not true true false A B C p q r = (λ _ _ _ z. (let k : false ≡ true = r.1 z in (cc)), λ _. refl)
holds_not true false c A B C p q r = (λ _ _ y. absurd (let k : false ≡ true = q.1 y in (cc)), λ _. refl)
holds_not false b c A B C p q r = (λ _ x. absurd (let k : false ≡ true = p.1 x in (cc)), λ _. refl)

not_of : (b : Bool) → not b ≡ true → b ≡ false
not_of true h = (cc)
not_of false h = refl

long_kept : (long : List ℕ → Bool) (before segments : List (List ℕ)) → filter long segments ≡ kept_by (λ _ s _. long s && true) before segments
long_kept long before [] = refl
long_kept long before (s ∷ segments) =
    let rest = long_kept long (before ++ s ∷ []) segments in
    elim (long s) as (λ b. cond b (s ∷ filter long segments) (filter long segments) ≡ cond (b && true) (s ∷ kept_by (λ _ t _. long t && true) (before ++ s ∷ []) segments) (kept_by (λ _ t _. long t && true) (before ++ s ∷ []) segments)) [
      | true ↦ ap (λ (ss : List (List ℕ)). s ∷ ss) rest
      | false ↦ rest
    ]

module _ (query : DataQuery) (rows : List Row) where
  -- a long segment of the name before it is as long
  abbrev blocked : List (List ℕ) → List ℕ → Bool
  blocked = blocks (have_one_name rows) (is_longer rows) (is_long rows query.minimum) (turned rows) (alike_segments rows) (longer_further rows) (longer_less rows)

  -- a long segment of the name behind it is longer
  abbrev passed : List ℕ → List (List ℕ) → Bool
  passed = is_passed (have_one_name rows) (is_longer rows) (is_long rows query.minimum) (turned rows) (alike_segments rows) (longer_further rows) (longer_less rows)

  abbrev keeps : List (List ℕ) → List ℕ → List (List ℕ) → Bool
  keeps before s behind = is_long rows query.minimum s && (not query.longest || (not (blocked before s) && not (passed s behind)))

  blocked_decides : (s : List ℕ) (before : List (List ℕ)) → (blocked before s ≡ false) ↔ AllByRecursion (λ t. IsLong rows query.minimum t → HaveOneName rows t s → IsLonger rows s t) before
  blocked_decides s before =
      none_any (λ t. is_long rows query.minimum t && (have_one_name rows t s && not (is_longer rows s t))) (λ t. IsLong rows query.minimum t → HaveOneName rows t s → IsLonger rows s t)
      (λ t. fails (is_long rows query.minimum t) (have_one_name rows t s) (is_longer rows s t) (IsLong rows query.minimum t) (HaveOneName rows t s) (IsLonger rows s t)
      (lasts_decides query.minimum (segment_length rows t)) (name_decides rows t s) (exceeds_decides (segment_length rows s) (segment_length rows t))) before

  passed_decides : (s : List ℕ) (behind : List (List ℕ)) → (passed s behind ≡ false) ↔ AllByRecursion (λ t. IsLong rows query.minimum t → HaveOneName rows t s → ¬ IsLonger rows t s) behind
  passed_decides s behind =
      none_any (λ t. is_long rows query.minimum t && (have_one_name rows t s && is_longer rows t s)) (λ t. IsLong rows query.minimum t → HaveOneName rows t s → ¬ IsLonger rows t s)
      (λ t. holds_not (is_long rows query.minimum t) (have_one_name rows t s) (is_longer rows t s) (IsLong rows query.minimum t) (HaveOneName rows t s) (IsLonger rows t s)
      (lasts_decides query.minimum (segment_length rows t)) (name_decides rows t s) (exceeds_decides (segment_length rows t) (segment_length rows s))) behind

  keeps_decides : (before : List (List ℕ)) (s : List ℕ) (behind : List (List ℕ)) → keeps before s behind ≡ true ↔ IsKept query rows before s behind
  keeps_decides before s behind =
      let long = is_long rows query.minimum s in
      let b = not (blocked before s) in
      let p = not (passed s behind) in (
        λ h.
            let parts = and_parts long (not query.longest || (b && p)) h in
            let asked : query.longest ≡ true → (b && p) ≡ true = λ e. ap (λ q. not q || (b && p)) (sym e) ∙ parts.1 in
            record {
              long = (lasts_decides query.minimum (segment_length rows s)).0 parts.0;
              none_before = λ e. (blocked_decides s before).0 (not_of (blocked before s) (and_parts b p (asked e)).0);
              none_behind = λ e. (passed_decides s behind).0 (not_of (passed s behind) (and_parts b p (asked e)).1);
            },
        λ k.
            let rest : (not query.longest || (b && p)) ≡ true =
            elim query.longest as (λ q. query.longest ≡ q → (not q || (not (blocked before s) && not (passed s behind))) ≡ true) [
              | true ↦ λ e. and_from b p (ap not ((blocked_decides s before).1 (k.none_before e))) (ap not ((passed_decides s behind).1 (k.none_behind e)))
              | false ↦ λ _. refl
            ] refl in
            and_from long (not query.longest || (b && p)) ((lasts_decides query.minimum (segment_length rows s)).1 k.long) rest,
      )

  keeps_picked : (places : List ℕ) → picked_of query rows places ≡ concat (kept_by keeps [] (segments_of rows places))
  keeps_picked places =
      elim query.longest as (λ q. concat (cond q (longest_segments rows query.minimum places) (long_segments rows query.minimum places))
      ≡ concat (kept_by (λ before s behind. is_long rows query.minimum s && (not q || (not (blocked before s) && not (passed s behind)))) [] (segments_of rows places))) [
        | true ↦ ap concat (longest_win (have_one_name rows) (is_longer rows) (is_long rows query.minimum) (turned rows) (alike_segments rows) (longer_further rows) (longer_less rows) (segments_of rows places))
        | false ↦ ap concat (long_kept (is_long rows query.minimum) [] (segments_of rows places))
      ]

  pub are_picked : (places : List ℕ) → ArePicked query rows places (picked_of query rows places)
  are_picked places = record {
    segments = segments_of rows places;
    cut = are_segments rows places;
    keeps = keeps;
    exactly = keeps_decides;
    picked_is = keeps_picked places;
  }
