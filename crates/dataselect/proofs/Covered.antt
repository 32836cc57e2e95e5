-- Rows of a group are in one span exactly where no moment between them is left uncovered, or, without overlaps
-- merged, where each follows the one before it.
use Rattle.std.proofs.Common.{◌≡◌, ◌↔◌, ℕ, zero, suc, ◌+◌, ◌-◌, ◌*◌, ◌<◌, ◌≤◌, max, ℤ, pos, neg_ℤ, ◌+ℤ◌, ◌≤ℤ◌, ◌<ℤ◌, Bool, true, false, ◌&&◌, ◌||◌, cond, List, [], ◌∷◌, ◌++◌, map, length, take, get_or, Some, refl, sym, ap, ◌∙◌, arith, subst, inl, inr}
use Rattle.std.specs.Prelude.{int_lt}
use Rattle.std.specs.List.{AllByRecursion, list_all, slice_get}
use Rattle.std.proofs.lemmas.Bool.{cases_lt}
use Rattle.std.proofs.lemmas.Int.{ints, by_lt_z}
use Rattle.std.proofs.lemmas.List.{map-append}
use Rattle.std.proofs.lemmas.Option.{slice_get_within, slice_get-get_or}
use Rattle.list_laws.specs.Breaks.{after_last, runs_after}
use Rattle.list_laws.proofs.Passes.{after_end}
use Rattle.exact_time.specs.SampleTime.{sample_parts, half_parts}
use Rattle.mseed_header.specs.declared.header.Header.{Header}
use Rattle.mseed_header.specs.declared.row.Row.{Row}
use Rattle.dataselect.specs.Spans.{Merging, breaks, late_by, is_too_late, is_too_early, runs_in_group}
use Rattle.dataselect.specs.SpanLaw.{run_at, StartsRise, IsReached, IsCoveredAt, IsCovered, IsNext, FollowOn}
use Rattle.dataselect.proofs.Reaches.{reach_of, too_late_is}
use Rattle.dataselect.proofs.RunPlaces.{one_run, AreUnbroken}

abbrev start : Row → ℤ
start row = row.header.start.micros

-- a later row starts no earlier
all_from : (row r : Row) (rows : List Row) (q : ℕ) → AllByRecursion (λ s. start row ≤ℤ start s) rows → slice_get rows q ≡ Some r → start row ≤ℤ start r
all_from row r [] q all at = (cc)
all_from row r (s ∷ rows) zero all at = let same : s ≡ r = cc in subst (λ (x : Row). start row ≤ℤ start x) same all.0
all_from row r (s ∷ rows) (suc q) all at = all_from row r rows q all.1 at

in_turn : (rows : List Row) (p q : ℕ) (a b : Row) → StartsRise rows → p ≤ q → slice_get rows p ≡ Some a → slice_get rows q ≡ Some b → start a ≤ℤ start b
in_turn [] p q a b up le at bt = (cc)
in_turn (r ∷ rows) zero zero a b up le at bt = let same : a ≡ b = cc in subst (λ (x : Row). start a ≤ℤ start x) same (own (start a))
  where
    own : (s : ℤ) → s ≤ℤ s
    own s = omega (arith, ints)
in_turn (r ∷ rows) zero (suc q) a b up le at bt = let same : r ≡ a = cc in subst (λ (x : Row). start x ≤ℤ start b) same (all_from r b rows q up.0 bt)
in_turn (r ∷ rows) (suc p) zero a b up le at bt = absurd (omega arith)
in_turn (r ∷ rows) (suc p) (suc q) a b up le at bt = in_turn rows p q a b up.1 (omega arith) at bt

module _ (t : Header → Bool) where
  -- a row among the first ones that fails a test
  failed : (rows : List Row) (p k : ℕ) (r : Row) → slice_get rows p ≡ Some r → p < k → t r.header ≡ false → list_all t (map (λ e. e.header) (take k rows)) ≡ false
  failed [] p k r at lt test = (cc)
  failed (s ∷ rows) p zero r at lt test = absurd (omega arith)
  failed (s ∷ rows) zero (suc k) r at lt test =
      let same : s ≡ r = cc in
      ap (λ (b : Bool). b && list_all t (map (λ e. e.header) (take k rows))) (ap (λ (x : Row). t x.header) same ∙ test)
  failed (s ∷ rows) (suc p) (suc k) r at lt test =
      let rest = failed rows p k r at (omega arith) test in
      elim (t s.header) as (λ b. (b && list_all t (map (λ e. e.header) (take k rows))) ≡ false) [ true ↦ rest | false ↦ refl ]

  Failed : List Row → ℕ → Type 0
  Failed rows k = (p : ℕ) × (r : Row) × (slice_get rows p ≡ Some r) × (p < k) × (t r.header ≡ false)

  behind : (s : Row) (rows : List Row) (k : ℕ) → Failed rows k → Failed (s ∷ rows) (suc k)
  unfolding Failed
  behind s rows k f = (suc f.0, f.1, f.2, omega (arith, f.3), f.4)

  here : (s : Row) (rows : List Row) (k : ℕ) → t s.header ≡ false → Failed (s ∷ rows) (suc k)
  unfolding Failed
  here s rows k e = (0, s, refl, omega arith, e)

  found : (rows : List Row) (k : ℕ) → list_all t (map (λ e. e.header) (take k rows)) ≡ false → Failed rows k
  found [] zero h = absurd (cc)
  found [] (suc k) h = absurd (cc)
  found (s ∷ rows) zero h = absurd (cc)
  found (s ∷ rows) (suc k) h =
      elim (t s.header) as (λ b. t s.header ≡ b → (b && list_all t (map (λ e. e.header) (take k rows))) ≡ false → Failed (s ∷ rows) (suc k)) [
        | true ↦ λ _ f. behind s rows k (found rows k f)
        | false ↦ λ e _. here s rows k e
      ] refl h

module _ (gap : ℕ) where
  abbrev reach : Row → ℤ
  reach row = reach_of gap row.header

  up_to : (most : ℕ) (late far q : ℤ) → int_lt (pos most) late ≡ int_lt far q → (late ≤ℤ pos most) ↔ (q ≤ℤ far)
  up_to most late far q e = (λ h. grind (arith, ints), λ h. grind (arith, ints))

  reached_is : (h : Header) (q : ℤ) → IsReached gap h q ↔ (q ≤ℤ reach_of gap h)
  reached_is h q = up_to (max (gap * sample_parts h.rate) (half_parts h.rate)) (late_by h q) (reach_of gap h) q (too_late_is gap h q)

  past_start : (s : ℤ) (n : ℕ) → s ≤ℤ (s +ℤ pos n)
  past_start s n = omega (arith, ints)

  forward : (row : Row) → start row ≤ℤ reach row
  forward row = past_start (start row) _

  not_late : (row : Row) (q : ℤ) → q ≤ℤ reach row → is_too_late gap row.header q ≡ false
  not_late row q h = too_late_is gap row.header q ∙ (let e : int_lt (reach row) q ≡ false = grind (arith, ints) in e)

  in_reach : (row : Row) (q : ℤ) → is_too_late gap row.header q ≡ false → q ≤ℤ reach row
  in_reach row q h = let e : int_lt (reach row) q ≡ false = sym (too_late_is gap row.header q) ∙ h in grind (arith, ints)

  abbrev late_after_all : List Row → Row → Bool
  late_after_all earlier row = list_all (λ e. is_too_late gap e (start row)) (map (λ r. r.header) earlier)

  module _ (rows : List Row) (up : StartsRise rows) where
    covered : (n i j : ℕ) (a b : Row) → i + n ≡ j → slice_get rows i ≡ Some a → slice_get rows j ≡ Some b → AreUnbroken late_after_all [] rows i j
        → (q : ℤ) → start a <ℤ q → q ≤ℤ start b → IsCoveredAt gap rows q
    unfolding Failed
    covered zero i j a b e at bt joined q above below =
        let same : i ≡ j = omega (arith, e) in
        let le = in_turn rows j i b a up (omega (arith, same)) bt at in
        absurd (omega (arith, ints, above, below, le))
    covered (suc n) i j a b e at bt joined q above below =
        let within : i + 1 < length rows = omega (arith, e, slice_get_within rows j b bt) in
        let z = get_or rows (i + 1) a in
        let zt : slice_get rows (i + 1) ≡ Some z = slice_get-get_or rows (i + 1) a within in
        by_lt_z (start z) q
        (λ lt. covered n (i + 1) j z b (omega (arith, e)) zt bt (λ k y more less at. joined k y (omega arith) less at) q lt below)
        (λ ge.
        let f = found (λ h. is_too_late gap h (start z)) rows (i + 1) (joined (i + 1) z (omega arith) (omega (arith, e)) zt) in
        let le = in_turn rows f.0 i f.1 a up (omega (arith, f.3)) f.2 at in
        record {
          place = f.0;
          row = f.1;
          stands = f.2;
          before = omega (arith, ints, above, le);
          reached = (reached_is f.1.header q).1 (let far = in_reach f.1 (start z) f.4 in omega (arith, ints, far, ge));
        })

    unbroken : (i j : ℕ) (a b : Row) → slice_get rows i ≡ Some a → slice_get rows j ≡ Some b → IsCovered gap rows (start a) (start b) → AreUnbroken late_after_all [] rows i j
    unbroken i j a b at bt cover k z more less zt =
        by_lt_z (start a) (start z)
        (λ lt.
        let c = cover (start z) lt (in_turn rows k j z b up less zt bt) in
        let first : c.place < k = elim (cases_lt c.place k) [
          | inl h ↦ h
          | inr h ↦ absurd (let le = in_turn rows k c.place z c.row up h zt c.stands in let before = c.before in omega (arith, ints, before, le))
        ] in
        failed (λ h. is_too_late gap h (start z)) rows c.place k c.row c.stands first (not_late c.row (start z) ((reached_is c.row.header (start z)).0 c.reached)))
        (λ ge. failed (λ h. is_too_late gap h (start z)) rows i k a at more (not_late a (start z) (let far = forward a in omega (arith, ints, ge, far))))

  pub together : (m : Merging) → m.overlap ≡ true → m.gap ≡ gap → (rows : List Row) → StartsRise rows → (i j : ℕ) (a b : Row) → i ≤ j → slice_get rows i ≡ Some a → slice_get rows j ≡ Some b
      → (run_at (runs_in_group m (λ row. row.header) rows) i ≡ run_at (runs_in_group m (λ row. row.header) rows) j) ↔ IsCovered gap rows (start a) (start b)
  together m over same rows up i j a b le at bt =
      let way : (earlier : List Row) (row : Row) → breaks m (map (λ r. r.header) earlier) row.header ≡ late_after_all earlier row =
      λ earlier row. (λ k. cond (over k) (list_all (λ e. is_too_late (same k) e (start row)) (map (λ r. r.header) earlier)) (after_last (λ e r. is_too_late m.gap e r.start.micros || is_too_early e r.start.micros) (map (λ r. r.header) earlier) row.header)) in
      let both = one_run late_after_all [] rows i j le (slice_get_within rows j b bt) in
      subst (λ (f : List Row → Row → Bool). (run_at (runs_after f [] rows) i ≡ run_at (runs_after f [] rows) j) ↔ IsCovered gap rows (start a) (start b)) (λ k earlier row. sym (way earlier row) k)
      (λ h. covered rows up (j - i) i j a b (omega (arith, le)) at bt (both.0 h), λ h. both.1 (unbroken rows up i j a b at bt h))

take_more : (rows : List Row) (p : ℕ) (row : Row) → slice_get rows p ≡ Some row → take (suc p) rows ≡ take p rows ++ row ∷ []
take_more [] p row at = (cc)
take_more (r ∷ rows) zero row at = let same : r ≡ row = cc in ap (λ (x : Row). x ∷ []) same
take_more (r ∷ rows) (suc p) row at = ap (λ (rs : List Row). r ∷ rs) (take_more rows p row at)

module _ (gap : ℕ) where
  abbrev apart : Header → Header → Bool
  apart before h = is_too_late gap before h.start.micros || is_too_early before h.start.micros

  abbrev apart_from_last : List Row → Row → Bool
  apart_from_last earlier row = after_last apart (map (λ r. r.header) earlier) row.header

  neither : (a b : Bool) → (a || b) ≡ false → (a ≡ false) × (b ≡ false)
  neither true b h = absurd (let e : true ≡ false = h in cc)
  neither false b h = (refl, h)

  within_most : (late : ℤ) (most : ℕ) → (int_lt (pos most) late ≡ false) ↔ (late ≤ℤ pos most)
  within_most late most = (λ h. grind (arith, ints), λ h. grind (arith, ints))

  from_least : (late : ℤ) (half : ℕ) → (int_lt late (neg_ℤ (pos half)) ≡ false) ↔ (neg_ℤ (pos half) ≤ℤ late)
  from_least late half = (λ h. grind (arith, ints), λ h. grind (arith, ints))

  next_is : (before h : Header) → (apart before h ≡ false) ↔ IsNext gap before h
  next_is before h =
      let late = within_most (late_by before h.start.micros) (max (gap * sample_parts before.rate) (half_parts before.rate)) in
      let early = from_least (late_by before h.start.micros) (half_parts before.rate) in (
        λ e. let both = neither (is_too_late gap before h.start.micros) (is_too_early before h.start.micros) e in record { late = late.0 both.0; early = early.0 both.1 },
        λ n. (λ i. late.1 n.late i || early.1 n.early i),
      )

  last_decides : (rows : List Row) (p : ℕ) (before row : Row) → slice_get rows p ≡ Some before → apart_from_last (take (suc p) rows) row ≡ apart before.header row.header
  last_decides rows p before row at =
      ap (λ rs. apart_from_last rs row) (take_more rows p before at)
      ∙ ap (λ hs. after_last apart hs row.header) (map-append (λ (r : Row). r.header) (take p rows) (before ∷ []))
      ∙ after_end apart (map (λ r. r.header) (take p rows)) before.header row.header

  follow : (rows : List Row) (i j : ℕ) → AreUnbroken apart_from_last [] rows i j → FollowOn gap rows i j
  follow rows i j joined k before row more less at next =
      let one : k + 1 ≡ suc k = omega arith in
      (next_is before.header row.header).0
      (sym (last_decides rows k before row at) ∙ ap (λ n. apart_from_last (take n rows) row) (sym one) ∙ joined (k + 1) row (omega arith) (omega arith) next)

  followed : (rows : List Row) (i j : ℕ) → j < length rows → FollowOn gap rows i j → AreUnbroken apart_from_last [] rows i j
  followed rows i j within all zero row more less at = absurd (omega arith)
  followed rows i j within all (suc p) row more less at =
      let one : p + 1 ≡ suc p = omega arith in
      let before = get_or rows p row in
      let there : slice_get rows p ≡ Some before = slice_get-get_or rows p row (omega arith) in
      last_decides rows p before row there ∙ (next_is before.header row.header).1 (all p before row (omega arith) (omega arith) there (ap (slice_get rows) one ∙ at))

  pub in_a_row : (m : Merging) → m.overlap ≡ false → m.gap ≡ gap → (rows : List Row) (i j : ℕ) → i ≤ j → j < length rows
      → (run_at (runs_in_group m (λ row. row.header) rows) i ≡ run_at (runs_in_group m (λ row. row.header) rows) j) ↔ FollowOn gap rows i j
  in_a_row m over same rows i j le within =
      let way : (earlier : List Row) (row : Row) → breaks m (map (λ r. r.header) earlier) row.header ≡ apart_from_last earlier row =
      λ earlier row. (λ k. cond (over k) (list_all (λ e. is_too_late m.gap e (start row)) (map (λ r. r.header) earlier)) (after_last (λ e r. is_too_late (same k) e r.start.micros || is_too_early e r.start.micros) (map (λ r. r.header) earlier) row.header)) in
      let both = one_run apart_from_last [] rows i j le within in
      subst (λ (f : List Row → Row → Bool). (run_at (runs_after f [] rows) i ≡ run_at (runs_after f [] rows) j) ↔ FollowOn gap rows i j) (λ k earlier row. sym (way earlier row) k)
      (λ h. follow rows i j (both.0 h), λ h. both.1 (followed rows i j within h))
