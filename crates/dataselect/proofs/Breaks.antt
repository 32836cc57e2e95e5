-- The places are cut exactly where a row doesn't follow the one before it.
use Rattle.std.proofs.Common.{◌≡◌, ◌≢◌, ◌==◌, ◌≤◌, ℕ, Bool, true, false, not, ◌||◌, List, [], ◌∷◌, ◌++◌, cond, Option, Some, None, refl, sym, ap, ◌∙◌, arith, eq-eqb}
use Rattle.std.specs.Prelude.{nat_lt}
use Rattle.std.specs.List.{AllByRecursion, slice_get}
use Rattle.std.proofs.lemmas.Bool.{and_parts, and_from}
use Rattle.std.proofs.lemmas.Bool.Decides.{nat_tests}
use Rattle.exact_time.specs.SampleTime.{half_parts}
use Rattle.mseed_header.specs.Quality.{quality_letter}
use Rattle.mseed_header.specs.declared.header.Header.{Header}
use Rattle.mseed_header.specs.declared.row.Row.{Row}
use Rattle.dataselect.specs.PickedLaw.{Continues, IsUnbroken, AreApart, AreAllApart, AreSegments}
use Rattle.dataselect.specs.Runs.{put_before}
use Rattle.dataselect.specs.Segments.{is_same_name, is_same_rate, apart_parts, is_break, breaks_or, breaks_at, segments_of}
use Rattle.mseed_header.proofs.Qualities.{letters_apart}
use Rattle.dataselect.proofs.Rises.{same_names, same_name_of}
use Rattle.dataselect.proofs.Wholes.{runs_whole}

pub or_parts : (a b : Bool) → (a || b) ≡ false → (a ≡ false) × (b ≡ false)
or_parts true b h = (cc)
or_parts false b h = (refl, h)

pub or_none : (a b : Bool) → a ≡ false → b ≡ false → (a || b) ≡ false
or_none true b h k = h
or_none false b h k = k

not_so : (b : Bool) → not b ≡ false → b ≡ true
not_so true h = refl
not_so false h = (cc)

-- the parts of the test for a break
pub record IsNext (before h : Header) : Type 0 where
  pub name : before.name ≡ h.name
  pub quality : before.quality ≡ h.quality
  pub num : before.rate.num ≡ h.rate.num
  pub den : before.rate.den ≡ h.rate.den
  pub some : h.rate.num ≢ 0
  pub near : apart_parts before h.start.micros ≤ half_parts before.rate

equal_numbers : (a b : ℕ) → (a == b) ≡ true → a ≡ b
equal_numbers a b h = grind (arith, nat_tests)

not_none : (a : ℕ) → (a == 0) ≡ false → a ≢ 0
not_none a h e = let k : (a == 0) ≡ true = eq-eqb a 0 e in (cc)

some_number : (a : ℕ) → a ≢ 0 → (a == 0) ≡ false
some_number a h =
    elim (a == 0) as (λ b. (a == 0) ≡ b → b ≡ false) [
      | true ↦ λ e. absurd (h (equal_numbers a 0 e))
      | false ↦ λ _. refl
    ] refl

at_most : (a b : ℕ) → nat_lt a b ≡ false → b ≤ a
at_most a b h = grind (arith, nat_tests)

not_above : (a b : ℕ) → b ≤ a → nat_lt a b ≡ false
not_above a b h = grind (arith, nat_tests)

next_of : (before h : Header) → is_break before h ≡ false → IsNext before h
unfolding is_break
next_of before h e =
    let p = or_parts (not (is_same_name before.name h.name)) _ e in
    let q = or_parts (not (quality_letter before.quality == quality_letter h.quality)) _ p.1 in
    let r = or_parts (not (is_same_rate before.rate h.rate)) _ q.1 in
    let s = or_parts (h.rate.num == 0) (nat_lt (half_parts before.rate) (apart_parts before h.start.micros)) r.1 in
    let rates = and_parts (before.rate.num == h.rate.num) (before.rate.den == h.rate.den) (not_so (is_same_rate before.rate h.rate) r.0) in
    record {
      name = same_names before.name h.name (not_so (is_same_name before.name h.name) p.0);
      quality = letters_apart before.quality h.quality (equal_numbers (quality_letter before.quality) (quality_letter h.quality) (not_so (quality_letter before.quality == quality_letter h.quality) q.0));
      num = equal_numbers before.rate.num h.rate.num rates.0;
      den = equal_numbers before.rate.den h.rate.den rates.1;
      some = not_none h.rate.num s.0;
      near = at_most (half_parts before.rate) (apart_parts before h.start.micros) s.1;
    }

next_from : (before h : Header) → IsNext before h → is_break before h ≡ false
unfolding is_break
next_from before h n =
    let name : not (is_same_name before.name h.name) ≡ false = ap not (same_name_of before.name h.name n.name) in
    let quality : not (quality_letter before.quality == quality_letter h.quality) ≡ false = ap not (eq-eqb (quality_letter before.quality) (quality_letter h.quality) (ap quality_letter n.quality)) in
    let rate : not (is_same_rate before.rate h.rate) ≡ false = ap not (and_from (before.rate.num == h.rate.num) (before.rate.den == h.rate.den) (eq-eqb before.rate.num h.rate.num n.num) (eq-eqb before.rate.den h.rate.den n.den)) in
    or_none (not (is_same_name before.name h.name)) _ name
    (or_none (not (quality_letter before.quality == quality_letter h.quality)) _ quality
    (or_none (not (is_same_rate before.rate h.rate)) _ rate
    (or_none (h.rate.num == 0) (nat_lt (half_parts before.rate) (apart_parts before h.start.micros)) (some_number h.rate.num n.some) (not_above (half_parts before.rate) (apart_parts before h.start.micros) n.near))))

found_rows : (a b : Option Row) → breaks_or a b ≡ false → (before : Row) × (row : Row) × (a ≡ Some before) × (b ≡ Some row) × (is_break before.header row.header ≡ false)
found_rows (Some a) (Some b) h = (a, b, refl, refl, h)
found_rows (Some a) None h = (cc)
found_rows None b h = (cc)

follows_of : (rows : List Row) (i j : ℕ) → breaks_at rows i j ≡ false → Continues rows i j
follows_of rows i j h =
    let f = found_rows (slice_get rows i) (slice_get rows j) h in
    let n = next_of f.0.header f.1.header f.4 in
    record { before = f.0; row = f.1; before_stands = f.2; row_stands = f.3; name = n.name; quality = n.quality; num = n.num; den = n.den; some = n.some; near = n.near }

follows_from : (rows : List Row) (i j : ℕ) → Continues rows i j → breaks_at rows i j ≡ false
follows_from rows i j f =
    ap (λ (o : Option Row). breaks_or o (slice_get rows j)) f.before_stands ∙ ap (breaks_or (Some f.before)) f.row_stands
    ∙ next_from f.before.header f.row.header (record { name = f.name; quality = f.quality; num = f.num; den = f.den; some = f.some; near = f.near })

only_one : (x i : ℕ) (before : List ℕ) → x ∷ [] ≡ before ++ i ∷ [] → x ≡ i
only_one x i [] e = cc
only_one x i (b ∷ []) e = cc
only_one x i (b ∷ c ∷ before) e = cc

module _ (rows : List Row) where
  apart_here : (x y : ℕ) (run : List ℕ) → breaks_at rows x y ≡ true → AreApart rows (x ∷ []) (y ∷ run)
  apart_here x y run h before after i j e f follows =
      let one : x ≡ i = only_one x i before e in
      let two : y ≡ j = cc in
      let broken : breaks_at rows i j ≡ true = ap (λ (k : ℕ). breaks_at rows k j) (sym one) ∙ ap (breaks_at rows x) (sym two) ∙ h in
      let whole : breaks_at rows i j ≡ false = follows_from rows i j follows in
      (cc)

  apart_longer : (x y : ℕ) (run t : List ℕ) → AreApart rows (y ∷ run) t → AreApart rows (x ∷ y ∷ run) t
  apart_longer x y run t apart [] after i j e f follows = (cc)
  apart_longer x y run t apart (b ∷ before) after i j e f follows = let shorter : y ∷ run ≡ before ++ i ∷ [] = cc in apart before after i j shorter f follows

  all_apart_longer : (x y : ℕ) (run : List ℕ) (runs : List (List ℕ)) → AreAllApart rows ((y ∷ run) ∷ runs) → AreAllApart rows ((x ∷ y ∷ run) ∷ runs)
  all_apart_longer x y run [] apart = tt
  all_apart_longer x y run (t ∷ runs) apart = (apart_longer x y run t apart.0, apart.1)

  put_some : (x : ℕ) (runs : List (List ℕ)) → AllByRecursion (λ s. s ≢ []) runs → AllByRecursion (λ s. s ≢ []) (put_before (breaks_at rows) x runs)
  put_some x [] all = (λ e. (cc), tt)
  put_some x ([] ∷ runs) all = (λ e. (cc), all.1)
  put_some x ((y ∷ run) ∷ runs) all =
      elim (breaks_at rows x y) as (λ b. AllByRecursion (λ s. s ≢ []) (cond b ((x ∷ []) ∷ (y ∷ run) ∷ runs) ((x ∷ y ∷ run) ∷ runs))) [
        | true ↦ (λ e. (cc), all)
        | false ↦ (λ e. (cc), all.1)
      ]

  put_unbroken : (x : ℕ) (runs : List (List ℕ)) → AllByRecursion (IsUnbroken rows) runs → AllByRecursion (IsUnbroken rows) (put_before (breaks_at rows) x runs)
  put_unbroken x [] all = (tt, tt)
  put_unbroken x ([] ∷ runs) all = (tt, all.1)
  put_unbroken x ((y ∷ run) ∷ runs) all =
      elim (breaks_at rows x y) as (λ b. breaks_at rows x y ≡ b → AllByRecursion (IsUnbroken rows) (cond b ((x ∷ []) ∷ (y ∷ run) ∷ runs) ((x ∷ y ∷ run) ∷ runs))) [
        | true ↦ λ e. (tt, all)
        | false ↦ λ e. ((follows_of rows x y e, all.0), all.1)
      ] refl

  put_apart : (x : ℕ) (runs : List (List ℕ)) → AllByRecursion (λ s. s ≢ []) runs → AreAllApart rows runs → AreAllApart rows (put_before (breaks_at rows) x runs)
  put_apart x [] some all = tt
  put_apart x ([] ∷ runs) some all = absurd (some.0 refl)
  put_apart x ((y ∷ run) ∷ runs) some all =
      elim (breaks_at rows x y) as (λ b. breaks_at rows x y ≡ b → AreAllApart rows (cond b ((x ∷ []) ∷ (y ∷ run) ∷ runs) ((x ∷ y ∷ run) ∷ runs))) [
        | true ↦ λ e. (apart_here x y run e, all)
        | false ↦ λ e. all_apart_longer x y run runs all
      ] refl

  all_some : (places : List ℕ) → AllByRecursion (λ s. s ≢ []) (segments_of rows places)
  all_some [] = tt
  all_some (x ∷ places) = put_some x (segments_of rows places) (all_some places)

  all_unbroken : (places : List ℕ) → AllByRecursion (IsUnbroken rows) (segments_of rows places)
  all_unbroken [] = tt
  all_unbroken (x ∷ places) = put_unbroken x (segments_of rows places) (all_unbroken places)

  all_apart : (places : List ℕ) → AreAllApart rows (segments_of rows places)
  all_apart [] = tt
  all_apart (x ∷ places) = put_apart x (segments_of rows places) (all_some places) (all_apart places)

  pub are_segments : (places : List ℕ) → AreSegments rows places (segments_of rows places)
  are_segments places = record { whole = runs_whole (breaks_at rows) places; some = all_some places; unbroken = all_unbroken places; apart = all_apart places }
