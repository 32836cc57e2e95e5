-- The made records, one after another, are the records of a batch.
use Rattle.std.proofs.Common.{◌≡◌, ◌∙◌, ◌&&◌, ℕ, zero, suc, ◌+◌, ◌-◌, ◌*◌, ◌/◌, ◌%◌, ◌<◌, ◌≤◌, Bool, true, false, List, [], ◌∷◌, ◌++◌, length, pos, ◌≤ℤ◌, ◌<ℤ◌, refl, sym, ap, subst, arith, Some, length-append, append-nil, append_assoc}
use Rattle.std.specs.Prelude.{nat_lt}
use Rattle.std.specs.List.{slice_get}
use Rattle.std.proofs.lemmas.Bool.Decides.{nat_tests}
use Rattle.exact_time.specs.declared.moment.Moment.{Moment}
use Rattle.mseed_header.specs.Octets.{AreOctets, are_octets}
use Rattle.mseed_header.specs.Records.{images_of, IsPlaced, HasRecordCount}
use Rattle.mseed_header.specs.declared.row.Row.{Row}
use Rattle.mseed_header.proofs.Octets.{octets_from}
use Rattle.centre_drill.specs.Records.{digit, seconds_after, made_record, made_body}
use Rattle.centre_drill.proofs.Heads.{seconds_bound, made_header, made_is_record}

-- ---- rows

module _ (entry : ℕ) (moment : Moment) (since : pos 0 ≤ℤ moment.micros) (before : moment.micros <ℤ pos 19_880_899_200_000_000) where
  abbrev made_row : (i : ℕ) → i < 200_000 → ℕ → Row
  made_row i below place = record {
    header = made_header i below;
    image = made_record i;
    entry = entry;
    place = place;
    moment = moment;
    head = made_is_record i below;
    since_1970 = since;
    before_2600 = before;
  }

  record Rows (from count place : ℕ) : Type 0 where
    rows : List Row
    images : images_of rows ≡ made_body from count
    as_many : length rows ≡ count
    placed : (i : ℕ) (row : Row) → slice_get rows i ≡ Some row → IsPlaced entry moment (place + i) row

  made_rows : (count from place : ℕ) → from + count ≤ 200_000 → Rows from count place
  made_rows zero from place few = record { rows = []; images = refl; as_many = refl; placed = λ i row there. absurd cc }
  made_rows (suc count) from place few =
      let below : from < 200_000 = omega (arith, few) in
      let rest = made_rows count (from + 1) (place + 1) (omega (arith, few)) in
      let first = made_row from below place in
      record {
        rows = first ∷ rest.rows;
        images = ap (λ (xs : List ℕ). made_record from ++ xs) rest.images;
        as_many = omega (arith, rest.as_many);
        placed = by first rest.rows (record { entry_is = refl; moment_is = refl; place_is = omega arith }) rest.placed;
      }
    where
      by : (first : Row) (rest : List Row) → IsPlaced entry moment place first → ((i : ℕ) (row : Row) → slice_get rest i ≡ Some row → IsPlaced entry moment (place + 1 + i) row)
          → (i : ℕ) (row : Row) → slice_get (first ∷ rest) i ≡ Some row → IsPlaced entry moment (place + i) row
      by first rest here behind zero row there =
          let same : first ≡ row = cc in
          let at : place ≡ place + 0 = omega arith in
          subst (λ (x : ℕ × Row). IsPlaced entry moment x.0 x.1) (λ k. (at k, same k)) here
      by first rest here behind (suc i) row there =
          let at : place + 1 + i ≡ place + suc i = omega arith in
          subst (λ (n : ℕ). IsPlaced entry moment n row) at (behind i row there)

-- they are so many
pub made_count : (from count : ℕ) → from + count ≤ 200_000 → HasRecordCount (made_body from count) count
made_count from count few entry moment since before =
    let made = made_rows entry moment since before count from 0 few in (
      made.rows,
      record {
        whole = sym made.images;
        placed = λ i row there. let at : 0 + i ≡ i = omega arith in subst (λ (n : ℕ). IsPlaced entry moment n row) at (made.placed i row there);
      },
      made.as_many,
    )

-- ---- bytes

digit_octet : (n : ℕ) → nat_lt (digit n) 256 ≡ true
digit_octet n = let small : digit n < 256 = omega arith in grind (arith, nat_tests)

octet : (n : ℕ) → n < 256 → nat_lt n 256 ≡ true
octet n small = grind (arith, nat_tests)

also : (a b : Bool) → a ≡ true → b ≡ true → (a && b) ≡ true
also a b h k = λ i. h i && k i

all_joined : (xs ys : List ℕ) → are_octets xs ≡ true → are_octets ys ≡ true → are_octets (xs ++ ys) ≡ true
all_joined [] ys h k = k
all_joined (x ∷ xs) ys h k =
    elim (nat_lt x 256) as (λ b. (b && are_octets xs) ≡ true → (b && are_octets (xs ++ ys)) ≡ true) [
      | true ↦ λ both. all_joined xs ys both k
      | false ↦ λ both. absurd cc
    ] h

record_octets : (i : ℕ) → i < 200_000 → are_octets (made_record i) ≡ true
record_octets i below =
    let n = i + 1 in
    let s = seconds_after i in
    let tail : List ℕ = 0 ∷ 0 ∷ 0 ∷ [] in
    also _ _ (digit_octet (n / 100_000)) (
    also _ _ (digit_octet (n / 10_000)) (
    also _ _ (digit_octet (n / 1000)) (
    also _ _ (digit_octet (n / 100)) (
    also _ _ (digit_octet (n / 10)) (
    also _ _ (digit_octet n) (
    also _ _ (digit_octet (i % 8)) (
    also _ _ (octet (1 + s / 86_400) (omega (arith, seconds_bound i below))) (
    also _ _ (octet (s / 3600 % 24) (omega arith)) (
    also _ _ (octet (s / 60 % 60) (omega arith)) (
    also _ _ (octet (s % 60) (omega arith)) refl))))))))))

body_octets : (count from : ℕ) → from + count ≤ 200_000 → are_octets (made_body from count) ≡ true
body_octets zero from few = refl
body_octets (suc count) from few =
    all_joined (made_record from) (made_body (from + 1) count) (record_octets from (omega (arith, few))) (body_octets count (from + 1) (omega (arith, few)))

pub made_octets : (from count : ℕ) → from + count ≤ 200_000 → AreOctets (made_body from count)
made_octets from count few = octets_from (made_body from count) (body_octets count from few)

-- ---- lengths

record_size : (i : ℕ) → length (made_record i) ≡ 512
record_size i = refl

pub made_size : (count from : ℕ) → length (made_body from count) ≡ 512 * count
made_size zero from = refl
made_size (suc count) from =
    let all = length-append (made_record from) (made_body (from + 1) count) in
    omega (arith, all, record_size from, made_size count (from + 1))

-- ---- one record more

body_more : (n from : ℕ) → made_body from (suc n) ≡ made_body from n ++ made_record (from + n)
body_more zero from = let at : from ≡ from + 0 = omega arith in append-nil (made_record from) ∙ ap made_record at
body_more (suc n) from =
    let at : from + 1 + n ≡ from + suc n = omega arith in
    ap (λ (xs : List ℕ). made_record from ++ xs) (body_more n (from + 1) ∙ ap (λ (k : ℕ). made_body (from + 1) n ++ made_record k) at)
    ∙ sym (append_assoc (made_record from) (made_body (from + 1) n) (made_record (from + suc n)))

pub body_next : (from i : ℕ) → from ≤ i → made_body from (i + 1 - from) ≡ made_body from (i - from) ++ made_record i
body_next from i h =
    let next : i + 1 - from ≡ suc (i - from) = omega arith in
    let at : from + (i - from) ≡ i = omega arith in
    ap (made_body from) next ∙ body_more (i - from) from ∙ ap (λ (k : ℕ). made_body from (i - from) ++ made_record k) at
