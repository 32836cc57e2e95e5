-- Bytes are records end to end in one way at most: there is one list of rows, or one first record that is refused.
use Rattle.std.proofs.Common.{◌≡◌, ℕ, suc, ◌+◌, ◌≤ℤ◌, ◌<ℤ◌, pos, List, [], ◌∷◌, ◌++◌, length, take, drop, map, Some, Result, MatchResult, refl, sym, ap, ap₂, ◌∙◌, subst, arith, inl, append_assoc, append-nil, length-append}
use Rattle.std.specs.List.{slice_get}
use Rattle.std.proofs.Props.{props}
use Rattle.std.proofs.Math.Seq.{take-append_seam}
use Rattle.std.proofs.lemmas.Int.{ints}
use Rattle.std.proofs.lemmas.List.{append_cancel_left}
use mathlib.Core.HLevel.{is_prop→PathP}
use Rattle.list_laws.specs.Only.{IsOnly}
use Rattle.list_laws.proofs.Answers.{only_from}
use Rattle.exact_time.specs.declared.moment.Moment.{Moment}
use Rattle.mseed_header.proofs.Fronts.{header_in_front, record_header, record_whole}
use Rattle.mseed_header.proofs.Headers.{one_header, one_fault, no_header}
use Rattle.mseed_header.specs.Header.{HasHeader, IsRecord, IsRecord-prop, RefusesRecord}
use Rattle.mseed_header.specs.Records.{images_of, IsPlaced, AreRecords, HasRecordCount, IsFirstBad, IsRefusedFirst, IsBatchFault}
use Rattle.mseed_header.specs.declared.cut.CutFault.{CutFault}
use Rattle.mseed_header.specs.declared.cut.CutFault.TheVariants.{Bad, OutOfMemory}
use Rattle.mseed_header.specs.declared.header.Header.{Header}
use Rattle.mseed_header.specs.declared.header.RecordFault.{RecordFault}
use Rattle.mseed_header.specs.declared.header.RecordFault.TheVariants.{Short}
use Rattle.mseed_header.specs.declared.row.Row.{Row}

-- a row is its header, its bytes and where they came from
pub same_row : (x y : Row) → x.header ≡ y.header → x.image ≡ y.image → x.entry ≡ y.entry → x.place ≡ y.place → x.moment ≡ y.moment → x ≡ y
same_row x y header image entry place moment = λ i. record {
  header = header i;
  image = image i;
  entry = entry i;
  place = place i;
  moment = moment i;
  head = is_prop→PathP (λ j. IsRecord (image j) (header j)) (λ j. IsRecord-prop (image j) (header j)) x.head y.head i;
  since_1970 = is_prop→PathP (λ j. pos 0 ≤ℤ (moment j).micros) (λ j. hlevel props) x.since_1970 y.since_1970 i;
  before_2600 = is_prop→PathP (λ j. (moment j).micros <ℤ pos 19_880_899_200_000_000) (λ j. hlevel props) x.before_2600 y.before_2600 i;
}

-- no record stands at the front of the bytes
abbrev NoRecord : List ℕ → Type 0
NoRecord bytes = (h : Header) (image rest : List ℕ) → bytes ≡ image ++ rest → IsRecord image h → ⊥

-- refused bytes have none in front, and no bytes have none
refused_none : (bytes : List ℕ) (fault : RecordFault) → RefusesRecord bytes fault → NoRecord bytes
refused_none bytes fault refused h image rest split is =
    no_header bytes h fault (subst (λ (xs : List ℕ). HasHeader xs h) (sym split) (header_in_front image rest h is)) refused

none_in_nothing : NoRecord []
none_in_nothing = refused_none [] Short (inl ((λ long. absurd (omega (arith, long))), refl))

-- records in front of the same bytes are the same, and leave the same bytes
one_in_front : (image other rest more : List ℕ) (h g : Header) → image ++ rest ≡ other ++ more → IsRecord image h → IsRecord other g → (image ≡ other) × (rest ≡ more)
one_in_front image other rest more h g split is also =
    let header : h ≡ g = one_header (other ++ more) h g (subst (λ (xs : List ℕ). HasHeader xs h) split (header_in_front image rest h is)) (header_in_front other more g also) in
    let size : length image ≡ length other = sym (record_whole image h is) ∙ ap (λ (k : Header). k.length) header ∙ record_whole other g also in
    let same : image ≡ other =
    sym (take-append_seam image rest) ∙ ap (take (length image)) split ∙ ap (λ (n : ℕ). take n (other ++ more)) size ∙ take-append_seam other more in
    (same, append_cancel_left other rest more (ap (λ (xs : List ℕ). xs ++ rest) (sym same) ∙ split))

-- the bytes of each row
abbrev each_image : List Row → List (List ℕ)
each_image rows = map (λ row. row.image) rows

-- two cuts of the same bytes, as far as they go, have the same records and leave the same bytes
one_cut : (xs ys : List Row) (p q : List ℕ) → images_of xs ++ p ≡ images_of ys ++ q → NoRecord p → NoRecord q → (each_image xs ≡ each_image ys) × (p ≡ q)
one_cut [] [] p q split none other = (refl, split)
one_cut [] (y ∷ ys) p q split none other = absurd (none y.header y.image (images_of ys ++ q) (split ∙ append_assoc y.image (images_of ys) q) y.head)
one_cut (x ∷ xs) [] p q split none other = absurd (other x.header x.image (images_of xs ++ p) (sym split ∙ append_assoc x.image (images_of xs) p) x.head)
one_cut (x ∷ xs) (y ∷ ys) p q split none other =
    let whole : x.image ++ (images_of xs ++ p) ≡ y.image ++ (images_of ys ++ q) = sym (append_assoc x.image (images_of xs) p) ∙ split ∙ append_assoc y.image (images_of ys) q in
    let front = one_in_front x.image y.image (images_of xs ++ p) (images_of ys ++ q) x.header y.header whole x.head y.head in
    let back = one_cut xs ys p q front.1 none other in
    (ap₂ (λ (image : List ℕ) (images : List (List ℕ)). image ∷ images) front.0 back.0, back.1)

-- the rows stand at their places, of which the first has this number
abbrev ArePlaced : ℕ → Moment → ℕ → List Row → Type 0
ArePlaced entry moment first rows = (i place : ℕ) (row : Row) → place ≡ i + first → slice_get rows i ≡ Some row → IsPlaced entry moment place row

-- rows with the same bytes at the same places are the same
same_rows : (entry : ℕ) (moment : Moment) (first : ℕ) (xs ys : List Row) → ArePlaced entry moment first xs → ArePlaced entry moment first ys → each_image xs ≡ each_image ys → xs ≡ ys
same_rows entry moment first [] [] h k e = refl
same_rows entry moment first [] (y ∷ ys) h k e = (cc)
same_rows entry moment first (x ∷ xs) [] h k e = (cc)
same_rows entry moment first (x ∷ xs) (y ∷ ys) h k e =
    let image : x.image ≡ y.image = (cc) in
    let images : each_image xs ≡ each_image ys = (cc) in
    let header : x.header ≡ y.header = one_header y.image x.header y.header (subst (λ (bytes : List ℕ). HasHeader bytes x.header) image (record_header x.image x.header x.head)) (record_header y.image y.header y.head) in
    let a = h 0 first x (omega arith) refl in
    let b = k 0 first y (omega arith) refl in
    let row : x ≡ y = same_row x y header image (a.entry_is ∙ sym b.entry_is) (a.place_is ∙ sym b.place_is) (a.moment_is ∙ sym b.moment_is) in
    let rows : xs ≡ ys = same_rows entry moment (first + 1) xs ys (λ i place r e' g. h (suc i) place r (omega arith) g) (λ i place r e' g. k (suc i) place r (omega arith) g) images in
    ap₂ (λ (r : Row) (rs : List Row). r ∷ rs) row rows

from_0 : (entry : ℕ) (moment : Moment) (rows : List Row) → ((i : ℕ) (row : Row) → slice_get rows i ≡ Some row → IsPlaced entry moment i row) → ArePlaced entry moment 0 rows
from_0 entry moment rows placed i place row e g = let at : i ≡ place = omega arith in subst (λ (n : ℕ). IsPlaced entry moment n row) at (placed i row g)

-- the rows with nothing behind them
all_of : (bytes : List ℕ) (rows : List Row) → bytes ≡ images_of rows → bytes ≡ images_of rows ++ []
all_of bytes rows whole = whole ∙ sym (append-nil (images_of rows))

-- the bytes are one list of rows
pub one_batch : (bytes : List ℕ) (entry : ℕ) (moment : Moment) (xs ys : List Row) → AreRecords bytes entry moment xs → AreRecords bytes entry moment ys → xs ≡ ys
one_batch bytes entry moment xs ys h k =
    let images = one_cut xs ys [] [] (sym (all_of bytes xs h.whole) ∙ all_of bytes ys k.whole) none_in_nothing none_in_nothing in
    same_rows entry moment 0 xs ys (from_0 entry moment xs h.placed) (from_0 entry moment ys k.placed) images.0

-- they have one first record that is refused
pub one_first_bad : (bytes : List ℕ) (a b : ℕ) (f g : RecordFault) → IsFirstBad bytes a f → IsFirstBad bytes b g → (a ≡ b) × (f ≡ g)
one_first_bad bytes a b f g h k =
    let split : images_of h.before ++ drop a bytes ≡ images_of k.before ++ drop b bytes = sym h.split ∙ k.split in
    let left : drop a bytes ≡ drop b bytes =
    (one_cut h.before k.before (drop a bytes) (drop b bytes) split (refused_none (drop a bytes) f h.refused) (refused_none (drop b bytes) g k.refused)).1 in
    let sizes : length (images_of h.before) + length (drop a bytes) ≡ length (images_of k.before) + length (drop b bytes) =
    sym (length-append (images_of h.before) (drop a bytes)) ∙ ap length split ∙ length-append (images_of k.before) (drop b bytes) in
    let size : length (drop a bytes) ≡ length (drop b bytes) = ap length left in
    (omega (arith, sizes, size, h.offset, k.offset), one_fault (drop b bytes) f g (subst (λ (xs : List ℕ). RefusesRecord xs f) left h.refused) k.refused)

-- and none where they are records end to end
pub no_batch : (bytes : List ℕ) (entry : ℕ) (moment : Moment) (rows : List Row) (at : ℕ) (fault : RecordFault) → AreRecords bytes entry moment rows → IsFirstBad bytes at fault → ⊥
no_batch bytes entry moment rows at fault h bad =
    let split : images_of rows ++ [] ≡ images_of bad.before ++ drop at bytes = sym (all_of bytes rows h.whole) ∙ bad.split in
    bad.some (sym (one_cut rows bad.before [] (drop at bytes) split none_in_nothing (refused_none (drop at bytes) fault bad.refused)).1)

-- so a right answer about the bytes is the only one
one_batch_fault : (bytes : List ℕ) (f g : CutFault) → IsBatchFault bytes f → IsBatchFault bytes g → f ≡ g
one_batch_fault bytes (Bad a f) (Bad b g) h k = let same = one_first_bad bytes a b f g h k in ap₂ Bad same.0 same.1
one_batch_fault bytes (Bad a f) OutOfMemory h k = absurd k
one_batch_fault bytes OutOfMemory g h k = absurd h

no_batch_fault : (bytes : List ℕ) (entry : ℕ) (moment : Moment) (rows : List Row) (f : CutFault) → AreRecords bytes entry moment rows → IsBatchFault bytes f → ⊥
no_batch_fault bytes entry moment rows (Bad at fault) h k = no_batch bytes entry moment rows at fault h k
no_batch_fault bytes entry moment rows OutOfMemory h k = k

pub only_batch : (bytes : List ℕ) (entry : ℕ) (moment : Moment) (answer : Result (List Row) CutFault) → MatchResult answer (AreRecords bytes entry moment) (IsBatchFault bytes)
    → IsOnly (AreRecords bytes entry moment) (IsBatchFault bytes) answer
only_batch bytes entry moment answer right =
    only_from (AreRecords bytes entry moment) (IsBatchFault bytes) (one_batch bytes entry moment) (one_batch_fault bytes) (no_batch_fault bytes entry moment) answer right

-- ---- the number of records

-- a moment that any rows may have
abbrev zero_moment : Moment
zero_moment = record { micros = pos 0 }

pub one_count : (bytes : List ℕ) (m n : ℕ) → HasRecordCount bytes m → HasRecordCount bytes n → m ≡ n
one_count bytes m n h k =
    let a = h 0 zero_moment (omega (arith, ints)) (omega (arith, ints)) in
    let b = k 0 zero_moment (omega (arith, ints)) (omega (arith, ints)) in
    sym a.2 ∙ ap (λ (rows : List Row). length rows) (one_batch bytes 0 zero_moment a.0 b.0 a.1 b.1) ∙ b.2

one_refused : (bytes : List ℕ) (f g : ℕ × RecordFault) → IsRefusedFirst bytes f → IsRefusedFirst bytes g → f ≡ g
one_refused bytes f g h k = let same = one_first_bad bytes f.0 g.0 f.1 g.1 h k in λ i. (same.0 i, same.1 i)

no_count : (bytes : List ℕ) (n : ℕ) (f : ℕ × RecordFault) → HasRecordCount bytes n → IsRefusedFirst bytes f → ⊥
no_count bytes n f h k =
    let a = h 0 zero_moment (omega (arith, ints)) (omega (arith, ints)) in
    no_batch bytes 0 zero_moment a.0 f.0 f.1 a.1 k

pub only_count : (bytes : List ℕ) (answer : Result ℕ (ℕ × RecordFault)) → MatchResult answer (HasRecordCount bytes) (IsRefusedFirst bytes) → IsOnly (HasRecordCount bytes) (IsRefusedFirst bytes) answer
only_count bytes answer right = only_from (HasRecordCount bytes) (IsRefusedFirst bytes) (one_count bytes) (one_refused bytes) (no_count bytes) answer right
