-- The words of `select` and the input have an answer.
use Rattle.std.proofs.Common.{◌≡◌, ◌≢◌, ◌⊎◌, inl, inr, ℕ, ◌≤◌, ℤ, pos, negsuc, List, [], ◌∷◌, length, Option, None, Some, Result, Ok, Err, refl, ap, arith}
use Rattle.std.specs.Prelude.{◌≤ℤ◌, ◌<ℤ◌, MatchResult}
use Rattle.std.specs.List.{AllByRecursion}
use Rattle.std.proofs.lemmas.Bool.{cases_lt}
use Rattle.std.proofs.lemmas.Int.{ints}
use Rattle.list_laws.specs.Faults.{IsFirstWithout}
use Rattle.list_laws.specs.Only.{IsOnly}
use Rattle.exact_time.specs.Decimals.{IsDecimal, RefusesDecimal}
use Rattle.exact_time.specs.MomentText.{IsMoment}
use Rattle.exact_time.specs.declared.moment.Moment.{Moment}
use Rattle.exact_time.specs.declared.moment.TimeFault.{TimeFault}
use Rattle.exact_time.proofs.DecimalTexts.{number_or_fault}
use Rattle.channel_globs.specs.PatternText.{IsPatternList}
use Rattle.channel_globs.specs.declared.nslc.Part.{Part}
use Rattle.channel_globs.specs.declared.nslc.Part.TheVariants.{Network, Station, Location, Channel}
use Rattle.mseed_header.specs.declared.header.RecordFault.{RecordFault}
use Rattle.mseed_header.specs.declared.row.Row.{Row}
use Rattle.mseed_header.specs.Octets.{AreOctets}
use Rattle.mseed_header.specs.Records.{AreRecords, HasRecordCount, IsRefusedFirst}
use Rattle.mseed_header.proofs.OneBatch.{batch_or_fault}
use Rattle.dataselect.specs.declared.query.DataQuery.{DataQuery}
use Rattle.dataselect.specs.declared.query.Selection.{Selection}
use Rattle.dataselect.specs.declared.query.Nodata.TheVariants.{Quiet}
use Rattle.query_parameters.specs.Values.{quality_of, flag_of}
use Rattle.query_parameters.proofs.ValuesFound.{Found, moment_found, list_found}
use Rattle.centre_select.specs.declared.ending.Word.{Word}
use Rattle.centre_select.specs.declared.ending.Word.TheVariants as word
use Rattle.centre_select.specs.declared.ending.SelectRefusal.{SelectRefusal}
use Rattle.centre_select.specs.declared.ending.SelectRefusal.TheVariants.{Value, Order, Record, NoData, TooLarge, InputTooLong}
use Rattle.epochs.specs.Kinds.{Text}
use Rattle.centre_select.specs.Answers.{IsSelectAnswer, places_for, body_for, epoch}
use Rattle.command_words.specs.Commands.{SelectWords}
use Rattle.centre_select.specs.Limits.{most_input}
use Rattle.centre_select.specs.Words.{IsList, IsTime, IsLength, IsSelectQuery, CanReadWord, CanReadWords, tested_words}

-- what there is, or there is none
abbrev OrNot : Type 0 → Type 0
OrNot P = P ⊎ (¬ P)

pair_found : {V : Type 0} (P : V → Type 0) → Found P → OrNot ((v : V) × P v)
pair_found P (inl found) = inl found
pair_found P (inr none) = inr (λ h. none h.0 h.1)

option_found : {V : Type 0} (o : Option V) → OrNot ((v : V) × (o ≡ Some v))
option_found None = inr (λ h. let e = h.1 in cc)
option_found (Some v) = inl (v, refl)

list_or_not : (part : Part) (text : Text) → OrNot (IsList part text)
list_or_not part text = pair_found (λ (list : List Text). IsPatternList part text list) (list_found part text)

time_or_not : (text : Text) → OrNot (IsTime text)
time_or_not text = pair_found (λ (micros : ℤ). IsMoment text micros) (moment_found text)

-- a number from 0 to 10^16 - 1 is a least length
length_by : (text : Text) (answer : Result ℤ TimeFault) → IsOnly (IsDecimal text) (RefusesDecimal text) answer → OrNot (IsLength text)
length_by text (Ok (pos n)) h =
    elim (cases_lt 10_000_000_000_000_000 n) [
      | inr small ↦ inl (n, record { decimal = h.right; small = small })
      | inl great ↦ inr (λ k.
          let e : Ok (pos k.0) ≡ Ok (pos n) = h.only (Ok (pos k.0)) k.1.decimal in
          let same : pos k.0 ≡ pos n = cc in
          omega (arith, ints, same, k.1.small, great))
    ]
length_by text (Ok (negsuc n)) h =
    inr (λ k.
    let e : Ok (pos k.0) ≡ Ok (negsuc n) = h.only (Ok (pos k.0)) k.1.decimal in
    let same : pos k.0 ≡ negsuc n = cc in
    omega (arith, ints, same))
length_by text (Err fault) h = inr (λ k. let e : Ok (pos k.0) ≡ Err fault = h.only (Ok (pos k.0)) k.1.decimal in cc)

length_or_not : (text : Text) → OrNot (IsLength text)
length_or_not text = let a = number_or_fault text in length_by text a.0 a.1

-- each word can be read, or it can't
can_or_cannot : (w : SelectWords) (which : Word) → OrNot (CanReadWord w which)
can_or_cannot w word.Network = list_or_not Network w.network
can_or_cannot w word.Station = list_or_not Station w.station
can_or_cannot w word.Location = list_or_not Location w.location
can_or_cannot w word.Channel = list_or_not Channel w.channel
can_or_cannot w word.Start = time_or_not w.start
can_or_cannot w word.End = time_or_not w.end
can_or_cannot w word.Quality = option_found (quality_of w.quality)
can_or_cannot w word.Minimum = length_or_not w.minimum
can_or_cannot w word.Longest = option_found (flag_of w.longest)

-- all elements have a property, or there is a first without
all_or_first : {A : Type 0} (P : A → Type 0) → ((x : A) → OrNot (P x)) → (xs : List A) → AllByRecursion P xs ⊎ ((x : A) × IsFirstWithout P xs x)
all_or_first P decided [] = inl tt
all_or_first P decided (x ∷ xs) =
    elim (decided x) [
      | inr lacks ↦ inr (x, record { before = []; after = xs; split = refl; all = tt; lacks = lacks })
      | inl has ↦ elim (all_or_first P decided xs) [
        | inl all ↦ inl (has, all)
        | inr late ↦ inr (
          late.0,
          record { before = x ∷ late.1.before; after = late.1.after; split = ap (λ ys. x ∷ ys) late.1.split; all = (has, late.1.all); lacks = late.1.lacks },
        )
      ]
    ]

-- a time is later than another, or it isn't
later_or_not : (a b : ℤ) → (b <ℤ a) ⊎ (a ≤ℤ b)
later_or_not (pos m) (pos n) = elim (cases_lt n m) [ inl lt ↦ inl (omega (arith, ints, lt)) | inr ge ↦ inr (omega (arith, ints, ge)) ]
later_or_not (pos m) (negsuc n) = inl (omega (arith, ints))
later_or_not (negsuc m) (pos n) = inr (omega (arith, ints))
later_or_not (negsuc m) (negsuc n) = elim (cases_lt m n) [ inl lt ↦ inl (omega (arith, ints, lt)) | inr ge ↦ inr (omega (arith, ints, ge)) ]

pub empty_or_not : (xs : List ℕ) → (xs ≡ []) ⊎ (xs ≢ [])
empty_or_not [] = inl refl
empty_or_not (x ∷ xs) = inr (λ e. cc)

abbrev pub SomeSelectAnswer : SelectWords → List ℕ → Type 0
SomeSelectAnswer w input = (answer : Result (List ℕ) SelectRefusal) × IsSelectAnswer w input answer

-- the rows of an input decide
by_rows : (w : SelectWords) (query : DataQuery) (input : List ℕ) (rows : List Row) → IsSelectQuery w query → length input ≤ most_input → AreRecords input 0 epoch rows → SomeSelectAnswer w input
by_rows w query input rows asked within records =
    elim (empty_or_not (places_for query rows)) [
      | inl none ↦ (Err NoData, inr (query, asked, record { within = within; rows = rows; records = records; none = none }))
      | inr some ↦ elim (cases_lt w.limit (length (body_for query rows))) [
        | inl above ↦ (
          Err (TooLarge (length (body_for query rows)) w.limit),
          inr (query, asked, record { within = within; rows = rows; records = records; some = some; bytes_is = refl; limit_is = refl; above = above }),
        )
        | inr fits ↦ (Ok (body_for query rows), (query, asked, record { within = within; rows = rows; records = records; some = some; body_is = refl; fits = fits }))
      ]
    ]

-- an input is records end to end, or one is refused first
abbrev pub IsCutUp : List ℕ → Type 0
IsCutUp input = ((count : ℕ) × HasRecordCount input count) ⊎ ((found : ℕ × RecordFault) × IsRefusedFirst input found)

pub cut_up : (input : List ℕ) → AreOctets input → IsCutUp input
cut_up input octets = let batch = batch_or_fault input octets in by batch.0 (batch.1.right)
  where
    by : (answer : Result ℕ (ℕ × RecordFault)) → MatchResult answer (HasRecordCount input) (IsRefusedFirst input) → IsCutUp input
    by (Ok count) records = inl (count, records)
    by (Err found) bad = inr (found, bad)

by_input : (w : SelectWords) (query : DataQuery) (input : List ℕ) → IsSelectQuery w query → IsCutUp input → SomeSelectAnswer w input
by_input w query input asked cut =
    elim (cases_lt most_input (length input)) [
      | inl long ↦ (Err InputTooLong, inr (query, asked, long))
      | inr within ↦ elim cut [
        | inl records ↦ let rows = records.1 0 epoch (omega (arith, ints)) (omega (arith, ints)) in by_rows w query input rows.0 asked within rows.1
        | inr bad ↦ (Err (Record bad.0.0 bad.0.1), inr (query, asked, record { within = within; first = bad.1 }))
      ]
    ]

-- words that can be read spell a query, or their times are turned
by_words : (w : SelectWords) (input : List ℕ) → CanReadWords w tested_words → IsCutUp input → SomeSelectAnswer w input
by_words w input all cut =
    let network = all.0 in
    let station = all.1.0 in
    let location = all.1.1.0 in
    let channel = all.1.1.1.0 in
    let start = all.1.1.1.1.0 in
    let end = all.1.1.1.1.1.0 in
    let quality = all.1.1.1.1.1.1.0 in
    let minimum = all.1.1.1.1.1.1.1.0 in
    let longest = all.1.1.1.1.1.1.1.1.0 in
    let from : Moment = record { micros = start.0 } in
    let to : Moment = record { micros = end.0 } in
    let selection : Selection = record { network = network.0; station = station.0; location = location.0; channel = channel.0; start = Some from; end = Some to } in
    let query : DataQuery = record { selections = selection ∷ []; quality = quality.0; minimum = minimum.0; longest = longest.0; nodata = Quiet } in
    elim (later_or_not start.0 end.0) [
      | inl turned ↦ (Err Order, inl (record { all = all; from = start.0; to = end.0; from_is = start.1; to_is = end.1; order = turned }))
      | inr in_order ↦
          let asked : IsSelectQuery w query = record {
            selection = selection;
            named = record { network_is = network.1; station_is = station.1; location_is = location.1; channel_is = channel.1 };
            window = record { from = from; to = to; start_is = refl; end_is = refl; from_is = start.1; to_is = end.1; order = in_order };
            only = refl;
            options = record { quality_is = quality.1; minimum_is = minimum.1; longest_is = longest.1 };
            nodata = refl;
          } in
          by_input w query input asked cut
    ]

pub some_select : (w : SelectWords) (input : List ℕ) → IsCutUp input → SomeSelectAnswer w input
some_select w input cut =
    elim (all_or_first (CanReadWord w) (can_or_cannot w) tested_words) [
      | inl all ↦ by_words w input all cut
      | inr first ↦ (Err (Value first.0), inl first.1)
    ]
