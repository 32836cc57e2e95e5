-- The records of an input that were passed, and those of them that a query asks for.
use Rattle.std.proofs.Common.{◌≡◌, ◌≢◌, ℕ, ◌+◌, ◌-◌, ◌≤◌, Bool, true, false, List, [], ◌∷◌, ◌++◌, length, take, drop, filter, cond, None, refl, sym, ap, ◌∙◌, arith, subst, append-nil, append_assoc, length-append, length-drop}
use Rattle.std.specs.declared.option.Option.{Option}
use Rattle.std.specs.Io.KnownBytes.{Consumes, IsAtEnd}
use Rattle.std.proofs.lemmas.Int.{ints}
use Rattle.std.proofs.KnownBytes.{Consumes-nil}
use Rattle.std.proofs.lemmas.List.{drop-drop}
use Rattle.std.proofs.lemmas.List.Elements.{filter-append}
use Rattle.mseed_header.specs.declared.header.Header.{Header}
use Rattle.mseed_header.specs.declared.header.RecordFault.{RecordFault}
use Rattle.mseed_header.specs.declared.row.Row.{Row}
use Rattle.mseed_header.specs.Header.{HasHeader, RefusesRecord}
use Rattle.mseed_header.specs.Records.{IsPlaced, IsFirstBad, images_of}
use Rattle.mseed_header.proofs.Batches.{first_bad}
use Rattle.mseed_header.proofs.Fronts.{size_bounds}
use Rattle.mseed_header.proofs.Walked.{AreWalked, none_placed, record_row, walked_more}
use Rattle.dataselect.specs.declared.query.DataQuery.{DataQuery}
use Rattle.dataselect.specs.Chosen.{asked_rows}
use Rattle.dataselect.specs.Query.{is_asked}
use Rattle.dataselect.specs.Rows.{held_rows, with_row}
use Rattle.dataselect.proofs.Held.{held_more, length_with}
use Rattle.centre_select.specs.Limits.{most_input}
use Rattle.centre_select.specs.declared.ending.SelectRefusal.TheVariants.{Value, Order, Record, NoData, TooLarge, InputTooLong}
use Rattle.centre_select.specs.declared.ending.SelectStop.{SelectStop}
use Rattle.centre_select.specs.declared.ending.SelectStop.TheVariants.{Refused, ReadFault, WriteFault, OutOfMemory}
use Rattle.centre_select.specs.Answers.{epoch}
use Rattle.centre_select.specs.Intake.{AreAsked, IsShelved, Passes, IsCutTo, IsRestRefused, HasTaken, IntakeStops, with_asked}
use Rattle.centre_select.proofs.Inputs.{had_all}
use Rattle.streams.proofs.Grows.{Consumes-then}
use Rattle.streams.specs.View.{StreamView}

pub shelf_begins : (query : DataQuery) (held : List Row) → held ≡ [] → IsShelved query [] [] 0 held
shelf_begins query held none = record {
  rows = [];
  split = refl;
  placed = none_placed 0 epoch;
  place_is = refl;
  held_are = none;
  few = omega (arith, ap length none);
  fits = omega arith;
}

asked_more : (query : DataQuery) (rows : List Row) (row : Row) → held_rows (asked_rows query (rows ++ row ∷ [])) ≡ with_asked query (held_rows (asked_rows query rows)) row
asked_more query rows row =
    let p : Row → Bool = λ r. is_asked query r.header in
    ap held_rows (filter-append p rows (row ∷ []))
    ∙ elim (is_asked query row.header) as (λ b. held_rows (filter p rows ++ cond b (row ∷ []) []) ≡ cond b (with_row (held_rows (filter p rows)) row) (held_rows (filter p rows))) [
      | true ↦ held_more (filter p rows) row
      | false ↦ ap held_rows (append-nil (filter p rows))
    ]

length_asked : (query : DataQuery) (rows : List Row) (row : Row) → length (with_asked query rows row) ≤ length rows + 1
length_asked query rows row =
    let more = length_with rows row in
    elim (is_asked query row.header) as (λ b. length (cond b (with_row rows row) rows) ≤ length rows + 1) [
      | true ↦ more
      | false ↦ omega arith
    ]

-- what a record more does to the held rows
abbrev pub Shelves : DataQuery → Header → List ℕ → ℕ → List Row → List Row → Type 0
Shelves query h image place held new = (row : Row) → row.header ≡ h → row.image ≡ image → IsPlaced 0 epoch place row → new ≡ with_asked query held row

-- at most one row more is held
pub few_more : (query : DataQuery) (rest image : List ℕ) (place : ℕ) (held new : List Row) (h : Header) → HasHeader rest h → image ≡ take h.length rest → Shelves query h image place held new → length new ≤ length held + 1
few_more query rest image place held new h is front put =
    let row = record_row rest h is 0 epoch (omega (arith, ints)) (omega (arith, ints)) place in
    omega (arith, ap length (put row.0 row.1 (row.2 ∙ sym front) row.3), length_asked query held row.0)

-- one record more
one_more : (query : DataQuery) (input rest image : List ℕ) (place : ℕ) (held new : List Row) (h : Header) → HasHeader rest h → image ≡ take h.length rest → Shelves query h image place held new
    → IsShelved query input rest place held → IsShelved query input (drop h.length rest) (place + 1) new
one_more query input rest image place held new h is front put far =
    let made = record_row rest h is 0 epoch (omega (arith, ints)) (omega (arith, ints)) place in
    let row = made.0 in
    let placed : IsPlaced 0 epoch (length far.rows) row = subst (λ (n : ℕ). IsPlaced 0 epoch n row) far.place_is made.3 in
    let now : new ≡ with_asked query held row = put row made.1 (made.2 ∙ sym front) made.3 in
    let sizes = size_bounds rest h is in
    let far_walked : AreWalked input rest 0 epoch far.rows = record { split = far.split; placed = far.placed } in
    let walked = walked_more input rest h 0 epoch far.rows row made.2 placed far_walked in
    record {
      rows = far.rows ++ row ∷ [];
      split = walked.split;
      placed = walked.placed;
      place_is = omega (arith, length-append far.rows (row ∷ []), far.place_is);
      held_are = now ∙ ap (λ (rows : List Row). with_asked query rows row) far.held_are ∙ sym (asked_more query far.rows row);
      few = omega (arith, far.few, ap length now, length_asked query held row);
      fits = omega (arith, far.fits, length-drop h.length rest, sizes, is.whole);
    }

pub passes_more : (query : DataQuery) (bytes rest image after : List ℕ) (first place : ℕ) (held far new : List Row) (h : Header) → HasHeader rest h → image ≡ take h.length rest → after ≡ drop h.length rest → Shelves query h image place far new
    → Passes query bytes first held rest place far → Passes query bytes first held after (place + 1) new
passes_more query bytes rest image after first place held far new h is front back put passes =
    λ input before. subst (λ (xs : List ℕ). IsShelved query input xs (place + 1) new) (sym back) (one_more query input rest image place far new h is front put (passes input before))

-- what is left stays the end of the bytes
pub end_stays : (bytes rest after : List ℕ) (n : ℕ) → rest ≡ drop (length bytes - length rest) bytes → length rest ≤ length bytes → n ≤ length rest → after ≡ drop n rest
    → after ≡ drop (length bytes - length after) bytes
end_stays bytes rest after n back within fits is =
    let left : length after ≡ length rest - n = ap length is ∙ length-drop n rest in
    let at : (length bytes - length rest) + n ≡ length bytes - length after = omega (arith, left, within, fits) in
    is ∙ ap (drop n) back ∙ drop-drop n (length bytes - length rest) bytes ∙ ap (λ (k : ℕ). drop k bytes) at

-- a piece more was taken
pub longer : (query : DataQuery) (input rest piece : List ℕ) (place : ℕ) (held : List Row) → IsShelved query input rest place held → IsShelved query (input ++ piece) (rest ++ piece) place held
longer query input rest piece place held far = record {
  rows = far.rows;
  split = ap (λ (xs : List ℕ). xs ++ piece) far.split ∙ append_assoc (images_of far.rows) rest piece;
  placed = far.placed;
  place_is = far.place_is;
  held_are = far.held_are;
  few = far.few;
  fits = omega (arith, far.fits, length-append input piece, length-append rest piece);
}

-- at the end
pub shelf_ends : (query : DataQuery) (input rest : List ℕ) (place : ℕ) (held : List Row) → rest ≡ [] → IsShelved query input rest place held → AreAsked query input held
shelf_ends query input rest place held none far = record {
  rows = far.rows;
  records = record { whole = far.split ∙ ap (λ (xs : List ℕ). images_of far.rows ++ xs) none ∙ append-nil (images_of far.rows); placed = far.placed };
  held_are = far.held_are;
}

-- where what is left is refused
pub bad_behind : (query : DataQuery) (input rest : List ℕ) (place : ℕ) (held : List Row) (fault : RecordFault) → rest ≢ [] → RefusesRecord rest fault → IsShelved query input rest place held → IsFirstBad input (length input - length rest) fault
bad_behind query input rest place held fault some refused far = first_bad input rest far.rows fault far.split some refused

-- what was taken of the source so far
pub record IsTaken (query : DataQuery) (left after : Option (List ℕ)) (total : ℕ) (rest : List ℕ) (place : ℕ) (fault : Option RecordFault) (held : List Row) : Type 0 where
  pub input : List ℕ
  pub taken : Consumes left after input
  pub total_is : total ≡ length input
  pub within : total ≤ most_input
  pub shelved : IsShelved query input rest place held
  pub cut : IsCutTo rest fault

pub taken_begins : (query : DataQuery) (left : Option (List ℕ)) (held : List Row) → held ≡ [] → IsTaken query left left 0 [] 0 None held
taken_begins query left held none = record {
  input = [];
  taken = Consumes-nil left;
  total_is = refl;
  within = omega arith;
  shelved = shelf_begins query held none;
  cut = refl;
}

-- a piece more
pub taken_more : (query : DataQuery) (left middle after : Option (List ℕ)) (total count : ℕ) (rest piece new : List ℕ) (place next : ℕ) (fault why : Option RecordFault) (held more : List Row)
    → Consumes middle after piece → count ≡ length piece → total + count ≤ most_input → Passes query (rest ++ piece) place held new next more → IsCutTo new why
    → IsTaken query left middle total rest place fault held → IsTaken query left after (total + count) new next why more
taken_more query left middle after total count rest piece new place next fault why held more bytes size fits passes cut far = record {
  input = far.input ++ piece;
  taken = Consumes-then left middle after far.input piece far.taken bytes;
  total_is = omega (arith, far.total_is, size, length-append far.input piece);
  within = fits;
  shelved = passes (far.input ++ piece) (longer query far.input rest piece place held far.shelved);
  cut = cut;
}

-- at the end
pub taken_all : (query : DataQuery) (left after : Option (List ℕ)) (total : ℕ) (rest : List ℕ) (place : ℕ) (fault : Option RecordFault) (held : List Row) → IsAtEnd after → rest ≡ []
    → IsTaken query left after total rest place fault held → HasTaken query left after held
taken_all query left after total rest place fault held end none far = record {
  input = far.input;
  taken = far.taken;
  end = end;
  within = omega (arith, far.total_is, far.within);
  asked = shelf_ends query far.input rest place held none far.shelved;
}

pub taken_bad : (query : DataQuery) (old new : StreamView) (total : ℕ) (rest : List ℕ) (place : ℕ) (fault : Option RecordFault) (held : List Row) (stop : SelectStop) → IsAtEnd new.left → IsRestRefused rest total stop
    → IsTaken query old.left new.left total rest place fault held → IntakeStops old new stop
taken_bad query old new total rest place fault held (Refused (Record at why)) end bad far =
    let first = bad_behind query far.input rest place held why bad.1 bad.2 far.shelved in
    let offset : at ≡ length far.input - length rest = omega (arith, bad.0, far.total_is) in
    record {
      input = far.input;
      had = had_all old.left new.left far.input far.taken end;
      bad = record { within = omega (arith, far.total_is, far.within); first = subst (λ (n : ℕ). IsFirstBad far.input n why) (sym offset) first };
    }
taken_bad query old new total rest place fault held (Refused (Value word)) end bad far = absurd bad
taken_bad query old new total rest place fault held (Refused Order) end bad far = absurd bad
taken_bad query old new total rest place fault held (Refused NoData) end bad far = absurd bad
taken_bad query old new total rest place fault held (Refused (TooLarge bytes limit)) end bad far = absurd bad
taken_bad query old new total rest place fault held (Refused InputTooLong) end bad far = absurd bad
taken_bad query old new total rest place fault held ReadFault end bad far = absurd bad
taken_bad query old new total rest place fault held WriteFault end bad far = absurd bad
taken_bad query old new total rest place fault held OutOfMemory end bad far = absurd bad

-- a last take that gave nothing
pub taken_none : (query : DataQuery) (left middle after : Option (List ℕ)) (total : ℕ) (rest piece : List ℕ) (place : ℕ) (fault : Option RecordFault) (held : List Row) → Consumes middle after piece → piece ≡ []
    → IsTaken query left middle total rest place fault held → IsTaken query left after total rest place fault held
taken_none query left middle after total rest piece place fault held bytes none far = record {
  input = far.input;
  taken = subst (λ (xs : List ℕ). Consumes left after xs) (ap (λ (xs : List ℕ). far.input ++ xs) none ∙ append-nil far.input) (Consumes-then left middle after far.input piece far.taken bytes);
  total_is = far.total_is;
  within = far.within;
  shelved = far.shelved;
  cut = far.cut;
}
