-- What comes behind a record that is refused: it is counted, and none of it is kept.
use Rattle.std.proofs.Common.{◌≡◌, ◌≢◌, ℕ, ◌+◌, ◌≤◌, List, [], ◌∷◌, ◌++◌, length, Option, None, Some, refl, sym, ap, ◌∙◌, arith, length-append}
use Rattle.std.specs.Io.KnownBytes.{Consumes, IsAtEnd}
use Rattle.mseed_header.specs.declared.header.RecordFault.{RecordFault}
use Rattle.mseed_header.specs.declared.header.RecordFault.TheVariants.{Short}
use Rattle.mseed_header.specs.declared.row.Row.{Row}
use Rattle.mseed_header.specs.Header.{RefusesRecord}
use Rattle.mseed_header.proofs.Headers.{one_fault}
use Rattle.mseed_header.proofs.Stays.{refusal_stays}
use Rattle.dataselect.specs.declared.query.DataQuery.{DataQuery}
use Rattle.streams.specs.Effects.{OnlyTakes}
use Rattle.streams.specs.View.{StreamView}
use Rattle.streams.proofs.Grows.{Consumes-then}
use Rattle.centre_select.specs.Limits.{most_input}
use Rattle.centre_select.specs.declared.ending.SelectRefusal.TheVariants.{Record, InputTooLong}
use Rattle.centre_select.specs.declared.ending.SelectStop.{SelectStop}
use Rattle.centre_select.specs.declared.ending.SelectStop.TheVariants.{Refused, ReadFault}
use Rattle.centre_select.specs.Intake.{HasCounted, IntakeStops, IsCutTo, IsLasting, IsRestRefused, PieceStops}
use Rattle.centre_select.proofs.Inputs.{had_more}
use Rattle.centre_select.proofs.Shelved.{IsTaken, longer, taken_bad}

-- so many bytes were taken behind the first `from`
pub record IsCounted (left after : Option (List ℕ)) (from total : ℕ) : Type 0 where
  pub bytes : List ℕ
  pub taken : Consumes left after bytes
  pub total_is : total ≡ from + length bytes
  pub within : total ≤ most_input

pub counted_more : (left middle after : Option (List ℕ)) (from total count : ℕ) (piece : List ℕ) → Consumes middle after piece → count ≡ length piece → total + count ≤ most_input → IsCounted left middle from total
    → IsCounted left after from (total + count)
counted_more left middle after from total count piece taken size fits far = record {
  bytes = far.bytes ++ piece;
  taken = Consumes-then left middle after far.bytes piece far.taken taken;
  total_is = omega (arith, far.total_is, size, length-append far.bytes piece);
  within = fits;
}

pub counted_all : (left middle after : Option (List ℕ)) (from total : ℕ) (piece : List ℕ) → Consumes middle after piece → piece ≡ [] → IsAtEnd after → IsCounted left middle from total → HasCounted left after from
counted_all left middle after from total piece taken none end far =
    let more = counted_more left middle after from total 0 piece taken (sym (ap length none)) (omega (arith, far.within)) far in
    record { bytes = more.bytes; taken = more.taken; end = end; within = omega (arith, more.total_is, more.within) }

-- why the next piece isn't taken, told of the first
pub stops_behind : (old middle new : StreamView) (from total : ℕ) (stop : SelectStop) → IsCounted old.left middle.left from total → OnlyTakes old middle ⊥ → PieceStops middle new total stop → PieceStops old new from stop
stops_behind old middle new from total ReadFault far takes h = omega (arith, h, takes.later)
stops_behind old middle new from total (Refused InputTooLong) far takes h = record {
  bytes = far.bytes ++ h.bytes;
  taken = Consumes-then old.left middle.left new.left far.bytes h.bytes far.taken h.taken;
  above = omega (arith, h.above, far.total_is, length-append far.bytes h.bytes);
}
stops_behind old middle new from total stop far takes h = absurd h

-- and of the whole input
pub stops_intake : (query : DataQuery) (old middle new : StreamView) (total : ℕ) (rest : List ℕ) (place : ℕ) (fault : Option RecordFault) (held : List Row) (stop : SelectStop) → IsTaken query old.left middle.left total rest place fault held
    → OnlyTakes old middle ⊥ → PieceStops middle new total stop → IntakeStops old new stop
stops_intake query old middle new total rest place fault held ReadFault far takes h = omega (arith, h, takes.later)
stops_intake query old middle new total rest place fault held (Refused InputTooLong) far takes h =
    had_more old.left new.left most_input (far.input ++ h.bytes) (Consumes-then old.left middle.left new.left far.input h.bytes far.taken h.taken) (omega (arith, h.above, far.total_is, length-append far.input h.bytes))
stops_intake query old middle new total rest place fault held stop far takes h = absurd h

-- a record that is refused for good is so with what comes behind it
some_behind : (rest more : List ℕ) → rest ≢ [] → rest ++ more ≢ []
some_behind [] more some e = some refl
some_behind (x ∷ rest) more some e = absurd (cc)

cut_behind : (rest more : List ℕ) (fault : Option RecordFault) → IsLasting fault → IsCutTo rest fault → IsCutTo (rest ++ more) fault
cut_behind rest more None lasting cut = absurd lasting
cut_behind rest more (Some fault) lasting cut = (some_behind rest more cut.0, refusal_stays rest more fault lasting cut.1)

taken_behind : (query : DataQuery) (left middle after : Option (List ℕ)) (total : ℕ) (rest : List ℕ) (place : ℕ) (fault : Option RecordFault) (held : List Row) → IsLasting fault → (counted : HasCounted middle after total)
    → IsTaken query left middle total rest place fault held → IsTaken query left after (total + length counted.bytes) (rest ++ counted.bytes) place fault held
taken_behind query left middle after total rest place fault held lasting counted far = record {
  input = far.input ++ counted.bytes;
  taken = Consumes-then left middle after far.input counted.bytes far.taken counted.taken;
  total_is = omega (arith, far.total_is, length-append far.input counted.bytes);
  within = counted.within;
  shelved = longer query far.input rest counted.bytes place held far.shelved;
  cut = cut_behind rest counted.bytes fault lasting far.cut;
}

-- of bytes with a fault that stays, each fault is that one
fault_stays : (rest : List ℕ) (fault : Option RecordFault) (why : RecordFault) → IsLasting fault → IsCutTo rest fault → RefusesRecord rest why → why ≢ Short
fault_stays rest None why lasting cut refused = absurd lasting
fault_stays rest (Some fault) why lasting cut refused = λ short. lasting (one_fault rest fault why cut.1 refused ∙ short)

refused_behind : (rest more : List ℕ) (total : ℕ) (fault : Option RecordFault) (stop : SelectStop) → IsLasting fault → IsCutTo rest fault → IsRestRefused rest total stop → IsRestRefused (rest ++ more) (total + length more) stop
refused_behind rest more total fault (Refused (Record at why)) lasting cut bad =
    (omega (arith, bad.0, length-append rest more), some_behind rest more bad.1, refusal_stays rest more why (fault_stays rest fault why lasting cut bad.2) bad.2)
refused_behind rest more total fault stop lasting cut bad = absurd bad

-- so the end of the input tells of it as its last piece that was cut
pub counted_bad : (query : DataQuery) (old middle new : StreamView) (total : ℕ) (rest : List ℕ) (place : ℕ) (fault : Option RecordFault) (held : List Row) (stop : SelectStop) → IsLasting fault → HasCounted middle.left new.left total
    → IsTaken query old.left middle.left total rest place fault held → IsRestRefused rest total stop → IntakeStops old new stop
counted_bad query old middle new total rest place fault held stop lasting counted far bad =
    taken_bad query old new (total + length counted.bytes) (rest ++ counted.bytes) place fault held stop counted.end (refused_behind rest counted.bytes total fault stop lasting far.cut bad)
    (taken_behind query old.left middle.left new.left total rest place fault held lasting counted far)
