-- Each way in which `select` ends is a row of the table.
use Rattle.std.proofs.Common.{◌≡◌, ◌≢◌, ◌⊎◌, ℕ, ◌<◌, ◌≤◌, Bool, true, false, List, [], ◌∷◌, length, refl, sym, ap, ◌∙◌, arith, None, Some, Ok, Err, Result, cond, nat_lt, subst, inl, inr, append-nil}
use Rattle.std.specs.declared.option.Option.{Option}
use Rattle.std.proofs.lemmas.Bool.Decides.{nat_tests}
use Rattle.mseed_header.specs.declared.row.Row.{Row}
use Rattle.dataselect.specs.declared.query.DataQuery.{DataQuery}
use Rattle.dataselect.specs.declared.answers.DataRefusal.{DataRefusal}
use Rattle.dataselect.specs.declared.answers.DataRefusal.TheVariants.{Empty, TooLarge as TooMuch, OutOfMemory as NoMemory}
use Rattle.exact_time.specs.Causes.{Rose}
use Rattle.dataselect.specs.Rows.{held_rows}
use Rattle.dataselect.proofs.Fewer.{only_asked}
use Rattle.dataselect.specs.DataBody.{answer_of, body_or_empty, images_at, RefusesAs}
use Rattle.streams.specs.Effects.{Grew, WritesPart}
use Rattle.streams.specs.View.{StreamView}
use Rattle.command_words.specs.Commands.{SelectWords}
use Rattle.centre_select.specs.Limits.{most_input}
use Rattle.centre_select.specs.declared.ending.SelectRefusal.{SelectRefusal}
use Rattle.centre_select.specs.declared.ending.SelectRefusal.TheVariants.{Value, Order, Record, NoData, TooLarge, InputTooLong}
use Rattle.centre_select.specs.declared.ending.SelectStop.{SelectStop}
use Rattle.centre_select.specs.declared.ending.SelectStop.TheVariants.{Refused, ReadFault, WriteFault, OutOfMemory}
use Rattle.centre_select.specs.Answers.{IsBodyOf, RefusesInput, IsSelectAnswer, places_for, all_seen, stop_for_data}
use Rattle.centre_select.specs.Status.{Tells, ToldFor}
use Rattle.centre_select.specs.Table.{Streams, SelectRow, ShowRow, IsToldFor}
use Rattle.centre_select.specs.Had.{Had}
use Rattle.centre_select.specs.Intake.{AreAsked, HasTaken, IntakeStops}
use Rattle.centre_select.specs.Words.{IsSelectQuery, RefusesSelectWords, StopsWith}
use Rattle.centre_select.proofs.Inputs.{had_all}

-- the words are refused
pub words_row : (w : SelectWords) (world : Streams) (stop : SelectStop) → StopsWith (RefusesSelectWords w) stop → SelectRow w world world (Err stop)
words_row w world (Refused refusal) why = inl (record { why = why; same = refl })
words_row w world OutOfMemory why = refl
words_row w world ReadFault why = absurd why
words_row w world WriteFault why = absurd why

-- taking the input stopped
pub read_row : (w : SelectWords) (query : DataQuery) (before after : Streams) (stop : SelectStop) → IsSelectQuery w query → after.sink ≡ before.sink
    → IntakeStops before.source after.source stop → SelectRow w before after (Err stop)
read_row w query before after ReadFault asked kept why = record { query = query; asked = asked; rose = why; kept = kept }
read_row w query before after (Refused InputTooLong) asked kept why =
    inr (record { input = why.input; query = query; had = why.had; asked = asked; why = why.long; kept = kept })
read_row w query before after OutOfMemory asked kept why = kept
read_row w query before after WriteFault asked kept why = absurd why
read_row w query before after (Refused (Value word)) asked kept why = absurd why
read_row w query before after (Refused Order) asked kept why = absurd why
read_row w query before after (Refused (Record at fault)) asked kept why =
    inr (record { input = why.input; query = query; had = why.had; asked = asked; why = why.bad; kept = kept })
read_row w query before after (Refused NoData) asked kept why = absurd why
read_row w query before after (Refused (TooLarge bytes limit)) asked kept why = absurd why

-- the input is refused
pub input_row : (w : SelectWords) (query : DataQuery) (input : List ℕ) (before after : Streams) (stop : SelectStop) → IsSelectQuery w query → Had before.source.left input → after.sink ≡ before.sink
    → StopsWith (RefusesInput query w.limit input) stop → SelectRow w before after (Err stop)
input_row w query input before after (Refused refusal) asked had kept why =
    inr (record { input = input; query = query; had = had; asked = asked; why = why; kept = kept })
input_row w query input before after OutOfMemory asked had kept why = kept
input_row w query input before after ReadFault asked had kept why = absurd why
input_row w query input before after WriteFault asked had kept why = absurd why

pub same_sink : (before after : Streams) → after ≡ before → after.sink ≡ before.sink
same_sink before after same = λ i. (same i).sink

-- what is told has the row of the stop: want of memory, told in its stead, leaves the sink as it was
pub starved : (w : SelectWords) (before after : Streams) (refusal : SelectRefusal) → SelectRow w before after (Err (Refused refusal)) → SelectRow w before after (Err OutOfMemory)
starved w before after refusal row = elim row [ inl by_words ↦ same_sink before after by_words.same | inr by_input ↦ by_input.kept ]

made_row : (w : SelectWords) (before after : Streams) (refusal : SelectRefusal) (told : SelectStop) → SelectRow w before after (Err (Refused refusal)) → (told ≡ Refused refusal) ⊎ (told ≡ OutOfMemory)
    → SelectRow w before after (Err told)
made_row w before after refusal told row e =
    let P : SelectStop → Type 0 = λ s. SelectRow w before after (Err s) in
    elim e [ inl same ↦ subst P (sym same) row | inr none ↦ subst P (sym none) (starved w before after refusal row) ]

pub told_select : (w : SelectWords) (before after : Streams) (stop told : SelectStop) → SelectRow w before after (Err stop) → ToldFor stop told → SelectRow w before after (Err told)
told_select w before after (Refused (Record at fault)) told row e = made_row w before after (Record at fault) told row e
told_select w before after (Refused (TooLarge bytes limit)) told row e = made_row w before after (TooLarge bytes limit) told row e
told_select w before after (Refused (Value word)) told row e = let P : SelectStop → Type 0 = λ s. SelectRow w before after (Err s) in subst P (sym e) row
told_select w before after (Refused Order) told row e = let P : SelectStop → Type 0 = λ s. SelectRow w before after (Err s) in subst P (sym e) row
told_select w before after (Refused NoData) told row e = let P : SelectStop → Type 0 = λ s. SelectRow w before after (Err s) in subst P (sym e) row
told_select w before after (Refused InputTooLong) told row e = let P : SelectStop → Type 0 = λ s. SelectRow w before after (Err s) in subst P (sym e) row
told_select w before after ReadFault told row e = let P : SelectStop → Type 0 = λ s. SelectRow w before after (Err s) in subst P (sym e) row
told_select w before after WriteFault told row e = let P : SelectStop → Type 0 = λ s. SelectRow w before after (Err s) in subst P (sym e) row
told_select w before after OutOfMemory told row e = let P : SelectStop → Type 0 = λ s. SelectRow w before after (Err s) in subst P (sym e) row

pub told_show : (text : List ℕ) (before after : Streams) (stop told : SelectStop) → ShowRow text before after (Err stop) → ToldFor stop told → ShowRow text before after (Err told)
told_show text before after WriteFault told row e = let P : SelectStop → Type 0 = λ s. ShowRow text before after (Err s) in subst P (sym e) row
told_show text before after (Refused refusal) told row e = absurd row
told_show text before after ReadFault told row e = absurd row
told_show text before after OutOfMemory told row e = absurd row

had_that : (left : Option (List ℕ)) (input had : List ℕ) → left ≡ Some input → Had left had → had ≡ input
had_that left input had e h = sym (subst (λ (o : Option (List ℕ)). Had o had) e h)

-- the answer to an input that is told
pub selected_answer : (w : SelectWords) (input body : List ℕ) (before after : Streams) → before.source.left ≡ Some input → (had : List ℕ) → Had before.source.left had → IsSelectAnswer w had (Ok body) → IsSelectAnswer w input (Ok body)
selected_answer w input body before after e had is answer =
    let P : List ℕ → Type 0 = λ xs. IsSelectAnswer w xs (Ok body) in
    subst P (had_that before.source.left input had e is) answer

-- and why there is none
pub refused_answer : (w : SelectWords) (input : List ℕ) (before after : Streams) (refusal : SelectRefusal) → before.source.left ≡ Some input → SelectRow w before after (Err (Refused refusal)) → IsSelectAnswer w input (Err refusal)
refused_answer w input before after refusal e (inl row) = inl row.why
refused_answer w input before after refusal e (inr row) =
    let P : List ℕ → Type 0 = λ xs. RefusesInput row.query w.limit xs refusal in
    inr (row.query, row.asked, subst P (had_that before.source.left input row.input e row.had) row.why)

-- what an answer says of the body
abbrev within : List ℕ → Bool → Result (List ℕ) DataRefusal
within xs b = cond b (Err (TooMuch (length xs))) (Ok xs)

within_ok : (xs body : List ℕ) (b : Bool) → within xs b ≡ Ok body → (b ≡ false) × (xs ≡ body)
within_ok xs body true e = absurd (cc)
within_ok xs body false e = (refl, (cc))

within_err : (n : ℕ) (xs : List ℕ) (b : Bool) → within xs b ≡ Err (TooMuch n) → (b ≡ true) × (n ≡ length xs)
within_err n xs true e = (refl, (cc))
within_err n xs false e = absurd (cc)

within_not_empty : (xs : List ℕ) (b : Bool) → within xs b ≡ Err Empty → ⊥
within_not_empty xs true e = (cc)
within_not_empty xs false e = (cc)

above : (n m : ℕ) → nat_lt n m ≡ true → n < m
above n m h = grind (arith, nat_tests)

not_above : (n m : ℕ) → nat_lt n m ≡ false → m ≤ n
not_above n m h = grind (arith, nat_tests)

body_is : (max : ℕ) (rows : List Row) (places : List ℕ) (body : List ℕ) → body_or_empty max rows places ≡ Ok body → (places ≢ []) × (body ≡ images_at rows places) × (length body ≤ max)
body_is max rows [] body e = absurd (cc)
body_is max rows (p ∷ ps) body e =
    let h = within_ok (images_at rows (p ∷ ps)) body (nat_lt max (length (images_at rows (p ∷ ps)))) e in
    let most = not_above max (length (images_at rows (p ∷ ps))) h.0 in
    (λ none. cc, sym h.1, omega (arith, most, ap length h.1))

none_are : (max : ℕ) (rows : List Row) (places : List ℕ) → body_or_empty max rows places ≡ Err Empty → places ≡ []
none_are max rows [] e = refl
none_are max rows (p ∷ ps) e = absurd (within_not_empty (images_at rows (p ∷ ps)) (nat_lt max (length (images_at rows (p ∷ ps)))) e)

too_many : (max n : ℕ) (rows : List Row) (places : List ℕ) → body_or_empty max rows places ≡ Err (TooMuch n) → (places ≢ []) × (n ≡ length (images_at rows places)) × (max < n)
too_many max n rows [] e = absurd (cc)
too_many max n rows (p ∷ ps) e =
    let h = within_err n (images_at rows (p ∷ ps)) (nat_lt max (length (images_at rows (p ∷ ps)))) e in
    let more = above max (length (images_at rows (p ∷ ps))) h.0 in
    (λ none. cc, h.1, omega (arith, h.1, more))

-- the rows that the query asks for give the answer of all
asked_answer : (query : DataQuery) (limit : ℕ) (input : List ℕ) (held : List Row) (asked : AreAsked query input held) → answer_of all_seen query limit (held_rows asked.rows) ≡ answer_of all_seen query limit held
asked_answer query limit input held asked = only_asked all_seen query limit asked.rows ∙ ap (answer_of all_seen query limit) (sym asked.held_are)

pub body_row : (query : DataQuery) (limit : ℕ) (input body : List ℕ) (held : List Row) → length input ≤ most_input → AreAsked query input held → answer_of all_seen query limit held ≡ Ok body → IsBodyOf query limit input body
body_row query limit input body held within asked e =
    let rows = asked.rows in
    let h = body_is limit (held_rows rows) (places_for query rows) body (asked_answer query limit input held asked ∙ e) in
    record { within = within; rows = rows; records = asked.records; some = h.0; body_is = h.1; fits = h.2 }

pub data_row : (query : DataQuery) (limit : ℕ) (input : List ℕ) (held : List Row) (refusal : DataRefusal) → length input ≤ most_input → AreAsked query input held
    → RefusesAs (answer_of all_seen query limit held) refusal → StopsWith (RefusesInput query limit input) (stop_for_data limit refusal)
data_row query limit input held Empty within asked e =
    let rows = asked.rows in
    record { within = within; rows = rows; records = asked.records; none = none_are limit (held_rows rows) (places_for query rows) (asked_answer query limit input held asked ∙ e) }
data_row query limit input held (TooMuch n) within asked e =
    let rows = asked.rows in
    let h = too_many limit n (held_rows rows) (places_for query rows) (asked_answer query limit input held asked ∙ e) in
    record { within = within; rows = rows; records = asked.records; some = h.0; bytes_is = h.1; limit_is = refl; above = h.2 }
data_row query limit input held NoMemory within asked e = tt

-- the input was taken, and its answer is refused
pub refused_row : (w : SelectWords) (query : DataQuery) (held : List Row) (refusal : DataRefusal) (before after : Streams) (stop : SelectStop) → stop ≡ stop_for_data w.limit refusal → IsSelectQuery w query
    → HasTaken query before.source.left after.source.left held → after.sink ≡ before.sink → RefusesAs (answer_of all_seen query w.limit held) refusal → SelectRow w before after (Err stop)
refused_row w query held refusal before after stop is asked taken kept why =
    let refused = data_row query w.limit taken.input held refusal taken.within taken.asked why in
    input_row w query taken.input before after stop asked (had_all before.source.left after.source.left taken.input taken.taken taken.end) kept
    (subst (λ (s : SelectStop). StopsWith (RefusesInput query w.limit taken.input) s) (sym is) refused)

-- the answer was written
pub selected_row : (w : SelectWords) (query : DataQuery) (held : List Row) (body : List ℕ) (before after : Streams) → IsSelectQuery w query → HasTaken query before.source.left after.source.left held
    → answer_of all_seen query w.limit held ≡ Ok body → Grew before.sink.written after.sink.written body → SelectRow w before after (Ok tt)
selected_row w query held body before after asked taken answer output = record {
  input = taken.input;
  body = body;
  had = had_all before.source.left after.source.left taken.input taken.taken taken.end;
  answer = (query, asked, body_row query w.limit taken.input body held taken.within taken.asked answer);
  end = taken.end;
  output = output;
}

-- or a first part of it
pub cut_row : (w : SelectWords) (query : DataQuery) (held : List Row) (body : List ℕ) (before after : Streams) → IsSelectQuery w query → HasTaken query before.source.left after.source.left held
    → answer_of all_seen query w.limit held ≡ Ok body → Rose before.sink.faults after.sink.faults → WritesPart before.sink.written after.sink.written body → SelectRow w before after (Err WriteFault)
cut_row w query held body before after asked taken answer rose part = record {
  input = taken.input;
  body = body;
  had = had_all before.source.left after.source.left taken.input taken.taken taken.end;
  answer = (query, asked, body_row query w.limit taken.input body held taken.within taken.asked answer);
  rose = rose;
  output = part;
}

-- nothing was told
pub tells_nothing : (s : StreamView) → Tells s s []
tells_nothing s = record {
  part = record { part = []; rest = []; split = refl; output = grew_nothing s.written };
  whole = inl (grew_nothing s.written);
}
  where
    grew_nothing : (o : Option (List ℕ)) → Grew o o []
    grew_nothing None = tt
    grew_nothing (Some xs) = sym (append-nil xs)

-- an ending that is told has its row
pub told_ending : (w : SelectWords) (before after : Streams) (ending told : Result (Unit {0}) SelectStop) → SelectRow w before after ending → IsToldFor ending told → SelectRow w before after told
told_ending w before after (Ok done) told row same = let P : Result (Unit {0}) SelectStop → Type 0 = λ e. SelectRow w before after e in subst P (sym same) row
told_ending w before after (Err stop) told row same =
    let P : Result (Unit {0}) SelectStop → Type 0 = λ e. SelectRow w before after e in
    subst P (sym same.1) (told_select w before after stop same.0 row same.2)

pub told_help : (text : List ℕ) (before after : Streams) (ending told : Result (Unit {0}) SelectStop) → ShowRow text before after ending → IsToldFor ending told → ShowRow text before after told
told_help text before after (Ok done) told row same = let P : Result (Unit {0}) SelectStop → Type 0 = λ e. ShowRow text before after e in subst P (sym same) row
told_help text before after (Err stop) told row same =
    let P : Result (Unit {0}) SelectStop → Type 0 = λ e. ShowRow text before after e in
    subst P (sym same.1) (told_show text before after stop same.0 row same.2)
