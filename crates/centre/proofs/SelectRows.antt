-- The command `select` as rows of the table.
use Rattle.std.proofs.Common.{◌≡◌, ◌∙◌, ◌++◌, append_assoc, codes, false, inl, inr, ℕ, List, Option, Some, Result, Ok, Err, refl, sym, ap}
use Rattle.std.specs.Fmt.{decimal}
use Rattle.command_words.specs.Commands.{SelectWords, select}
use Rattle.disk_model.specs.View.{DiskView}
use Rattle.centre_select.specs.Answers.{IsSelectAnswer}
use Rattle.centre_select.specs.Status.{ToldFor as ToldAs, error_text_of as select_text_of, status_of as select_status_of}
use Rattle.centre_select.specs.Table.{Streams, SelectRow}
use Rattle.centre_select.specs.declared.ending.SelectRefusal.{SelectRefusal}
use Rattle.centre_select.specs.declared.ending.SelectRefusal.TheVariants as refusal
use Rattle.centre_select.specs.declared.ending.SelectStop.{SelectStop}
use Rattle.centre_select.specs.declared.ending.SelectStop.TheVariants as stop
use Rattle.centre_select.proofs.OneAnswer.{one_select}
use Rattle.centre_select.proofs.Rows.{refused_answer, same_sink, selected_answer, starved}
use Rattle.centre_select.proofs.SomeAnswer.{IsCutUp, some_select}
use Rattle.centre.specs.Ends.{answer_by, ending_by}
use Rattle.centre.specs.Given.{World, Given}
use Rattle.centre.specs.Selects.{IsSelection, SelectEnding, refusal_for_select, stop_for_select}
use Rattle.centre.specs.Status.{error_text_of, status_of, status_of_refusal, status_of_run}
use Rattle.centre.specs.Table.{ToldFor}
use Rattle.centre.specs.declared.ending.Refusal.{Refusal}
use Rattle.centre.specs.declared.ending.Stop.{Stop}
use Rattle.centre.proofs.Answering.{Ended, ended_by, gives, one_by, refuses, five, six, seventy}
use Rattle.centre.proofs.Files.{of_input}
use Rattle.centre.proofs.Says as says
use Rattle.centre.proofs.Says.{Says, is_odd, says_by}
use Rattle.centre.proofs.MemoryTexts.{MayRunOut, told_by}

-- want of memory, told in the stead of a refusal, leaves the sink as it was
starves : (w : SelectWords) (before after : Streams) (why : SelectStop) → MayRunOut (stop_for_select why) → SelectRow w before after (Err why) → SelectRow w before after (Err stop.OutOfMemory)
starves w before after (stop.Refused why) may row = starved w before after why row
starves w before after stop.ReadFault may row = absurd may
starves w before after stop.WriteFault may row = absurd may
starves w before after stop.OutOfMemory may row = absurd may

pub told_select : (w : SelectWords) (before after : Streams) (stopped told : Stop) → SelectEnding w before after (Err stopped) → ToldFor stopped told → SelectEnding w before after (Err told)
told_select w before after stopped told row e = told_by stop_for_select (SelectRow w before after) stop.OutOfMemory refl (starves w before after) stopped told row e

-- a stop of `select` is told as the run's stop is, with the same status and the same text
pub told_as : (why told : SelectStop) → ToldAs why told → ToldFor (stop_for_select why) (stop_for_select told)
told_as (stop.Refused (refusal.Record at fault)) told (inl same) = inl (ap stop_for_select same)
told_as (stop.Refused (refusal.Record at fault)) told (inr none) = inr (ap stop_for_select none)
told_as (stop.Refused (refusal.TooLarge bytes limit)) told (inl same) = inl (ap stop_for_select same)
told_as (stop.Refused (refusal.TooLarge bytes limit)) told (inr none) = inr (ap stop_for_select none)
told_as (stop.Refused (refusal.Value word)) told e = ap stop_for_select e
told_as (stop.Refused refusal.Order) told e = ap stop_for_select e
told_as (stop.Refused refusal.NoData) told e = ap stop_for_select e
told_as (stop.Refused refusal.InputTooLong) told e = ap stop_for_select e
told_as stop.ReadFault told e = ap stop_for_select e
told_as stop.WriteFault told e = ap stop_for_select e
told_as stop.OutOfMemory told e = ap stop_for_select e

pub same_text : (why : SelectStop) → select_text_of why ≡ error_text_of (stop_for_select why)
same_text (stop.Refused (refusal.Value word)) = refl
same_text (stop.Refused refusal.Order) = refl
same_text (stop.Refused (refusal.Record at fault)) = refl
same_text (stop.Refused refusal.NoData) = refl
same_text (stop.Refused (refusal.TooLarge bytes limit)) = ap (λ (xs : List ℕ). codes "centre: " ++ xs ++ codes "\n") (append_assoc (decimal bytes) (codes " bytes exceed ") (decimal limit))
same_text (stop.Refused refusal.InputTooLong) = refl
same_text stop.ReadFault = refl
same_text stop.WriteFault = refl
same_text stop.OutOfMemory = refl

pub same_status : (why : SelectStop) → select_status_of why ≡ status_of (stop_for_select why)
same_status (stop.Refused (refusal.Value word)) = refl
same_status (stop.Refused refusal.Order) = refl
same_status (stop.Refused (refusal.Record at fault)) = refl
same_status (stop.Refused refusal.NoData) = refl
same_status (stop.Refused (refusal.TooLarge bytes limit)) = refl
same_status (stop.Refused refusal.InputTooLong) = refl
same_status stop.ReadFault = refl
same_status stop.WriteFault = refl
same_status stop.OutOfMemory = refl

-- there is one answer, and no other
pub one_selection : (w : SelectWords) (input : List ℕ) (a b : Result (List ℕ) Refusal) → IsSelection w input a → IsSelection w input b → a ≡ b
one_selection w input a b p q = one_by refusal_for_select (IsSelectAnswer w input) (one_select w input) a b p q

pub some_selection : (w : SelectWords) (input : List ℕ) → IsCutUp input → (answer : Result (List ℕ) Refusal) × IsSelection w input answer
some_selection w input cut = let some = some_select w input cut in (answer_by refusal_for_select some.0, record { own = some.0; is = some.1; same = refl })

-- what an ending says
plain : (why : SelectRefusal) → is_odd (status_of_refusal (refusal_for_select why)) ≡ false
plain (refusal.Value word) = refl
plain refusal.Order = refl
plain (refusal.Record at fault) = refl
plain refusal.NoData = refl
plain (refusal.TooLarge bytes limit) = refl
plain refusal.InputTooLong = refl

refusal_kept : (w : SelectWords) (before after : Streams) (why : SelectRefusal) → SelectRow w before after (Err (stop.Refused why)) → after.sink ≡ before.sink
refusal_kept w before after why (inl row) = same_sink before after row.same
refusal_kept w before after why (inr row) = row.kept

module _ {D : Type 0} (view : D → DiskView) (w : SelectWords) (before after : World D) where
  by : (outcome : Result (Unit {0}) SelectStop) → SelectRow w before.streams after.streams outcome → Says view (Some (select w)) before after (status_of_run (ending_by stop_for_select outcome))
  by (Ok done) row =
      says.done view (Some (select w)) before after
      (record { given = of_input row.input; body = row.body; had = row.had; answer = record { own = Ok row.body; is = row.answer; same = refl }; output = row.output })
  by (Err (stop.Refused why)) row = says.refused_plainly view (Some (select w)) before after (refusal_for_select why) (refusal_kept w before.streams after.streams why row) (plain why)
  by (Err stop.ReadFault) row = says.read_stopped view (Some (select w)) before after row.kept row.rose
  by (Err stop.WriteFault) row =
      says.cut_short view (Some (select w)) before after (record {
        given = of_input row.input;
        body = row.body;
        had = row.had;
        answer = record { own = Ok row.body; is = row.answer; same = refl };
        rose = row.rose;
        output = row.output;
      })
  by (Err stop.OutOfMemory) row = says.starved view (Some (select w)) before after row

  pub select_says : (ending : Result (Unit {0}) Stop) → SelectEnding w before.streams after.streams ending → Says view (Some (select w)) before after (status_of_run ending)
  select_says ending row = says_by view (Some (select w)) before after stop_for_select (SelectRow w before.streams after.streams) ending by row

-- and the answer that it is
module _ (w : SelectWords) (given : Given) (before after : Streams) (e : before.source.left ≡ Some given.input) where
  ends : (outcome : Result (Unit {0}) SelectStop) → SelectRow w before after outcome → Ended (Some (select w)) given (ending_by stop_for_select outcome)
  ends (Ok done) row =
      gives (Some (select w)) given row.body (record { own = Ok row.body; is = selected_answer w given.input row.body before after e row.input row.had row.answer; same = refl })
  ends (Err (stop.Refused why)) row =
      refuses (Some (select w)) given (refusal_for_select why) (record { own = Err why; is = refused_answer w given.input before after why e row; same = refl })
  ends (Err stop.ReadFault) row = inl five
  ends (Err stop.WriteFault) row = inl six
  ends (Err stop.OutOfMemory) row = inl seventy

  pub select_ended : (ending : Result (Unit {0}) Stop) → SelectEnding w before after ending → Ended (Some (select w)) given ending
  select_ended ending row = ended_by (Some (select w)) given stop_for_select (SelectRow w before after) ending ends row
