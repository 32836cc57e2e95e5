-- The command `init` as rows of the table.
use Rattle.std.proofs.Common.{◌≡◌, ◌∙◌, inl, inr, ℕ, List, [], Option, Some, Result, Ok, Err, refl, sym, ap, arith}
use Rattle.disk_model.specs.View.{DiskView, WhereTold, file_of}
use Rattle.archive_entry.specs.declared.entry.Entry.{Entry}
use Rattle.archive_log.specs.Founding.{MakesArchive}
use Rattle.archive_log.specs.declared.fault.FoundFault.{FoundFault}
use Rattle.archive_log.specs.declared.fault.FoundFault.TheVariants as found
use Rattle.command_words.specs.Commands.{InitWords, init}
use Rattle.centre.specs.Ends.{ending_by}
use Rattle.centre.specs.Given.{World, Given, AreGiven}
use Rattle.centre.specs.Settled.{HoldsNewArchive}
use Rattle.centre.specs.Status.{status_of_run}
use Rattle.centre.specs.Table.{IsInit, InitEnding, ToldFor, stop_for_founding}
use Rattle.centre.specs.declared.ending.Refusal.TheVariants.{NotEmpty}
use Rattle.centre.specs.declared.ending.Stop.{Stop}
use Rattle.centre.proofs.Answering.{Ended, ended_by, gives, refuses, seven, seventy}
use Rattle.centre.proofs.Files.{file_by, grew_nothing, had_told, nothing_given, some_bytes, told_by as content_by}
use Rattle.centre.proofs.Says as says
use Rattle.centre.proofs.Says.{Says, says_by}
use Rattle.centre.proofs.MemoryTexts.{MayRunOut, told_by}

-- no text of `init` has numbers
starves : {D : Type 0} (view : D → DiskView) (w : InitWords) (before after : World D) (fault : FoundFault) → MayRunOut (stop_for_founding fault) → IsInit view w before after (Err fault) → IsInit view w before after (Err found.OutOfMemory)
starves view w before after found.DiskFault may row = absurd may
starves view w before after (found.NotEmpty len) may row = absurd may
starves view w before after found.OutOfMemory may row = absurd may

pub told_init : {D : Type 0} (view : D → DiskView) (w : InitWords) (before after : World D) (stop told : Stop) → InitEnding view w before after (Err stop) → ToldFor stop told → InitEnding view w before after (Err told)
told_init view w before after stop told row e = told_by stop_for_founding (IsInit view w before after) found.OutOfMemory refl (starves view w before after) stop told row e

-- what an ending says
module _ {D : Type 0} (view : D → DiskView) (w : InitWords) (before after : World D) where
  by : (outcome : Result (Unit {0}) FoundFault) → IsInit view w before after outcome → Says view (Some (init w)) before after (status_of_run (ending_by stop_for_founding outcome))
  by (Ok done) row =
      says.done view (Some (init w)) before after (record {
        given = nothing_given;
        body = [];
        had = had_told (view before.disk).content [] (λ told. (row.disk.told told).empty);
        answer = inl (refl, refl);
        output = grew_nothing before.streams.sink.written after.streams.sink.written (λ i. (row.others i).streams.sink.written);
      })
  by (Err found.DiskFault) row = says.disk_stopped view (Some (init w)) before after (λ i. (row.others i).streams.sink) (row.disk.cause refl)
  by (Err (found.NotEmpty len)) row =
      says.refused view (Some (init w)) before after NotEmpty (λ i. (row.others i).streams.sink)
      (λ e told. let kept = (row.disk.told told).kept len refl in record { content = kept.0; images = kept.1 }) (λ e. absurd (omega (arith, e)))
  by (Err found.OutOfMemory) row = says.starved view (Some (init w)) before after (λ i. (row.others i).streams.sink)

  pub init_says : (ending : Result (Unit {0}) Stop) → InitEnding view w before after ending → Says view (Some (init w)) before after (status_of_run ending)
  init_says ending row = says_by view (Some (init w)) before after stop_for_founding (IsInit view w before after) ending by row

  -- with status 0 there is a new archive on the disk
  made : (outcome : Result (Unit {0}) FoundFault) → IsInit view w before after outcome → status_of_run (ending_by stop_for_founding outcome) ≡ 0 → WhereTold (view before.disk) (HoldsNewArchive (view after.disk) w)
  made (Ok done) row e told = let it = row.disk.told told in record { history = it.written; images = it.durable }
  made (Err found.DiskFault) row e told = absurd (omega (arith, e))
  made (Err (found.NotEmpty len)) row e told = absurd (omega (arith, e))
  made (Err found.OutOfMemory) row e told = absurd (omega (arith, e))

  pub init_founded : (ending : Result (Unit {0}) Stop) → InitEnding view w before after ending → status_of_run ending ≡ 0 → WhereTold (view before.disk) (HoldsNewArchive (view after.disk) w)
  init_founded ending row e = made row.outcome row.row (sym (ap status_of_run row.same) ∙ e)

-- and the answer that it is
module _ {D : Type 0} (view : D → DiskView) (w : InitWords) (given : Given) (before after : World D) (e : AreGiven view (Some (init w)) before after given) where
  ends : (outcome : Result (Unit {0}) FoundFault) → IsInit view w before after outcome → Ended (Some (init w)) given (ending_by stop_for_founding outcome)
  ends (Ok done) row =
      let it = row.disk.told (content_by e) in
      gives (Some (init w)) given [] (inl (sym (file_by e) ∙ it.empty, refl))
  ends (Err found.DiskFault) row = inl seven
  ends (Err (found.NotEmpty len)) row =
      let it = row.disk.told (content_by e) in
      refuses (Some (init w)) given NotEmpty (inr (λ none. some_bytes len (file_of (view before.disk)) it.fault.0 it.fault.1 (file_by e ∙ none), refl))
  ends (Err found.OutOfMemory) row = inl seventy

  pub init_ended : (ending : Result (Unit {0}) Stop) → InitEnding view w before after ending → Ended (Some (init w)) given ending
  init_ended ending row = ended_by (Some (init w)) given stop_for_founding (IsInit view w before after) ending ends row

-- what a call of the disk founded, whatever is given beside it
pub founded_as : {A B : Type 0} (e : Entry) (old new : DiskView) (a : A) (b : B) → MakesArchive e old new (Ok a) → MakesArchive e old new (Ok b)
founded_as e old new a b run = record {
  tells = run.tells;
  later = run.later;
  cause = λ failed. absurd (cc);
  told = λ told. let made = run.told told in record { empty = made.empty; written = made.written; durable = made.durable; fault = made.fault; kept = λ len is. absurd (cc) };
}

pub same_fault : {A : Type 0} (fault other : FoundFault) (r : Result A FoundFault) → r ≡ Err fault → r ≡ Err other → fault ≡ other
same_fault fault other r is also = cc

pub refused_as : {A B : Type 0} (e : Entry) (old new : DiskView) (fault : FoundFault) → MakesArchive {T = A} e old new (Err fault) → MakesArchive {T = B} e old new (Err fault)
refused_as e old new fault run = record {
  tells = run.tells;
  later = run.later;
  cause = λ is. run.cause (ap Err (same_fault fault found.DiskFault _ refl is));
  told = λ told. let made = run.told told in record {
    empty = made.empty;
    written = made.written;
    durable = made.durable;
    fault = made.fault;
    kept = λ len is. made.kept len (ap Err (same_fault fault (found.NotEmpty len) _ refl is));
  };
}
