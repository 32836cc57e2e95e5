-- The command `serve` as rows of the table.
use Rattle.std.proofs.Common.{◌≡◌, inl, inr, ℕ, List, [], Option, Some, Result, Ok, Err, refl, ap, subst, arith}
use Rattle.disk_model.specs.View.{DiskView}
use Rattle.http_digest.specs.declared.secret.Secret.{Secret}
use Rattle.archive_log.specs.Histories.{IsHistoryOf}
use Rattle.archive_log.specs.Opening.{IsStartFault}
use Rattle.archive_log.specs.declared.fault.StartFault.TheVariants as start
use Rattle.centre_serve.specs.Service.{Site, site, IsRefused, RanShort}
use Rattle.centre_serve.specs.declared.ending.ServeStop.{ServeStop}
use Rattle.centre_serve.specs.declared.ending.ServeStop.TheVariants as stopped
use Rattle.command_words.specs.Commands.{ServeWords, serve}
use Rattle.centre.specs.Ends.{ending_by}
use Rattle.centre.specs.Given.{World, Given, AreGiven}
use Rattle.centre.specs.Serves.{IsServe, ServeEnding, no_journal, damaged, opened, refuses as refuses_file, stop_for_serve}
use Rattle.centre.specs.Status.{status_of_run}
use Rattle.centre.specs.Table.{ToldFor}
use Rattle.centre.specs.declared.ending.Refusal.TheVariants.{NotAJournal, Damaged}
use Rattle.centre.specs.declared.ending.Stop.{Stop}
use Rattle.centre.proofs.Answering.{Ended, ended_by, gives, refuses, seven, eight, seventy}
use Rattle.centre.proofs.Files.{file_by, not_opened, told_by as content_by}
use Rattle.centre.proofs.Says as says
use Rattle.centre.proofs.Says.{Says, says_by}
use Rattle.centre.proofs.MemoryTexts.{MayRunOut, told_by}

-- a journal that is damaged wasn't opened, and neither was it where memory runs out for the text that says so
damaged_short : (before after : Site) (at : ℕ) → IsRefused before after (start.Damaged at) → RanShort before after
damaged_short before after at row = record {
  disk = record { tells = row.disk.tells; later = row.disk.later; cause = λ bad. absurd bad; told = row.disk.told };
  ports = row.ports;
}

starves : {D : Type 0} (view : D → DiskView) (secret : Secret) (w : ServeWords) (before after : World D) (stop : ServeStop) → MayRunOut (stop_for_serve stop) → IsServe view secret w before after (Err stop) → IsServe view secret w before after (Err stopped.OutOfMemory)
starves view secret w before after (stopped.Damaged at) may row =
    record { limits = row.limits; limits_are = row.limits_are; others = row.others; row = damaged_short (site (view before.disk) before.ports) (site (view after.disk) after.ports) at row.row }
starves view secret w before after stopped.DiskFault may row = absurd may
starves view secret w before after stopped.PortFault may row = absurd may
starves view secret w before after stopped.NotAJournal may row = absurd may
starves view secret w before after stopped.OutOfMemory may row = absurd may

pub told_serve : {D : Type 0} (view : D → DiskView) (secret : Secret) (w : ServeWords) (before after : World D) (stop told : Stop) → ServeEnding view secret w before after (Err stop) → ToldFor stop told → ServeEnding view secret w before after (Err told)
told_serve view secret w before after stop told row e = told_by stop_for_serve (IsServe view secret w before after) stopped.OutOfMemory refl (starves view secret w before after) stop told row e

-- what an ending says
module _ {D : Type 0} (view : D → DiskView) (secret : Secret) (w : ServeWords) (before after : World D) where
  by : (outcome : Result (Unit {0}) ServeStop) → IsServe view secret w before after outcome → Says view (Some (serve w)) before after (status_of_run (ending_by stop_for_serve outcome))
  by (Ok done) row = says.done view (Some (serve w)) before after (λ i. (row.others i).streams.sink)
  by (Err stopped.DiskFault) row =
      says.disk_stopped view (Some (serve w)) before after (λ i. (row.others i).streams.sink) (elim row.row [ inl served ↦ served.serves.1 | inr refused ↦ refused.disk.cause refl ])
  by (Err stopped.PortFault) row = says.port_stopped view (Some (serve w)) before after (λ i. (row.others i).streams.sink) row.row.serves.2
  by (Err stopped.NotAJournal) row =
      says.refused view (Some (serve w)) before after NotAJournal (λ i. (row.others i).streams.sink)
      (λ e. not_opened (view before.disk) (view after.disk) (start.NotAJournal ≡ start.DiskFault) row.row.disk) (λ e. absurd (omega (arith, e)))
  by (Err (stopped.Damaged at)) row =
      says.refused view (Some (serve w)) before after (Damaged at) (λ i. (row.others i).streams.sink)
      (λ e. not_opened (view before.disk) (view after.disk) (start.Damaged at ≡ start.DiskFault) row.row.disk) (λ e. absurd (omega (arith, e)))
  by (Err stopped.OutOfMemory) row = says.starved view (Some (serve w)) before after (λ i. (row.others i).streams.sink)

  pub serve_says : (ending : Result (Unit {0}) Stop) → ServeEnding view secret w before after ending → Says view (Some (serve w)) before after (status_of_run ending)
  serve_says ending row = says_by view (Some (serve w)) before after stop_for_serve (IsServe view secret w before after) ending by row

-- and the answer that it is
module _ {D : Type 0} (view : D → DiskView) (secret : Secret) (w : ServeWords) (given : Given) (before after : World D) (e : AreGiven view (Some (serve w)) before after given) where
  ends : (outcome : Result (Unit {0}) ServeStop) → IsServe view secret w before after outcome → Ended (Some (serve w)) given (ending_by stop_for_serve outcome)
  ends (Ok done) row =
      let run = row.row in
      let F : List ℕ → Type 0 = λ file. IsHistoryOf file run.opening in
      gives (Some (serve w)) given [] (opened run.opening (record { history = subst F (file_by e) (run.opened (content_by e)); some = run.some }) refl)
  ends (Err stopped.NotAJournal) row =
      let F : List ℕ → Type 0 = λ file. IsStartFault file start.NotAJournal in
      refuses (Some (serve w)) given NotAJournal (refuses_file (no_journal (subst F (file_by e) (row.row.cause (content_by e))) refl))
  ends (Err (stopped.Damaged at)) row =
      let F : List ℕ → Type 0 = λ file. IsStartFault file (start.Damaged at) in
      refuses (Some (serve w)) given (Damaged at) (refuses_file (damaged at (subst F (file_by e) (row.row.cause (content_by e))) refl))
  ends (Err stopped.DiskFault) row = inl seven
  ends (Err stopped.PortFault) row = inl eight
  ends (Err stopped.OutOfMemory) row = inl seventy

  pub serve_ended : (ending : Result (Unit {0}) Stop) → ServeEnding view secret w before after ending → Ended (Some (serve w)) given ending
  serve_ended ending row = ended_by (Some (serve w)) given stop_for_serve (IsServe view secret w before after) ending ends row
