-- The command `talk` as rows of the table.
use Rattle.std.proofs.Common.{◌≡◌, ◌∙◌, inl, inr, true, ℕ, List, [], Option, None, Some, Result, Ok, Err, refl, sym, ap, subst, arith}
use Rattle.std.specs.Prelude.{IsSome}
use Rattle.std.specs.Io.KnownBytes.{Consumes}
use Rattle.std.proofs.lemmas.Bool.{false≢true}
use Rattle.std.proofs.lemmas.List.{append_cancel_right}
use Rattle.disk_model.specs.View.{DiskView, WhereTold, file_of}
use Rattle.http_digest.specs.declared.secret.Secret.{Secret}
use Rattle.http_wire.specs.declared.turn.Turn.{Turn}
use Rattle.archive_log.specs.Histories.{IsHistoryOf}
use Rattle.archive_log.specs.Opening.{IsStartFault}
use Rattle.archive_log.specs.declared.fault.StartFault.TheVariants as start
use Rattle.desk_words.specs.Setting.{Setting, setting}
use Rattle.centre_session.specs.Items.{Ending, closing, over, cut, AreItems}
use Rattle.centre_session.specs.Session.{scene, Ended as SessionEnded}
use Rattle.centre_session.specs.declared.ending.SessionEnd.{SessionEnd}
use Rattle.centre_session.specs.declared.ending.SessionEnd.TheVariants as session
use Rattle.centre_talk.specs.Link.{joined}
use Rattle.centre_talk.specs.Talk.{HasTalked, Place, NotOpened}
use Rattle.centre_talk.specs.declared.ending.TalkStop.{TalkStop}
use Rattle.centre_talk.specs.declared.ending.TalkStop.TheVariants as stopped
use Rattle.command_words.specs.Commands.{TalkWords, talk}
use Rattle.centre.specs.Ends.{ending_by}
use Rattle.centre.specs.Given.{World, Given, AreGiven, place_at}
use Rattle.centre.specs.Serves.{no_journal, damaged}
use Rattle.centre.specs.Status.{status_of_run}
use Rattle.centre.specs.Table.{ToldFor}
use Rattle.centre.specs.Talks.{IsServed, IsTalk, TalkEnding, served, was_cut, refuses as refuses_file, stop_for_talk}
use Rattle.centre.specs.declared.ending.Refusal.TheVariants.{NotAJournal, Damaged, RequestCut}
use Rattle.centre.specs.declared.ending.Stop.{Stop}
use Rattle.centre.proofs.Answering.{Ended, ended_by, gives, refuses, five, six, seven, seventy}
use Rattle.centre.proofs.Files.{file_by, not_opened, told_by as content_by}
use Rattle.centre.proofs.Says as says
use Rattle.centre.proofs.Says.{Says, says_by}
use Rattle.centre.proofs.MemoryTexts.{MayRunOut, told_by}

-- a journal that is damaged wasn't opened, and neither was it where memory runs out for the text that says so
damaged_starved : (before after : Place) (trail : Option (List Turn)) (at : ℕ) → NotOpened before after trail (start.Damaged at) → NotOpened before after trail start.OutOfMemory
damaged_starved before after trail at row = record {
  no_trail = row.no_trail;
  source = row.source;
  sink = row.sink;
  given = row.given;
  disk = record { tells = row.disk.tells; later = row.disk.later; cause = λ bad. absurd (cc); told = row.disk.told };
  why = λ told. tt;
}

starves : {D : Type 0} (view : D → DiskView) (secret : Secret) (w : TalkWords) (before after : World D) (stop : TalkStop) → MayRunOut (stop_for_talk stop) → IsTalk view secret w before after (Err stop) → IsTalk view secret w before after (Err stopped.OutOfMemory)
starves view secret w before after (stopped.Damaged at) may row =
    record { limits = row.limits; limits_are = row.limits_are; ports = row.ports; row = inl (damaged_starved (place_at view before) (place_at view after) after.trail at row.row) }
starves view secret w before after stopped.ReadFault may row = absurd may
starves view secret w before after stopped.WriteFault may row = absurd may
starves view secret w before after stopped.DiskFault may row = absurd may
starves view secret w before after stopped.RequestCut may row = absurd may
starves view secret w before after stopped.NotAJournal may row = absurd may
starves view secret w before after stopped.OutOfMemory may row = absurd may

pub told_talk : {D : Type 0} (view : D → DiskView) (secret : Secret) (w : TalkWords) (before after : World D) (stop told : Stop) → TalkEnding view secret w before after (Err stop) → ToldFor stop told → TalkEnding view secret w before after (Err told)
told_talk view secret w before after stop told row e = told_by stop_for_talk (IsTalk view secret w before after) stopped.OutOfMemory refl (starves view secret w before after) stop told row e

-- what an ending says
module _ {D : Type 0} (view : D → DiskView) (secret : Secret) (w : TalkWords) (before after : World D) where
  by : (outcome : Result (Unit {0}) TalkStop) → IsTalk view secret w before after outcome → Says view (Some (talk w)) before after (status_of_run (ending_by stop_for_talk outcome))
  by (Ok done) row = says.done view (Some (talk w)) before after tt
  by (Err stopped.ReadFault) row = says.read_stopped view (Some (talk w)) before after tt row.row.rose
  by (Err stopped.WriteFault) row = says.cut_short view (Some (talk w)) before after row.row.rose
  by (Err stopped.DiskFault) row =
      says.disk_stopped view (Some (talk w)) before after tt (elim row.row [ inl none ↦ none.disk.cause refl | inr stopped ↦ stopped.talked.stops stopped.stopped ])
  by (Err stopped.RequestCut) row = says.refused_plainly view (Some (talk w)) before after RequestCut tt refl
  by (Err stopped.NotAJournal) row =
      says.refused view (Some (talk w)) before after NotAJournal tt (λ e. not_opened (view before.disk) (view after.disk) (start.NotAJournal ≡ start.DiskFault) row.row.disk) (λ e. absurd (omega (arith, e)))
  by (Err (stopped.Damaged at)) row =
      says.refused view (Some (talk w)) before after (Damaged at) tt (λ e. not_opened (view before.disk) (view after.disk) (start.Damaged at ≡ start.DiskFault) row.row.disk) (λ e. absurd (omega (arith, e)))
  by (Err stopped.OutOfMemory) row = says.starved view (Some (talk w)) before after tt

  pub talk_says : (ending : Result (Unit {0}) Stop) → TalkEnding view secret w before after ending → Says view (Some (talk w)) before after (status_of_run ending)
  talk_says ending row = says_by view (Some (talk w)) before after stop_for_talk (IsTalk view secret w before after) ending by row

-- what was read in front of the same rest is the same
taken_once : (left after : Option (List ℕ)) (a b : List ℕ) → IsSome left → Consumes left after a → Consumes left after b → a ≡ b
taken_once None after a b some p q = absurd (false≢true some)
taken_once (Some xs) None a b some p q = absurd p
taken_once (Some xs) (Some ys) a b some p q = append_cancel_right a b ys (sym p ∙ q)

-- and the answer that it is
module _ {D : Type 0} (view : D → DiskView) (secret : Secret) (w : TalkWords) (given : Given) (before after : World D) (e : AreGiven view (Some (talk w)) before after given) where
  -- a session that was served to its end, over the file and the input that are told
  session_served : (s : Setting) (turns : List Turn) (end : SessionEnd) (ending : Ending) (talked : HasTalked s (place_at view before) (place_at view after) turns end)
      → SessionEnded (scene talked.first (joined before.streams.source before.streams.sink) before.given) (scene talked.last (joined after.streams.source after.streams.sink) after.given) s turns ending
      → IsServed given.file given.input ending
  session_served s turns end ending talked ended =
      let opened = talked.history (content_by e.0) in
      let same : ended.taken ≡ given.input = taken_once before.streams.source.left after.streams.source.left ended.taken given.input e.1 ended.lost e.2 in
      let F : List ℕ → Type 0 = λ file. IsHistoryOf file talked.first.seen in
      let I : List ℕ → Type 0 = λ input. AreItems 0 input ended.items ended.interim ending in
      record {
        history = talked.first.seen;
        opens = record { history = subst F (file_by e.0) opened; some = talked.some };
        ends = record { items = ended.items; interim = ended.interim; all = subst I same ended.all };
      }

  refused_start : (Fact : List ℕ → Type 0) → WhereTold (view before.disk) (Fact (file_of (view before.disk))) → Fact given.file
  refused_start Fact why = subst Fact (file_by e.0) (why (content_by e.0))

  ends : (outcome : Result (Unit {0}) TalkStop) → IsTalk view secret w before after outcome → Ended (Some (talk w)) given (ending_by stop_for_talk outcome)
  ends (Ok done) row =
      let s = setting secret row.limits in
      let calm = row.row.calm in
      gives (Some (talk w)) given [] (served (elim calm.talked.row [
        | inl ended ↦ inl (session_served s calm.turns session.Closed closing calm.talked ended)
        | inr ended ↦ inr (session_served s calm.turns session.Closed over calm.talked ended)
      ]) refl)
  ends (Err stopped.RequestCut) row =
      let calm = row.row.calm in
      refuses (Some (talk w)) given RequestCut (was_cut (session_served (setting secret row.limits) calm.turns session.Cut cut calm.talked calm.talked.row) refl)
  ends (Err stopped.NotAJournal) row = refuses (Some (talk w)) given NotAJournal (refuses_file (no_journal (refused_start (λ file. IsStartFault file start.NotAJournal) row.row.why) refl))
  ends (Err (stopped.Damaged at)) row = refuses (Some (talk w)) given (Damaged at) (refuses_file (damaged at (refused_start (λ file. IsStartFault file (start.Damaged at)) row.row.why) refl))
  ends (Err stopped.ReadFault) row = inl five
  ends (Err stopped.WriteFault) row = inl six
  ends (Err stopped.DiskFault) row = inl seven
  ends (Err stopped.OutOfMemory) row = inl seventy

  pub talk_ended : (ending : Result (Unit {0}) Stop) → TalkEnding view secret w before after ending → Ended (Some (talk w)) given ending
  talk_ended ending row = ended_by (Some (talk w)) given stop_for_talk (IsTalk view secret w before after) ending ends row
