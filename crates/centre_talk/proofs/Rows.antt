-- From a session over a desk to what a session over streams leaves.
use Rattle.std.proofs.Common.{◌≡◌, inl, inr, ℕ, ◌+◌, ◌<◌, ◌≤◌, min, zero, suc, Bool, true, false, List, length, None, Some, Err, refl, ap, ◌∙◌, arith}
use Rattle.std.specs.Prelude.{◌↔◌, IsTrue}
use Rattle.std.proofs.lemmas.Bool.{false≢true}
use Rattle.exact_time.specs.Causes.{Rose}
use Rattle.disk_model.specs.View.{DiskView, WhereTold, is_told, file_of}
use Rattle.disk_model.specs.Effects.{WritesNothing}
use Rattle.archive_log.specs.Histories.{IsHistoryOf}
use Rattle.desk_words.specs.Setting.{Setting}
use Rattle.desk_words.specs.Stand.{Stand, GoesOn}
use Rattle.http_wire.specs.declared.turn.Turn.{Turn}
use Rattle.centre_session.specs.Session.{Scene, scene, SessionRow}
use Rattle.centre_session.specs.declared.ending.SessionEnd.{SessionEnd}
use Rattle.centre_session.specs.declared.ending.SessionEnd.TheVariants as session
use Rattle.centre_talk.specs.Link.{joined}
use Rattle.centre_talk.specs.Served.{ServedOver}
use Rattle.archive_log.specs.declared.fault.StartFault.{StartFault}
use Rattle.archive_log.specs.declared.fault.StartFault.TheVariants as start
use Rattle.centre_talk.specs.declared.ending.TalkStop.TheVariants.{OutOfMemory}
use Rattle.centre_talk.specs.Stops.{ending_of, stop_for_start}
use Rattle.centre_talk.specs.Talk.{Place, IsFresh, NotOpened, HasTalked, Calm, NoneFailed, Undisturbed, TalkRow}

-- in every session what the desk sees goes on
pub row_goes_on : (before after : Scene) (s : Setting) (turns : List Turn) (end : SessionEnd) → SessionRow before after s turns end → GoesOn before.stand after.stand
row_goes_on before after s turns session.Closed (inl ended) = ended.serves.goes_on
row_goes_on before after s turns session.Closed (inr ended) = ended.serves.goes_on
row_goes_on before after s turns session.Cut ended = ended.serves.goes_on
row_goes_on before after s turns session.LinkFault broken = broken.session.serves.goes_on
row_goes_on before after s turns session.Memory ran = ran.session.serves.goes_on

-- a cause since a later moment is one since an earlier moment
rose_before : (a b c : ℕ) → a ≤ b → Rose b c → Rose a c
rose_before a b c h rose = omega arith

-- what is known of the desk that a disk was opened as
pub record Opens (before : DiskView) (first : Stand) : Type 0 where
  pub fresh : IsFresh first
  pub history : WhereTold before (IsHistoryOf (file_of before) first.seen)
  pub some : 1 ≤ length first.seen
  pub tells : first.footing.told ≡ is_told before
  pub since : before.faults ≤ first.footing.faults

talked : (s : Setting) (first : Stand) (before after : Place) (turns : List Turn) (end : SessionEnd) (stopped : Bool) → Opens before.disk first → ServedOver s (scene first (joined before.source before.sink) before.given) (joined after.source after.sink) after.given after.disk turns end stopped
    → HasTalked s before after turns end
talked s first before after turns end stopped opens served =
    let on = row_goes_on _ _ s turns end served.over.row in
    let told : served.last.footing.told ≡ is_told before.disk = ap (λ f. f.told) on.footing ∙ opens.tells in
    let since : before.disk.faults ≤ served.last.footing.faults = omega (arith, ap (λ f. f.faults) on.footing, opens.since) in
    record {
      first = first;
      last = served.last;
      fresh = opens.fresh;
      row = served.over.row;
      history = opens.history;
      some = opens.some;
      images = λ tells. served.images (told ∙ tells);
      keeps = λ tells. served.keeps (told ∙ tells);
      tells = served.tells ∙ told;
      stops = λ some. rose_before before.disk.faults served.last.footing.faults after.disk.faults since (served.cause some);
    }

none_stopped : (stops : ℕ) → (IsTrue false ↔ (0 < stops)) → stops ≡ 0
none_stopped zero h = refl
none_stopped (suc n) h = absurd (false≢true (h.1 (omega arith)))

-- a count of two together rose, and neither of them did: there was no room for another fault
no_room : (a b c d : ℕ) → Rose (min (a + b) 18_446_744_073_709_551_615) (min (c + d) 18_446_744_073_709_551_615) → (Rose a c → ⊥) → (Rose b d → ⊥) → 18_446_744_073_709_551_615 ≤ a + b
no_room a b c d both first second = omega (arith, first, second)

calm : (s : Setting) (first : Stand) (before after : Place) (turns : List Turn) (end : SessionEnd) → Opens before.disk first → ServedOver s (scene first (joined before.source before.sink) before.given) (joined after.source after.sink) after.given after.disk turns end false
    → Calm s before after (Some turns) end
unfolding talked
calm s first before after turns end opens served = record {
  turns = turns;
  trail_is = refl;
  talked = talked s first before after turns end false opens served;
  no_stop = none_stopped served.last.stops served.stopped_is;
}

-- no stream failed
none_failed : (before after : Place) → (IsTrue false ↔ Rose before.source.faults after.source.faults) → (IsTrue false ↔ Rose before.sink.faults after.sink.faults) → NoneFailed before after
none_failed before after is_read is_write = record { source = λ r. false≢true (is_read.1 r); sink = λ r. false≢true (is_write.1 r) }

undisturbed : (s : Setting) (first : Stand) (before after : Place) (turns : List Turn) (end : SessionEnd) → Opens before.disk first → ServedOver s (scene first (joined before.source before.sink) before.given) (joined after.source after.sink) after.given after.disk turns end false
    → (IsTrue false ↔ Rose before.source.faults after.source.faults) → (IsTrue false ↔ Rose before.sink.faults after.sink.faults)
    → Undisturbed s before after (Some turns) end
undisturbed s first before after turns end opens served is_read is_write =
    record { calm = calm s first before after turns end opens served; none = none_failed before after is_read is_write }

pub talk_row : (s : Setting) (first : Stand) (before after : Place) (turns : List Turn) (end : SessionEnd) (stopped read write : Bool)
    → Opens before.disk first → ServedOver s (scene first (joined before.source before.sink) before.given) (joined after.source after.sink) after.given after.disk turns end stopped
    → (IsTrue read ↔ Rose before.source.faults after.source.faults) → (IsTrue write ↔ Rose before.sink.faults after.sink.faults)
    → TalkRow s before after (Some turns) (ending_of stopped read write end)
unfolding talked
talk_row s first before after turns end true read write opens served is_read is_write =
    inr (record { turns = turns; trail_is = refl; end = end; talked = talked s first before after turns end true opens served; stopped = served.stopped_is.0 refl })
talk_row s first before after turns end false true write opens served is_read is_write =
    record { end = end; calm = calm s first before after turns end opens served; rose = is_read.0 refl }
talk_row s first before after turns end false false true opens served is_read is_write =
    record { end = end; calm = calm s first before after turns end opens served; source = λ r. false≢true (is_read.1 r); rose = is_write.0 refl }
talk_row s first before after turns session.Closed false false false opens served is_read is_write = undisturbed s first before after turns session.Closed opens served is_read is_write
talk_row s first before after turns session.Cut false false false opens served is_read is_write = undisturbed s first before after turns session.Cut opens served is_read is_write
talk_row s first before after turns session.Memory false false false opens served is_read is_write = inr (inl (undisturbed s first before after turns session.Memory opens served is_read is_write))
talk_row s first before after turns session.LinkFault false false false opens served is_read is_write =
    inr (inr (record {
      undisturbed = undisturbed s first before after turns session.LinkFault opens served is_read is_write;
      full = no_room before.source.faults before.sink.faults after.source.faults after.sink.faults served.over.row.rose (λ r. false≢true (is_read.1 r)) (λ r. false≢true (is_write.1 r));
    }))

-- the archive wasn't opened
pub start_row : (s : Setting) (before after : Place) (fault : StartFault) → NotOpened before after None fault → TalkRow s before after None (Err (stop_for_start fault))
start_row s before after start.DiskFault held = inl held
start_row s before after start.NotAJournal held = held
start_row s before after (start.Damaged at) held = held
start_row s before after start.OutOfMemory held = inl held

no_disk_fault : (let one : StartFault = start.OutOfMemory in one) ≡ start.DiskFault → ⊥
no_disk_fault e = cc

-- memory ran out for the turns: the archive was opened and closed again
pub memory_row : (s : Setting) (before after : Place) → after.source ≡ before.source → after.sink ≡ before.sink → after.given ≡ before.given → WritesNothing before.disk after.disk ⊥ → TalkRow s before after None (Err OutOfMemory)
memory_row s before after source sink given disk =
    inl (record {
      no_trail = refl;
      source = source;
      sink = sink;
      given = given;
      disk = record { tells = disk.tells; later = disk.later; cause = λ bad. absurd (no_disk_fault bad); told = disk.told };
      why = λ told. tt;
    })
