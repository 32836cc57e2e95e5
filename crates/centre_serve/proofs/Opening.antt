-- From the archive that was opened, or not, to the disk that was handed in.
use Rattle.std.proofs.Common.{◌≡◌, ◌∙◌, refl, sym, subst, arith, inl, inr, ℕ, ◌≤◌, List, length, Result, Ok, Err}
use Rattle.archive_entry.specs.declared.entry.Entry.{Entry}
use Rattle.archive_log.specs.Histories.{IsHistoryOf}
use Rattle.archive_log.specs.declared.fault.StartFault.{StartFault}
use Rattle.archive_log.specs.declared.fault.StartFault.TheVariants as start
use Rattle.desk_words.specs.Setting.{Setting}
use Rattle.disk_model.specs.Effects.{WritesNothing}
use Rattle.disk_model.specs.View.{DiskView, WhereTold, file_of}
use Rattle.link_ports.specs.Ports.{PortView}
use Rattle.centre_serve.specs.Service.{Site, site, Serving, StartedRow, IsRefused, ServeRow}
use Rattle.centre_serve.specs.Stops.{stop_for_start}
use Rattle.centre_serve.specs.declared.ending.ServeStop.{ServeStop}
use Rattle.centre_serve.specs.declared.ending.ServeStop.TheVariants.{DiskFault, PortFault, NotAJournal, Damaged, OutOfMemory}

-- a call that fails where this other is so, at least
pub refailed : (was mid : DiskView) (Failed Other : Type 0) → (Other → Failed) → WritesNothing was mid Failed → WritesNothing was mid Other
refailed was mid Failed Other as_often run = record { tells = run.tells; later = run.later; cause = λ bad. run.cause (as_often bad); told = run.told }

module _ (s : Setting) (was mid : DiskView) (ports : List PortView) (after : Site) (opening : List Entry) (faults : ℕ) (Failed : Type 0) (run : WritesNothing was mid Failed) (since : was.faults ≤ faults)
    (history : WhereTold was (IsHistoryOf (file_of was) opening)) (some : 1 ≤ length opening) where
  quiet : WritesNothing was mid ⊥
  quiet = refailed was mid Failed ⊥ (λ bad. absurd bad) run

  moved : Serving s (site mid ports) after opening → Serving s (site was ports) after opening
  moved v = record {
    history = v.history;
    lawful = v.lawful;
    begins = v.begins;
    all = v.all;
    left = v.left;
    images = λ t. v.images (run.tells ∙ t);
    keeps = λ t. v.keeps (run.tells ∙ t);
    tells = v.tells ∙ run.tells;
  }

  pub opened_row : (ending : Result (Unit {0}) ServeStop) → StartedRow s (site mid ports) after opening faults ending → (ending ≡ Err OutOfMemory → after.disk ≡ mid) → ServeRow s (site was ports) after ending
  unfolding moved
  opened_row (Ok done) row same = record {
    opening = opening;
    opened = history;
    some = some;
    serves = (moved row.0, record { nothing_left = row.1.nothing_left; no_stop = row.1.no_stop }, row.2);
  }
  opened_row (Err PortFault) row same = record {
    opening = opening;
    opened = history;
    some = some;
    serves = (moved row.0, record { nothing_left = row.1.nothing_left; no_stop = row.1.no_stop }, row.2);
  }
  opened_row (Err DiskFault) row same = inl (record {
    opening = opening;
    opened = history;
    some = some;
    serves = (moved row.0, (let rose = row.1 in omega (arith, since)));
  })
  opened_row (Err OutOfMemory) row same = record {
    disk = subst (λ (d : DiskView). WritesNothing was d ⊥) (sym (same refl)) quiet;
    ports = row;
  }
  opened_row (Err NotAJournal) row same = absurd row
  opened_row (Err (Damaged at)) row same = absurd row

-- an archive that wasn't opened
pub refused_row : (s : Setting) (before after : Site) (fault : StartFault) → IsRefused before after fault → ServeRow s before after (Err (stop_for_start fault))
refused_row s before after start.DiskFault row = inr row
refused_row s before after start.NotAJournal row = row
refused_row s before after (start.Damaged at) row = row
refused_row s before after start.OutOfMemory row = record {
  disk = refailed before.disk after.disk (start.OutOfMemory ≡ start.DiskFault) ⊥ (λ bad. absurd bad) row.disk;
  ports = row.ports;
}
