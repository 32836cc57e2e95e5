-- What an owned desk stands for.
use Rattle.std.specs.Prelude.{◌≡◌, ℕ, true, List, Result, Ok, Err}
use Rattle.disk_model.specs.View.{DiskView, is_told}
use Rattle.archive_entry.specs.declared.entry.Entry.{Entry}
use Rattle.archive_state.specs.declared.verdict.Verdict.{Verdict}
use Rattle.desk_words.specs.Counts.{RoseWithin}
use Rattle.desk_words.specs.Stand.{Stand, made_by}
use Rattle.desk_words.specs.declared.asking.SubmitFault.{SubmitFault}
use Rattle.desk_words.specs.declared.asking.SubmitFault.TheVariants.{Stopped, OutOfMemory as NoMemory}
use Rattle.archive_post.specs.Leaving.{left_of}
use Rattle.archive_post.specs.declared.kept.Intake.{Intake}

-- what a desk counts
pub record Counts : Type 0 where
  pub stops : ℕ
  pub caught : ℕ
  pub made : ℕ

abbrev pub counts : (stops caught made : ℕ) → Counts
counts stops caught made = record { stops = stops; caught = caught; made = made }

-- it stands for what was seen, and what was left is what waits, or what is in hand
abbrev pub stand_over : {D : Type 0} → (D → DiskView) → Intake D → List Entry → Counts → Stand
stand_over view intake seen c = record {
  footing = record { told = is_told (view intake.archive.disk); faults = intake.archive.faults };
  seen = seen;
  stops = c.stops;
  caught = c.caught;
  made = c.made;
  alone = true;
  left = left_of intake.waiting intake.archive.hand;
}

-- Posting counts one entry more on Accept, one stop more where a disk stopped it, and nothing else.
abbrev pub Counted : Counts → Counts → Result Verdict SubmitFault → Type 0
Counted old new (Ok verdict) = (new.stops ≡ old.stops) × RoseWithin (made_by verdict) (made_by verdict) old.made new.made
Counted old new (Err Stopped) = RoseWithin 1 1 old.stops new.stops × (new.made ≡ old.made)
Counted old new (Err NoMemory) = (new.stops ≡ old.stops) × (new.made ≡ old.made)
