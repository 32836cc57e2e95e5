-- What a list of changes makes of a disk, and what a crash at each moment might have left.
use Rattle.std.specs.Prelude.{◌<◌, ◌⊎◌, ℕ, List, [], ◌∷◌, length, map, take, Bool, nat_le}
use Rattle.std.specs.List.{list_all}
use Rattle.disk_model.specs.Disk.{overwritten}
use Rattle.disk_model.specs.Images.{Images, IsImage, synced, after_write, after_cut}
use Rattle.disk_model.specs.declared.change.Change.{Change}
use Rattle.disk_model.specs.declared.change.Change.TheVariants.{Wrote, Tore, Cut, Synced}
use Rattle.disk_model.specs.declared.change.Step.{Step}

-- what a read gives, and what is known of the images
pub record State : Type 0 where
  pub content : List ℕ
  pub images : Images

-- a disk at rest
abbrev pub at_rest : List ℕ → State
at_rest file = record { content = file; images = synced file }

-- one change
abbrev pub after : State → Change → State
after s (Wrote at bytes) = record { content = overwritten s.content at bytes; images = after_write s.images at (length bytes) }
after s (Tore at len) = record { content = s.content; images = after_write s.images at len }
after s (Cut len) = record { content = take len s.content; images = after_cut s.images len }
after s Synced = at_rest s.content

-- all of them, in order
abbrev pub state_after : State → List Change → State
state_after s [] = s
state_after s (change ∷ changes) = state_after (after s change) changes

-- the changes of these steps, without their times
abbrev pub changes_in : List Step → List Change
changes_in steps = map (λ step. step.change) steps

-- A crash at some moment since t might have left this image: before a change that came later than t, or
-- after the last change.
abbrev pub LeftSince : State → List Step → ℕ → List ℕ → Type 0
LeftSince s [] t image = IsImage s.images image
LeftSince s (step ∷ steps) t image = ((t < step.moment) × IsImage s.images image) ⊎ LeftSince (after s step.change) steps t image

-- each change was made by then
abbrev pub all_by : ℕ → List Step → Bool
all_by moment steps = list_all (λ step. nat_le step.moment moment) steps
