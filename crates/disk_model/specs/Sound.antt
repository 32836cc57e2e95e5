-- What the type of a disk in memory keeps.
use Rattle.std.specs.Prelude.{◌≡◌, ℕ, ◌+◌, ◌≤◌, List, length, drop, true, nat_lt, count_by, Vec, vec_len, vec_capacity}
use Rattle.std.specs.declared.alloc.Global.{Global}
use Rattle.disk_model.specs.Images.{IsImage}
use Rattle.disk_model.specs.Changes.{State, at_rest, state_after, changes_in, all_by}
use Rattle.disk_model.specs.declared.change.Step.{Step}

-- the file as it reads is an image, and so is the file at the last sync
pub record IsSound (s : State) : Type 0 where
  pub reads : IsImage s.images s.content
  pub shortest : s.images.least ≤ length s.images.base
  pub longest : length s.images.base ≤ s.images.greatest

-- The changes lead from the first file to what a read gives, and to the file at the last sync. From that
-- file those behind this place lead to the same.
pub record IsReplayed (first content base : List ℕ) (steps : List Step) (since moment : ℕ) : Type 0 where
  pub content_is : content ≡ (state_after (at_rest first) (changes_in steps)).content
  pub base_is : base ≡ (state_after (at_rest first) (changes_in steps)).images.base
  pub since_is : state_after (at_rest first) (changes_in steps) ≡ state_after (at_rest base) (changes_in (drop since steps))
  pub since_in : since ≤ length steps
  pub sound : IsSound (state_after (at_rest first) (changes_in steps))
  pub in_time : all_by moment steps ≡ true

-- how many of the calls that fail are still to come, after so many calls
abbrev pub waiting : ℕ → List ℕ → ℕ
waiting calls fails = count_by (λ number. nat_lt calls number) fails

-- there is room for so many more steps, beside one for each call that is still to fail
abbrev pub HasRoom : ℕ → Vec Step Global → ℕ → List ℕ → Type 0
HasRoom more steps calls fails = vec_len steps + waiting calls fails + more ≤ vec_capacity steps
