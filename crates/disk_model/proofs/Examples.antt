-- Worked examples of the definitions.
use Rattle.std.proofs.Common.{◌≡◌, inl, List, [], ◌∷◌, true, false, refl, arith, codes}
use Rattle.disk_model.specs.Disk.{overwritten, Gives, Torn, Shortened}
use Rattle.disk_model.specs.Changes.{State, at_rest, state_after, changes_in, LeftSince}
use Rattle.disk_model.specs.Choices.{is_free}
use Rattle.disk_model.specs.declared.change.Change.TheVariants.{Wrote, Tore, Cut, Synced}
use Rattle.disk_model.specs.declared.change.Step.{Step}
use Rattle.disk_model.proofs.ImageSteps.{synced_is}

-- a write inside a file, and one past its end
inside : overwritten (codes "abcdef") 2 (codes "XY") ≡ codes "abXYef"
inside = refl

past_end : overwritten (codes "abcdef") 5 (codes "123") ≡ codes "abcde123"
past_end = refl

-- a read that is cut short by the file's end
read_end : Gives (codes "abcd") 2 2 (codes "cdx")
read_end = record { count_is = refl; bytes_are = refl }

-- one byte of two was written
torn : Torn 2 2 (codes "abcdef") (codes "abXdef")
torn = record { before = refl; behind = refl; no_shorter = omega arith; no_longer = omega arith }

-- a write past the end, of which one byte reached the disk
torn_end : Torn 6 3 (codes "abcdef") (codes "abcdef1")
torn_end = record { before = refl; behind = refl; no_shorter = omega arith; no_longer = omega arith }

-- a cut that reached the disk in part
shortened : Shortened 2 (codes "abcdef") (codes "abcd")
shortened = record { front = refl; no_shorter = omega arith }

steps : List Step
steps = record { change = Wrote 2 (codes "XY"); moment = 1 } ∷ record { change = Synced; moment = 2 } ∷ record { change = Cut 5; moment = 3 } ∷ record { change = Tore 4 2; moment = 5 } ∷ []

state : State
unfolding steps
state = state_after (at_rest (codes "abcdef")) (changes_in steps)

-- after these changes: the file as it reads, the file at the last sync, the least and greatest length
reads : state.content ≡ codes "abXYe"
unfolding state
reads = refl

at_sync : state.images.base ≡ codes "abXYef"
unfolding state
at_sync = refl

lengths : (state.images.least ≡ 5) × (state.images.greatest ≡ 6)
unfolding state
lengths = (refl, refl)

-- the bytes 4 and 5 are free, and those before are as at the sync
free_bytes : (is_free state.images 3 ≡ false) × (is_free state.images 4 ≡ true) × (is_free state.images 5 ≡ true)
unfolding state
free_bytes = (refl, refl, refl)

-- a crash before the first write leaves the first file
first_moment : LeftSince (at_rest (codes "abcdef")) (record { change = Wrote 2 (codes "XY"); moment = 1 } ∷ []) 0 (codes "abcdef")
first_moment = inl (omega arith, synced_is (codes "abcdef"))
