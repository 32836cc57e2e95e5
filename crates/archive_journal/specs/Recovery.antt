-- What a recovery finds, gate by gate, and why it ends early.
use Rattle.std.specs.Prelude.{◌≡◌, ◌≢◌, ℕ, ◌+◌, List, ◌∷◌, ◌++◌, ◌≤◌, length, take, Option, Some, None, Result, Ok, Err, ⊤}
use Rattle.disk_model.specs.View.{DiskView, IsOnlyImage}
use Rattle.archive_journal.specs.Frames.{magic, open_gate, body_of, front_of, IsSized, IsJournal, IsBroken, IsDamaged, IsNoJournal}
use Rattle.archive_journal.specs.Journal.{HasGatesAt}
use Rattle.archive_journal.specs.declared.fault.RecoverFault.{RecoverFault}
use Rattle.archive_journal.specs.declared.fault.RecoverFault.TheVariants.{DiskFault, NotAJournal, Damaged, OutOfMemory}

-- here stands a closed gate
pub record IsClosedGate (rest : List ℕ) : Type 0 where
  pub gate : ℕ
  pub behind : List ℕ
  pub rest_is : rest ≡ gate ∷ behind
  pub closed : gate ≢ open_gate

-- here stands a whole open frame, and the next gate is at this offset
pub record IsOpenFrame (rest : List ℕ) (at next : ℕ) : Type 0 where
  pub payload : List ℕ
  pub behind : List ℕ
  pub rest_is : rest ≡ open_gate ∷ body_of payload ++ behind
  pub sized : IsSized payload
  pub next_is : next ≡ at + 5 + length payload

-- what stands at a gate
abbrev pub IsNext : List ℕ → ℕ → Result (Option ℕ) RecoverFault → Type 0
IsNext rest at (Ok None) = IsClosedGate rest
IsNext rest at (Ok (Some next)) = IsOpenFrame rest at next
IsNext rest at (Err (Damaged offset)) = (offset ≡ at) × IsBroken rest
IsNext rest at (Err NotAJournal) = ⊥
IsNext rest at (Err DiskFault) = ⊤
IsNext rest at (Err OutOfMemory) = ⊤

-- the file is a journal, and its gates stand there
pub record IsFound (file offsets : List ℕ) (end : ℕ) : Type 0 where
  pub payloads : List (List ℕ)
  pub journal : IsJournal payloads file
  pub placed : HasGatesAt payloads offsets end

-- the file has the magic and a gate behind it
pub record HasMagic (file : List ℕ) : Type 0 where
  pub long : 17 ≤ length file
  pub begins : take 16 file ≡ magic

-- so far there are whole open frames, whose gates stand there
pub record IsWalked (file offsets : List ℕ) (at : ℕ) : Type 0 where
  pub payloads : List (List ℕ)
  pub rest : List ℕ
  pub file_is : file ≡ front_of payloads ++ rest
  pub placed : HasGatesAt payloads offsets at

-- a fault that the file's bytes have; the disk's and want of memory have other causes
abbrev pub Explains : List ℕ → RecoverFault → Type 0
Explains file DiskFault = ⊤
Explains file NotAJournal = IsNoJournal file
Explains file (Damaged at) = IsDamaged at file
Explains file OutOfMemory = ⊤

-- Unless the disk failed, the one image is this file, also where it is no journal.
abbrev pub IsSyncedUnlessFailed : {T : Type 0} → DiskView → List ℕ → Result T RecoverFault → Type 0
IsSyncedUnlessFailed view file (Ok found) = IsOnlyImage view file
IsSyncedUnlessFailed view file (Err fault) = fault ≢ DiskFault → IsOnlyImage view file
