-- Which faults a file's bytes explain. A disk's failure and want of memory have other causes.
use Rattle.std.specs.Prelude.{◌≡◌, ℕ, ◌<◌, List, length, ⊤}
use Rattle.archive_journal.specs.Frames.{Reading, no_journal, damaged_at}
use Rattle.archive_journal.specs.declared.fault.InitFault.{InitFault}
use Rattle.archive_journal.specs.declared.fault.InitFault.TheVariants.{DiskFault as InitDiskFault, NotEmpty}
use Rattle.archive_journal.specs.declared.fault.RecoverFault.{RecoverFault}
use Rattle.archive_journal.specs.declared.fault.RecoverFault.TheVariants.{DiskFault as RecoverDiskFault, NotAJournal, Damaged, OutOfMemory}

-- a file with bytes is no place for a new journal
abbrev pub ExplainsInit : List ℕ → InitFault → Type 0
ExplainsInit file InitDiskFault = ⊤
ExplainsInit file (NotEmpty len) = (len ≡ length file) × (0 < len)

-- what a file says, where it says that it is no whole journal
abbrev pub ExplainsRecover : Reading → RecoverFault → Type 0
ExplainsRecover reading RecoverDiskFault = ⊤
ExplainsRecover reading NotAJournal = reading ≡ no_journal
ExplainsRecover reading (Damaged at) = reading ≡ damaged_at at
ExplainsRecover reading OutOfMemory = ⊤
