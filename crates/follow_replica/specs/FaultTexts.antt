-- How users are told why a body isn't taken; a piece by its offset, an entry by its number.
use Rattle.std.specs.Prelude.{List, ℕ, codes, ◌++◌, decimal}
use Rattle.follow_replica.specs.declared.fault.TakeFault.{TakeFault}
use Rattle.follow_replica.specs.declared.fault.TakeFault.TheVariants as fault

abbrev pub take_fault_text : TakeFault → List ℕ
take_fault_text (fault.Form at) = codes "Form " ++ decimal at
take_fault_text (fault.Gap n) = codes "Gap " ++ decimal n
take_fault_text (fault.Unlawful n) = codes "Unlawful " ++ decimal n
take_fault_text fault.DiskFault = codes "the disk failed"
take_fault_text fault.OutOfMemory = codes "out of memory"
