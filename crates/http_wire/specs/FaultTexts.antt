-- How users are told why a head is refused.
use Rattle.std.specs.Prelude.{List, ℕ, codes, ◌++◌, decimal}
use Rattle.http_wire.specs.declared.ending.HeadFault.{HeadFault}
use Rattle.http_wire.specs.declared.ending.HeadFault.TheVariants as fault

abbrev pub head_fault_text : HeadFault → List ℕ
head_fault_text fault.TargetTooLong = codes "target too long"
head_fault_text fault.HeadTooLong = codes "head too long"
head_fault_text fault.BadHead = codes "bad request head"
head_fault_text fault.BadLength = codes "bad request head"
head_fault_text fault.TooManyHeaders = codes "too many headers"
head_fault_text fault.NoLength = codes "length required"
head_fault_text (fault.BodyTooLong n) = codes "body of " ++ decimal n ++ codes " bytes too long"
