-- How users are told why a line is refused; a value by the number of its field.
use Rattle.std.specs.Prelude.{List, ℕ, codes, ◌++◌, decimal}
use Rattle.epochs.specs.declared.fault.LineFault.{LineFault}
use Rattle.epochs.specs.declared.fault.LineFault.TheVariants as fault

abbrev pub line_fault_text : LineFault → List ℕ
line_fault_text fault.NoLine = codes "NoLine"
line_fault_text fault.Form = codes "Form"
line_fault_text fault.LineKind = codes "Kind"
line_fault_text fault.Fields = codes "Fields"
line_fault_text (fault.Value n) = codes "Value " ++ decimal n
line_fault_text fault.Order = codes "Order"
