-- How users are told why a text is no query; a parameter or a line by its number.
use Rattle.std.specs.Prelude.{List, ℕ, codes, ◌++◌, decimal}
use Rattle.query_parameters.specs.declared.fault.QueryFault.{QueryFault}
use Rattle.query_parameters.specs.declared.fault.QueryFault.TheVariants as fault

abbrev pub query_fault_text : QueryFault → List ℕ
query_fault_text fault.TooMany = codes "TooMany"
query_fault_text (fault.Unknown n) = codes "Unknown " ++ decimal n
query_fault_text (fault.Repeated n) = codes "Repeated " ++ decimal n
query_fault_text (fault.OutOfScope n) = codes "OutOfScope " ++ decimal n
query_fault_text (fault.Value n) = codes "Value " ++ decimal n
query_fault_text (fault.Line n) = codes "Line " ++ decimal n
query_fault_text fault.Order = codes "Order"
query_fault_text fault.NoLine = codes "NoLine"
query_fault_text fault.OutOfMemory = codes "out of memory"
