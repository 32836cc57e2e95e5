-- How users are told why a record is refused.
use Rattle.std.specs.Prelude.{List, ℕ, codes}
use Rattle.mseed_header.specs.declared.header.RecordFault.{RecordFault}
use Rattle.mseed_header.specs.declared.header.RecordFault.TheVariants as fault

abbrev pub record_fault_name : RecordFault → List ℕ
record_fault_name fault.Short = codes "Short"
record_fault_name fault.Year = codes "Year"
record_fault_name fault.Time = codes "Time"
record_fault_name fault.Quality = codes "Quality"
record_fault_name fault.Code = codes "Code"
record_fault_name fault.Chain = codes "Chain"
record_fault_name fault.Length = codes "Length"
record_fault_name fault.NoBlockette1000 = codes "NoBlockette1000"
record_fault_name fault.Reach = codes "Reach"
