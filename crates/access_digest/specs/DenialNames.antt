-- How users are told why they are denied.
use Rattle.std.specs.Prelude.{List, ℕ, codes}
use Rattle.access_digest.specs.declared.denial.Denial.{Denial}
use Rattle.access_digest.specs.declared.denial.Denial.TheVariants as fault

abbrev pub denial_name : Denial → List ℕ
denial_name fault.Absent = codes "Absent"
denial_name fault.Unreadable = codes "Unreadable"
denial_name fault.Stale = codes "Stale"
denial_name fault.UnknownUser = codes "UnknownUser"
denial_name fault.WrongResponse = codes "WrongResponse"
