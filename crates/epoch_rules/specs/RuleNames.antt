-- How users are told which rule a line breaks.
use Rattle.std.specs.Prelude.{List, ℕ, codes}
use Rattle.epoch_rules.specs.declared.rule.Rule.{Rule}
use Rattle.epoch_rules.specs.declared.rule.Rule.TheVariants as fault

abbrev pub rule_name : Rule → List ℕ
rule_name fault.Overlap = codes "Overlap"
rule_name fault.NoStationEpoch = codes "NoStationEpoch"
rule_name fault.NoNetworkEpoch = codes "NoNetworkEpoch"
rule_name fault.NoUser = codes "NoUser"
rule_name fault.Absent = codes "Absent"
rule_name fault.Orphans = codes "Orphans"
rule_name fault.NoOperator = codes "NoOperator"
rule_name fault.TooMany = codes "TooMany"
