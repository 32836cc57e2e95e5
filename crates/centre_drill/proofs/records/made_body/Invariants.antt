use Rattle.std.proofs.Common.{◌≡◌, ◌-◌}
use Rattle.centre_drill.specs.Records.{made_body}
use Rattle.centre_drill.proofs.records.made_body.Given as goal

abbrev pub invariant-records : goal.invariant-records
invariant-records l = l.body ≡ made_body l.from (l.i - l.from)
