use Rattle.std.proofs.Common.{sym, ap, subst, List, ℕ}
use Rattle.std.specs.Fmt.{HasWritten}
use Rattle.centre_desk.specs.Faults.{fault_text}
use Rattle.centre_desk.proofs.fault.FaultDisplay.fmt.Goals as goal

pub returns-in-FullRecords-clause-writes : goal.returns-in-FullRecords-clause-writes
returns-in-FullRecords-clause-writes g c plain ok =
    subst (λ (t : List ℕ). HasWritten {W = g.row.W.Denot} g.W.Write.write_str_gives c.args.f.now t c.write-in-FullRecords.new.self) (sym (ap fault_text c.in-FullRecords.is)) (c.write-in-FullRecords.ensures.writes plain ok)

pub returns-in-FullBytes-clause-writes : goal.returns-in-FullBytes-clause-writes
returns-in-FullBytes-clause-writes g c plain ok =
    subst (λ (t : List ℕ). HasWritten {W = g.row.W.Denot} g.W.Write.write_str_gives c.args.f.now t c.write-in-FullBytes.new.self) (sym (ap fault_text c.in-FullBytes.is)) (c.write-in-FullBytes.ensures.writes plain ok)
