use Rattle.std.proofs.Common.{◌+◌, arith, refl, rules}
use Rattle.disk_model.proofs.ReadingOn.{read_more, more_inside}
use Rattle.disk_model.proofs.file.read_on.Goals as goal

pub full-preserved : goal.full-preserved
full-preserved g c =
    let r = g.F.Read.remaining in
    let count = c.in_ok-count.count in
    record {
      inside = more_inside c.full.into c.read.new.buf c.full.done count c.full.invariant.inside (search rules) c.in_ok-count.ensures.bound.0;
      bytes = read_more (r c.args.file.now) (r c.full.file) (r c.read.new.self) c.full.into c.read.new.buf c.full.done count (c.full.done + count) c.full.invariant.inside (search rules) c.in_ok-count.ensures.bound.0 refl c.full.invariant.bytes c.in_ok-count.ensures.bytes.0;
    }

pub returns-then-count-eq0-clause-bytes : goal.returns-then-count-eq0-clause-bytes
returns-then-count-eq0-clause-bytes g c =
    let r = g.F.Read.remaining in
    read_more (r c.args.file.now) (r c.full.file) (r c.read.new.self) c.full.into c.read.new.buf c.full.done c.in_ok-count.count c.full.done c.full.invariant.inside (search rules) c.in_ok-count.ensures.bound.0 (omega (arith, c.if-count-eq0.true)) c.full.invariant.bytes c.in_ok-count.ensures.bytes.0
