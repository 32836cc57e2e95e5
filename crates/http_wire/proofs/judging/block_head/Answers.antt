use Rattle.std.proofs.Common.{sym, subst, Some, None}
use Rattle.http_wire.specs.HeadReading.{StopsByBlock, IsHeadRead}
use Rattle.http_wire.specs.declared.ending.Stop.{Stop}
use Rattle.http_wire.specs.declared.head.HeadRead.{HeadRead}
use Rattle.http_wire.proofs.Sayings.{whole_says, crowded_says}
use Rattle.http_wire.proofs.judging.block_head.Goals as goal

pub returns-in-None-clause-ok : goal.returns-in-None-clause-ok
returns-in-None-clause-ok c =
    let P : HeadRead → Type 0 = λ r. IsHeadRead c.args.block.now r in
    whole_says c.args.most c.args.block.now c.in-Whole.head None (subst P c.in-Whole.is c.in-Ok.ensures) (sym c.in-None.ensures)

pub returns-in-Some-clause-err : goal.returns-in-Some-clause-err
returns-in-Some-clause-err c =
    let P : HeadRead → Type 0 = λ r. IsHeadRead c.args.block.now r in
    let Q : Stop → Type 0 = λ s. StopsByBlock c.args.most c.args.block.now s in
    subst Q (sym c.refused.ensures)
    (whole_says c.args.most c.args.block.now c.in-Whole.head (Some c.in-Some.fault) (subst P c.in-Whole.is c.in-Ok.ensures) (sym c.in-Some.ensures))

pub returns-in-Crowded-clause-err : goal.returns-in-Crowded-clause-err
returns-in-Crowded-clause-err c =
    let P : HeadRead → Type 0 = λ r. IsHeadRead c.args.block.now r in
    let Q : Stop → Type 0 = λ s. StopsByBlock c.args.most c.args.block.now s in
    subst Q (sym c.refused-in-Crowded.ensures)
    (crowded_says c.args.most c.args.block.now (subst P c.in-Crowded.is c.in-Ok.ensures))
