use Rattle.centre_drill.proofs.Ended.{made_row}
use Rattle.centre_drill.proofs.drilling.drill.Goals as goal

pub returns : goal.returns
returns g c =
    let view = g.D.Disk.view in
    let making = c.in-Ok.making in
    record {
      row = made_row view c.args.count (view c.args.disk) making.intake making.state c.close.result making
          c.in-Ok.ensures.disk c.in-Ok.ensures.way c.in-Ok.ensures.made c.close.ensures.disk (g.met.D.Disk.honest making.intake.archive.disk) c.close.ensures.archive
          (g.K.Stream.view c.args.sink.now) (g.K.Stream.view c.tell.new.sink) c.tell.result c.tell.ensures;
    }
