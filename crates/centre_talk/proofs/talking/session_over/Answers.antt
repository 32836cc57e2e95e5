use Rattle.std.proofs.Common.{ap, arith, rules, tests}
use Rattle.disk_model.specs.View.{is_told}
use Rattle.centre_talk.proofs.talking.session_over.Goals as goal

pub returns-clause-served : goal.returns-clause-served
returns-clause-served g c = record {
  last = _;
  over = c.serve_over-end.ensures.row;
  images = c.close.ensures.left;
  keeps = c.close.ensures.history;
  tells = ap (λ d. is_told (g.D.Disk.view d)) c.close.ensures.disk;
  cause = c.close.ensures.calm;
  stopped_is = search (arith, rules, tests, c.stops-stopped.ensures);
}
