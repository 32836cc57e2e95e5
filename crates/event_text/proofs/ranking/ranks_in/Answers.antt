use Rattle.std.proofs.Common.{sym, ap, ◌∙◌}
use Rattle.event_text.proofs.Ranked.{passed, each, taken}
use Rattle.event_text.proofs.ranking.ranks_in.Goals.{in-Some+in_ok-insert, in_default}
use Rattle.event_text.proofs.ranking.ranks_in.Goals as goal

pub lines-preserved : goal.lines-preserved
lines-preserved c =
    let keys = c.lines.ranks.keys in
    let i = c.lines.line-index in
    let line = c.line-item.result in
    elim c.match-asked_event.branch [
      | in-Some+in_ok-insert w ↦
          let is = w.in-Some.ensures in
          let rank = w.rank_of.ensures.rank in
          let same = w.rank_of.ensures.event ∙ sym is.1 in
          let more = ap (λ s. s.keys) w.ranks-is ∙ w.in_ok-insert.ensures.keys in
          rw more (record {
            each = each c.args.query.now c.args.lines.now keys i line c.lines-test.true c.line-item.is c.lines.invariant.ordered w.rank_of.result c.lines.invariant.each rank;
            ordered = taken c.args.query.now c.args.lines.now keys i line c.lines-test.true c.line-item.is c.lines.invariant.ordered w.rank_of.result c.lines.invariant.each rank is.0 same;
          })
      | in_default w ↦
          rw (ap (λ s. s.keys) w.ranks-is) (record {
            each = c.lines.invariant.each;
            ordered = passed c.args.query.now c.args.lines.now keys i line c.lines-test.true c.line-item.is c.lines.invariant.ordered w.in_default.ensures;
          })
    ]
