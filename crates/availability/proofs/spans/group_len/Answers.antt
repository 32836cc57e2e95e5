use Rattle.std.proofs.Common.{rules, sym, ◌∙◌, ◌≡◌, length}
use Rattle.dataselect.specs.Spans.{is_other_group}
use Rattle.dataselect.proofs.RunLens.{ahead, to_end}
use Rattle.availability.specs.Spans.{merging_of}
use Rattle.availability.proofs.spans.group_len.Goals as goal

pub rows-preserved : goal.rows-preserved
rows-preserved c =
    ahead (λ a b. is_other_group (merging_of c.args.query.now) a.now.header b.now.header) c.args.rows.now c.rows.i c.index-rows-i.result c.index-rows-i-in-rows.result
    (search rules) (search rules) c.index-rows-i.is c.index-rows-i-in-rows.is (sym c.is_other_group.ensures ∙ c.if-is_other_group.false) c.rows.invariant

pub returns : goal.returns
returns c =
    let end : c.rows.i ≡ length c.args.rows.now = search rules in
    to_end (λ a b. is_other_group (merging_of c.args.query.now) a.now.header b.now.header) c.args.rows.now c.rows.i c.requires.some end c.rows.invariant
