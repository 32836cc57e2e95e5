use Rattle.std.proofs.Common.{rules, of_calls, ◌≡◌, ◌∙◌, map, ap}
use Rattle.std.specs.Slice.Iter.{iter_rest}
use Rattle.std.proofs.lemmas.Iterator.{YieldsList-from_slice, YieldsList-from_map_by, items_from_drains}
use Rattle.epoch_rules.proofs.ByKey.{shown, own, mapped, mapped_keyed, mapped_lines}
use Rattle.epoch_rules.proofs.neighbours.lines_by_key.Goals as goal

pub returns-clause-lines : goal.returns-clause-lines
returns-clause-lines c =
    let ran = c.in_ok-by_key.ensures.ran in
    let are : map shown ran.0 ≡ map own c.args.lines.now = items_from_drains ran.0 ran.1 (YieldsList-from_map_by {s = c.map.result} _ shown own (YieldsList-from_slice c.args.lines.now (ap iter_rest c.map.ensures.source ∙ c.iter.ensures.rest)) c.map.ensures.closure (λ x r q k. search (rules, of_calls))) in
    mapped_lines c.in_ok-by_key.by_key c.args.lines.now (mapped ran.0 c.in_ok-by_key.by_key c.args.lines.now ran.2 are c.requires)

pub returns-clause-keyed : goal.returns-clause-keyed
returns-clause-keyed c =
    let ran = c.in_ok-by_key.ensures.ran in
    let are : map shown ran.0 ≡ map own c.args.lines.now = items_from_drains ran.0 ran.1 (YieldsList-from_map_by {s = c.map.result} _ shown own (YieldsList-from_slice c.args.lines.now (ap iter_rest c.map.ensures.source ∙ c.iter.ensures.rest)) c.map.ensures.closure (λ x r q k. search (rules, of_calls))) in
    mapped_keyed c.in_ok-by_key.by_key c.args.lines.now (mapped ran.0 c.in_ok-by_key.by_key c.args.lines.now ran.2 are c.requires)
