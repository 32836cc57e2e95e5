use Rattle.std.proofs.Common.{ap, ◌∙◌}
use Rattle.http_digest.specs.Items.{has_name}
use Rattle.http_digest.proofs.NamesOnce.{twice_found}
use Rattle.http_digest.proofs.parts.names_are_once.Goals as goal

pub returns-then-not-branch : goal.returns-then-not-branch
returns-then-not-branch c =
    let held = c.items.invariant in
    twice_found c.args.items.now c.items.left.now c.in-Some.rest.now held.0 c.in-Some.item.now _ _ held.1 c.in-Some.ensures.cases.0 c.in_ok-add_name.ensures.added c.if-not-branch.true (ap (has_name c.items.names) c.as_slice.ensures ∙ held.3 c.in-Some.item.now.name)
