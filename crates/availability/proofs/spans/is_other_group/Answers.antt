use Rattle.std.proofs.Common.{ap, ◌∙◌}
use Rattle.std.specs.Ordering.{is_ne}
use Rattle.availability.specs.Windows.{group_cmp}
use Rattle.availability.proofs.GroupsAlike.{groups_alike, unequal}
use Rattle.availability.proofs.Orders.{group_same}
use Rattle.availability.proofs.spans.is_other_group.Goals as goal

pub returns : goal.returns
returns c =
    let a = c.group_of-a.result in
    let b = c.group_of-b.result in
    c.is_ne.ensures
    ∙ ap is_ne (c.cmp.ensures ∙ (λ i. group_same i a b) ∙ (λ i. group_cmp (c.group_of-a.ensures i) (c.group_of-b.ensures i)) ∙ groups_alike c.args.query.now c.args.a.now.header c.args.b.now.header)
    ∙ unequal _
