use Rattle.std.proofs.Common.{rules, ◌≡◌, ◌∙◌, map, subst, Ordering, Some}
use Rattle.std.specs.BTreeMap.{get}
use Rattle.std.specs.List.{AllByRecursion}
use Rattle.std.specs.List.Sorted.{IsStrictlySortedBy}
use Rattle.std.proofs.lemmas.List.Elements.{recursion_from_All}
use Rattle.dataselect.specs.MergedSpans.{value_of}
use Rattle.time_index.specs.declared.kind.Kind.{Kind}
use Rattle.time_index.specs.Kept.{kind_cmp, told_values}
use Rattle.time_index.specs.contracts.kind.KindOrd.TheImpl.{cmp-value as by_kind}
use Rattle.time_index.proofs.KeptKinds.{kind_same, keys_of, kinds_are_merged, told_are}
use Rattle.time_index.proofs.kinds.list_spans.Goals as goal

pub returns : goal.returns
returns c = λ rows few kept.
    let name = c.args.name.now in
    let kinds = c.args.kinds.now in
    let all : map value_of c.kinds.spans ≡ told_values name kinds.entries = search rules in
    let at = subst (λ (cmp : Kind → Kind → Ordering). AllByRecursion (λ e. get cmp kinds e.0 ≡ Some e.1) kinds.entries) kind_same
    (recursion_from_All (λ e. get by_kind.it kinds e.0 ≡ Some e.1) kinds.entries c.into_iter-kind-iterator.ensures.into_iter_gives.6) in
    let up : IsStrictlySortedBy kind_cmp (keys_of kinds.entries) = subst (λ (cmp : Kind → Kind → Ordering). IsStrictlySortedBy cmp (keys_of kinds.entries)) kind_same c.len.ensures.ordered in
    all ∙ told_are name rows few kinds kept at up ∙ kinds_are_merged name rows few kinds kept at up
