use Rattle.std.proofs.Common.{rules, of_calls, ◌≡◌, ◌∙◌, ◌<◌, ◌-◌, ℕ, true, false, List, length, take, drop, get_or, ap, refl, sym, subst, ◌≤◌, arith}
use Rattle.std.specs.List.Sorted.{IsPartitionPoint}
use Rattle.std.proofs.lemmas.List.{length-drop, length-take-le, get_or_default}
use Rattle.std.proofs.lemmas.List.Sorted.{IsPartitionPoint-from_clause}
use Rattle.epoch_rules.proofs.Cuts.{whole_rest}
use Rattle.epoch_catalog.specs.declared.withdrawals.Head.{Head}
use Rattle.epoch_catalog.specs.declared.withdrawals.Mark.{Mark}
use Rattle.epoch_catalog.specs.declared.withdrawals.NameMark.{NameMark}
use Rattle.epoch_catalog.proofs.MarkedHeads.{is_up_to, parted_names, sorted_order}
use Rattle.epoch_catalog.proofs.MarkedNames.{AreNamed, none_named, one_named, some_first}
use Rattle.epoch_catalog.proofs.withdrawals.mark_names.Goals as goal

pub names-init : goal.names-init
names-init c = record {
  named =
      subst (λ (p : List NameMark × List Mark). AreNamed c.args.heads.now c.args.heads.now p.0 p.1) (λ i. (sym c.requires.names_empty i, sym c.requires.marks_empty i))
      (none_named c.args.heads.now (sorted_order c.args.heads.now c.requires.sorted));
  few = search rules;
  walked = search rules;
  names_room = search rules;
  marks_room = search rules;
}

pub names-smaller : goal.names-smaller
names-smaller c =
    let rest : List Head = c.names.rest.now in
    let head : Head = c.in-Some.head.now in
    let count : ℕ = c.partition_point-count.result in
    let parts : IsPartitionPoint (λ h. is_up_to head.name h ≡ true) (λ h. is_up_to head.name h ≡ false) rest count =
    IsPartitionPoint-from_clause (is_up_to head.name) rest count c.partition_point-count.ensures.partitioned (parted_names head.name rest c.names.invariant.named.order) (λ a r g k. search (rules, of_calls)) in
    let fits : count ≤ length rest = c.partition_point-count.ensures.bound in
    let some : 0 < length rest = search rules in
    let first : (d : Head) → get_or rest 0 d ≡ head = λ d. get_or_default rest 0 d head some ∙ search rules in
    let more = some_first rest head count first some parts in
    let size = ap length (whole_rest count rest) ∙ length-drop count rest in
    omega (arith, more, size, some, fits)

pub names-preserved : goal.names-preserved
names-preserved c =
    let rest : List Head = c.names.rest.now in
    let head : Head = c.in-Some.head.now in
    let count : ℕ = c.partition_point-count.result in
    let parts : IsPartitionPoint (λ h. is_up_to head.name h ≡ true) (λ h. is_up_to head.name h ≡ false) rest count =
    IsPartitionPoint-from_clause (is_up_to head.name) rest count c.partition_point-count.ensures.partitioned (parted_names head.name rest c.names.invariant.named.order) (λ a r g k. search (rules, of_calls)) in
    let fits : count ≤ length rest = c.partition_point-count.ensures.bound in
    let some : 0 < length rest = search rules in
    let first : (d : Head) → get_or rest 0 d ≡ head = λ d. get_or_default rest 0 d head some ∙ search rules in
    let more = some_first rest head count first some parts in
    let size = ap length (whole_rest count rest) ∙ length-drop count rest in
    let n : NameMark = record { name = head.name; first = c.len.result; count = count } in
    let begins : c.len.result ≡ length c.names.marks.items = search rules in
    record {
      named =
          subst (λ (p : List Head × List NameMark × List Mark). AreNamed c.args.heads.now p.0 p.1 p.2) (λ i. (sym (whole_rest count rest) i, sym c.push_reserved.ensures.items i, sym c.mark_heads.ensures.marks i))
          (one_named c.args.heads.now rest c.names.names.items c.names.marks.items n head head.end c.names.invariant.named first refl begins more fits parts);
      few = (let pushed = c.push_reserved.ensures.len in let few = c.names.invariant.few in omega (arith, pushed, few, size, more, fits));
      walked =
          (let pushed = c.mark_heads.ensures.len in
          let ran = length-take-le count rest fits in
          let walked = c.names.invariant.walked in
          omega (arith, pushed, walked, size, ran, fits));
      names_room = search rules;
      marks_room = search rules;
    }
