use Rattle.std.proofs.Common.{◌∙◌, sym, ap, [], ◌∷◌, option_map, option_to_list}
use Rattle.centre_desk.proofs.Values.{passed_over, found_here, found_twice, all_seen, found_none, found_value}
use Rattle.centre_desk.proofs.fields.only_value.Goals as goal
use Rattle.centre_desk.proofs.fields.only_value.Goals.{then-is_named+else-is_some, else-is_named}

pub returns-then-is_some-clause-twice : goal.returns-then-is_some-clause-twice
returns-then-is_some-clause-twice c =
    let found = option_map (λ value. value.now) c.fields.found in
    let one = found_value c.fields.found (sym c.is_some.ensures ∙ c.if-is_some.true) in
    found_twice c.args.name.now c.args.headers.now c.fields.field-index c.field-item.result one.0 record {} c.fields-test.true c.field-item.is (sym c.is_named.ensures ∙ c.if-is_named.true) (c.fields.invariant ∙ ap option_to_list one.1)

pub fields-preserved : goal.fields-preserved
fields-preserved c = elim c.if-is_named.branch [
  | then-is_named+else-is_some w ↦
      found_here c.args.name.now c.args.headers.now c.fields.field-index c.field-item.result c.fields-test.true c.field-item.is (sym c.is_named.ensures ∙ w.if-is_named.true)
      (c.fields.invariant ∙ ap option_to_list (found_none c.fields.found (sym w.is_some.ensures ∙ w.if-is_some.false)))
      ∙ (ap (λ v. v ∷ []) (sym w.as_slice.ensures) ∙ sym (ap (λ o. option_to_list (option_map (λ value. value.now) o)) w.found-is))
  | else-is_named w ↦
      passed_over c.args.name.now c.args.headers.now c.fields.field-index c.field-item.result (option_map (λ value. value.now) c.fields.found) c.fields-test.true c.field-item.is (sym c.is_named.ensures ∙ w.if-is_named.false) c.fields.invariant
      ∙ sym (ap (λ o. option_to_list (option_map (λ value. value.now) o)) w.found-is)
]

pub returns-clause-once : goal.returns-clause-once
returns-clause-once c = all_seen c.args.name.now c.args.headers.now c.fields.field-index (option_map (λ value. value.now) c.fields.found) c.fields-test.false c.fields.invariant
