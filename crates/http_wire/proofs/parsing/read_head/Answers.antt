use Rattle.std.proofs.Common.{rules, ◌≡◌, ℕ, List, ◌∙◌, ap, arith, length, map}
use Rattle.httparse.specs.Grammar.{is_token}
use Rattle.httparse.specs.Spans.{name_and_value, IsRequestOf}
use Rattle.http_wire.specs.Heads.{HeadView, head_said, in_lower_case, is_target}
use Rattle.http_wire.specs.HeadReading.{head_view}
use Rattle.http_wire.specs.FieldPairs.{as_pair}
use Rattle.http_wire.proofs.Lawful.{lawful_method, lawful_target, lawful_spans, parse_whole}
use Rattle.http_wire.proofs.parsing.read_head.Goals as goal

pub spanned_fields-requires-clause-lawful : goal.spanned_fields-requires-clause-lawful
spanned_fields-requires-clause-lawful c =
    let of : IsRequestOf c.args.block.now c.parse_request.new.headers c.in-Ok-Complete.found = rw c.in-Ok-Complete.field-0-is at c.in-Ok-Complete.ensures.complete in
    lawful_spans c.args.block.now c.parse_request.new.headers c.in-Ok-Complete.found of

pub head_of-requires-clause-method : goal.head_of-requires-clause-method
head_of-requires-clause-method c =
    let of : IsRequestOf c.args.block.now c.parse_request.new.headers c.in-Ok-Complete.found = rw c.in-Ok-Complete.field-0-is at c.in-Ok-Complete.ensures.complete in
    ap is_token c.of.ensures ∙ lawful_method c.args.block.now c.parse_request.new.headers c.in-Ok-Complete.found of

pub head_of-requires-clause-target : goal.head_of-requires-clause-target
head_of-requires-clause-target c =
    let of : IsRequestOf c.args.block.now c.parse_request.new.headers c.in-Ok-Complete.found = rw c.in-Ok-Complete.field-0-is at c.in-Ok-Complete.ensures.complete in
    ap is_target c.of-in-Ok-Complete.ensures ∙ lawful_target c.args.block.now c.parse_request.new.headers c.in-Ok-Complete.found of

pub returns-in_ok-head-in-Ok-Complete : goal.returns-in_ok-head-in-Ok-Complete
returns-in_ok-head-in-Ok-Complete c =
    let headers = c.parse_request.new.headers in
    let found = c.in-Ok-Complete.found in
    let of : IsRequestOf c.args.block.now headers found = rw c.in-Ok-Complete.field-0-is at c.in-Ok-Complete.ensures.complete in
    let whole = parse_whole c.args.block.now headers found c.requires of in
    let tree = whole.0 in
    let at = whole.2 in
    let method : c.of.result.now ≡ tree.method = c.of.ensures ∙ at.method in
    let target : c.of-in-Ok-Complete.result.now ≡ tree.target = c.of-in-Ok-Complete.ensures ∙ at.path in
    let fields : map as_pair c.in_ok-fields-in-Ok-Complete.fields ≡ map in_lower_case (map name_and_value tree.fields) =
    c.in_ok-fields-in-Ok-Complete.ensures ∙ ap (map in_lower_case) at.fields in
    let view : head_view c.in_ok-head-in-Ok-Complete.head ≡ head_said tree =
    c.in_ok-head-in-Ok-Complete.ensures ∙ said_same method target at.version fields in
    let size : length headers ≡ 64 = search rules in
    (tree, whole.1, view, omega (arith, whole.3, size))
  where
    said_same : {m n t u : List ℕ} {v w : ℕ} {f g : List (List ℕ × List ℕ)} → m ≡ n → t ≡ u → v ≡ w → f ≡ g
        → (let one : HeadView = record { method = m; target = t; minor = v; fields = f } in one) ≡ record { method = n; target = u; minor = w; fields = g }
    said_same a b c d = cc
