use Rattle.std.proofs.Common.{◌≡◌, ◌∙◌, ◌++◌, ◌∷◌, [], List, true, codes, refl, ap}
use Rattle.httparse.specs.Grammar.{is_token, is_token_byte}
use Rattle.http_wire.specs.Heads.{is_lower_token, is_target}
use Rattle.http_wire.specs.declared.field.Field.{Field}
use Rattle.split_fetch.proofs.TargetBytes.{target_is, request_is}
use Rattle.split_fetch.proofs.asking.asked_for.Goals as goal

lower_host : is_lower_token (codes "host") ≡ true
unfolding is_token_byte
lower_host = refl

lower_connection : is_lower_token (codes "connection") ≡ true
unfolding is_token_byte
lower_connection = refl

get : is_token (codes "GET") ≡ true
unfolding is_token_byte
get = refl

pub field_of-requires-clause-name : goal.field_of-requires-clause-name
field_of-requires-clause-name c = lower_host

pub field_of-requires-2-clause-name : goal.field_of-requires-2-clause-name
field_of-requires-2-clause-name c = lower_connection

pub invariant_of-result : goal.invariant_of-result
invariant_of-result c = record {
  method_is = ap is_token c.in_ok-bytes_of.ensures ∙ get;
  target_is = ap is_target c.in_ok-target_of.ensures ∙ target_is c.args.codes.now c.args.window.now;
}

pub returns : goal.returns
returns c =
    let host = c.in_ok-field_of.field-0 in
    let close = c.in_ok-field_of-2.field-0 in
    let fields : c.push-2.new.self ≡ host ∷ close ∷ [] =
    c.in_ok-push-2.ensures.ok
    ∙ ap (λ (fs : List Field). fs ++ close ∷ []) (c.in_ok-push.ensures.ok ∙ ap (λ (fs : List Field). fs ++ host ∷ []) c.new-fields.ensures) in
    request_is c.args.codes.now c.args.window.now _ _ _ host close c.in_ok-bytes_of.ensures c.in_ok-target_of.ensures fields c.in_ok-field_of.ensures c.in_ok-field_of-2.ensures
