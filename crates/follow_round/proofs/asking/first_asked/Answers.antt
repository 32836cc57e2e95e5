use Rattle.std.proofs.Common.{◌≡◌, ◌∙◌, ◌++◌, ◌∷◌, [], List, true, codes, refl, ap}
use Rattle.httparse.specs.Grammar.{is_token, is_token_byte}
use Rattle.http_wire.specs.Heads.{is_lower_token, is_target}
use Rattle.http_wire.specs.declared.field.Field.{Field}
use Rattle.follow_round.proofs.Visible.{is_a_target}
use Rattle.follow_round.proofs.RequestBytes.{first_is}
use Rattle.follow_round.proofs.asking.first_asked.Goals as goal

lower_host : is_lower_token (codes "host") ≡ true
unfolding is_token_byte
lower_host = refl

get : is_token (codes "GET") ≡ true
unfolding is_token_byte
get = refl

pub field_of-requires-clause-name : goal.field_of-requires-clause-name
field_of-requires-clause-name c = lower_host

pub invariant_of-result : goal.invariant_of-result
invariant_of-result c = record {
  method_is = ap is_token c.in_ok-bytes_of.ensures ∙ get;
  target_is = ap is_target c.in_ok-target_of.ensures ∙ is_a_target c.args.wanted c.ranges.wanted.fits;
}

pub returns : goal.returns
returns c =
    let host = c.in_ok-field_of.field-0 in
    let fields : c.push.new.self ≡ host ∷ [] =
    c.in_ok-push.ensures.ok ∙ ap (λ (fs : List Field). fs ++ host ∷ []) c.new-fields.ensures in
    first_is c.args.wanted _ _ _ host c.in_ok-bytes_of.ensures c.in_ok-target_of.ensures fields c.in_ok-field_of.ensures
