use Rattle.std.proofs.Common.{◌≡◌, ◌∙◌, ◌++◌, ◌∷◌, [], List, ℕ, true, codes, refl, ap}
use Rattle.httparse.specs.Grammar.{is_token, is_token_byte}
use Rattle.http_digest.specs.Answers.{are_visible, authorization_text}
use Rattle.http_wire.specs.Heads.{is_lower_token, is_target, is_value}
use Rattle.http_wire.specs.declared.field.Field.{Field}
use Rattle.follow_round.specs.Requests.{entries_target}
use Rattle.follow_round.proofs.Visible.{is_a_target, target_visible, user_visible, answer_is_value}
use Rattle.follow_round.proofs.RequestBytes.{second_is}
use Rattle.follow_round.proofs.asking.second_asked.Goals as goal

lower_host : is_lower_token (codes "host") ≡ true
unfolding is_token_byte
lower_host = refl

lower_authorization : is_lower_token (codes "authorization") ≡ true
unfolding is_token_byte
lower_authorization = refl

get : is_token (codes "GET") ≡ true
unfolding is_token_byte
get = refl

pub authorization_of-requires-clause-user : goal.authorization_of-requires-clause-user
authorization_of-requires-clause-user c = ap are_visible c.as_slice.ensures ∙ user_visible c.args.user.now c.requires.user

pub authorization_of-requires-clause-target : goal.authorization_of-requires-clause-target
authorization_of-requires-clause-target c = ap are_visible (c.as_slice-2.ensures ∙ c.in_ok-target.ensures) ∙ target_visible c.args.wanted c.ranges.wanted.fits

pub field_of-requires-clause-name : goal.field_of-requires-clause-name
field_of-requires-clause-name c = lower_host

pub field_of-requires-2-clause-name : goal.field_of-requires-2-clause-name
field_of-requires-2-clause-name c = lower_authorization

pub invariant_of-result : goal.invariant_of-result
invariant_of-result c = record {
  method_is = ap is_token c.in_ok-bytes_of.ensures ∙ get;
  target_is = ap is_target c.in_ok-target.ensures ∙ is_a_target c.args.wanted c.ranges.wanted.fits;
}

pub field_of-requires-2-clause-value : goal.field_of-requires-2-clause-value
field_of-requires-2-clause-value c =
    let target = c.as_slice-2.ensures ∙ c.in_ok-target.ensures in
    let text : c.in_ok-answer.answer ≡ authorization_text c.args.user.now c.args.ha1.now (codes "GET") (entries_target c.args.wanted) c.args.nonce.now =
    c.in_ok-answer.ensures ∙ (λ i. authorization_text (c.as_slice.ensures i) c.args.ha1.now (codes "GET") (target i) (c.as_slice-3.ensures i)) in
    ap is_value (c.as_slice-4.ensures ∙ text)
    ∙ answer_is_value c.args.user.now c.args.ha1.now (codes "GET") (entries_target c.args.wanted) c.args.nonce.now
    (user_visible c.args.user.now c.requires.user) (target_visible c.args.wanted c.ranges.wanted.fits) c.requires.nonce

pub returns : goal.returns
returns c =
    let host = c.in_ok-field_of.field-0 in
    let answer = c.in_ok-field_of-2.field-0 in
    let target = c.as_slice-2.ensures ∙ c.in_ok-target.ensures in
    let text : c.in_ok-answer.answer ≡ authorization_text c.args.user.now c.args.ha1.now (codes "GET") (entries_target c.args.wanted) c.args.nonce.now =
    c.in_ok-answer.ensures ∙ (λ i. authorization_text (c.as_slice.ensures i) c.args.ha1.now (codes "GET") (target i) (c.as_slice-3.ensures i)) in
    let fields : c.push-2.new.self ≡ host ∷ answer ∷ [] =
    c.in_ok-push-2.ensures.ok
    ∙ ap (λ (fs : List Field). fs ++ answer ∷ []) (c.in_ok-push.ensures.ok ∙ ap (λ (fs : List Field). fs ++ host ∷ []) c.new-fields.ensures) in
    let pair = c.in_ok-field_of-2.ensures ∙ ap (λ (value : List ℕ). (codes "authorization", value)) (c.as_slice-4.ensures ∙ text) in
    second_is c.args.user.now c.args.ha1.now c.args.wanted c.args.nonce.now _ _ _ host answer
    c.in_ok-bytes_of.ensures c.in_ok-target.ensures fields c.in_ok-field_of.ensures pair
