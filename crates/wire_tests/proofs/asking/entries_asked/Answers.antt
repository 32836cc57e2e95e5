use Rattle.std.proofs.Common.{◌≡◌, true, codes, refl, ap, ◌∙◌}
use Rattle.httparse.specs.Grammar.{is_token, is_token_byte}
use Rattle.http_wire.specs.Heads.{is_lower_token, is_value, is_target}
use Rattle.wire_tests.proofs.asking.entries_asked.Goals as goal

lower_host : is_lower_token (codes "host") ≡ true
unfolding is_token_byte
lower_host = refl

lower_connection : is_lower_token (codes "connection") ≡ true
unfolding is_token_byte
lower_connection = refl

get : is_token (codes "GET") ≡ true
unfolding is_token_byte
get = refl

pub invariant_of-push : goal.invariant_of-push
invariant_of-push c = record {
  name_is = ap is_lower_token c.in_ok-bytes_of.ensures ∙ lower_host;
  value_is = ap is_value c.in_ok-bytes_of-2.ensures;
}

pub invariant_of-push-2 : goal.invariant_of-push-2
invariant_of-push-2 c = record {
  name_is = ap is_lower_token c.in_ok-bytes_of-3.ensures ∙ lower_connection;
  value_is = ap is_value c.in_ok-bytes_of-4.ensures;
}

pub invariant_of-result : goal.invariant_of-result
invariant_of-result c = record {
  method_is = ap is_token c.in_ok-bytes_of-5.ensures ∙ get;
  target_is = ap is_target c.in_ok-bytes_of-6.ensures;
}
