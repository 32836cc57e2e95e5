use Rattle.list_laws.proofs.Mended.{mend_swap, apart_mend}
use Rattle.list_laws.proofs.spans_go_in_in_any_order.Goals as goal

pub returns : goal.returns
returns g c = λ start reach join comm assoc start_join reach_join s x ts fs fx apart.
    (apart_mend start reach join comm assoc start_join reach_join s ts fs apart, mend_swap start reach join comm assoc start_join reach_join s x ts fs fx apart)
