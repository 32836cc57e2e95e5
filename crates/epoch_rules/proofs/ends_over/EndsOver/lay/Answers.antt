use Rattle.std.proofs.Common.{◌∙◌, not, ◌&&◌, ◌||◌, List, sym, ap}
use Rattle.epoch_rules.specs.declared.endings.Ending.{Ending}
use Rattle.epoch_rules.specs.Endings.{has_end}
use Rattle.epoch_rules.specs.EndsOver.{has_left}
use Rattle.epoch_rules.proofs.EndsLaid.{Any, is_in, laid, none_there}
use Rattle.epoch_rules.proofs.ends_over.EndsOver.lay.Goals as goal

pub put_ends-requires : goal.put_ends-requires
put_ends-requires c =
    let old = c.args.ends.now.keys in
    ap (λ (l : List Ending). Any l (is_in old)) c.deref.ensures.value ∙ c.in_ok-more.ensures (is_in old) ∙ none_there old c.args.self.put.keys

pub returns-clause-ok : goal.returns-clause-ok
returns-clause-ok c = λ test.
    let o = c.args.self in
    let old = c.args.ends.now.keys in
    let more = c.in_ok-more.more.items in
    let fewer = c.in_ok-fewer.fewer.items in
    c.drop_ends.ensures test
    ∙ ap (λ (l : List Ending). has_end c.put_ends.new.ends (λ p. not (is_in l p) && test p)) c.deref-2.ensures.value
    ∙ c.in_ok-put_ends.ensures.ok (λ p. not (is_in fewer p) && test p)
    ∙ ap (λ (l : List Ending). Any old (λ p. not (is_in fewer p) && test p) || Any l (λ p. not (is_in fewer p) && test p)) c.deref.ensures.value
    ∙ laid old o.put.keys o.gone.keys more fewer c.in_ok-more.ensures c.in_ok-fewer.ensures test
    ∙ ap (λ b. (not b && has_left o.gone c.args.ends.now test) || has_end o.put test) (sym c.if-self.false)
