use Rattle.std.proofs.Common.{◌∙◌, not, ◌&&◌, List, take, refl, ap}
use Rattle.std.specs.Ordering.{is_eq}
use Rattle.std.proofs.lemmas.List.{take_all}
use Rattle.epoch_rules.specs.declared.endings.Ending.{Ending}
use Rattle.epoch_rules.specs.Endings.{EndingParts, ending_cmp, parts_of_ending}
use Rattle.epoch_rules.proofs.Ended.{ends_removed}
use Rattle.epoch_rules.proofs.EndsLaid.{Any, is_in, one_less, one_taken}
use Rattle.epoch_rules.proofs.laying.drop_ends.Goals as goal

pub ends-preserved : goal.ends-preserved
ends-preserved c = λ test.
    let old = c.args.ends.now.keys in
    let list = c.args.list.now in
    let i = c.ends.end-index in
    let item = c.end-item.result in
    ends_removed _ (λ a b. refl) c.ends.ends.keys c.remove.new.self.keys item c.remove.ensures.updates.0 test
    ∙ c.ends.invariant (λ (q : EndingParts). not (is_eq (ending_cmp (parts_of_ending item) q)) && test q)
    ∙ one_less old (take i list) item test
    ∙ ap (λ (l : List Ending). Any old (λ p. not (is_in l p) && test p)) (one_taken list i item c.ends-test.true c.end-item.is)

pub returns : goal.returns
returns c = λ test.
    c.ends.invariant test ∙ ap (λ (l : List Ending). Any c.args.ends.now.keys (λ p. not (is_in l p) && test p)) (take_all c.ends.end-index c.args.list.now c.ends-test.false)
