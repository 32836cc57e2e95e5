use Rattle.std.proofs.Common.{◌∙◌, not, ◌&&◌, ◌||◌, List, take, refl, ap}
use Rattle.std.specs.List.{list_any}
use Rattle.epoch_rules.specs.declared.endings.Ending.{Ending}
use Rattle.epoch_rules.specs.Endings.{parts_of_ending}
use Rattle.epoch_rules.proofs.Ended.{any_inserted}
use Rattle.epoch_rules.proofs.EndsLaid.{Any, is_in, none_taken, one_put, one_taken, undone}
use Rattle.epoch_rules.proofs.laying.put_ends.Goals as goal

pub returns-in-Err-clause-err : goal.returns-in-Err-clause-err
returns-in-Err-clause-err c = λ test.
    let old = c.args.ends.now.keys in
    let part = take c.ends.place c.args.list.now in
    c.drop_ends.ensures test
    ∙ ap (λ (l : List Ending). Any l (λ p. not (is_in part p) && test p)) c.in-Err.ensures.err
    ∙ c.ends.invariant (λ p. not (is_in part p) && test p)
    ∙ undone old part test (none_taken (λ q. is_in old (parts_of_ending q)) c.args.list.now c.ends.place c.requires)

pub ends-preserved : goal.ends-preserved
ends-preserved c = λ test.
    let old = c.args.ends.now.keys in
    let list = c.args.list.now in
    let i = c.ends.place in
    let item = c.index-list-place.result in
    ap (list_any (λ q. test (parts_of_ending q))) c.in-Ok.ensures.keys
    ∙ any_inserted _ (λ a b. refl) test c.ends.ends.keys item
    ∙ ap (λ b. test (parts_of_ending item) || b) (c.ends.invariant test)
    ∙ one_put old (take i list) item test
    ∙ ap (λ (l : List Ending). Any old test || Any l test) (one_taken list i item c.ends-test.true c.index-list-place.is)
