use Rattle.std.proofs.Common.{◌∙◌, not, ◌&&◌, ◌||◌, refl, ap}
use Rattle.std.specs.List.{list_any}
use Rattle.epochs.specs.Views.{values_of_line}
use Rattle.epoch_rules.specs.Endings.{ending_of, has_end, parts_of_ending}
use Rattle.epoch_rules.specs.EndsOver.{has_left}
use Rattle.epoch_rules.proofs.Ended.{any_inserted}
use Rattle.epoch_rules.proofs.Members.{or_swap}
use Rattle.epoch_rules.proofs.ends_over.EndsOver.keep.Goals as goal

pub returns-in_ok-insert-clause-child : goal.returns-in_ok-insert-clause-child
returns-in_ok-insert-clause-child c = λ child ends test.
    let o = c.args.self.now in
    let below = not o.all && has_left o.gone ends test in
    ap (λ b. below || b)
    (ap (list_any (λ q. test (parts_of_ending q))) c.in_ok-insert.ensures.keys
    ∙ any_inserted _ (λ a b. refl) test o.put.keys c.in-Some.ending
    ∙ ap (λ p. test p || has_end o.put test) c.in-Some.ensures.1)
    ∙ or_swap below (test (ending_of (values_of_line c.args.line.now))) (has_end o.put test)
