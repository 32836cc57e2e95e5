use Rattle.std.proofs.Common.{◌∙◌, refl, ap}
use Rattle.std.specs.List.{list_any}
use Rattle.std.specs.Ordering.{is_eq}
use Rattle.epoch_rules.specs.Endings.{ending_cmp, parts_of_ending}
use Rattle.epoch_rules.proofs.Ended.{any_inserted}
use Rattle.epoch_rules.proofs.ends_over.EndsOver.drop_below.Goals as goal

pub returns-clause-gone : goal.returns-clause-gone
returns-clause-gone c = λ some p.
    ap (list_any (λ q. is_eq (ending_cmp p (parts_of_ending q)))) c.in_ok-insert.ensures.keys
    ∙ any_inserted _ (λ a b. refl) (λ q. is_eq (ending_cmp p q)) c.args.self.now.gone.keys c.args.ending
