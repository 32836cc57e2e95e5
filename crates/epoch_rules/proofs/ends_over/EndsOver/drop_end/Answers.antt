use Rattle.std.proofs.Common.{◌∙◌, not, ◌&&◌, ◌||◌, Bool, refl, ap}
use Rattle.std.specs.Ordering.{is_eq}
use Rattle.std.specs.BTreeSet.{BTreeSet}
use Rattle.epoch_rules.specs.declared.endings.Ending.{Ending}
use Rattle.epoch_rules.specs.Endings.{ending_cmp, has_end, parts_of_ending}
use Rattle.epoch_rules.specs.EndsOver.{has_left}
use Rattle.epoch_rules.proofs.EndsLaid.{dropped}
use Rattle.epoch_rules.proofs.Ended.{ends_removed}
use Rattle.epoch_rules.proofs.ends_over.EndsOver.drop_end.Goals as goal

pub returns : goal.returns
returns c = λ ends test.
    let o = c.args.self.now in
    let n = c.drop_below.new.self in
    let e = parts_of_ending c.args.ending in
    ap (λ (b : Bool). (not b && has_left n.gone ends test) || has_end c.remove.new.self test) c.in_ok-drop_below.ensures.all
    ∙ dropped o.all o.gone n.gone o.put c.remove.new.self e c.in_ok-drop_below.ensures.gone
    (λ t.
    ends_removed _ (λ a b. refl) n.put.keys c.remove.new.self.keys c.args.ending c.remove.ensures.updates.0 t
    ∙ ap (λ (s : BTreeSet Ending). has_end s (λ q. not (is_eq (ending_cmp e q)) && t q)) c.in_ok-drop_below.ensures.put) ends test
