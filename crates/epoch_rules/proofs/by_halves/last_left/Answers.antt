use Rattle.std.proofs.Common.{◌∙◌, not, cond, [], ◌∷◌, ◌++◌, map, sym, ap, arith}
use Rattle.std.proofs.lemmas.List.{append-nil}
use Rattle.epochs.specs.Views.{values_of_line}
use Rattle.epoch_rules.specs.Overlays.{left_of}
use Rattle.epoch_rules.proofs.OverlaySteps.{contained, left_last}
use Rattle.epoch_rules.proofs.by_halves.last_left.Goals as goal

pub lines-preserved : goal.lines-preserved
lines-preserved c =
    let gone = c.args.gone.now in
    let e = values_of_line c.in-Some.line.now in
    let before = left_of gone (map values_of_line c.in-Some.before.now) in
    let among = sym (contained gone c.contains.result c.key_view.result e c.contains.ensures c.key_view.ensures) ∙ c.if-not-contains.false in
    sym (left_last gone c.lines.rest.now c.in-Some.before.now c.in-Some.line.now c.in-Some.ensures.cases.0 ∙ ap (λ b. before ++ cond (not b) (e ∷ []) []) among ∙ append-nil before) ∙ c.lines.invariant

pub lines-smaller : goal.lines-smaller
lines-smaller c = omega (arith, c.in-Some.ensures.cases.1)

pub returns-then-not-contains : goal.returns-then-not-contains
returns-then-not-contains c =
    let gone = c.args.gone.now in
    let e = values_of_line c.in-Some.line.now in
    let before = left_of gone (map values_of_line c.in-Some.before.now) in
    let among = sym (contained gone c.contains.result c.key_view.result e c.contains.ensures c.key_view.ensures) ∙ c.if-not-contains.true in
    (before, sym c.lines.invariant ∙ left_last gone c.lines.rest.now c.in-Some.before.now c.in-Some.line.now c.in-Some.ensures.cases.0 ∙ ap (λ b. before ++ cond (not b) (e ∷ []) []) among)
