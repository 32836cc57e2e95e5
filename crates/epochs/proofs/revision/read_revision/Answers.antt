use Rattle.std.proofs.Common.{arith, rules, tests, ◌≡◌, ◌+◌, ◌∙◌, ◌∷◌, ◌++◌, [], List, map, Err, inl, inr, refl, ap, sym, subst}
use Rattle.std.proofs.lemmas.Bool.Decides.{nat_tests}
use Rattle.std.proofs.lemmas.List.{map-append}
use Rattle.epochs.specs.Lines.{LineValues}
use Rattle.epochs.specs.Views.{values_of_line}
use Rattle.epochs.specs.declared.fault.LineFault.TheVariants.{NoLine}
use Rattle.epochs.specs.declared.fault.RevisionFault.{RevisionFault}
use Rattle.epochs.specs.declared.fault.RevisionFault.TheVariants.{Bad}
use Rattle.epochs.specs.Reading.{HasReadLines}
use Rattle.epochs.specs.Revisions.{RefusesRevision}
use Rattle.epochs.proofs.OneRevision.{only_read, only_refused}
use Rattle.epochs.proofs.RevisionSteps.{skip, take_line, refuse, silent, whole}
use Rattle.epochs.proofs.revision.read_revision.Goals as goal

pub lines-preserved-in_ok-push-in-Ok : goal.lines-preserved-in_ok-push-in-Ok
lines-preserved-in_ok-push-in-Ok c =
    let body = c.args.body.now in
    let line = c.cut_line.result.0.now in
    let rest = c.cut_line.result.1.now in
    let spelled = map values_of_line c.lines.lines in
    let more = take_line body c.lines.left.now c.lines.number spelled line rest c.lines.invariant c.cut_line.ensures.cut (values_of_line c.in-Ok.line) c.cut_line.ensures.shorter (search (rules, tests)) c.in-Ok.ensures.line in
    let same : map values_of_line c.push.new.self ≡ spelled ++ values_of_line c.in-Ok.line ∷ [] = ap (map values_of_line) c.in_ok-push-in-Ok.ensures.ok ∙ map-append values_of_line c.lines.lines (c.in-Ok.line ∷ []) in
    subst (λ (es : List LineValues). HasReadLines body rest (c.lines.number + 1) es) (sym same) more

pub lines-preserved : goal.lines-preserved
lines-preserved c =
    skip c.args.body.now c.lines.left.now c.lines.number (map values_of_line c.lines.lines) c.cut_line.result.0.now c.cut_line.result.1.now c.lines.invariant c.cut_line.ensures.cut c.cut_line.ensures.shorter (search (rules, tests))

pub returns-then-is_empty-clause-refused : goal.returns-then-is_empty-clause-refused
returns-then-is_empty-clause-refused c =
    let none : map values_of_line c.lines.lines ≡ [] = ap (map values_of_line) (c.is_empty-2.ensures.0 c.if-is_empty.true) in
    (refl, silent c.args.body.now c.lines.left.now c.lines.number (map values_of_line c.lines.lines) c.lines.invariant (grind (arith, nat_tests)) none)

pub returns-in-Err-clause-exact : goal.returns-in-Err-clause-exact
returns-in-Err-clause-exact c =
    let body = c.args.body.now in
    let refused = refuse body c.lines.left.now c.lines.number (map values_of_line c.lines.lines) c.cut_line.result.0.now c.cut_line.result.1.now c.lines.invariant c.cut_line.ensures.cut c.in-Err.fault (search (rules, tests)) c.in-Err.ensures.refused in
    elim (only_refused body c.raised.result (subst (λ (why : RevisionFault). RefusesRevision body why) (sym c.raised.ensures) refused)) [
      | inl starved ↦ inl (ap Err starved)
      | inr only ↦ inr only
    ]

pub returns-then-is_empty-clause-exact : goal.returns-then-is_empty-clause-exact
returns-then-is_empty-clause-exact c =
    let none : map values_of_line c.lines.lines ≡ [] = ap (map values_of_line) (c.is_empty-2.ensures.0 c.if-is_empty.true) in
    let quiet = silent c.args.body.now c.lines.left.now c.lines.number (map values_of_line c.lines.lines) c.lines.invariant (grind (arith, nat_tests)) none in
    elim (only_refused c.args.body.now (Bad 1 NoLine) (refl, quiet)) [
      | inl starved ↦ cc
      | inr only ↦ inr only
    ]

pub returns-clause-exact : goal.returns-clause-exact
returns-clause-exact c =
    inr (only_read c.args.body.now (map values_of_line c.lines.lines) (whole c.args.body.now c.lines.left.now c.lines.number c.lines.lines c.lines.invariant (grind (arith, nat_tests)) (search rules)))
