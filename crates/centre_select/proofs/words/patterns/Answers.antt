use Rattle.std.proofs.Common.{subst, sym, ◌≡◌}
use Rattle.centre_select.specs.declared.ending.SelectRefusal.TheVariants.{Value}
use Rattle.centre_select.specs.declared.ending.SelectStop.{SelectStop}
use Rattle.centre_select.specs.Words.{IsList, StopsWith}
use Rattle.channel_globs.specs.PatternText.{RefusesList}
use Rattle.centre_select.proofs.SelectWords.{refused_list}
use Rattle.centre_select.proofs.words.patterns.Goals as goal

pub returns-in-Err-clause-err : goal.returns-in-Err-clause-err
returns-in-Err-clause-err c =
    let refused : RefusesList c.args.part c.args.text.now c.in-Err.fault = rw c.as_bytes.ensures.value at c.in-Err.ensures.refused in
    let P : SelectStop → Type 0 = λ stop. StopsWith (λ refusal. (refusal ≡ Value c.args.word) × (IsList c.args.part c.args.text.now → ⊥)) stop in
    subst P (sym c.stop_for.ensures) (refused_list c.args.part c.args.text.now c.in-Err.fault c.args.word refused)
