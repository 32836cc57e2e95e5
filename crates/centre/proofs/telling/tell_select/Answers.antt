use Rattle.std.proofs.Common.{◌∙◌, List, ℕ, ap, subst, sym}
use Rattle.centre_select.specs.Status.{Tells}
use Rattle.centre_select.specs.declared.ending.SelectStop.TheVariants as select_stop
use Rattle.centre.specs.Selects.{stop_for_select}
use Rattle.centre.specs.Status.{error_text_of}
use Rattle.centre.specs.Table.{ToldFor}
use Rattle.centre.specs.declared.ending.Stop.{Stop}
use Rattle.centre.proofs.SelectRows.{same_text, told_as}
use Rattle.centre.proofs.telling.tell_select.Goals as goal

pub returns-clause-same : goal.returns-clause-same
returns-clause-same g c =
    let stop = select_stop.Refused c.args.refusal in
    subst (λ (s : Stop). ToldFor (stop_for_select stop) s) (sym c.stop_for_select.ensures) (told_as stop c.tell_refusal.result c.tell_refusal.ensures.same)

pub returns-clause-text : goal.returns-clause-text
returns-clause-text g c =
    let P : List ℕ → Type 0 = λ text. Tells (g.E.Stream.view c.args.errors.now) (g.E.Stream.view c.tell_refusal.new.errors) text in
    subst P (same_text c.tell_refusal.result ∙ ap error_text_of (sym c.stop_for_select.ensures)) c.tell_refusal.ensures.text
