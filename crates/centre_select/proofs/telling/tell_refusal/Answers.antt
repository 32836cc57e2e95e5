use Rattle.std.proofs.Common.{subst, sym, List, ℕ}
use Rattle.centre_select.specs.declared.ending.SelectRefusal.{SelectRefusal}
use Rattle.centre_select.specs.Status.{text_of_refusal, Tells}
use Rattle.centre_select.proofs.telling.tell_refusal.Goals as goal

pub returns-in-Value-clause-text : goal.returns-in-Value-clause-text
returns-in-Value-clause-text g c =
    let P : List ℕ → Type 0 = λ text. Tells (g.E.Stream.view c.args.errors.now) (g.E.Stream.view c.tell.new.errors) text in
    subst P c.value_text.ensures c.tell.ensures

pub returns-in-Order-clause-text : goal.returns-in-Order-clause-text
returns-in-Order-clause-text g c =
    let P : SelectRefusal → Type 0 = λ refusal. Tells (g.E.Stream.view c.args.errors.now) (g.E.Stream.view c.tell-in-Order.new.errors) (text_of_refusal refusal) in
    subst P (sym c.in-Order.is) c.tell-in-Order.ensures

pub returns-in-NoData-clause-text : goal.returns-in-NoData-clause-text
returns-in-NoData-clause-text g c =
    let P : SelectRefusal → Type 0 = λ refusal. Tells (g.E.Stream.view c.args.errors.now) (g.E.Stream.view c.tell-in-NoData.new.errors) (text_of_refusal refusal) in
    subst P (sym c.in-NoData.is) c.tell-in-NoData.ensures

pub returns-in-InputTooLong-clause-text : goal.returns-in-InputTooLong-clause-text
returns-in-InputTooLong-clause-text g c =
    let P : SelectRefusal → Type 0 = λ refusal. Tells (g.E.Stream.view c.args.errors.now) (g.E.Stream.view c.tell-in-InputTooLong.new.errors) (text_of_refusal refusal) in
    subst P (sym c.in-InputTooLong.is) c.tell-in-InputTooLong.ensures
