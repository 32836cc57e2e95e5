use Rattle.std.proofs.Common.{subst, sym}
use Rattle.centre.specs.declared.ending.Refusal.{Refusal}
use Rattle.centre.specs.Status.{text_of_refusal}
use Rattle.centre_select.specs.Status.{Tells}
use Rattle.centre.proofs.telling.tell_refusal.Goals as goal

pub returns-in-NotEmpty-clause-text : goal.returns-in-NotEmpty-clause-text
returns-in-NotEmpty-clause-text g c =
    let P : Refusal → Type 0 = λ refusal. Tells (g.E.Stream.view c.args.errors.now) (g.E.Stream.view c.tell-in-NotEmpty.new.errors) (text_of_refusal refusal) in
    subst P (sym c.in-NotEmpty.is) c.tell-in-NotEmpty.ensures

pub returns-in-NotAJournal-clause-text : goal.returns-in-NotAJournal-clause-text
returns-in-NotAJournal-clause-text g c =
    let P : Refusal → Type 0 = λ refusal. Tells (g.E.Stream.view c.args.errors.now) (g.E.Stream.view c.tell-in-NotAJournal.new.errors) (text_of_refusal refusal) in
    subst P (sym c.in-NotAJournal.is) c.tell-in-NotAJournal.ensures

pub returns-in-RequestCut-clause-text : goal.returns-in-RequestCut-clause-text
returns-in-RequestCut-clause-text g c =
    let P : Refusal → Type 0 = λ refusal. Tells (g.E.Stream.view c.args.errors.now) (g.E.Stream.view c.tell-in-RequestCut.new.errors) (text_of_refusal refusal) in
    subst P (sym c.in-RequestCut.is) c.tell-in-RequestCut.ensures

pub returns-in-BadReply-clause-text : goal.returns-in-BadReply-clause-text
returns-in-BadReply-clause-text g c =
    let P : Refusal → Type 0 = λ refusal. Tells (g.E.Stream.view c.args.errors.now) (g.E.Stream.view c.tell-in-BadReply.new.errors) (text_of_refusal refusal) in
    subst P (sym c.in-BadReply.is) c.tell-in-BadReply.ensures

pub returns-in-Lost-clause-text : goal.returns-in-Lost-clause-text
returns-in-Lost-clause-text g c =
    let P : Refusal → Type 0 = λ refusal. Tells (g.E.Stream.view c.args.errors.now) (g.E.Stream.view c.tell-in-Lost.new.errors) (text_of_refusal refusal) in
    subst P (sym c.in-Lost.is) c.tell-in-Lost.ensures

pub returns-in-Requests-clause-text : goal.returns-in-Requests-clause-text
returns-in-Requests-clause-text g c =
    let P : Refusal → Type 0 = λ refusal. Tells (g.E.Stream.view c.args.errors.now) (g.E.Stream.view c.tell-in-Requests.new.errors) (text_of_refusal refusal) in
    subst P (sym c.in-Requests.is) c.tell-in-Requests.ensures
