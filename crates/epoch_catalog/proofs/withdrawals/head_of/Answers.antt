use Rattle.std.proofs.Common.{sym, ap, subst, refl, None, ◌≡◌, ◌∙◌, true}
use Rattle.std.proofs.lemmas.Option.{same_Some, none-some}
use Rattle.epochs.specs.Views.{values_of_line}
use Rattle.epochs.specs.declared.line.Line.{Line}
use Rattle.epochs.specs.declared.line.Line.TheVariants.{Wdr}
use Rattle.epoch_catalog.specs.Withdrawals.{is_marked, name_in, IsHeadOf}
use Rattle.epoch_catalog.proofs.WithdrawalsFound.{named_by}
use Rattle.epoch_catalog.proofs.withdrawals.head_of.Goals as goal

pub returns-in_err-name : goal.returns-in_err-name
returns-in_err-name c = λ marked.
    let w = c.in-Wdr.withdrawal in
    let here : is_marked (values_of_line (Wdr w)) ≡ true = ap (λ (l : Line). is_marked (values_of_line l)) (sym c.in-Wdr.is) ∙ marked in
    absurd (none-some (name_in (values_of_line (Wdr w))) (sym c.in_err-name.was ∙ named_by w here c.name_of.result c.name_of.ensures))

pub returns : goal.returns
returns c = λ marked.
    let w = c.in-Wdr.withdrawal in
    let here : is_marked (values_of_line (Wdr w)) ≡ true = ap (λ (l : Line). is_marked (values_of_line l)) (sym c.in-Wdr.is) ∙ marked in
    subst (λ (l : Line). IsHeadOf (values_of_line l) c.args.place (record { name = c.in_ok-name.name; start = w.times.start; end = w.times.end; place = c.args.place })) (sym c.in-Wdr.is)
    (record {
      named = same_Some c.in_ok-name.name (name_in (values_of_line (Wdr w))) (sym c.in_ok-name.was ∙ named_by w here c.name_of.result c.name_of.ensures);
      starts = refl;
      ends = refl;
      placed = refl;
    })
