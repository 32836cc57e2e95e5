use Rattle.std.proofs.Common.{◌≡◌, ◌∙◌, sym, true, false}
use Rattle.command_words.proofs.Plain.{rows_found, no_fault, some_fault}
use Rattle.command_words.proofs.values.matches_in.Goals as goal

pub returns-in-Ok : goal.returns-in-Ok
returns-in-Ok c = (
  no_fault _ c.args.name _ c.in_ok-command.ensures c.in-Ok.ensures.kinds,
  rows_found _ c.args.name _ c.in-Ok.matches c.in_ok-command.ensures c.in-Ok.ensures.matches,
)

pub returns-else-eq : goal.returns-else-eq
returns-else-eq c =
    some_fault _ c.args.name _ c.in-Err.error c.in_ok-command.ensures c.in-Err.ensures.kinds
    (λ k. let same = rw (c.kind.ensures ∙ k) at c.eq.ensures in let bad : false ≡ true = sym c.if-eq.false ∙ same in cc)
