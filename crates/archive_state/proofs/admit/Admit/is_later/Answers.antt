use Rattle.std.proofs.Common.{◌∙◌, List, ℕ, ap, sym}
use Rattle.archive_state.specs.Admits.{number_of}
use Rattle.archive_state.specs.History.{earlier_of}
use Rattle.archive_state.specs.Verdicts.{judged_of}
use Rattle.archive_state.proofs.Stands.{known_is_not_later, later_found}
use Rattle.archive_state.proofs.admit.Admit.is_later.Goals as goal

pub returns-in-Some : goal.returns-in-Some
returns-in-Some c = λ h is.
    known_is_not_later h c.args.entry.now c.earlier.result _ (c.earlier.ensures h is ∙ ap (λ (a : List ℕ). number_of (earlier_of h a c.args.entry.now.seq)) c.as_slice.ensures) c.in-Some.is

pub returns : goal.returns
unfolding judged_of
returns c = λ h is.
    c.is_accept.ensures
    ∙ later_found c.args.self.now c.args.entry.now c.as_slice.result.now c.as_slice-2.result.now c.earlier.result c.in_ok-verdict.verdict c.as_slice.ensures c.as_slice-2.ensures
    c.if-entry-self.false (sym c.if-not-is_fit.ensures) c.earlier.ensures c.in_default.is c.in_ok-verdict.ensures h is
