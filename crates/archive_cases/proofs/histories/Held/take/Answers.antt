use Rattle.std.proofs.Common.{◌≡◌, ◌∙◌, ◌&&◌, true, List, sym, subst}
use Rattle.archive_entry.specs.declared.entry.Entry.{Entry}
use Rattle.archive_state.specs.Lawful.{is_lawful, is_next}
use Rattle.archive_state.proofs.Growth.{lawful_more}
use Rattle.archive_cases.proofs.histories.Held.take.Goals as goal

pub invariant_of-self-in-Ok-clause-lawful : goal.invariant_of-self-in-Ok-clause-lawful
invariant_of-self-in-Ok-clause-lawful c =
    let h = c.args.self.now.state in
    let e = c.args.entry.now in
    let next : is_next h e ≡ true = cc (c.in_ok-next_lawful.ensures h c.args.self.now.stands, c.if-not-branch.false) in
    subst (λ (l : List Entry). is_lawful l ≡ true) (sym c.in_ok-absorb.ensures.ok) (lawful_more h e ∙ (λ i. c.args.self.now.lawful i && next i))
