use Rattle.std.proofs.Common.{◌≡◌, ◌∙◌, ◌++◌, ◌∷◌, [], List, true, ap, sym, subst}
use Rattle.archive_entry.specs.declared.entry.Entry.{Entry}
use Rattle.archive_state.specs.Lawful.{IsLawful}
use Rattle.archive_state.specs.States.{CanAbsorb}
use Rattle.two_copies.proofs.Next.{last_absorbs}
use Rattle.two_copies.proofs.held.HeldState.take_in.Goals as goal

pub absorb-requires : goal.absorb-requires
absorb-requires g c =
    let step = c.step.inside in
    let held = c.self.inside in
    let same : held.state ≡ step.before = c.self.invariant ∙ c.self.view_is ∙ c.requires ∙ ap (λ s. s.0) (sym c.step.view_is) in
    subst (λ (h : List Entry). CanAbsorb h step.entry) (sym same) (last_absorbs step.before step.entry (subst IsLawful c.step.invariant c.count-lawful.ensures.lawful))
