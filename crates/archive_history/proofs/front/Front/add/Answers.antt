use Rattle.std.proofs.Common.{sym, ◌∙◌, ap, ◌≡◌, true, arith}
use Rattle.archive_state.specs.Lawful.{is_next}
use Rattle.archive_history.proofs.Adding.{adds_moves, few_entries}
use Rattle.archive_history.proofs.front.Front.add.Goals as goal

pub compare_exchange-found-requires : goal.compare_exchange-found-requires
compare_exchange-found-requires g c =
    let head = c.args.book.now.head_is in
    let offer = c.plain-offer.ensures in
    let pen = c.no_pen-pen.ensures in
    let e = c.args.entry.now in
    let next : is_next c.self.inside.seen.log e ≡ true = rw c.self.view_is c.requires in (
      ap (λ w. w.tracked) head,
      c.self.invariant.1 ∙ sym (ap (λ w. w.book) head),
      pen.0 ∙ (c.self.invariant.1 ∙ sym (ap (λ w. w.book) head)),
      offer.0,
      rw (ap (λ w. w.key) head, pen.1, offer.1, offer.3) (adds_moves c.self.inside.seen.log e c.self.inside.entries (sym c.self.invariant.0) next),
    )

pub overflow_add-entries : goal.overflow_add-entries
overflow_add-entries g c =
    let next : is_next c.self.inside.seen.log c.args.entry.now ≡ true = rw c.self.view_is c.requires in
    omega (arith, few_entries c.self.inside.seen.log c.args.entry.now c.self.inside.entries c.self.invariant.0 c.self.invariant.2 next)

pub overflow_add-self : goal.overflow_add-self
overflow_add-self g c =
    let next : is_next c.self.inside.seen.log c.args.entry.now ≡ true = rw c.self.view_is c.requires in
    omega (arith, few_entries c.self.inside.seen.log c.args.entry.now c.self.inside.entries c.self.invariant.0 c.self.invariant.2 next)
