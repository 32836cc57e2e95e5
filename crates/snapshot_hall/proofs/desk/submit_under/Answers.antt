use Rattle.std.proofs.Common.{◌∙◌, ℕ, List, length, sym, subst}
use mathlib.Core.List.{IsPrefix}
use Rattle.archive_entry.specs.declared.entry.Entry.{Entry}
use Rattle.desk_words.specs.Setting.{setting}
use Rattle.desk_words.specs.Stand.{Submits}
use Rattle.two_copies.specs.Tallies.{Tally}
use Rattle.archive_history.proofs.Beginnings.{begins_on}
use Rattle.archive_post.specs.Waiting.{committed}
use Rattle.archive_world.specs.Held.{held}
use Rattle.archive_world.specs.Submitting.{SubmitMakes, submit_told}
use Rattle.archive_world.proofs.Calling.{CanBeTold, learns_by}
use Rattle.committer.specs.Rows.{locked}
use Rattle.snapshot_hall.specs.Shared.{shared_stand}
use Rattle.snapshot_hall.proofs.SharedRows.{submits_row}
use Rattle.snapshot_hall.proofs.Told.{submit_can}
use Rattle.snapshot_hall.proofs.desk.submit_under.Goals as goal

pub returns : goal.returns
returns g c =
    let told = g.J.Naming.told in
    let faults = g.J.Naming.faults in
    let old = c.args.committer.now in
    let new = c.submit-made.new.self in
    let place = c.args.place.now in
    let tally = c.submit-made.new.shares in
    let p = c.args.posted.now in
    let m = c.args.moment in
    let set = setting c.args.secret.now c.args.limits.now in
    let reached = c.reach.ensures.told ∙ c.again-told.ensures in
    let kept = c.reach.ensures.kept in
    let before = c.count-count.ensures in
    let made = c.submit-made.ensures.steps in
    let first = locked (committed old.latest old.intake.waiting) old.front place.shares in
    let last = locked (committed new.latest new.intake.waiting) new.front tally in
    let covers = begins_on place.front old.front (committed old.latest old.intake.waiting) c.requires.covers before.begins in
    let grows : IsPrefix place.front new.front = subst (λ (h : List Entry). IsPrefix place.front h) reached c.reach.ensures.seen in
    record {
      row =
          subst (λ (x : List Entry × Tally × ℕ). Submits (shared_stand told faults place.front place.shares place.caught) (shared_stand told faults x.0 x.1 x.2) p m set c.submit-made.result)
          (λ i. (sym reached i, sym kept.0 i, sym kept.1 i))
          (submits_row told faults place.front place.caught first last p m set c.submit-made.result covers grows c.submit-made.ensures.row);
      steps =
          learns_by place.front c.reach.new.self.front (submit_told c.submit-made.result) (held first.latest old.front old.intake.archive.hand) (held last.latest new.front new.intake.archive.hand)
          (record { lawful = before.lawful; first = before.begins; few = before.few }) c.requires.covers reached
          (subst (λ (h : List Entry). CanBeTold (submit_told c.submit-made.result) (length h)) (sym reached) (submit_can first last p m set c.submit-made.result before.lawful c.submit-made.ensures.row))
          (SubmitMakes p m set c.submit-made.result) made.events made.are (λ callers. (made.goes callers).steps);
    }
