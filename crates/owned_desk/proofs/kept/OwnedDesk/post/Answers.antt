use Rattle.std.proofs.Common.{rules, ◌≡◌, List, true, refl, sym, subst}
use Rattle.std.specs.Result.{IsErrOf}
use Rattle.archive_entry.specs.declared.entry.Entry.{Entry}
use Rattle.archive_post.specs.Posts.{Commits, IsTheOne, Posts}
use Rattle.archive_post.specs.Waiting.{committed, waits}
use Rattle.archive_post.specs.declared.kept.Intake.{Intake}
use Rattle.archive_world.specs.Held.{GoesBy, LeavesHeld, held}
use Rattle.archive_world.specs.Submitting.{post_events}
use Rattle.archive_world.proofs.Posting.{left_shown, post_goes}
use Rattle.desk_words.specs.Posting.{posted_entry}
use Rattle.desk_words.specs.Setting.{setting}
use Rattle.desk_words.specs.declared.asking.SubmitFault.TheVariants.{Stopped}
use Rattle.owned_desk.proofs.kept.OwnedDesk.post.Goals as goal

pub returns-clause-steps : goal.returns-clause-steps
returns-clause-steps g c =
    let view = g.D.Disk.view in
    let self = c.args.self.now in
    let new = c.post-told.new.self in
    let told = c.post-told.ensures in
    let r = c.post-told.result in
    let before = c.count-count.ensures in
    let none = c.requires.free.0 in
    let p = c.args.posted.now in
    let m = c.args.moment in
    let s = setting c.args.secret.now c.args.limits.now in
    let row = subst (λ (l : List Entry). Posts self.intake new l p m s r) c.entries.ensures.entries told.row in
    let calls = subst (λ (l : List Entry). (e : Entry) → IsTheOne (posted_entry l p m s) e → Commits view self.intake.archive new.archive l e (IsErrOf r Stopped)) c.entries.ensures.entries told.disk in
    let same : c.match-told.self.intake ≡ new = search rules in
    subst (λ (x : Intake g.row.D.Denot). GoesBy (view self.intake.archive.disk) (view x.archive.disk) (held self.state self.state self.intake.archive.hand) (held (committed self.state x.waiting) self.state x.archive.hand) (post_events r self.intake.archive.hand (posted_entry self.state p m s))) (sym same)
    (post_goes view g.met.D.Disk.honest self.intake new self.state none before.hand (left_shown (view self.intake.archive.disk) self.state self.state self.intake.waiting self.intake.archive.hand none refl before.held) self.stands.lawful
    p m s r (subst (λ (l : List Entry). waits l new.waiting ≡ true) c.entries.ensures.entries told.stands.waits) row calls)

pub returns-clause-left : goal.returns-clause-left
returns-clause-left g c =
    let new = c.match-told.self in
    let same : new.state ≡ c.args.self.now.state = search rules in
    subst (λ (l : List Entry). LeavesHeld (g.D.Disk.view new.intake.archive.disk) (held (committed l new.intake.waiting) l new.intake.archive.hand)) same c.count-left.ensures.held
