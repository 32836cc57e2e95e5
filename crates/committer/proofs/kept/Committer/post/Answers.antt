use Rattle.std.proofs.Common.{rules, ◌≡◌, ◌∙◌, ◌<◌, ℕ, List, true, length, option_to_list, sym, ap, subst, arith}
use Rattle.std.specs.Result.{IsErrOf}
use Rattle.archive_entry.specs.declared.entry.Entry.{Entry}
use Rattle.archive_post.specs.Intake.{StandsFor}
use Rattle.archive_post.specs.Posts.{Commits, IsTheOne, Posts}
use Rattle.archive_post.specs.Waiting.{waits}
use Rattle.archive_post.proofs.Left.{posted}
use Rattle.archive_world.proofs.Posting.{left_shown, post_goes}
use Rattle.desk_words.specs.Posting.{posted_entry}
use Rattle.desk_words.specs.Setting.{setting}
use Rattle.desk_words.specs.declared.asking.SubmitFault.TheVariants.{Stopped}
use Rattle.committer.proofs.Keeping.{longer, no_steps}
use Rattle.committer.proofs.kept.Committer.post.Goals as goal

pub invariant_of-self : goal.invariant_of-self
invariant_of-self g c =
    let view = g.D.Disk.view in
    let self = c.args.self.now in
    let new = c.post-told.new.self in
    let told = c.post-told.ensures in
    let none = c.requires.flushed.1 in
    let shown : c.entries.result.now ≡ self.latest = search rules in
    let left = posted view self.intake new none c.entries.result.now c.args.posted.now c.args.moment (setting c.args.secret.now c.args.limits.now) c.post-told.result told.row told.disk in
    let before = longer self.latest self.intake.waiting 0 (ap (λ o. length (option_to_list o)) none) in
    let behind = longer self.latest new.waiting _ left.waits in
    let made = c.count_in.ensures.made in
    let kept = self.made_are in
    let few = left.few in
    let waits = left.waits in
    let empty = no_steps (λ step. step.1) self.front self.latest _ c.requires.flushed.0 self.tied in
    record {
      law = self.law;
      stands = subst (StandsFor view new) shown told.stands;
      shown = self.shown;
      tied = self.tied;
      one = omega (arith, empty, few, waits);
      leads = self.leads;
      told_is = left.told ∙ self.told_is;
      faults_are = left.faults ∙ self.faults_are;
      never = λ running. c.count_in.ensures.stops ∙ left.never self.stops.total self.never running;
      ever = λ stopped. subst (λ (n : ℕ). 0 < n) (sym c.count_in.ensures.stops) (left.ever self.stops.total self.ever stopped);
      began = self.began;
      made_are = omega (arith, before, behind, made, kept);
    }

pub returns-clause-steps : goal.returns-clause-steps
returns-clause-steps g c =
    let view = g.D.Disk.view in
    let self = c.args.self.now in
    let new = c.post-told.new.self in
    let told = c.post-told.ensures in
    let before = c.count-count.ensures in
    let none = c.requires.flushed.1 in
    let p = c.args.posted.now in
    let m = c.args.moment in
    let s = setting c.args.secret.now c.args.limits.now in
    let shown : c.entries.result.now ≡ self.latest = search rules in
    let row = subst (λ (l : List Entry). Posts self.intake new l p m s c.post-told.result) shown told.row in
    let calls = subst (λ (l : List Entry). (e : Entry) → IsTheOne (posted_entry l p m s) e → Commits view self.intake.archive new.archive l e (IsErrOf c.post-told.result Stopped)) shown told.disk in
    post_goes view g.met.D.Disk.honest self.intake new self.latest none before.hand (left_shown (view self.intake.archive.disk) self.latest self.front self.intake.waiting self.intake.archive.hand none c.requires.flushed.0 before.left) self.stands.lawful
    p m s c.post-told.result (subst (λ (l : List Entry). waits l new.waiting ≡ true) shown told.stands.waits) row calls
