use Rattle.std.proofs.Common.{◌≡◌, ◌∙◌, ℕ, List, Ok, Result, refl, sym, ap, subst}
use Rattle.std.specs.Result.{IsErrOf}
use Rattle.std.proofs.lemmas.List.{append-nil}
use mathlib.Core.List.{IsPrefix}
use Rattle.archive_entry.specs.declared.entry.Entry.{Entry}
use Rattle.archive_log.specs.Archive.{Archived}
use Rattle.archive_history.proofs.Beginnings.{begins_on}
use Rattle.archive_post.specs.Posts.{Commits, IsTheOne, Posts}
use Rattle.archive_post.specs.Waiting.{committed}
use Rattle.archive_post.proofs.Calls.{not_stopped, quiet_call}
use Rattle.archive_state.specs.declared.verdict.Verdict.{Verdict}
use Rattle.archive_world.specs.Held.{GoesBy, LeavesHeld, held}
use Rattle.archive_world.specs.Submitting.{post_events}
use Rattle.archive_world.proofs.Posting.{held_is, makes_as, post_as, shown_again, unposted, unshown, unshown_again, waits_added}
use Rattle.desk_words.specs.Posting.{posted_entry}
use Rattle.desk_words.specs.Setting.{setting}
use Rattle.desk_words.specs.declared.asking.Submitted.{Submitted}
use Rattle.desk_words.specs.declared.asking.SubmitFault.{SubmitFault}
use Rattle.desk_words.specs.declared.asking.SubmitFault.TheVariants.{Stopped}
use Rattle.committer.specs.Rows.{Counted, SubmitsLocked, locked}
use Rattle.committer.proofs.Submitted.{none_made, nothing_more, seen_row, unseen_row}
use Rattle.committer.proofs.kept.Committer.submit.Goals as goal

pub returns-in_err-flush-clause-disk : goal.returns-in_err-flush-clause-disk
returns-in_err-flush-clause-disk g c = λ e one.
    let first = c.args.self.now in
    quiet_call g.D.Disk.view first.intake.archive c.flush.new.self.intake.archive (committed first.latest first.intake.waiting) e _ c.flush.ensures.same.0 c.count-judged.ensures.rest (not_stopped c.from_residual.result c.from_residual.ensures.1)

pub returns-in_err-verdict-clause-halted : goal.returns-in_err-verdict-clause-halted
returns-in_err-verdict-clause-halted g c = λ before.
    let view = g.D.Disk.view in
    let first = c.args.self.now in
    let flushed = c.flush.new.self in
    let posted = c.post.new.self in
    let p = c.args.posted.now in
    let m = c.args.moment in
    let s = setting c.args.secret.now c.args.limits.now in
    let h = committed first.latest first.intake.waiting in
    let none = c.in_ok-flush.ensures.ok.1 in
    let same : flushed.latest ≡ h = sym (append-nil flushed.latest) ∙ ap (committed flushed.latest) (sym none) ∙ c.flush.ensures.committed in
    let row = subst (λ (l : List Entry). Posts flushed.intake posted.intake l p m s c.post.result) same c.post.ensures.row in
    let calls = subst (λ (l : List Entry). (e : Entry) → IsTheOne (posted_entry l p m s) e → Commits view flushed.intake.archive posted.intake.archive l e (IsErrOf c.post.result Stopped)) same c.post.ensures.disk in
    let stopped = ap (λ (a : Archived g.row.D.Denot). a.stopped) c.flush.ensures.same.0 ∙ before in
    let nothing = nothing_more view flushed.intake posted.intake h c.args.shares.now c.post.new.shares p m s none c.post.result row c.post.ensures.counted calls stopped in
    let made = none_made view flushed.intake posted.intake h c.args.shares.now c.post.new.shares p m s none c.post.result row c.post.ensures.counted calls stopped in
    (c.post.ensures.silent stopped ∙ c.flush.ensures.same.0, ap (λ (l : List Entry). committed l posted.intake.waiting) (c.post.ensures.same.0 ∙ same) ∙ nothing, made)

pub returns-in_err-flush-2-clause-row : goal.returns-in_err-flush-2-clause-row
returns-in_err-flush-2-clause-row g c =
    let view = g.D.Disk.view in
    let first = c.args.self.now in
    let flushed = c.flush.new.self in
    let posted = c.post.new.self in
    let p = c.args.posted.now in
    let m = c.args.moment in
    let s = setting c.args.secret.now c.args.limits.now in
    let h = committed first.latest first.intake.waiting in
    let none = c.in_ok-flush.ensures.ok.1 in
    let same : flushed.latest ≡ h = sym (append-nil flushed.latest) ∙ ap (committed flushed.latest) (sym none) ∙ c.flush.ensures.committed in
    let row = subst (λ (l : List Entry). Posts flushed.intake posted.intake l p m s c.post.result) same c.post.ensures.row in
    let last = c.flush-2.new.self in
    let was = c.in_ok-verdict.was in
    let ruled = subst (Posts flushed.intake posted.intake h p m s) was row in
    let counted = subst (Counted c.args.shares.now c.post.new.shares) was c.post.ensures.counted in
    let all : committed last.latest last.intake.waiting ≡ committed h posted.intake.waiting = c.flush-2.ensures.committed ∙ ap (λ (l : List Entry). committed l posted.intake.waiting) (c.post.ensures.same.0 ∙ same) in
    let grows : IsPrefix first.front last.front = begins_on first.front flushed.front last.front c.flush.ensures.grows (subst (λ (l : List Entry). IsPrefix l last.front) c.post.ensures.same.1 c.flush-2.ensures.grows) in
    unseen_row flushed.intake posted.intake h first.front c.args.shares.now c.post.new.shares p m s none c.in_ok-verdict.verdict ruled counted (committed last.latest last.intake.waiting) last.front all grows
    c.from_residual-in_err-flush-2.result c.from_residual-in_err-flush-2.ensures.1

pub returns-in_err-flush-2-clause-halted : goal.returns-in_err-flush-2-clause-halted
returns-in_err-flush-2-clause-halted g c = λ before.
    let view = g.D.Disk.view in
    let first = c.args.self.now in
    let flushed = c.flush.new.self in
    let posted = c.post.new.self in
    let p = c.args.posted.now in
    let m = c.args.moment in
    let s = setting c.args.secret.now c.args.limits.now in
    let h = committed first.latest first.intake.waiting in
    let none = c.in_ok-flush.ensures.ok.1 in
    let same : flushed.latest ≡ h = sym (append-nil flushed.latest) ∙ ap (committed flushed.latest) (sym none) ∙ c.flush.ensures.committed in
    let row = subst (λ (l : List Entry). Posts flushed.intake posted.intake l p m s c.post.result) same c.post.ensures.row in
    let calls = subst (λ (l : List Entry). (e : Entry) → IsTheOne (posted_entry l p m s) e → Commits view flushed.intake.archive posted.intake.archive l e (IsErrOf c.post.result Stopped)) same c.post.ensures.disk in
    let last = c.flush-2.new.self in
    let was = c.in_ok-verdict.was in
    let ruled = subst (Posts flushed.intake posted.intake h p m s) was row in
    let counted = subst (Counted c.args.shares.now c.post.new.shares) was c.post.ensures.counted in
    let all : committed last.latest last.intake.waiting ≡ committed h posted.intake.waiting = c.flush-2.ensures.committed ∙ ap (λ (l : List Entry). committed l posted.intake.waiting) (c.post.ensures.same.0 ∙ same) in
    let stopped = ap (λ (a : Archived g.row.D.Denot). a.stopped) c.flush.ensures.same.0 ∙ before in
    let nothing = nothing_more view flushed.intake posted.intake h c.args.shares.now c.post.new.shares p m s none c.post.result row c.post.ensures.counted calls stopped in
    let made = none_made view flushed.intake posted.intake h c.args.shares.now c.post.new.shares p m s none c.post.result row c.post.ensures.counted calls stopped in
    (c.flush-2.ensures.same.0 ∙ c.post.ensures.silent stopped ∙ c.flush.ensures.same.0, all ∙ nothing, made)

pub returns-clause-row : goal.returns-clause-row
returns-clause-row g c =
    let view = g.D.Disk.view in
    let first = c.args.self.now in
    let flushed = c.flush.new.self in
    let posted = c.post.new.self in
    let p = c.args.posted.now in
    let m = c.args.moment in
    let s = setting c.args.secret.now c.args.limits.now in
    let h = committed first.latest first.intake.waiting in
    let none = c.in_ok-flush.ensures.ok.1 in
    let same : flushed.latest ≡ h = sym (append-nil flushed.latest) ∙ ap (committed flushed.latest) (sym none) ∙ c.flush.ensures.committed in
    let row = subst (λ (l : List Entry). Posts flushed.intake posted.intake l p m s c.post.result) same c.post.ensures.row in
    let last = c.flush-2.new.self in
    let was = c.in_ok-verdict.was in
    let ruled = subst (Posts flushed.intake posted.intake h p m s) was row in
    let counted = subst (Counted c.args.shares.now c.post.new.shares) was c.post.ensures.counted in
    let all : committed last.latest last.intake.waiting ≡ committed h posted.intake.waiting = c.flush-2.ensures.committed ∙ ap (λ (l : List Entry). committed l posted.intake.waiting) (c.post.ensures.same.0 ∙ same) in
    let grows : IsPrefix first.front last.front = begins_on first.front flushed.front last.front c.flush.ensures.grows (subst (λ (l : List Entry). IsPrefix l last.front) c.post.ensures.same.1 c.flush-2.ensures.grows) in
    subst (λ (x : ℕ × ℕ). SubmitsLocked (locked h first.front c.args.shares.now) (locked (committed last.latest last.intake.waiting) last.front c.post.new.shares) p m s (Ok (record { verdict = c.in_ok-verdict.verdict; judged = x.0; front = x.1 })))
    (λ i. (sym c.count-judged.ensures.count i, sym c.count.ensures.count i))
    (seen_row flushed.intake posted.intake h first.front c.args.shares.now c.post.new.shares p m s none c.in_ok-verdict.verdict ruled counted (committed last.latest last.intake.waiting) last.front all grows
    (c.in_ok-flush-2.ensures.ok.0 ∙ sym (append-nil last.latest) ∙ ap (committed last.latest) (sym c.in_ok-flush-2.ensures.ok.1)))

pub returns-clause-halted : goal.returns-clause-halted
returns-clause-halted g c = λ before.
    let view = g.D.Disk.view in
    let first = c.args.self.now in
    let flushed = c.flush.new.self in
    let posted = c.post.new.self in
    let p = c.args.posted.now in
    let m = c.args.moment in
    let s = setting c.args.secret.now c.args.limits.now in
    let h = committed first.latest first.intake.waiting in
    let none = c.in_ok-flush.ensures.ok.1 in
    let same : flushed.latest ≡ h = sym (append-nil flushed.latest) ∙ ap (committed flushed.latest) (sym none) ∙ c.flush.ensures.committed in
    let row = subst (λ (l : List Entry). Posts flushed.intake posted.intake l p m s c.post.result) same c.post.ensures.row in
    let calls = subst (λ (l : List Entry). (e : Entry) → IsTheOne (posted_entry l p m s) e → Commits view flushed.intake.archive posted.intake.archive l e (IsErrOf c.post.result Stopped)) same c.post.ensures.disk in
    let last = c.flush-2.new.self in
    let was = c.in_ok-verdict.was in
    let ruled = subst (Posts flushed.intake posted.intake h p m s) was row in
    let counted = subst (Counted c.args.shares.now c.post.new.shares) was c.post.ensures.counted in
    let all : committed last.latest last.intake.waiting ≡ committed h posted.intake.waiting = c.flush-2.ensures.committed ∙ ap (λ (l : List Entry). committed l posted.intake.waiting) (c.post.ensures.same.0 ∙ same) in
    let stopped = ap (λ (a : Archived g.row.D.Denot). a.stopped) c.flush.ensures.same.0 ∙ before in
    let nothing = nothing_more view flushed.intake posted.intake h c.args.shares.now c.post.new.shares p m s none c.post.result row c.post.ensures.counted calls stopped in
    let made = none_made view flushed.intake posted.intake h c.args.shares.now c.post.new.shares p m s none c.post.result row c.post.ensures.counted calls stopped in
    (c.flush-2.ensures.same.0 ∙ c.post.ensures.silent stopped ∙ c.flush.ensures.same.0, all ∙ nothing, made)

pub returns-in_err-flush-clause-steps : goal.returns-in_err-flush-clause-steps
returns-in_err-flush-clause-steps g c =
    let view = g.D.Disk.view in
    let first = c.args.self.now in
    let last = c.flush.new.self in
    let d = first.intake.archive.disk in
    let hand = first.intake.archive.hand in
    let h = committed first.latest first.intake.waiting in
    let before = c.count-judged.ensures in
    let same = c.flush.ensures.same.0 in
    let p = posted_entry h c.args.posted.now c.args.moment (setting c.args.secret.now c.args.limits.now) in
    let old = held h first.front hand in
    makes_as view d d last.intake.archive.disk old old (held (committed last.latest last.intake.waiting) last.front last.intake.archive.hand) p c.from_residual.result (ap (λ (a : Archived g.row.D.Denot). a.disk) same)
    (held_is (committed last.latest last.intake.waiting) last.front h first.front last.intake.archive.hand hand c.flush.ensures.committed c.in_err-flush.ensures.err (ap (λ (a : Archived g.row.D.Denot). a.hand) same))
    (unshown view g.met.D.Disk.honest d d h first.front hand before.begins before.left p c.from_residual.result c.from_residual.ensures.1)

pub returns-in_err-verdict-clause-steps : goal.returns-in_err-verdict-clause-steps
returns-in_err-verdict-clause-steps g c =
    let view = g.D.Disk.view in
    let first = c.args.self.now in
    let flushed = c.flush.new.self in
    let posted = c.post.new.self in
    let d = first.intake.archive.disk in
    let mid = posted.intake.archive.disk in
    let hand = first.intake.archive.hand in
    let behind = posted.intake.archive.hand in
    let waiting = posted.intake.waiting in
    let p = c.args.posted.now in
    let m = c.args.moment in
    let s = setting c.args.secret.now c.args.limits.now in
    let h = committed first.latest first.intake.waiting in
    let before = c.count-judged.ensures in
    let none = c.in_ok-flush.ensures.ok.1 in
    let same : flushed.latest ≡ h = sym (append-nil flushed.latest) ∙ ap (committed flushed.latest) (sym none) ∙ c.flush.ensures.committed in
    let goes = post_as view flushed.intake.archive.disk d mid flushed.latest h flushed.intake.archive.hand hand waiting behind p m s c.post.result
    (ap (λ (a : Archived g.row.D.Denot). a.disk) c.flush.ensures.same.0) same (ap (λ (a : Archived g.row.D.Denot). a.hand) c.flush.ensures.same.0) c.post.ensures.steps in
    let f = c.in_err-verdict.field-0.0 in
    let e = posted_entry h p m s in
    makes_as view d mid mid (held h first.front hand) (held (committed h waiting) h behind) (held (committed posted.latest waiting) posted.front behind) e c.from_residual-in_err-verdict.result refl
    (held_is (committed posted.latest waiting) posted.front (committed h waiting) h behind behind (ap (λ (l : List Entry). committed l waiting) (c.post.ensures.same.0 ∙ same)) (c.post.ensures.same.1 ∙ c.in_ok-flush.ensures.ok.0 ∙ same) refl)
    (unposted view g.met.D.Disk.honest d mid h first.front hand before.begins before.left e waiting behind f
    (subst (λ (r : Result Verdict SubmitFault). GoesBy (view d) (view mid) (held h h hand) (held (committed h waiting) h behind) (post_events r hand e)) c.in_err-verdict.was goes)
    c.from_residual-in_err-verdict.result c.from_residual-in_err-verdict.ensures.1)

pub returns-in_err-flush-2-clause-steps : goal.returns-in_err-flush-2-clause-steps
returns-in_err-flush-2-clause-steps g c =
    let view = g.D.Disk.view in
    let first = c.args.self.now in
    let flushed = c.flush.new.self in
    let posted = c.post.new.self in
    let last = c.flush-2.new.self in
    let d = first.intake.archive.disk in
    let mid = posted.intake.archive.disk in
    let hand = first.intake.archive.hand in
    let behind = posted.intake.archive.hand in
    let waiting = posted.intake.waiting in
    let p = c.args.posted.now in
    let m = c.args.moment in
    let s = setting c.args.secret.now c.args.limits.now in
    let h = committed first.latest first.intake.waiting in
    let before = c.count-judged.ensures in
    let none = c.in_ok-flush.ensures.ok.1 in
    let same : flushed.latest ≡ h = sym (append-nil flushed.latest) ∙ ap (committed flushed.latest) (sym none) ∙ c.flush.ensures.committed in
    let goes = post_as view flushed.intake.archive.disk d mid flushed.latest h flushed.intake.archive.hand hand waiting behind p m s c.post.result
    (ap (λ (a : Archived g.row.D.Denot). a.disk) c.flush.ensures.same.0) same (ap (λ (a : Archived g.row.D.Denot). a.hand) c.flush.ensures.same.0) c.post.ensures.steps in
    let v = c.in_ok-verdict.verdict in
    let e = posted_entry h p m s in
    let again = c.flush-2.ensures.same.0 in
    makes_as view d mid last.intake.archive.disk (held h first.front hand) (held (committed h waiting) h behind) (held (committed last.latest last.intake.waiting) last.front last.intake.archive.hand) e c.from_residual-in_err-flush-2.result
    (ap (λ (a : Archived g.row.D.Denot). a.disk) again)
    (held_is (committed last.latest last.intake.waiting) last.front (committed h waiting) h last.intake.archive.hand behind (c.flush-2.ensures.committed ∙ ap (λ (l : List Entry). committed l waiting) (c.post.ensures.same.0 ∙ same))
    (c.in_err-flush-2.ensures.err ∙ c.post.ensures.same.1 ∙ c.in_ok-flush.ensures.ok.0 ∙ same) (ap (λ (a : Archived g.row.D.Denot). a.hand) again))
    (unshown_again view g.met.D.Disk.honest d mid h first.front hand before.begins before.left e waiting behind v
    (subst (λ (r : Result Verdict SubmitFault). GoesBy (view d) (view mid) (held h h hand) (held (committed h waiting) h behind) (post_events r hand e)) c.in_ok-verdict.was goes)
    c.from_residual-in_err-flush-2.result c.from_residual-in_err-flush-2.ensures.1)

pub returns-clause-steps : goal.returns-clause-steps
returns-clause-steps g c =
    let view = g.D.Disk.view in
    let first = c.args.self.now in
    let flushed = c.flush.new.self in
    let posted = c.post.new.self in
    let last = c.flush-2.new.self in
    let d = first.intake.archive.disk in
    let mid = posted.intake.archive.disk in
    let hand = first.intake.archive.hand in
    let behind = posted.intake.archive.hand in
    let waiting = posted.intake.waiting in
    let p = c.args.posted.now in
    let m = c.args.moment in
    let s = setting c.args.secret.now c.args.limits.now in
    let h = committed first.latest first.intake.waiting in
    let before = c.count-judged.ensures in
    let none = c.in_ok-flush.ensures.ok.1 in
    let same : flushed.latest ≡ h = sym (append-nil flushed.latest) ∙ ap (committed flushed.latest) (sym none) ∙ c.flush.ensures.committed in
    let goes = post_as view flushed.intake.archive.disk d mid flushed.latest h flushed.intake.archive.hand hand waiting behind p m s c.post.result
    (ap (λ (a : Archived g.row.D.Denot). a.disk) c.flush.ensures.same.0) same (ap (λ (a : Archived g.row.D.Denot). a.hand) c.flush.ensures.same.0) c.post.ensures.steps in
    let row = subst (λ (l : List Entry). Posts flushed.intake posted.intake l p m s c.post.result) same c.post.ensures.row in
    let v = c.in_ok-verdict.verdict in
    let e = posted_entry h p m s in
    let again = c.flush-2.ensures.same.0 in
    let told : Submitted = record { verdict = v; judged = c.count-judged.result; front = c.count.result } in
    let all : committed last.latest last.intake.waiting ≡ committed h waiting = c.flush-2.ensures.committed ∙ ap (λ (l : List Entry). committed l waiting) (c.post.ensures.same.0 ∙ same) in
    let shown : last.front ≡ committed last.latest last.intake.waiting = c.in_ok-flush-2.ensures.ok.0 ∙ sym (append-nil last.latest) ∙ ap (committed last.latest) (sym c.in_ok-flush-2.ensures.ok.1) in
    makes_as view d mid last.intake.archive.disk (held h first.front hand) (held (committed h waiting) (committed h waiting) behind) (held (committed last.latest last.intake.waiting) last.front last.intake.archive.hand) e (Ok told)
    (ap (λ (a : Archived g.row.D.Denot). a.disk) again)
    (held_is (committed last.latest last.intake.waiting) last.front (committed h waiting) (committed h waiting) last.intake.archive.hand behind all (shown ∙ all) (ap (λ (a : Archived g.row.D.Denot). a.hand) again))
    (shown_again view g.met.D.Disk.honest d mid h first.front hand before.begins before.left e waiting behind told
    (waits_added flushed.intake posted.intake h p m s v none (subst (Posts flushed.intake posted.intake h p m s) c.in_ok-verdict.was row))
    (posted.told_is ∙ sym first.told_is)
    (subst (λ (r : Result Verdict SubmitFault). GoesBy (view d) (view mid) (held h h hand) (held (committed h waiting) h behind) (post_events r hand e)) c.in_ok-verdict.was goes)
    (subst (λ (l : List Entry). LeavesHeld (view mid) (held (committed l waiting) l behind)) same c.post.ensures.left))
