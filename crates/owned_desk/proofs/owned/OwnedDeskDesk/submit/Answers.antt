use Rattle.std.proofs.Common.{◌≡◌, ◌∙◌, ℕ, List, option_to_list, Result, Ok, refl, sym, ap, subst}
use Rattle.std.proofs.lemmas.List.{append-nil}
use Rattle.disk_model.specs.View.{is_told}
use Rattle.archive_entry.specs.declared.entry.Entry.{Entry}
use Rattle.archive_log.specs.Archive.{Archived}
use Rattle.archive_post.specs.Posts.{Posts}
use Rattle.archive_post.specs.Waiting.{committed}
use Rattle.archive_post.proofs.Calls.{not_stopped, quiet_call}
use Rattle.archive_post.proofs.Left.{posted as left_by}
use Rattle.archive_state.specs.declared.verdict.Verdict.{Verdict}
use Rattle.archive_world.specs.Held.{GoesBy, LeavesHeld, held}
use Rattle.archive_world.specs.Submitting.{post_events}
use Rattle.archive_world.proofs.Posting.{held_is, makes_as, post_as, shown_again, unposted, unshown, unshown_again, waits_added}
use Rattle.desk_words.specs.Posting.{posted_entry}
use Rattle.desk_words.specs.Setting.{setting}
use Rattle.desk_words.specs.declared.asking.Submitted.{Submitted}
use Rattle.desk_words.specs.declared.asking.SubmitFault.{SubmitFault}
use Rattle.desk_words.specs.Stand.{Submits}
use Rattle.owned_desk.specs.Owned.{Counts, Counted, counts, stand_over}
use Rattle.owned_desk.proofs.Submitted.{fault_row, seen_row, unseen}
use Rattle.owned_desk.proofs.owned.OwnedDeskDesk.submit.Goals as goal

pub returns-in_err-flush-clause-disk : goal.returns-in_err-flush-clause-disk
returns-in_err-flush-clause-disk g c = λ e one.
    let d = c.args.self.now in
    quiet_call g.D.Disk.view d.intake.archive c.flush.new.self.intake.archive (committed d.state d.intake.waiting) e _ c.flush.ensures.same.0 c.count-count.ensures.rest (not_stopped c.from_residual.result c.from_residual.ensures.1)

pub returns-in_err-verdict-clause-row : goal.returns-in_err-verdict-clause-row
returns-in_err-verdict-clause-row g c =
    let view = g.D.Disk.view in
    let first = c.args.self.now in
    let flushed = c.flush.new.self in
    let posted = c.post.new.self in
    let same = c.flush.ensures.same in
    let more = c.in_ok-flush.ensures.ok in
    let counted = subst (λ (x : Counts). Counted x (counts posted.stops posted.caught posted.made) c.post.result) (λ i. counts (same.1 i) (same.2 i) (same.3 i)) c.post.ensures.counts in
    fault_row view first.intake flushed.intake posted.intake first.state flushed.state (counts first.stops first.caught first.made) (counts posted.stops posted.caught posted.made) c.args.posted.now c.args.moment (setting c.args.secret.now c.args.limits.now)
    same.0 more.0 more.1 first.stands.apart c.post.result c.post.ensures.row counted (c.post.ensures.same.1 ∙ same.2) c.post.ensures.disk
    posted.state c.post.ensures.same.0 c.from_residual-in_err-verdict.result c.in_err-verdict.field-0.0 c.in_err-verdict.was c.from_residual-in_err-verdict.ensures.1

pub returns-in_err-flush-2-clause-row : goal.returns-in_err-flush-2-clause-row
returns-in_err-flush-2-clause-row g c =
    let view = g.D.Disk.view in
    let first = c.args.self.now in
    let flushed = c.flush.new.self in
    let posted = c.post.new.self in
    let same = c.flush.ensures.same in
    let more = c.in_ok-flush.ensures.ok in
    let counted = subst (λ (x : Counts). Counted x (counts posted.stops posted.caught posted.made) c.post.result) (λ i. counts (same.1 i) (same.2 i) (same.3 i)) c.post.ensures.counts in
    let last = c.flush-2.new.self in
    let err = c.in_err-flush-2.ensures.err in
    let after = c.flush-2.ensures.same in
    subst (λ (x : Counts). Submits (stand_over view first.intake first.state (counts first.stops first.caught first.made)) (stand_over view last.intake last.state x) c.args.posted.now c.args.moment (setting c.args.secret.now c.args.limits.now) c.from_residual-in_err-flush-2.result)
    (λ i. counts (sym after.1 i) (sym after.2 i) (sym after.3 i))
    (unseen view first.intake flushed.intake posted.intake first.state flushed.state (counts first.stops first.caught first.made) (counts posted.stops posted.caught posted.made) c.args.posted.now c.args.moment (setting c.args.secret.now c.args.limits.now)
    same.0 more.0 more.1 first.stands.apart c.post.result c.post.ensures.row counted (c.post.ensures.same.1 ∙ same.2) c.post.ensures.disk
    c.in_ok-verdict.verdict c.in_ok-verdict.was last.intake after.0 last.state (err.0 ∙ c.post.ensures.same.0) err.1 c.from_residual-in_err-flush-2.result c.from_residual-in_err-flush-2.ensures.1)

pub returns-clause-row : goal.returns-clause-row
returns-clause-row g c =
    let view = g.D.Disk.view in
    let first = c.args.self.now in
    let flushed = c.flush.new.self in
    let posted = c.post.new.self in
    let same = c.flush.ensures.same in
    let more = c.in_ok-flush.ensures.ok in
    let counted = subst (λ (x : Counts). Counted x (counts posted.stops posted.caught posted.made) c.post.result) (λ i. counts (same.1 i) (same.2 i) (same.3 i)) c.post.ensures.counts in
    let last = c.flush-2.new.self in
    let ok = c.in_ok-flush-2.ensures.ok in
    let after = c.flush-2.ensures.same in
    subst (λ (x : Counts × ℕ × ℕ). Submits (stand_over view first.intake first.state (counts first.stops first.caught first.made)) (stand_over view last.intake last.state x.0) c.args.posted.now c.args.moment (setting c.args.secret.now c.args.limits.now) (Ok (record { verdict = c.in_ok-verdict.verdict; judged = x.1; front = x.2 })))
    (λ i. (counts (sym after.1 i) (sym after.2 i) (sym after.3 i), sym c.front-judged.ensures i, sym c.front.ensures i))
    (seen_row view first.intake flushed.intake posted.intake first.state flushed.state (counts first.stops first.caught first.made) (counts posted.stops posted.caught posted.made) c.args.posted.now c.args.moment (setting c.args.secret.now c.args.limits.now)
    same.0 more.0 more.1 first.stands.apart c.post.result c.post.ensures.row counted (c.post.ensures.same.1 ∙ same.2) c.post.ensures.disk
    c.in_ok-verdict.verdict c.in_ok-verdict.was last.intake after.0 last.state (ok.0 ∙ ap (λ (l : List Entry). committed l posted.intake.waiting) c.post.ensures.same.0) ok.1)

pub returns-in_err-flush-clause-steps : goal.returns-in_err-flush-clause-steps
returns-in_err-flush-clause-steps g c =
    let view = g.D.Disk.view in
    let first = c.args.self.now in
    let last = c.flush.new.self in
    let d = first.intake.archive.disk in
    let hand = first.intake.archive.hand in
    let h = committed first.state first.intake.waiting in
    let before = c.count-count.ensures in
    let same = c.flush.ensures.same.0 in
    let err = c.in_err-flush.ensures.err in
    let p = posted_entry h c.args.posted.now c.args.moment (setting c.args.secret.now c.args.limits.now) in
    let old = held h first.state hand in
    makes_as view d d last.intake.archive.disk old old (held (committed last.state last.intake.waiting) last.state last.intake.archive.hand) p c.from_residual.result (ap (λ (a : Archived g.row.D.Denot). a.disk) same)
    (held_is (committed last.state last.intake.waiting) last.state h first.state last.intake.archive.hand hand (λ i. committed (err.0 i) (err.1 i)) err.0 (ap (λ (a : Archived g.row.D.Denot). a.hand) same))
    (unshown view g.met.D.Disk.honest d d h first.state hand (option_to_list first.intake.waiting, refl) before.held p c.from_residual.result c.from_residual.ensures.1)

pub returns-in_err-verdict-clause-steps : goal.returns-in_err-verdict-clause-steps
returns-in_err-verdict-clause-steps g c =
    let view = g.D.Disk.view in
    let first = c.args.self.now in
    let flushed = c.flush.new.self in
    let posted = c.post.new.self in
    let d = first.intake.archive.disk in
    let mid = posted.intake.archive.disk in
    let hand = first.intake.archive.hand in
    let behind = posted.intake.archive.hand in
    let waiting = posted.intake.waiting in
    let p = c.args.posted.now in
    let m = c.args.moment in
    let s = setting c.args.secret.now c.args.limits.now in
    let h = committed first.state first.intake.waiting in
    let same = c.in_ok-flush.ensures.ok.0 in
    let goes = post_as view flushed.intake.archive.disk d mid flushed.state h flushed.intake.archive.hand hand waiting behind p m s c.post.result
    (ap (λ (a : Archived g.row.D.Denot). a.disk) c.flush.ensures.same.0) same (ap (λ (a : Archived g.row.D.Denot). a.hand) c.flush.ensures.same.0) c.post.ensures.steps in
    let f = c.in_err-verdict.field-0.0 in
    let e = posted_entry h p m s in
    let last = c.post.ensures.same.0 ∙ same in
    makes_as view d mid mid (held h first.state hand) (held (committed h waiting) h behind) (held (committed posted.state waiting) posted.state behind) e c.from_residual-in_err-verdict.result refl
    (held_is (committed posted.state waiting) posted.state (committed h waiting) h behind behind (ap (λ (l : List Entry). committed l waiting) last) last refl)
    (unposted view g.met.D.Disk.honest d mid h first.state hand (option_to_list first.intake.waiting, refl) c.count-count.ensures.held e waiting behind f
    (subst (λ (r : Result Verdict SubmitFault). GoesBy (view d) (view mid) (held h h hand) (held (committed h waiting) h behind) (post_events r hand e)) c.in_err-verdict.was goes)
    c.from_residual-in_err-verdict.result c.from_residual-in_err-verdict.ensures.1)

pub returns-in_err-flush-2-clause-steps : goal.returns-in_err-flush-2-clause-steps
returns-in_err-flush-2-clause-steps g c =
    let view = g.D.Disk.view in
    let first = c.args.self.now in
    let flushed = c.flush.new.self in
    let posted = c.post.new.self in
    let last = c.flush-2.new.self in
    let d = first.intake.archive.disk in
    let mid = posted.intake.archive.disk in
    let hand = first.intake.archive.hand in
    let behind = posted.intake.archive.hand in
    let waiting = posted.intake.waiting in
    let p = c.args.posted.now in
    let m = c.args.moment in
    let s = setting c.args.secret.now c.args.limits.now in
    let h = committed first.state first.intake.waiting in
    let same = c.in_ok-flush.ensures.ok.0 in
    let goes = post_as view flushed.intake.archive.disk d mid flushed.state h flushed.intake.archive.hand hand waiting behind p m s c.post.result
    (ap (λ (a : Archived g.row.D.Denot). a.disk) c.flush.ensures.same.0) same (ap (λ (a : Archived g.row.D.Denot). a.hand) c.flush.ensures.same.0) c.post.ensures.steps in
    let e = posted_entry h p m s in
    let again = c.flush-2.ensures.same.0 in
    let err = c.in_err-flush-2.ensures.err in
    let seen : last.state ≡ h = err.0 ∙ c.post.ensures.same.0 ∙ same in
    makes_as view d mid last.intake.archive.disk (held h first.state hand) (held (committed h waiting) h behind) (held (committed last.state last.intake.waiting) last.state last.intake.archive.hand) e c.from_residual-in_err-flush-2.result
    (ap (λ (a : Archived g.row.D.Denot). a.disk) again)
    (held_is (committed last.state last.intake.waiting) last.state (committed h waiting) h last.intake.archive.hand behind (λ i. committed (seen i) (err.1 i)) seen (ap (λ (a : Archived g.row.D.Denot). a.hand) again))
    (unshown_again view g.met.D.Disk.honest d mid h first.state hand (option_to_list first.intake.waiting, refl) c.count-count.ensures.held e waiting behind c.in_ok-verdict.verdict
    (subst (λ (r : Result Verdict SubmitFault). GoesBy (view d) (view mid) (held h h hand) (held (committed h waiting) h behind) (post_events r hand e)) c.in_ok-verdict.was goes)
    c.from_residual-in_err-flush-2.result c.from_residual-in_err-flush-2.ensures.1)

pub returns-clause-steps : goal.returns-clause-steps
returns-clause-steps g c =
    let view = g.D.Disk.view in
    let first = c.args.self.now in
    let flushed = c.flush.new.self in
    let posted = c.post.new.self in
    let last = c.flush-2.new.self in
    let d = first.intake.archive.disk in
    let mid = posted.intake.archive.disk in
    let hand = first.intake.archive.hand in
    let behind = posted.intake.archive.hand in
    let waiting = posted.intake.waiting in
    let p = c.args.posted.now in
    let m = c.args.moment in
    let s = setting c.args.secret.now c.args.limits.now in
    let h = committed first.state first.intake.waiting in
    let more = c.in_ok-flush.ensures.ok in
    let same = more.0 in
    let goes = post_as view flushed.intake.archive.disk d mid flushed.state h flushed.intake.archive.hand hand waiting behind p m s c.post.result
    (ap (λ (a : Archived g.row.D.Denot). a.disk) c.flush.ensures.same.0) same (ap (λ (a : Archived g.row.D.Denot). a.hand) c.flush.ensures.same.0) c.post.ensures.steps in
    let v = c.in_ok-verdict.verdict in
    let e = posted_entry h p m s in
    let again = c.flush-2.ensures.same.0 in
    let ok = c.in_ok-flush-2.ensures.ok in
    let told : Submitted = record { verdict = v; judged = c.front-judged.result; front = c.front.result } in
    let seen : last.state ≡ committed h waiting = ok.0 ∙ ap (λ (l : List Entry). committed l waiting) (c.post.ensures.same.0 ∙ same) in
    makes_as view d mid last.intake.archive.disk (held h first.state hand) (held (committed h waiting) (committed h waiting) behind) (held (committed last.state last.intake.waiting) last.state last.intake.archive.hand) e (Ok told)
    (ap (λ (a : Archived g.row.D.Denot). a.disk) again)
    (held_is (committed last.state last.intake.waiting) last.state (committed h waiting) (committed h waiting) last.intake.archive.hand behind (ap (committed last.state) ok.1 ∙ append-nil last.state ∙ seen) seen (ap (λ (a : Archived g.row.D.Denot). a.hand) again))
    (shown_again view g.met.D.Disk.honest d mid h first.state hand (option_to_list first.intake.waiting, refl) c.count-count.ensures.held e waiting behind told
    (waits_added flushed.intake posted.intake h p m s v more.1 (subst (λ (l : List Entry). Posts flushed.intake posted.intake l p m s (Ok v)) same (subst (Posts flushed.intake posted.intake flushed.state p m s) c.in_ok-verdict.was c.post.ensures.row)))
    ((left_by view flushed.intake posted.intake more.1 flushed.state p m s c.post.result c.post.ensures.row c.post.ensures.disk).told ∙ ap (λ (a : Archived g.row.D.Denot). is_told (view a.disk)) c.flush.ensures.same.0)
    (subst (λ (r : Result Verdict SubmitFault). GoesBy (view d) (view mid) (held h h hand) (held (committed h waiting) h behind) (post_events r hand e)) c.in_ok-verdict.was goes)
    (subst (λ (l : List Entry). LeavesHeld (view mid) (held (committed l waiting) l behind)) same c.post.ensures.left))
