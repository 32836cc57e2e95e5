use Rattle.std.proofs.Common.{◌≡◌, ◌∙◌, true, Some, ap, sym, subst, refl}
use Rattle.archive_entry.specs.declared.entry.Entry.{Entry}
use Rattle.archive_state.specs.Lawful.{is_accept, is_next}
use Rattle.archive_state.specs.declared.verdict.Verdict.TheVariants.{Accept}
use Rattle.desk_words.specs.Posting.{posted_entry, ruling}
use Rattle.desk_words.specs.Setting.{setting}
use Rattle.archive_post.proofs.Calls.{fault_row, handed_stop, same_call}
use Rattle.archive_post.proofs.Posts.{could, entry_is, entry_next, made_entry}
use Rattle.archive_post.proofs.kept.Intake.post.Goals as goal

pub add-requires-clause-next : goal.add-requires-clause-next
add-requires-clause-next g c =
    let h = c.args.entries.now in
    let p = c.args.posted.now in
    let m = c.args.moment in
    let s = setting c.args.secret.now c.args.limits.now in
    let e = c.in_ok-entry.entry in
    let n = c.in-Accept.number in
    let rules : ruling h p m s ≡ Accept n = sym c.in_ok-verdict.ensures.verdict ∙ c.in-Accept.is in
    let who = c.in_ok-verdict.ensures.author n c.in-Accept.is in
    let name = c.in_ok-verdict.field-0.author in
    let made = made_entry h p m s name n who rules e c.in_ok-entry.ensures in
    let next : is_next h e ≡ true = subst (λ (x : Entry). is_next h x ≡ true) (sym made) (entry_next h p m s name n who rules c.requires.fit) in
    let posted : posted_entry h p m s ≡ Some e = entry_is h p m s name n who rules ∙ ap Some (sym made) in
    record { history = h; stands = c.requires.stands; next = next }

pub returns-in_err-add-clause-stands : goal.returns-in_err-add-clause-stands
returns-in_err-add-clause-stands g c =
    let h = c.args.entries.now in
    let p = c.args.posted.now in
    let m = c.args.moment in
    let s = setting c.args.secret.now c.args.limits.now in
    let e = c.in_ok-entry.entry in
    let n = c.in-Accept.number in
    let rules : ruling h p m s ≡ Accept n = sym c.in_ok-verdict.ensures.verdict ∙ c.in-Accept.is in
    let who = c.in_ok-verdict.ensures.author n c.in-Accept.is in
    let name = c.in_ok-verdict.field-0.author in
    let made = made_entry h p m s name n who rules e c.in_ok-entry.ensures in
    let next : is_next h e ≡ true = subst (λ (x : Entry). is_next h x ≡ true) (sym made) (entry_next h p m s name n who rules c.requires.fit) in
    let posted : posted_entry h p m s ≡ Some e = entry_is h p m s name n who rules ∙ ap Some (sym made) in
    c.add.ensures.stands h c.requires.stands next

pub returns-in_err-add-clause-row : goal.returns-in_err-add-clause-row
returns-in_err-add-clause-row g c =
    let h = c.args.entries.now in
    let p = c.args.posted.now in
    let m = c.args.moment in
    let s = setting c.args.secret.now c.args.limits.now in
    let e = c.in_ok-entry.entry in
    let n = c.in-Accept.number in
    let rules : ruling h p m s ≡ Accept n = sym c.in_ok-verdict.ensures.verdict ∙ c.in-Accept.is in
    let who = c.in_ok-verdict.ensures.author n c.in-Accept.is in
    let name = c.in_ok-verdict.field-0.author in
    let made = made_entry h p m s name n who rules e c.in_ok-entry.ensures in
    let next : is_next h e ≡ true = subst (λ (x : Entry). is_next h x ≡ true) (sym made) (entry_next h p m s name n who rules c.requires.fit) in
    let posted : posted_entry h p m s ≡ Some e = entry_is h p m s name n who rules ∙ ap Some (sym made) in
    fault_row c.args.self.now c.add.new.self h p m s e posted (ap is_accept rules) (could h p m s name n who rules) next
    c.from_residual-in_err-add.result c.in_err-add.field-0.0 c.add.result c.from_residual-in_err-add.ensures.1 c.in_err-add.was c.add.ensures.row

pub returns-in_err-add-clause-disk : goal.returns-in_err-add-clause-disk
returns-in_err-add-clause-disk g c =
    let h = c.args.entries.now in
    let p = c.args.posted.now in
    let m = c.args.moment in
    let s = setting c.args.secret.now c.args.limits.now in
    let e = c.in_ok-entry.entry in
    let n = c.in-Accept.number in
    let rules : ruling h p m s ≡ Accept n = sym c.in_ok-verdict.ensures.verdict ∙ c.in-Accept.is in
    let who = c.in_ok-verdict.ensures.author n c.in-Accept.is in
    let name = c.in_ok-verdict.field-0.author in
    let made = made_entry h p m s name n who rules e c.in_ok-entry.ensures in
    let next : is_next h e ≡ true = subst (λ (x : Entry). is_next h x ≡ true) (sym made) (entry_next h p m s name n who rules c.requires.fit) in
    let posted : posted_entry h p m s ≡ Some e = entry_is h p m s name n who rules ∙ ap Some (sym made) in
    λ x one. same_call g.D.Disk.view c.args.self.now.archive c.add.new.self.archive h e x (posted_entry h p m s) _ _ posted one
    (handed_stop c.from_residual-in_err-add.result c.in_err-add.field-0.0 c.add.result c.from_residual-in_err-add.ensures.1 c.in_err-add.was) (c.add.ensures.disk h c.requires.stands next)

pub returns-clause-stands : goal.returns-clause-stands
returns-clause-stands g c =
    let h = c.args.entries.now in
    let p = c.args.posted.now in
    let m = c.args.moment in
    let s = setting c.args.secret.now c.args.limits.now in
    let e = c.in_ok-entry.entry in
    let n = c.in-Accept.number in
    let rules : ruling h p m s ≡ Accept n = sym c.in_ok-verdict.ensures.verdict ∙ c.in-Accept.is in
    let who = c.in_ok-verdict.ensures.author n c.in-Accept.is in
    let name = c.in_ok-verdict.field-0.author in
    let made = made_entry h p m s name n who rules e c.in_ok-entry.ensures in
    let next : is_next h e ≡ true = subst (λ (x : Entry). is_next h x ≡ true) (sym made) (entry_next h p m s name n who rules c.requires.fit) in
    let posted : posted_entry h p m s ≡ Some e = entry_is h p m s name n who rules ∙ ap Some (sym made) in
    c.add.ensures.stands h c.requires.stands next

pub returns-clause-row : goal.returns-clause-row
returns-clause-row g c =
    let h = c.args.entries.now in
    let p = c.args.posted.now in
    let m = c.args.moment in
    let s = setting c.args.secret.now c.args.limits.now in
    let e = c.in_ok-entry.entry in
    let n = c.in-Accept.number in
    let rules : ruling h p m s ≡ Accept n = sym c.in_ok-verdict.ensures.verdict ∙ c.in-Accept.is in
    let who = c.in_ok-verdict.ensures.author n c.in-Accept.is in
    let name = c.in_ok-verdict.field-0.author in
    let made = made_entry h p m s name n who rules e c.in_ok-entry.ensures in
    let next : is_next h e ≡ true = subst (λ (x : Entry). is_next h x ≡ true) (sym made) (entry_next h p m s name n who rules c.requires.fit) in
    let posted : posted_entry h p m s ≡ Some e = entry_is h p m s name n who rules ∙ ap Some (sym made) in
    record { verdict = sym rules; accepted = λ k is. (e, posted, c.in_ok-add.ensures.row); refused = λ other. absurd (other n refl) }

pub returns-clause-disk : goal.returns-clause-disk
returns-clause-disk g c =
    let h = c.args.entries.now in
    let p = c.args.posted.now in
    let m = c.args.moment in
    let s = setting c.args.secret.now c.args.limits.now in
    let e = c.in_ok-entry.entry in
    let n = c.in-Accept.number in
    let rules : ruling h p m s ≡ Accept n = sym c.in_ok-verdict.ensures.verdict ∙ c.in-Accept.is in
    let who = c.in_ok-verdict.ensures.author n c.in-Accept.is in
    let name = c.in_ok-verdict.field-0.author in
    let made = made_entry h p m s name n who rules e c.in_ok-entry.ensures in
    let next : is_next h e ≡ true = subst (λ (x : Entry). is_next h x ≡ true) (sym made) (entry_next h p m s name n who rules c.requires.fit) in
    let posted : posted_entry h p m s ≡ Some e = entry_is h p m s name n who rules ∙ ap Some (sym made) in
    λ x one. same_call g.D.Disk.view c.args.self.now.archive c.add.new.self.archive h e x (posted_entry h p m s) _ _ posted one (λ so. absurd (cc (so))) (c.add.ensures.disk h c.requires.stands next)
