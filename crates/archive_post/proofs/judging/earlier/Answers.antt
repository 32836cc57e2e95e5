use Rattle.std.proofs.Common.{rules, ◌∙◌, ◌-◌, Some, ap, sym}
use Rattle.std.proofs.lemmas.Option.{slice_get-get_or, slice_get_past}
use Rattle.archive_post.proofs.Posts.{earlier_there, earlier_some}
use Rattle.archive_post.proofs.judging.earlier.Goals as goal

pub overflow_sub-number : goal.overflow_sub-number
overflow_sub-number c =
    let h = c.args.entries.now in
    earlier_some h c.args.author.now c.args.seq c.in_ok-number.number c.requires.lawful (sym c.in_ok-number.was ∙ c.earlier.ensures h c.requires.admit)

pub returns-in-Some : goal.returns-in-Some
returns-in-Some c =
    let h = c.args.entries.now in
    let n = c.in_ok-number.number in
    let e = c.in-Some.entry.now in
    let number = sym c.in_ok-number.was ∙ c.earlier.ensures h c.requires.admit in
    sym (slice_get-get_or c.args.entries.now (n - 1) e (search rules) ∙ ap Some (sym c.in-Some.ensures.lookup.1))
    ∙ earlier_there h c.args.author.now c.args.seq n c.requires.lawful number

pub returns-in-None : goal.returns-in-None
returns-in-None c =
    let h = c.args.entries.now in
    let n = c.in_ok-number.number in
    let number = sym c.in_ok-number.was ∙ c.earlier.ensures h c.requires.admit in
    sym (slice_get_past c.args.entries.now (n - 1) (search rules))
    ∙ earlier_there h c.args.author.now c.args.seq n c.requires.lawful number
