use Rattle.std.proofs.Common.{◌≡◌, ◌∙◌, ◌++◌, List, ℕ, ap}
use Rattle.archive_entry.specs.declared.entry.Kind.TheVariants.{Revise}
use Rattle.archive_state.specs.Lawful.{is_next}
use Rattle.archive_state.specs.Verdicts.{command, entry_of}
use Rattle.centre_drill.specs.History.{epoch, feed_body, operator}
use Rattle.centre_drill.proofs.Begun.{feed_next}
use Rattle.centre_drill.proofs.making.Making.add_feed.Goals as goal

pub post-requires-clause-next : goal.post-requires-clause-next
post-requires-clause-next g c =
    let body_is : c.extend.new.self ≡ feed_body = c.in_ok-extend.ensures.ok ∙ ap (λ (xs : List ℕ). xs ++ feed_body) c.new-body.ensures in
    (λ i. is_next (c.requires.first i) (entry_of (c.requires.first i) (command operator 1 Revise (body_is i)) epoch)) ∙ feed_next
