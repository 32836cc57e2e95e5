use Rattle.std.proofs.Common.{◌≡◌, ◌∙◌, ◌++◌, ◌∷◌, [], ◌+◌, ◌*◌, ap, arith}
use Rattle.archive_entry.specs.declared.entry.Kind.TheVariants.{Batch}
use Rattle.archive_state.specs.Lawful.{is_next}
use Rattle.archive_state.specs.Verdicts.{command, entry_of}
use Rattle.centre_drill.specs.History.{batch_entry, epoch, feed}
use Rattle.centre_drill.specs.Records.{made_body}
use Rattle.centre_drill.proofs.Begun.{batch_added, batch_next, holds_all}
use Rattle.centre_drill.proofs.Steps.{on_ok}
use Rattle.centre_drill.proofs.making.Making.add_batch.Goals as goal

pub post-requires-clause-next : goal.post-requires-clause-next
post-requires-clause-next g c =
    let k = c.args.k in
    let holds = holds_all c.args.count c.requires.few k (λ more. omega (arith, c.requires.some)) in
    let body_is : c.in_ok-body.body ≡ (batch_entry c.args.count k).body = c.in_ok-body.ensures ∙ ap (made_body (1000 * k)) c.min.ensures in
    (λ i. is_next (c.requires.begun i) (entry_of (c.requires.begun i) (command feed (k + 1) Batch (body_is i)) epoch)) ∙ batch_next c.args.count k c.requires.some c.requires.few holds

pub returns-clause-added : goal.returns-clause-added
returns-clause-added g c =
    let k = c.args.k in
    let holds = holds_all c.args.count c.requires.few k (λ more. omega (arith, c.requires.some)) in
    let body_is : c.in_ok-body.body ≡ (batch_entry c.args.count k).body = c.in_ok-body.ensures ∙ ap (made_body (1000 * k)) c.min.ensures in
    on_ok c.post.result _ _ c.post.ensures.added
    (λ is. is
    ∙ (λ i. c.requires.begun i ++ entry_of (c.requires.begun i) (command feed (k + 1) Batch (body_is i)) epoch ∷ [])
    ∙ batch_added c.args.count k c.requires.some c.requires.few holds)
