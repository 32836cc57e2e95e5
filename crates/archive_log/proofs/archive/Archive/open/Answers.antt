use Rattle.std.proofs.Common.{List, ℕ, subst, ◌∙◌, IfErr}
use Rattle.archive_log.specs.Opening.{ExplainsOpen, outcome_of}
use Rattle.archive_log.proofs.archive.Archive.open.Goals as goal

pub returns-in-Ok-clause-fault : goal.returns-in-Ok-clause-fault
returns-in-Ok-clause-fault g c told =
    subst (λ (file : List ℕ). IfErr (outcome_of c.go_on_in.result) (ExplainsOpen file)) (c.len.ensures.call.told told).content
    (c.go_on_in.ensures.fault (c.len.ensures.call.tells ∙ told))
