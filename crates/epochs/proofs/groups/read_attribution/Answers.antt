use Rattle.std.proofs.Common.{◌∷◌, []}
use Rattle.std.proofs.lemmas.Result.{err_from_is_err_and}
use Rattle.epochs.specs.Kinds.{Words}
use Rattle.epochs.specs.Fields.{words}
use Rattle.epochs.proofs.LadderSteps.{field_among}
use Rattle.epochs.proofs.groups.read_attribution.Goals as goal

pub returns-in_err-catalog-clause-refused : goal.returns-in_err-catalog-clause-refused
returns-in_err-catalog-clause-refused c =
    let p = err_from_is_err_and c.from_residual-in_err-catalog.result c.from_residual-in_err-catalog.ensures.1 in
    rw (p.1, p.2) (field_among (Words ∷ []) Words (Words ∷ Words ∷ []) c.args.number (c.args.author.now ∷ []) c.args.catalog.now (c.args.contributor.now ∷ c.args.contributor_id.now ∷ []) (words c.in_ok-author.author ∷ []) c.in_err-catalog.field-0.0 (c.in_ok-author.ensures.value, tt) c.in_err-catalog.ensures.refused)

pub returns-in_err-contributor-clause-refused : goal.returns-in_err-contributor-clause-refused
returns-in_err-contributor-clause-refused c =
    let p = err_from_is_err_and c.from_residual-in_err-contributor.result c.from_residual-in_err-contributor.ensures.1 in
    rw (p.1, p.2) (field_among (Words ∷ Words ∷ []) Words (Words ∷ []) c.args.number (c.args.author.now ∷ c.args.catalog.now ∷ []) c.args.contributor.now (c.args.contributor_id.now ∷ []) (words c.in_ok-author.author ∷ words c.in_ok-catalog.catalog ∷ []) c.in_err-contributor.field-0.0 (c.in_ok-author.ensures.value, (c.in_ok-catalog.ensures.value, tt)) c.in_err-contributor.ensures.refused)

pub returns-in_err-contributor_id-clause-refused : goal.returns-in_err-contributor_id-clause-refused
returns-in_err-contributor_id-clause-refused c =
    let p = err_from_is_err_and c.from_residual-in_err-contributor_id.result c.from_residual-in_err-contributor_id.ensures.1 in
    rw (p.1, p.2) (field_among (Words ∷ Words ∷ Words ∷ []) Words [] c.args.number (c.args.author.now ∷ c.args.catalog.now ∷ c.args.contributor.now ∷ []) c.args.contributor_id.now [] (words c.in_ok-author.author ∷ words c.in_ok-catalog.catalog ∷ words c.in_ok-contributor.contributor ∷ []) c.in_err-contributor_id.field-0.0 (c.in_ok-author.ensures.value, (c.in_ok-catalog.ensures.value, (c.in_ok-contributor.ensures.value, tt))) c.in_err-contributor_id.ensures.refused)
