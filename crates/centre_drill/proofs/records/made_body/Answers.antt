use Rattle.std.proofs.Common.{◌∙◌, ◌++◌, List, ℕ, ap, sym, arith}
use Rattle.centre_drill.specs.Records.{made_record}
use Rattle.centre_drill.proofs.MadeRows.{body_next}
use Rattle.centre_drill.proofs.records.made_body.Goals as goal

pub records-preserved : goal.records-preserved
records-preserved c =
    c.in_ok-push_record.ensures
    ∙ ap (λ (xs : List ℕ). xs ++ made_record c.records.i) c.records.invariant
    ∙ sym (body_next c.args.from c.records.i (omega arith))
