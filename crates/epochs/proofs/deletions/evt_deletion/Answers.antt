use Rattle.std.proofs.Common.{arith, ◌≡◌, ◌∷◌, [], length}
use Rattle.epochs.specs.declared.kinds.LineKind.TheVariants.{Evt}
use Rattle.epochs.specs.declared.kinds.Head.TheVariants.{Deletes}
use Rattle.epochs.specs.Fields.{words}
use Rattle.epochs.proofs.LadderSteps.{spellable_behind, spelled_behind}
use Rattle.epochs.proofs.deletions.evt_deletion.Goals as goal

pub invariant_of-result : goal.invariant_of-result
invariant_of-result c =
    let fields = c.args.fields.now in
    record {
      spellable = spellable_behind (Deletes Evt) fields
          (words c.in_ok-id.id ∷ [])
          (c.in_ok-id.ensures.value, tt) tt;
    }

pub returns-clause-value : goal.returns-clause-value
returns-clause-value c =
    let fields = c.args.fields.now in
    let count : length c.args.fields.now ≡ 1 = omega (arith, c.in-len1.len_at_least, c.in-len1.len_below) in
    spelled_behind (Deletes Evt) fields
    (words c.in_ok-id.id ∷ [])
    count (c.in_ok-id.ensures.value, tt) tt
