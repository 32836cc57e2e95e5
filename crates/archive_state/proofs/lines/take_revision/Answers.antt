use Rattle.std.proofs.Common.{◌≡◌, ◌++◌, ◌∙◌, List, Ok, Err, ap, map, sym, subst}
use Rattle.std.specs.Prelude.{OnOk}
use Rattle.epochs.specs.Lines.{LineValues}
use Rattle.epochs.specs.Views.{values_of_line}
use Rattle.epochs.specs.declared.fault.RevisionFault.TheVariants as revision
use Rattle.epoch_rules.specs.Kept.{AreKept}
use Rattle.epoch_rules.specs.LiveLines.{live_lines}
use Rattle.archive_entry.proofs.Readings.{revision_is}
use Rattle.archive_state.specs.History.{lines_in}
use Rattle.archive_state.proofs.Growth.{none_more}
use Rattle.archive_state.proofs.lines.take_revision.Goals as goal

pub apply-requires : goal.apply-requires
apply-requires c =
    subst (AreKept c.args.catalog.now) (ap lines_in (revision_is c.args.body.now (Ok (map values_of_line c.in-Ok.lines)) c.in-Ok.ensures.lines)) c.requires

pub returns-in-Ok-clause-ok : goal.returns-in-Ok-clause-ok
returns-in-Ok-clause-ok c =
    subst (λ (ls : List LineValues). OnOk c.apply.result (c.apply.new.self ≡ live_lines (c.args.catalog.now ++ ls)))
    (sym (ap lines_in (revision_is c.args.body.now (Ok (map values_of_line c.in-Ok.lines)) c.in-Ok.ensures.lines))) c.apply.ensures.ok

pub returns-in-Err-Bad-clause-ok : goal.returns-in-Err-Bad-clause-ok
returns-in-Err-Bad-clause-ok c =
    let refused = rw c.in-Err-Bad.field-0-is at c.in-Err-Bad.ensures.refused in
    none_more c.args.catalog.now c.lines-kept.ensures.kept
    ∙ ap (λ (ls : List LineValues). live_lines (c.args.catalog.now ++ ls)) (sym (ap lines_in (revision_is c.args.body.now (Err (revision.Bad c.in-Err-Bad.field-0-0 c.in-Err-Bad.field-0-1)) refused)))
