use Rattle.centre_select.specs.declared.help.TheConstants.{SELECT_HELP}
use Rattle.centre_select.proofs.Rows.{told_help}
use Rattle.centre_select.proofs.running.run_help.Goals as goal

pub returns : goal.returns
returns g c =
    let so = c.end_run.ensures in
    record { ending = so.told; row = told_help SELECT_HELP.now _ _ c.show-ending.result so.told c.show-ending.ensures.row so.same; ends = so.ends }
