use Rattle.command_words.specs.Arguments.{words_at}
use Rattle.centre_select.proofs.Rows.{told_ending}
use Rattle.centre_select.proofs.running.run_words.Goals as goal

pub returns : goal.returns
returns g c =
    let so = c.end_run.ensures in
    record { ending = so.told; row = told_ending (words_at c.args.arguments.now) _ _ c.select-ending.result so.told c.select-ending.ensures.row so.same; ends = so.ends }
