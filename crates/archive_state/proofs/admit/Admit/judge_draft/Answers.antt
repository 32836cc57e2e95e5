use Rattle.std.specs.Prelude.{option_map}
use Rattle.archive_state.specs.Verdicts.{command}
use Rattle.archive_state.proofs.Stands.{judged_by}
use Rattle.archive_state.proofs.admit.Admit.judge_draft.Goals as goal

pub returns : goal.returns
returns c =
    let d = c.args.draft.now in
    judged_by c.args.self.now c.args.limits.now (command d.author.now d.seq d.kind d.body.now) (option_map (λ e. e.now) c.args.earlier) c.judged.result c.judged.ensures
