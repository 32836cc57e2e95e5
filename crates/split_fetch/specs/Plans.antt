-- A plan stands for a stage.
use Rattle.std.specs.Prelude.{reverse}
use Rattle.split_fetch.specs.declared.plan.Plan.{Plan}
use Rattle.split_fetch.specs.declared.plan.Step.{Step}
use Rattle.split_fetch.specs.declared.plan.Step.TheVariants.{Goes as GoesOn, Ends as EndsThere}
use Rattle.split_fetch.specs.Rounds.{Stage, Way, Goes, Ends}

abbrev pub stage_of : Plan → Stage
stage_of plan = record { whole = plan.whole; round = plan.round; asked = plan.asked; todo = reverse plan.todo; taken = plan.taken }

abbrev pub way_of : Step → Way
way_of (GoesOn plan) = Goes (stage_of plan)
way_of (EndsThere outcome) = Ends outcome
