use Rattle.std.proofs.Common.{◌++◌, ◌∙◌, sym, ap, map}
use Rattle.event_text.specs.Ranks.{line_at, line_of_rank}
use Rattle.event_text.proofs.Ranked.{moved}
use Rattle.event_text.proofs.ranking.events_of.Goals as goal

pub ranks-preserved : goal.ranks-preserved
ranks-preserved c =
    rw c.in_ok-push.ensures.ok
    (moved c.ranks.events c.in-Some.rank.now c.next.new.self
    ∙ ap (λ rs. map line_at c.ranks.events ++ map line_of_rank rs) (sym c.in-Some.ensures.steps)
    ∙ c.ranks.invariant)
