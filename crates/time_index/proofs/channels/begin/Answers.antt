use Rattle.std.proofs.Common.{◌≡◌, ◌||◌, Bool, true, false, None, refl, ◌∙◌, ℕ, max, arith}
use Rattle.std.specs.Ordering.{eq_by_cmp}
use Rattle.time_index.specs.Spots.{spot_cmp}
use Rattle.time_index.proofs.Named.{spots_grown, longest_grown}
use Rattle.time_index.proofs.channels.begin.Goals as goal

or_none : (a : Bool) → a ≡ (a || false)
or_none true = refl
or_none false = refl

above_none : (n : ℕ) → n ≡ max 0 n
above_none n = omega arith

pub returns-clause-spots : goal.returns-clause-spots
returns-clause-spots c =
    spots_grown c.args.channels.now c.insert.new.self c.args.name None c.in_ok-channel.channel c.requires.absent (c.in_ok-insert.ensures.updates.0) c.args.spot
    (λ q. c.in_ok-channel.ensures.spots q ∙ or_none (eq_by_cmp spot_cmp q c.args.spot))

pub returns-clause-longest : goal.returns-clause-longest
returns-clause-longest c =
    longest_grown c.args.channels.now c.insert.new.self c.args.name None c.in_ok-channel.channel c.requires.absent (c.in_ok-insert.ensures.updates.0) c.args.longest
    (c.in_ok-channel.ensures.longest ∙ above_none c.args.longest)
