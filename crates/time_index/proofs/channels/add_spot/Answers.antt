use Rattle.std.proofs.Common.{rules, sym, ap, Some, Result, Ok, Err, OnErr, List}
use Rattle.time_index.specs.declared.spot.Spot.{Spot}
use Rattle.std.specs.List.{list_any}
use Rattle.std.specs.Ordering.{eq_by_cmp}
use Rattle.time_index.specs.Spots.{spot_cmp}
use Rattle.time_index.proofs.Named.{spots_grown, longest_grown, spots_kept, longest_kept}
use Rattle.time_index.proofs.channels.add_spot.Goals as goal

pub returns-in-Some-clause-spots : goal.returns-in-Some-clause-spots
returns-in-Some-clause-spots c =
    spots_grown c.args.channels.now (c.get_mut.follows.lender c.add_to.new.channel) c.args.name (Some c.in-Some.channel.now) c.add_to.new.channel (sym c.in-Some.ensures.value)
    (((c.get_mut.follows.holds c.add_to.new.channel).3 (search rules)).0) c.args.spot c.in_ok-add_to.ensures.spots

pub returns-in-Some-clause-longest : goal.returns-in-Some-clause-longest
returns-in-Some-clause-longest c =
    longest_grown c.args.channels.now (c.get_mut.follows.lender c.add_to.new.channel) c.args.name (Some c.in-Some.channel.now) c.add_to.new.channel (sym c.in-Some.ensures.value)
    (((c.get_mut.follows.holds c.add_to.new.channel).3 (search rules)).0) c.args.longest c.in_ok-add_to.ensures.longest

on_error : {T E P : Type 0} (r : Result T E) → P → OnErr r P
on_error (Ok v) p = tt
on_error (Err e) p = p

pub returns-in_err-add_to-clause-err_spots : goal.returns-in_err-add_to-clause-err_spots
returns-in_err-add_to-clause-err_spots c =
    on_error c.from_residual.result
    (spots_kept c.args.channels.now (c.get_mut.follows.lender c.add_to.new.channel) c.args.name (Some c.in-Some.channel.now) c.add_to.new.channel (sym c.in-Some.ensures.value)
    (((c.get_mut.follows.holds c.add_to.new.channel).3 (search rules)).0) (λ q. ap (λ (spots : List Spot). list_any (eq_by_cmp spot_cmp q) spots) c.in_err-add_to.ensures.err_spots))

pub returns-in_err-add_to-clause-err_longest : goal.returns-in_err-add_to-clause-err_longest
returns-in_err-add_to-clause-err_longest c =
    on_error c.from_residual.result
    (longest_kept c.args.channels.now (c.get_mut.follows.lender c.add_to.new.channel) c.args.name (Some c.in-Some.channel.now) c.add_to.new.channel (sym c.in-Some.ensures.value)
    (((c.get_mut.follows.holds c.add_to.new.channel).3 (search rules)).0) c.in_err-add_to.ensures.err_longest)
