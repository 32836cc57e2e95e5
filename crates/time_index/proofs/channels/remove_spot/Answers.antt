use Rattle.std.proofs.Common.{rules, refl, sym, ◌≡◌, Some, false}
use Rattle.std.specs.BTreeMap.{get}
use Rattle.std.specs.Option.{is_some}
use Rattle.channel_globs.specs.Names.{name_cmp}
use Rattle.time_index.specs.declared.channels.Channel.{Channel}
use Rattle.time_index.proofs.Named.{spots_shrunk, none_shrunk, longest_kept}
use Rattle.time_index.proofs.channels.remove_spot.Goals as goal

pub returns-then-not-contains_key-clause-spots : goal.returns-then-not-contains_key-clause-spots
returns-then-not-contains_key-clause-spots c =
    let none : is_some (get name_cmp c.args.channels.now c.args.name.now) ≡ false = search rules in
    none_shrunk c.args.channels.now c.args.name.now c.args.spot none

pub returns-in-Some-clause-spots : goal.returns-in-Some-clause-spots
returns-in-Some-clause-spots c =
    let new : Channel = record { spots = c.remove.new.self; longest = c.in-Some.channel.now.longest } in
    spots_shrunk c.args.channels.now (c.get_mut.follows.lender new) c.args.name.now (Some c.in-Some.channel.now) new (sym c.in-Some.ensures.value)
    (((c.get_mut.follows.holds new).3 (search rules)).0) c.args.spot c.remove.ensures.updates.0

pub returns-in-Some-clause-longest : goal.returns-in-Some-clause-longest
returns-in-Some-clause-longest c =
    let new : Channel = record { spots = c.remove.new.self; longest = c.in-Some.channel.now.longest } in
    longest_kept c.args.channels.now (c.get_mut.follows.lender new) c.args.name.now (Some c.in-Some.channel.now) new (sym c.in-Some.ensures.value)
    (((c.get_mut.follows.holds new).3 (search rules)).0) refl
