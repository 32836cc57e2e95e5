use Rattle.std.proofs.Common.{rules, ◌≡◌, ◌∷◌, ◌++◌, ◌∙◌, Some, List, ℕ, ap, cond, subst, sym, refl}
use Rattle.std.specs.List.{AllByRecursion}
use Rattle.std.specs.BTreeMap.{get}
use Rattle.std.proofs.lemmas.List.Elements.{recursion_from_All}
use Rattle.channel_globs.specs.declared.nslc.Nslc.{Nslc}
use Rattle.channel_globs.specs.Names.{name_cmp}
use Rattle.time_index.specs.declared.channels.Channel.{Channel}
use Rattle.time_index.specs.Windows.{passes_by, places_in, places_at, ranks_at}
use Rattle.time_index.proofs.Whose.{of_channel, channel_more}
use Rattle.time_index.proofs.windows.add_channels.Goals as goal

pub channels-init : goal.channels-init
channels-init g c = record {
  sight = refl;
  ranks = search rules;
  there =
      (let all = recursion_from_All (λ (e : Nslc × Channel). get name_cmp c.args.channels.now e.0 ≡ Some e.1) c.args.channels.now.entries c.into_iter-name-iterator.ensures.into_iter_gives.6 in
      let same : c.args.channels.now.entries ≡ c.into_iter-name-iterator.result = search rules in
      subst (AllByRecursion (λ (e : Nslc × Channel). get name_cmp c.args.channels.now e.0 ≡ Some e.1)) same all);
}

pub add_channel-requires-clause-of_it : goal.add_channel-requires-clause-of_it
add_channel-requires-clause-of_it g c =
    let one : c.channels.name-iterator ≡ (c.in-Some.name.now, c.in-Some.channel.now) ∷ c.next.new.self = search rules in
    let at = (subst (AllByRecursion (λ (e : Nslc × Channel). get name_cmp c.args.channels.now e.0 ≡ Some e.1)) one c.channels.invariant.there).0 in
    of_channel c.args.rows.now c.args.channels.now c.in-Some.name.now c.in-Some.channel.now c.requires.index at

pub channels-preserved-in-Continue-1 : goal.channels-preserved-in-Continue-1
channels-preserved-in-Continue-1 g c =
    let s = c.args.selection.now in
    let test = passes_by (g.V.Sight.seen c.args.wholes.now.sight.now) c.args.query.now s in
    let rows = c.args.rows.now in
    let one : c.channels.name-iterator ≡ (c.in-Some.name.now, c.in-Some.channel.now) ∷ c.next.new.self = search rules in
    let named : places_in s c.channels.name-iterator ≡ places_at s c.in-Some.channel.now ++ places_in s c.next.new.self =
    ap (places_in s) one ∙ ap (λ b. cond b (places_at s c.in-Some.channel.now ++ places_in s c.next.new.self) (places_in s c.next.new.self)) (sym c.names.ensures ∙ c.if-names.true) in
    let grown : c.add_channel.new.ranks ≡ c.channels.ranks ++ ranks_at test rows (places_at s c.in-Some.channel.now) = rw c.channels.invariant.sight at c.in_ok-add_channel.ensures.ok in
    record {
      sight = c.add_channel.ensures.sight ∙ c.channels.invariant.sight;
      ranks = channel_more test rows c.channels.ranks c.add_channel.new.ranks (places_at s c.in-Some.channel.now) (places_in s c.next.new.self) grown ∙ ap (λ (ps : List ℕ). c.channels.ranks ++ ranks_at test rows ps) (sym named) ∙ c.channels.invariant.ranks;
      there = (subst (AllByRecursion (λ (e : Nslc × Channel). get name_cmp c.args.channels.now e.0 ≡ Some e.1)) one c.channels.invariant.there).1;
    }
