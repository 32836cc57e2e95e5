use Rattle.std.proofs.Common.{rules, ◌≡◌, ◌∷◌, ◌++◌, ◌∙◌, map, ℕ, List, ap, subst, sym}
use Rattle.time_index.specs.declared.spot.Spot.{Spot}
use Rattle.time_index.specs.Index.{AreOfName}
use Rattle.time_index.specs.Windows.{passes_by, ranks_at}
use Rattle.time_index.proofs.Whose.{rank_more}
use Rattle.time_index.proofs.windows.add_between.Goals as goal

pub spots-preserved : goal.spots-preserved
spots-preserved g c =
    let test = passes_by (g.V.Sight.seen c.args.asked.now.sight.now) c.args.asked.now.query.now c.args.asked.now.selection.now in
    let rows = c.args.rows.now in
    let one : c.spots.spot-iterator ≡ c.in-Some.spot.now ∷ c.next.new.self = search rules in
    let places : List Spot → List ℕ = map (λ (s : Spot). s.place) in
    record {
      ranks = rank_more test rows c.spots.ranks c.add_rank.new.ranks c.in-Some.spot.now.place (places c.next.new.self) c.in_ok-add_rank.ensures.ok ∙ ap (λ (ss : List Spot). c.spots.ranks ++ ranks_at test rows (places ss)) (sym one) ∙ c.spots.invariant.ranks;
      of_it = (subst (AreOfName rows c.args.asked.now.name.now) one c.spots.invariant.of_it).1;
    }
