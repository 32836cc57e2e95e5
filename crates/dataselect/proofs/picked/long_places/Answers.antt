use Rattle.std.proofs.Common.{rules, ◌<◌, ◌++◌, ℕ, List, length, sym, ap, ◌∙◌}
use Rattle.std.specs.List.{concat}
use Rattle.dataselect.specs.Segments.{breaks_at}
use Rattle.dataselect.proofs.Cuts.{run_len_le, all_dropped, cut_long, cut_short, put_one}
use Rattle.dataselect.proofs.picked.long_places.Goals as goal

pub split_at-requires : goal.split_at-requires
split_at-requires c = run_len_le (breaks_at c.args.rows.now) c.segments.rest.now c.first_len.result c.first_len.ensures.value

pub segments-preserved-in_ok-put_all : goal.segments-preserved-in_ok-put_all
segments-preserved-in_ok-put_all c =
    let all = cut_long c.args.rows.now c.args.minimum c.split_at.result.0.now c.split_at.result.1.now c.segments.rest.now c.first_len.result (search rules) c.first_len.ensures.value c.split_at.ensures.front c.split_at.ensures.back (sym c.is_long.ensures.value ∙ c.if-is_long.true) in
    record {
      picked = put_one c.segments.picked _ c.split_at.result.0.now _ _ _ all c.in_ok-put_all.ensures.ok c.segments.invariant.picked;
      inside = rw c.split_at.ensures.back (all_dropped (λ i. i < length c.args.rows.now) c.first_len.result c.segments.rest.now c.segments.invariant.inside);
    }

pub segments-preserved : goal.segments-preserved
segments-preserved c =
    let all = cut_short c.args.rows.now c.args.minimum c.split_at.result.0.now c.split_at.result.1.now c.segments.rest.now c.first_len.result (search rules) c.first_len.ensures.value c.split_at.ensures.front c.split_at.ensures.back (sym c.is_long.ensures.value ∙ c.if-is_long.false) in
    record {
      picked = ap (λ (xs : List (List ℕ)). c.segments.picked ++ concat xs) (sym all) ∙ c.segments.invariant.picked;
      inside = rw c.split_at.ensures.back (all_dropped (λ i. i < length c.args.rows.now) c.first_len.result c.segments.rest.now c.segments.invariant.inside);
    }
