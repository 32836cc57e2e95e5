use Rattle.std.proofs.Common.{rules, ◌≡◌, ◌<◌, ◌++◌, ℕ, List, length, sym, ap, ◌∙◌}
use Rattle.dataselect.specs.Segments.{breaks_at, is_longer}
use Rattle.dataselect.specs.Picked.{long_segments}
use Rattle.dataselect.proofs.Cuts.{run_len_le, run_len_some, all_dropped, all_taken, cut_long, cut_short}
use Rattle.dataselect.proofs.Rises.{rise_skipped, rise_begun}
use Rattle.dataselect.proofs.Waits.{to_put, put_best, wait_longer, all_of_longer, rise_longer, some_taken}
use Rattle.dataselect.proofs.picked.longest_places.Goals as goal

pub split_at-requires : goal.split_at-requires
split_at-requires c = run_len_le (breaks_at c.args.rows.now) c.segments.rest.now c.first_len.result c.first_len.ensures.value

pub segments-preserved-in_ok-put_all : goal.segments-preserved-in_ok-put_all
segments-preserved-in_ok-put_all c =
    let rows = c.args.rows.now in
    let rest = c.segments.rest.now in
    let segment = c.split_at.result.0.now in
    let after = c.split_at.result.1.now in
    let n = c.first_len.result in
    let within : 0 < length rest = search rules in
    let some : 0 < n = run_len_some (breaks_at rows) rest n c.first_len.ensures.value within in
    let cut : long_segments rows c.args.minimum rest ≡ _ = cut_long rows c.args.minimum segment after rest n within c.first_len.ensures.value c.split_at.ensures.front c.split_at.ensures.back (sym c.is_long.ensures.value ∙ c.if-is_long.true) in
    record {
      picked = put_best rows c.args.minimum c.segments.picked _ c.segments.best.now segment rest _ (long_segments rows c.args.minimum after) n some within (some_taken n segment rest some within c.split_at.ensures.front) c.split_at.ensures.front
          c.segments.invariant.names cut (sym c.is_first_of_name.ensures.value ∙ c.if-is_first_of_name.true) c.in_ok-put_all.ensures.ok c.segments.invariant.picked;
      best_inside = rw c.split_at.ensures.front (all_taken (λ i. i < length rows) n rest c.segments.invariant.inside);
      inside = rw c.split_at.ensures.back (all_dropped (λ i. i < length rows) n rest c.segments.invariant.inside);
      names = rise_begun rows c.segments.best.now segment rest after n c.split_at.ensures.front c.split_at.ensures.back c.segments.invariant.names;
    }

pub segments-preserved-else-is_first_of_name : goal.segments-preserved-else-is_first_of_name
segments-preserved-else-is_first_of_name c =
    let rows = c.args.rows.now in
    let rest = c.segments.rest.now in
    let segment = c.split_at.result.0.now in
    let after = c.split_at.result.1.now in
    let n = c.first_len.result in
    let within : 0 < length rest = search rules in
    let some : 0 < n = run_len_some (breaks_at rows) rest n c.first_len.ensures.value within in
    let cut : long_segments rows c.args.minimum rest ≡ _ = cut_long rows c.args.minimum segment after rest n within c.first_len.ensures.value c.split_at.ensures.front c.split_at.ensures.back (sym c.is_long.ensures.value ∙ c.if-is_long.true) in
    record {
      picked = wait_longer rows c.args.minimum c.segments.picked c.segments.best.now segment c.longer_of-best.result.now rest _ (long_segments rows c.args.minimum after) (some_taken n segment rest some within c.split_at.ensures.front)
          cut (sym c.is_first_of_name.ensures.value ∙ c.if-is_first_of_name.false) c.longer_of-best.ensures.value c.segments.invariant.picked;
      best_inside = all_of_longer (λ i. i < length rows) (is_longer rows segment c.segments.best.now) segment c.segments.best.now c.longer_of-best.result.now c.longer_of-best.ensures.value
          (rw c.split_at.ensures.front (all_taken (λ i. i < length rows) n rest c.segments.invariant.inside)) c.segments.invariant.best_inside;
      inside = rw c.split_at.ensures.back (all_dropped (λ i. i < length rows) n rest c.segments.invariant.inside);
      names = rise_longer rows (is_longer rows segment c.segments.best.now) c.segments.best.now segment c.longer_of-best.result.now rest after n c.longer_of-best.ensures.value c.split_at.ensures.front c.split_at.ensures.back c.segments.invariant.names;
    }

pub segments-preserved : goal.segments-preserved
segments-preserved c =
    let rows = c.args.rows.now in
    let rest = c.segments.rest.now in
    let n = c.first_len.result in
    let cut = cut_short rows c.args.minimum c.split_at.result.0.now c.split_at.result.1.now rest n (search rules) c.first_len.ensures.value c.split_at.ensures.front c.split_at.ensures.back (sym c.is_long.ensures.value ∙ c.if-is_long.false) in
    record {
      picked = ap (λ (xs : List (List ℕ)). c.segments.picked ++ to_put rows c.segments.best.now xs) (sym cut) ∙ c.segments.invariant.picked;
      best_inside = c.segments.invariant.best_inside;
      inside = rw c.split_at.ensures.back (all_dropped (λ i. i < length rows) n rest c.segments.invariant.inside);
      names = rise_skipped rows c.segments.best.now rest c.split_at.result.1.now n c.split_at.ensures.back c.segments.invariant.names;
    }
