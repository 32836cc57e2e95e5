use Rattle.std.proofs.Common.{◌≡◌, ◌∙◌, ◌++◌, ◌∷◌, [], ◌||◌, ◌&&◌, cond, max, ap, arith, ℕ, length, length-append, List}
use Rattle.std.specs.Ordering.{eq_by_cmp}
use Rattle.mseed_header.specs.declared.row.Row.{Row}
use Rattle.time_index.specs.declared.spot.Spot.{Spot}
use Rattle.time_index.specs.Spots.{spot_cmp, is_same, has_spot, longest_of}
use Rattle.time_index.proofs.Grown.{index_added}
use Rattle.time_index.proofs.indexed.TimeIndex.keep.Goals as goal

pub invariant_of-self-2 : goal.invariant_of-self-2
invariant_of-self-2 c =
    let rows = c.args.self.now.rows.items in
    let before = c.args.self.now.channels in
    let row = c.args.row in
    let more : c.put.new.rows.items ≡ (rows ++ row ∷ []) = c.put.ensures ∙ ap (λ (xs : List Row). xs ++ row ∷ []) c.in_ok-reserve.ensures.items in
    record {
      few = omega (arith, ap length more, length-append rows (row ∷ []), c.requires.few);
      index = rw more (index_added rows before c.add_spot.new.channels row c.args.self.now.index
          (λ name spot. c.in_ok-add_spot.ensures.spots name spot ∙ ap (λ (s : Spot). (is_same row.header.name name && eq_by_cmp spot_cmp spot s) || has_spot before name spot) c.requires.spot)
          (λ name. c.in_ok-add_spot.ensures.longest name ∙ ap (λ (n : ℕ). cond (is_same row.header.name name) (max (longest_of before name) n) (longest_of before name)) c.micros_lasted-longest.ensures));
    }
