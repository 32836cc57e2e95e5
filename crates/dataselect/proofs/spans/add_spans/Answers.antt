use Rattle.std.proofs.Common.{rules, ◌≡◌, ◌<◌, ◌++◌, ◌∷◌, [], ◌∙◌, List, length, map, take, drop, ap, sym, subst, to_z, of_z, ℤ, w64, arith, ◌-◌}
use Rattle.std.specs.Prelude.{int_lt}
use Rattle.std.specs.Int.{w128, int_max}
use Rattle.std.proofs.lemmas.Int.{to_z-of_z}
use Rattle.std.proofs.lemmas.List.{map-append}
use Rattle.list_laws.proofs.Passes as passing
use Rattle.dataselect.specs.MergedSpans.{SpanValue, value_of}
use Rattle.dataselect.proofs.GroupPass.{begin, grow, is_behind, farther, row_breaks, Knows, step, first}
use Rattle.dataselect.proofs.Reaches.{reach_of}
use Rattle.dataselect.proofs.spans.add_spans.Goals.{then-far-row+in_ok-push, else-far-row}
use Rattle.dataselect.proofs.spans.add_spans.Goals as goal

pub rows-init : goal.rows-init
rows-init c =
    let row = c.index-rows-0.result in
    let far : to_z w128 (of_z w128 c.reach_of-far.result) ≡ reach_of 0 row.now.header = to_z-of_z w128 c.reach_of-far.result (search rules) ∙ c.reach_of-far.ensures in
    record {
      spans =
          ap (λ (ss : List SpanValue). map value_of c.args.spans.now ++ ss)
          (passing.begun begin grow is_behind farther row_breaks step c.args.rows.now row (value_of c.span_at-span.result) (to_z w128 (of_z w128 c.reach_of-far.result)) c.requires.some c.index-rows-0.is c.span_at-span.ensures
          (subst (λ (q : ℤ). Knows (row ∷ []) q) (sym far) (first row)));
      few = (let one = ap (λ (s : SpanValue). s.rows) c.span_at-span.ensures in omega (arith, one));
    }

pub rows-preserved : goal.rows-preserved
rows-preserved c =
    let row = c.row-item.result in
    let xs = take (length c.args.rows.now - 1) (drop 1 c.args.rows.now) in
    let i = c.rows.row-index in
    let far = to_z w128 c.rows.far-bits in
    let h : i < length xs = search rules in
    let reached : to_z w128 (of_z w128 c.max-far.result) ≡ int_max far (reach_of 0 row.now.header) =
    to_z-of_z w128 c.max-far.result (search rules) ∙ c.max-far.ensures.value ∙ (λ j. int_max far ((to_z-of_z w128 c.reach_of.result (search rules) ∙ c.reach_of.ensures) j)) in
    let begins : row.now.header.start.micros ≡ to_z w128 (of_z w128 (to_z w64 (of_z w64 row.now.header.start.micros))) =
    sym (to_z-of_z w128 (to_z w64 (of_z w64 row.now.header.start.micros)) (search rules) ∙ to_z-of_z w64 row.now.header.start.micros (search rules)) in
    elim c.if-far-row.branch [
      | then-far-row+in_ok-push w ↦ record {
        spans =
            passing.broke begin grow is_behind farther i xs row (map value_of c.rows.spans) (map value_of c.if-far-row.spans) (value_of c.rows.span) (value_of c.if-far-row.span) far _ h c.row-item.is reached
            ((λ j. int_lt far (begins j)) ∙ w.if-far-row.true)
            (ap (map value_of) (w.spans-is ∙ w.in_ok-push.ensures.ok) ∙ map-append value_of c.rows.spans (c.rows.span ∷ []))
            (ap value_of w.span-is ∙ w.span_at-span-then-far-row.ensures)
            ∙ c.rows.invariant.spans;
        few = (let one = ap (λ (s : SpanValue). s.rows) (ap value_of w.span-is ∙ w.span_at-span-then-far-row.ensures) in omega (arith, one));
      }
      | else-far-row w ↦ record {
        spans =
            passing.joined begin grow is_behind farther i xs row (map value_of c.rows.spans) (map value_of c.if-far-row.spans) (value_of c.rows.span) (value_of c.if-far-row.span) far _ h c.row-item.is reached
            ((λ j. int_lt far (begins j)) ∙ w.if-far-row.false)
            (ap (map value_of) w.spans-is)
            (ap value_of w.span-is ∙ w.longer-span.ensures)
            ∙ c.rows.invariant.spans;
        few = (let more = ap (λ (s : SpanValue). s.rows) (ap value_of w.span-is ∙ w.longer-span.ensures) in omega (arith, more, c.rows.invariant.few));
      }
    ]
