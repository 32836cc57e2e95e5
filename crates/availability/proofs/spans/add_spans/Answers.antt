use Rattle.std.proofs.Common.{rules, ◌<◌, ◌-◌, ◌++◌, ◌∷◌, [], ◌∙◌, List, length, take, drop, ap, sym, subst}
use Rattle.list_laws.proofs.Passes as passing
use Rattle.availability.specs.declared.span.TimeSpan.{TimeSpan}
use Rattle.availability.specs.declared.spans.Reached.{Reached}
use Rattle.availability.proofs.Walked.{begin, grow, over, moved, row_breaks, Knows, step, first}
use Rattle.availability.proofs.spans.add_spans.Goals.{then-is_over+in_ok-push, else-is_over}
use Rattle.availability.proofs.spans.add_spans.Goals as goal

pub rows-init : goal.rows-init
rows-init g c =
    let t = g.V.Sight.touched c.args.sight.now in
    let q = c.args.query.now in
    let row = c.index-rows-0.result in
    ap (λ (ss : List TimeSpan). c.args.spans.now ++ ss)
    (passing.begun (begin t q) (grow t q) (over t q) (moved t q) (row_breaks t q) (step t q) c.args.rows.now row c.span_at-span.result c.reached_by-reached.result c.requires.some c.index-rows-0.is c.span_at-span.ensures
    (subst (λ (r : Reached). Knows t q (row ∷ []) r) (sym c.reached_by-reached.ensures) (first t q row)))

pub rows-preserved : goal.rows-preserved
rows-preserved g c =
    let t = g.V.Sight.touched c.args.sight.now in
    let q = c.args.query.now in
    let row = c.row-item.result in
    let xs = take (length c.args.rows.now - 1) (drop 1 c.args.rows.now) in
    let i = c.rows.row-index in
    let h : i < length xs = search rules in
    elim c.if-is_over.branch [
      | then-is_over+in_ok-push w ↦
          passing.broke (begin t q) (grow t q) (over t q) (moved t q) i xs row c.rows.spans c.if-is_over.spans c.rows.span c.if-is_over.span c.rows.reached c.further-reached.result h c.row-item.is c.further-reached.ensures
          (sym c.is_over.ensures ∙ w.if-is_over.true) (w.spans-is ∙ w.in_ok-push.ensures.ok) (w.span-is ∙ w.span_at-span-then-is_over.ensures)
          ∙ c.rows.invariant
      | else-is_over w ↦
          passing.joined (begin t q) (grow t q) (over t q) (moved t q) i xs row c.rows.spans c.if-is_over.spans c.rows.span c.if-is_over.span c.rows.reached c.further-reached.result h c.row-item.is c.further-reached.ensures
          (sym c.is_over.ensures ∙ w.if-is_over.false) w.spans-is (w.span-is ∙ w.longer-span.ensures)
          ∙ c.rows.invariant
    ]
