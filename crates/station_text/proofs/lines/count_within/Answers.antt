use Rattle.std.proofs.Common.{◌≡◌, ◌+◌, ◌++◌, ℕ, List, [], ◌∷◌, Option, map, take, sym, ap, subst, ◌∙◌, arith}
use Rattle.std.specs.List.{filter_map}
use Rattle.std.proofs.lemmas.List.{map-append, take_more}
use Rattle.epochs.specs.declared.line.Line.{Line}
use Rattle.epochs.specs.declared.line.Line.TheVariants.{Net}
use Rattle.epochs.specs.Lines.{LineValues}
use Rattle.epochs.specs.Views.{values_of_line}
use Rattle.station_text.specs.Asked.{station_within}
use Rattle.station_text.proofs.Counted.{AreCounted, counted_more, few_more}
use Rattle.station_text.proofs.lines.count_within.Goals as goal

pub lines-preserved : goal.lines-preserved
lines-preserved c =
    let within : LineValues → Option (List ℕ) = station_within (values_of_line (Net c.args.network.now)) in
    let before : List Line = take c.lines.line-index c.args.lines.now in
    let line : Line = c.line-item.result in
    let is : take (c.lines.line-index + 1) c.args.lines.now ≡ before ++ line ∷ [] = take_more c.args.lines.now c.lines.line-index line c.lines-test.true ∙ ap (λ (l : Line). before ++ l ∷ []) (sym c.line-item.is) in
    let walked : map values_of_line (take (c.lines.line-index + 1) c.args.lines.now) ≡ map values_of_line before ++ values_of_line line ∷ [] = ap (map values_of_line) is ∙ map-append values_of_line before (line ∷ []) in
    let few = few_more c.lines.counted.last c.station_within.result in
    record {
      counted =
          subst (λ es. AreCounted c.with_code-counted.result (filter_map within es)) (sym walked)
          (counted_more within (map values_of_line before) (values_of_line line) c.station_within.result c.lines.counted c.with_code-counted.result c.station_within.ensures c.lines.invariant.counted c.with_code-counted.ensures.codes
          c.with_code-counted.ensures.last);
      few = omega (arith, few, c.with_code-counted.ensures.codes, c.lines.invariant.few);
    }
