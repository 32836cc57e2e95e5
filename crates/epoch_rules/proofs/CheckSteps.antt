-- The steps of a check, line by line.
use Rattle.std.proofs.Common.{◌≡◌, ◌∙◌, ℕ, ◌+◌, ◌<◌, List, length, map, drop, get_or, Option, Some, None, sym, ap}
use Rattle.epochs.specs.Lines.{LineValues}
use Rattle.epochs.specs.Views.{values_of_line}
use Rattle.epochs.specs.declared.line.Line.{Line}
use Rattle.epoch_rules.specs.declared.rule.Rule.{Rule}
use Rattle.epoch_rules.specs.Kept.{broken_or, broken_from}
use Rattle.epoch_rules.specs.Rules.{broken_rule, with_line}
use Rattle.epoch_rules.proofs.OutlineSteps.{line_here}

-- a broken line is the answer
pub breaks_here : (n : ℕ) (live : List LineValues) (lines : List Line) (i : ℕ) (line : Line) (rule : Rule) (all : Option (ℕ × Rule)) → i < length lines → line ≡ get_or lines i line
    → broken_rule live (values_of_line line) ≡ Some rule → broken_from n live (map values_of_line (drop i lines)) ≡ all → all ≡ Some (n, rule)
breaks_here n live lines i line rule all within is broken so_far =
    sym so_far
    ∙ ap (broken_from n live) (line_here lines i line within is)
    ∙ ap (λ r. broken_or r n (broken_from (n + 1) (with_line live (values_of_line line)) (map values_of_line (drop (i + 1) lines)))) broken

-- a line that breaks none is taken
pub goes_on : (n : ℕ) (live : List LineValues) (lines : List Line) (i : ℕ) (line : Line) (all : Option (ℕ × Rule)) → i < length lines → line ≡ get_or lines i line
    → broken_rule live (values_of_line line) ≡ None → broken_from n live (map values_of_line (drop i lines)) ≡ all → broken_from (n + 1) (with_line live (values_of_line line)) (map values_of_line (drop (i + 1) lines)) ≡ all
goes_on n live lines i line all within is kept so_far =
    sym (ap (λ r. broken_or r n (broken_from (n + 1) (with_line live (values_of_line line)) (map values_of_line (drop (i + 1) lines)))) kept)
    ∙ sym (ap (broken_from n live) (line_here lines i line within is))
    ∙ so_far
