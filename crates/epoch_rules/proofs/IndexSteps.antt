-- The steps of an index, line by line.
use Rattle.std.proofs.Common.{◌≡◌, ◌∙◌, ℕ, ◌+◌, ◌<◌, List, [], ◌∷◌, ◌++◌, length, map, drop, get_or, None, sym, ap, subst, append_assoc, append-nil}
use Rattle.epochs.specs.Lines.{LineValues}
use Rattle.epochs.specs.Views.{values_of_line}
use Rattle.epochs.specs.declared.line.Line.{Line}
use Rattle.epoch_rules.specs.Catalog.{IsCatalog}
use Rattle.epoch_rules.specs.Kept.{AreKept}
use Rattle.epoch_rules.specs.LiveLines.{live_lines}
use Rattle.epoch_rules.specs.Rules.{broken_rule, with_line}
use Rattle.epoch_rules.proofs.LiveByKey.{live_again, live_lines_go_on}
use Rattle.epoch_rules.proofs.OutlineSteps.{line_here}

-- of lines that are kept the next is, and then those behind it
pub kept_here : (live : List LineValues) (lines : List Line) (i : ℕ) (line : Line) → i < length lines → line ≡ get_or lines i line → AreKept live (map values_of_line (drop i lines))
    → (broken_rule live (values_of_line line) ≡ None) × AreKept (with_line live (values_of_line line)) (map values_of_line (drop (i + 1) lines))
kept_here live lines i line within is kept = subst (AreKept live) (line_here lines i line within is) kept

-- what is live after them all
pub taken_here : (live : List LineValues) (lines : List Line) (i : ℕ) (line : Line) (all : List LineValues) → i < length lines → line ≡ get_or lines i line → live_lines (live ++ map values_of_line (drop i lines)) ≡ all
    → live_lines (with_line live (values_of_line line) ++ map values_of_line (drop (i + 1) lines)) ≡ all
taken_here live lines i line all within is so_far =
    let rest = map values_of_line (drop (i + 1) lines) in
    live_lines_go_on (live ++ values_of_line line ∷ []) rest ∙ ap live_lines (append_assoc live (values_of_line line ∷ []) rest) ∙ sym (ap (λ l. live_lines (live ++ l)) (line_here lines i line within is)) ∙ so_far

-- and after none
pub taken_all : (live : List LineValues) → IsCatalog live → live_lines (live ++ []) ≡ live
taken_all live is = ap live_lines (append-nil live) ∙ live_again live is.rises is.states
