-- Lines over a catalog are kept, or one line is the first that breaks a rule, and it breaks one first.
use Rattle.std.proofs.Common.{◌≡◌, ◌∙◌, ℕ, suc, ◌+◌, List, [], ◌∷◌, ◌++◌, length, Option, Some, None, Result, Ok, Err, MatchResult, true, refl, sym, ap, arith}
use Rattle.std.specs.Prelude.{⊤}
use Rattle.std.specs.List.{AllByRecursion}
use Rattle.std.specs.List.Sorted.{IsStrictlySortedBy}
use Rattle.list_laws.specs.Only.{IsOnly}
use Rattle.list_laws.proofs.Answers.{only_from}
use Rattle.epochs.specs.Lines.{LineValues}
use Rattle.epoch_rules.specs.declared.rule.Rule.{Rule}
use Rattle.epoch_rules.specs.declared.rule.CheckFault.{CheckFault}
use Rattle.epoch_rules.specs.declared.rule.CheckFault.TheVariants as fault
use Rattle.epoch_rules.specs.KeyOrder.{line_cmp}
use Rattle.epoch_rules.specs.LiveLines.{is_said, live_lines}
use Rattle.epoch_rules.specs.Rules.{broken_rule, with_line}
use Rattle.epoch_rules.specs.Kept.{AreKept, IsFirstBroken, IsCheckFault, broken_or, broken_from, first_broken, check_answer}
use Rattle.epoch_rules.proofs.LiveByKey.{live_again, live_lines_go_on, live_says, live_sorted}
use Rattle.epoch_rules.proofs.LastLine.{append_one}
use Rattle.std.proofs.lemmas.List.{append-nil}

abbrev after_all : List LineValues → List LineValues → List LineValues
after_all live [] = live
after_all live (e ∷ lines) = after_all (with_line live e) lines

-- lines taken one by one are lines taken together
together : (live lines : List LineValues) → IsStrictlySortedBy line_cmp live → AllByRecursion (λ e. is_said e ≡ true) live → after_all live lines ≡ live_lines (live ++ lines)
together live [] up all = sym (ap live_lines (append-nil live) ∙ live_again live up all)
together live (e ∷ lines) up all =
    together (with_line live e) lines (live_sorted (live ++ e ∷ [])) (live_says (live ++ e ∷ []))
    ∙ live_lines_go_on (live ++ e ∷ []) lines
    ∙ ap live_lines (append_one live e lines)

-- the first broken line, as it is found
record Found (n : ℕ) (live lines : List LineValues) (number : ℕ) (rule : Rule) : Type 0 where
  before : List LineValues
  here : LineValues
  after : List LineValues
  split : lines ≡ before ++ here ∷ after
  number_is : number ≡ n + length before
  kept : AreKept live before
  broken : broken_rule (after_all live before) here ≡ Some rule

none_from_kept : (n : ℕ) (live lines : List LineValues) → AreKept live lines → broken_from n live lines ≡ None
none_from_kept n live [] kept = refl
none_from_kept n live (e ∷ lines) kept =
    ap (λ r. broken_or r n (broken_from (n + 1) (with_line live e) lines)) kept.0 ∙ none_from_kept (n + 1) (with_line live e) lines kept.1

pub kept_from_none : (n : ℕ) (live lines : List LineValues) → broken_from n live lines ≡ None → AreKept live lines
kept_from_none n live [] none = tt
kept_from_none n live (e ∷ lines) none =
    elim (broken_rule live e) as (λ r. broken_rule live e ≡ r → broken_or r n (broken_from (n + 1) (with_line live e) lines) ≡ None → AreKept live (e ∷ lines)) [
      | Some rule ↦ λ is no. (cc)
      | None ↦ λ is no. (is, kept_from_none (n + 1) (with_line live e) lines no)
    ] refl none

walked : (n : ℕ) (live before : List LineValues) (here : LineValues) (after : List LineValues) (rule : Rule) → AreKept live before → broken_rule (after_all live before) here ≡ Some rule
    → broken_from n live (before ++ here ∷ after) ≡ Some (n + length before, rule)
walked n live [] here after rule kept broken =
    let same : n ≡ n + 0 = omega arith in
    ap (λ r. broken_or r n (broken_from (n + 1) (with_line live here) after)) broken ∙ ap (λ (k : ℕ). Some (k, rule)) same
walked n live (e ∷ before) here after rule kept broken =
    let same : n + 1 + length before ≡ n + suc (length before) = omega arith in
    ap (λ r. broken_or r n (broken_from (n + 1) (with_line live e) (before ++ here ∷ after))) kept.0
    ∙ walked (n + 1) (with_line live e) before here after rule kept.1 broken
    ∙ ap (λ (k : ℕ). Some (k, rule)) same

none_some : (p : ℕ × Rule) → None ≡ Some p → ⊥
none_some p h = cc

abbrev pair_of : Option (ℕ × Rule) → ℕ × Rule → ℕ × Rule
pair_of None p = p
pair_of (Some q) p = q

found : (n : ℕ) (live lines : List LineValues) (number : ℕ) (rule : Rule) → broken_from n live lines ≡ Some (number, rule) → Found n live lines number rule
found n live [] number rule h = cc
found n live (e ∷ lines) number rule h =
    elim (broken_rule live e) as (λ r. broken_rule live e ≡ r → broken_or r n (broken_from (n + 1) (with_line live e) lines) ≡ Some (number, rule) → Found n live (e ∷ lines) number rule) [
      | Some first ↦ λ is some.
          (let pair : (n, first) ≡ (number, rule) = ap (λ v. pair_of v (n, first)) some in
          let start : number ≡ n = sym (ap (λ p. p.0) pair) in
          record { before = []; here = e; after = lines; split = refl; number_is = omega (arith, start); kept = tt; broken = is ∙ ap (λ (p : ℕ × Rule). Some p.1) pair })
      | None ↦ λ is some.
          (let more = found (n + 1) (with_line live e) lines number rule some in
          record { before = e ∷ more.before; here = more.here; after = more.after; split = ap (λ l. e ∷ l) more.split; number_is = omega (arith, more.number_is); kept = (is, more.kept); broken = more.broken })
    ] refl h

module _ (live : List LineValues) (up : IsStrictlySortedBy line_cmp live) (all : AllByRecursion (λ e. is_said e ≡ true) live) where
  pub broken_from_some : (lines : List LineValues) (number : ℕ) (rule : Rule) → broken_from 1 live lines ≡ Some (number, rule) → IsFirstBroken live lines number rule
  broken_from_some lines number rule h =
      let f = found 1 live lines number rule h in
      record { before = f.before; here = f.here; after = f.after; split = f.split; number_is = omega (arith, f.number_is); kept = f.kept; broken = ap (λ l. broken_rule l f.here) (sym (together live f.before up all)) ∙ f.broken }

  some_from_broken : (lines : List LineValues) (number : ℕ) (rule : Rule) → IsFirstBroken live lines number rule → broken_from 1 live lines ≡ Some (number, rule)
  some_from_broken lines number rule f =
      let same : 1 + length f.before ≡ number = omega (arith, f.number_is) in
      ap (broken_from 1 live) f.split
      ∙ walked 1 live f.before f.here f.after rule f.kept (ap (λ l. broken_rule l f.here) (together live f.before up all) ∙ f.broken)
      ∙ ap (λ (k : ℕ). Some (k, rule)) same

  one_fault : (lines : List LineValues) (f g : CheckFault) → IsCheckFault live lines f → IsCheckFault live lines g → f ≡ g
  one_fault lines (fault.Broken n rule) (fault.Broken m other) h k =
      let pair : (n, rule) ≡ (m, other) = ap (λ v. pair_of v (n, rule)) (sym (some_from_broken lines n rule h) ∙ some_from_broken lines m other k) in
      ap (λ (p : ℕ × Rule). fault.Broken p.0 p.1) pair
  one_fault lines (fault.Broken n rule) fault.OutOfMemory h k = absurd k
  one_fault lines fault.OutOfMemory g h k = absurd h

  apart : (lines : List LineValues) (f : CheckFault) → AreKept live lines → IsCheckFault live lines f → ⊥
  apart lines (fault.Broken n rule) kept h =
      none_some (n, rule) (sym (none_from_kept 1 live lines kept) ∙ some_from_broken lines n rule h)
  apart lines fault.OutOfMemory kept h = absurd h

  pub only_check : (lines : List LineValues) (answer : Result ⊤ CheckFault) → MatchResult answer (λ _. AreKept live lines) (IsCheckFault live lines)
      → IsOnly (λ _. AreKept live lines) (IsCheckFault live lines) answer
  only_check lines = only_from (λ _. AreKept live lines) (IsCheckFault live lines) (λ a b _ _. refl) (one_fault lines) (λ _ f. apart lines f)

  decided : (lines : List LineValues) (v : Option (ℕ × Rule)) → first_broken live lines ≡ v → IsOnly (λ _. AreKept live lines) (IsCheckFault live lines) (check_answer v)
  decided lines None h = only_check lines (Ok tt) (kept_from_none 1 live lines h)
  decided lines (Some p) h = only_check lines (Err (fault.Broken p.0 p.1)) (broken_from_some lines p.0 p.1 h)

  -- the lines are kept, or exactly one line and rule is the first broken, as the function says
  pub one_verdict : (lines : List LineValues) → IsOnly (λ _. AreKept live lines) (IsCheckFault live lines) (check_answer (first_broken live lines))
  one_verdict lines = decided lines (first_broken live lines) refl
