-- Lines that keep the rules, and the first that breaks one.
use Rattle.std.specs.Prelude.{◌≡◌, ℕ, ◌+◌, List, [], ◌∷◌, ◌++◌, length, Option, Some, None, Result, Ok, Err, ⊤}
use Rattle.epochs.specs.Lines.{LineValues}
use Rattle.epoch_rules.specs.declared.rule.Rule.{Rule}
use Rattle.epoch_rules.specs.declared.rule.CheckFault.{CheckFault}
use Rattle.epoch_rules.specs.declared.rule.CheckFault.TheVariants as fault
use Rattle.epoch_rules.specs.LiveLines.{live_lines}
use Rattle.epoch_rules.specs.Rules.{broken_rule, with_line}

-- no line breaks a rule over the live lines with those before it
abbrev pub AreKept : List LineValues → List LineValues → Type 0
AreKept live [] = ⊤
AreKept live (e ∷ lines) = (broken_rule live e ≡ None) × AreKept (with_line live e) lines

-- The line of this number, counted from 1, is the first that breaks a rule over the live lines with those
-- before it, and this is the first rule that it breaks.
pub record IsFirstBroken (live lines : List LineValues) (number : ℕ) (rule : Rule) : Type 0 where
  pub before : List LineValues
  pub here : LineValues
  pub after : List LineValues
  pub split : lines ≡ before ++ here ∷ after
  pub number_is : number ≡ length before + 1
  pub kept : AreKept live before
  pub broken : broken_rule (live_lines (live ++ before)) here ≡ Some rule

-- why lines are refused; want of memory has no cause in them
abbrev pub IsCheckFault : List LineValues → List LineValues → CheckFault → Type 0
IsCheckFault live lines (fault.Broken number rule) = IsFirstBroken live lines number rule
IsCheckFault live lines fault.OutOfMemory = ⊥

-- why lines weren't taken; want of memory is free
abbrev pub RefusesLines : List LineValues → List LineValues → CheckFault → Type 0
RefusesLines live lines (fault.Broken number rule) = IsFirstBroken live lines number rule
RefusesLines live lines fault.OutOfMemory = ⊤

-- a rule that a line breaks, with the line's number, and else what the later lines break
abbrev pub broken_or : Option Rule → ℕ → Option (ℕ × Rule) → Option (ℕ × Rule)
broken_or (Some rule) number later = Some (number, rule)
broken_or None number later = later

abbrev pub broken_from : ℕ → List LineValues → List LineValues → Option (ℕ × Rule)
broken_from number live [] = None
broken_from number live (e ∷ lines) = broken_or (broken_rule live e) number (broken_from (number + 1) (with_line live e) lines)

-- The number, counted from 1, of the first line that breaks a rule over the live lines with those before it,
-- and the first rule that it breaks; none where all keep the rules. The law
-- `lines_are_kept_or_one_is_the_first_broken` says it by the relations above.
abbrev pub first_broken : List LineValues → List LineValues → Option (ℕ × Rule)
first_broken live lines = broken_from 1 live lines

-- what a check answers, which has the memory it wants
abbrev pub check_answer : Option (ℕ × Rule) → Result ⊤ CheckFault
check_answer None = Ok tt
check_answer (Some found) = Err (fault.Broken found.0 found.1)
