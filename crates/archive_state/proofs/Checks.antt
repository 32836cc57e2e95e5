-- What a catalog's check answers is the first broken line.
use Rattle.std.proofs.Common.{◌≡◌, ◌⊎◌, inl, inr, ℕ, Option, None, Some, Result, Ok, Err, refl}
use Rattle.std.specs.Prelude.{⊤, IsErrOf}
use Rattle.epoch_rules.specs.declared.rule.Rule.{Rule}
use Rattle.epoch_rules.specs.declared.rule.CheckFault.{CheckFault}
use Rattle.epoch_rules.specs.declared.rule.CheckFault.TheVariants as fault
use Rattle.epoch_rules.specs.Kept.{check_answer}

abbrev pub Exact : Option (ℕ × Rule) → Result ⊤ CheckFault → Type 0
Exact first answer = IsErrOf answer fault.OutOfMemory ⊎ (answer ≡ check_answer first)

pub none_broken : (first : Option (ℕ × Rule)) → Exact first (Ok tt) → None ≡ first
none_broken first (inl e) = absurd cc
none_broken None (inr e) = refl
none_broken (Some found) (inr e) = absurd cc

pub some_broken : (first : Option (ℕ × Rule)) (line : ℕ) (rule : Rule) → Exact first (Err (fault.Broken line rule)) → Some (line, rule) ≡ first
some_broken first line rule (inl e) = absurd cc
some_broken None line rule (inr e) = absurd cc
some_broken (Some found) line rule (inr e) = same found e
  where
    same : (found : ℕ × Rule) → ◌≡◌ {A = Result ⊤ CheckFault} (Err (fault.Broken line rule)) (Err (fault.Broken found.0 found.1)) → Some (line, rule) ≡ Some found
    same found e = let first : line ≡ found.0 = cc in let second : rule ≡ found.1 = cc in λ i. Some (first i, second i)
