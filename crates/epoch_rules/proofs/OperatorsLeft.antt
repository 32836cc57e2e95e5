-- Whether an operator is left with one line more.
use Rattle.std.proofs.Common.{◌≡◌, ◌∙◌, ℕ, Bool, true, false, not, ◌&&◌, ◌||◌, List, filter, length, if◌then◌else◌, nat_eq, nat_lt, refl, sym, ap, arith}
use Rattle.std.specs.List.{list_any}
use Rattle.std.proofs.lemmas.Bool.Decides.{nat_tests}
use Rattle.epochs.specs.declared.kinds.LineKind.TheVariants.{Usr}
use Rattle.epochs.specs.Lines.{LineValues}
use Rattle.epoch_rules.specs.Catalog.{IsCatalog}
use Rattle.epoch_rules.specs.LiveLines.{is_said}
use Rattle.epoch_rules.specs.Rules.{is_line_of, is_operator, is_operator_among, with_line}
use Rattle.epoch_rules.proofs.Counts.{any_counted}
use Rattle.epoch_rules.proofs.FamilyKeys.{kind_says}
use Rattle.epoch_rules.proofs.WithLine.{any_with_line, any_other, others}
use Rattle.std.proofs.lemmas.Bool.{and_right}

operator_says : (e : LineValues) → (is_said e && is_operator e) ≡ is_operator e
operator_says e =
    elim (is_line_of Usr e) as (λ b. is_line_of Usr e ≡ b → (is_said e && (b && is_operator_among e.values)) ≡ (b && is_operator_among e.values)) [
      | true ↦ λ h. ap (λ s. s && is_operator_among e.values) (kind_says Usr e h)
      | false ↦ λ _. and_right (is_said e) false refl
    ] refl

no_more : (n : ℕ) → not (nat_lt 0 n) ≡ (nat_eq n 0 && true)
no_more n = elim (nat_eq n 0) as (λ b. nat_eq n 0 ≡ b → not (nat_lt 0 n) ≡ (b && true)) [
  | true ↦ λ h. grind (arith, nat_tests)
  | false ↦ λ h. grind (arith, nat_tests)
] refl

counts : (b : Bool) (n c : ℕ) → c ≡ (if b then 1 else 0) → not (b || nat_lt 0 n) ≡ (nat_eq n 0 && nat_eq c 0)
counts true n c h = sym (ap (λ m. nat_eq n 0 && nat_eq m 0) h ∙ and_right (nat_eq n 0) false refl)
counts false n c h = no_more n ∙ sym (ap (λ m. nat_eq n 0 && nat_eq m 0) h)

pub none_left : (live : List LineValues) (e : LineValues) → IsCatalog live → (n c : ℕ) → n ≡ length (filter is_operator (others e live)) → c ≡ (if is_operator e then 1 else 0)
    → not (list_any is_operator (with_line live e)) ≡ (nat_eq n 0 && nat_eq c 0)
none_left live e is n c left own =
    ap not
    (any_with_line is_operator live e is.rises is.states
    ∙ (λ i. operator_says e i || (sym (any_other is_operator e live) ∙ any_counted is_operator (others e live)) i)
    ∙ ap (λ m. is_operator e || nat_lt 0 m) (sym left))
    ∙ counts (is_operator e) n c own
