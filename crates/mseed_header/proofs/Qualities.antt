-- The order of qualities is that of their letters, which tell them apart.
use Rattle.std.proofs.Common.{◌≡◌, ℕ, ◌==◌, if◌then◌else◌, refl, sym, ap, ◌∙◌}
use Rattle.std.specs.Cmp.{IsTotalOrder}
use Rattle.std.proofs.lemmas.Cmp.{nat_cmp_total, on_total}
use Rattle.std.proofs.lemmas.Map.Lookups.{CmpEqualImpliesEq, exact_unsigned}
use Rattle.std.specs.declared.cmp.Ordering.TheVariants.{Equal}
use Rattle.mseed_header.specs.Quality.{quality_letter, quality_cmp}
use Rattle.mseed_header.specs.contracts.quality.QualityOrd.TheImpl.{cmp-value as derived}
use Rattle.mseed_header.specs.declared.quality.Quality.{Quality}
use Rattle.mseed_header.specs.declared.quality.Quality.TheVariants.{D, M, Q, R}

-- the quality of a letter
quality_with : ℕ → Quality
quality_with c = if c == 68 then D else if c == 77 then M else if c == 81 then Q else R

with_letter : (q : Quality) → quality_with (quality_letter q) ≡ q
unfolding quality_with
with_letter D = refl
with_letter M = refl
with_letter Q = refl
with_letter R = refl

-- two qualities with one letter are the same
pub letters_apart : (a b : Quality) → quality_letter a ≡ quality_letter b → a ≡ b
letters_apart a b h = sym (with_letter a) ∙ ap quality_with h ∙ with_letter b

pub qualities_total : IsTotalOrder quality_cmp
qualities_total = on_total quality_letter nat_cmp_total

pub exact_qualities : CmpEqualImpliesEq quality_cmp
exact_qualities a b h = letters_apart a b (exact_unsigned (quality_letter a) (quality_letter b) h)

pub quality_same : (a b : Quality) → derived.it a b ≡ quality_cmp a b
quality_same D D = refl
quality_same D M = refl
quality_same D Q = refl
quality_same D R = refl
quality_same M D = refl
quality_same M M = refl
quality_same M Q = refl
quality_same M R = refl
quality_same Q D = refl
quality_same Q M = refl
quality_same Q Q = refl
quality_same Q R = refl
quality_same R D = refl
quality_same R M = refl
quality_same R Q = refl
quality_same R R = refl

pub equal_qualities : (a b : Quality) → derived.it a b ≡ Equal → a ≡ b
equal_qualities a b h = exact_qualities a b (sym (quality_same a b) ∙ h)
