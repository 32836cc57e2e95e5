-- Bytes that are text.
use Rattle.std.proofs.Common.{Result, Ok, Err, MatchResult, IsOk, refl}

-- what can only fail where Q is false is a success where Q holds
pub not_err : {T E : Type 0} (P : T → Type 0) (Q : Type 0) (R : E → Type 0) (r : Result T E) → MatchResult r P (λ e. (Q → ⊥) × R e) → Q → IsOk r
not_err P Q R (Ok x) h q = refl
not_err P Q R (Err e) h q = absurd (h.0 q)
