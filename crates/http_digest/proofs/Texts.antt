-- Bytes that are text.
use Rattle.std.proofs.Common.{◌≡◌, inl, inr, false, ℕ, List, Result, Ok, Err, Some, None, MatchResult, sym}
use Rattle.std.specs.Result.{is_ok}
use Rattle.std.specs.Str.{IsUtf8, is_utf8}
use Rattle.std.proofs.lemmas.Bool.{cases_Bool, cond-true, cond-false}
use Rattle.std.proofs.lemmas.Str.{IsUtf8-from_is_utf8, is_utf8-from_IsUtf8}
use Rattle.http_digest.specs.Parts.{text_in}

pub not_utf8 : (bytes : List ℕ) → ¬ (IsUtf8 bytes) → is_utf8 bytes ≡ false
not_utf8 bytes broken = elim (cases_Bool (is_utf8 bytes)) [ inl whole ↦ absurd (broken (IsUtf8-from_is_utf8 bytes whole)) | inr other ↦ other ]

pub ok_is_utf8 : {T E : Type 0} (P : T → Type 0) (R : E → Type 0) (bytes : List ℕ) (r : Result T E)
    → MatchResult r (λ s. P s × IsUtf8 bytes) (λ e. (IsUtf8 bytes → ⊥) × R e) → is_ok r ≡ is_utf8 bytes
ok_is_utf8 P R bytes (Ok s) h = sym (is_utf8-from_IsUtf8 bytes h.1)
ok_is_utf8 P R bytes (Err e) h = sym (not_utf8 bytes h.0)

pub text_found : (bytes : List ℕ) → IsUtf8 bytes → text_in bytes ≡ Some bytes
text_found bytes h = cond-true _ _ _ (is_utf8-from_IsUtf8 bytes h)

pub no_text : (bytes : List ℕ) → ¬ (IsUtf8 bytes) → text_in bytes ≡ None
no_text bytes h = cond-false _ _ _ (not_utf8 bytes h)
