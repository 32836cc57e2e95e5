-- A nonce tells its second.
use Rattle.std.proofs.Common.{◌≡◌, ℕ, zero, suc, ◌<◌, ◌^◌, ◌/◌, ◌%◌, ◌==◌, Bool, true, false, List, [], ◌∷◌, ◌++◌, length, take, Some, None, Result, Ok, Err, cond, refl, ap, subst, ◌∙◌, arith}
use Rattle.std.specs.Int.{w64, to_be_bytes, from_be_bytes}
use Rattle.std.specs.Str.{bytes_eq}
use Rattle.std.proofs.Math.Seq.{take-append_seam}
use Rattle.std.proofs.lemmas.Bool.{cond-true, cond-false}
use Rattle.std.proofs.lemmas.Nat.{from_be_bytes-to_be_bytes_8}
use Rattle.std.proofs.lemmas.Slice.Eq.{bytes_eq-Decides}
use Rattle.hex.specs.Hex.{lower_digits, encode_lower, decode_sized, decode_pairs, IsBytes}
use Rattle.hex.specs.declared.error.FromHexError.{FromHexError}
use Rattle.hex.proofs.HexLemmas.{length-encode_with, IsDigits-lower_digits, decode_pairs-encode_with}
use Rattle.http_digest.specs.Law.{TellsSecond}
use Rattle.http_digest.specs.Nonces.{second_digits, nonce_of, issued_at, issued_by, issue_of}
use Rattle.http_digest.specs.Responses.{digest_of}
use Rattle.http_digest.specs.declared.secret.Secret.{Secret}

-- each number is a byte
record AreBytes (xs : List ℕ) : Type 0 where
  each : IsBytes xs

no_bytes : AreBytes []
no_bytes = record { each = λ i. omega arith }

one_more : (x : ℕ) (xs : List ℕ) → x < 256 → IsBytes xs → IsBytes (x ∷ xs)
one_more x xs lt h zero = lt
one_more x xs lt h (suc i) = h i

low_byte : (n : ℕ) (xs : List ℕ) → AreBytes xs → AreBytes (n % 256 ∷ xs)
low_byte n xs h = record { each = one_more (n % 256) xs (omega arith) h.each }

bytes_of_second : (second : ℕ) → AreBytes (to_be_bytes w64 second)
bytes_of_second second =
    low_byte _ _ (low_byte _ _ (low_byte _ _ (low_byte _ _ (low_byte _ _ (low_byte _ _ (low_byte _ _ (low_byte _ _ no_bytes)))))))

digits_length : (second : ℕ) → length (second_digits second) ≡ 16
digits_length second = length-encode_with lower_digits (to_be_bytes w64 second)

sixteen : (text : List ℕ) → length text ≡ 16 → decode_sized text 8 ≡ decode_pairs 0 text
sixteen text size = cond-false _ _ _ (ap (λ n. n % 2 == 1) size) ∙ cond-true _ _ _ (ap (λ n. n / 2 == 8) size)

digits_read : (second : ℕ) → decode_sized (second_digits second) 8 ≡ Ok (to_be_bytes w64 second)
digits_read second =
    sixteen (second_digits second) (digits_length second) ∙ decode_pairs-encode_with lower_digits IsDigits-lower_digits 0 (to_be_bytes w64 second) (bytes_of_second second).each

front_of : (secret : Secret) (second : ℕ) → take 16 (nonce_of secret second) ≡ second_digits second
unfolding nonce_of
front_of secret second =
    let seal = digest_of (encode_lower secret.bytes ∷ second_digits second ∷ []) in
    subst (λ n. take n (second_digits second ++ seal) ≡ second_digits second) (digits_length second) (take-append_seam (second_digits second) seal)

told : (secret : Secret) (second : ℕ) → second < 2 ^ 64 → issue_of secret (nonce_of secret second) ≡ Some second
told secret second lt =
    ap (λ (text : List ℕ). issued_by secret (nonce_of secret second) (decode_sized text 8)) (front_of secret second)
    ∙ ap (issued_by secret (nonce_of secret second)) (digits_read second)
    ∙ ap (issued_at secret (nonce_of secret second)) (from_be_bytes-to_be_bytes_8 second lt)
    ∙ cond-true _ _ _ ((bytes_eq-Decides (nonce_of secret second) (nonce_of secret second)).1 refl)

only_at : (secret : Secret) (nonce : List ℕ) (found second : ℕ) (same : Bool) → bytes_eq nonce (nonce_of secret found) ≡ same
    → cond same (Some found) None ≡ Some second → nonce ≡ nonce_of secret second
only_at secret nonce found second true is h =
    let e : found ≡ second = let s : Some found ≡ Some second = h in cc in
    (bytes_eq-Decides nonce (nonce_of secret found)).0 is ∙ ap (nonce_of secret) e
only_at secret nonce found second false is h = absurd (let e : None ≡ Some second = h in cc)

only_by : (secret : Secret) (nonce : List ℕ) (second : ℕ) (r : Result (List ℕ) FromHexError) → issued_by secret nonce r ≡ Some second → nonce ≡ nonce_of secret second
only_by secret nonce second (Ok bytes) h = only_at secret nonce (from_be_bytes w64 bytes) second (bytes_eq nonce (nonce_of secret (from_be_bytes w64 bytes))) refl h
only_by secret nonce second (Err fault) h = absurd (let e : None ≡ Some second = h in cc)

pub tells_second : (secret : Secret) → TellsSecond secret
tells_second secret = record {
  told = told secret;
  only = λ nonce second h. only_by secret nonce second (decode_sized (take 16 nonce) 8) h;
}
