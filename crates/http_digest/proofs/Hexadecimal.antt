-- Nonces are hexadecimal digits.
use Rattle.std.proofs.Common.{◌≡◌, ℕ, zero, suc, ◌<◌, ◌*◌, ◌/◌, ◌%◌, ◌==◌, true, List, [], ◌∷◌, ◌++◌, length, map, refl, ◌∙◌, ap, arith}
use Rattle.std.specs.Prelude.{slice_index}
use Rattle.std.specs.List.{list_all, AllByRecursion, join_with_byte}
use Rattle.std.specs.Char.{is_ascii_hexdigit, to_ascii_lowercase}
use Rattle.std.specs.Int.{w32, w64, to_be_bytes, to_le_bytes}
use Rattle.std.proofs.lemmas.Bool.{agree_below_at, and_from}
use Rattle.std.proofs.lemmas.Bool.Decides.{nat_tests}
use Rattle.std.proofs.lemmas.List.Folds.{list_all-append}
use Rattle.hex.proofs.HexLemmas.{length-encode_with}
use Rattle.hex.specs.Hex.{lower_digits, encode_with, encode_lower}
use Rattle.md5.specs.Md5.{md5, digest_bytes}
use Rattle.http_digest.specs.Nonces.{second_digits, nonce_of}
use Rattle.http_digest.specs.Responses.{colon, digest_of}
use Rattle.http_digest.specs.declared.secret.Secret.{Secret}

digit_is : (k : ℕ) → k < 16 → is_ascii_hexdigit (slice_index lower_digits k) ≡ true
digit_is k lt = agree_below_at (λ k. is_ascii_hexdigit (slice_index lower_digits k)) (λ k. true) 16 k refl lt

digits_of : (bytes : List ℕ) → AllByRecursion (λ b. b < 256) bytes → list_all is_ascii_hexdigit (encode_lower bytes) ≡ true
unfolding encode_with
digits_of [] all = refl
digits_of (b ∷ bytes) all =
    let lt : b < 256 = all.0 in
    and_from _ _ (digit_is (b / 16) (omega (arith, lt))) (and_from _ _ (digit_is (b % 16) (omega (arith, lt))) (digits_of bytes all.1))

low : (n : ℕ) → n % 256 < 256
low n = omega arith

word_bytes : (n : ℕ) → AllByRecursion (λ b. b < 256) (to_le_bytes w32 n)
word_bytes n = (low _, (low _, (low _, (low _, tt))))

second_bytes : (n : ℕ) → AllByRecursion (λ b. b < 256) (to_be_bytes w64 n)
second_bytes n = (low _, (low _, (low _, (low _, (low _, (low _, (low _, (low _, tt))))))))

all_joined : {X : Type 0} (P : X → Type 0) (xs ys : List X) → AllByRecursion P xs → AllByRecursion P ys → AllByRecursion P (xs ++ ys)
all_joined P [] ys ps qs = qs
all_joined P (x ∷ xs) ys ps qs = (ps.0, all_joined P xs ys ps.1 qs)

words_bytes : (hash : List ℕ) (n : ℕ) → AllByRecursion (λ b. b < 256) (digest_bytes hash n)
unfolding digest_bytes
words_bytes hash zero = tt
words_bytes hash (suc n) = all_joined (λ b. b < 256) (digest_bytes hash n) (to_le_bytes w32 (slice_index hash n)) (words_bytes hash n) (word_bytes (slice_index hash n))

message_digits : (message : List ℕ) → list_all is_ascii_hexdigit (encode_lower (md5 message)) ≡ true
unfolding md5
message_digits message = digits_of (md5 message) (words_bytes _ 4)

pub digest_digits : (parts : List (List ℕ)) → list_all is_ascii_hexdigit (digest_of parts) ≡ true
digest_digits parts = message_digits (join_with_byte colon parts)

-- each byte of a nonce is a hexadecimal digit
pub nonce_digits : (secret : Secret) (second : ℕ) → list_all is_ascii_hexdigit (nonce_of secret second) ≡ true
unfolding nonce_of
nonce_digits secret second =
    list_all-append is_ascii_hexdigit (second_digits second) (digest_of (encode_lower secret.bytes ∷ second_digits second ∷ []))
    ∙ and_from _ _ (digits_of (to_be_bytes w64 second) (second_bytes second)) (digest_digits (encode_lower secret.bytes ∷ second_digits second ∷ []))

message_size : (message : List ℕ) → length (md5 message) ≡ 16
unfolding md5 digest_bytes
message_size message = refl

-- a digest has 32 digits
pub digest_size : (parts : List (List ℕ)) → length (digest_of parts) ≡ 32
digest_size parts = length-encode_with lower_digits (md5 (join_with_byte colon parts)) ∙ ap (λ n. 2 * n) (message_size (join_with_byte colon parts))

digit_stays : (k : ℕ) → k < 16 → to_ascii_lowercase (slice_index lower_digits k) ≡ slice_index lower_digits k
digit_stays k lt = same_number _ _ (agree_below_at (λ k. to_ascii_lowercase (slice_index lower_digits k) == slice_index lower_digits k) (λ k. true) 16 k refl lt)
  where
    same_number : (a b : ℕ) → (a == b) ≡ true → a ≡ b
    same_number a b h = grind (arith, nat_tests)

stays_low : (bytes : List ℕ) → AllByRecursion (λ b. b < 256) bytes → map to_ascii_lowercase (encode_lower bytes) ≡ encode_lower bytes
unfolding encode_with
stays_low [] all = refl
stays_low (b ∷ bytes) all =
    let lt : b < 256 = all.0 in
    λ i. digit_stays (b / 16) (omega (arith, lt)) i ∷ digit_stays (b % 16) (omega (arith, lt)) i ∷ stays_low bytes all.1 i

message_low : (message : List ℕ) → map to_ascii_lowercase (encode_lower (md5 message)) ≡ encode_lower (md5 message)
unfolding md5
message_low message = stays_low (md5 message) (words_bytes _ 4)

-- none of them is in upper case
pub digest_low : (parts : List (List ℕ)) → map to_ascii_lowercase (digest_of parts) ≡ digest_of parts
digest_low parts = message_low (join_with_byte colon parts)
