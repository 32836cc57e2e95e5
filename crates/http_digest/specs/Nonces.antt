-- Nonces: when each was issued, sealed by a secret (RFC 2617, section 3.2.1, leaves the form to the server).
use Rattle.std.specs.Prelude.{ℕ, ◌/◌, ℤ, pos, negsuc, if◌then◌else◌, List, [], ◌∷◌, ◌++◌, take, Option, Some, None, Result, Ok, Err}
use Rattle.std.specs.Int.{w64, to_be_bytes, from_be_bytes}
use Rattle.std.specs.Str.{bytes_eq}
use Rattle.hex.specs.Hex.{encode_lower, decode_sized}
use Rattle.hex.specs.declared.error.FromHexError.{FromHexError}
use Rattle.http_digest.specs.Responses.{digest_of}
use Rattle.http_digest.specs.declared.secret.Secret.{Secret}

-- 16 hexadecimal digits
abbrev pub second_digits : ℕ → List ℕ
second_digits second = encode_lower (to_be_bytes w64 second)

-- the digits of the issue second, and the digest of the secret's digits and these
unfoldable pub nonce_of : Secret → ℕ → List ℕ
nonce_of secret second = second_digits second ++ digest_of (encode_lower secret.bytes ∷ second_digits second ∷ [])

-- the second, where that nonce is the one of that second
abbrev pub issued_at : Secret → List ℕ → ℕ → Option ℕ
issued_at secret nonce second = if bytes_eq nonce (nonce_of secret second) then Some second else None

abbrev pub issued_by : Secret → List ℕ → Result (List ℕ) FromHexError → Option ℕ
issued_by secret nonce (Ok bytes) = issued_at secret nonce (from_be_bytes w64 bytes)
issued_by secret nonce (Err fault) = None

-- the issue second of a nonce of this secret; any other text has none
abbrev pub issue_of : Secret → List ℕ → Option ℕ
issue_of secret nonce = issued_by secret nonce (decode_sized (take 16 nonce) 8)

-- the whole seconds since 1970; there are none before it
abbrev pub second_of : ℤ → Option ℕ
second_of (pos micros) = Some (micros / 1000000)
second_of (negsuc _) = None
