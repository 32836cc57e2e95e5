-- The response to a challenge (RFC 2617, section 3.2.2.1, with the algorithm MD5).
use Rattle.std.specs.Prelude.{ℕ, List, [], ◌∷◌, Option, Some, None, codes}
use Rattle.std.specs.List.{join_with_byte}
use Rattle.hex.specs.Hex.{encode_lower}
use Rattle.md5.specs.Md5.{md5}
use Rattle.http_digest.specs.declared.authorization.AuthPart.{AuthPart}

abbrev pub colon : ℕ
colon = 0x3A

-- the digest of parts with a colon between each two, in lower-case hexadecimal digits
abbrev pub digest_of : List (List ℕ) → List ℕ
digest_of parts = encode_lower (md5 (join_with_byte colon parts))

-- what is digested with the user's secret: the nonce, and where auth was asked for the count of its uses and
-- the client's own nonce; then the digest of the method and the target
abbrev pub response_of : List ℕ → List ℕ → List ℕ → List ℕ → Option AuthPart → List ℕ
response_of ha1 method target nonce None = digest_of (ha1 ∷ nonce ∷ digest_of (method ∷ target ∷ []) ∷ [])
response_of ha1 method target nonce (Some part) =
    digest_of (ha1 ∷ nonce ∷ part.nc ∷ part.cnonce ∷ codes "auth" ∷ digest_of (method ∷ target ∷ []) ∷ [])
