-- How the server asks for credentials (RFC 2617, section 3.2.1).
use Rattle.std.specs.Prelude.{Bool, ℕ, List, [], ◌++◌, if◌then◌else◌, codes}
use Rattle.http_digest.specs.declared.challenges.Challenge.{Challenge}

-- what is said where the last nonce was too old, so that the client may answer again without asking its user
abbrev pub stale_text : Bool → List ℕ
stale_text stale = if stale then codes ", stale=true" else []

-- the challenge as the value of the header WWW-Authenticate
abbrev pub challenge_text : Challenge → List ℕ
challenge_text challenge =
    codes "Digest realm=\"FDSN\", qop=\"auth\", algorithm=MD5, nonce=\"" ++ challenge.nonce ++ codes "\"" ++ stale_text challenge.stale
