-- What the laws on headers and nonces say.
use Rattle.std.specs.Prelude.{◌≡◌, ℕ, ◌<◌, ◌^◌, List, Some}
use Rattle.http_digest.specs.Nonces.{nonce_of, issue_of}
use Rattle.http_digest.specs.declared.secret.Secret.{Secret}

-- a nonce tells its second to who has the secret, and no other text does
pub record TellsSecond (secret : Secret) : Type 0 where
  pub told : (second : ℕ) → second < 2 ^ 64 → issue_of secret (nonce_of secret second) ≡ Some second
  pub only : (nonce : List ℕ) (second : ℕ) → issue_of secret nonce ≡ Some second → nonce ≡ nonce_of secret second
