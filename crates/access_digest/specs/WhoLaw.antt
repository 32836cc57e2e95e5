-- Whom credentials name, in the subject's words.
use Rattle.std.specs.Prelude.{◌≡◌, ℕ, ◌+◌, ◌≤◌, true, List, Some}
use Rattle.epochs.specs.Kinds.{Text}
use Rattle.epochs.specs.Lines.{LineValues}
use Rattle.exact_time.specs.declared.moment.Moment.{Moment}
use Rattle.http_digest.specs.Answers.{are_visible, authorization_text}
use Rattle.http_digest.specs.Nonces.{issue_of, second_of}
use Rattle.http_digest.specs.Parts.{IsAuthorization}
use Rattle.http_digest.specs.Responses.{response_of}
use Rattle.http_digest.specs.declared.authorization.Authorization.{Authorization}
use Rattle.http_digest.specs.declared.authorization.Credentials.{Credentials}
use Rattle.http_digest.specs.declared.secret.Secret.{Secret}
use Rattle.access_digest.specs.Who.{lifetime, ha1_of}

-- a nonce of the secret may be used at a moment
pub record IsUsable (secret : Secret) (nonce : List ℕ) (now : Moment) : Type 0 where
  pub issued : ℕ
  pub second : ℕ
  pub issued_at : issue_of secret nonce ≡ Some issued
  pub second_is : second_of now.micros ≡ Some second
  pub begun : issued ≤ second
  pub within : second ≤ issued + lifetime

-- the authorization that the header spells is for this target and names the user, its nonce may be used, and
-- its response is the one that this live user has to give
pub record Names (live : List LineValues) (asked : Credentials) (now : Moment) (secret : Secret) (user : Text) : Type 0 where
  pub header : List ℕ
  pub there : asked.header ≡ Some header
  pub read : Authorization
  pub spells : IsAuthorization header read
  pub for_target : read.uri ≡ asked.target
  pub user_is : read.user ≡ user
  pub usable : IsUsable secret read.nonce now
  pub ha1 : List ℕ
  pub lives : ha1_of live user ≡ Some ha1
  pub answers : read.response ≡ response_of ha1 asked.method asked.target read.nonce read.auth

-- the header is what a client with this name and this live user's HA1 answers to a challenge whose nonce may be used
pub record IsAnswerOf (live : List LineValues) (asked : Credentials) (now : Moment) (secret : Secret) (user : Text) : Type 0 where
  pub ha1 : List ℕ
  pub nonce : List ℕ
  pub there : asked.header ≡ Some (authorization_text user ha1 asked.method asked.target nonce)
  pub user_is : are_visible user ≡ true
  pub target_is : are_visible asked.target ≡ true
  pub nonce_is : are_visible nonce ≡ true
  pub lives : ha1_of live user ≡ Some ha1
  pub usable : IsUsable secret nonce now
