-- A challenge is its nonce, and whether the last one was too old.
use Rattle.std.proofs.Common.{◌≡◌, Bool, true, unwrap_or}
use Rattle.std.proofs.Props.{props}
use Rattle.std.specs.List.{list_all}
use Rattle.std.specs.Char.{is_ascii_hexdigit}
use mathlib.Core.HLevel.{is_prop→PathP}
use Rattle.exact_time.specs.declared.moment.Moment.{Moment}
use Rattle.http_digest.specs.Nonces.{nonce_of, second_of}
use Rattle.http_digest.specs.declared.challenges.Challenge.{Challenge}
use Rattle.http_digest.specs.declared.secret.Secret.{Secret}
use Rattle.centre_desk.specs.Told.{challenge_at}

same_challenge : (x y : Challenge) → x.nonce ≡ y.nonce → x.stale ≡ y.stale → x ≡ y
same_challenge x y nonce stale = λ i. record {
  nonce = nonce i;
  stale = stale i;
  digits = is_prop→PathP (λ j. list_all is_ascii_hexdigit (nonce j) ≡ true) (λ j. hlevel props) x.digits y.digits i;
}

pub challenge_is : (x : Challenge) (moment : Moment) (secret : Secret) (stale : Bool) → x.nonce ≡ nonce_of secret (unwrap_or (second_of moment.micros) 0) → x.stale ≡ stale
    → x ≡ challenge_at moment secret stale
challenge_is x moment secret stale nonce old = same_challenge x (challenge_at moment secret stale) nonce old
