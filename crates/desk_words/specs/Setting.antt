-- What an answer rests on beside the history and the question: the secret of the nonces, and the limits.
use Rattle.archive_state.specs.declared.limits.Limits.{Limits}
use Rattle.http_digest.specs.declared.secret.Secret.{Secret}

pub record Setting : Type 0 where
  pub secret : Secret
  pub limits : Limits

abbrev pub setting : Secret → Limits → Setting
setting secret limits = record { secret = secret; limits = limits }
