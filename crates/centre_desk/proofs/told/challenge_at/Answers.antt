use Rattle.centre_desk.proofs.Challenges.{challenge_is}
use Rattle.centre_desk.proofs.told.challenge_at.Goals as goal

pub returns : goal.returns
returns c = challenge_is c.challenge.result c.args.moment c.args.secret.now c.args.stale c.challenge.ensures.nonce c.challenge.ensures.stale
