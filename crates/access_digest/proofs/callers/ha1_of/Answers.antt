use Rattle.std.proofs.Common.{Option, ap}
use Rattle.std.specs.Prelude.{option_map}
use Rattle.epochs.specs.Lines.{LineValues}
use Rattle.access_digest.specs.Who.{ha1_in}
use Rattle.access_digest.proofs.callers.ha1_of.Goals as goal

pub returns-in-Some : goal.returns-in-Some
returns-in-Some c = ap (λ (line : Option LineValues). option_map (λ e. ha1_in e.values) line) c.in-Some.ensures.user

pub returns-in-None : goal.returns-in-None
returns-in-None c = ap (λ (line : Option LineValues). option_map (λ e. ha1_in e.values) line) c.in-None.ensures.user
