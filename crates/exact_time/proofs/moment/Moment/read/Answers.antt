use Rattle.std.proofs.Common.{Ok, Err}
use Rattle.exact_time.specs.declared.moment.TimeFault.TheVariants.{Range}
use Rattle.exact_time.proofs.Spellings.{civil_once, only_moment}
use Rattle.exact_time.proofs.moment.Moment.read.Goals as goal

pub returns-clause-range : goal.returns-clause-range
returns-clause-range c =
    (λ e. absurd (cc), λ p. absurd (p.2 (civil_once c.args.text.now c.in-Some.time p.0 c.in-Some.ensures p.1 c.in-Some-moment_of.ensures.0)))

pub returns-in_default-moment_of-clause-exact : goal.returns-in_default-moment_of-clause-exact
returns-in_default-moment_of-clause-exact c = only_moment c.args.text.now (Err Range) (c.in-Some.time, c.in-Some.ensures, c.in_default-moment_of.ensures)

pub returns-clause-exact : goal.returns-clause-exact
returns-clause-exact c =
    only_moment c.args.text.now (Ok c.in-Some-moment_of.moment)
    (c.in-Some.time, c.in-Some.ensures, c.in-Some-moment_of.ensures.0, c.in-Some-moment_of.ensures.1)
