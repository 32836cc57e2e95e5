use Rattle.std.proofs.lemmas.Bool.{iff_false}
use Rattle.channel_globs.proofs.MatchingSteps.{star_again, star_on}
use Rattle.channel_globs.proofs.matching.matches_star.Goals as goal

pub places-preserved-in-Star : goal.places-preserved-in-Star
places-preserved-in-Star c =
    let k = star_again _ _ _ _ c.in-Star.ensures in
    let i = c.places.invariant in
    (λ h. k.0 (i.0 h), λ h. i.1 (k.1 h))

pub places-preserved : goal.places-preserved
places-preserved c =
    let i = c.places.invariant in
    let k = star_on c.places.glob.now c.places.left.now (iff_false c.in-Done-false.ensures c.in-Done-false.field-0-test) c.in-len1-up.len_at_least in
    (λ h. k.0 (i.0 h), λ h. i.1 (k.1 h))
