use Rattle.std.proofs.Common.{◌≡◌, ◌∙◌, ◌⊎◌, inr, ◌+◌, ◌<◌, ◌≤◌, List, ℕ, length, take, drop, refl, ap, arith}
use Rattle.http_wire.proofs.BlockSteps.{took_then}
use Rattle.http_answers.specs.Reading.{EndsInHead, EndsInBody}
use Rattle.http_answers.proofs.ReadSteps.{saw, ends_in_body, gives}
use Rattle.http_answers.proofs.reading.read_reply.Goals as goal

pub returns-in-Ok-false-clause-ends : goal.returns-in-Ok-false-clause-ends
returns-in-Ok-false-clause-ends g c =
    let head = c.in_ok-head.head in
    let mid = c.read_head.new.held in
    let new = c.fill.new.held in
    let n = c.in-Some.more in
    let most = c.args.max_body in
    let took = c.in_ok-head.ensures.took in
    let has = c.in_ok-head.ensures.head in
    let more = c.in-Ok-false.ensures.took in
    let lt : length new < head.size + n = rw c.in-Ok-false.field-0-test at c.in-Ok-false.ensures.full in
    let le : n ≤ most = omega (arith, c.if-more-max_body.false) in (
      saw _ _ _ new (λ (bytes : List ℕ). EndsInHead bytes ⊎ EndsInBody most bytes) (took_then _ _ _ _ mid _ took more)
          (inr (ends_in_body _ _ mid new head n most has more c.in-Some.is lt le)),
      rw c.in-Ok-false.field-0-test at c.in-Ok-false.ensures.end,
    )

pub returns-clause-reply : goal.returns-clause-reply
returns-clause-reply g c =
    let head = c.in_ok-head.head in
    let mid = c.read_head.new.held in
    let new = c.fill.new.held in
    let n = c.in-Some.more in
    let most = c.args.max_body in
    let full : head.size + n ≤ length new = rw c.in-Ok-true.field-0-test at c.in-Ok-true.ensures.full in
    let le : n ≤ most = omega (arith, c.if-more-max_body.false) in
    let body : c.in-Ok.body ≡ take n (drop head.size new) = c.in-Ok.ensures.front.0 ∙ ap (take n) c.drop_front.ensures in
    let left : c.take_front.new.self ≡ drop n (drop head.size new) = c.in-Ok.ensures.front.1 ∙ ap (drop n) c.drop_front.ensures in
    gives _ _ _ _ mid new _ head n most _ c.in_ok-head.ensures.took c.in_ok-head.ensures.head c.in-Ok-true.ensures.took c.in-Some.is full le
    (refl, refl, refl, body, left)
