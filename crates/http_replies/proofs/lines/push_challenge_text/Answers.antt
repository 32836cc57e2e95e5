use Rattle.std.proofs.Common.{◌≡◌, List, ℕ, ◌++◌, sym, ap, ◌∙◌, append-nil, subst}
use Rattle.std.specs.Prelude.{codes}
use Rattle.http_digest.specs.Challenge.{stale_text}
use Rattle.http_replies.proofs.Joins.{three, four}
use Rattle.http_replies.proofs.lines.push_challenge_text.Goals as goal

pub returns-then-challenge-clause-added : goal.returns-then-challenge-clause-added
returns-then-challenge-clause-added c =
    let h = c.args.head.now in
    let opening = codes "Digest realm=\"FDSN\", qop=\"auth\", algorithm=MD5, nonce=\"" in
    let nonce = c.args.challenge.now.nonce in
    let P : List ℕ → Type 0 = λ s. c.push-then-challenge.new.self ≡ h ++ (opening ++ nonce ++ codes "\"" ++ s) in
    subst P (ap stale_text (sym c.if-challenge.true))
    (four h opening nonce (codes "\"") (codes ", stale=true") _ _ _ _ c.push.ensures.added c.push-2.ensures.added c.push-3.ensures.added c.push-then-challenge.ensures.added)

pub returns-else-challenge-clause-added : goal.returns-else-challenge-clause-added
returns-else-challenge-clause-added c =
    let h = c.args.head.now in
    let opening = codes "Digest realm=\"FDSN\", qop=\"auth\", algorithm=MD5, nonce=\"" in
    let nonce = c.args.challenge.now.nonce in
    let P : List ℕ → Type 0 = λ s. c.push-3.new.self ≡ h ++ (opening ++ nonce ++ codes "\"" ++ s) in
    subst P (ap stale_text (sym c.if-challenge.false))
    (three h opening nonce (codes "\"") _ _ _ c.push.ensures.added c.push-2.ensures.added c.push-3.ensures.added
    ∙ ap (λ (s : List ℕ). h ++ s) (sym (append-nil (opening ++ nonce ++ codes "\""))))
