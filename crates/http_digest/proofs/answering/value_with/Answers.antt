use Rattle.std.proofs.Common.{◌≡◌, ◌∙◌, ◌++◌, ap, List, ℕ, codes}
use Rattle.http_digest.specs.Answers.{quoted}
use Rattle.http_digest.proofs.AnswerLaw.{put_together}
use Rattle.http_digest.proofs.answering.value_with.Goals as goal

pub returns : goal.returns
returns c =
    let a = c.args in
    let first : c.push_item.new.text ≡ codes "Digest username=" ++ quoted a.user.now =
    c.in_ok-push_item.ensures ∙ ap (λ (l : List ℕ). l ++ (codes "Digest username=" ++ quoted a.user.now)) c.new-bytes.ensures in
    put_together a.user.now (codes "FDSN") a.nonce.now a.target.now a.response.now _ _ _ _ _
    first c.in_ok-push_item-2.ensures c.in_ok-push_item-3.ensures c.in_ok-push_item-4.ensures c.in_ok-push_item-5.ensures
