use Rattle.std.proofs.Common.{◌≡◌, subst, sym, rules}
use Rattle.std.specs.Str.{IsUtf8}
use Rattle.http_digest.specs.Answers.{authorization_text}
use Rattle.http_digest.proofs.AnswerLaw.{answer_is_text}
use Rattle.http_digest.proofs.answering.authorization_of.Goals as goal

pub text_of-requires : goal.text_of-requires
text_of-requires c =
    let a = c.args in
    let whole : c.as_slice-2.result.now ≡ authorization_text a.user.now a.ha1.now a.method.now a.target.now a.nonce.now = search rules in
    subst IsUtf8 (sym whole) (answer_is_text a.user.now a.ha1.now a.method.now a.target.now a.nonce.now c.requires.user c.requires.target c.requires.nonce)
