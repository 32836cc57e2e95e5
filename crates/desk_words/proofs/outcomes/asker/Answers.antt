use Rattle.std.proofs.Common.{◌≡◌, ◌∙◌, Option, Some, Ok, option_map, sym, ap}
use Rattle.std.specs.Borrow.{Bor}
use Rattle.epochs.specs.declared.line.User.{User}
use Rattle.epochs.specs.Values.{user_line}
use Rattle.epochs.specs.Kinds.{Text}
use Rattle.http_digest.specs.declared.authorization.Credentials.{Credentials}
use Rattle.desk_words.specs.Outcomes.{as_asker, asked_as}
use Rattle.desk_words.proofs.Users.{named_user}
use Rattle.desk_words.proofs.outcomes.asker.Goals as goal

pub returns-in-Ok-clause-ok : goal.returns-in-Ok-clause-ok
returns-in-Ok-clause-ok c =
    let live = c.args.catalog.now in
    let moment = c.args.question.now.moment in
    let secret = c.args.secret.now in
    let u = c.unwrap.result.now in
    let found = sym (ap (option_map (λ (b : Bor User). user_line b.now.name b.now.ha1 b.now.roles)) c.unwrap.ensures) ∙ c.user.ensures.user in
    let name : u.name ≡ c.in-Ok.name = named_user c.as_slice.result.now u.name u.ha1 u.roles live found ∙ c.as_slice.ensures in
    ap (λ (o : Option Credentials). asked_as live o moment secret) c.in-Some.is ∙ ap as_asker c.in-Ok.ensures.name ∙ ap (λ (n : Text). Ok (Some n)) (sym name)
