use Rattle.std.proofs.Common.{◌≡◌, List, ℕ, [], ◌∷◌, ◌++◌, length, refl, sym, ap, ◌∙◌, subst}
use Rattle.std.proofs.lemmas.Bool.{ne_eqb}
use Rattle.std.specs.Prelude.{codes, decimal, flat_map}
use Rattle.http_replies.specs.Replies.{media_type, body_of, content_fields, field_line}
use Rattle.http_replies.proofs.Joins.{two_lines}
use Rattle.http_replies.proofs.lines.push_content.Goals as goal

pub returns-clause-added : goal.returns-clause-added
returns-clause-added c =
    let h = c.args.head.now in
    let reply = c.args.reply.now in
    let x = c.push_field.new.self in
    let y = c.push_number.new.self in
    let kind = codes "Content-Type" in
    let size = codes "Content-Length" in
    let fields = (kind, media_type reply.kind) ∷ (size, decimal (length (body_of reply))) ∷ [] in
    let all : content_fields reply ≡ fields = rw (ne_eqb reply.status 204 c.if-reply-eq204.false) refl in
    let P : List (List ℕ × List ℕ) → Type 0 = λ fs. y ≡ h ++ flat_map field_line fs in
    subst P (sym all) (two_lines h x y (kind, media_type reply.kind) (size, decimal (length (body_of reply)))
    (c.push_field.ensures.added ∙ ap (λ v. h ++ field_line (kind, v)) c.media_type.ensures.same)
    (c.push_number.ensures.added ∙ ap (λ (b : List ℕ). x ++ field_line (size, decimal (length b))) c.body_of.ensures))
