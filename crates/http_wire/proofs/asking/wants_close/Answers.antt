use Rattle.std.proofs.Common.{◌≡◌, ◌∙◌, ap, sym, List, ℕ, Bool, true}
use Rattle.std.specs.Prelude.{◌&&◌, ◌==◌, codes}
use Rattle.std.specs.List.{list_any, slice_split}
use Rattle.httparse.specs.Ascii.{comma}
use Rattle.http_wire.specs.Heads.{is_close, is_field}
use Rattle.http_wire.specs.FieldPairs.{as_pair}
use Rattle.http_wire.proofs.FieldSteps.{any_seen}
use Rattle.http_wire.proofs.asking.wants_close.Goals as goal

pub returns : goal.returns
returns c =
    let items = c.in_ok-items.items.items in
    let some : c.has_close.result ≡ list_any is_close (slice_split (λ b. b == comma) c.args.field.now.value) =
    c.has_close.ensures ∙ ap (list_any (λ x. is_close x.now)) c.deref.ensures.value
    ∙ any_seen is_close items ∙ ap (list_any is_close) c.in_ok-items.ensures
    ∙ ap (λ (t : List ℕ). list_any is_close (slice_split (λ b. b == comma) t)) c.as_slice.ensures in
    let named : is_field (codes "connection") (as_pair c.args.field.now) ≡ true = sym c.if-not-is_named.ensures in
    some ∙ ap (λ (b : Bool). b && list_any is_close (slice_split (λ x. x == comma) c.args.field.now.value)) (sym named)
