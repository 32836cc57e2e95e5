-- A name that the patterns of no restriction and of no withdrawal match is seen whole.
use Rattle.std.proofs.Common.{◌≡◌, Bool, true, false, not, ◌&&◌, ◌||◌, List, [], ◌∷◌, Option, refl, ap, ◌∙◌}
use Rattle.std.specs.Prelude.{IsTrue}
use Rattle.std.specs.List.{list_any}
use Rattle.std.proofs.lemmas.Bool.{and_parts}
use Rattle.channel_globs.specs.declared.nslc.Nslc.{Nslc}
use Rattle.epochs.specs.Kinds.{Text}
use Rattle.epochs.specs.Lines.{LineValues}
use Rattle.mseed_header.specs.declared.row.Row.{Row}
use Rattle.access_digest.specs.Access.{restricts, meets_times, is_touched, is_unrestricted, withdraws_some, withdraws, is_withdrawn, is_seen, is_whole}
use Rattle.access_digest.proofs.Isolation.{none_asked, withdrawing_named}

-- no line passes a test that asks for more than one that no line passes
none_more : {X : Type 0} (p q : X → Bool) (xs : List X) → list_any p xs ≡ false → list_any (λ x. p x && q x) xs ≡ false
none_more p q [] h = refl
none_more p q (x ∷ xs) h =
    elim (p x) as (λ b. (b || list_any p xs) ≡ false → ((b && q x) || list_any (λ x. p x && q x) xs) ≡ false) [
      | true ↦ λ e. (cc)
      | false ↦ λ e. none_more p q xs e
    ] h

is_false : (b : Bool) → IsTrue (not b) → b ≡ false
is_false true h = (cc)
is_false false h = refl

untouched : (live : List LineValues) (row : Row) (name : Nslc) → IsTrue (is_unrestricted live name) → row.header.name ≡ name → is_touched live row ≡ false
untouched live row name h is =
    none_more (λ e. restricts e row.header.name) (λ e. meets_times e row.header) live (ap (λ (n : Nslc). list_any (λ e. restricts e n) live) is ∙ is_false (list_any (λ e. restricts e name) live) h)

unwithdrawn : (live : List LineValues) (row : Row) (name : Nslc) → list_any (λ e. withdraws_some e name) live ≡ false → row.header.name ≡ name → is_withdrawn live row ≡ false
unwithdrawn live row name none is =
    none_asked (λ e. withdraws_some e row.header.name) (λ e. withdraws e row) (λ e h. withdrawing_named e row h) live (ap (λ (n : Nslc). list_any (λ e. withdraws_some e n) live) is ∙ none)

pub seen_whole : (live : List LineValues) (user : Option Text) (name : Nslc) → IsTrue (is_whole live name)
    → (row : Row) → row.header.name ≡ name → (is_seen live user row ≡ true) × (is_touched live row ≡ false)
seen_whole live user name h row is =
    let both = and_parts (is_unrestricted live name) (not (list_any (λ e. withdraws_some e name) live)) h in
    let none = untouched live row name both.0 is in
    let kept = unwithdrawn live row name (is_false (list_any (λ e. withdraws_some e name) live) both.1) is in
    (rw (none, kept) refl, none)
