-- The live restrictions and withdrawals and the grants of a user decide what that user sees.
use Rattle.std.proofs.Common.{◌≡◌, Bool, true, false, not, ◌&&◌, ◌||◌, List, [], ◌∷◌, filter, Option, Some, None, refl, sym, ap, ◌∙◌}
use Rattle.std.specs.Prelude.{nat_le}
use Rattle.std.specs.List.{list_any}
use Rattle.std.proofs.lemmas.Bool.{and_parts, true≢false}
use Rattle.std.proofs.lemmas.Map.Views.{any-filter_same}
use Rattle.channel_globs.specs.declared.nslc.Nslc.{Nslc}
use Rattle.epochs.specs.declared.kinds.LineKind.TheVariants.{Rst, Wdr}
use Rattle.epochs.specs.Kinds.{Text}
use Rattle.epochs.specs.Lines.{LineValues}
use Rattle.epoch_rules.specs.Losses.{is_grant_of}
use Rattle.epoch_rules.specs.Rules.{is_line_of}
use Rattle.mseed_header.specs.declared.row.Row.{Row}
use Rattle.access_digest.specs.Access.{matches_name, meets_times, keeps_times, restricts, touches, covers, is_touched, is_covered, is_unrestricted, may_have, upto_in, withdraws_some, withdraws, is_withdrawn, is_seen, is_whole, grants_of}

-- a test that asks for a first one has its answer from the elements that pass the first
same_kept : {X : Type 0} (p test : X → Bool) → ((x : X) → test x ≡ true → p x ≡ true) → (xs ys : List X) → filter p xs ≡ filter p ys → list_any test xs ≡ list_any test ys
same_kept p test first xs ys same = sym (any-filter_same test p true first xs) ∙ ap (list_any test) same ∙ any-filter_same test p true first ys

restriction_first : (e : LineValues) (name : Nslc) → restricts e name ≡ true → is_line_of Rst e ≡ true
restriction_first e name h = (and_parts (is_line_of Rst e) (matches_name e name) h).0

touching_first : (e : LineValues) (row : Row) → touches e row ≡ true → is_line_of Rst e ≡ true
touching_first e row h = restriction_first e row.header.name (and_parts (restricts e row.header.name) (meets_times e row.header) h).0

covering_first : (user : Text) (e : LineValues) (row : Row) → covers user e row ≡ true → is_grant_of user e ≡ true
covering_first user e row h =
    (and_parts (is_grant_of user e) (matches_name e row.header.name) (and_parts (is_grant_of user e && matches_name e row.header.name) (keeps_times e row.header) h).0).0

pub same_touched : (live other : List LineValues) (row : Row) → filter (is_line_of Rst) live ≡ filter (is_line_of Rst) other → is_touched live row ≡ is_touched other row
same_touched live other row same = same_kept (is_line_of Rst) (λ e. touches e row) (λ e h. touching_first e row h) live other same

pub same_unrestricted : (live other : List LineValues) (name : Nslc) → filter (is_line_of Rst) live ≡ filter (is_line_of Rst) other → is_unrestricted live name ≡ is_unrestricted other name
same_unrestricted live other name same = ap not (same_kept (is_line_of Rst) (λ e. restricts e name) (λ e h. restriction_first e name h) live other same)

same_covered : (live other : List LineValues) (user : Option Text) (row : Row) → grants_of live user ≡ grants_of other user → is_covered live user row ≡ is_covered other user row
same_covered live other None row same = refl
same_covered live other (Some user) row same = same_kept (is_grant_of user) (λ e. covers user e row) (λ e h. covering_first user e row h) live other same

pub same_had : (live other : List LineValues) (user : Option Text) (row : Row) → filter (is_line_of Rst) live ≡ filter (is_line_of Rst) other → grants_of live user ≡ grants_of other user
    → may_have live user row ≡ may_have other user row
same_had live other user row restrictions grants = rw (same_touched live other row restrictions, same_covered live other user row grants) refl

withdrawing_some_first : (e : LineValues) (name : Nslc) → withdraws_some e name ≡ true → is_line_of Wdr e ≡ true
withdrawing_some_first e name h = (and_parts (is_line_of Wdr e) (matches_name e name) h).0

-- a withdrawal that covers a row matches its name
pub withdrawing_named : (e : LineValues) (row : Row) → withdraws e row ≡ true → withdraws_some e row.header.name ≡ true
withdrawing_named e row h =
    (and_parts (withdraws_some e row.header.name) (keeps_times e row.header) (and_parts (withdraws_some e row.header.name && keeps_times e row.header) (nat_le row.entry (upto_in e.values)) h).0).0

pub same_withdrawn : (live other : List LineValues) (row : Row) → filter (is_line_of Wdr) live ≡ filter (is_line_of Wdr) other → is_withdrawn live row ≡ is_withdrawn other row
same_withdrawn live other row same =
    same_kept (is_line_of Wdr) (λ e. withdraws e row) (λ e h. withdrawing_some_first e row.header.name (withdrawing_named e row h)) live other same

pub same_seen : (live other : List LineValues) (user : Option Text) (row : Row) → filter (is_line_of Rst) live ≡ filter (is_line_of Rst) other
    → filter (is_line_of Wdr) live ≡ filter (is_line_of Wdr) other → grants_of live user ≡ grants_of other user
    → is_seen live user row ≡ is_seen other user row
same_seen live other user row restrictions withdrawals grants = λ i. same_had live other user row restrictions grants i && not (same_withdrawn live other row withdrawals i)

pub same_whole : (live other : List LineValues) (name : Nslc) → filter (is_line_of Rst) live ≡ filter (is_line_of Rst) other
    → filter (is_line_of Wdr) live ≡ filter (is_line_of Wdr) other → is_whole live name ≡ is_whole other name
same_whole live other name restrictions withdrawals =
    let some = same_kept (is_line_of Wdr) (λ e. withdraws_some e name) (λ e h. withdrawing_some_first e name h) live other withdrawals in
    λ i. same_unrestricted live other name restrictions i && not (some i)

-- no element passes a test that asks for one that none passes
pub none_asked : {X : Type 0} (p q : X → Bool) → ((x : X) → q x ≡ true → p x ≡ true) → (xs : List X) → list_any p xs ≡ false → list_any q xs ≡ false
none_asked p q asks [] h = refl
none_asked p q asks (x ∷ xs) h =
    let left = or_false (p x) (list_any p xs) h in
    elim (q x) as (λ b. q x ≡ b → (b || list_any q xs) ≡ false) [
      | true ↦ λ e. absurd (true≢false (sym (asks x e) ∙ left.0))
      | false ↦ λ e. none_asked p q asks xs left.1
    ] refl
  where
    or_false : (a b : Bool) → (a || b) ≡ false → (a ≡ false) × (b ≡ false)
    or_false true b h = absurd (true≢false h)
    or_false false b h = (refl, h)

-- where no line is a withdrawal, no row is withdrawn
pub without_withdrawals : (live : List LineValues) (row : Row) → list_any (is_line_of Wdr) live ≡ false → is_withdrawn live row ≡ false
without_withdrawals live row none = none_asked (is_line_of Wdr) (λ e. withdraws e row) (λ e h. withdrawing_some_first e row.header.name (withdrawing_named e row h)) live none

-- where no line is a restriction, no row is touched
pub without_restrictions : (live : List LineValues) (row : Row) → list_any (is_line_of Rst) live ≡ false → is_touched live row ≡ false
without_restrictions live row none = none_asked (is_line_of Rst) (λ e. touches e row) (λ e h. touching_first e row h) live none
