-- What a test finds among all live lines it finds among those of a code and the wide ones.
use Rattle.std.proofs.Common.{Bor, ◌≡◌, ℕ, Bool, true, false, not, ◌&&◌, ◌||◌, List, [], ◌∷◌, map, filter, cond, Option, Some, None, option_map, refl, sym, ap, subst, ◌∙◌}
use Rattle.std.specs.List.{list_any, slice_get}
use Rattle.std.specs.Str.{bytes_eq}
use Rattle.std.proofs.lemmas.Bool.{and_parts, or_right, true≢false}
use Rattle.std.proofs.lemmas.Option.{slice_get-map}
use Rattle.std.proofs.lemmas.Slice.Eq.{bytes_eq-Decides}
use Rattle.channel_globs.specs.declared.nslc.Nslc.{Nslc}
use Rattle.channel_globs.specs.Matching.{is_match_any}
use Rattle.channel_globs.specs.PatternText.{IsPatternList}
use Rattle.channel_globs.specs.declared.nslc.Part.TheVariants.{Network}
use Rattle.epochs.specs.declared.line.Grant.{Grant}
use Rattle.epochs.specs.declared.line.Line.{Line}
use Rattle.epochs.specs.declared.line.Line.TheVariants.{Net, Sta, Cha, Evt, Rst, Grt, Usr, Wdr, Del}
use Rattle.epochs.specs.declared.line.Restriction.{Restriction}
use Rattle.epochs.specs.Kinds.{Text}
use Rattle.epochs.specs.Lines.{LineValues}
use Rattle.epochs.specs.Values.{restriction_line, grant_line}
use Rattle.epochs.specs.Views.{values_of_line}
use Rattle.epochs.proofs.SpellableWord.{spellable_has}
use Rattle.epoch_catalog.specs.declared.families.Family.TheVariants as family
use Rattle.epoch_catalog.specs.Families.{is_in}
use Rattle.epoch_catalog.specs.Wide.{is_one_code, is_wide, StandAt}
use Rattle.epoch_catalog.proofs.OneCodes.{one_code_matches}
use Rattle.mseed_header.specs.declared.row.Row.{Row}
use Rattle.access_digest.specs.Access.{restricts, touches, covers, meets_times, keeps_times, matches_name, is_there}
use Rattle.access_digest.proofs.Lines.{any_live}

-- a test of the lines at some places is a test of the lines that stand there
pub any_at : (test : LineValues → Bool) (lines : List Line) (places : List ℕ) (found : List LineValues) → StandAt (map values_of_line lines) places found
    → list_any (λ place. is_there (λ line. test (values_of_line line)) (slice_get lines place)) places ≡ list_any test found
any_at test lines [] [] h = refl
any_at test lines [] (x ∷ found) h = absurd (cc)
any_at test lines (p ∷ places) [] h = absurd (cc)
any_at test lines (p ∷ places) (x ∷ found) h =
    let here : option_map values_of_line (slice_get lines p) ≡ Some x = sym (slice_get-map values_of_line lines p) ∙ (cc) in
    (λ i. there (slice_get lines p) here i || any_at test lines places found (cc) i)
  where
    there : (o : Option Line) → option_map values_of_line o ≡ Some x → is_there (λ line. test (values_of_line line)) o ≡ test x
    there None h = absurd (cc)
    there (Some line) h = ap (is_there test) h

-- lines that pass a test are of one of two kinds: the test finds one among all where it finds one among these
pub any_split : (p q test : LineValues → Bool) (lines : List Line) → ((line : Line) → test (values_of_line line) ≡ true → (p (values_of_line line) || q (values_of_line line)) ≡ true)
    → (list_any test (filter p (map values_of_line lines)) || list_any test (filter q (map values_of_line lines))) ≡ list_any test (map values_of_line lines)
any_split p q test [] either = refl
any_split p q test (line ∷ lines) either =
    let e = values_of_line line in
    let ps = filter p (map values_of_line lines) in
    let qs = filter q (map values_of_line lines) in
    any_more (test e) (p e) (q e) e test ps qs (list_any test (map values_of_line lines)) refl (either line) (any_split p q test lines either)
  where
    any_more : (t a b : Bool) (e : LineValues) (test : LineValues → Bool) (ps qs : List LineValues) (rest : Bool) → test e ≡ t → (t ≡ true → (a || b) ≡ true) → (list_any test ps || list_any test qs) ≡ rest
        → (list_any test (cond a (e ∷ ps) ps) || list_any test (cond b (e ∷ qs) qs)) ≡ (test e || rest)
    any_more false false false e test ps qs rest is either h = rw is h
    any_more false true false e test ps qs rest is either h = rw is h
    any_more false false true e test ps qs rest is either h = rw is h
    any_more false true true e test ps qs rest is either h = rw is h
    any_more true false false e test ps qs rest is either h = absurd (true≢false (sym (either refl)))
    any_more true true false e test ps qs rest is either h = rw is refl
    any_more true false true e test ps qs rest is either h = rw is (elim (list_any test ps) as (λ b. (b || true) ≡ true) [ true ↦ refl | false ↦ refl ])
    any_more true true true e test ps qs rest is either h = rw is refl

-- a list that matches a code is written as that code, or isn't written as one
written_or_wide : (text : Text) (list : List Text) (code : Text) → IsPatternList Network text list → is_match_any list code ≡ true → (bytes_eq text code || not (is_one_code text)) ≡ true
written_or_wide text list code read m =
    elim (is_one_code text) as (λ b. is_one_code text ≡ b → (bytes_eq text code || not b) ≡ true) [
      | true ↦ λ one. ap (λ b. b || false) ((bytes_eq-Decides text code).1 (one_code_matches Network text list code refl read one m))
      | false ↦ λ one. elim (bytes_eq text code) as (λ b. (b || true) ≡ true) [ true ↦ refl | false ↦ refl ]
    ] refl

-- the patterns of a restriction's network are those that its text spells, and those of a grant's
restriction_reads : (r : Restriction) → IsPatternList Network r.channels.network.text r.channels.network.list
restriction_reads r = (spellable_has (restriction_line r.channels r.times) r.spellable).values_are.0

grant_reads : (g : Grant) → IsPatternList Network g.channels.network.text g.channels.network.list
grant_reads g = (spellable_has (grant_line g.user g.channels g.times) g.spellable).values_are.1.0

four_first : (n s l c : Bool) → (n && s && l && c) ≡ true → n ≡ true
four_first n s l c h = (and_parts n s (and_parts (n && s) l (and_parts (n && s && l) c h).0).0).0

-- a restriction whose patterns match a name is written on its network, or wide
pub restricting_place : (name : Nslc) (line : Line) → restricts (values_of_line line) name ≡ true
    → (is_in (family.RestrictionsOn name.network) (values_of_line line) || (is_in family.Restrictions (values_of_line line) && is_wide (values_of_line line))) ≡ true
restricting_place name (Net x) h = absurd (true≢false (sym h))
restricting_place name (Sta x) h = absurd (true≢false (sym h))
restricting_place name (Cha x) h = absurd (true≢false (sym h))
restricting_place name (Evt x) h = absurd (true≢false (sym h))
restricting_place name (Rst r) h =
    let here = written_or_wide r.channels.network.text r.channels.network.list name.network (restriction_reads r) (four_first _ _ _ _ h) in
    or_nothing (bytes_eq r.channels.network.text name.network) (not (is_one_code r.channels.network.text)) here
  where
    or_nothing : (a b : Bool) → (a || b) ≡ true → (a || ((b || false) || false)) ≡ true
    or_nothing true b h = refl
    or_nothing false true h = refl
    or_nothing false false h = h
restricting_place name (Grt x) h = absurd (true≢false (sym h))
restricting_place name (Usr x) h = absurd (true≢false (sym h))
restricting_place name (Wdr x) h = absurd (true≢false (sym h))
restricting_place name (Del x) h = absurd (true≢false (sym h))

pub touching_place : (row : Row) (line : Line) → touches (values_of_line line) row ≡ true
    → (is_in (family.RestrictionsOn row.header.name.network) (values_of_line line) || (is_in family.Restrictions (values_of_line line) && is_wide (values_of_line line))) ≡ true
touching_place row line h = restricting_place row.header.name line (and_parts (restricts (values_of_line line) row.header.name) (meets_times (values_of_line line) row.header) h).0

-- a grant of a user that covers a row is written on its network, or wide
pub covering_place : (user : Bor Text) (name : Text) → user.now ≡ name → (row : Row) (line : Line) → covers name (values_of_line line) row ≡ true
    → (is_in (family.GrantsOn user row.header.name.network) (values_of_line line) || (is_in (family.GrantsOf user) (values_of_line line) && is_wide (values_of_line line))) ≡ true
covering_place user name is row (Net x) h = absurd (true≢false (sym h))
covering_place user name is row (Sta x) h = absurd (true≢false (sym h))
covering_place user name is row (Cha x) h = absurd (true≢false (sym h))
covering_place user name is row (Evt x) h = absurd (true≢false (sym h))
covering_place user name is row (Rst x) h = absurd (true≢false (sym h))
covering_place user name is row (Grt g) h =
    let e = values_of_line (Grt g) in
    let first = and_parts (bytes_eq name g.user && matches_name e row.header.name) (keeps_times e row.header) h in
    let both = and_parts (bytes_eq name g.user) (matches_name e row.header.name) first.0 in
    let here = written_or_wide g.channels.network.text g.channels.network.list row.header.name.network (grant_reads g) (four_first _ _ _ _ both.1) in
    let turned : bytes_eq g.user user.now ≡ true = (bytes_eq-Decides g.user user.now).1 (sym (is ∙ (bytes_eq-Decides name g.user).0 both.0)) in
    owned (bytes_eq g.user user.now) (bytes_eq g.channels.network.text row.header.name.network) (not (is_one_code g.channels.network.text)) turned here
  where
    owned : (u a b : Bool) → u ≡ true → (a || b) ≡ true → ((u && a) || (u && (b || false))) ≡ true
    owned true true b own h = refl
    owned true false true own h = refl
    owned true false false own h = h
    owned false a b own h = absurd (true≢false (sym own))
covering_place user name is row (Usr x) h = absurd (true≢false (sym h))
covering_place user name is row (Wdr x) h = absurd (true≢false (sym h))
covering_place user name is row (Del x) h = absurd (true≢false (sym h))

-- what is found among the lines of two kinds, where the lines of one are handed out and those of the other
-- stand at places, is found among all
pub any_placed : (p q test : LineValues → Bool) (lines written : List Line) (places : List ℕ) (live : List LineValues) (a b : Bool) → map values_of_line lines ≡ live
    → map values_of_line written ≡ filter p live → StandAt live places (filter q live)
    → ((line : Line) → test (values_of_line line) ≡ true → (p (values_of_line line) || q (values_of_line line)) ≡ true)
    → a ≡ list_any (λ line. test (values_of_line line)) written
    → b ≡ list_any (λ place. is_there (λ line. test (values_of_line line)) (slice_get lines place)) places
    → a ≡ false → b ≡ list_any test live
any_placed p q test lines written places live a b are handed stand either first second missed =
    let one : a ≡ list_any test (filter p live) = any_live test written (filter p live) a handed first in
    let two : b ≡ list_any test (filter q live) =
    second ∙ any_at test lines places (filter q live) (subst (λ (all : List LineValues). StandAt all places (filter q live)) (sym are) stand) in
    ap (λ x. x || b) (sym missed) ∙ (λ i. one i || two i) ∙ subst (λ (all : List LineValues). (list_any test (filter p all) || list_any test (filter q all)) ≡ list_any test all) are (any_split p q test lines either)

-- what is found among some of the lines is found among all
pub kept_there : (p test : LineValues → Bool) (live : List LineValues) → list_any test (filter p live) ≡ true → list_any test live ≡ true
kept_there p test [] h = h
kept_there p test (e ∷ live) h =
    elim (p e) as (λ b. list_any test (cond b (e ∷ filter p live) (filter p live)) ≡ true → (test e || list_any test live) ≡ true) [
      | true ↦ elim (test e) as (λ b. (b || list_any test (filter p live)) ≡ true → (b || list_any test live) ≡ true) [ true ↦ λ k. refl | false ↦ λ k. kept_there p test live k ]
      | false ↦ λ k. or_right (test e) (list_any test live) (kept_there p test live k)
    ] h

pub any_written : (p test : LineValues → Bool) (written : List Line) (live : List LineValues) (a : Bool) → map values_of_line written ≡ filter p live
    → a ≡ list_any (λ line. test (values_of_line line)) written → a ≡ true → a ≡ list_any test live
any_written p test written live a handed first found = found ∙ sym (kept_there p test live (sym (any_live test written (filter p live) a handed first) ∙ found))
