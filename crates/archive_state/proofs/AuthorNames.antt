-- Who may post has a user's name.
use Rattle.std.proofs.Common.{◌≡◌, ℕ, Bool, true, false, cond, List, [], ◌∷◌, ◌++◌, filter, None, Some, Result, Ok, Err, refl, subst}
use Rattle.std.specs.Prelude.{MatchResult, find}
use Rattle.std.specs.List.{AllByRecursion, flat_map}
use Rattle.std.proofs.lemmas.Slice.Eq.{bytes_eq-Decides}
use Rattle.list_laws.proofs.Keys.{all_in_order}
use Rattle.epochs.specs.Fields.{Value, code, words, time, end, number, optional, patterns, roles, entry_number, is_user_name}
use Rattle.epochs.specs.Kinds.{Text}
use Rattle.epochs.specs.Lines.{LineValues, line_values}
use Rattle.epochs.specs.Revisions.{AreLines, IsRevision, IsRevisionFault}
use Rattle.epochs.specs.Spellable.{IsSpellable}
use Rattle.epochs.specs.declared.fault.RevisionFault.{RevisionFault}
use Rattle.epochs.specs.declared.kinds.Head.{Head}
use Rattle.epochs.specs.declared.kinds.Head.TheVariants.{Says, Deletes}
use Rattle.epochs.specs.declared.kinds.LineKind.TheVariants.{Net, Sta, Cha, Evt, Rst, Grt, Usr, Wdr}
use Rattle.epochs.proofs.SpelledValues.{line_is_spellable}
use Rattle.epoch_rules.specs.Catalog.{is_user}
use Rattle.epoch_rules.specs.KeyOrder.{line_cmp, key_parts_of}
use Rattle.epoch_rules.specs.LiveLines.{is_said, is_replaced, last_lines}
use Rattle.archive_entry.specs.Bodies.{revision_of, revision_of-only}
use Rattle.archive_entry.specs.declared.entry.Entry.{Entry}
use Rattle.archive_entry.specs.declared.entry.Kind.{Kind}
use Rattle.archive_entry.specs.declared.entry.Kind.TheVariants.{Batch, Revise}
use Rattle.archive_state.specs.History.{lines_in, lines_by, lines_of, live_of, roles_in, allows, may_post}

-- ---- every live line is one that can be spelled

abbrev AllSpellable : List LineValues → Type 0
AllSpellable lines = AllByRecursion IsSpellable lines

spelled_lines : (texts : List Text) (lines : List LineValues) → AreLines texts lines → AllSpellable lines
spelled_lines [] [] are = tt
spelled_lines (text ∷ texts) (e ∷ lines) are = (line_is_spellable text e are.0, spelled_lines texts lines are.1)
spelled_lines [] (e ∷ lines) are = absurd are
spelled_lines (text ∷ texts) [] are = absurd are

revision_lines : (body : List ℕ) (r : Result (List LineValues) RevisionFault) → MatchResult r (IsRevision body) (IsRevisionFault body) → AllSpellable (lines_in r)
revision_lines body (Ok lines) is = spelled_lines _ lines is.each
revision_lines body (Err fault) is = tt

entry_lines : (kind : Kind) (body : List ℕ) → AllSpellable (lines_by kind body)
entry_lines Batch body = tt
entry_lines Revise body = revision_lines body (revision_of body) (revision_of-only body).right

all_joined : (xs ys : List LineValues) → AllSpellable xs → AllSpellable ys → AllSpellable (xs ++ ys)
all_joined [] ys first rest = rest
all_joined (x ∷ xs) ys first rest = (first.0, all_joined xs ys first.1 rest)

history_lines : (h : List Entry) → AllSpellable (flat_map lines_of h)
history_lines [] = tt
history_lines (e ∷ h) = all_joined (lines_of e) (flat_map lines_of h) (entry_lines e.kind e.body) (history_lines h)

all_last : (lines : List LineValues) → AllSpellable lines → AllSpellable (last_lines lines)
all_last [] all = tt
all_last (e ∷ later) all =
    elim (is_replaced later e) as (λ b. AllSpellable (cond b (last_lines later) (e ∷ last_lines later))) [
      | true ↦ all_last later all.1
      | false ↦ (all.0, all_last later all.1)
    ]

all_passing : (p : LineValues → Bool) (lines : List LineValues) → AllSpellable lines → AllSpellable (filter p lines)
all_passing p [] all = tt
all_passing p (e ∷ lines) all =
    elim (p e) as (λ b. AllSpellable (cond b (e ∷ filter p lines) (filter p lines))) [
      | true ↦ (all.0, all_passing p lines all.1)
      | false ↦ all_passing p lines all.1
    ]

live_are_spellable : (h : List Entry) → AllSpellable (live_of h)
live_are_spellable h =
    let lines = flat_map lines_of h in
    all_in_order line_cmp IsSpellable [] (filter is_said (last_lines lines)) tt (all_passing is_said (last_lines lines) (all_last lines (history_lines h)))

-- ---- a user's line names a user

user_named : (name : Text) (head : Head) (values : List Value) → IsSpellable (line_values head values) → is_user name (line_values head values) ≡ true → is_user_name name ≡ true
unfolding IsSpellable
user_named name (Says Usr) (words t ∷ values) can is =
    let same : (key_parts_of (line_values (Says Usr) (words t ∷ values))).first ≡ name = (bytes_eq-Decides _ name).0 is in
    subst (λ (n : Text). is_user_name n ≡ true) same can.values_are.0
user_named name (Says Usr) [] can is = absurd can.values_are
user_named name (Says Usr) (code c ∷ values) can is = absurd can.values_are.0
user_named name (Says Usr) (patterns t list ∷ values) can is = absurd can.values_are.0
user_named name (Says Usr) (time t ∷ values) can is = absurd can.values_are.0
user_named name (Says Usr) (end t ∷ values) can is = absurd can.values_are.0
user_named name (Says Usr) (number n ∷ values) can is = absurd can.values_are.0
user_named name (Says Usr) (optional n ∷ values) can is = absurd can.values_are.0
user_named name (Says Usr) (roles r ∷ values) can is = absurd can.values_are.0
user_named name (Says Usr) (entry_number n ∷ values) can is = absurd can.values_are.0
user_named name (Says Net) values can is = absurd (let bad : false ≡ true = is in cc)
user_named name (Says Sta) values can is = absurd (let bad : false ≡ true = is in cc)
user_named name (Says Cha) values can is = absurd (let bad : false ≡ true = is in cc)
user_named name (Says Evt) values can is = absurd (let bad : false ≡ true = is in cc)
user_named name (Says Rst) values can is = absurd (let bad : false ≡ true = is in cc)
user_named name (Says Grt) values can is = absurd (let bad : false ≡ true = is in cc)
user_named name (Says Wdr) values can is = absurd (let bad : false ≡ true = is in cc)
user_named name (Deletes kind) values can is = absurd (let bad : false ≡ true = is in cc)

no_role : (kind : Kind) → allows kind None ≡ true → ⊥
no_role Batch h = cc
no_role Revise h = cc

-- a user that is found has a user's name
found_named : (live : List LineValues) (name : Text) (kind : Kind) → AllSpellable live → allows kind (roles_in (find (is_user name) live)) ≡ true → is_user_name name ≡ true
found_named [] name kind all may = absurd (no_role kind may)
found_named (e ∷ live) name kind all may =
    elim (is_user name e) as (λ b. is_user name e ≡ b → allows kind (roles_in (cond b (Some e) (find (is_user name) live))) ≡ true → is_user_name name ≡ true) [
      | true ↦ λ is may. user_named name e.head e.values all.0 is
      | false ↦ λ is may. found_named live name kind all.1 may
    ] refl may

pub author_named : (h : List Entry) (author : Text) (kind : Kind) → may_post (live_of h) author kind ≡ true → is_user_name author ≡ true
author_named h author kind may = found_named (live_of h) author kind (live_are_spellable h) may
