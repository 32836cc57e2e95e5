-- A body has one reading.
use Rattle.std.proofs.Common.{◌≡◌, ℕ, ◌-◌, ◌≤◌, List, [], ◌∷◌, ◌++◌, length, Ok, Err, refl, sym, ◌∙◌, ap, subst, arith, append_assoc, append-nil, length-append, inl, inr, ◌⊎◌}
use Rattle.std.specs.Prelude.{IsErrOf}
use Rattle.std.specs.List.{AllByRecursion}
use Rattle.std.proofs.lemmas.Grind.{flat_map-append}
use Rattle.list_laws.specs.Only.{IsOnly}
use Rattle.archive_entry.specs.Format.{IsEntryFault}
use Rattle.archive_entry.specs.Spelling.{IsEntry, Spells}
use Rattle.archive_entry.specs.declared.entry.Entry.{Entry}
use Rattle.archive_entry.specs.declared.fault.EntryFault.TheVariants as fault
use Rattle.entry_bodies.specs.Bodies.{piece_of, pieces_of, NoPiece, IsBody, IsBadBody}
use Rattle.entry_bodies.specs.Laws.{OneBody}
use Rattle.entry_bodies.proofs.Pieces.{same_front, some_piece}

all_push : (es : List Entry) (e : Entry) → AllByRecursion IsEntry es → IsEntry e → AllByRecursion IsEntry (es ++ e ∷ [])
all_push [] e all is = (is, tt)
all_push (x ∷ es) e all is = (all.0, all_push es e all.1 is)

pieces_push : (es : List Entry) (e : Entry) → pieces_of (es ++ e ∷ []) ≡ pieces_of es ++ piece_of e
pieces_push es e = flat_map-append piece_of es (e ∷ []) ∙ ap (λ (l : List ℕ). pieces_of es ++ l) (append-nil (piece_of e))

-- what was read so far, and what is left
pub record ReadSoFar (body : List ℕ) (es : List Entry) (left : List ℕ) : Type 0 where
  pub split : body ≡ pieces_of es ++ left
  pub entries : AllByRecursion IsEntry es

pub none_read : (body : List ℕ) → ReadSoFar body [] body
none_read body = record { split = refl; entries = tt }

pub read_more : (body : List ℕ) (es more : List Entry) (e : Entry) (left rest : List ℕ) → ReadSoFar body es left → left ≡ piece_of e ++ rest → IsEntry e → more ≡ es ++ e ∷ [] → ReadSoFar body more rest
read_more body es more e left rest so at is more-is = record {
  split = so.split ∙ ap (λ (l : List ℕ). pieces_of es ++ l) at ∙ sym (append_assoc (pieces_of es) (piece_of e) rest)
      ∙ ap (λ (l : List ℕ). l ++ rest) (sym (pieces_push es e)) ∙ ap (λ (l : List Entry). pieces_of l ++ rest) (sym more-is);
  entries = subst (AllByRecursion IsEntry) (sym more-is) (all_push es e so.entries is);
}

pub read_all : (body : List ℕ) (es : List Entry) (left : List ℕ) → ReadSoFar body es left → left ≡ [] → IsBody body es
read_all body es left so none = record { bytes_are = so.split ∙ ap (λ (l : List ℕ). pieces_of es ++ l) none ∙ append-nil (pieces_of es); entries = so.entries }

pub read_bad : (body : List ℕ) (es : List Entry) (left : List ℕ) (at : ℕ) → ReadSoFar body es left → 1 ≤ length left → NoPiece left → at ≡ length body - length left → IsBadBody body at
read_bad body es left at so some none at-is = record {
  before = es;
  rest = left;
  entries = so.entries;
  split = so.split;
  at_is = (let all = ap length so.split ∙ length-append (pieces_of es) left in omega (arith, all, at-is));
  some = some;
  none = none;
}

-- what refuses a payload says that it spells no entry
pub spells_none : (p : List ℕ) (at : ℕ) → IsErrOf {T = Entry} (Err (fault.Bad at)) fault.OutOfMemory ⊎ IsOnly (Spells p) (IsEntryFault p) (Err (fault.Bad at)) → (e : Entry) → ¬ (Spells p e)
spells_none p at (inl memory) e spells = cc
spells_none p at (inr only) e spells = let same = only.only (Ok e) spells in cc

-- ---- one reading

one_list : (es ds : List Entry) → AllByRecursion IsEntry es → AllByRecursion IsEntry ds → pieces_of es ≡ pieces_of ds → es ≡ ds
one_list [] [] all also at = refl
one_list [] (d ∷ ds) all also at = absurd (let some = some_piece d (pieces_of ds) in omega (arith, some, ap length at))
one_list (e ∷ es) [] all also at = absurd (let some = some_piece e (pieces_of es) in omega (arith, some, ap length at))
one_list (e ∷ es) (d ∷ ds) all also at =
    let two = same_front e d (pieces_of es) (pieces_of ds) all.0 also.0 at in
    λ i. two.0 i ∷ one_list es ds all.1 also.1 two.1 i

one_place : (es ds : List Entry) (x y : List ℕ) → AllByRecursion IsEntry es → AllByRecursion IsEntry ds → NoPiece x → NoPiece y → pieces_of es ++ x ≡ pieces_of ds ++ y → length (pieces_of es) ≡ length (pieces_of ds)
one_place [] [] x y all also none not at = refl
one_place [] (d ∷ ds) x y all also none not at = absurd (none d (pieces_of ds ++ y) also.0 (at ∙ append_assoc (piece_of d) (pieces_of ds) y))
one_place (e ∷ es) [] x y all also none not at = absurd (not e (pieces_of es ++ x) all.0 (sym at ∙ append_assoc (piece_of e) (pieces_of es) x))
one_place (e ∷ es) (d ∷ ds) x y all also none not at =
    let two = same_front e d (pieces_of es ++ x) (pieces_of ds ++ y) all.0 also.0 (sym (append_assoc (piece_of e) (pieces_of es) x) ∙ at ∙ append_assoc (piece_of d) (pieces_of ds) y) in
    let rest = one_place es ds x y all.1 also.1 none not two.1 in
    omega (arith, rest, length-append (piece_of e) (pieces_of es), length-append (piece_of d) (pieces_of ds), ap (λ (l : Entry). length (piece_of l)) two.0)

list_or_place : (es ds : List Entry) (x : List ℕ) → AllByRecursion IsEntry es → AllByRecursion IsEntry ds → NoPiece x → 1 ≤ length x → pieces_of es ≡ pieces_of ds ++ x → ⊥
list_or_place [] ds x all also none some at = omega (arith, some, ap length at, length-append (pieces_of ds) x)
list_or_place (e ∷ es) [] x all also none some at = none e (pieces_of es) all.0 (sym at)
list_or_place (e ∷ es) (d ∷ ds) x all also none some at =
    let two = same_front e d (pieces_of es) (pieces_of ds ++ x) all.0 also.0 (at ∙ append_assoc (piece_of d) (pieces_of ds) x) in
    list_or_place es ds x all.1 also.1 none some two.1

pub one_body : OneBody
one_body body = record {
  one = λ es ds is also. one_list es ds is.entries also.entries (sym is.bytes_are ∙ also.bytes_are);
  place = λ at to is also. is.at_is ∙ one_place is.before also.before is.rest also.rest is.entries also.entries is.none also.none (sym is.split ∙ also.split) ∙ sym also.at_is;
  apart = λ es at is bad. list_or_place es bad.before bad.rest is.entries bad.entries bad.none bad.some (sym is.bytes_are ∙ bad.split);
}
