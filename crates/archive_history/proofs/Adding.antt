-- The exchange that adds an entry keeps the rule.
use Rattle.std.proofs.Common.{◌≡◌, ℕ, ◌+◌, ◌<◌, ◌^◌, ◌==◌, Bool, true, false, List, [], ◌∷◌, ◌++◌, length, refl, ap, sym, subst, arith, inl, length-append, None}
use Rattle.std.proofs.lemmas.List.{append-nil}
use Rattle.std.proofs.lemmas.Bool.Decides.{nat_tests}
use mathlib.Core.List.{IsPrefix}
use prog.Atomic.{either}
use Rattle.logbook.specs.Pages.{Cell, cell, keeps, no_nib, step, Moves, Goes}
use Rattle.archive_entry.specs.declared.entry.Entry.{Entry}
use Rattle.archive_state.specs.Lawful.{IsLawful, is_next}
use Rattle.archive_state.proofs.Accepts.{next_number}
use Rattle.archive_state.proofs.Growth.{lawful_push}
use Rattle.archive_state.proofs.NextEntry.{next_is_entry}
use Rattle.archive_history.specs.Rules.{IsKept, Adds}
use Rattle.archive_history.proofs.Beginnings.{whole_beginning}

-- a lawful history has few entries
pub few_entries : (h : List Entry) (e : Entry) (n : ℕ) → n ≡ length h → IsLawful h → is_next h e ≡ true → n + 1 < 2 ^ 64
few_entries h e n is lawful next = omega (arith, is, next_number h e next, (next_is_entry h e lawful next).number)

abbrev pub shown : List Entry → List Entry
shown log = []

abbrev pub moved : List Entry → List Entry → ℕ → Type 0
moved xs ys n = Unit {0}

pub adds_goes : (log v : List Entry) (e : Entry) (old : ℕ) → length v ≡ old → is_next v e ≡ true → IsLawful log → IsPrefix v log
    → (b : Bool) → (length log == old) ≡ b
    → Goes IsKept shown moved 0 (v, (no_nib, None)) (λ n. either (n == old) (old + 1) n) (Adds (step 0 old (old + 1) e) (v, (no_nib, None))) ((length log, true) ∷ (0, true) ∷ []) log
adds_goes log v e old len next lawful begins true is =
    let here : length log ≡ old = grind (arith, nat_tests) in
    let same : v ≡ log = whole_beginning v log begins (omega arith) in
    let lawful' : IsLawful (log ++ e ∷ []) = lawful_push log e lawful (subst (λ (l : List Entry). is_next l e ≡ true) same next) in
    let n : either (length log == old) (old + 1) (length log) ≡ length (log ++ e ∷ []) = rw is (omega (arith, length-append log (e ∷ []))) in (
      keeps,
      e ∷ [],
      None,
      tt,
      record { words = ap (λ (k : ℕ). (k, true) ∷ (0, true) ∷ []) n; lawful = lawful' },
      inl (refl, refl),
      rw is (ap (λ l. l ++ e ∷ []) (sym same), lawful'),
    )
adds_goes log v e old len next lawful begins false is =
    let all : log ++ [] ≡ log = append-nil log in
    let lawful' : IsLawful (log ++ []) = subst IsLawful (sym all) lawful in
    let n : either (length log == old) (old + 1) (length log) ≡ length (log ++ []) = rw is (ap length (sym all)) in (
      keeps,
      [],
      None,
      tt,
      record { words = ap (λ (k : ℕ). (k, true) ∷ (0, true) ∷ []) n; lawful = lawful' },
      inl (refl, refl),
      rw is (ap length all, lawful'),
    )

-- whatever the book is, the exchange adds the entry to all that was seen, or finds that there are more entries
pub adds_moves : (v : List Entry) (e : Entry) (old : ℕ) → length v ≡ old → is_next v e ≡ true
    → Moves IsKept shown moved 0 (v, (no_nib, None)) (λ n. either (n == old) (old + 1) n) (Adds (step 0 old (old + 1) e) (v, (no_nib, None)))
adds_moves v e old len next cells log kept begins away =
    let P : List Cell → Type 0 = λ c. (0 < length c) × ((cell c 0).1 ≡ true) × Goes IsKept shown moved 0 (v, (no_nib, None)) (λ n. either (n == old) (old + 1) n) (Adds (step 0 old (old + 1) e) (v, (no_nib, None))) c log in
    subst P (sym kept.words) (omega arith, refl, adds_goes log v e old len next kept.lawful begins (length log == old) refl)
