-- The numbers of entries, one after the other.
use Rattle.std.proofs.Common.{◌≡◌, ℕ, suc, ◌+◌, ◌<◌, List, ◌∷◌, length, get_or, drop, Some, sym, ◌∙◌, ap, arith, add-one, drop-cons, true, false}
use Rattle.std.specs.Prelude.{◌==◌}
use Rattle.std.proofs.lemmas.Bool.{cond-true, cond-false}
use Rattle.std.proofs.lemmas.Bool.Decides.{nat_tests}
use Rattle.archive_entry.specs.declared.entry.Entry.{Entry}
use Rattle.follow_replica.specs.Numbers.{gap_behind}

opened : (es : List Entry) (i : ℕ) (e : Entry) → i < length es → e ≡ get_or es i e → drop i es ≡ e ∷ drop (i + 1) es
opened es i e lt is = rw (add-one, drop-cons es i e) (ap (λ (x : Entry). x ∷ drop (suc i) es) (sym is))

pub gap_here : (es : List Entry) (i last : ℕ) (e : Entry) → i < length es → e ≡ get_or es i e → (e.number ≡ last + 1 → ⊥) → gap_behind last (drop i es) ≡ Some e.number
gap_here es i last e lt is other =
    ap (gap_behind last) (opened es i e lt is) ∙ cond-false _ _ _ (let test : (e.number == last + 1) ≡ false = grind (arith, nat_tests, other) in test)

pub gap_later : (es : List Entry) (i last : ℕ) (e : Entry) → i < length es → e ≡ get_or es i e → e.number ≡ last + 1 → gap_behind last (drop i es) ≡ gap_behind e.number (drop (i + 1) es)
gap_later es i last e lt is same =
    ap (gap_behind last) (opened es i e lt is) ∙ cond-true _ _ _ (let test : (e.number == last + 1) ≡ true = grind (arith, nat_tests, same) in test)
