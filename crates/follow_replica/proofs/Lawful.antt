-- A replica of a lawful history stays a first part of it.
use Rattle.std.proofs.Common.{◌≡◌, inl, inr, ℕ, zero, suc, ◌+◌, true, List, [], ◌∷◌, ◌++◌, length, drop, Result, Ok, Err, refl, sym, ◌∙◌, ap, subst, arith, append_assoc, append-nil, length-append}
use Rattle.std.specs.Prelude.{◌==◌}
use Rattle.std.specs.List.{AllByRecursion}
use Rattle.std.proofs.lemmas.Bool.{and_parts, true≢false}
use Rattle.std.proofs.lemmas.Bool.Decides.{nat_tests}
use Rattle.std.proofs.Math.Seq.{drop-nil}
use mathlib.Core.List.{IsPrefix}
use Rattle.disk_model.specs.View.{DiskView, is_told}
use Rattle.archive_entry.specs.Spelling.{IsEntry}
use Rattle.archive_entry.specs.declared.entry.Entry.{Entry}
use Rattle.archive_state.specs.Lawful.{is_next, goes_on, is_lawful}
use Rattle.archive_state.proofs.Accepts.{next_number}
use Rattle.archive_log.specs.Archive.{Archived}
use Rattle.entry_bodies.specs.Bodies.{IsBody}
use Rattle.entry_bodies.proofs.Bodies.{one_body}
use Rattle.follow_law.specs.Following.{numbered_from}
use Rattle.follow_law.proofs.Follows.{IsPart}
use Rattle.follow_law.proofs.Follows as law
use Rattle.follow_replica.specs.Laws.{StaysFirst, TakesOfALawfulHistory}
use Rattle.follow_replica.specs.Numbers.{number_of, coming_from}
use Rattle.follow_replica.specs.Takes.{Adds, AddsSo, AddsRow, TakesRow}
use Rattle.follow_replica.specs.declared.fault.TakeFault.{TakeFault}
use Rattle.follow_replica.specs.declared.fault.TakeFault.TheVariants.{Form, Gap, Unlawful, DiskFault, OutOfMemory}

-- the numbers of a lawful history are its places
numbered_on : (past es : List Entry) → goes_on past es ≡ true → numbered_from number_of (length past + 1) es ≡ true
numbered_on past [] is = refl
numbered_on past (e ∷ es) is =
    let parts = and_parts (is_next past e) (goes_on (past ++ e ∷ []) es) is in
    let here : (e.number == length past + 1) ≡ true = (let n = next_number past e parts.0 in grind (arith, nat_tests)) in
    let longer : length (past ++ e ∷ []) + 1 ≡ length past + 1 + 1 = omega (arith, length-append past (e ∷ [])) in
    rw (here, subst (λ (n : ℕ). numbered_from number_of n es ≡ true) longer (numbered_on (past ++ e ∷ []) es parts.1)) refl

numbered : (h : List Entry) → is_lawful h ≡ true → numbered_from number_of 1 h ≡ true
numbered h is = subst (λ (n : ℕ). numbered_from number_of n h ≡ true) (let e : length {A = Entry} [] + 1 ≡ 1 = omega arith in e) (numbered_on [] h is)

-- each entry of one is the next one of those before it
next_at : (past xs ys : List Entry) (e : Entry) → goes_on past (xs ++ e ∷ ys) ≡ true → is_next (past ++ xs) e ≡ true
next_at past [] ys e is = ap (λ (l : List Entry). is_next l e) (append-nil past) ∙ (and_parts (is_next past e) (goes_on (past ++ e ∷ []) ys) is).0
next_at past (x ∷ xs) ys e is =
    ap (λ (l : List Entry). is_next l e) (sym (append_assoc past (x ∷ []) xs)) ∙ next_at (past ++ x ∷ []) xs ys e (and_parts (is_next past x) (goes_on (past ++ x ∷ []) (xs ++ e ∷ ys)) is).1

all_drop : (n : ℕ) (h : List Entry) → AllByRecursion IsEntry h → AllByRecursion IsEntry (drop n h)
all_drop n [] all = subst (AllByRecursion IsEntry) (sym (drop-nil n)) tt
all_drop zero (x ∷ h) all = all
all_drop (suc n) (x ∷ h) all = all_drop n h all.1

all_front : (es rest : List Entry) → AllByRecursion IsEntry (es ++ rest) → AllByRecursion IsEntry es
all_front [] rest all = tt
all_front (e ∷ es) rest all = (all.0, all_front es rest all.1)

module _ {D : Type 0} (view : D → DiskView) (h : List Entry) (old new : Archived D) (told : is_told (view old.disk) ≡ true) where
  -- what comes next of the body goes on in the history
  begins : (es rest t : List Entry) → h ≡ old.history ++ (es ++ t) → Adds view old new es rest → IsPrefix new.history h
  begins es rest t is p = (
    rest ++ t,
    ap (λ (l : List Entry). l ++ (rest ++ t)) (p.history told) ∙ append_assoc old.history p.added (rest ++ t)
        ∙ ap (λ (l : List Entry). old.history ++ l) (sym (append_assoc p.added rest t) ∙ ap (λ (l : List Entry). l ++ t) (sym p.split)) ∙ sym is,
  )

  lawful_there : (es rest t : List Entry) (e : Entry) → is_lawful h ≡ true → h ≡ old.history ++ (es ++ t) → Adds view old new es (e ∷ rest) → is_next new.history e ≡ true
  lawful_there es rest t e lawful is p =
      let all : h ≡ (old.history ++ p.added) ++ (e ∷ (rest ++ t)) =
      is ∙ ap (λ (l : List Entry). old.history ++ (l ++ t)) p.split ∙ ap (λ (l : List Entry). old.history ++ l) (append_assoc p.added (e ∷ rest) t) ∙ sym (append_assoc old.history p.added (e ∷ (rest ++ t))) in
      ap (λ (l : List Entry). is_next l e) (p.history told) ∙ next_at [] (old.history ++ p.added) (rest ++ t) e (subst (λ (l : List Entry). goes_on [] l ≡ true) all lawful)

  row_stays : (es t : List Entry) (result : Result ℕ TakeFault) → is_lawful h ≡ true → h ≡ old.history ++ (es ++ t) → AddsSo view es old new result → StaysFirst h new result
  row_stays es t (Ok n) lawful is (p, count, stopped) = record { begins = begins es [] t is p; no_form = λ at e. cc; no_unlawful = λ n e. cc }
  row_stays es t (Err (Form at)) lawful is row = absurd row
  row_stays es t (Err (Gap n)) lawful is row = absurd row
  row_stays es t (Err (Unlawful n)) lawful is (e, rest, p, refused) = absurd (true≢false (sym (lawful_there es rest t e lawful is p) ∙ refused.unlawful told))
  row_stays es t (Err DiskFault) lawful is (e, rest, p, stopped) = record { begins = begins es (e ∷ rest) t is p; no_form = λ at e. cc; no_unlawful = λ n e. cc }
  row_stays es t (Err OutOfMemory) lawful is (rest, p, stopped) = record { begins = begins es rest t is p; no_form = λ at e. cc; no_unlawful = λ n e. cc }

pub stays : {D : Type 0} (view : D → DiskView) → TakesOfALawfulHistory view
stays {D = D} view h body old new result history told counted first part row = by result row
  where
    whole : IsBody body part.es
    whole = record { bytes_are = part.bytes; entries = all_front part.es part.rest (subst (AllByRecursion IsEntry) part.part (all_drop part.before h history.entries)) }

    on : (es : List Entry) → IsBody body es → (t : List Entry) × (h ≡ old.history ++ (coming_from (old.count + 1) es ++ t))
    on es is =
        let same : part.es ≡ es = (one_body body).one part.es es whole is in
        let found = law.goes_on number_of old.history h es (numbered h history.lawful) first (record { before = part.before; rest = part.rest; part = part.part ∙ ap (λ (l : List Entry). l ++ part.rest) same }) in
        (found.0, found.1 ∙ ap (λ (n : ℕ). old.history ++ (coming_from (n + 1) es ++ found.0)) (sym counted))

    same_row : (r : Result ℕ TakeFault) → new ≡ old → ((at : ℕ) → r ≡ Err (Form at) → ⊥) → ((n : ℕ) → r ≡ Err (Unlawful n) → ⊥) → StaysFirst h new r
    same_row r is form unlawful = record { begins = subst (λ (a : Archived D). IsPrefix a.history h) (sym is) first; no_form = form; no_unlawful = unlawful }

    by_row : (r : Result ℕ TakeFault) (es : List Entry) → IsBody body es → AddsRow view es old new r → StaysFirst h new r
    by_row r es is row = let found = on es is in row_stays view h old new told (coming_from (old.count + 1) es) found.0 r history.lawful found.1 row

    by : (r : Result ℕ TakeFault) → TakesRow view body old new r → StaysFirst h new r
    by (Ok n) (es, is, gap, row) = by_row (Ok n) es is row
    by (Err (Form at)) (bad, is) = absurd ((one_body body).apart part.es at whole bad)
    by (Err (Gap n)) (es, body-is, gap, is) = same_row (Err (Gap n)) is (λ at e. cc) (λ n e. cc)
    by (Err (Unlawful n)) (es, is, gap, row) = by_row (Err (Unlawful n)) es is row
    by (Err DiskFault) (es, is, gap, row) = by_row (Err DiskFault) es is row
    by (Err OutOfMemory) (inl is) = same_row (Err OutOfMemory) is (λ at e. cc) (λ n e. cc)
    by (Err OutOfMemory) (inr (es, is, gap, row)) = by_row (Err OutOfMemory) es is row
