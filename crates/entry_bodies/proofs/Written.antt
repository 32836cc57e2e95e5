-- The body of a history's entries.
use Rattle.std.proofs.Common.{◌≡◌, ℕ, zero, suc, ◌+◌, ◌-◌, ◌<◌, ◌≤◌, Bool, true, false, List, [], ◌∷◌, ◌++◌, length, take, drop, Result, Ok, Err, refl, sym, ◌∙◌, ap, subst, arith, append_assoc, append-nil, length-append}
use Rattle.std.specs.Prelude.{nat_le, if◌then◌else◌, OnOk, ⊤}
use Rattle.std.specs.Int.{w32, to_be_bytes}
use Rattle.std.specs.List.{AllByRecursion}
use Rattle.std.proofs.lemmas.Bool.Decides.{nat_tests}
use Rattle.exact_time.specs.declared.error.OutOfMemory.{OutOfMemory}
use Rattle.archive_entry.proofs.ReadBack.{length-spelling}
use Rattle.archive_entry.specs.Spelling.{IsEntry, spelling}
use Rattle.archive_entry.specs.declared.entry.Entry.{Entry}
use Rattle.entry_bodies.specs.Bodies.{piece_of, pieces_of, fitting, body_of, entries_body, IsBody}
use Rattle.entry_bodies.specs.declared.writing.BodyRefusal.{BodyRefusal}
use Rattle.entry_bodies.specs.declared.writing.BodyRefusal.TheVariants.{TooLarge}
use Rattle.entry_bodies.proofs.Pieces.{le_from, le_to, size_length}

-- how many bytes a piece has
pub piece_length : (e : Entry) → length (piece_of e) ≡ 34 + length e.author + length e.body
unfolding piece_of
piece_length e =
    let head = size_length (length (spelling e)) in
    let all = length-append (to_be_bytes w32 (length (spelling e))) (spelling e) in
    let spelled = length-spelling e in
    omega (arith, head, all, spelled)

-- a size, and then the spelling, make a piece
pub put_so : (r : Result ⊤ OutOfMemory) (body sized new size text : List ℕ) (e : Entry) → sized ≡ body ++ size → size ≡ to_be_bytes w32 (length (spelling e)) → text ≡ spelling e
    → OnOk r (new ≡ sized ++ text) → OnOk r (new ≡ body ++ piece_of e)
unfolding piece_of
put_so (Ok done) body sized new size text e first long same put =
    put ∙ (λ i. first i ++ same i) ∙ (λ i. (body ++ long i) ++ spelling e) ∙ append_assoc body (to_be_bytes w32 (length (spelling e))) (spelling e)
put_so (Err fault) body sized new size text e first long same put = tt

not_le : (m n : ℕ) → n < m → nat_le m n ≡ false
not_le m n h = grind (arith, nat_tests)

-- a piece more, which fits
pub one_fits : (body : List ℕ) (e : Entry) (es : List Entry) (left : ℕ) → length (piece_of e) ≤ left
    → body ++ pieces_of (fitting left (e ∷ es)) ≡ (body ++ piece_of e) ++ pieces_of (fitting (left - length (piece_of e)) es)
one_fits body e es left fits =
    let rest = fitting (left - length (piece_of e)) es in
    ap (λ b. body ++ pieces_of (if b then e ∷ rest else [])) (le_to (length (piece_of e)) left fits)
    ∙ sym (append_assoc body (piece_of e) (pieces_of rest))

-- none more, where the next doesn't fit
pub none_fits : (body : List ℕ) (e : Entry) (es : List Entry) (left : ℕ) → left < length (piece_of e) → body ++ pieces_of (fitting left (e ∷ es)) ≡ body
none_fits body e es left long =
    ap (λ b. body ++ pieces_of (if b then e ∷ fitting (left - length (piece_of e)) es else [])) (not_le (length (piece_of e)) left long) ∙ append-nil body

-- the body of entries the first of which fits, and of such whose first doesn't
pub body_fits : (e : Entry) (es : List Entry) (most : ℕ) → length (piece_of e) ≤ most → body_of (e ∷ es) most ≡ Ok (pieces_of (fitting most (e ∷ es)))
body_fits e es most fits =
    ap (λ b. if b then Ok (pieces_of (fitting most (e ∷ es))) else Err (TooLarge (length (piece_of e)))) (le_to (length (piece_of e)) most fits)

pub body_exceeds : (e : Entry) (es : List Entry) (most : ℕ) → most < length (piece_of e) → body_of (e ∷ es) most ≡ Err (TooLarge (length (piece_of e)))
body_exceeds e es most long =
    ap (λ b. if b then Ok (pieces_of (fitting most (e ∷ es))) else Err (TooLarge (length (piece_of e)))) (not_le (length (piece_of e)) most long)

-- ---- what is written reads back

all_taken : (n : ℕ) (es : List Entry) → AllByRecursion IsEntry es → AllByRecursion IsEntry (take n es)
all_taken zero es all = tt
all_taken (suc n) [] all = tt
all_taken (suc n) (e ∷ es) all = (all.0, all_taken n es all.1)

all_dropped : (n : ℕ) (es : List Entry) → AllByRecursion IsEntry es → AllByRecursion IsEntry (drop n es)
all_dropped zero es all = all
all_dropped (suc n) [] all = tt
all_dropped (suc n) (e ∷ es) all = all_dropped n es all.1

-- those that fit are the first ones
first_ones : (most : ℕ) (es : List Entry) → (n : ℕ) × (fitting most es ≡ take n es)
first_ones most [] = (0, refl)
first_ones most (e ∷ es) =
    let rest = first_ones (most - length (piece_of e)) es in
    elim (nat_le (length (piece_of e)) most) as (λ b. (n : ℕ) × ((if b then e ∷ fitting (most - length (piece_of e)) es else []) ≡ take n (e ∷ es))) [
      | true ↦ (suc rest.0, (λ i. e ∷ rest.1 i))
      | false ↦ (0, refl)
    ]

-- and have at most so many bytes
within_most : (most : ℕ) (es : List Entry) → length (pieces_of (fitting most es)) ≤ most
within_most most [] = omega arith
within_most most (e ∷ es) = by (nat_le (length (piece_of e)) most) refl (within_most (most - length (piece_of e)) es)
  where
    by : (b : Bool) → nat_le (length (piece_of e)) most ≡ b → length (pieces_of (fitting (most - length (piece_of e)) es)) ≤ most - length (piece_of e)
        → length (pieces_of (if b then e ∷ fitting (most - length (piece_of e)) es else [])) ≤ most
    by true is rest =
        let all = length-append (piece_of e) (pieces_of (fitting (most - length (piece_of e)) es)) in
        let fits = le_from (length (piece_of e)) most is in
        omega (arith, rest, all, fits)
    by false is rest = omega arith

abbrev Sent : List Entry → ℕ → List ℕ → Type 0
Sent rest most bytes = (n : ℕ) × (1 ≤ n) × IsBody bytes (take n rest) × (length bytes ≤ most)

ok_is : (x y : List ℕ) → (let r : Result (List ℕ) BodyRefusal = Ok x in r) ≡ Ok y → x ≡ y
ok_is x y e = cc

sent_from : (rest : List Entry) (most : ℕ) (bytes : List ℕ) → AllByRecursion IsEntry rest → body_of rest most ≡ Ok bytes → Sent rest most bytes
sent_from [] most bytes all is = absurd (cc)
sent_from (e ∷ es) most bytes all is = by (nat_le (length (piece_of e)) most) refl is
  where
    by : (b : Bool) → nat_le (length (piece_of e)) most ≡ b
        → (if b then Ok (pieces_of (if b then e ∷ fitting (most - length (piece_of e)) es else [])) else Err (TooLarge (length (piece_of e)))) ≡ Ok bytes
        → Sent (e ∷ es) most bytes
    by true fits same =
        let rest = first_ones (most - length (piece_of e)) es in
        let few = within_most most (e ∷ es) in
        let whole : fitting most (e ∷ es) ≡ e ∷ fitting (most - length (piece_of e)) es = ap (λ b. if b then e ∷ fitting (most - length (piece_of e)) es else []) fits in
        let bytes_are : bytes ≡ pieces_of (take (suc rest.0) (e ∷ es)) = sym (ok_is _ bytes same) ∙ ap (λ l. pieces_of (e ∷ l)) rest.1 in
        let short : length bytes ≤ most = subst (λ (b : List ℕ). length b ≤ most) (ap pieces_of whole ∙ ok_is _ bytes same) few in
        (suc rest.0, omega arith, record { bytes_are = bytes_are; entries = all_taken (suc rest.0) (e ∷ es) all }, short)
    by false fits same = absurd (cc)

pub reads_back : (h : List Entry) (from most : ℕ) (bytes : List ℕ) → AllByRecursion IsEntry h → entries_body h from most ≡ Ok bytes → Sent (drop (from - 1) h) most bytes
reads_back h from most bytes all is = sent_from (drop (from - 1) h) most bytes (all_dropped (from - 1) h all) is
