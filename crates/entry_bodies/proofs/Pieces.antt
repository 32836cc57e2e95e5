-- What stands in the front of a body.
use Rattle.std.proofs.Common.{◌≡◌, ℕ, ◌<◌, ◌≤◌, ◌^◌, Bool, true, false, List, [], ◌++◌, length, take, drop, Option, None, Some, refl, sym, ◌∙◌, ap, arith, append_assoc, append-nil, length-append, length-take}
use Rattle.std.specs.Prelude.{nat_le}
use Rattle.std.specs.Int.{w32, to_be_bytes, from_be_bytes}
use Rattle.std.proofs.lemmas.Bool.Decides.{nat_tests}
use Rattle.std.proofs.lemmas.Bool.{cond-true}
use Rattle.std.proofs.lemmas.List.{take_at, drop_at, take-append-drop}
use Rattle.mseed_header.specs.Octets.{AreOctets}
use Rattle.archive_entry.proofs.Numbers.{wide32, octets_before}
use Rattle.archive_entry.proofs.OneEntry.{one_spelling}
use Rattle.archive_entry.proofs.ReadBack.{spelling_fits}
use Rattle.archive_entry.specs.Spelling.{IsEntry, Spells, spelling}
use Rattle.archive_entry.specs.declared.entry.Entry.{Entry}
use Rattle.entry_bodies.specs.Bodies.{sized, piece_of, size_in, cut_in, cut_by, payload_in, NoPiece}

some_is : {X : Type 0} (x y : X) → (let s : Option X = Some x in s) ≡ Some y → x ≡ y
some_is x y e = cc

pub le_from : (m n : ℕ) → nat_le m n ≡ true → m ≤ n
le_from m n h = grind (arith, nat_tests)

pub le_to : (m n : ℕ) → m ≤ n → nat_le m n ≡ true
le_to m n h = grind (arith, nat_tests)

pub size_length : (n : ℕ) → length (to_be_bytes w32 n) ≡ 4
size_length n = wide32.len n

-- a payload behind its size reads as that payload
pub payload_again : (p rest : List ℕ) → length p < 2 ^ 32 → payload_in (sized p ++ rest) ≡ Some (p, rest)
payload_again p rest lt =
    let head = to_be_bytes w32 (length p) in
    let four : length head ≡ 4 = size_length (length p) in
    let all : sized p ++ rest ≡ head ++ (p ++ rest) = append_assoc head p rest in
    let long : nat_le 4 (length (head ++ (p ++ rest))) ≡ true = le_to _ _ (omega (arith, four, length-append head (p ++ rest))) in
    let fits : nat_le (length p) (length (p ++ rest)) ≡ true = le_to _ _ (omega (arith, length-append p rest)) in
    let number : from_be_bytes w32 (take 4 (head ++ (p ++ rest))) ≡ length p = ap (from_be_bytes w32) (take_at head (p ++ rest) 4 four) ∙ wide32.again (length p) lt in
    let behind : drop 4 (head ++ (p ++ rest)) ≡ p ++ rest = drop_at head (p ++ rest) 4 four in
    let size : size_in (head ++ (p ++ rest)) ≡ Some (length p, p ++ rest) = cond-true _ _ _ long ∙ (λ i. Some (number i, behind i)) in
    let front = take_at p rest (length p) refl in
    let back = drop_at p rest (length p) refl in
    let cut : cut_in (length p) (p ++ rest) ≡ Some (p, rest) = cond-true _ _ _ fits ∙ (λ i. Some (front i, back i)) in
    ap payload_in all ∙ ap cut_by size ∙ cut

-- what reads as a payload is that payload behind its size
pub payload_takes : (bytes p rest : List ℕ) → AreOctets bytes → payload_in bytes ≡ Some (p, rest) → bytes ≡ sized p ++ rest
payload_takes bytes p rest octets is = by (nat_le 4 (length bytes)) refl is
  where
    again : (n : ℕ) → n ≡ from_be_bytes w32 (take 4 bytes) → 4 ≤ length bytes → to_be_bytes w32 n ≡ take 4 bytes
    again n n-is long = ap (to_be_bytes w32) n-is ∙ wide32.back (take 4 bytes) (omega (arith, length-take 4 bytes)) (octets_before 4 bytes octets)

    cut : (n : ℕ) (behind : List ℕ) (fits : Bool) → nat_le n (length behind) ≡ fits → (let r : Option (List ℕ × List ℕ) = cut_in n behind in r) ≡ Some (p, rest) → (behind ≡ p ++ rest) × (length p ≡ n)
    cut n behind true f e =
        let got : ◌≡◌ {A = Option (List ℕ × List ℕ)} (Some (take n behind, drop n behind)) (Some (p, rest)) = sym (cond-true _ _ _ f) ∙ e in
        let pair : ◌≡◌ {A = List ℕ × List ℕ} (take n behind, drop n behind) (p, rest) = some_is (take n behind, drop n behind) (p, rest) got in
        let front : take n behind ≡ p = ap (λ (x : List ℕ × List ℕ). x.0) pair in
        let back : drop n behind ≡ rest = ap (λ (x : List ℕ × List ℕ). x.1) pair in
        (sym (take-append-drop n behind) ∙ (λ i. front i ++ back i), ap length (sym front) ∙ (let le = le_from n (length behind) f in omega (arith, le, length-take n behind)))
    cut n behind false f e = absurd (let bad : (let none : Option (List ℕ × List ℕ) = None in none) ≡ Some (p, rest) = rw f at e in cc)

    by : (long : Bool) → nat_le 4 (length bytes) ≡ long → payload_in bytes ≡ Some (p, rest) → bytes ≡ sized p ++ rest
    by true l e =
        let four : 4 ≤ length bytes = le_from _ _ l in
        let read : cut_in (from_be_bytes w32 (take 4 bytes)) (drop 4 bytes) ≡ Some (p, rest) = ap cut_by (sym (cond-true _ _ _ l)) ∙ e in
        let two = cut (from_be_bytes w32 (take 4 bytes)) (drop 4 bytes) (nat_le (from_be_bytes w32 (take 4 bytes)) (length (drop 4 bytes))) refl read in
        sym (take-append-drop 4 bytes) ∙ (λ i. sym (again (length p) two.1 four) i ++ two.0 i) ∙ sym (append_assoc (to_be_bytes w32 (length p)) p rest)
    by false l e = absurd (let bad : (let none : Option (List ℕ × List ℕ) = None in none) ≡ Some (p, rest) = rw l at e in cc)

-- an entry's spelling is short enough for its size
short_spelling : (e : Entry) → IsEntry e → length (spelling e) < 2 ^ 32
short_spelling e is = let fits = (spelling_fits e is).1 in omega (arith, fits)

pub piece_again : (e : Entry) (rest : List ℕ) → IsEntry e → payload_in (piece_of e ++ rest) ≡ Some (spelling e, rest)
unfolding piece_of
piece_again e rest is = payload_again (spelling e) rest (short_spelling e is)

-- no piece begins bytes without a payload
pub no_piece : (bytes : List ℕ) → payload_in bytes ≡ None → NoPiece bytes
no_piece bytes none e rest is at =
    let bad : ◌≡◌ {A = Option (List ℕ × List ℕ)} (Some (spelling e, rest)) None = sym (piece_again e rest is) ∙ ap payload_in (sym at) ∙ none in cc

-- nor bytes whose payload spells no entry
pub no_entry : (bytes p behind : List ℕ) → payload_in bytes ≡ Some (p, behind) → ((e : Entry) → ¬ (Spells p e)) → NoPiece bytes
no_entry bytes p behind read none e rest is at =
    let same : ◌≡◌ {A = Option (List ℕ × List ℕ)} (Some (p, behind)) (Some (spelling e, rest)) = sym read ∙ ap payload_in at ∙ piece_again e rest is in
    let pair : ◌≡◌ {A = List ℕ × List ℕ} (p, behind) (spelling e, rest) = some_is (p, behind) (spelling e, rest) same in
    none e (record { is_entry = is; bytes = ap (λ (x : List ℕ × List ℕ). x.0) pair })

-- the entry that a payload spells is a piece
pub is_piece : (bytes p rest : List ℕ) (e : Entry) → AreOctets bytes → payload_in bytes ≡ Some (p, rest) → Spells p e → bytes ≡ piece_of e ++ rest
unfolding piece_of
is_piece bytes p rest e octets read spells = payload_takes bytes p rest octets read ∙ ap (λ (l : List ℕ). sized l ++ rest) spells.bytes

-- bytes begin with one piece at most
pub same_front : (e d : Entry) (x y : List ℕ) → IsEntry e → IsEntry d → piece_of e ++ x ≡ piece_of d ++ y → (e ≡ d) × (x ≡ y)
same_front e d x y is also at =
    let same : ◌≡◌ {A = Option (List ℕ × List ℕ)} (Some (spelling e, x)) (Some (spelling d, y)) = sym (piece_again e x is) ∙ ap payload_in at ∙ piece_again d y also in
    let pair : ◌≡◌ {A = List ℕ × List ℕ} (spelling e, x) (spelling d, y) = some_is (spelling e, x) (spelling d, y) same in
    (one_spelling e d [] is also (append-nil (spelling e) ∙ ap (λ (z : List ℕ × List ℕ). z.0) pair), ap (λ (z : List ℕ × List ℕ). z.1) pair)

-- a piece has bytes
pub some_piece : (e : Entry) (rest : List ℕ) → 4 ≤ length (piece_of e ++ rest)
unfolding piece_of
some_piece e rest =
    let head = size_length (length (spelling e)) in
    let all = length-append (sized (spelling e)) rest in
    let front = length-append (to_be_bytes w32 (length (spelling e))) (spelling e) in
    omega (arith, head, all, front)

-- what is behind a piece is shorter
pub shorter : (bytes p rest : List ℕ) (e : Entry) → AreOctets bytes → payload_in bytes ≡ Some (p, rest) → Spells p e → length rest < length bytes
unfolding piece_of
shorter bytes p rest e octets read spells =
    let all = ap length (is_piece bytes p rest e octets read spells) in
    let head = size_length (length (spelling e)) in
    let front = length-append (to_be_bytes w32 (length (spelling e))) (spelling e) in
    omega (arith, all, head, front, length-append (sized (spelling e)) rest)
