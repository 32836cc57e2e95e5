-- What an overwritten file is, byte by byte.
use Rattle.std.proofs.Common.{◌≡◌, ℕ, ◌+◌, ◌-◌, ◌<◌, ◌≤◌, max, List, [], ◌∷◌, ◌++◌, length, get_or, take, drop, refl, sym, ◌∙◌, ap, arith, length-append, length-drop, append_assoc, take-append-drop}
use Rattle.std.proofs.lemmas.List.{get_or-take, get_or-drop, length-take, take_at, drop_at, take_all, take_min, drop_all, append-nil, drop-drop, drop_more}
use Rattle.disk_model.specs.Disk.{overwritten, Torn, Shortened}

module _ (file : List ℕ) (at : ℕ) (bytes : List ℕ) (inside : at ≤ length file) where
  rest : List ℕ
  rest = drop (at + length bytes) file

  length-front : length (take at file) ≡ at
  length-front = omega (arith, length-take at file, inside)

  length-written : length (take at file ++ bytes) ≡ at + length bytes
  length-written = omega (arith, length-append (take at file) bytes, length-front)

  pub length-overwritten : length (overwritten file at bytes) ≡ max (length file) (at + length bytes)
  length-overwritten = omega (arith, length-append (take at file ++ bytes) (drop (at + length bytes) file), length-written, length-drop (at + length bytes) file)

  -- what is before the range stays
  pub take-overwritten : take at (overwritten file at bytes) ≡ take at file
  take-overwritten = ap (take at) (append_assoc (take at file) bytes (drop (at + length bytes) file)) ∙ take_at (take at file) (bytes ++ drop (at + length bytes) file) at length-front

  -- what is behind the range stays
  pub drop-overwritten : drop (at + length bytes) (overwritten file at bytes) ≡ drop (at + length bytes) file
  drop-overwritten = drop_at (take at file ++ bytes) (drop (at + length bytes) file) (at + length bytes) length-written

  -- a whole write is one of those of which any part was done
  pub overwritten_torn : Torn at (length bytes) file (overwritten file at bytes)
  overwritten_torn = record {
    before = take-overwritten;
    behind = drop-overwritten;
    no_shorter = omega (arith, length-overwritten);
    no_longer = omega (arith, length-overwritten);
  }

-- nothing done is a part of a write
pub torn_same : (at n : ℕ) (file : List ℕ) → Torn at n file file
torn_same at n file = record { before = refl; behind = refl; no_shorter = omega arith; no_longer = omega arith }

-- nothing done is a part of a cut
pub shortened_same : (len : ℕ) (file : List ℕ) → Shortened len file file
shortened_same len file = record { front = take_all (length file) file (omega arith); no_shorter = omega arith }

-- a whole cut is one of those of which any part was done
pub take_shortened : (len : ℕ) (file : List ℕ) → Shortened len file (take len file)
take_shortened len file = record {
  front = ap (λ n. take n file) (length-take len file) ∙ take_min len file;
  no_shorter = omega (arith, length-take len file);
}

module _ (at n : ℕ) (old new : List ℕ) (torn : Torn at n old new) where
  -- a byte before the range stays
  pub torn_before : (k : ℕ) → k < at → k < length new → (k < length old) × (get_or new k 0 ≡ get_or old k 0)
  torn_before k below lt =
      let sizes : length (take at new) ≡ length (take at old) = ap length torn.before in (
        omega (arith, sizes, length-take at new, length-take at old),
        sym (get_or-take at new k 0 below) ∙ ap (λ l. get_or l k 0) torn.before ∙ get_or-take at old k 0 below,
      )

  -- a byte behind the range stays
  pub torn_behind : (k : ℕ) → at + n ≤ k → k < length new → (k < length old) × (get_or new k 0 ≡ get_or old k 0)
  torn_behind k above lt =
      let sizes : length (drop (at + n) new) ≡ length (drop (at + n) old) = ap length torn.behind in
      let e : at + n + (k - (at + n)) ≡ k = omega (arith, above) in (
        omega (arith, sizes, length-drop (at + n) new, length-drop (at + n) old),
        ap (λ m. get_or new m 0) (sym e) ∙ sym (get_or-drop (at + n) new (k - (at + n)) 0) ∙ ap (λ l. get_or l (k - (at + n)) 0) torn.behind ∙ get_or-drop (at + n) old (k - (at + n)) 0 ∙ ap (λ m. get_or old m 0) e,
      )

-- a torn write, written out: in the range at most n bytes, and what was behind it
pub torn_parts : (at n : ℕ) (old new : List ℕ) → at ≤ length old → Torn at n old new → (middle : List ℕ) × (length middle ≤ n) × (new ≡ take at old ++ middle ++ drop (at + n) old)
torn_parts at n old new inside torn =
    let middle = take n (drop at new) in
    let whole : new ≡ take at new ++ (middle ++ drop n (drop at new)) = sym (take-append-drop at new) ∙ ap (λ l. take at new ++ l) (sym (take-append-drop n (drop at new))) in
    (middle, omega (arith, length-take n (drop at new)), whole ∙ sym (append_assoc (take at new) middle (drop n (drop at new))) ∙ (λ i. torn.before i ++ middle ++ (drop-drop n at new ∙ torn.behind) i))

-- a torn write past the end: the file, and behind it at most n bytes
pub torn_past_end : (n : ℕ) (old new : List ℕ) → Torn (length old) n old new → (rest : List ℕ) × (length rest ≤ n) × (new ≡ old ++ rest)
torn_past_end n old new torn =
    let parts = torn_parts (length old) n old new (omega arith) torn in
    (parts.0, parts.1, parts.2 ∙ ap (λ l. l ++ parts.0 ++ drop (length old + n) old) (take_all (length old) old (omega arith)) ∙ ap (λ l. old ++ parts.0 ++ l) (drop_all (length old + n) old (omega arith)) ∙ append-nil (old ++ parts.0))

-- a torn write of one byte inside: the file with some byte there
pub torn_byte : (at : ℕ) (old new : List ℕ) → at < length old → Torn at 1 old new → (byte : ℕ) × (new ≡ overwritten old at (byte ∷ []))
torn_byte at old new inside torn =
    let byte = get_or new at 0 in
    let rest : drop at new ≡ byte ∷ drop (at + 1) old = drop_more new at 0 (omega (arith, inside, torn.no_shorter)) ∙ ap (λ (l : List ℕ). byte ∷ l) torn.behind in
    (byte, sym (take-append-drop at new) ∙ (λ i. torn.before i ++ rest i) ∙ sym (append_assoc (take at old) (byte ∷ []) (drop (at + 1) old)))

-- what was torn twice in one range was torn once
pub torn_twice : (at n : ℕ) (old mid new : List ℕ) → Torn at n old mid → Torn at n mid new → Torn at n old new
torn_twice at n old mid new first second = record {
  before = second.before ∙ first.before;
  behind = second.behind ∙ first.behind;
  no_shorter = omega (arith, first.no_shorter, second.no_shorter);
  no_longer = omega (arith, first.no_longer, second.no_longer);
}

-- a write at the end
pub overwritten_at_end : (file bytes : List ℕ) → overwritten file (length file) bytes ≡ file ++ bytes
overwritten_at_end file bytes =
    ap (λ l. l ++ bytes ++ drop (length file + length bytes) file) (take_all (length file) file (omega arith)) ∙ ap (λ l. file ++ bytes ++ l) (drop_all (length file + length bytes) file (omega arith)) ∙ append-nil (file ++ bytes)
