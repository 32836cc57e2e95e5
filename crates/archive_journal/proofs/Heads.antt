-- What the first five bytes at a gate say.
use Rattle.std.proofs.Common.{◌≡◌, ◌≢◌, ◌⊎◌, inl, inr, ℕ, zero, suc, ◌+◌, ◌<◌, ◌≤◌, List, [], ◌∷◌, ◌++◌, length, get_or, take, drop, Bool, true, false, refl, sym, ◌∙◌, ap, subst, arith, append_assoc, length-drop, take-append-drop, w32, nat_eq}
use Rattle.std.proofs.lemmas.List.{length-take, take-take, drop-drop}
use Rattle.std.proofs.lemmas.Nat.{be_bytes_4}
use Rattle.std.proofs.lemmas.Bool.Decides.{nat_tests, not_from_Decides}
use Rattle.std.proofs.lemmas.Slice.Eq.{bytes_eq-Decides}
use Rattle.std.specs.Bool.{Decides}
use Rattle.std.specs.List.{starts_with}
use Rattle.std.specs.Int.{to_be_bytes, from_be_bytes}
use Rattle.disk_model.specs.Disk.{Gives}
use Rattle.archive_journal.specs.Frames.{magic, open_gate, limit, body_of, size_in, is_whole, IsSized, IsBroken}
use Rattle.archive_journal.specs.Recovery.{IsOpenFrame}

-- the four bytes of a length, from a gate and four bytes behind it
abbrev pub length_bytes : List ℕ → List ℕ
length_bytes head = get_or head 1 0 ∷ get_or head 2 0 ∷ get_or head 3 0 ∷ get_or head 4 0 ∷ []

five_bytes : (rest : List ℕ) → 5 ≤ length (take 5 rest) → rest ≡ get_or (take 5 rest) 0 0 ∷ (length_bytes (take 5 rest) ++ drop 5 rest)
five_bytes [] long = absurd (omega arith)
five_bytes (g ∷ []) long = absurd (omega arith)
five_bytes (g ∷ a ∷ []) long = absurd (omega arith)
five_bytes (g ∷ a ∷ b ∷ []) long = absurd (omega arith)
five_bytes (g ∷ a ∷ b ∷ c ∷ []) long = absurd (omega arith)
five_bytes (g ∷ a ∷ b ∷ c ∷ d ∷ more) long = refl

length_bytes_small : (head : List ℕ) → ((i : ℕ) → get_or head i 0 < 256) → (i : ℕ) → get_or (length_bytes head) i 0 < 256
length_bytes_small head bytes zero = bytes 1
length_bytes_small head bytes (suc zero) = bytes 2
length_bytes_small head bytes (suc (suc zero)) = bytes 3
length_bytes_small head bytes (suc (suc (suc zero))) = bytes 4
length_bytes_small head bytes (suc (suc (suc (suc i)))) = omega arith

-- a length of 1 to the limit, and not past the end, makes a whole frame
pub is_whole_of : (behind : List ℕ) (size : ℕ) → size_in behind ≡ size → size ≢ 0 → size ≤ limit → 4 + size ≤ length behind → is_whole behind ≡ true
is_whole_of behind size is some within fits = grind (arith, nat_tests)

whole_facts : (behind : List ℕ) → is_whole behind ≡ true → (0 < size_in behind) × (size_in behind ≤ limit) × (4 + size_in behind ≤ length behind)
whole_facts behind whole = (grind (arith, nat_tests), grind (arith, nat_tests), grind (arith, nat_tests))

-- a whole frame is the frame of its payload, and something behind it
pub whole_parts : (behind : List ℕ) → ((i : ℕ) → get_or (take 4 behind) i 0 < 256) → is_whole behind ≡ true
    → (behind ≡ body_of (take (size_in behind) (drop 4 behind)) ++ drop (4 + size_in behind) behind) × IsSized (take (size_in behind) (drop 4 behind)) × (length (take (size_in behind) (drop 4 behind)) ≡ size_in behind) × (4 + size_in behind ≤ length behind)
whole_parts behind small whole =
    let size = size_in behind in
    let payload = take size (drop 4 behind) in
    let facts = whole_facts behind whole in
    let size_is : length payload ≡ size = omega (arith, length-take size (drop 4 behind), length-drop 4 behind, facts) in
    let four : length (take 4 behind) ≡ 4 = omega (arith, length-take 4 behind, facts) in
    let written : take 4 behind ≡ to_be_bytes w32 (length payload) = sym (ap (to_be_bytes w32) size_is ∙ be_bytes_4 (take 4 behind) size four small refl) in
    let rest : drop 4 behind ≡ payload ++ drop (4 + size) behind = sym (take-append-drop size (drop 4 behind)) ∙ ap (λ (l : List ℕ). payload ++ l) (drop-drop size 4 behind) in (
      sym (take-append-drop 4 behind) ∙ (λ i. written i ++ rest i) ∙ sym (append_assoc (to_be_bytes w32 (length payload)) payload (drop (4 + size) behind)),
      record { some = omega (arith, size_is, facts); within = omega (arith, size_is, facts) },
      size_is,
      facts.2,
    )

-- a length of 0, over the limit or past the end makes no whole frame
pub not_whole : (behind : List ℕ) (size : ℕ) → size_in behind ≡ size → (size ≡ 0) ⊎ (limit < size) ⊎ (length behind < 4 + size) → is_whole behind ≡ false
not_whole behind size is (inl none) = grind (arith, nat_tests)
not_whole behind size is (inr (inl over)) = grind (arith, nat_tests)
not_whole behind size is (inr (inr past)) = grind (arith, nat_tests)

module _ (rest head : List ℕ) (is_head : head ≡ take 5 rest) (is_open : get_or head 0 0 ≡ open_gate) (long : 5 ≤ length head) (size : ℕ) (is_size : size ≡ from_be_bytes w32 (length_bytes head)) where
  parts : rest ≡ open_gate ∷ (length_bytes head ++ drop 5 rest)
  parts = subst (λ (h : List ℕ). rest ≡ get_or h 0 0 ∷ (length_bytes h ++ drop 5 rest)) (sym is_head) (five_bytes rest (omega (arith, ap length is_head)))
      ∙ ap (λ (g : ℕ). g ∷ (length_bytes head ++ drop 5 rest)) is_open

  length-parts : length (length_bytes head ++ drop 5 rest) + 1 ≡ length rest
  length-parts = omega (arith, ap length parts)

  pub frame_here : (at : ℕ) → ((i : ℕ) → get_or head i 0 < 256) → size ≢ 0 → size ≤ limit → 5 + size ≤ length rest → IsOpenFrame rest at (at + 5 + size)
  frame_here at bytes some within fits =
      let behind = length_bytes head ++ drop 5 rest in
      let whole : is_whole behind ≡ true = is_whole_of behind size (sym is_size) some within (omega (arith, length-parts, fits)) in
      let frame = whole_parts behind (length_bytes_small head bytes) whole in
      record {
        payload = take (size_in behind) (drop 4 behind);
        behind = drop (4 + size_in behind) behind;
        rest_is = parts ∙ ap (λ (l : List ℕ). open_gate ∷ l) frame.0;
        sized = frame.1;
        next_is = omega (arith, is_size, frame.2);
      }

  -- with a length of 0, over the limit or past the end, the frame isn't whole
  pub broken_here : (size ≡ 0) ⊎ (limit < size) ⊎ (length rest < 5 + size) → IsBroken rest
  broken_here fault =
      let behind = length_bytes head ++ drop 5 rest in
      let here : (size ≡ 0) ⊎ (limit < size) ⊎ (length behind < 4 + size) = elim fault [
        | inl none ↦ inl none
        | inr (inl over) ↦ inr (inl over)
        | inr (inr past) ↦ inr (inr (omega (arith, length-parts, past)))
      ] in
      subst IsBroken (sym parts) (refl, not_whole behind size (sym is_size) here)

-- the first bytes of a file, as a read gave them
module _ (file head : List ℕ) (count : ℕ) (read : Gives file 0 count head) (long : 17 ≤ count) (r : Bool) (tested : r ≡ starts_with nat_eq head magic) where
  same_front : take 16 head ≡ take 16 file
  same_front = sym (take-take 16 count head (omega (arith, long))) ∙ ap (take 16) read.bytes_are ∙ take-take 16 count file (omega (arith, long))

  magic_test : Decides r (take 16 file ≡ magic)
  magic_test = let test = bytes_eq-Decides magic (take 16 head) in (λ is. sym same_front ∙ sym (test.0 (sym tested ∙ is)), λ is. tested ∙ test.1 (sym is ∙ sym same_front))

  pub begins_with_magic : r ≡ true → (17 ≤ length file) × (take 16 file ≡ magic)
  begins_with_magic is = (omega (arith, read.count_is, long), magic_test.0 is)

  pub other_magic : r ≡ false → take 16 file ≢ magic
  other_magic is same = not_from_Decides r magic_test is same
