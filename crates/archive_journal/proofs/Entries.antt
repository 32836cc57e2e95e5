-- Where a payload stands in its file.
use Rattle.std.proofs.Common.{◌≡◌, ℕ, ◌+◌, ◌-◌, ◌<◌, ◌≤◌, List, [], ◌∷◌, ◌++◌, length, get_or, take, drop, Some, refl, sym, ◌∙◌, ap, arith, append_assoc, take-append-drop, slice_get}
use Rattle.std.proofs.lemmas.List.{take_at, drop_at, drop-drop, take_more}
use Rattle.std.proofs.lemmas.Option.{slice_get-get_or}
use Rattle.archive_journal.specs.Frames.{magic, open_gate, body_of, frames, front_of}
use Rattle.archive_journal.specs.Journal.{gate_of}
use Rattle.archive_journal.proofs.FrameLists.{front_of-push, length-front_of-push}

frames-append : (ps qs : List (List ℕ)) → frames (ps ++ qs) ≡ frames ps ++ frames qs
frames-append [] qs = refl
frames-append (p ∷ ps) qs = ap (λ (l : List ℕ). open_gate ∷ body_of p ++ l) (frames-append ps qs) ∙ ap (λ (l : List ℕ). open_gate ∷ l) (sym (append_assoc (body_of p) (frames ps) (frames qs)))

front_of-append : (ps qs : List (List ℕ)) → front_of (ps ++ qs) ≡ front_of ps ++ frames qs
unfolding front_of
front_of-append ps qs = ap (λ (l : List ℕ). magic ++ l) (frames-append ps qs) ∙ sym (append_assoc magic (frames ps) (frames qs))

module _ (ps : List (List ℕ)) (rest : List ℕ) (k : ℕ) (inside : k < length ps) where
  payload : List ℕ
  payload = get_or ps k []

  tail : List ℕ
  tail = frames (drop (k + 1) ps) ++ rest

  -- the frames before it, its own, and those behind it
  parts : front_of ps ++ rest ≡ front_of (take k ps) ++ (open_gate ∷ body_of payload ++ tail)
  unfolding payload tail
  parts =
      ap (λ (l : List (List ℕ)). front_of l ++ rest) (sym (take-append-drop (k + 1) ps))
      ∙ ap (λ (l : List ℕ). l ++ rest) (front_of-append (take (k + 1) ps) (drop (k + 1) ps))
      ∙ append_assoc (front_of (take (k + 1) ps)) (frames (drop (k + 1) ps)) rest
      ∙ ap (λ (l : List (List ℕ)). front_of l ++ tail) (take_more ps k [] inside)
      ∙ front_of-push (take k ps) payload tail

  next_gate : length (front_of (take (k + 1) ps)) ≡ length (front_of (take k ps)) + 5 + length payload
  unfolding payload
  next_gate = ap (λ (l : List (List ℕ)). length (front_of l)) (take_more ps k [] inside) ∙ length-front_of-push (take k ps) payload

  -- there is room for the frame's head before the next gate
  pub head_fits : length (front_of (take k ps)) + 5 ≤ length (front_of (take (k + 1) ps))
  head_fits = omega (arith, next_gate)

  -- the bytes between the head of its frame and the next gate
  pub payload_at : (start len : ℕ) → start ≡ length (front_of (take k ps)) + 5 → len ≡ length (front_of (take (k + 1) ps)) - start → slice_get ps k ≡ Some (take len (drop start (front_of ps ++ rest)))
  unfolding payload
  payload_at start len is_start is_len =
      let size : len ≡ length payload = omega (arith, is_len, is_start, next_gate) in
      let left : drop start (front_of ps ++ rest) ≡ payload ++ tail =
      (λ i. drop (is_start i) (parts i))
      ∙ sym (drop-drop 5 (length (front_of (take k ps))) (front_of (take k ps) ++ (open_gate ∷ body_of payload ++ tail)))
      ∙ ap (drop 5) (drop_at (front_of (take k ps)) (open_gate ∷ body_of payload ++ tail) (length (front_of (take k ps))) refl) in
      slice_get-get_or ps k [] inside ∙ ap Some (sym ((λ i. take (size i) (left i)) ∙ take_at payload tail (length payload) refl))

-- the first gate stands behind the magic
pub first_gate : (payloads : List (List ℕ)) → gate_of payloads 1 ≡ 16
unfolding front_of
first_gate payloads = refl
