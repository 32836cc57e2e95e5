-- What a crash leaves of a journal's file while a frame is added to it.
use Rattle.std.proofs.Common.{◌≡◌, inl, inr, ℕ, ◌+◌, List, [], ◌∷◌, ◌++◌, length, take, drop, refl, sym, ◌∙◌, ap, subst, arith, append_assoc, length-append}
use Rattle.std.proofs.lemmas.List.{drop-drop, take_at, drop_at}
use Rattle.std.proofs.lemmas.Bool.{cases_eq}
use Rattle.disk_model.specs.Disk.{overwritten, Torn}
use Rattle.disk_model.proofs.Overwrites.{torn_parts, torn_byte}
use Rattle.archive_journal.specs.Frames.{open_gate, body_of, front_of, IsSized, IsJournal}
use Rattle.archive_journal.specs.Journal.{IsJournalWithOrWithout, added_to}
use Rattle.archive_journal.proofs.FrameLists.{all_push, front_of-push}

-- a gate with something before it and behind it
module _ (front : List ℕ) (gate : ℕ) (rest : List ℕ) where
  abbrev file : List ℕ
  file = front ++ gate ∷ rest

  gated : file ≡ (front ++ gate ∷ []) ++ rest
  gated = sym (append_assoc front (gate ∷ []) rest)

  length-gated : length (front ++ gate ∷ []) ≡ length front + 1
  length-gated = length-append front (gate ∷ [])

  up_to_gate : take (length front + 1) file ≡ front ++ gate ∷ []
  up_to_gate = ap (take (length front + 1)) gated ∙ take_at (front ++ gate ∷ []) rest (length front + 1) length-gated

  behind_gate : drop (length front + 1) file ≡ rest
  behind_gate = ap (drop (length front + 1)) gated ∙ drop_at (front ++ gate ∷ []) rest (length front + 1) length-gated

  -- a write behind the gate, of which any part was done, leaves the gate and what is before it
  pub torn_behind : (n : ℕ) (image : List ℕ) → Torn (length front + 1) n file image → (after : List ℕ) × (image ≡ front ++ gate ∷ after)
  torn_behind n image torn =
      let parts = torn_parts (length front + 1) n file image (omega (arith, length-append front (gate ∷ rest))) torn in
      let after = parts.0 ++ drop (length front + 1 + n) file in (
        after,
        parts.2 ∙ ap (λ (l : List ℕ). l ++ parts.0 ++ drop (length front + 1 + n) file) up_to_gate
            ∙ append_assoc (front ++ gate ∷ []) parts.0 (drop (length front + 1 + n) file)
            ∙ append_assoc front (gate ∷ []) after,
      )

  -- a whole write behind the gate
  pub overwritten_behind : (bytes : List ℕ) → overwritten file (length front + 1) bytes ≡ front ++ gate ∷ (bytes ++ drop (length bytes) rest)
  overwritten_behind bytes =
      let left : drop (length front + 1 + length bytes) file ≡ drop (length bytes) rest = sym (drop-drop (length bytes) (length front + 1) file) ∙ ap (drop (length bytes)) behind_gate in
      (λ i. up_to_gate i ++ bytes ++ left i)
      ∙ append_assoc (front ++ gate ∷ []) bytes (drop (length bytes) rest)
      ∙ append_assoc front (gate ∷ []) (bytes ++ drop (length bytes) rest)

  -- a write of the gate
  pub overwritten_gate : (byte : ℕ) → overwritten file (length front) (byte ∷ []) ≡ front ++ byte ∷ rest
  overwritten_gate byte = (λ i. take_at front (gate ∷ rest) (length front) refl i ++ byte ∷ [] ++ behind_gate i) ∙ append_assoc front (byte ∷ []) rest

  -- a write of the gate, done or not, leaves all but the gate
  pub torn_gate : (image : List ℕ) → Torn (length front) 1 file image → (byte : ℕ) × (image ≡ front ++ byte ∷ rest)
  torn_gate image torn =
      let parts = torn_byte (length front) file image (omega (arith, length-append front (gate ∷ rest))) torn in
      (parts.0, parts.1 ∙ overwritten_gate parts.0)

-- a journal, and the offset of its closed gate
module _ (ps : List (List ℕ)) (file : List ℕ) (journal : IsJournal ps file) (gate : ℕ) (is_end : gate ≡ length (front_of ps)) where
  -- the frame that is brought behind the closed gate doesn't count yet
  pub brought : (n : ℕ) (image : List ℕ) → Torn (gate + 1) n file image → IsJournal ps image
  brought n image torn =
      let here = subst (λ (x : ℕ × List ℕ). Torn (x.0 + 1) n x.1 image) (λ i. (is_end i, journal.file_is i)) torn in
      let parts = torn_behind (front_of ps) journal.gate journal.rest n image here in
      record { gate = journal.gate; rest = parts.0; file_is = parts.1; closed = journal.closed; sized = journal.sized }

  -- the file once it is there
  abbrev rest_after : List ℕ → List ℕ
  rest_after p = drop (length (body_of p ++ 0 ∷ [])) journal.rest

  pub file_brought : (p : List ℕ) → overwritten file (gate + 1) (body_of p ++ 0 ∷ []) ≡ front_of ps ++ journal.gate ∷ (body_of p ++ 0 ∷ rest_after p)
  file_brought p =
      (λ i. overwritten (journal.file_is i) (is_end i + 1) (body_of p ++ 0 ∷ []))
      ∙ overwritten_behind (front_of ps) journal.gate journal.rest (body_of p ++ 0 ∷ [])
      ∙ ap (λ (l : List ℕ). front_of ps ++ journal.gate ∷ l) (append_assoc (body_of p) (0 ∷ []) (rest_after p))

  -- any gate before the frame: it is open, and the frame counts, or it is closed
  either : (p image : List ℕ) (byte : ℕ) → IsSized p → image ≡ front_of ps ++ byte ∷ (body_of p ++ 0 ∷ rest_after p) → IsJournalWithOrWithout ps p image
  either p image byte sized is = elim (cases_eq byte open_gate) [
    | inl is_open ↦
        inr (record {
          gate = 0;
          rest = rest_after p;
          file_is = is ∙ ap (λ (b : ℕ). front_of ps ++ b ∷ (body_of p ++ 0 ∷ rest_after p)) is_open ∙ sym (front_of-push ps p (0 ∷ rest_after p));
          closed = omega arith;
          sized = all_push IsSized ps p journal.sized sized;
        })
    | inr shut ↦ inl (record { gate = byte; rest = body_of p ++ 0 ∷ rest_after p; file_is = is; closed = shut; sized = journal.sized })
  ]

  -- while its gate is opened, it counts or it doesn't
  pub opening : (p mid image : List ℕ) → IsSized p → mid ≡ overwritten file (gate + 1) (body_of p ++ 0 ∷ []) → Torn gate 1 mid image → IsJournalWithOrWithout ps p image
  opening p mid image sized is torn =
      let here = subst (λ (x : ℕ × List ℕ). Torn x.0 1 x.1 image) (λ i. (is_end i, (is ∙ file_brought p) i)) torn in
      let parts = torn_gate (front_of ps) journal.gate (body_of p ++ 0 ∷ rest_after p) image here in
      either p image parts.0 sized parts.1

  -- and then it counts
  pub added : (p : List ℕ) → IsSized p → IsJournal (ps ++ p ∷ []) (added_to file gate p)
  added p sized = record {
    gate = 0;
    rest = rest_after p;
    file_is = (λ i. overwritten (file_brought p i) (is_end i) (open_gate ∷ [])) ∙ overwritten_gate (front_of ps) journal.gate (body_of p ++ 0 ∷ rest_after p) open_gate ∙ sym (front_of-push ps p (0 ∷ rest_after p));
    closed = omega arith;
    sized = all_push IsSized ps p journal.sized sized;
  }
