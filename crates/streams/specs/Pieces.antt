-- The pieces that a stream in memory has left to give.
use Rattle.std.specs.Prelude.{◌≡◌, ℕ, ◌-◌, ◌==◌, min, not, List, [], ◌∷◌, ◌++◌, drop, filter, length}
use Rattle.std.specs.List.{flat_map}
use Rattle.streams.specs.declared.pieces.Pieces.{Pieces}

-- the pieces that have bytes
abbrev pub with_bytes : List (List ℕ) → List (List ℕ)
with_bytes pieces = filter (λ piece. not (length piece == 0)) pieces

-- the pieces without so many bytes in front
abbrev pub without_front : ℕ → List (List ℕ) → List (List ℕ)
without_front from [] = []
without_front from (piece ∷ pieces) = drop from piece ∷ without_front (from - length piece) pieces

-- the pieces that are left behind the first `at` of them and `from` bytes more, each with its bytes
abbrev pub pieces_behind : List (List ℕ) → ℕ → ℕ → List (List ℕ)
pieces_behind pieces at from = with_bytes (without_front from (drop at pieces))

-- the bytes that are left there
abbrev pub bytes_behind : List (List ℕ) → ℕ → ℕ → List ℕ
bytes_behind pieces at from = drop from (flat_map (λ piece. piece) (drop at pieces))

-- those that are left of some pieces
abbrev pub pieces_left : Pieces → List (List ℕ)
pieces_left pieces = pieces_behind pieces.all pieces.at pieces.from

abbrev pub bytes_left : Pieces → List ℕ
bytes_left pieces = bytes_behind pieces.all pieces.at pieces.from

-- A take gives bytes of the first piece, all that fit, and the others stay; of no piece it gives none.
abbrev pub GivesPiece : List (List ℕ) → List (List ℕ) → ℕ → ℕ → Type 0
GivesPiece [] new count size = (count ≡ 0) × (new ≡ [])
GivesPiece (piece ∷ pieces) new count size =
    (count ≡ min (length piece) size) × (new ≡ with_bytes (drop count piece ∷ []) ++ pieces)
