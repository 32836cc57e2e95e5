-- What the streams in memory tell, and what one call does to them. `old` is the stream before the call,
-- `new` the stream after it.
use Rattle.std.specs.Prelude.{◌≡◌, ◌≢◌, ◌⊎◌, ◌↔◌, ℕ, ◌-◌, min, List, [], length, Option, None, Some, Result, IsErr, IsTrue, IfOk, MatchResult}
use Rattle.streams.specs.Calls.{faults_of, is_to_fail, Counts}
use Rattle.streams.specs.Kept.{told_of}
use Rattle.streams.specs.Pieces.{pieces_left, bytes_left, GivesPiece}
use Rattle.streams.specs.View.{StreamView}
use Rattle.streams.specs.declared.tally.Tally.{Tally}
use Rattle.streams.specs.declared.source.MemorySource.{MemorySource}
use Rattle.streams.specs.declared.sink.MemorySink.{MemorySink}
use Rattle.streams.specs.declared.link.MemoryLink.{MemoryLink}

-- what is told of each
abbrev pub source_view : MemorySource → StreamView
source_view source = record { left = Some (bytes_left source.pieces); written = None; faults = faults_of source.tally }

abbrev pub sink_view : MemorySink → StreamView
sink_view sink = record { left = None; written = told_of sink.kept; faults = faults_of sink.tally }

abbrev pub link_view : MemoryLink → StreamView
link_view link = record { left = Some (bytes_left link.pieces); written = told_of link.kept; faults = faults_of link.tally }

-- the calls of each
abbrev pub tally_of_source : MemorySource → Tally
tally_of_source source = source.tally

abbrev pub tally_of_sink : MemorySink → Tally
tally_of_sink sink = sink.tally

abbrev pub tally_of_link : MemoryLink → Tally
tally_of_link link = link.tally

-- the pieces that are left to give, each with its bytes
abbrev pub pieces_of_source : MemorySource → List (List ℕ)
pieces_of_source source = pieces_left source.pieces

abbrev pub pieces_of_link : MemoryLink → List (List ℕ)
pieces_of_link link = pieces_left link.pieces

-- how many bytes more a sink takes, where that is limited
abbrev pub room_of : MemorySink → Option ℕ
room_of sink = sink.room

-- A take into a slice of this size, by the calls and the pieces before and after it: it is counted, fails
-- exactly where its number is one of those that fail, and gives bytes of the first piece.
pub record TakesPiece {E : Type 0} (calls later : Tally) (pieces left : List (List ℕ)) (result : Result ℕ E) (size : ℕ) : Type 0 where
  pub counts : Counts calls later result
  pub fails : IsErr result ↔ IsTrue (is_to_fail calls)
  pub piece : MatchResult result (λ count. GivesPiece pieces left count size) (λ _. left ≡ pieces)

-- how many of so many bytes there is room for
abbrev pub part_for : Option ℕ → ℕ → ℕ
part_for None size = size
part_for (Some room) size = min room size

-- the room that is left behind so many bytes
abbrev pub room_behind : Option ℕ → ℕ → Option ℕ
room_behind None count = None
room_behind (Some room) count = Some (room - count)

-- there is no room for any byte of the piece, which has some
abbrev pub IsFull : Option ℕ → List ℕ → Type 0
IsFull room piece = (room ≡ Some 0) × (piece ≢ [])

-- A put to a sink is counted, and fails exactly where its number is one of those that fail, or where there
-- is no room. Else it takes as much of the piece as there is room for.
pub record TakesWhatFits {E : Type 0} (old new : MemorySink) (result : Result ℕ E) (piece : List ℕ) : Type 0 where
  pub counts : Counts (tally_of_sink old) (tally_of_sink new) result
  pub fails : IsErr result ↔ (IsTrue (is_to_fail (tally_of_sink old)) ⊎ IsFull (room_of old) piece)
  pub part : IfOk result (λ count. count ≡ part_for (room_of old) (length piece))
  pub room : MatchResult result (λ count. room_of new ≡ room_behind (room_of old) count) (λ _. room_of new ≡ room_of old)

-- A put to a link is counted, and fails exactly where its number is one of those that fail. Else it takes
-- the whole piece. The pieces that are left stay.
pub record TakesWhole {E : Type 0} (old new : MemoryLink) (result : Result ℕ E) (piece : List ℕ) : Type 0 where
  pub counts : Counts (tally_of_link old) (tally_of_link new) result
  pub fails : IsErr result ↔ IsTrue (is_to_fail (tally_of_link old))
  pub whole : IfOk result (λ count. count ≡ length piece)
  pub pieces_are : pieces_of_link new ≡ pieces_of_link old
