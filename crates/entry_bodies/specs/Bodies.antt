-- A body of entries, as a replica is given them: of each, in order, its spelling's length as four bytes with the highest
-- first, and its spelling.
use Rattle.std.specs.Prelude.{◌≡◌, ℕ, ◌-◌, ◌≤◌, List, [], ◌∷◌, ◌++◌, length, take, drop, Option, Some, None, Result, Ok, Err, nat_le, if◌then◌else◌, ⊤}
use Rattle.std.specs.List.{AllByRecursion, flat_map}
use Rattle.std.specs.Int.{w32, to_be_bytes, from_be_bytes}
use Rattle.archive_entry.specs.Spelling.{IsEntry, spelling}
use Rattle.archive_entry.specs.declared.entry.Entry.{Entry}
use Rattle.entry_bodies.specs.declared.reading.BodyFault.{BodyFault}
use Rattle.entry_bodies.specs.declared.reading.BodyFault.TheVariants as fault
use Rattle.entry_bodies.specs.declared.writing.BodyRefusal.{BodyRefusal}
use Rattle.entry_bodies.specs.declared.writing.BodyRefusal.TheVariants.{Empty, TooLarge, OutOfMemory as NoMemory}

-- one piece
abbrev pub sized : List ℕ → List ℕ
sized payload = to_be_bytes w32 (length payload) ++ payload

-- closed, since no proof but those on pieces needs to see it
unfoldable pub piece_of : Entry → List ℕ
piece_of e = sized (spelling e)

abbrev pub pieces_of : List Entry → List ℕ
pieces_of es = flat_map piece_of es

-- the bytes are a body of these entries
pub record IsBody (bytes : List ℕ) (es : List Entry) : Type 0 where
  pub bytes_are : bytes ≡ pieces_of es
  pub entries : AllByRecursion IsEntry es

-- no piece begins the bytes
abbrev pub NoPiece : List ℕ → Type 0
NoPiece bytes = (e : Entry) (rest : List ℕ) → IsEntry e → bytes ≡ piece_of e ++ rest → ⊥

-- behind whole pieces there are bytes at this offset, and no piece begins them
pub record IsBadBody (bytes : List ℕ) (at : ℕ) : Type 0 where
  pub before : List Entry
  pub rest : List ℕ
  pub entries : AllByRecursion IsEntry before
  pub split : bytes ≡ pieces_of before ++ rest
  pub at_is : at ≡ length (pieces_of before)
  pub some : 1 ≤ length rest
  pub none : NoPiece rest

-- how a body is read: a number of four bytes, and as many bytes as it says
abbrev pub size_in : List ℕ → Option (ℕ × List ℕ)
size_in bytes = if nat_le 4 (length bytes) then Some (from_be_bytes w32 (take 4 bytes), drop 4 bytes) else None

abbrev pub cut_in : ℕ → List ℕ → Option (List ℕ × List ℕ)
cut_in size rest = if nat_le size (length rest) then Some (take size rest, drop size rest) else None

abbrev pub cut_by : Option (ℕ × List ℕ) → Option (List ℕ × List ℕ)
cut_by None = None
cut_by (Some x) = cut_in x.0 x.1

abbrev pub payload_in : List ℕ → Option (List ℕ × List ℕ)
payload_in bytes = cut_by (size_in bytes)

-- why a body isn't read; want of memory is free
abbrev pub RefusesBody : List ℕ → BodyFault → Type 0
RefusesBody body (fault.Form at) = IsBadBody body at
RefusesBody body fault.OutOfMemory = ⊤

-- ---- the body of a history's entries

-- as many of the first entries as have at most so many bytes in a body
abbrev pub fitting : ℕ → List Entry → List Entry
fitting most [] = []
fitting most (e ∷ es) =
    if nat_le (length (piece_of e)) most then e ∷ fitting (most - length (piece_of e)) es
    else []

-- none, where there is no entry; too large, where the first alone has more bytes; else those that fit
abbrev pub body_of : List Entry → ℕ → Result (List ℕ) BodyRefusal
body_of [] most = Err Empty
body_of (e ∷ es) most =
    if nat_le (length (piece_of e)) most then Ok (pieces_of (fitting most (e ∷ es)))
    else Err (TooLarge (length (piece_of e)))

-- the body of a history from the entry of a number on, of at most so many bytes
abbrev pub entries_body : List Entry → (from most : ℕ) → Result (List ℕ) BodyRefusal
entries_body h from most = body_of (drop (from - 1) h) most

-- why there is no body; want of memory is free
abbrev pub RefusesAs : Result (List ℕ) BodyRefusal → BodyRefusal → Type 0
RefusesAs answer NoMemory = ⊤
RefusesAs answer refusal = answer ≡ Err refusal
