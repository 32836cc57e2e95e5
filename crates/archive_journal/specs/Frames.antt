-- The bytes of a journal's file: 16 bytes of magic, then frames. A frame is a gate, the payload's length
-- as four bytes with the greatest first, and the payload. A gate of 1 is open, every other byte is a
-- closed one. The payloads are those of the frames up to the first closed gate; what follows it isn't
-- read.
use Rattle.std.specs.Prelude.{◌≡◌, ◌≢◌, ◌⊎◌, ℕ, zero, suc, ◌+◌, ◌<◌, ◌≤◌, List, [], ◌∷◌, ◌++◌, length, take, drop, slice_index, Bool, false, ◌&&◌, ◌==◌, nat_lt, nat_le, if◌then◌else◌, codes, ⊤}
use Rattle.std.specs.List.{AllByRecursion}
use Rattle.std.specs.Int.{to_be_bytes, from_be_bytes, w32}
use Rattle.std.specs.Str.{bytes_eq}

-- what a journal's file begins with
abbrev pub magic : List ℕ
magic = codes "FDSNARCHIVE-0001"

-- the gate of a frame that counts
abbrev pub open_gate : ℕ
open_gate = 1

-- the closed gate that a journal writes before its next frame
abbrev pub closed_gate : ℕ
closed_gate = 0

-- the most bytes of a payload
abbrev pub limit : ℕ
limit = 2097152

-- a payload has from 1 to so many bytes
pub record IsSized (payload : List ℕ) : Type 0 where
  pub some : 1 ≤ length payload
  pub within : length payload ≤ limit

-- a frame without its gate
abbrev pub body_of : List ℕ → List ℕ
body_of payload = to_be_bytes w32 (length payload) ++ payload

-- the open frames of these payloads, one after another
abbrev pub frames : List (List ℕ) → List ℕ
frames [] = []
frames (payload ∷ payloads) = open_gate ∷ body_of payload ++ frames payloads

-- the file of these payloads up to the closed gate
unfoldable pub front_of : List (List ℕ) → List ℕ
front_of payloads = magic ++ frames payloads

-- The file is a journal of these payloads: their open frames, and a closed gate, behind which anything
-- may stand.
pub record IsJournal (payloads : List (List ℕ)) (file : List ℕ) : Type 0 where
  pub gate : ℕ
  pub rest : List ℕ
  pub file_is : file ≡ front_of payloads ++ gate ∷ rest
  pub closed : gate ≢ open_gate
  pub sized : AllByRecursion IsSized payloads

-- the length that stands behind a gate
abbrev pub size_in : List ℕ → ℕ
size_in behind = from_be_bytes w32 (take 4 behind)

-- behind a gate stands a whole frame: its length is from 1 to the limit, and not past the file's end
abbrev pub is_whole : List ℕ → Bool
is_whole behind = nat_lt 0 (size_in behind) && nat_le (size_in behind) limit && nat_le (4 + size_in behind) (length behind)

-- here a gate is missing, or is open before a frame that isn't whole
abbrev pub IsBroken : List ℕ → Type 0
IsBroken [] = ⊤
IsBroken (gate ∷ behind) = (gate ≡ open_gate) × (is_whole behind ≡ false)

-- The file is damaged at this offset: it has the magic and a gate, and behind whole open frames there
-- is no frame and no closed gate.
pub record IsDamaged (at : ℕ) (file : List ℕ) : Type 0 where
  pub payloads : List (List ℕ)
  pub rest : List ℕ
  pub file_is : file ≡ front_of payloads ++ rest
  pub sized : AllByRecursion IsSized payloads
  pub at_is : at ≡ length (front_of payloads)
  pub broken : IsBroken rest
  pub long : 17 ≤ length file

-- the file is no journal: it has fewer bytes than the magic and a gate, or another magic
abbrev pub IsNoJournal : List ℕ → Type 0
IsNoJournal file = (length file < 17) ⊎ (take 16 file ≢ magic)

-- each is a byte
abbrev pub IsBytes : List ℕ → Type 0
IsBytes file = (k : ℕ) → slice_index file k < 256

-- what the bytes of a file say
pub data Reading : Type 0 where
  holding : List (List ℕ) → Reading
  no_journal : Reading
  damaged_at : ℕ → Reading

-- the reading says so rightly
abbrev pub Describes : Reading → List ℕ → Type 0
Describes (holding payloads) file = IsJournal payloads file
Describes no_journal file = IsNoJournal file
Describes (damaged_at at) file = IsDamaged at file

-- a payload before those of a reading
abbrev pub with_first : List ℕ → Reading → Reading
with_first payload (holding payloads) = holding (payload ∷ payloads)
with_first payload no_journal = no_journal
with_first payload (damaged_at at) = damaged_at at

-- what the bytes from a gate at this offset on say; they are at most n
abbrev pub frames_from : ℕ → ℕ → List ℕ → Reading
frames_from zero at file = damaged_at at
frames_from (suc n) at [] = damaged_at at
frames_from (suc n) at (gate ∷ behind) =
    if gate == open_gate then (if is_whole behind then with_first (take (size_in behind) (drop 4 behind)) (frames_from n (at + 5 + size_in behind) (drop (4 + size_in behind) behind)) else damaged_at at) else holding []

-- What a file says, of all files: its payloads, or that it is no journal, or where it is damaged. It is
-- the one reading that describes the file (the law `a_file_reads_in_one_way`).
unfoldable pub reading_of : List ℕ → Reading
reading_of file = if nat_lt (length file) 17 then no_journal else (if bytes_eq (take 16 file) magic then frames_from (length file) 16 (drop 16 file) else no_journal)

-- the file says that it is a journal of these payloads
abbrev pub Holds : List (List ℕ) → List ℕ → Type 0
Holds payloads file = reading_of file ≡ holding payloads

-- the file says that it is a journal of these payloads, or of these and one more
abbrev pub HoldsWithOrWithout : List (List ℕ) → List ℕ → List ℕ → Type 0
HoldsWithOrWithout payloads payload file = Holds payloads file ⊎ Holds (payloads ++ payload ∷ []) file

-- what a commit writes behind its gate: a frame without its gate, and the next gate, closed
pub record IsFrame (bytes payload : List ℕ) : Type 0 where
  pub bytes_are : bytes ≡ body_of payload ++ closed_gate ∷ []
  pub sized : IsSized payload
