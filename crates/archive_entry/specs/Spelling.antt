-- How an entry is spelled: its number and its moment, its author behind a byte of length, its sequence number, a
-- byte of its kind, and its body behind a length of four bytes. Numbers have their highest byte first, and all but
-- the lengths and the kind have eight bytes.
use Rattle.std.specs.Prelude.{◌≡◌, ℕ, ◌<◌, ◌≤◌, ◌^◌, ℤ, List, ◌∷◌, ◌++◌, length, true}
use Rattle.std.specs.Int.{w32, w64, to_be_bytes, cast_unsigned}
use Rattle.std.specs.Int.RustNames.{FitsSigned}
use Rattle.epochs.specs.Fields.{is_user_name}
use Rattle.archive_entry.specs.Bodies.{is_body}
use Rattle.archive_entry.specs.declared.entry.Entry.{Entry}
use Rattle.archive_entry.specs.declared.entry.Kind.{Kind}
use Rattle.archive_entry.specs.declared.entry.Kind.TheVariants.{Batch, Revise}

abbrev pub number : ℕ → List ℕ
number n = to_be_bytes w64 n

-- microseconds since 1970, in two's complement
abbrev pub micros : ℤ → List ℕ
micros m = to_be_bytes w64 (cast_unsigned w64 m)

abbrev pub name : List ℕ → List ℕ
name bytes = length bytes ∷ bytes

abbrev pub kind_byte : Kind → ℕ
kind_byte Batch = 1
kind_byte Revise = 2

abbrev pub sized : List ℕ → List ℕ
sized body = to_be_bytes w32 (length body) ++ body

abbrev pub spelling : Entry → List ℕ
spelling e = number e.number ++ micros e.moment.micros ++ name e.author ++ number e.seq ++ (kind_byte e.kind ∷ sized e.body)

-- how many bytes a body may have
abbrev pub most_bytes : ℕ
most_bytes = 1_048_576

-- what has a spelling: numbers that fit eight bytes, a user's name, and a body that reads by its kind
pub record IsEntry (e : Entry) : Type 0 where
  pub number : e.number < 2 ^ 64
  pub moment : FitsSigned w64 e.moment.micros
  pub author : is_user_name e.author ≡ true
  pub seq : e.seq < 2 ^ 64
  pub some : 1 ≤ length e.body
  pub within : length e.body ≤ most_bytes
  pub reads : is_body e.kind e.body ≡ true

-- the payload spells the entry, all of it
pub record Spells (payload : List ℕ) (e : Entry) : Type 0 where
  pub is_entry : IsEntry e
  pub bytes : payload ≡ spelling e
