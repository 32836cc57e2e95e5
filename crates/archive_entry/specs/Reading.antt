-- How the private readers read an entry, field by field from left to right. A fault is how many bytes are left
-- where the first field begins that can't stand there; `bad_field` of `specs/Format.antt` says it by offsets.
use Rattle.std.specs.Prelude.{◌≡◌, ℕ, suc, ◌-◌, ◌==◌, ◌&&◌, List, [], ◌∷◌, length, take, drop, Result, Ok, Err, nat_le, if◌then◌else◌, ⊤}
use Rattle.std.specs.Int.{Width, w32, w64, byte_len, from_be_bytes, cast_signed}
use Rattle.exact_time.specs.declared.moment.Moment.{Moment}
use Rattle.epochs.specs.Fields.{is_user_name}
use Rattle.archive_entry.specs.Bodies.{is_body}
use Rattle.archive_entry.specs.Format.{is_name_size, is_kind_byte, is_body_size}
use Rattle.archive_entry.specs.declared.entry.Entry.{Entry}
use Rattle.archive_entry.specs.declared.entry.Kind.{Kind}
use Rattle.archive_entry.specs.declared.entry.Kind.TheVariants.{Batch, Revise}
use Rattle.archive_entry.specs.declared.fault.EntryFault.{EntryFault}
use Rattle.archive_entry.specs.declared.fault.EntryFault.TheVariants as fault
use Rattle.archive_entry.specs.declared.fault.Unread.{Unread}
use Rattle.archive_entry.specs.declared.fault.Unread.TheVariants as unread

infixl 10 ◌>>=◌
abbrev pub ◌>>=◌ : {A B : Type 0} → Result A ℕ → (A → Result B ℕ) → Result B ℕ
(Ok x) >>= f = f x
(Err e) >>= f = Err e

-- what a reader returned, seen by view, is what reading gives, unless memory ran out
abbrev pub Fails : {Y : Type 0} → Unread → Result Y ℕ → Type 0
Fails unread.OutOfMemory read = ⊤
Fails (unread.Bad left) read = read ≡ Err left

abbrev pub Gives : {X Y : Type 0} → (X → Y) → Result X Unread → Result Y ℕ → Type 0
Gives view (Ok x) read = read ≡ Ok (view x)
Gives view (Err e) read = Fails e read

-- a field is a value and the bytes behind it
abbrev pub number_at : Width → List ℕ → Result (ℕ × List ℕ) ℕ
number_at w bytes =
    if nat_le (byte_len w) (length bytes) then Ok (from_be_bytes w (take (byte_len w) bytes), drop (byte_len w) bytes)
    else Err (length bytes)

abbrev pub moment_of : ℕ → Moment
moment_of n = record { micros = cast_signed w64 n }

-- so many bytes that are a user's name
abbrev pub name_of : ℕ → List ℕ → Result (List ℕ × List ℕ) ℕ
name_of n rest =
    if nat_le n (length rest) && is_user_name (take n rest) then Ok (take n rest, drop n rest) else Err (length rest)

abbrev pub name_at : List ℕ → Result (List ℕ × List ℕ) ℕ
name_at [] = Err 0
name_at (n ∷ rest) = if is_name_size n then name_of n rest else Err (suc (length rest))

abbrev pub kind_of : ℕ → Kind
kind_of k = if k == 1 then Batch else Revise

abbrev pub kind_at : List ℕ → Result (Kind × List ℕ) ℕ
kind_at [] = Err 0
kind_at (k ∷ rest) = if is_kind_byte k then Ok (kind_of k, rest) else Err (suc (length rest))

-- so many bytes that are a body of the kind
abbrev pub body_of : Kind → ℕ → List ℕ → Result (List ℕ × List ℕ) ℕ
body_of kind n rest =
    if nat_le n (length rest) && is_body kind (take n rest) then Ok (take n rest, drop n rest) else Err (length rest)

unfoldable pub body_at : Kind → List ℕ → Result (List ℕ × List ℕ) ℕ
body_at kind bytes = do
  n ← number_at w32 bytes
  if is_body_size n.0 then body_of kind n.0 n.1 else Err (length bytes)

-- the fields before the kind, and those from it on
pub record Head : Type 0 where
  pub number : ℕ
  pub moment : Moment
  pub author : List ℕ
  pub seq : ℕ

unfoldable pub head_at : List ℕ → Result (Head × List ℕ) ℕ
head_at bytes = do
  n ← number_at w64 bytes
  m ← number_at w64 n.1
  a ← name_at m.1
  s ← number_at w64 a.1
  Ok (record { number = n.0; moment = moment_of m.0; author = a.0; seq = s.0 }, s.1)

unfoldable pub tail_at : List ℕ → Result ((Kind × List ℕ) × List ℕ) ℕ
tail_at bytes = do
  k ← kind_at bytes
  b ← body_at k.0 k.1
  Ok ((k.0, b.0), b.1)

abbrev pub entry_from : Head → Kind × List ℕ → Entry
entry_from h t = record { number = h.number; moment = h.moment; author = h.author; seq = h.seq; kind = t.0; body = t.1 }

-- an entry with nothing behind it
abbrev pub whole_entry : Head → (Kind × List ℕ) × List ℕ → Result Entry ℕ
whole_entry h t = if length t.1 == 0 then Ok (entry_from h t.0) else Err (length t.1)

unfoldable pub entry_in : List ℕ → Result Entry ℕ
entry_in bytes = do
  h ← head_at bytes
  t ← tail_at h.1
  whole_entry h.0 t

-- how a field that isn't read is told of a payload of so many bytes
abbrev pub fault_of : ℕ → Unread → EntryFault
fault_of size (unread.Bad left) = fault.Bad (size - left)
fault_of size unread.OutOfMemory = fault.OutOfMemory
