-- The fields of a payload, each with the offset at which it begins, and the first that can't stand there. A byte
-- that isn't there counts as 0.
use Rattle.std.specs.Prelude.{◌≡◌, ℕ, ◌+◌, ◌==◌, ◌&&◌, ◌||◌, Bool, List, length, slice_index, take, drop, Option, Some, None, Result, Ok, Err, nat_le, if◌then◌else◌, ⊤}
use Rattle.std.specs.Int.{w32, from_be_bytes}
use Rattle.epochs.specs.Fields.{is_user_name}
use Rattle.archive_entry.specs.Bodies.{is_body}
use Rattle.archive_entry.specs.Spelling.{most_bytes}
use Rattle.archive_entry.specs.declared.entry.Entry.{Entry}
use Rattle.archive_entry.specs.declared.entry.Kind.{Kind}
use Rattle.archive_entry.specs.declared.entry.Kind.TheVariants.{Batch, Revise}
use Rattle.archive_entry.specs.declared.fault.EntryFault.{EntryFault}
use Rattle.archive_entry.specs.declared.fault.EntryFault.TheVariants as fault

-- the author's name: behind a byte of its length
abbrev pub name_size : List ℕ → ℕ
name_size payload = slice_index payload 16

abbrev pub is_name_size : ℕ → Bool
is_name_size n = nat_le 1 n && nat_le n 32

abbrev pub author_in : List ℕ → List ℕ
author_in payload = take (name_size payload) (drop 17 payload)

-- the fields behind the name
abbrev pub seq_begin : List ℕ → ℕ
seq_begin payload = 17 + name_size payload

abbrev pub kind_begin : List ℕ → ℕ
kind_begin payload = seq_begin payload + 8

abbrev pub size_begin : List ℕ → ℕ
size_begin payload = kind_begin payload + 1

abbrev pub body_begin : List ℕ → ℕ
body_begin payload = size_begin payload + 4

abbrev pub is_kind_byte : ℕ → Bool
is_kind_byte k = k == 1 || k == 2

abbrev pub kind_in : List ℕ → Kind
kind_in payload = if slice_index payload (kind_begin payload) == 1 then Batch else Revise

-- the body, behind its length
abbrev pub body_size : List ℕ → ℕ
body_size payload = from_be_bytes w32 (take 4 (drop (size_begin payload) payload))

abbrev pub is_body_size : ℕ → Bool
is_body_size n = nat_le 1 n && nat_le n most_bytes

abbrev pub body_in : List ℕ → List ℕ
body_in payload = take (body_size payload) (drop (body_begin payload) payload)

abbrev pub body_end : List ℕ → ℕ
body_end payload = body_begin payload + body_size payload

-- there are so many bytes
abbrev pub has : List ℕ → ℕ → Bool
has payload size = nat_le size (length payload)

-- a field can stand at this offset, and else it is the first that can't
abbrev pub unless : Bool → ℕ → Option ℕ → Option ℕ
unless stands at later = if stands then later else Some at

-- the offset of the first field that can't stand there: a field that is cut off, a length that no name or no body
-- has, a name that isn't a user's, a kind that isn't known, a body that doesn't read by its kind, more bytes
abbrev pub bad_body : List ℕ → Option ℕ
bad_body payload =
    unless (is_kind_byte (slice_index payload (kind_begin payload))) (kind_begin payload) (
    unless (has payload (body_begin payload) && is_body_size (body_size payload)) (size_begin payload) (
    unless (has payload (body_end payload) && is_body (kind_in payload) (body_in payload)) (body_begin payload) (
    unless (length payload == body_end payload) (body_end payload)
    None)))

abbrev pub bad_field : List ℕ → Option ℕ
bad_field payload =
    unless (has payload 8) 0 (
    unless (has payload 16) 8 (
    unless (is_name_size (name_size payload)) 16 (
    unless (has payload (seq_begin payload) && is_user_name (author_in payload)) 17 (
    unless (has payload (kind_begin payload)) (seq_begin payload) (
    bad_body payload)))))

-- why a payload spells no entry; want of memory has no cause in it
abbrev pub IsEntryFault : List ℕ → EntryFault → Type 0
IsEntryFault payload (fault.Bad at) = bad_field payload ≡ Some at
IsEntryFault payload fault.OutOfMemory = ⊥

-- why no entry was read; want of memory is free
abbrev pub RefusesPayload : List ℕ → EntryFault → Type 0
RefusesPayload payload (fault.Bad at) = bad_field payload ≡ Some at
RefusesPayload payload fault.OutOfMemory = ⊤

-- what was read, without how many records it has
abbrev pub entry_read : Result (Entry × ℕ) EntryFault → Result Entry EntryFault
entry_read (Ok read) = Ok read.0
entry_read (Err fault) = Err fault
