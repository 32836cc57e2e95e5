-- What a payload says, as a function of all payloads, so that a list of payloads is a list of entries.
use Rattle.std.specs.Prelude.{ℕ, List, [], pos, Result, Ok, Err}
use Rattle.archive_entry.specs.Reading.{entry_in}
use Rattle.archive_entry.specs.declared.entry.Entry.{Entry}
use Rattle.archive_entry.specs.declared.entry.Kind.TheVariants.{Batch}

-- what stands for the entry of a payload that spells none
abbrev pub no_entry : Entry
no_entry = record { number = 0; moment = record { micros = pos 0 }; author = []; seq = 0; kind = Batch; body = [] }

abbrev pub entry_or : Result Entry ℕ → Entry
entry_or (Ok e) = e
entry_or (Err left) = no_entry

-- The entry that a payload spells, where it spells one. What was spelled is given back (the law
-- `what_is_spelled_reads_back`).
unfoldable pub entry_of_payload : List ℕ → Entry
entry_of_payload payload = entry_or (entry_in payload)
