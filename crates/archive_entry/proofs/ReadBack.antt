-- What is spelled reads back, and fits a journal's frame.
use Rattle.std.proofs.Common.{◌≡◌, ◌+◌, ◌≤◌, ◌++◌, ◌∷◌, length, ap, arith}
use Rattle.std.proofs.lemmas.List.{length-append}
use Rattle.archive_entry.specs.Payload.{entry_or, entry_of_payload}
use Rattle.archive_entry.specs.Spelling.{number, micros, name, kind_byte, sized, spelling, IsEntry}
use Rattle.archive_entry.specs.declared.entry.Entry.{Entry}
use Rattle.archive_entry.proofs.Names.{name_length}
use Rattle.archive_entry.proofs.OneEntry.{entry_again}

pub entry_of_payload-spelling : (e : Entry) → IsEntry e → entry_of_payload (spelling e) ≡ e
unfolding entry_of_payload
entry_of_payload-spelling e is = ap entry_or (entry_again e is)

pub length-spelling : (e : Entry) → length (spelling e) ≡ 30 + length e.author + length e.body
length-spelling e =
    let a = number e.number in
    let b = micros e.moment.micros in
    let c = name e.author in
    let d = number e.seq in
    let t = kind_byte e.kind ∷ sized e.body in
    omega (arith, length-append (a ++ b ++ c ++ d) t, length-append (a ++ b ++ c) d, length-append (a ++ b) c, length-append a b)

-- a spelling has from 1 to 2,097,152 bytes
pub spelling_fits : (e : Entry) → IsEntry e → (1 ≤ length (spelling e)) × (length (spelling e) ≤ 2097152)
spelling_fits e is =
    let size = length-spelling e in
    let author = (name_length e.author is.author).1 in
    let body = is.within in
    (omega (arith, size), omega (arith, size, author, body))
