use Rattle.std.proofs.Common.{◌⊎◌, sym, arith, Err}
use Rattle.std.specs.Prelude.{IsErrOf}
use Rattle.list_laws.specs.Only.{IsOnly}
use Rattle.archive_entry.specs.Format.{IsEntryFault}
use Rattle.archive_entry.specs.Spelling.{Spells}
use Rattle.archive_entry.specs.declared.entry.Entry.{Entry}
use Rattle.archive_entry.specs.declared.fault.EntryFault.TheVariants as fault
use Rattle.entry_bodies.proofs.Bodies.{spells_none}
use Rattle.entry_bodies.proofs.Pieces.{no_piece, no_entry, is_piece, shorter}
use Rattle.entry_bodies.proofs.reading.piece_in.Goals as goal

pub returns-in_default-clause-bad : goal.returns-in_default-clause-bad
returns-in_default-clause-bad c = λ _. no_piece c.args.bytes.now (sym c.in_default.ensures)

pub returns-in-Ok-clause-piece : goal.returns-in-Ok-clause-piece
returns-in-Ok-clause-piece c = is_piece c.args.bytes.now c.in-Some.payload.now c.in-Some.rest.now c.in-Ok.entry (λ i. omega (arith, c.type_inv.bytes i)) (sym c.in-Some.ensures) c.in-Ok.ensures.entry

pub returns-in-Ok-clause-shorter : goal.returns-in-Ok-clause-shorter
returns-in-Ok-clause-shorter c = shorter c.args.bytes.now c.in-Some.payload.now c.in-Some.rest.now c.in-Ok.entry (λ i. omega (arith, c.type_inv.bytes i)) (sym c.in-Some.ensures) c.in-Ok.ensures.entry

pub returns-in-Err-Bad-clause-bad : goal.returns-in-Err-Bad-clause-bad
returns-in-Err-Bad-clause-bad c = λ _.
    let p = c.in-Some.payload.now in
    let at = c.in-Err-Bad.field-0-0 in
    let exact : IsErrOf {T = Entry} (Err (fault.Bad at)) fault.OutOfMemory ⊎ IsOnly (Spells p) (IsEntryFault p) (Err (fault.Bad at)) = rw c.in-Err-Bad.field-0-is at c.in-Err-Bad.ensures.exact in
    no_entry c.args.bytes.now p c.in-Some.rest.now (sym c.in-Some.ensures) (spells_none p at exact)
