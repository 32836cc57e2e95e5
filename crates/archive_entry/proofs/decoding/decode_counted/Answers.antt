use Rattle.std.proofs.Common.{◌≡◌, ◌⊎◌, ap, ℕ, Ok, Err, inl, inr, subst, sym, arith}
use Rattle.std.specs.Prelude.{IsErrOf}
use Rattle.list_laws.specs.Only.{IsOnly}
use Rattle.archive_entry.specs.Format.{IsEntryFault, RefusesPayload}
use Rattle.archive_entry.specs.Spelling.{Spells}
use Rattle.archive_entry.specs.declared.entry.Entry.{Entry}
use Rattle.archive_entry.specs.declared.fault.EntryFault.{EntryFault}
use Rattle.archive_entry.specs.declared.fault.EntryFault.TheVariants as fault
use Rattle.archive_entry.proofs.OneEntry.{entry_takes}
use Rattle.archive_entry.proofs.Payloads.{only_payload, refused_by, exact_by}
use Rattle.archive_entry.proofs.decoding.decode_counted.Goals as goal

pub returns-in-Ok-clause-entry : goal.returns-in-Ok-clause-entry
returns-in-Ok-clause-entry c = entry_takes c.args.payload.now c.in-Ok.read.0 (λ i. omega (arith, c.type_inv.payload i)) c.in-Ok.ensures.gives

pub returns-in-Ok-clause-exact : goal.returns-in-Ok-clause-exact
returns-in-Ok-clause-exact c = inr (only_payload c.args.payload.now (Ok c.in-Ok.read.0) (entry_takes c.args.payload.now c.in-Ok.read.0 (λ i. omega (arith, c.type_inv.payload i)) c.in-Ok.ensures.gives))

pub returns-in-Err-clause-refused : goal.returns-in-Err-clause-refused
returns-in-Err-clause-refused c = subst (RefusesPayload c.args.payload.now) (sym c.fault_of.ensures) (refused_by c.args.payload.now c.in-Err.unread c.in-Err.ensures.gives)

pub returns-in-Err-clause-exact : goal.returns-in-Err-clause-exact
returns-in-Err-clause-exact c =
    let payload = c.args.payload.now in
    let told : (f : EntryFault) → IsErrOf {T = Entry} (Err f) fault.OutOfMemory ⊎ IsOnly (Spells payload) (IsEntryFault payload) (Err f) → IsErrOf {T = Entry × ℕ} (Err f) fault.OutOfMemory ⊎ IsOnly (Spells payload) (IsEntryFault payload) (Err f) =
    λ f is. elim is [ inl memory ↦ (let same : f ≡ fault.OutOfMemory = cc in inl (ap Err same)) | inr only ↦ inr only ] in
    told c.fault_of.result (subst (λ (f : EntryFault). IsErrOf {T = Entry} (Err f) fault.OutOfMemory ⊎ IsOnly (Spells payload) (IsEntryFault payload) (Err f)) (sym c.fault_of.ensures) (exact_by payload c.in-Err.unread c.in-Err.ensures.gives))
