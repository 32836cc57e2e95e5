-- What is told of a stop has the row of the stop, or that of want of memory.
use Rattle.std.proofs.Common.{◌≡◌, ◌⊎◌, inl, inr, Result, Ok, Err, refl, sym, ap, subst}
use Rattle.std.specs.Prelude.{⊤}
use Rattle.centre.specs.Ends.{EndsBy, ending_by}
use Rattle.centre.specs.Table.{ToldFor}
use Rattle.centre.specs.declared.ending.Refusal.TheVariants.{UnknownCommand, Value, Order, Record, NoData, TooLarge, TooManyLines, InputTooLong, NotEmpty, NotAJournal, Damaged, RequestCut, Peer, BadReply, Lost, Moved, Requests}
use Rattle.centre.specs.declared.ending.Stop.{Stop}
use Rattle.centre.specs.declared.ending.Stop.TheVariants.{Refused, ReadFault, WriteFault, DiskFault, PortFault, NoLink, OutOfMemory}

-- the text of the stop has numbers
abbrev pub MayRunOut : Stop → Type 0
MayRunOut (Refused (Record at fault)) = ⊤
MayRunOut (Refused (TooLarge bytes limit)) = ⊤
MayRunOut (Refused (TooManyLines lines limit)) = ⊤
MayRunOut (Refused (Damaged at)) = ⊤
MayRunOut (Refused (Peer status)) = ⊤
MayRunOut (Refused (Moved a b)) = ⊤
MayRunOut _ = ⊥

abbrev Tells : Stop → Stop → Type 0
Tells stop told = (told ≡ stop) ⊎ (MayRunOut stop × (told ≡ OutOfMemory))

by_numbers : (stop told : Stop) → MayRunOut stop → (told ≡ stop) ⊎ (told ≡ OutOfMemory) → Tells stop told
by_numbers stop told may (inl same) = inl same
by_numbers stop told may (inr none) = inr (may, none)

tells : (stop told : Stop) → ToldFor stop told → Tells stop told
tells (Refused (Record at fault)) told e = by_numbers (Refused (Record at fault)) told tt e
tells (Refused (TooLarge bytes limit)) told e = by_numbers (Refused (TooLarge bytes limit)) told tt e
tells (Refused (TooManyLines lines limit)) told e = by_numbers (Refused (TooManyLines lines limit)) told tt e
tells (Refused (Damaged at)) told e = by_numbers (Refused (Damaged at)) told tt e
tells (Refused (Peer status)) told e = by_numbers (Refused (Peer status)) told tt e
tells (Refused (Moved a b)) told e = by_numbers (Refused (Moved a b)) told tt e
tells (Refused UnknownCommand) told e = inl e
tells (Refused (Value word)) told e = inl e
tells (Refused Order) told e = inl e
tells (Refused NoData) told e = inl e
tells (Refused InputTooLong) told e = inl e
tells (Refused NotEmpty) told e = inl e
tells (Refused NotAJournal) told e = inl e
tells (Refused RequestCut) told e = inl e
tells (Refused BadReply) told e = inl e
tells (Refused Lost) told e = inl e
tells (Refused Requests) told e = inl e
tells ReadFault told e = inl e
tells WriteFault told e = inl e
tells DiskFault told e = inl e
tells PortFault told e = inl e
tells NoLink told e = inl e
tells OutOfMemory told e = inl e

module _ {E : Type 0} (stop_for : E → Stop) (Row : Result (Unit {0}) E → Type 0) (none : E) (is : stop_for none ≡ OutOfMemory)
    (starves : (why : E) → MayRunOut (stop_for why) → Row (Err why) → Row (Err none)) where
  starved_by : (stop : Stop) → MayRunOut stop → (outcome : Result (Unit {0}) E) → Row outcome → (let one : Result (Unit {0}) Stop = Err stop in one) ≡ ending_by stop_for outcome → EndsBy stop_for Row (Err OutOfMemory)
  starved_by stop may (Ok done) row same = absurd cc
  starved_by stop may (Err why) row same =
      let e : stop ≡ stop_for why = cc in
      record { outcome = Err none; row = starves why (subst MayRunOut e may) row; same = ap Err (sym is) }

  -- where want of memory, told in its stead, has a row too
  pub told_by : (stop told : Stop) → EndsBy stop_for Row (Err stop) → ToldFor stop told → EndsBy stop_for Row (Err told)
  told_by stop told row e =
      let P : Stop → Type 0 = λ s. EndsBy stop_for Row (Err s) in
      elim (tells stop told e) [
        | inl same ↦ subst P (sym same) row
        | inr out ↦ subst P (sym out.1) (starved_by stop out.0 row.outcome row.row row.same)
      ]
