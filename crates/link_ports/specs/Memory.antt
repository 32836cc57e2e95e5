-- What a port in memory tells, and what one call does to it. `old` is the port before the call, `new` after it.
use Rattle.std.specs.Prelude.{◌≡◌, ◌↔◌, Bool, true, false, List, [], ◌∷◌, map, Option, None, Some, Result, Ok, Err, IsErr, IsTrue}
use Rattle.std.specs.Vec.Iter.{into_iter_items}
use Rattle.exact_time.specs.declared.error.Failed.{Failed}
use Rattle.streams.specs.Calls.{faults_of, is_to_fail, Counts}
use Rattle.streams.specs.View.{StreamView}
use Rattle.streams.specs.declared.tally.Tally.{Tally}
use Rattle.link_ports.specs.Ports.{PortView, Visitor, visitor}
use Rattle.link_ports.specs.declared.memory.MemoryPort.{MemoryPort}
use Rattle.link_ports.specs.declared.memory.Returned.{Returned}

-- the links that are left, the calls, and the links that came back, unless one was lost
abbrev pub links_of : {L : Type 0} → MemoryPort L → List L
links_of port = into_iter_items port.links

abbrev pub calls_of : {L : Type 0} → MemoryPort L → Tally
calls_of port = port.tally

abbrev pub told_if : {A : Type 0} → Bool → A → Option A
told_if true back = Some back
told_if false back = None

abbrev pub back_of : {L : Type 0} → MemoryPort L → Option (List (Returned L))
back_of port = told_if port.tells port.back

abbrev pub visitor_of : {L : Type 0} → (L → StreamView) → Returned L → Visitor
visitor_of see returned = visitor (see returned.link) returned.turns

-- what is told of it; `see` is what is told of a link
abbrev pub port_view : {L : Type 0} → (L → StreamView) → MemoryPort L → PortView
port_view see port = record {
  left = Some (map see (links_of port));
  back = told_if port.tells (map (visitor_of see) port.back);
  faults = faults_of port.tally;
}

-- the links that an `accept` leaves: all but the first one, which it gives; none where there is none; all where it fails
abbrev pub GivesFirst : {L : Type 0} → List L → List L → Result (Option L) Failed → Type 0
GivesFirst old new (Ok (Some link)) = old ≡ link ∷ new
GivesFirst old new (Ok None) = (old ≡ []) × (new ≡ [])
GivesFirst old new (Err failed) = new ≡ old

-- An `accept` is counted, fails exactly where its number is one of those that fail, and else gives the first link that is
-- left.
pub record GivesNext {L : Type 0} (old new : MemoryPort L) (result : Result (Option L) Failed) : Type 0 where
  pub counts : Counts (calls_of old) (calls_of new) result
  pub fails : IsErr result ↔ IsTrue (is_to_fail (calls_of old))
  pub links : GivesFirst (links_of old) (links_of new) result
