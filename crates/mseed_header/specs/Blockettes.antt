-- The chain of a record's blockettes (SEED 2.4, data record blockettes): each begins with its type
-- and the offset of the next one, which is 0 at the end. A blockette 1000 or 1001 has 8 bytes; of one
-- of another type the first 4 count.
use Rattle.std.specs.Prelude.{◌≡◌, ◌==◌, ◌||◌, ℕ, zero, suc, ◌+◌, ◌<◌, ◌≤◌, ◌^◌, ℤ, pos, Bool, List, [], ◌∷◌, length, slice_index, Option, None, Some, IfSome, ⊤, if◌then◌else◌, nat_le}
use Rattle.std.specs.Int.{IsInRange}
use Rattle.std.specs.List.{find, AllByRecursion}
use Rattle.std.specs.Option.{option_map, unwrap_or}
use Rattle.std.specs.Coded.{Unit-prop}
use Rattle.std.proofs.Props.{props}
use Rattle.mseed_header.specs.Fields.{u16_at, i8_at}
use Rattle.mseed_header.specs.Steps.{unless, no_fault}
use Rattle.mseed_header.specs.declared.header.RecordFault.{RecordFault}
use Rattle.mseed_header.specs.declared.header.RecordFault.TheVariants.{Short, Chain, Length}

-- the type of the blockette at an offset, the offset of the next one, its bytes, and where it ends
abbrev pub kind_at : Bool → List ℕ → ℕ → ℕ
kind_at little bytes p = u16_at little bytes p

abbrev pub next_at : Bool → List ℕ → ℕ → ℕ
next_at little bytes p = u16_at little bytes (p + 2)

abbrev pub size_at : Bool → List ℕ → ℕ → ℕ
size_at little bytes p = if kind_at little bytes p == 1000 || kind_at little bytes p == 1001 then 8 else 4

abbrev pub end_at : Bool → List ℕ → ℕ → ℕ
end_at little bytes p = p + size_at little bytes p

-- the offset of the first blockette, in the fixed section
abbrev pub first_at : Bool → List ℕ → ℕ
first_at little bytes = u16_at little bytes 46

-- The offsets are the first of a chain, which begins with `first`: each is the one that was named before
-- it, is not 0, and is not below the end of the blockette before it; and its blockette is whole. `low` is
-- the end of what stands before the first one. A blockette has 4 bytes at least, so the offsets rise.
abbrev pub AreOffsets : Bool → List ℕ → (low first : ℕ) → List ℕ → Type 0
AreOffsets little bytes low first [] = ⊤
AreOffsets little bytes low first (p ∷ ps) =
    (p ≡ first) × (0 < p) × (low ≤ p) × (end_at little bytes p ≤ length bytes)
    × AreOffsets little bytes (end_at little bytes p) (next_at little bytes p) ps

-- the offset that is named after these, and the end of the last of their blockettes
abbrev pub next_after : Bool → List ℕ → (first : ℕ) → List ℕ → ℕ
next_after little bytes first [] = first
next_after little bytes first (p ∷ ps) = next_after little bytes (next_at little bytes p) ps

abbrev pub end_after : Bool → List ℕ → (low : ℕ) → List ℕ → ℕ
end_after little bytes low [] = low
end_after little bytes low (p ∷ ps) = end_after little bytes (end_at little bytes p) ps

-- they are a whole chain, which begins behind the fixed section of 48 bytes
pub record IsChain (little : Bool) (bytes : List ℕ) (offsets : List ℕ) : Type 0 where
  pub sound : AreOffsets little bytes 48 (first_at little bytes) offsets
  pub ends : next_after little bytes (first_at little bytes) offsets ≡ 0

-- The offsets that are named one after another, as far as a 0, or so many at most. A chain has fewer
-- blockettes than the record has bytes, so that all of its offsets are among those.
abbrev pub named_from : Bool → List ℕ → ℕ → (first : ℕ) → List ℕ
named_from little bytes zero first = []
named_from little bytes (suc most) zero = []
named_from little bytes (suc most) (suc p) = suc p ∷ named_from little bytes most (next_at little bytes (suc p))

abbrev pub offsets_of : Bool → List ℕ → List ℕ
offsets_of little bytes = named_from little bytes (length bytes) (first_at little bytes)

-- the first blockette of a type
abbrev pub first_of : Bool → List ℕ → (kind : ℕ) → List ℕ → Option ℕ
first_of little bytes kind offsets = find (λ p. kind_at little bytes p == kind) offsets

-- Blockette 1000 has the exponent of the record's length at its byte 6, and the first one counts.
abbrev pub exponent_at : List ℕ → ℕ → ℕ
exponent_at bytes p = slice_index bytes (p + 6)

abbrev pub record_size : Bool → List ℕ → List ℕ → Option ℕ
record_size little bytes offsets = option_map (λ p. 2 ^ exponent_at bytes p) (first_of little bytes 1000 offsets)

abbrev pub HasExponent : Bool → List ℕ → List ℕ → Type 0
HasExponent little bytes offsets = IfSome (first_of little bytes 1000 offsets) (λ p. IsInRange 7 16 (exponent_at bytes p))

-- Blockette 1001 has microseconds, from -128 to 127, at its byte 5, and the first one counts.
abbrev pub told_micros : Bool → List ℕ → List ℕ → Option ℤ
told_micros little bytes offsets = option_map (λ p. i8_at bytes (p + 5)) (first_of little bytes 1001 offsets)

abbrev pub micros_of : Bool → List ℕ → List ℕ → ℤ
micros_of little bytes offsets = unwrap_or (told_micros little bytes offsets) (pos 0)

-- each blockette ends within so many bytes
abbrev pub EndWithin : Bool → List ℕ → ℕ → List ℕ → Type 0
EndWithin little bytes n offsets = AllByRecursion (λ p. end_at little bytes p ≤ n) offsets

-- the bytes have a chain, and an exponent where there is a blockette 1000
pub record HasChain (little : Bool) (bytes : List ℕ) : Type 0 where
  pub chain : IsChain little bytes (offsets_of little bytes)
  pub exponent : HasExponent little bytes (offsets_of little bytes)

-- how far a blockette reaches: to its end, or over its first 4 bytes where they aren't there
abbrev pub reach_at : Bool → List ℕ → ℕ → ℕ
reach_at little bytes p = if nat_le (p + 4) (length bytes) then end_at little bytes p else p + 4

-- it reaches past the record's length, if that is known
abbrev pub IsPast : Option ℕ → ℕ → Type 0
IsPast None reach = ⊥
IsPast (Some size) reach = size < reach

-- Why no blockette can stand at an offset, by tests in this order. `known` is the record's length, if
-- a blockette before this one gives it, and `low` the end of the one before.
abbrev pub RefusesAt : Bool → List ℕ → (known : Option ℕ) (low at : ℕ) → RecordFault → Type 0
RefusesAt little bytes known low at =
    unless (low ≤ at) Chain (
    unless (¬ ((length bytes < reach_at little bytes at) × IsPast known (reach_at little bytes at))) Chain (
    unless (reach_at little bytes at ≤ length bytes) Short (
    unless (kind_at little bytes at ≡ 1000 → known ≡ None → IsInRange 7 16 (exponent_at bytes at)) Length
    no_fault)))

-- a front of offsets leads to one at which no blockette can stand
pub record RefusesChain (little : Bool) (bytes : List ℕ) (fault : RecordFault) : Type 0 where
  pub front : List ℕ
  pub sound : AreOffsets little bytes 48 (first_at little bytes) front
  pub exponent : HasExponent little bytes front
  pub more : 0 < next_after little bytes (first_at little bytes) front
  pub refused : RefusesAt little bytes (record_size little bytes front) (end_after little bytes 48 front) (next_after little bytes (first_at little bytes) front) fault

-- each of these facts has one proof at most
pub AreOffsets-prop : (little : Bool) (bytes : List ℕ) (low first : ℕ) (offsets : List ℕ) → IsProp (AreOffsets little bytes low first offsets)
AreOffsets-prop little bytes low first [] = Unit-prop
AreOffsets-prop little bytes low first (p ∷ ps) = hlevel (props, AreOffsets-prop little bytes (end_at little bytes p) (next_at little bytes p) ps)

pub HasChain-prop : (little : Bool) (bytes : List ℕ) → IsProp (HasChain little bytes)
HasChain-prop little bytes = hlevel (props, AreOffsets-prop)
