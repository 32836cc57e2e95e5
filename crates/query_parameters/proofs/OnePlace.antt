-- A text names one limit of a place.
use Rattle.std.proofs.Common.{◌≡◌, ℕ, List, Option, Some, None, Ok, sym, ap, ◌∙◌}
use Rattle.exact_time.specs.declared.decimal.Decimal.{Decimal}
use Rattle.exact_time.specs.Decimals.{IsDecimal}
use Rattle.exact_time.proofs.DecimalTexts.{only_decimal}
use Rattle.query_parameters.specs.Parameters.{Parameter}
use Rattle.query_parameters.specs.Places.{IsBound, AreBounds}
use Rattle.query_parameters.specs.Rows.{Text, Named}
use Rattle.query_parameters.specs.declared.area.Area.{Area}

pub one_number : (text : Text) (a b : Decimal) → IsDecimal text a.millionths → IsDecimal text b.millionths → a ≡ b
one_number text a b h k =
    let e : Ok b ≡ Ok a = (only_decimal text (Ok a) h).only (Ok b) k in
    cc

pub one_bound : (most : ℕ) (given : Option Text) (a b : Option Decimal) → IsBound most given a → IsBound most given b → a ≡ b
one_bound most None a b h k = h ∙ sym k
one_bound most (Some text) a b h k = h.1 ∙ ap Some (one_number text h.0 k.0 h.2.decimal k.2.decimal) ∙ sym k.1

pub one_area : (rows : List Named) (ps : List Parameter) (a b : Area) → AreBounds rows ps a → AreBounds rows ps b → a ≡ b
one_area rows ps a b h k =
    let south = one_bound _ _ a.latitude.least b.latitude.least h.south_is k.south_is in
    let north = one_bound _ _ a.latitude.most b.latitude.most h.north_is k.north_is in
    let west = one_bound _ _ a.longitude.least b.longitude.least h.west_is k.west_is in
    let east = one_bound _ _ a.longitude.most b.longitude.most h.east_is k.east_is in
    λ i. record { latitude = record { least = south i; most = north i }; longitude = record { least = west i; most = east i } }
