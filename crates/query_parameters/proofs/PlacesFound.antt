-- Limits of places are in order, or they aren't.
use Rattle.std.proofs.Common.{◌≡◌, ◌⊎◌, inl, inr, ◌≤ℤ◌, Option, Some, None, refl, arith}
use Rattle.std.specs.Prelude.{int_le, ℤ}
use Rattle.std.proofs.lemmas.Bool.{cases_Bool}
use Rattle.std.proofs.lemmas.Int.{ints}
use Rattle.exact_time.specs.declared.decimal.Decimal.{Decimal}
use Rattle.query_parameters.specs.Places.{IsBound, IsRange, IsAreaInOrder}
use Rattle.query_parameters.specs.Rows.{Text}
use Rattle.query_parameters.specs.Values.{CanRead, most_latitude, most_longitude}
use Rattle.query_parameters.specs.declared.rows.ValueKind.TheVariants as kind
use Rattle.query_parameters.specs.declared.area.Area.{Area}
use Rattle.query_parameters.specs.declared.area.Limits2.{Limits2}

pub le_or_not : (a b : ℤ) → (a ≤ℤ b) ⊎ (¬ (a ≤ℤ b))
le_or_not a b = elim (cases_Bool (int_le a b)) [ inl low ↦ inl (grind (arith, ints)) | inr high ↦ inr (λ h. grind (arith, ints)) ]

range_by : (least most : Option Decimal) → IsRange (record { least = least; most = most }) ⊎ (¬ (IsRange (record { least = least; most = most })))
range_by None most = inl tt
range_by (Some least) None = inl tt
range_by (Some least) (Some most) = le_or_not least.millionths most.millionths

-- limits are in order, or they aren't
pub range_or_not : (limits : Limits2) → IsRange limits ⊎ (¬ (IsRange limits))
range_or_not limits = range_by limits.least limits.most

pub area_or_not : (area : Area) → IsAreaInOrder area ⊎ (¬ (IsAreaInOrder area))
area_or_not area =
    elim (range_or_not area.latitude) [
      | inr off ↦ inr (λ h. off h.latitude)
      | inl latitude ↦ elim (range_or_not area.longitude) [
        | inr off ↦ inr (λ h. off h.longitude)
        | inl longitude ↦ inl (record { latitude = latitude; longitude = longitude })
      ]
    ]

-- the bound of a place that is given
pub latitude_given : (given : Option Text) → ((text : Text) → given ≡ Some text → CanRead kind.Latitude text) → (bound : Option Decimal) × IsBound most_latitude given bound
latitude_given None h = (None, refl)
latitude_given (Some text) h = let is = h text refl in let n : Decimal = record { millionths = is.0; millionths_in = omega (arith, is.1.within) } in (Some n, (n, refl, is.1))

pub longitude_given : (given : Option Text) → ((text : Text) → given ≡ Some text → CanRead kind.Longitude text) → (bound : Option Decimal) × IsBound most_longitude given bound
longitude_given None h = (None, refl)
longitude_given (Some text) h = let is = h text refl in let n : Decimal = record { millionths = is.0; millionths_in = omega (arith, is.1.within) } in (Some n, (n, refl, is.1))
