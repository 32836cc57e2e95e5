-- Limits of numbers and places (FDSN Web Service Specifications 1.2, station and event).
use Rattle.std.specs.Prelude.{◌≡◌, ℕ, ℤ, ◌≤ℤ◌, int_le, Bool, true, false, ◌&&◌, List, Option, Some, None, codes, ⊤}
use Rattle.dataselect.specs.Query.{holds}
use Rattle.exact_time.specs.Decimals.{IsDecimal}
use Rattle.exact_time.specs.declared.decimal.Decimal.{Decimal}
use Rattle.query_parameters.specs.Gets.{said}
use Rattle.query_parameters.specs.Parameters.{Parameter}
use Rattle.query_parameters.specs.Rows.{Text, Named}
use Rattle.query_parameters.specs.Values.{IsCount, IsDegrees, most_latitude, most_longitude}
use Rattle.query_parameters.specs.declared.area.Area.{Area}
use Rattle.query_parameters.specs.declared.area.Limits2.{Limits2}

-- a text names the limit; no text, no limit
abbrev pub IsBound : ℕ → Option Text → Option Decimal → Type 0
IsBound most None bound = bound ≡ None
IsBound most (Some text) bound = (degrees : Decimal) × (bound ≡ Some degrees) × IsDegrees most text degrees.millionths

-- a text names a number; no text, no limit
abbrev pub IsNumberLimit : Option Text → Option Decimal → Type 0
IsNumberLimit None limit = limit ≡ None
IsNumberLimit (Some text) limit = (number : Decimal) × (limit ≡ Some number) × IsDecimal text number.millionths

-- a text names a whole number from 1; no text, no limit
abbrev pub IsCountLimit : Option Text → Option ℕ → Type 0
IsCountLimit None limit = limit ≡ None
IsCountLimit (Some text) limit = (n : ℕ) × (limit ≡ Some n) × IsCount text n

-- the limits of the place
pub record AreBounds (rows : List Named) (ps : List Parameter) (area : Area) : Type 0 where
  pub south_is : IsBound most_latitude (said rows (codes "minlatitude") ps) area.latitude.least
  pub north_is : IsBound most_latitude (said rows (codes "maxlatitude") ps) area.latitude.most
  pub west_is : IsBound most_longitude (said rows (codes "minlongitude") ps) area.longitude.least
  pub east_is : IsBound most_longitude (said rows (codes "maxlongitude") ps) area.longitude.most

-- the greatest isn't below the least
abbrev pub IsRange : Limits2 → Type 0
IsRange limits = in_range limits.least limits.most
  where
    in_range : Option Decimal → Option Decimal → Type 0
    in_range (Some least) (Some most) = least.millionths ≤ℤ most.millionths
    in_range _ _ = ⊤

-- the limits of a place are in order
pub record IsAreaInOrder (area : Area) : Type 0 where
  pub latitude : IsRange area.latitude
  pub longitude : IsRange area.longitude

-- the number is in its limits, these included
abbrev pub is_within_limits : Limits2 → ℤ → Bool
is_within_limits limits n =
    holds (λ least. int_le least.millionths n) limits.least && holds (λ most. int_le n most.millionths) limits.most

-- a place is in the area, its limits included
abbrev pub is_place_in : Area → ℤ → ℤ → Bool
is_place_in area latitude longitude =
    is_within_limits area.latitude latitude && is_within_limits area.longitude longitude

abbrev pub is_absent : {T : Type 0} → Option T → Bool
is_absent None = true
is_absent (Some x) = false

-- an area without a limit
abbrev pub is_everywhere : Area → Bool
is_everywhere area =
    is_absent area.latitude.least && is_absent area.latitude.most
    && is_absent area.longitude.least && is_absent area.longitude.most
