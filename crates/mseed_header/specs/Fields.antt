-- The fields of a record's header at their offsets (SEED 2.4, fixed section of data header). All
-- numbers of one header have one byte order, which is the first argument of each word here: `true`
-- where the lowest byte stands first.
use Rattle.std.specs.Prelude.{ℕ, Bool, true, false, List, slice_index, take, drop, ℤ}
use Rattle.std.specs.Int.{w8, w16, w32, cast_signed}
use Rattle.byteorder.specs.Endian.{big_from, little_from}
use Rattle.exact_time.specs.declared.fields.BTime.{BTime}

-- the number in so many bytes from an offset on
abbrev pub number_at : Bool → List ℕ → ℕ → ℕ → ℕ
number_at false bytes at size = big_from at size bytes
number_at true bytes at size = little_from at size bytes

abbrev pub u16_at : Bool → List ℕ → ℕ → ℕ
u16_at little bytes at = number_at little bytes at 2

abbrev pub i16_at : Bool → List ℕ → ℕ → ℤ
i16_at little bytes at = cast_signed w16 (number_at little bytes at 2)

abbrev pub i32_at : Bool → List ℕ → ℕ → ℤ
i32_at little bytes at = cast_signed w32 (number_at little bytes at 4)

abbrev pub i8_at : List ℕ → ℕ → ℤ
i8_at bytes at = cast_signed w8 (slice_index bytes at)

-- so many bytes from an offset on
abbrev pub bytes_at : List ℕ → ℕ → ℕ → List ℕ
bytes_at bytes at size = take size (drop at bytes)

-- the start time, at offset 20
abbrev pub time_at : Bool → List ℕ → BTime
time_at little bytes = record {
  year = u16_at little bytes 20;
  day = u16_at little bytes 22;
  hour = slice_index bytes 24;
  minute = slice_index bytes 25;
  second = slice_index bytes 26;
  fraction = u16_at little bytes 28;
}
