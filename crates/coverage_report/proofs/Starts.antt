-- The codes of every row are ASCII, and it starts after 1800.
use Rattle.std.proofs.Common.{◌≡◌, ℕ, ◌+◌, ◌<◌, ◌≤◌, ◌==◌, ℤ, pos, ◌+ℤ◌, ◌*ℤ◌, ◌≤ℤ◌, Bool, true, false, List, [], ◌∷◌, map, Option, Some, None, cond, sym, arith, subst}
use Rattle.std.specs.Prelude.{neg_ℤ, ◌||◌, slice_index, bit_and}
use Rattle.std.specs.Option.{unwrap_or, option_map}
use Rattle.std.specs.Int.{w8, w32, cast_signed}
use Rattle.std.specs.Char.{is_ascii_alphanumeric}
use Rattle.std.specs.List.{AllByRecursion, list_all}
use Rattle.std.specs.Str.{IsAscii}
use Rattle.std.proofs.lemmas.Bool.{and_parts}
use Rattle.std.proofs.lemmas.Bool.Decides.{nat_tests}
use Rattle.std.proofs.lemmas.Int.{ints}
use Rattle.std.proofs.lemmas.Str.Ascii.{IsAscii-nil, IsAscii-cons}
use Rattle.jiff_core.specs.Calendar.{days_from_civil}
use Rattle.jiff_core.proofs.CalendarLemmas.{days_from_civil-day_count}
use Rattle.list_laws.proofs.Keys.{all_in_order}
use Rattle.exact_time.proofs.Calendar.{new_year_count}
use Rattle.exact_time.specs.BTime.{btime_micros}
use Rattle.exact_time.specs.declared.fields.BTime.{BTime}
use Rattle.channel_globs.specs.Names.{name_cmp}
use Rattle.channel_globs.specs.PatternText.{is_blank_word}
use Rattle.mseed_header.specs.Header.{IsRecord, correction}
use Rattle.mseed_header.specs.Blockettes.{micros_of, first_of, offsets_of}
use Rattle.mseed_header.specs.Fields.{i32_at, i8_at, time_at, bytes_at}
use Rattle.mseed_header.specs.CodeField.{location_of, without_fill}
use Rattle.mseed_header.specs.declared.row.Row.{Row}
use Rattle.coverage_report.specs.Lines.{names_of}
use Rattle.coverage_report.specs.Printable.{IsPrintableName, IsSince1800}

low_32 : (n : ℕ) → neg_ℤ (pos 2_147_483_648) ≤ℤ cast_signed w32 n
low_32 n = omega (arith, ints)

low_8 : (n : ℕ) → neg_ℤ (pos 128) ≤ℤ cast_signed w8 n
low_8 n = omega (arith, ints)

day_low : (y : ℕ) → 1900 ≤ y → neg_ℤ (pos 25_567) ≤ℤ days_from_civil (pos y) 1 1
day_low y h = omega (arith, ints, days_from_civil-day_count (pos y) 1 1, new_year_count y)

btime_low : (b : BTime) → 1900 ≤ b.year → neg_ℤ (pos 2_208_988_800_000_000) ≤ℤ btime_micros b
btime_low b h = let low = day_low b.year h in omega (arith, ints)

correction_low : (little : Bool) (bytes : List ℕ) → neg_ℤ (pos 2_147_483_648) ≤ℤ correction little bytes
correction_low little bytes =
    elim (bit_and (slice_index bytes 36) 2 == 0) as (λ b. neg_ℤ (pos 2_147_483_648) ≤ℤ cond b (i32_at little bytes 40) (pos 0)) [ true ↦ low_32 _ | false ↦ omega (arith, ints) ]

told_low : (bytes : List ℕ) (at : Option ℕ) → neg_ℤ (pos 128) ≤ℤ unwrap_or (option_map (λ p. i8_at bytes (p + 5)) at) (pos 0)
told_low bytes None = omega (arith, ints)
told_low bytes (Some p) = low_8 _

sum_low : (s a b c : ℤ) → s ≡ (a +ℤ b *ℤ pos 100) +ℤ c → neg_ℤ (pos 2_208_988_800_000_000) ≤ℤ a → neg_ℤ (pos 2_147_483_648) ≤ℤ b → neg_ℤ (pos 128) ≤ℤ c → neg_ℤ (pos 5_364_662_400_000_000) ≤ℤ s
sum_low s a b c e h k l = omega (arith, ints)

pub start_low : (row : Row) → IsSince1800 row.header.start.micros
unfolding IsRecord
start_low row =
    let little = row.header.little in
    let head = row.head.0 in
    sum_low row.header.start.micros (btime_micros (time_at little row.image)) (correction little row.image) (micros_of little row.image (offsets_of little row.image))
    head.start (btime_low (time_at little row.image) head.year.0) (correction_low little row.image) (told_low row.image (first_of little row.image 1001 (offsets_of little row.image)))

low : (c : ℕ) → is_ascii_alphanumeric c ≡ true → c < 128
low c h = grind (arith, nat_tests)

all_low : (text : List ℕ) → list_all is_ascii_alphanumeric text ≡ true → IsAscii text
all_low [] h = IsAscii-nil
all_low (c ∷ text) h =
    let both = and_parts (is_ascii_alphanumeric c) (list_all is_ascii_alphanumeric text) h in
    IsAscii-cons c text (low c both.0) (all_low text both.1)

two_spaces : IsAscii (32 ∷ 32 ∷ [])
two_spaces = IsAscii-cons 32 (32 ∷ []) (omega arith) (IsAscii-cons 32 [] (omega arith) IsAscii-nil)

location_low : (word : List ℕ) → (is_blank_word word || list_all is_ascii_alphanumeric word) ≡ true → IsAscii (location_of word)
location_low word h =
    elim (is_blank_word word) as (λ b. (b || list_all is_ascii_alphanumeric word) ≡ true → IsAscii (cond b (32 ∷ 32 ∷ []) word)) [
      | true ↦ λ _. two_spaces
      | false ↦ λ k. all_low word k
    ] h

printable : (row : Row) → IsPrintableName row.header.name
unfolding IsRecord
printable row =
    let name = row.head.0.name in
    record {
      network = all_low _ name.network.letters;
      station = all_low _ name.station.letters;
      location = subst IsAscii (sym name.location.code_is) (location_low (without_fill (bytes_at row.image 13 2)) name.location.letters);
      channel = all_low _ name.channel.letters;
    }

all_printable : (rows : List Row) → AllByRecursion IsPrintableName (map (λ row. row.header.name) rows)
all_printable [] = tt
all_printable (row ∷ rows) = (printable row, all_printable rows)

-- all names of rows can be printed
pub names_printable : (rows : List Row) → AllByRecursion IsPrintableName (names_of rows)
names_printable rows = all_in_order name_cmp IsPrintableName [] (map (λ row. row.header.name) rows) tt (all_printable rows)
