-- Values that can't be read.
use Rattle.std.proofs.Common.{◌≡◌, ℕ, ℤ, List, pos, Result, Ok, Err, refl, sym, ap, arith}
use Rattle.std.proofs.lemmas.Int.{ints}
use Rattle.list_laws.specs.Only.{IsOnly}
use Rattle.exact_time.specs.declared.decimal.Decimal.{Decimal}
use Rattle.exact_time.specs.declared.moment.TimeFault.{TimeFault}
use Rattle.exact_time.specs.Decimals.{IsDecimal, RefusesDecimal}
use Rattle.exact_time.proofs.DecimalTexts.{number_or_fault, only_decimal}
use Rattle.channel_globs.specs.declared.nslc.Part.{Part}
use Rattle.channel_globs.specs.declared.patterns.GlobFault.{GlobFault}
use Rattle.channel_globs.specs.declared.patterns.GlobFault.TheVariants.{TooMany, Character, Length, OutOfMemory}
use Rattle.channel_globs.specs.PatternText.{RefusesList}
use Rattle.channel_globs.proofs.OneList.{no_list}
use Rattle.query_parameters.specs.declared.rows.ValueKind.TheVariants.{Patterns}
use Rattle.query_parameters.specs.Values.{IsMinimum}
use Rattle.query_parameters.specs.Words.{CannotRead, list_fault}

abbrev pub decimal_at : (micros : ℕ) (text : List ℕ) → IsMinimum text micros → Decimal
decimal_at micros text h = record { millionths = pos micros; millionths_in = omega (arith, h.small) }

-- the one answer at a minimum length is its decimal
pub minimum_read : (text : List ℕ) (answer : Result Decimal TimeFault) → IsOnly (λ (d : Decimal). IsDecimal text d.millionths) (RefusesDecimal text) answer
    → (micros : ℕ) (h : IsMinimum text micros) → answer ≡ Ok (decimal_at micros text h)
minimum_read text answer only micros h = sym (only.only (Ok (decimal_at micros text h)) h.decimal)

pub one_minimum : (text : List ℕ) (a b : ℕ) → IsMinimum text a → IsMinimum text b → a ≡ b
one_minimum text a b h k =
    let e = minimum_read text (Ok (decimal_at a text h)) (only_decimal text (Ok (decimal_at a text h)) h.decimal) b k in
    let same : decimal_at a text h ≡ decimal_at b text k = cc in
    let values : pos a ≡ pos b = ap (λ (d : Decimal). d.millionths) same in
    omega (arith, ints, values)

pub refused_list : (part : Part) (text : List ℕ) (fault : GlobFault) → RefusesList part text fault → CannotRead (Patterns part) text (list_fault fault)
refused_list part text TooMany h = λ list. no_list part text list.0 TooMany list.1 h
refused_list part text Character h = λ list. no_list part text list.0 Character list.1 h
refused_list part text Length h = λ list. no_list part text list.0 Length list.1 h
refused_list part text OutOfMemory h = tt

-- a text is one decimal
pub one_decimal : (text : List ℕ) (a b : ℤ) → IsDecimal text a → IsDecimal text b → a ≡ b
one_decimal text a b h k =
    let w = number_or_fault text in
    let x = w.1.only (Ok a) h in
    let y = w.1.only (Ok b) k in
    cc

-- and none where no decimal was read
pub no_decimal : (text : List ℕ) (answer : Result Decimal TimeFault) → IsOnly (λ (d : Decimal). IsDecimal text d.millionths) (RefusesDecimal text) answer → ((d : Decimal) → answer ≡ Ok d → ⊥)
    → (n : ℤ) → IsDecimal text n → ⊥
no_decimal text (Ok d) only none n h = none d refl
no_decimal text (Err fault) only none n h =
    let w = number_or_fault text in
    let x = w.1.only (Ok n) h in
    let y = w.1.only (Err fault) only.right in
    cc
