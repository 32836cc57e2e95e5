-- Columns as the program holds them.
use Rattle.std.specs.Prelude.{ℤ, Option, Some, None, option_map, decimal, ⊤}
use Rattle.std.specs.Str.{IsAscii}
use Rattle.exact_time.specs.declared.decimal.Decimal.{Decimal}
use Rattle.exact_time.specs.declared.moment.Moment.{Moment}
use Rattle.exact_time.specs.Written.{IsWritable, moment_text}
use Rattle.exact_time.specs.Decimals.{decimal_text}
use Rattle.epochs.specs.Kinds.{Text}
use Rattle.line_columns.specs.declared.columns.Column.{Column}
use Rattle.line_columns.specs.declared.columns.Column.TheVariants.{Code, Words, Start, End, Number, Optional, Count}
use Rattle.line_columns.specs.Texts.{text_or_none, code_text}

-- the moment of an end
abbrev pub optional_micros : Option Moment → Option ℤ
optional_micros stop = option_map (λ moment. moment.micros) stop

abbrev pub optional_millionths : Option Decimal → Option ℤ
optional_millionths number = option_map (λ n. n.millionths) number

-- what stands in a column
abbrev pub column_text_of : Column → Text
column_text_of (Code c) = code_text c
column_text_of (Words t) = t.now
column_text_of (Start moment) = moment_text moment.micros
column_text_of (End stop) = text_or_none moment_text (optional_micros stop)
column_text_of (Number n) = decimal_text n.millionths
column_text_of (Optional n) = text_or_none decimal_text (optional_millionths n)
column_text_of (Count n) = decimal n

abbrev pub IsWritableEnd : Option ℤ → Type 0
IsWritableEnd None = ⊤
IsWritableEnd (Some micros) = IsWritable micros

-- a code in a column is ASCII, and a moment one that can be written
abbrev pub IsPrintable : Column → Type 0
IsPrintable (Code c) = IsAscii c
IsPrintable (Start moment) = IsWritable moment.micros
IsPrintable (End stop) = IsWritableEnd (optional_micros stop)
IsPrintable _ = ⊤
