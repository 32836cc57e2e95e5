-- How the values of a line stand in the columns of a text (FDSN Web Service Specifications 1.2, format=text).
use Rattle.std.specs.Prelude.{ℕ, ℤ, List, [], ◌∷◌, ◌++◌, Option, Some, None, if◌then◌else◌, decimal}
use Rattle.std.specs.List.{flat_map}
use Rattle.std.specs.Str.{bytes_eq}
use Rattle.exact_time.specs.Written.{moment_text}
use Rattle.exact_time.specs.Decimals.{decimal_text}
use Rattle.channel_globs.specs.PatternText.{space}
use Rattle.epochs.specs.Kinds.{Text}
use Rattle.epochs.specs.Fields.{Value, code, words, time, end, number, optional, patterns, roles, entry_number, bar}

abbrev pub line_feed : ℕ
line_feed = 10

-- a text if there is a number, else nothing
abbrev pub text_or_none : (ℤ → Text) → Option ℤ → Text
text_or_none text None = []
text_or_none text (Some n) = text n

-- a code; the blank location, two spaces, is printed as nothing
abbrev pub code_text : Text → Text
code_text c = if bytes_eq c (space ∷ space ∷ []) then [] else c

-- how a value stands in its column
abbrev pub column_text : Value → Text
column_text (code c) = code_text c
column_text (words t) = t
column_text (time micros) = moment_text micros
column_text (end micros) = text_or_none moment_text micros
column_text (number n) = decimal_text n
column_text (optional n) = text_or_none decimal_text n
column_text (patterns t list) = t
column_text (roles r) = []
column_text (entry_number n) = decimal n

-- columns, each further one behind a bar
abbrev pub behind_bars : List Text → Text
behind_bars texts = flat_map (λ text. bar ∷ text) texts

abbrev pub barred : List Text → Text
barred [] = []
barred (text ∷ texts) = text ++ behind_bars texts
