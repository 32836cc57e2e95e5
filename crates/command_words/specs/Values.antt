-- What the words give under a name.
use Rattle.std.specs.Prelude.{◌≡◌, ◌≢◌, ℕ, List, [], ◌∷◌, if◌then◌else◌, Option, None, Some}
use Rattle.query_parameters.specs.Gets.{text_or}
use Rattle.exact_time.specs.Decimals.{whole_of}
use Rattle.command_words.specs.Limits.{is_limit}
use Rattle.clap.specs.Words.{App, Kinds, Row, Text, fault_of, first_of, found_of, matches_of, rows_of}
use Rattle.clap.specs.declared.parser.matches.ArgMatches.{ArgMatches}

-- the value under a name, or its default where none is given
abbrev pub value_or : Text → Text → List Row → Text
value_or default name rows = text_or default (first_of name rows)

-- a number from 1 to the greatest
abbrev pub within : ℕ → Option ℕ → Option ℕ
within most None = None
within most (Some n) = if is_limit most n then Some n else None

-- a limit as 1 to 19 digits, and the greatest number where none is given
abbrev pub limit_of : ℕ → Option Text → Option ℕ
limit_of most None = Some most
limit_of most (Some text) = within most (whole_of text)

abbrev pub limit_in : ℕ → Text → List Row → Option ℕ
limit_in most name rows = limit_of most (first_of name rows)

-- a number from 1 to the greatest, and this one where none is given
abbrev pub number_of : (default most : ℕ) → Option Text → Option ℕ
number_of default most None = Some default
number_of default most (Some text) = within most (whole_of text)

abbrev pub number_or : (default most : ℕ) → Text → List Row → Option ℕ
number_or default most name rows = number_of default most (first_of name rows)

-- a number from 1 to the greatest, where one is given
abbrev pub some_if : Option ℕ → Option (Option ℕ)
some_if None = None
some_if (Some n) = Some (Some n)

abbrev pub number_given : ℕ → Option Text → Option (Option ℕ)
number_given most None = Some None
number_given most (Some text) = some_if (within most (whole_of text))

abbrev pub number_if : ℕ → Text → List Row → Option (Option ℕ)
number_if most name rows = number_given most (first_of name rows)

-- what is read of the values that are given, where the words have no fault
abbrev pub by_rows : {A : Type 0} → (List Row → Option A) → Kinds → List Row → Option A
by_rows read [] rows = read rows
by_rows read (kind ∷ kinds) rows = None

-- what is read of the values that the words give a command; None where clap refuses the words
abbrev pub read_by : {A : Type 0} → App → (List Row → Option A) → List Text → Option A
read_by app read words = by_rows read (fault_of app words) (matches_of app words)

-- clap takes the words of the command and gives these values, or refuses them
abbrev pub Matches : App → List Text → Option ArgMatches → Type 0
Matches app words None = fault_of app words ≢ []
Matches app words (Some found) = (fault_of app words ≡ []) × (rows_of (found_of found) ≡ matches_of app words)
