-- The report in text, or why there is none.
use Rattle.std.specs.Prelude.{◌≡◌, ℕ, ℤ, List, [], ◌∷◌, length, Result, Ok, Err, nat_lt, if◌then◌else◌, ⊤}
use Rattle.std.specs.List.{flat_map}
use Rattle.exact_time.specs.declared.error.TextRefusal.{TextRefusal}
use Rattle.exact_time.specs.declared.error.TextRefusal.TheVariants.{Empty, TooLarge, OutOfMemory}
use Rattle.mseed_header.specs.declared.row.Row.{Row}
use Rattle.coverage_report.specs.Lines.{report_lines}
use Rattle.coverage_report.specs.Texts.{line_text}
use Rattle.coverage_report.specs.declared.line.Line.{Line}

-- the text of lines, where there is one and they are at most so many
abbrev pub text_of : ℕ → List Line → Result (List ℕ) TextRefusal
text_of most [] = Err Empty
text_of most (l ∷ lines) =
    if nat_lt most (length (l ∷ lines)) then Err (TooLarge (length (l ∷ lines))) else Ok (flat_map line_text (l ∷ lines))

-- the report of rows, on so many days from a moment on
abbrev pub report : List Row → ℤ → ℕ → ℕ → Result (List ℕ) TextRefusal
report rows first days most = text_of most (report_lines rows first days)

-- a refusal is that of the report; want of memory is free
abbrev pub RefusesAs : Result (List ℕ) TextRefusal → TextRefusal → Type 0
RefusesAs answer Empty = answer ≡ Err Empty
RefusesAs answer (TooLarge n) = answer ≡ Err (TooLarge n)
RefusesAs answer OutOfMemory = ⊤
