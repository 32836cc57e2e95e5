-- The text of lines (fdsnws-availability 1.0, format=text and format=request).
use Rattle.std.specs.Prelude.{ℕ, ◌*◌, ◌/◌, pos, Bool, true, false, List, [], ◌∷◌, ◌++◌, Option, Some, None, map, take, codes, decimal, Result, if◌then◌else◌}
use Rattle.std.specs.List.{list_any, concat, flat_map}
use Rattle.std.specs.Str.{bytes_eq}
use Rattle.exact_time.specs.Decimals.{decimal_text}
use Rattle.exact_time.specs.Written.{moment_text}
use Rattle.exact_time.specs.declared.error.TextRefusal.{TextRefusal}
use Rattle.exact_time.specs.declared.moment.Moment.{Moment}
use Rattle.exact_time.specs.declared.ratio.Ratio.{Ratio}
use Rattle.mseed_header.specs.Quality.{quality_letter}
use Rattle.mseed_header.specs.declared.quality.Quality.{Quality}
use Rattle.line_columns.specs.Answers.{text_or_empty}
use Rattle.query_parameters.specs.declared.avail.AvailForm.{AvailForm}
use Rattle.query_parameters.specs.declared.avail.AvailForm.TheVariants.{Text, Request}
use Rattle.query_words.specs.declared.avail.AvailMethod.{AvailMethod}
use Rattle.query_words.specs.declared.avail.AvailMethod.TheVariants.{Spans, Extent}
use Rattle.query_words.specs.declared.avail.AvailQuery.{AvailQuery}
use Rattle.availability.specs.declared.line.Line.{Line}
use Rattle.availability.specs.declared.span.TimeSpan.{TimeSpan}
use Rattle.availability.specs.Lines.{lines_of}

-- the blank location, two spaces, is printed as two hyphens
abbrev pub code_text : List ℕ → List ℕ
code_text c = if bytes_eq c (codes "  ") then codes "--" else c

-- a merged quality or rate is printed as a star
abbrev pub quality_text : Option Quality → List ℕ
quality_text None = codes "*"
quality_text (Some q) = quality_letter q ∷ []

abbrev pub rate_text : Option Ratio → List ℕ
rate_text None = codes "*"
rate_text (Some r) = decimal_text (pos (r.num * 1_000_000 / r.den))

abbrev pub time_text : Moment → List ℕ
time_text m = moment_text m.micros ++ codes "Z"

abbrev pub restriction_text : Bool → List ℕ
restriction_text true = codes "RESTRICTED"
restriction_text false = codes "OPEN"

-- fields, each further one behind a space
abbrev pub behind_spaces : List (List ℕ) → List ℕ
behind_spaces texts = flat_map (λ text. codes " " ++ text) texts

abbrev pub spaced : List (List ℕ) → List ℕ
spaced [] = []
spaced (text ∷ texts) = text ++ behind_spaces texts

abbrev pub code_texts : Line → List (List ℕ)
code_texts l =
    code_text l.name.network ∷ code_text l.name.station ∷ code_text l.name.location ∷ code_text l.name.channel ∷ []

abbrev pub time_texts : Line → List (List ℕ)
time_texts l = time_text l.earliest ∷ time_text l.latest ∷ []

abbrev pub kind_texts : Line → List (List ℕ)
kind_texts l = quality_text l.quality ∷ rate_text l.rate ∷ []

-- Updated, TimeSpans and Restriction
abbrev pub extent_texts : Line → List (List ℕ)
extent_texts l = time_text l.updated ∷ decimal l.spans ∷ restriction_text l.restricted ∷ []

-- what stands in a line
abbrev pub fields_of : AvailForm → AvailMethod → Line → List (List ℕ)
fields_of Request method l = code_texts l ++ time_texts l
fields_of Text Spans l = code_texts l ++ kind_texts l ++ time_texts l
fields_of Text Extent l = code_texts l ++ kind_texts l ++ time_texts l ++ extent_texts l

abbrev pub line_text : AvailForm → AvailMethod → Line → List ℕ
line_text form method l = spaced (fields_of form method l) ++ codes "\n"

-- of texts behind others, those that equal no earlier one
abbrev pub firsts_after : List (List ℕ) → List (List ℕ) → List (List ℕ)
firsts_after earlier [] = []
firsts_after earlier (text ∷ texts) =
    if list_any (bytes_eq text) earlier then firsts_after earlier texts
    else text ∷ firsts_after (earlier ++ text ∷ []) texts

abbrev pub limited : {X : Type 0} → Option ℕ → List X → List X
limited None xs = xs
limited (Some n) xs = take n xs

-- the texts of an answer's lines: those of all lines in order without those that equal an earlier one, and of
-- these at most so many as the limit says
abbrev pub texts_of : AvailMethod → AvailQuery → List TimeSpan → List (List ℕ)
texts_of method query spans =
    limited query.limit (firsts_after [] (map (line_text query.form method) (lines_of method query spans)))

abbrev pub header_text : AvailForm → AvailMethod → List ℕ
header_text Request method = []
header_text Text Spans = codes "#Network Station Location Channel Quality SampleRate Earliest Latest\n"
header_text Text Extent =
    codes "#Network Station Location Channel Quality SampleRate Earliest Latest Updated TimeSpans Restriction\n"

-- the text that spans are answered with, or why there is none: there is no line, or there are too many
abbrev pub answer_of : AvailMethod → AvailQuery → ℕ → List TimeSpan → Result (List ℕ) TextRefusal
answer_of method query most spans =
    text_or_empty (λ texts. header_text query.form method ++ concat texts) most (texts_of method query spans)
