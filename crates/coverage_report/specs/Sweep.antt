-- How stretches are swept: in order of their starts, each for what it covers behind all before it.
use Rattle.std.specs.Prelude.{◌≡◌, ℕ, ◌+◌, ◌-◌, ◌*◌, ◌^◌, ◌≤◌, min, max, nat_lt, ℤ, List, [], ◌∷◌, ◌++◌, ⊤, if◌then◌else◌}
use Rattle.std.specs.List.{AllByRecursion, flat_map, fold}
use Rattle.channel_globs.specs.declared.nslc.Nslc.{Nslc}
use Rattle.coverage_report.specs.Days.{numbers_from, day_at}
use Rattle.coverage_report.specs.Lines.{line_if}
use Rattle.coverage_report.specs.Texts.{line_text}
use Rattle.coverage_report.specs.declared.line.Line.{Line}
use Rattle.coverage_report.specs.declared.lines.Lines.{Lines}
use Rattle.coverage_report.specs.declared.stretch.Stretch.{Stretch}
use Rattle.coverage_report.specs.declared.walk.Walk.{Walk}

-- no stretch begins before another one
abbrev pub AreBehind : Stretch → List Stretch → Type 0
AreBehind s stretches = AllByRecursion (λ r. s.start ≤ r.start) stretches

-- the stretches are in order of their starts
abbrev pub StartsRise : List Stretch → Type 0
StartsRise [] = ⊤
StartsRise (s ∷ stretches) = AreBehind s stretches × StartsRise stretches

-- how much of a stretch lies behind one microsecond and between two others
abbrev pub shared : ℕ → ℕ → ℕ → Stretch → ℕ
shared behind from to s = min to s.end - max from (max behind s.start)

-- the sum of what each stretch covers behind all before it
abbrev pub swept : ℕ → ℕ → ℕ → List Stretch → ℕ
swept behind from to [] = 0
swept behind from to (s ∷ stretches) = shared behind from to s + swept (max behind s.end) from to stretches

-- of a day
abbrev pub swept_on : ℕ → ℕ → List Stretch → ℕ
swept_on behind day stretches = swept behind (day * 86_400_000_000) (day * 86_400_000_000 + 86_400_000_000) stretches

-- the lines of so many days from one on
abbrev pub lines_swept : Nslc → ℤ → ℕ → List Stretch → ℕ → ℕ → List Line
lines_swept name first behind stretches day n =
    flat_map (λ d. line_if name (day_at first d) (swept_on behind d stretches)) (numbers_from day n)

-- the lines that a walk leaves: that of its day, and those of the days behind it
abbrev pub lines_left : Walk → List Stretch → List Line
lines_left w stretches =
    line_if w.name (day_at w.first.micros w.day) (w.covered + swept_on w.behind w.day stretches)
    ++ lines_swept w.name w.first.micros w.behind stretches (w.day + 1) (w.days - (w.day + 1))

-- a line behind others: it is counted, and written if fewer are there than may be
abbrev pub put : Lines → Line → Lines
put lines l = record lines {
  text = if nat_lt lines.count lines.most then lines.text ++ line_text l else lines.text;
  count = min (lines.count + 1) (2 ^ 64 - 1);
}

abbrev pub put_all : Lines → List Line → Lines
put_all lines more = fold put lines more

-- the same channel and days
pub record IsSameWalk (walk next : Walk) : Type 0 where
  pub name : next.name ≡ walk.name
  pub first : next.first ≡ walk.first
  pub days : next.days ≡ walk.days

-- lines were written, and none was lost: those that are there and those that are left are the same
abbrev pub KeepsLines : Lines → Walk → List Stretch → Lines → Walk → List Stretch → Type 0
KeepsLines old walk before new next after = put_all new (lines_left next after) ≡ put_all old (lines_left walk before)
