-- All that is made of rows can be printed.
use Rattle.std.proofs.Common.{◌≡◌, ℕ, ℤ, pos, ◌+ℤ◌, ◌≤ℤ◌, Bool, true, false, cond, List, [], ◌∷◌, ◌++◌, map, filter, Option, Some, None, refl, subst, arith}
use Rattle.std.specs.Prelude.{int_le, neg_ℤ}
use Rattle.std.specs.Int.{int_max, int_min}
use Rattle.std.specs.List.{AllByRecursion, fold}
use Rattle.std.proofs.lemmas.Int.{ints, clamps}
use Rattle.std.proofs.lemmas.Bool.{and_parts}
use Rattle.list_laws.specs.Breaks.{after_last, made_of_each}
use Rattle.list_laws.proofs.Keys.{all_in_order}
use Rattle.list_laws.proofs.Passes.{pass, passed_all}
use Rattle.exact_time.specs.Written.{IsWritable}
use Rattle.exact_time.specs.declared.moment.Moment.{Moment}
use Rattle.mseed_header.specs.declared.row.Row.{Row}
use Rattle.dataselect.specs.Query.{holds, is_named}
use Rattle.dataselect.specs.Spans.{rows_in_order, span_runs}
use Rattle.dataselect.specs.declared.query.Selection.{Selection}
use Rattle.query_parameters.specs.declared.avail.AvailOrder.{AvailOrder}
use Rattle.query_words.specs.declared.avail.AvailMethod.{AvailMethod}
use Rattle.query_words.specs.declared.avail.AvailMethod.TheVariants.{Spans, Extent}
use Rattle.query_words.specs.declared.avail.AvailQuery.{AvailQuery}
use Rattle.availability.specs.declared.span.TimeSpan.{TimeSpan}
use Rattle.availability.specs.declared.span.Window.{Window}
use Rattle.availability.specs.declared.line.Line.{Line}
use Rattle.availability.specs.Fields.{IsPrintableLine}
use Rattle.availability.specs.Lines.{line_of, line_cmp, lines_from, lines_of}
use Rattle.availability.specs.Spans.{merging_of, is_asked, last_moment, span_at, longer, spans_of}
use Rattle.availability.specs.Windows.{is_kept, clipped, kept, is_other_group, wider, extents, windows_of, from_limit, to_limit}
use Rattle.availability.proofs.Extents.{begin, other, moved, step}
use Rattle.availability.proofs.Lasts.{last_moment_before}
use Rattle.availability.proofs.Starts.{IsPrintableName, printable}

record GoodSpan (s : TimeSpan) : Type 0 where
  name : IsPrintableName s.group.name
  start : IsWritable s.start.micros
  last : IsWritable s.last.micros
  updated : IsWritable s.updated.micros

record GoodWindow (w : Window) : Type 0 where
  name : IsPrintableName w.group.name
  earliest : IsWritable w.earliest.micros
  latest : IsWritable w.latest.micros
  updated : IsWritable w.updated.micros

least : (a b : ℤ) → IsWritable a → IsWritable b → IsWritable (int_min a b)
least a b h k = record { from = omega (arith, ints, clamps, h.from, k.from); before = omega (arith, ints, clamps, h.before, k.before) }

greatest : (a b : ℤ) → IsWritable a → IsWritable b → IsWritable (int_max a b)
greatest a b h k = record { from = omega (arith, ints, clamps, h.from, k.from); before = omega (arith, ints, clamps, h.before, k.before) }

-- rows to spans
above : (s : ℤ) (n : ℕ) → neg_ℤ (pos 5_364_662_400_000_000) ≤ℤ s → neg_ℤ (pos 5_364_662_400_000_000) ≤ℤ (s +ℤ pos n)
above s n h = omega (arith, ints)

good_last : (row : Row) → IsWritable (last_moment row.header).micros
good_last row = record { from = above _ _ (printable row).start.from; before = last_moment_before row }

good_moment : (row : Row) → IsWritable row.moment.micros
good_moment row = record { from = omega (arith, ints, row.since_1970); before = omega (arith, ints, row.before_2600) }

module _ (touched : Row → Bool) (q : AvailQuery) where
  good_begin : (row : Row) → GoodSpan (span_at touched q row)
  good_begin row = record { name = (printable row).name; start = (printable row).start; last = good_last row; updated = good_moment row }

  good_grow : (s : TimeSpan) (row : Row) → GoodSpan s → GoodSpan (longer touched s row)
  good_grow s row h = record { name = h.name; start = least _ _ h.start (printable row).start; last = greatest _ _ h.last (good_last row); updated = greatest _ _ h.updated (good_moment row) }

  good_run : (s : TimeSpan) (rows : List Row) → GoodSpan s → GoodSpan (fold (longer touched) s rows)
  good_run s [] h = h
  good_run s (row ∷ rows) h = good_run (longer touched s row) rows (good_grow s row h)

  all_spans : (runs : List (List Row)) → AllByRecursion GoodSpan (made_of_each (span_at touched q) (longer touched) runs)
  all_spans [] = tt
  all_spans ([] ∷ runs) = all_spans runs
  all_spans ((row ∷ run) ∷ runs) = (good_run (span_at touched q row) run (good_begin row), all_spans runs)

-- one pass keeps what its steps keep
module _ {X S State : Type 0} (begin : X → S) (grow : S → X → S) (test : State → X → Bool) (next : State → X → State) (Q : X → Type 0) (P : S → Type 0)
    (begins : (x : X) → Q x → P (begin x)) (grows : (s : S) (x : X) → P s → Q x → P (grow s x)) where
  all_pass : (s : S) (state : State) (xs : List X) → P s → AllByRecursion Q xs → AllByRecursion P (pass begin grow test next s state xs)
  all_pass s state [] h all = (h, tt)
  all_pass s state (x ∷ xs) h all =
      elim (test state x) as (λ b. AllByRecursion P (cond b (s ∷ pass begin grow test next (begin x) (next state x) xs) (pass begin grow test next (grow s x) (next state x) xs))) [
        | true ↦ (h, all_pass (begin x) (next state x) xs (begins x all.0) all.1)
        | false ↦ all_pass (grow s x) (next state x) xs (grows s x h all.0) all.1
      ]

-- spans to windows
not_before : (a b : ℤ) → int_le a b ≡ true → a ≤ℤ b
not_before a b h = grind (arith, ints)

good_from : (s : Option Moment) (a b : Moment) → holds (λ t. int_le t.micros b.micros) s ≡ true → IsWritable a.micros → IsWritable b.micros → IsWritable (from_limit s a).micros
good_from None a b h k l = k
good_from (Some t) a b h k l = let le = not_before t.micros b.micros h in record { from = omega (arith, ints, clamps, k.from); before = omega (arith, ints, clamps, k.before, l.before, le) }

good_to : (s : Option Moment) (a b : Moment) → holds (λ t. int_le a.micros t.micros) s ≡ true → IsWritable a.micros → IsWritable b.micros → IsWritable (to_limit s b).micros
good_to None a b h k l = l
good_to (Some t) a b h k l = let le = not_before a.micros t.micros h in record { from = omega (arith, ints, clamps, k.from, l.from, le); before = omega (arith, ints, clamps, l.before) }

good_clipped : (s : Selection) (span : TimeSpan) → is_kept s span ≡ true → GoodSpan span → GoodWindow (clipped s span)
good_clipped s span h k =
    let both = and_parts (is_named s span.group.name) _ h in
    let ends = and_parts (holds (λ t. int_le t.micros span.last.micros) s.start) _ both.1 in
    record { name = k.name; earliest = good_from s.start span.start span.last ends.0 k.start k.last; latest = good_to s.end span.start span.last ends.1 k.start k.last; updated = k.updated }

all_kept : (s : Selection) (spans : List TimeSpan) → AllByRecursion GoodSpan spans → AllByRecursion GoodWindow (kept s spans)
all_kept s [] h = tt
all_kept s (span ∷ spans) h =
    elim (is_kept s span) as (λ b. is_kept s span ≡ b → AllByRecursion GoodWindow (map (clipped s) (cond b (span ∷ filter (is_kept s) spans) (filter (is_kept s) spans)))) [
      | true ↦ λ e. (good_clipped s span e h.0, all_kept s spans h.1)
      | false ↦ λ _. all_kept s spans h.1
    ] refl

good_wider : (v w : Window) → GoodWindow v → GoodWindow w → GoodWindow (wider v w)
good_wider v w h k = record { name = k.name; earliest = least _ _ h.earliest k.earliest; latest = greatest _ _ h.latest k.latest; updated = greatest _ _ h.updated k.updated }

all_extents : (windows : List Window) → AllByRecursion GoodWindow windows → AllByRecursion GoodWindow (extents windows)
all_extents [] h = tt
all_extents (w ∷ ws) h =
    subst (λ vs. AllByRecursion GoodWindow vs)
    (passed_all begin wider other moved (after_last is_other_group) step w.group w ws (λ x. refl))
    (all_pass begin wider other moved GoodWindow GoodWindow (λ x k. k) good_wider w w.group ws h.0 h.1)

all_windows : (method : AvailMethod) (s : Selection) (spans : List TimeSpan) → AllByRecursion GoodSpan spans → AllByRecursion GoodWindow (windows_of method s spans)
all_windows Spans s spans h = all_kept s spans h
all_windows Extent s spans h = all_extents (kept s spans) (all_kept s spans h)

-- windows to lines
all_mapped : (order : AvailOrder) (ws : List Window) (rest : List Line) → AllByRecursion GoodWindow ws → AllByRecursion IsPrintableLine rest → AllByRecursion IsPrintableLine (map (line_of order) ws ++ rest)
all_mapped order [] rest h k = k
all_mapped order (w ∷ ws) rest h k =
    (record { network = h.0.name.network; station = h.0.name.station; location = h.0.name.location; channel = h.0.name.channel; earliest = h.0.earliest; latest = h.0.latest; updated = h.0.updated }, all_mapped order ws rest h.1 k)

all_from : (method : AvailMethod) (order : AvailOrder) (spans : List TimeSpan) (ss : List Selection) → AllByRecursion GoodSpan spans → AllByRecursion IsPrintableLine (lines_from method order spans ss)
all_from method order spans [] h = tt
all_from method order spans (s ∷ ss) h = all_mapped order (windows_of method s spans) (lines_from method order spans ss) (all_windows method s spans h) (all_from method order spans ss h)

-- all lines of rows can be printed
pub all_lines : (method : AvailMethod) (seen touched : Row → Bool) (q : AvailQuery) (rows : List Row)
    → AllByRecursion IsPrintableLine (lines_of method q (spans_of seen touched q rows))
all_lines method seen touched q rows =
    let spans = spans_of seen touched q rows in
    let ordered = rows_in_order (merging_of q) (is_asked seen q) rows in
    all_in_order line_cmp IsPrintableLine [] (lines_from method q.order spans q.selections) tt
    (all_from method q.order spans q.selections (all_spans touched q (span_runs (merging_of q) (λ row. row.header) ordered)))
