-- Spans of availability: rows of one group, in order, joined where one follows another.
use Rattle.std.specs.Prelude.{ℕ, ◌+◌, ◌*◌, max, ℤ, pos, neg_ℤ, ◌-ℤ◌, ◌*ℤ◌, int_lt, Bool, not, ◌||◌, List, [], ◌∷◌, map, if◌then◌else◌}
use Rattle.std.specs.List.{list_all, flat_map}
use Rattle.std.specs.declared.cmp.Ordering.{Ordering}
use Rattle.std.specs.declared.cmp.Ordering.TheVariants.{Equal}
use Rattle.std.specs.Ordering.{nat_cmp, int_cmp, ordering_then, is_eq}
use Rattle.list_laws.specs.Breaks.{runs_of, after_last}
use Rattle.list_laws.specs.InOrder.{in_order}
use Rattle.exact_time.specs.RateOrder.{rate_cmp}
use Rattle.exact_time.specs.SampleTime.{sample_parts, half_parts}
use Rattle.channel_globs.specs.Names.{name_cmp}
use Rattle.mseed_header.specs.Quality.{quality_cmp}
use Rattle.mseed_header.specs.declared.header.Header.{Header}
use Rattle.mseed_header.specs.declared.row.Row.{Row}
use Rattle.dataselect.specs.Runs.{runs_by}
use Rattle.dataselect.specs.Segments.{next_micros}

-- How rows are joined: whether rows of different qualities, and of different rates, may be in one span;
-- whether a row joins what any earlier row reaches, or what the row before it alone; and how many
-- microseconds may be missing.
pub record Merging : Type 0 where
  pub quality : Bool
  pub rate : Bool
  pub overlap : Bool
  pub gap : ℕ

-- by name, quality letter and rate, unless these are merged
abbrev pub group_cmp : Merging → Header → Header → Ordering
group_cmp m a b =
    ordering_then (name_cmp a.name b.name)
    (ordering_then (if m.quality then Equal else quality_cmp a.quality b.quality)
    (if m.rate then Equal else rate_cmp a.rate b.rate))

abbrev pub is_other_group : Merging → Header → Header → Bool
is_other_group m a b = not (is_eq (group_cmp m a b))

-- how much later a moment is than a record's next, in microseconds times `sample_parts`
abbrev pub late_by : Header → ℤ → ℤ
late_by h micros = micros *ℤ pos (sample_parts h.rate) -ℤ next_micros h

-- a moment is later than the record's next by more than half a sample period, and by more than the gap that
-- is allowed
abbrev pub is_too_late : ℕ → Header → ℤ → Bool
is_too_late gap h micros = int_lt (pos (max (gap * sample_parts h.rate) (half_parts h.rate))) (late_by h micros)

-- a moment is earlier than the record's next by more than half a sample period
abbrev pub is_too_early : Header → ℤ → Bool
is_too_early h micros = int_lt (late_by h micros) (neg_ℤ (pos (half_parts h.rate)))

-- With overlaps merged, a record breaks where it is too late after every earlier one of its group. Else it
-- breaks where it is too late or too early after the one before it.
abbrev pub breaks : Merging → List Header → Header → Bool
breaks m earlier h =
    if m.overlap then list_all (λ e. is_too_late m.gap e h.start.micros) earlier
    else after_last (λ e r. is_too_late m.gap e r.start.micros || is_too_early e r.start.micros) earlier h

-- The runs of rows that make the spans. The rows, which are in order, are cut where the group changes, and
-- each group where a row breaks. An item may be more than a row: it has a header.
module _ {X : Type 0} (m : Merging) (header : X → Header) where
  abbrev pub groups_of : List X → List (List X)
  groups_of xs = runs_by (λ x y. is_other_group m (header x) (header y)) xs

  abbrev pub runs_in_group : List X → List (List X)
  runs_in_group xs = runs_of (λ earlier x. breaks m (map header earlier) (header x)) xs

  abbrev pub span_runs : List X → List (List X)
  span_runs xs = flat_map runs_in_group (groups_of xs)

-- a row and its place in the shelf; in order of group, start, entry and place, and then as they stand
abbrev pub placed_cmp : Merging → ℕ × Row → ℕ × Row → Ordering
placed_cmp m a b =
    ordering_then (group_cmp m a.1.header b.1.header)
    (ordering_then (int_cmp a.1.header.start.micros b.1.header.start.micros)
    (ordering_then (nat_cmp a.1.entry b.1.entry)
    (ordering_then (nat_cmp a.1.place b.1.place) (nat_cmp a.0 b.0))))

-- the rows that pass a test with their places, as they stand from an index on
abbrev pub placed_from : (Row → Bool) → ℕ → List Row → List (ℕ × Row)
placed_from test index [] = []
placed_from test index (row ∷ rows) =
    if test row then (index, row) ∷ placed_from test (index + 1) rows else placed_from test (index + 1) rows

-- and put in order
abbrev pub rows_in_order : Merging → (Row → Bool) → List Row → List Row
rows_in_order m test rows = map (λ p. p.1) (in_order (placed_cmp m) [] (placed_from test 0 rows))
