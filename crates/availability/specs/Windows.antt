-- What a selection keeps of time spans (fdsnws-availability 1.0, query and extent).
use Rattle.std.specs.Prelude.{◌≡◌, ◌+◌, int_le, Bool, not, ◌&&◌, ◌||◌, List, Option, Some, None, map, filter}
use Rattle.std.specs.List.{AllByRecursion}
use Rattle.std.specs.Int.{int_max, int_min}
use Rattle.std.specs.Option.{option_cmp}
use Rattle.std.specs.Ordering.{is_eq, ordering_then}
use Rattle.std.specs.declared.cmp.Ordering.{Ordering}
use Rattle.list_laws.specs.Breaks.{runs_of, after_last, made_of_each}
use Rattle.exact_time.specs.RateOrder.{rate_cmp}
use Rattle.exact_time.specs.declared.moment.Moment.{Moment}
use Rattle.channel_globs.specs.Names.{name_cmp}
use Rattle.mseed_header.specs.Quality.{quality_cmp}
use Rattle.dataselect.specs.Query.{holds, is_named}
use Rattle.dataselect.specs.declared.query.Selection.{Selection}
use Rattle.query_words.specs.declared.avail.AvailMethod.{AvailMethod}
use Rattle.query_words.specs.declared.avail.AvailMethod.TheVariants.{Spans, Extent}
use Rattle.availability.specs.declared.span.Group.{Group}
use Rattle.availability.specs.declared.span.TimeSpan.{TimeSpan}
use Rattle.availability.specs.declared.span.Window.{Window}

-- by name, quality letter and rate; what is merged stands first
abbrev pub group_cmp : Group → Group → Ordering
group_cmp a b =
    ordering_then (name_cmp a.name b.name)
    (ordering_then (option_cmp quality_cmp a.quality b.quality) (option_cmp rate_cmp a.rate b.rate))

abbrev pub earlier_of : Moment → Moment → Moment
earlier_of a b = record { micros = int_min a.micros b.micros }

abbrev pub later_of : Moment → Moment → Moment
later_of a b = record { micros = int_max a.micros b.micros }

-- the span meets the selection's window: it starts at the end or before, and its last sample is at the start or
-- after
abbrev pub meets : Selection → TimeSpan → Bool
meets s span = holds (λ t. int_le t.micros span.last.micros) s.start && holds (λ t. int_le span.start.micros t.micros) s.end

-- the selection matches the codes, and the span meets its window
abbrev pub is_kept : Selection → TimeSpan → Bool
is_kept s span = is_named s span.group.name && meets s span

-- a moment, or a window's limit where that is later, or earlier
abbrev pub from_limit : Option Moment → Moment → Moment
from_limit None m = m
from_limit (Some t) m = later_of m t

abbrev pub to_limit : Option Moment → Moment → Moment
to_limit None m = m
to_limit (Some t) m = earlier_of m t

-- a span clipped to the selection's window
abbrev pub clipped : Selection → TimeSpan → Window
clipped s span = record {
  group = span.group;
  earliest = from_limit s.start span.start;
  latest = to_limit s.end span.last;
  updated = span.updated;
  spans = 1;
  restricted = span.restricted;
}

-- what the selection's window keeps of spans, whatever their names are
abbrev pub kept_within : Selection → List TimeSpan → List Window
kept_within s spans = map (clipped s) (filter (meets s) spans)

-- what the selection keeps, span by span
abbrev pub kept : Selection → List TimeSpan → List Window
kept s spans = map (clipped s) (filter (is_kept s) spans)

abbrev pub is_other_group : Window → Window → Bool
is_other_group v w = not (is_eq (group_cmp v.group w.group))

-- what is kept of one span more of a group
abbrev pub wider : Window → Window → Window
wider v w = record {
  group = w.group;
  earliest = earlier_of v.earliest w.earliest;
  latest = later_of v.latest w.latest;
  updated = later_of v.updated w.updated;
  spans = v.spans + w.spans;
  restricted = v.restricted || w.restricted;
}

-- each is of one span
abbrev pub AreAlone : List Window → Type 0
AreAlone windows = AllByRecursion (λ w. w.spans ≡ 1) windows

-- an extent for each group: the spans of a group stand together
abbrev pub extents : List Window → List Window
extents windows = made_of_each (λ w. w) wider (runs_of (after_last is_other_group) windows)

abbrev pub windows_of : AvailMethod → Selection → List TimeSpan → List Window
windows_of Spans s spans = kept s spans
windows_of Extent s spans = extents (kept s spans)
