-- The lines of an answer, in their order.
use Rattle.std.specs.Prelude.{ℤ, pos, neg_ℤ, List, [], map}
use Rattle.std.specs.List.{flat_map}
use Rattle.std.specs.Option.{option_cmp}
use Rattle.std.specs.Ordering.{nat_cmp, int_cmp, bool_cmp, ordering_then}
use Rattle.std.specs.declared.cmp.Ordering.{Ordering}
use Rattle.list_laws.specs.InOrder.{in_order}
use Rattle.exact_time.specs.RateOrder.{rate_cmp}
use Rattle.channel_globs.specs.Names.{name_cmp}
use Rattle.mseed_header.specs.Quality.{quality_cmp}
use Rattle.dataselect.specs.declared.query.Selection.{Selection}
use Rattle.query_parameters.specs.declared.avail.AvailOrder.{AvailOrder}
use Rattle.query_parameters.specs.declared.avail.AvailOrder.TheVariants.{Name, UpdatedUp, UpdatedDown, CountUp, CountDown}
use Rattle.query_words.specs.declared.avail.AvailMethod.{AvailMethod}
use Rattle.query_words.specs.declared.avail.AvailQuery.{AvailQuery}
use Rattle.availability.specs.declared.line.Line.{Line}
use Rattle.availability.specs.declared.span.TimeSpan.{TimeSpan}
use Rattle.availability.specs.declared.span.Window.{Window}
use Rattle.availability.specs.Windows.{windows_of}

-- what an order puts before the codes
abbrev pub first_of : AvailOrder → Window → ℤ
first_of Name w = pos 0
first_of UpdatedUp w = w.updated.micros
first_of UpdatedDown w = neg_ℤ w.updated.micros
first_of CountUp w = pos w.spans
first_of CountDown w = neg_ℤ (pos w.spans)

abbrev pub line_of : AvailOrder → Window → Line
line_of order w = record {
  first = first_of order w;
  name = w.group.name;
  earliest = w.earliest;
  quality = w.group.quality;
  rate = w.group.rate;
  latest = w.latest;
  updated = w.updated;
  spans = w.spans;
  restricted = w.restricted;
}

-- By what the asked order puts first, then by codes, earliest, quality, rate and latest. What follows decides
-- between lines that agree in all of these.
abbrev pub line_cmp : Line → Line → Ordering
line_cmp a b =
    ordering_then (int_cmp a.first b.first)
    (ordering_then (name_cmp a.name b.name)
    (ordering_then (int_cmp a.earliest.micros b.earliest.micros)
    (ordering_then (option_cmp quality_cmp a.quality b.quality)
    (ordering_then (option_cmp rate_cmp a.rate b.rate)
    (ordering_then (int_cmp a.latest.micros b.latest.micros)
    (ordering_then (int_cmp a.updated.micros b.updated.micros)
    (ordering_then (nat_cmp a.spans b.spans) (bool_cmp a.restricted b.restricted))))))))

-- the lines of what a selection keeps, and of what each keeps
abbrev pub selection_lines : AvailMethod → AvailOrder → List TimeSpan → Selection → List Line
selection_lines method order spans s = map (line_of order) (windows_of method s spans)

abbrev pub lines_from : AvailMethod → AvailOrder → List TimeSpan → List Selection → List Line
lines_from method order spans selections = flat_map (selection_lines method order spans) selections

-- all lines in order, equal ones once
abbrev pub lines_of : AvailMethod → AvailQuery → List TimeSpan → List Line
lines_of method query spans = in_order line_cmp [] (lines_from method query.order spans query.selections)
