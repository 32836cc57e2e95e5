-- Spans that are kept merged as rows come: each quality and rate of a channel by itself, by their least start.
use Rattle.std.specs.Prelude.{◌≡◌, false, ◌⊎◌, ◌+◌, ◌-◌, ◌^◌, min, ℤ, pos, ◌≤ℤ◌, ◌<ℤ◌, int_lt, int_le, ◌==◌, if◌then◌else◌, Bool, ◌&&◌, List, [], ◌∷◌, ◌++◌, map, filter, Option, Some, None}
use Rattle.std.specs.Int.{int_min, int_max}
use Rattle.std.specs.List.{AllByRecursion, fold, flat_map, list_any}
use Rattle.std.specs.declared.cmp.Ordering.{Ordering}
use Rattle.std.specs.Ordering.{ordering_then, is_eq}
use Rattle.std.specs.BTreeMap.{BTreeMap, get}
use Rattle.list_laws.specs.Greater.{greater}
use Rattle.list_laws.specs.Mending.{AreSpread, mend}
use Rattle.exact_time.specs.RateOrder.{rate_cmp}
use Rattle.exact_time.specs.SampleTime.{reach_at}
use Rattle.exact_time.specs.declared.moment.Moment.{Moment}
use Rattle.exact_time.specs.declared.ratio.Ratio.{Ratio}
use Rattle.channel_globs.specs.Names.{name_cmp}
use Rattle.channel_globs.specs.declared.nslc.Nslc.{Nslc}
use Rattle.mseed_header.specs.Quality.{quality_cmp}
use Rattle.mseed_header.specs.Times.{last_index, next_index}
use Rattle.mseed_header.specs.declared.row.Row.{Row}
use Rattle.dataselect.specs.MergedSpans.{SampleAt, SpanValue, at_cmp, has_name}
use Rattle.time_index.specs.declared.kept.Kept.{Kept}
use Rattle.time_index.specs.declared.kept.Mark.{Mark}
use Rattle.time_index.specs.declared.kind.Kind.{Kind}

-- by quality letter, then by the rate's value
abbrev pub kind_cmp : Kind → Kind → Ordering
kind_cmp a b = ordering_then (quality_cmp a.quality b.quality) (rate_cmp a.rate b.rate)

abbrev pub kind_of : Row → Kind
kind_of row = record { quality = row.header.quality; rate = row.header.rate }

-- the row has that name, quality and rate
abbrev pub is_of : Nslc → Kind → Row → Bool
is_of name kind row = has_name name row && is_eq (kind_cmp (kind_of row) kind)

-- a mark's time in a rate, and how two lie
abbrev pub mark_at : Ratio → Mark → SampleAt
mark_at rate m = record { start = m.start.micros; k = m.k; rate = rate }

abbrev pub mark_cmp : Ratio → Mark → Mark → Ordering
mark_cmp rate a b = at_cmp (mark_at rate a) (mark_at rate b)

-- two spans in one: the greatest reach, next, last and moment, and all rows
abbrev pub joined : Ratio → Kept → Kept → Kept
joined rate a b = record {
  reach = record { micros = int_max a.reach.micros b.reach.micros };
  next = greater (mark_cmp rate) a.next b.next;
  last = greater (mark_cmp rate) a.last b.last;
  updated = record { micros = int_max a.updated.micros b.updated.micros };
  rows = min (a.rows + b.rows) (2 ^ 64 - 1);
}

-- a kept span stands by its least start
abbrev pub from : Moment × Kept → ℤ
from e = e.0.micros

abbrev pub upto : Moment × Kept → ℤ
upto e = e.1.reach.micros

abbrev pub both : Ratio → Moment × Kept → Moment × Kept → Moment × Kept
both rate e f = (record { micros = int_min e.0.micros f.0.micros }, joined rate e.1 f.1)

-- one span more among kept ones: it joins those that it touches
abbrev pub kept_mend : Ratio → Moment × Kept → List (Moment × Kept) → List (Moment × Kept)
kept_mend rate e spans = mend from upto (both rate) e spans

-- what is kept of a row alone
abbrev pub kept_of : Row → Moment × Kept
kept_of row = (
  row.header.start,
  record {
    reach = record { micros = int_min (reach_at row.header.start.micros (next_index row.header) row.header.rate 0) (pos (2 ^ 63 - 1)) };
    next = record { start = row.header.start; k = next_index row.header };
    last = record { start = row.header.start; k = last_index row.header };
    updated = row.moment;
    rows = 1;
  },
)

-- the spans of rows of one rate, which go in one by one
abbrev pub kept_spans : Ratio → List Row → List (Moment × Kept)
kept_spans rate rows = fold (λ spans row. kept_mend rate (kept_of row) spans) [] rows

abbrev pub entries_or : Option (BTreeMap Moment Kept) → List (Moment × Kept)
entries_or None = []
entries_or (Some spans) = spans.entries

-- the kept spans of a channel, by quality and rate
abbrev pub Kinds : Type 0
Kinds = BTreeMap Kind (BTreeMap Moment Kept)

abbrev pub spans_at : Kinds → Kind → List (Moment × Kept)
spans_at kinds kind = entries_or (get kind_cmp kinds kind)

-- of each quality and rate the spans of the rows of a name are kept
abbrev pub AreKept : List Row → Nslc → Kinds → Type 0
AreKept rows name kinds = (kind : Kind) → spans_at kinds kind ≡ kept_spans kind.rate (filter (is_of name kind) rows)

-- where the spans of a channel are kept, they are those of its rows
abbrev pub AllKept : List Row → BTreeMap Nslc Kinds → Type 0
AllKept rows channels =
    (name : Nslc) (kinds : Kinds) → get name_cmp channels name ≡ Some kinds → AreKept rows name kinds

-- where the spans of a channel aren't kept, it has no rows
abbrev pub IsKnown : List Row → BTreeMap Nslc Kinds → Nslc → Type 0
IsKnown rows channels name = get name_cmp channels name ≡ None → list_any (has_name name) rows ≡ false

-- a kept span as a span of its channel
abbrev pub span_value : Nslc → Kind → Moment × Kept → SpanValue
span_value name kind e = record {
  name = name;
  quality = kind.quality;
  rate = kind.rate;
  start = e.0.micros;
  next = mark_at kind.rate e.1.next;
  last = mark_at kind.rate e.1.last;
  updated = e.1.updated.micros;
  rows = e.1.rows;
}

-- the same as it is told: where there is no rate, a time is its start
abbrev pub told_at : Ratio → Mark → SampleAt
told_at rate m = record { start = m.start.micros; k = if rate.num == 0 then 0 else m.k; rate = rate }

abbrev pub told_value : Nslc → Kind → Moment × Kept → SpanValue
told_value name kind e = record {
  name = name;
  quality = kind.quality;
  rate = kind.rate;
  start = e.0.micros;
  next = told_at kind.rate e.1.next;
  last = told_at kind.rate e.1.last;
  updated = e.1.updated.micros;
  rows = e.1.rows;
}

abbrev pub told_values : Nslc → List (Kind × BTreeMap Moment Kept) → List SpanValue
told_values name entries = flat_map (λ e. map (told_value name e.0) e.1.entries) entries

-- all kept spans of a channel, kind behind kind
abbrev pub kind_values : Nslc → Kind × BTreeMap Moment Kept → List SpanValue
kind_values name e = map (span_value name e.0) e.1.entries

abbrev pub all_values : Nslc → List (Kind × BTreeMap Moment Kept) → List SpanValue
all_values name entries = flat_map (kind_values name) entries

-- no kept span has a moment in it
abbrev pub Outside : ℤ → List (Moment × Kept) → Type 0
Outside start spans = AllByRecursion (λ e. (upto e <ℤ start) ⊎ (start <ℤ from e)) spans

-- a kept span has a moment in it, and those behind it start later
pub record IsHome (start : ℤ) (spans : List (Moment × Kept)) (home : Moment × Kept) : Type 0 where
  pub before : List (Moment × Kept)
  pub behind : List (Moment × Kept)
  pub is : spans ≡ before ++ home ∷ behind
  pub from_it : from home ≤ℤ start
  pub upto_it : start ≤ℤ upto home
  pub later : AllByRecursion (λ e. start <ℤ from e) behind

abbrev pub is_within : ℤ → ℤ → Moment × Kept → Bool
is_within home reach e = int_lt home (from e) && int_le (from e) reach

-- the kept spans that start behind a moment, up to another
abbrev pub within : ℤ → ℤ → List (Moment × Kept) → List (Moment × Kept)
within home reach spans = filter (is_within home reach) spans

pub record IsFirstWithin (home reach : ℤ) (spans : List (Moment × Kept)) (next : Moment × Kept) : Type 0 where
  pub others : List (Moment × Kept)
  pub is : within home reach spans ≡ next ∷ others

-- A span is to be put where one stands that starts with it, and to join those behind it that it reaches; then all
-- are as wanted.
pub record IsBegun (rate : Ratio) (wanted : List (Moment × Kept)) (new : Moment × Kept) (spans : List (Moment × Kept)) : Type 0 where
  pub before : List (Moment × Kept)
  pub stale : Kept
  pub behind : List (Moment × Kept)
  pub is : spans ≡ before ++ (new.0, stale) ∷ behind
  pub low : AllByRecursion (λ e. (from e ≤ℤ upto e) × (upto e <ℤ from new)) before
  pub high : AllByRecursion (λ e. from new <ℤ from e) behind
  pub spread : AreSpread from upto behind
  pub forward : from new ≤ℤ upto new
  pub same : before ++ kept_mend rate new behind ≡ wanted
