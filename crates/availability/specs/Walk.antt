-- Words for the one pass over the rows of a group.
use Rattle.std.specs.Prelude.{ℤ, int_lt, Bool, ◌||◌, if◌then◌else◌}
use Rattle.std.specs.Int.{int_max}
use Rattle.exact_time.specs.SampleTime.{reach_at}
use Rattle.mseed_header.specs.Times.{next_index}
use Rattle.mseed_header.specs.declared.header.Header.{Header}
use Rattle.dataselect.specs.Spans.{is_too_late, is_too_early}
use Rattle.query_words.specs.declared.avail.AvailQuery.{AvailQuery}
use Rattle.availability.specs.declared.spans.Reached.{Reached}

-- the last microsecond at which a row may start that isn't too late after this one
abbrev pub reach_of : AvailQuery → Header → ℤ
reach_of q h = reach_at h.start.micros (next_index h) h.rate q.gaps

-- a row breaks from those before it
abbrev pub is_over : AvailQuery → Reached → Header → Bool
is_over q r h =
    if q.merge_overlap then int_lt r.far h.start.micros
    else is_too_late q.gaps r.last h.start.micros || is_too_early r.last h.start.micros

abbrev pub reached_by : AvailQuery → Header → Reached
reached_by q h = record { last = h; far = reach_of q h }

abbrev pub further : AvailQuery → Reached → Header → Reached
further q r h = record { last = h; far = int_max r.far (reach_of q h) }
