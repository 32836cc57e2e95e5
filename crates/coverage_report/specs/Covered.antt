-- How much of a day the rows of a channel cover, in whole microseconds that are counted one by one.
use Rattle.std.specs.Prelude.{ℕ, zero, suc, ◌+◌, ℤ, pos, ◌+ℤ◌, int_le, Bool, ◌&&◌, List, if◌then◌else◌}
use Rattle.std.specs.List.{list_any}
use Rattle.std.specs.Ordering.{is_gt}
use Rattle.exact_time.specs.SampleTime.{compare_sample}
use Rattle.channel_globs.specs.declared.nslc.Nslc.{Nslc}
use Rattle.mseed_header.specs.Times.{next_index}
use Rattle.mseed_header.specs.declared.header.Header.{Header}
use Rattle.mseed_header.specs.declared.row.Row.{Row}
use Rattle.dataselect.specs.MergedSpans.{has_name}

-- how many of so many microseconds from a moment on pass a test
unfoldable pub counted : (ℤ → Bool) → ℤ → ℕ → ℕ
counted test from zero = 0
counted test from (suc n) = (if test from then 1 else 0) + counted test (from +ℤ pos 1) n

-- A moment is at a record's start or later, and before the time after its last sample. Where the rate is 0 that
-- time is the start, and no moment is.
abbrev pub covers : Header → ℤ → Bool
covers h t = int_le h.start.micros t && is_gt (compare_sample h.start.micros (next_index h) h.rate t)

-- some row of the channel covers the moment
abbrev pub is_covered : List Row → Nslc → ℤ → Bool
is_covered rows name t = list_any (λ row. has_name name row && covers row.header t) rows

-- how many microseconds of the day that begins at a moment some row of the channel covers
abbrev pub covered : List Row → Nslc → ℤ → ℕ
covered rows name day = counted (is_covered rows name) day 86_400_000_000
