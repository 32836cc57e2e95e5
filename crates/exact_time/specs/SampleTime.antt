-- Times of samples as exact fractions of a microsecond.
use Rattle.std.specs.Prelude.{ℕ, ◌+◌, ◌*◌, ◌/◌, ◌==◌, max, if◌then◌else◌, ℤ, pos, neg_ℤ, ◌+ℤ◌, ◌-ℤ◌, ◌*ℤ◌, ◌≤ℤ◌}
use Rattle.std.specs.Ordering.{int_cmp}
use Rattle.std.specs.declared.cmp.Ordering.{Ordering}
use Rattle.exact_time.specs.declared.ratio.Ratio.{Ratio}
use Rattle.exact_time.specs.declared.sample.SampleTime.{SampleTime}

-- sample k after the start lies at `sample_micros / sample_parts` microseconds since 1970: the start
-- and k / rate seconds, or the start alone where the rate is 0
abbrev pub sample_micros : ℤ → ℕ → Ratio → ℤ
sample_micros start k rate =
    if rate.num == 0 then start
    else start *ℤ pos rate.num +ℤ pos (k * rate.den * 1_000_000)

abbrev pub sample_parts : Ratio → ℕ
sample_parts rate = if rate.num == 0 then 1 else rate.num

-- how sample k lies to a moment: both are multiplied by the divisor, and nothing is rounded
abbrev pub compare_sample : ℤ → ℕ → Ratio → ℤ → Ordering
compare_sample start k rate q = int_cmp (sample_micros start k rate) (q *ℤ pos (sample_parts rate))

-- the same of a `SampleTime`
abbrev pub time_micros : SampleTime → ℤ
time_micros t = sample_micros t.start.micros t.k t.rate

abbrev pub sample_cmp : SampleTime → ℤ → Ordering
sample_cmp t q = compare_sample t.start.micros t.k t.rate q

-- how two sample times lie: each is multiplied by the divisor of the other
abbrev pub times_cmp : SampleTime → SampleTime → Ordering
times_cmp a b = int_cmp (time_micros a *ℤ pos (sample_parts b.rate)) (time_micros b *ℤ pos (sample_parts a.rate))

-- half a sample period in microseconds, times `sample_parts`; 0 where the rate is 0
abbrev pub half_parts : Ratio → ℕ
half_parts rate = if rate.num == 0 then 0 else rate.den * 500_000

-- how much later a moment is than a sample's time, times `sample_parts`
abbrev pub lateness : SampleTime → ℤ → ℤ
lateness t start = start *ℤ pos (sample_parts t.rate) -ℤ time_micros t

-- the moment is later than the time by at most the greater of half a period and so many microseconds
abbrev pub IsGapAtMost : SampleTime → ℤ → ℕ → Type 0
IsGapAtMost t start slack = lateness t start ≤ℤ pos (max (slack * sample_parts t.rate) (half_parts t.rate))

-- the time is later than the moment by at most half a period
abbrev pub IsOverlapAtMost : SampleTime → ℤ → Type 0
IsOverlapAtMost t start = neg_ℤ (lateness t start) ≤ℤ pos (half_parts t.rate)

-- sample k after the start, rounded down to a microsecond
abbrev pub floor_at : ℤ → ℕ → Ratio → ℤ
floor_at start k rate = start +ℤ pos (k * rate.den * 1_000_000 / sample_parts rate)

abbrev pub floor_micros : SampleTime → ℤ
floor_micros t = floor_at t.start.micros t.k t.rate

-- how far sample k reaches: half a period behind it, or so many microseconds where these are more, rounded
-- down to a microsecond
abbrev pub reach_at : ℤ → ℕ → Ratio → ℕ → ℤ
reach_at start k rate slack =
    start +ℤ pos ((k * rate.den * 1_000_000 + max (slack * sample_parts rate) (half_parts rate)) / sample_parts rate)

abbrev pub reach_micros : SampleTime → ℕ → ℤ
reach_micros t slack = reach_at t.start.micros t.k t.rate slack
