-- The times of a record's last sample and of the one after it, as numbers of samples from the start.
use Rattle.std.specs.Prelude.{ℕ, ◌-◌, ◌==◌, if◌then◌else◌}
use Rattle.mseed_header.specs.declared.header.Header.{Header}

abbrev pub last_index : Header → ℕ
last_index h = if h.rate.num == 0 then 0 else h.samples - 1

abbrev pub next_index : Header → ℕ
next_index h = if h.rate.num == 0 then 0 else h.samples
