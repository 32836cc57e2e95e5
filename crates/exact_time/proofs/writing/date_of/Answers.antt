use Rattle.std.proofs.Common.{◌≡◌, pos, arith, rules}
use Rattle.jiff_core.specs.Date.{epoch_day}
use Rattle.exact_time.proofs.Days.{year_from, year_before, day_1800, day_2701}
use Rattle.exact_time.proofs.writing.date_of.Goals as goal

pub returns-clause-low : goal.returns-clause-low
returns-clause-low c =
    let same : epoch_day c.unwrap.result ≡ c.args.day = search rules in
    year_from (pos 1800) c.unwrap.result (rw (same, day_1800) c.requires.low)

pub returns-clause-high : goal.returns-clause-high
returns-clause-high c =
    let same : epoch_day c.unwrap.result ≡ c.args.day = search rules in
    year_before 2700 c.unwrap.result (omega arith) (rw (same, day_2701) c.requires.high)
