-- What a state can take in.
use Rattle.std.specs.Prelude.{◌≡◌, ◌+◌, ◌<◌, ◌^◌, true, List, length}
use Rattle.exact_time.specs.Clock.{is_clock_moment}
use Rattle.epoch_rules.specs.Kept.{AreKept}
use Rattle.archive_entry.specs.Spelling.{IsEntry}
use Rattle.archive_entry.specs.declared.entry.Entry.{Entry}
use Rattle.archive_state.specs.History.{live_of, arrived_of, lines_of, rows_of}

-- The entry has the number behind the last one, a moment of a clock, and a spelling; its lines keep the rules over the
-- live lines, and no shelf gets too many rows.
pub record CanAbsorb (h : List Entry) (e : Entry) : Type 0 where
  pub number_is : e.number ≡ length h + 1
  pub clock : is_clock_moment e.moment ≡ true
  pub spelled : IsEntry e
  pub kept : AreKept (live_of h) (lines_of e)
  pub few : length (arrived_of h) + length (rows_of e) < 2 ^ 32
