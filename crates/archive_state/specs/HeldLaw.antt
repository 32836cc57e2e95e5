-- Which rows are held, in the subject's words.
use Rattle.std.specs.Prelude.{◌≡◌, ℕ, ◌<◌, List, Contains, slice_get}
use Rattle.epochs.specs.declared.line.Line.{Line}
use Rattle.mseed_header.specs.declared.row.Row.{Row}
use Rattle.access_digest.specs.AccessLaw.{IsSparedBy}
use Rattle.archive_entry.specs.declared.entry.Entry.{Entry}
use Rattle.archive_state.specs.History.{arrived_of}

-- the row has arrived, and of the live lines each that is a withdrawal spares it
pub record IsHeld (h : List Entry) (lines : List Line) (row : Row) : Type 0 where
  pub arrived : Contains (arrived_of h) row
  pub spared : IsSparedBy lines row

-- each of the rows has a place among all, and a later one a later place
pub record StandAmong (rows all : List Row) : Type 0 where
  pub place : ℕ → ℕ
  pub rises : (i j : ℕ) → i < j → place i < place j
  pub each : (i : ℕ) → slice_get all (place i) ≡ slice_get rows i
