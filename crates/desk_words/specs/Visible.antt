-- What of a history a caller may see.
use Rattle.std.specs.Prelude.{Bool, true, ◌||◌, List, filter, Option}
use Rattle.std.specs.List.{list_any}
use Rattle.std.specs.Str.{bytes_eq}
use Rattle.epochs.specs.declared.kinds.LineKind.TheVariants.{Net, Sta, Cha, Evt}
use Rattle.epochs.specs.Kinds.{Text}
use Rattle.epochs.specs.Lines.{LineValues}
use Rattle.epoch_rules.specs.Rules.{is_line_of}
use Rattle.mseed_header.specs.declared.row.Row.{Row}
use Rattle.access_digest.specs.Access.{is_touched, may_have}
use Rattle.archive_entry.specs.declared.entry.Entry.{Entry}
use Rattle.archive_state.specs.History.{held_of, live_of}

-- What a caller sees: of the rows that are held those that it may have, those of them that a restriction touches, and the
-- public lines.
pub record Visible : Type 0 where
  pub rows : List Row
  pub restricted : List Row
  pub lines : List LineValues

-- epochs and events are public
abbrev pub is_public : LineValues → Bool
is_public e = is_line_of Net e || (is_line_of Sta e || (is_line_of Cha e || is_line_of Evt e))

-- what is visible of rows under live lines
abbrev pub visible_of : List LineValues → List Row → Option Text → Visible
visible_of live rows user = record {
  rows = filter (may_have live user) rows;
  restricted = filter (is_touched live) (filter (may_have live user) rows);
  lines = filter is_public live;
}

-- what of a history is visible to a user, or to nobody in particular
unfoldable pub visible : List Entry → Option Text → Visible
visible h user = visible_of (live_of h) (held_of h) user

-- the row is one of these, which its bytes tell: no two rows that are held have the same
abbrev pub is_among : List Row → Row → Bool
is_among rows row = list_any (λ r. bytes_eq r.image row.image) rows

-- rows that are visible are seen, all of them
abbrev pub all_seen : Row → Bool
all_seen row = true
