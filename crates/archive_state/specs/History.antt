-- What a history holds: a list of entries, in the order of their numbers.
use Rattle.std.specs.Prelude.{ℕ, ◌==◌, ◌&&◌, Bool, false, not, List, [], ◌∷◌, length, filter, Option, None, Some, Result, Ok, Err, max, find, if◌then◌else◌}
use Rattle.std.specs.List.{flat_map, fold, sum_by}
use Rattle.std.specs.Str.{bytes_eq}
use Rattle.mseed_header.specs.declared.row.Row.{Row}
use Rattle.dataselect.specs.Rows.{held_rows}
use Rattle.epochs.specs.Fields.{Value, roles}
use Rattle.epochs.specs.Kinds.{Text}
use Rattle.epochs.specs.Lines.{LineValues}
use Rattle.epochs.specs.declared.fault.RevisionFault.{RevisionFault}
use Rattle.epochs.specs.declared.parts.Roles.{Roles}
use Rattle.epoch_rules.specs.Catalog.{is_user}
use Rattle.epoch_rules.specs.LiveLines.{live_lines}
use Rattle.access_digest.specs.Access.{is_withdrawn}
use Rattle.archive_entry.specs.Batches.{batch_rows, record_count}
use Rattle.archive_entry.specs.Bodies.{revision_of}
use Rattle.archive_entry.specs.declared.entry.Entry.{Entry}
use Rattle.archive_entry.specs.declared.entry.Kind.{Kind}
use Rattle.archive_entry.specs.declared.entry.Kind.TheVariants.{Batch, Revise}

-- the lines of an entry
abbrev pub lines_in : Result (List LineValues) RevisionFault → List LineValues
lines_in (Ok lines) = lines
lines_in (Err fault) = []

abbrev pub lines_by : Kind → List ℕ → List LineValues
lines_by Batch body = []
lines_by Revise body = lines_in (revision_of body)

abbrev pub lines_of : Entry → List LineValues
lines_of e = lines_by e.kind e.body

-- the live lines: of all revision lines in order the last of each key, where that isn't a deletion
abbrev pub live_of : List Entry → List LineValues
live_of h = live_lines (flat_map lines_of h)

-- the rows of an entry
abbrev pub rows_by : Kind → Entry → List Row
rows_by Batch e = batch_rows e.number e.moment e.body
rows_by Revise e = []

abbrev pub rows_of : Entry → List Row
rows_of e = rows_by e.kind e

-- the rows that have arrived: those of all batches in order, without those whose bytes equal an earlier row's
abbrev pub arrived_of : List Entry → List Row
arrived_of h = held_rows (flat_map rows_of h)

-- the rows that are held: those that have arrived, without those that a live withdrawal covers
abbrev pub held_of : List Entry → List Row
held_of h = filter (λ row. not (is_withdrawn (live_of h) row)) (arrived_of h)

-- how many records all batches have
abbrev pub records_by : Kind → List ℕ → ℕ
records_by Batch body = record_count body
records_by Revise body = 0

abbrev pub records_of : List Entry → ℕ
records_of h = sum_by (λ e. records_by e.kind e.body) h

-- how many bytes all bodies have
abbrev pub bytes_of : List Entry → ℕ
bytes_of h = sum_by (λ e. length e.body) h

-- the author's entry with that sequence number
abbrev pub is_by : Text → Entry → Bool
is_by author e = bytes_eq e.author author

abbrev pub earlier_of : List Entry → Text → ℕ → Option Entry
earlier_of h author seq = find (λ e. is_by author e && e.seq == seq) h

-- the greatest sequence number of the author, or 0
abbrev pub last_seq : List Entry → Text → ℕ
last_seq h author = fold (λ last e. if is_by author e then max last e.seq else last) 0 h

-- the roles of a user's line
abbrev pub roles_among : List Value → Option Roles
roles_among [] = None
roles_among (roles r ∷ values) = Some r
roles_among (_ ∷ values) = roles_among values

abbrev pub roles_in : Option LineValues → Option Roles
roles_in None = None
roles_in (Some line) = roles_among line.values

-- a batch wants the role feed, a revision the role operator
abbrev pub allows : Kind → Option Roles → Bool
allows kind None = false
allows Batch (Some r) = r.feed
allows Revise (Some r) = r.operator

-- the user of that name is live and has the role
abbrev pub may_post : List LineValues → Text → Kind → Bool
may_post live author kind = allows kind (roles_in (find (is_user author) live))
