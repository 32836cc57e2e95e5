-- What becomes of a history by commands that are posted one after another.
use Rattle.std.specs.Prelude.{◌&&◌, nat_le, Bool, List, [], ◌∷◌, ◌++◌, length, if◌then◌else◌}
use Rattle.std.specs.List.{fold}
use Rattle.exact_time.specs.Clock.{is_clock_moment}
use Rattle.exact_time.specs.declared.moment.Moment.{Moment}
use Rattle.archive_entry.specs.declared.entry.Entry.{Entry}
use Rattle.archive_state.specs.Lawful.{is_accept}
use Rattle.archive_state.specs.Verdicts.{Command, judged_of, entry_of}
use Rattle.archive_state.specs.declared.limits.Limits.{Limits}

-- a command, and the moment at which it is judged
pub record Sending : Type 0 where
  pub command : Command
  pub moment : Moment

-- the sequence number is from 1 to 10^18, the body has 1,048,576 bytes at most, and the moment is one of a clock
abbrev pub can_be_sent : Sending → Bool
can_be_sent s =
    (nat_le 1 s.command.seq && nat_le s.command.seq 1_000_000_000_000_000_000)
    && (nat_le (length s.command.body) 1_048_576 && is_clock_moment s.moment)

-- an accepted command adds its entry, and no other command adds anything
abbrev pub after_one : Limits → List Entry → Sending → List Entry
after_one limits h s = if is_accept (judged_of h limits s.command) then h ++ entry_of h s.command s.moment ∷ [] else h

abbrev pub after_all : Limits → List Entry → List Sending → List Entry
after_all limits h sent = fold (after_one limits) h sent
