-- What a posted command may add to a history.
use Rattle.std.specs.Prelude.{◌||◌, Bool, false, List, [], ◌∷◌, Option, None, Some, is_some, Result, Ok, Err, nat_le, ◌&&◌, length}
use Rattle.exact_time.specs.Clock.{is_clock_moment}
use Rattle.exact_time.specs.declared.moment.Moment.{Moment}
use Rattle.epochs.specs.Kinds.{Text}
use Rattle.access_digest.specs.Who.{who_of}
use Rattle.access_digest.specs.declared.denial.Denial.{Denial}
use Rattle.archive_entry.specs.declared.entry.Entry.{Entry}
use Rattle.archive_state.specs.History.{live_of, earlier_of}
use Rattle.archive_state.specs.Lawful.{is_accept}
use Rattle.archive_state.specs.Verdicts.{Command, command, judged_of, verdict_of, entry_of}
use Rattle.archive_state.specs.declared.limits.Limits.{Limits}
use Rattle.archive_state.specs.declared.posted.Posted.{Posted}
use Rattle.archive_state.specs.declared.verdict.Verdict.{Verdict}
use Rattle.archive_state.specs.declared.verdict.Verdict.TheVariants.{Accept}
use Rattle.desk_words.specs.Setting.{Setting}

-- the sequence number is from 1 to 10^18, the body has 1,048,576 bytes at most, and the moment is one of a clock
abbrev pub can_be_posted : Posted → Moment → Bool
can_be_posted p moment =
    (nat_le 1 p.seq && nat_le p.seq 1_000_000_000_000_000_000)
    && (nat_le (length p.body) 1_048_576 && is_clock_moment moment)

-- the command of the user whom the credentials name
abbrev pub command_by : Posted → Result Text Denial → Option Command
command_by p (Ok author) = Some (command author p.seq p.kind p.body)
command_by p (Err denial) = None

abbrev pub command_in : List Entry → Posted → Moment → Setting → Option Command
command_in h p moment s = command_by p (who_of (live_of h) p.credentials moment s.secret)

-- the entry that a command becomes behind a history
abbrev pub entry_by : List Entry → Moment → Option Command → Option Entry
entry_by h moment None = None
entry_by h moment (Some c) = Some (entry_of h c moment)

-- the entry that what was posted becomes behind a history, where the credentials name a user
abbrev pub posted_entry : List Entry → Posted → Moment → Setting → Option Entry
posted_entry h p moment s = entry_by h moment (command_in h p moment s)

abbrev pub listed : {A : Type 0} → Option A → List A
listed None = []
listed (Some x) = x ∷ []

-- what a verdict adds: its entry where it accepts, else nothing
abbrev pub added_by : Verdict → Option Entry → List Entry
added_by (Accept n) e = listed e
added_by _ e = []

abbrev pub ruling : List Entry → Posted → Moment → Setting → Verdict
ruling h p moment s = verdict_of h p moment s.secret s.limits

-- the command is accepted, or its author has an entry with this sequence number: a disk can stop no other
abbrev pub may_stop : List Entry → Limits → Option Command → Bool
may_stop h limits None = false
may_stop h limits (Some c) = is_accept (judged_of h limits c) || is_some (earlier_of h c.author c.seq)

abbrev pub could_stop : List Entry → Posted → Moment → Setting → Bool
could_stop h p moment s = may_stop h s.limits (command_in h p moment s)
