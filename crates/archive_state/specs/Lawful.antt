-- Lawful histories: the first entry is the founding entry of an archive, and each later one was accepted by those
-- before it.
use Rattle.std.specs.Prelude.{◌≡◌, ℕ, ◌+◌, ◌==◌, ◌&&◌, Bool, true, false, List, [], ◌∷◌, ◌++◌, length, nat_le, pos, take, drop, if◌then◌else◌, codes, refl}
use Rattle.std.specs.Ordering.{int_eq}
use Rattle.std.specs.Str.{bytes_eq}
use Rattle.exact_time.specs.Clock.{is_clock_moment}
use Rattle.epochs.specs.Fields.{is_user_name, is_ha1}
use Rattle.epochs.specs.Kinds.{Text}
use Rattle.archive_entry.specs.declared.entry.Entry.{Entry}
use Rattle.archive_entry.specs.declared.entry.Kind.TheVariants.{Revise}
use Rattle.archive_state.specs.Verdicts.{command_of, is_kind, judged_of}
use Rattle.archive_state.specs.declared.limits.Limits.{Limits}
use Rattle.archive_state.specs.declared.verdict.Verdict.{Verdict}
use Rattle.archive_state.specs.declared.verdict.Verdict.TheVariants.{Accept}

abbrev pub is_accept : Verdict → Bool
is_accept (Accept number) = true
is_accept _ = false

-- the greatest limits, which are those of a lawful history
abbrev pub full : Limits
full = record {
  max_bytes = 67_108_864;
  max_lines = 100_000;
  max_records = 2_097_152;
  max_archive = 536_870_912;
  bytes_in = refl;
  lines_in = refl;
  records_in = refl;
  archive_in = refl;
}

-- the sequence number is from 1 to 10^18, the body has 1,048,576 bytes at most, and the moment is one of a clock
abbrev pub is_fit : Entry → Bool
is_fit e =
    (nat_le 1 e.seq && nat_le e.seq 1_000_000_000_000_000_000)
    && (nat_le (length e.body) 1_048_576 && is_clock_moment e.moment)

-- the body of a founding entry: one line, which makes the operator a user
abbrev pub founding_body : (name ha1 : Text) → List ℕ
founding_body name ha1 = codes "USR|" ++ name ++ codes "|" ++ ha1 ++ codes "|operator\n"

-- the founding entry of the archive of this operator
abbrev pub founding_entry : (name ha1 : Text) → Entry
founding_entry name ha1 = record {
  number = 1;
  moment = record { micros = pos 0 };
  author = name;
  seq = 0;
  kind = Revise;
  body = founding_body name ha1;
}

-- what stands in such a body between the name and the role
abbrev pub ha1_behind : (name : Text) → List ℕ → Text
ha1_behind name body = take 32 (drop (length name + 5) body)

-- the body makes a user of that name the operator
abbrev pub founds : (name : Text) → List ℕ → Bool
founds name body =
    (is_user_name name && is_ha1 (ha1_behind name body)) && bytes_eq body (founding_body name (ha1_behind name body))

-- its number is 1, its sequence number and its moment are 0, and it is a revision
abbrev pub is_first : Entry → Bool
is_first e = (e.number == 1 && e.seq == 0) && (int_eq e.moment.micros (pos 0) && is_kind e.kind Revise)

-- the founding entry of an archive
abbrev pub is_founding : Entry → Bool
is_founding e = is_first e && founds e.author e.body

-- the number and what is fixed of an entry fit, and its command is accepted
abbrev pub is_later : List Entry → Entry → Bool
is_later past e = (e.number == length past + 1 && is_fit e) && is_accept (judged_of past full (command_of e))

-- the entry is the next one after these
unfoldable pub is_next : List Entry → Entry → Bool
is_next past e = if length past == 0 then is_founding e else is_later past e

-- each entry is the next one of those before it
abbrev pub goes_on : (past entries : List Entry) → Bool
goes_on past [] = true
goes_on past (e ∷ entries) = is_next past e && goes_on (past ++ e ∷ []) entries

-- each entry is the next one of those before it, from the founding one on; no entries are lawful too
abbrev pub is_lawful : List Entry → Bool
is_lawful h = goes_on [] h

abbrev pub IsLawful : List Entry → Type 0
IsLawful h = is_lawful h ≡ true
