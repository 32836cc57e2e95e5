-- The next entry of a lawful history has a spelling.
use Rattle.std.proofs.Common.{◌≡◌, inl, inr, ◌&&◌, ℕ, ◌≤◌, ◌<◌, ◌^◌, true, List, [], ◌∷◌, ◌++◌, length, sym, subst, arith, append_assoc, append-nil, length-append}
use Rattle.std.specs.Prelude.{nat_le}
use Rattle.std.specs.Int.{w64}
use Rattle.std.specs.Int.RustNames.{FitsSigned}
use Rattle.std.proofs.lemmas.Bool.{and_parts}
use Rattle.std.proofs.lemmas.Int.{fits_signed_from_abs, ints}
use Rattle.std.proofs.lemmas.Bool.Decides.{nat_tests}
use Rattle.exact_time.specs.Clock.{is_clock_moment}
use Rattle.exact_time.specs.declared.moment.Moment.{Moment}
use Rattle.exact_time.proofs.Clock.{since_1970, before_2600}
use Rattle.epochs.specs.Fields.{is_user_name}
use Rattle.archive_entry.specs.Spelling.{IsEntry}
use Rattle.archive_entry.specs.declared.entry.Entry.{Entry}
use Rattle.archive_state.specs.History.{bytes_of}
use Rattle.archive_state.specs.Lawful.{full, is_founding, is_later, is_next, goes_on, is_lawful}
use Rattle.archive_state.specs.States.{CanAbsorb}
use Rattle.archive_state.specs.Verdicts.{command_of}
use Rattle.archive_state.proofs.Absorbs.{arrived_few, lawful_records, next_fits, next_records, rows_few}
use Rattle.archive_state.proofs.Accepts.{accepted, first_seq, later_parts, next_by, next_number}
use Rattle.archive_state.proofs.AuthorNames.{author_named}
use Rattle.archive_state.proofs.Founding.{founds_parts}
use Rattle.archive_state.proofs.Growth.{bytes_more}
use Rattle.archive_state.proofs.Room.{founding_founds, first_room, next_has_room, next_kept}

-- ---- a lawful history has few entries

bytes_go_on : (past es : List Entry) → length past ≤ bytes_of past → goes_on past es ≡ true → length (past ++ es) ≤ bytes_of (past ++ es)
bytes_go_on past [] few is = subst (λ (h : List Entry). length h ≤ bytes_of h) (sym (append-nil past)) few
bytes_go_on past (e ∷ es) few is =
    let parts = and_parts (is_next past e) (goes_on (past ++ e ∷ []) es) is in
    let longer = length-append past (e ∷ []) in
    let more : length (past ++ e ∷ []) ≤ bytes_of (past ++ e ∷ []) = omega (arith, longer, few, bytes_more past e, (next_has_room past e parts.0).0) in
    subst (λ (h : List Entry). length h ≤ bytes_of h) (append_assoc past (e ∷ []) es) (bytes_go_on (past ++ e ∷ []) es more parts.1)

-- each entry has a byte
lawful_bytes : (h : List Entry) → is_lawful h ≡ true → length h ≤ bytes_of h
lawful_bytes h is = bytes_go_on [] h (omega arith) is

-- ---- its author, its sequence number and its body

-- what fits the fields of a spelling
record Spelled (e : Entry) : Type 0 where
  author : is_user_name e.author ≡ true
  seq : e.seq < 2 ^ 64
  within : length e.body ≤ 1_048_576

low : (n most : ℕ) → nat_le n most ≡ true → n ≤ most
low n most h = grind (arith, nat_tests)

later_spelled : (past : List Entry) (e : Entry) → is_later past e ≡ true → Spelled e
later_spelled past e is =
    let parts = later_parts past e is in
    let says = accepted past full (command_of e) parts.2 in
    let fit = and_parts (nat_le 1 e.seq && nat_le e.seq 1_000_000_000_000_000_000) (nat_le (length e.body) 1_048_576 && is_clock_moment e.moment) parts.1 in
    let seq = low e.seq 1_000_000_000_000_000_000 (and_parts (nat_le 1 e.seq) (nat_le e.seq 1_000_000_000_000_000_000) fit.0).1 in
    record {
      author = author_named past e.author e.kind says.may;
      seq = omega (arith, seq);
      within = low (length e.body) 1_048_576 (and_parts (nat_le (length e.body) 1_048_576) (is_clock_moment e.moment) fit.1).0;
    }

first_spelled : (e : Entry) → is_founding e ≡ true → Spelled e
first_spelled e is =
    let seq = (first_seq e is).1 in
    let size = (first_room e is).1 in
    record {
      author = (founds_parts e.author e.body (founding_founds e is)).0;
      seq = omega (arith, seq);
      within = omega (arith, size);
    }

next_spelled : (past : List Entry) (e : Entry) → is_next past e ≡ true → Spelled e
next_spelled past e is =
    elim (next_by past e is) [
      | inl first ↦ first_spelled e first.1
      | inr later ↦ later_spelled past e later
    ]

moment_fits : (m : Moment) → is_clock_moment m ≡ true → FitsSigned w64 m.micros
moment_fits m is = let since = since_1970 m is in let before = before_2600 m is in fits_signed_from_abs w64 m.micros (omega (arith, ints, since, before))

pub next_is_entry : (past : List Entry) (e : Entry) → is_lawful past ≡ true → is_next past e ≡ true → IsEntry e
next_is_entry past e lawful is =
    let fits = next_fits past e is in
    let spelled = next_spelled past e is in
    let room = next_has_room past e is in
    record {
      number = omega (arith, next_number past e is, lawful_bytes past lawful, room.1);
      moment = moment_fits e.moment fits.clock;
      author = spelled.author;
      seq = spelled.seq;
      some = room.0;
      within = spelled.within;
      reads = fits.reads;
    }

pub next_absorbs : (past : List Entry) (e : Entry) → is_lawful past ≡ true → is_next past e ≡ true → CanAbsorb past e
next_absorbs past e lawful is =
    let records = next_records past e is (lawful_records past lawful) in
    record {
      number_is = next_number past e is;
      clock = (next_fits past e is).clock;
      spelled = next_is_entry past e lawful is;
      kept = next_kept past e is;
      few = omega (arith, records, arrived_few past, rows_few e);
    }
