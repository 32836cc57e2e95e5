-- What a command is told that was judged, or that a disk stopped.
use Rattle.std.proofs.Common.{◌≡◌, ◌∙◌, refl, sym, ap, subst, inl, inr, arith, ℕ, ◌+◌, ◌-◌, ◌^◌, ◌≤◌, ◌==◌, Bool, true, false, List, [], ◌∷◌, ◌++◌, length, length-append, take, None, Some, is_some, Result, Ok, Err}
use Rattle.std.proofs.Math.Nat.{min-le_left}
use Rattle.std.proofs.Math.Seq.{take-append_seam}
use Rattle.std.proofs.lemmas.List.{append-nil}
use mathlib.Core.List.{IsPrefix}
use Rattle.exact_time.specs.declared.moment.Moment.{Moment}
use Rattle.epochs.specs.Kinds.{Text}
use Rattle.access_digest.specs.Who.{who_of}
use Rattle.access_digest.specs.declared.denial.Denial.{Denial}
use Rattle.archive_entry.specs.declared.entry.Entry.{Entry}
use Rattle.archive_state.specs.History.{live_of}
use Rattle.archive_state.specs.Lawful.{is_accept}
use Rattle.archive_state.specs.Verdicts.{command, verdict_by, entry_of}
use Rattle.archive_state.specs.declared.posted.Posted.{Posted}
use Rattle.archive_state.specs.declared.verdict.Verdict.{Verdict}
use Rattle.archive_state.specs.declared.verdict.Verdict.TheVariants.{Denied, Role, Repeat, OtherBody, Gap, BadRecord, BadLine, Broken, FullRecords, FullBytes, Accept}
use Rattle.archive_state.proofs.Accepts.{accept_number}
use Rattle.desk_words.specs.Counts.{RoseWithin, RoseAtLeast}
use Rattle.desk_words.specs.Posting.{ruling, posted_entry, command_by, entry_by, listed, added_by as verdict_adds}
use Rattle.desk_words.specs.Setting.{Setting}
use Rattle.desk_words.specs.Stand.{Stand, GoesOn, IsJudged, IsStopped, made_by}
use Rattle.desk_words.specs.declared.asking.Submitted.{Submitted}
use Rattle.centre_desk.specs.Answering.{HasSaid, said_as, entry_number}
use Rattle.centre_desk.specs.Replies.{judged_over, told_verdict}
use Rattle.centre_desk.specs.Told.{status_told}
use Rattle.centre_desk.specs.Turns.{IsLast, AddsRight, added_by, as_count}
use Rattle.centre_desk.specs.declared.fault.Fault.TheVariants as fault
use Rattle.centre_desk.specs.declared.told.Told.{Told}
use Rattle.centre_desk.specs.declared.told.Told.TheVariants.{Refused}
use Rattle.centre_desk.proofs.Statuses.{IsGoing, going_verdict}

-- a count that doesn't fall rose by nothing at least
pub no_less : (told : Told) (before now : ℕ) → IsGoing told → before ≤ now → RoseAtLeast (as_count (status_told told == 503)) before now
no_less told before now is le =
    subst (λ (b : Bool). RoseAtLeast (as_count b) before now) (sym is) (record { later = le; at_least = omega (arith, min-le_left (before + 0) (2 ^ 64 - 1)) })

same_within : (before now : ℕ) → now ≡ before → RoseWithin 0 0 before now
same_within before now is = record { later = omega (arith, is); at_least = omega (arith, is, min-le_left (before + 0) (2 ^ 64 - 1)); at_most = omega (arith, is) }

pub prefix_length : (xs ys : List Entry) → IsPrefix xs ys → length xs ≤ length ys
prefix_length xs ys p = omega (arith, sym (ap length p.1) ∙ length-append xs p.0)

without_last : (j : List Entry) (e : Entry) → judged_over (j ++ e ∷ []) true ≡ j
without_last j e =
    let n : length (j ++ e ∷ []) - 1 ≡ length j = omega (arith, length-append j (e ∷ [])) in
    ap (λ (k : ℕ). take k (j ++ e ∷ [])) n ∙ take-append_seam j (e ∷ [])

-- an accepted command has an entry, with the number behind the last one
pub record OneEntry (j : List Entry) (p : Posted) (m : Moment) (s : Setting) (n : ℕ) : Type 0 where
  pub made : Entry
  pub entry_is : posted_entry j p m s ≡ Some made
  pub number : n ≡ length j + 1

accepted_by : (j : List Entry) (p : Posted) (m : Moment) (s : Setting) (n : ℕ) (w : Result Text Denial) → who_of (live_of j) p.credentials m s.secret ≡ w → verdict_by j s.limits p w ≡ Accept n → OneEntry j p m s n
accepted_by j p m s n (Err d) who is = absurd cc
accepted_by j p m s n (Ok name) who is = record {
  made = entry_of j (command name p.seq p.kind p.body) m;
  entry_is = ap (λ (w : Result Text Denial). entry_by j m (command_by p w)) who;
  number = accept_number j s.limits (command name p.seq p.kind p.body) n is;
}

pub accepted : (j : List Entry) (p : Posted) (m : Moment) (s : Setting) (n : ℕ) → ruling j p m s ≡ Accept n → OneEntry j p m s n
accepted j p m s n is = accepted_by j p m s n (who_of (live_of j) p.credentials m s.secret) refl is

-- what a verdict says of the history after it
record Facts (v : Verdict) (j h : List Entry) (p : Posted) (m : Moment) (s : Setting) : Type 0 where
  judged_is : judged_over h (is_some (entry_number v)) ≡ j
  entry : IsLast (entry_number v) (length h)
  adds : AddsRight h (Some p) m s (is_some (entry_number v))
  longer : length j + added_by (entry_number v) ≡ length h
  made : made_by v ≡ added_by (entry_number v)

module _ (j h : List Entry) (p : Posted) (m : Moment) (s : Setting) where
  no_entry : (v : Verdict) → h ≡ j → ruling j p m s ≡ v → is_accept v ≡ false → entry_number v ≡ None → made_by v ≡ 0 → Facts v j h p m s
  no_entry v same is refused none nothing = record {
    judged_is = rw none same;
    entry = rw none tt;
    adds = rw none (ap (λ (x : List Entry). is_accept (ruling x p m s)) same ∙ (ap is_accept is ∙ refused), tt);
    longer = rw none (omega (arith, ap length same));
    made = rw none nothing;
  }

  facts : (v : Verdict) → ruling j p m s ≡ v → h ≡ j ++ verdict_adds v (posted_entry j p m s) → Facts v j h p m s
  facts (Accept n) is grown =
      let one = accepted j p m s n is in
      let more : h ≡ j ++ one.made ∷ [] = grown ∙ ap (λ o. j ++ listed o) one.entry_is in
      let back : judged_over h true ≡ j = ap (λ (x : List Entry). judged_over x true) more ∙ without_last j one.made in
      let count : length h ≡ length j + 1 = ap length more ∙ length-append j (one.made ∷ []) in
      record {
        judged_is = back;
        entry = one.number ∙ sym count;
        adds = (ap (λ (x : List Entry). is_accept (ruling x p m s)) back ∙ ap is_accept is, subst (λ (x : List Entry). h ≡ x ++ listed (posted_entry x p m s)) (sym back) grown);
        longer = sym count;
        made = refl;
      }
  facts (Denied d) is grown = no_entry (Denied d) (grown ∙ append-nil j) is refl refl refl
  facts Role is grown = no_entry Role (grown ∙ append-nil j) is refl refl refl
  facts (Repeat n) is grown = no_entry (Repeat n) (grown ∙ append-nil j) is refl refl refl
  facts (OtherBody n) is grown = no_entry (OtherBody n) (grown ∙ append-nil j) is refl refl refl
  facts (Gap n) is grown = no_entry (Gap n) (grown ∙ append-nil j) is refl refl refl
  facts (BadRecord at f) is grown = no_entry (BadRecord at f) (grown ∙ append-nil j) is refl refl refl
  facts (BadLine line f) is grown = no_entry (BadLine line f) (grown ∙ append-nil j) is refl refl refl
  facts (Broken line rule) is grown = no_entry (Broken line rule) (grown ∙ append-nil j) is refl refl refl
  facts (FullRecords n) is grown = no_entry (FullRecords n) (grown ∙ append-nil j) is refl refl refl
  facts (FullBytes n) is grown = no_entry (FullBytes n) (grown ∙ append-nil j) is refl refl refl

-- what a command is told over a history
abbrev pub tells_verdict : Posted → Moment → Setting → List Entry → Bool → Told
tells_verdict p m s h added = told_verdict s.limits (ruling (judged_over h added) p m s)

pub judged_said : (old new : Stand) (p : Posted) (m : Moment) (s : Setting) (t : Submitted) → GoesOn old new → IsJudged old new p m s t
    → HasSaid old new (tells_verdict p m s) (Some p) m s (said_as (told_verdict s.limits t.verdict) t.front (entry_number t.verdict))
judged_said old new p m s t on j =
    let f = facts j.judged new.seen p m s t.verdict (sym j.verdict) j.seen in
    record {
      front = j.front;
      rises = omega (arith, prefix_length old.seen j.judged j.begins, f.longer);
      served = inl (record {
        entry = f.entry;
        adds = f.adds;
        told_is = ap (told_verdict s.limits) (j.verdict ∙ ap (λ (x : List Entry). ruling x p m s) (sym f.judged_is));
      });
      stops = no_less (told_verdict s.limits t.verdict) old.stops new.stops (going_verdict s.limits t.verdict) on.stops;
      made = subst (λ (n : ℕ). RoseWithin n n old.made new.made) f.made j.made;
    }

pub stopped_said : (old new : Stand) (p : Posted) (m : Moment) (s : Setting) → GoesOn old new → IsStopped old new p m s
    → HasSaid old new (tells_verdict p m s) (Some p) m s (said_as (Refused fault.Stopped) (length new.seen) None)
stopped_said old new p m s on i = record {
  front = refl;
  rises = omega (arith, prefix_length old.seen new.seen on.grows);
  served = inr (record { no_entry = refl; could = i.could; told_is = refl });
  stops = record { later = on.stops; at_least = i.rose };
  made = same_within old.made new.made i.made;
}

-- what is told without a look at the desk
pub still_said : (x : Stand) (tells : List Entry → Bool → Told) (m : Moment) (s : Setting) (told : Told) → told ≡ tells x.seen false → IsGoing told
    → HasSaid x x tells None m s (said_as told (length x.seen) None)
still_said x tells m s told is going = record {
  front = refl;
  rises = omega arith;
  served = inl (record { entry = tt; adds = refl; told_is = is });
  stops = no_less told x.stops x.stops going (omega arith);
  made = same_within x.made x.made refl;
}

-- what is told of an answer
pub answered_said : (old new : Stand) (tells : List Entry → Bool → Told) (m : Moment) (s : Setting) → GoesOn old new → new.made ≡ old.made → IsGoing (tells new.seen false)
    → HasSaid old new tells None m s (said_as (tells new.seen false) (length new.seen) None)
answered_said old new tells m s on made going = record {
  front = refl;
  rises = omega (arith, prefix_length old.seen new.seen on.grows);
  served = inl (record { entry = tt; adds = refl; told_is = refl });
  stops = no_less (tells new.seen false) old.stops new.stops going on.stops;
  made = same_within old.made new.made made;
}
