-- What is hidden changes no answer, and entries are given to those who may copy them.
use Rattle.std.proofs.Common.{◌≡◌, ◌∙◌, ap, refl, ℕ, true, false, true≢false, Option, Result, Ok, Err, List, length, nat_lt}
use Rattle.std.specs.Prelude.{if◌then◌else◌}
use Rattle.epochs.specs.Kinds.{Text}
use Rattle.access_digest.specs.declared.denial.Denial.{Denial}
use Rattle.archive_entry.specs.declared.entry.Entry.{Entry}
use Rattle.archive_state.specs.History.{live_of}
use Rattle.archive_state.specs.declared.limits.Limits.{Limits}
use Rattle.entry_bodies.specs.Bodies.{entries_body}
use Rattle.desk_words.specs.declared.asking.Question.{Question}
use Rattle.desk_words.specs.declared.asking.Wanted.{Wanted}
use Rattle.desk_words.specs.declared.asking.Wanted.TheVariants.{Nothing, Waves, Spans, Extent, Station, Event, Entries}
use Rattle.desk_words.specs.declared.asking.Outcome.{Outcome}
use Rattle.desk_words.specs.declared.asking.Outcome.TheVariants.{Behind, NoRole}
use Rattle.desk_words.specs.Setting.{Setting}
use Rattle.desk_words.specs.Visible.{Visible, visible}
use Rattle.desk_words.specs.Outcomes.{asker_of, answer_to, asks_entries, body_told, entries_told, may_copy, outcome_by, outcome_from, outcome_of, told_as, wanted_outcome}

-- where no entries are asked for, the answer rests on what is visible alone
wanted_alike : (v : Visible) (a b : ℕ → Outcome) (limits : Limits) (wanted : Wanted) → asks_entries wanted ≡ false → wanted_outcome v a limits wanted ≡ wanted_outcome v b limits wanted
wanted_alike v a b limits Nothing other = refl
wanted_alike v a b limits (Waves q) other = refl
wanted_alike v a b limits (Spans q) other = refl
wanted_alike v a b limits (Extent q) other = refl
wanted_alike v a b limits (Station q) other = refl
wanted_alike v a b limits (Event q) other = refl
wanted_alike v a b limits (Entries from) other = absurd (true≢false other)

-- what is told to an asker rests on what is visible to that one alone
told_alike : (a : Result (Option Text) Denial) (h g : List Entry) (limits : Limits) (wanted : Wanted) → asks_entries wanted ≡ false
    → ((user : Option Text) → a ≡ Ok user → visible h user ≡ visible g user)
    → told_as a (λ user. answer_to h limits user wanted) ≡ told_as a (λ user. answer_to g limits user wanted)
told_alike (Ok user) h g limits wanted other same =
    ap (λ (v : Visible). wanted_outcome v (entries_told h limits user) limits wanted) (same user refl)
    ∙ wanted_alike (visible g user) (entries_told h limits user) (entries_told g limits user) limits wanted other
told_alike (Err denial) h g limits wanted other same = refl

pub isolated : (h g : List Entry) (q : Question) (s : Setting) → asks_entries q.wanted ≡ false → length h ≡ length g → asker_of h q s ≡ asker_of g q s
    → ((user : Option Text) → asker_of h q s ≡ Ok user → visible h user ≡ visible g user) → outcome_of h q s ≡ outcome_of g q s
unfolding outcome_of
isolated h g q s other long asker same =
    (λ i. if nat_lt (long i) q.least then Behind else told_alike (asker_of h q s) h g s.limits q.wanted other same i)
    ∙ ap (λ (a : Result (Option Text) Denial). outcome_by (length g) a (λ user. answer_to g s.limits user q.wanted) q) asker

-- what a question for entries is answered with, where it is neither behind nor denied
entries_answer : (h : List Entry) (q : Question) (s : Setting) (user : Option Text) (from : ℕ) → q.wanted ≡ Entries from
    → nat_lt (length h) q.least ≡ false → asker_of h q s ≡ Ok user → outcome_of h q s ≡ entries_told h s.limits user from
unfolding outcome_of
entries_answer h q s user from wanted enough asker =
    (λ i. if enough i then Behind else told_as (asker i) (λ user. answer_to h s.limits user (wanted i)))

module _ (h : List Entry) (q : Question) (s : Setting) (user : Option Text) (from : ℕ) (wanted : q.wanted ≡ Entries from) (enough : nat_lt (length h) q.least ≡ false) (asker : asker_of h q s ≡ Ok user) where
  pub entries_given : may_copy (live_of h) user ≡ true → outcome_of h q s ≡ outcome_from body_told (entries_body h from s.limits.max_bytes)
  entries_given may =
      entries_answer h q s user from wanted enough asker
      ∙ ap (λ b. if b then outcome_from body_told (entries_body h from s.limits.max_bytes) else NoRole) may

  pub entries_refused : may_copy (live_of h) user ≡ false → outcome_of h q s ≡ NoRole
  entries_refused may =
      entries_answer h q s user from wanted enough asker
      ∙ ap (λ b. if b then outcome_from body_told (entries_body h from s.limits.max_bytes) else NoRole) may
