-- What callers see, by events.
use Rattle.std.proofs.Common.{◌≡◌, ◌∙◌, inl, inr, ℕ, ◌≤◌, Bool, true, false, List, [], ◌∷◌, ◌++◌, length, Option, None, Some, option_to_list, Result, Ok, Err, refl, sym, ap, subst, arith, append-nil, if◌then◌else◌, ◌==◌, ◌&&◌}
use Rattle.std.specs.Prelude.{⊤}
use Rattle.std.specs.List.{AllByRecursion, list_all}
use Rattle.std.proofs.lemmas.Bool.Decides.{nat_tests}
use mathlib.Core.List.{IsPrefix}
use Rattle.archive_entry.specs.declared.entry.Entry.{Entry}
use Rattle.archive_history.proofs.Beginnings.{beginning_length}
use Rattle.archive_post.specs.Waiting.{committed}
use Rattle.desk_words.specs.Posting.{added_by}
use Rattle.desk_words.specs.declared.asking.Submitted.{Submitted}
use Rattle.desk_words.specs.declared.asking.SubmitFault.{SubmitFault}
use Rattle.desk_words.specs.declared.asking.SubmitFault.TheVariants.{Stopped, OutOfMemory as NoMemory}
use Rattle.archive_world.specs.Held.{Held, held, Callers, world_of, WorldSteps, IsHeld, callers_after, Recovered, StartsOver, is_held}
use Rattle.archive_world.specs.Submitting.{Answered, returns, Reads, Learns, NoEvents, Opens, IsMade, commit_each, show_all, show_each, stop_at}
use Rattle.archive_world.specs.Submitting.Answered.{without, over, with_number}
use Rattle.archive_world.specs.World.{World, Event, Allowed, after, run, set_seen}
use Rattle.archive_world.specs.World.Event.{publishes, reads, learns}

-- what a caller can be told who has seen so many entries
abbrev pub CanBeTold : Answered → ℕ → Type 0
CanBeTold without k = ⊤
CanBeTold (over front) k = front ≡ k
CanBeTold (with_number n) k = (1 ≤ n) × (n ≤ k)

set_same : (seen : ℕ → ℕ) (c n : ℕ) → set_seen seen c n c ≡ n
set_same seen c n = grind (arith, nat_tests)

may_return : (w : World) (caller k : ℕ) (told : Answered) → w.up ≡ true → w.seen caller ≡ k → CanBeTold told k → Allowed w (returns caller told)
may_return w caller k without up seen can = tt
may_return w caller k (over front) up seen can = ((up, can ∙ sym seen), tt)
may_return w caller k (with_number n) up seen can = ((up, can.0, omega (arith, can.1, seen)), tt)

seen_on : (w : World) (caller k : ℕ) (told : Answered) → w.seen caller ≡ k → (run w (returns caller told)).seen caller ≡ k
seen_on w caller k without seen = seen
seen_on w caller k (over front) seen = seen
seen_on w caller k (with_number n) seen = seen

pub reads_by : (old seen : List Entry) (told : Answered) → IsPrefix old seen → CanBeTold told (length seen) → Reads old seen told
reads_by old seen told grows can = record {
  grows = grows;
  allowed = λ h c caller had most. ((refl, omega (arith, had, beginning_length old seen grows), beginning_length seen h.published most), may_return (after (world_of h c) (reads caller (length seen))) caller (length seen) told refl (set_same c.seen caller (length seen)) can);
  sees = λ h c caller. seen_on (after (world_of h c) (reads caller (length seen))) caller (length seen) told (set_same c.seen caller (length seen));
}

module _ (old seen : List Entry) (told : Answered) (first behind : Held) (is : IsHeld first) (saw : IsPrefix old first.published) (all : seen ≡ behind.published) (can : CanBeTold told (length seen)) where
  abbrev n : ℕ
  n = length behind.published

  same : length seen ≡ n
  same = ap length all

  pub learns_by : (Are : Held → List Event → Type 0) (events : List Event) → Are first events → ((c : Callers) → WorldSteps (world_of first c) events (world_of behind c)) → Learns old seen Are told
  learns_by Are events are goes = record {
    before = first;
    behind = behind;
    is = is;
    saw = saw;
    events = events;
    are = are;
    goes = goes;
    all = all;
    allowed = λ c caller. (refl, may_return (after (world_of behind c) (learns caller)) caller (length seen) told refl (set_same c.seen caller n ∙ sym same) can);
    sees = λ c caller. seen_on (after (world_of behind c) (learns caller)) caller (length seen) told (set_same c.seen caller n ∙ sym same);
  }

-- nothing happens under the lock
pub learns_still : (old seen : List Entry) (first : Held) → IsHeld first → IsPrefix old first.published → seen ≡ first.published → Learns old seen NoEvents without
learns_still old seen first is saw all = learns_by old seen without first first is saw all tt NoEvents [] refl (λ c. record { allowed = tt; there = refl })

-- ---- what a submit makes happen, happens under the lock

all_joined : (p : Event → Bool) (es fs : List Event) → list_all p es ≡ true → list_all p fs ≡ true → list_all p (es ++ fs) ≡ true
all_joined p [] fs first second = second
all_joined p (e ∷ es) fs first second = by (p e) (list_all p es) (list_all p (es ++ fs)) first (all_joined p es fs)
  where
    by : (b c d : Bool) → (b && c) ≡ true → (c ≡ true → list_all p fs ≡ true → d ≡ true) → (b && d) ≡ true
    by true c d is rest = rest is second
    by false c d is rest = absurd cc

held_shown : (h : Held) → list_all is_held (show_all h) ≡ true
held_shown h = by (length h.published == length h.journal)
  where
    by : (b : Bool) → list_all is_held (if b then [] else publishes ∷ []) ≡ true
    by true = refl
    by false = refl

held_each : (es : List Entry) → list_all is_held (show_each es) ≡ true
held_each [] = refl
held_each (e ∷ es) = held_each es

held_commits : (es : List Entry) → list_all is_held (commit_each es) ≡ true
held_commits [] = refl
held_commits (e ∷ es) = held_commits es

held_stop : (hand posted : Option Entry) → list_all is_held (stop_at hand posted) ≡ true
held_stop None (Some e) = refl
held_stop None None = refl
held_stop (Some first) posted = refl

pub made_held : (h : Held) (posted : Option Entry) (r : Result Submitted SubmitFault) (events : List Event) → IsMade h posted r events → list_all is_held events ≡ true
made_held h posted (Ok told) events are =
    let more = show_each (added_by told.verdict posted) in
    subst (λ (l : List Event). list_all is_held l ≡ true) (sym are) (all_joined is_held (show_all h) more (held_shown h) (held_each (added_by told.verdict posted)))
made_held h posted (Err Stopped) events are =
    subst (λ (l : List Event). list_all is_held l ≡ true) (sym are) (all_joined is_held (show_all h) (stop_at h.hand posted) (held_shown h) (held_stop h.hand posted))
made_held h posted (Err NoMemory) events (inl none) = subst (λ (l : List Event). list_all is_held l ≡ true) (sym none) refl
made_held h posted (Err NoMemory) events (inr (inl one)) = subst (λ (l : List Event). list_all is_held l ≡ true) (sym one) (held_shown h)
made_held h posted (Err NoMemory) events (inr (inr more)) =
    let joined = commit_each (option_to_list posted) in
    subst (λ (l : List Event). list_all is_held l ≡ true) (sym more) (all_joined is_held (show_all h) joined (held_shown h) (held_commits (option_to_list posted)))

-- ---- a start

pub recovered : (opening : List Entry) → Recovered opening
recovered opening w o = record {
  allowed = (tt, (refl, tt));
  there = ap (λ (h : List Entry). world_of (held h h None) (callers_after w)) (sym o.history);
}

pub starts_over : (opening l : List Entry) (waiting hand : Option Entry) → l ≡ opening → waiting ≡ None → hand ≡ None → StartsOver opening (held (committed l waiting) l hand)
starts_over opening l waiting hand same none empty = record {
  is = λ i. held ((ap (committed l) none ∙ append-nil l ∙ same) i) (same i) (empty i);
  again = recovered opening;
}

read_all : {P : Type 0} (opening : List Entry) (seen : P → List Entry) (places : List P) → AllByRecursion (λ p. seen p ≡ opening) places
    → AllByRecursion (λ p. (c : Callers) (caller : ℕ) → c.seen caller ≡ 0 → Allowed (world_of (held opening opening None) c) (reads caller (length (seen p)) ∷ [])) places
read_all opening seen [] all = tt
read_all opening seen (p ∷ places) all = ((λ c caller none. ((refl, omega (arith, none), omega (arith, ap length all.0)), tt)), read_all opening seen places all.1)

pub opens : {P : Type 0} (opening : List Entry) (seen : P → List Entry) (places : List P) → AllByRecursion (λ p. seen p ≡ opening) places → Opens opening seen places
opens opening seen places all = record { recovered = recovered opening; read = read_all opening seen places all }
