-- What a post and a submit do, by their events.
use Rattle.std.proofs.Common.{◌≡◌, ◌⊎◌, inl, inr, ℕ, ◌+◌, List, [], ◌∷◌, ◌++◌, length, Bool, true, false, ◌==◌, Option, Some, None, is_some, option_to_list, Result, Ok, Err, refl, sym, ◌∙◌, ap, subst, arith, append_assoc, append-nil, if◌then◌else◌}
use Rattle.std.specs.Result.{IsErrAnd, IsErrOf}
use Rattle.std.proofs.lemmas.Bool.Decides.{nat_tests}
use Rattle.std.proofs.lemmas.List.{length_push}
use mathlib.Core.List.{IsPrefix}
use Rattle.exact_time.specs.declared.moment.Moment.{Moment}
use Rattle.disk_model.specs.View.{DiskView, WhereTold, IsHonest, is_told}
use Rattle.archive_entry.specs.declared.entry.Entry.{Entry}
use Rattle.archive_log.specs.Archive.{Archived}
use Rattle.archive_post.specs.Posts.{Commits, IsHalted, IsTheOne, IsUntouched, Posts, first_hand}
use Rattle.archive_post.specs.Waiting.{committed, waits}
use Rattle.archive_post.specs.declared.kept.Intake.{Intake}
use Rattle.archive_post.proofs.Calls.{accepts_or_not, nothing_added, the_one}
use Rattle.archive_state.specs.Lawful.{IsLawful, is_next}
use Rattle.archive_state.specs.declared.posted.Posted.{Posted}
use Rattle.archive_state.specs.declared.verdict.Verdict.{Verdict}
use Rattle.archive_state.proofs.Growth.{lawful_push}
use Rattle.desk_words.specs.Posting.{added_by, listed, posted_entry}
use Rattle.desk_words.specs.Setting.{Setting}
use Rattle.desk_words.specs.declared.asking.Submitted.{Submitted}
use Rattle.desk_words.specs.declared.asking.SubmitFault.{SubmitFault}
use Rattle.desk_words.specs.declared.asking.SubmitFault.TheVariants.{Stopped, OutOfMemory as NoMemory}
use Rattle.archive_world.specs.Held.{Held, held, GoesBy, LeavesHeld}
use Rattle.archive_world.specs.Submitting.{Makes, commit_each, post_events, show_all, show_each, stop_at}
use Rattle.archive_world.specs.World.{Event}
use Rattle.archive_world.specs.World.Event.{begins, commits, publishes, fails}
use Rattle.archive_world.proofs.Holding.{adds, by_then, shows, stays, stops}

-- the same, where both ends are spelt otherwise
respelt : {D : Type 0} (view : D → DiskView) (before now now' : D) (h : List Entry) (hand hand' : Option Entry) (new new' : Held) (events events' : List Event) → now' ≡ now → hand' ≡ hand → new' ≡ new → events' ≡ events
    → GoesBy (view before) (view now) (held h h hand) new events → GoesBy (view before) (view now') (held h h hand') new' events'
respelt {D} view before now now' h hand hand' new new' events events' disk first last made goes =
    subst (λ (x : D × Option Entry × Held × List Event). GoesBy (view before) (view x.0) (held h h x.1) x.2 x.3) (λ i. (sym disk i, sym first i, sym last i, sym made i)) goes

pub held_is : (h l h' l' : List Entry) (hand hand' : Option Entry) → h ≡ h' → l ≡ l' → hand ≡ hand' → held h l hand ≡ held h' l' hand'
held_is h l h' l' hand hand' journal published is i = held (journal i) (published i) (is i)

none_running : {A : Type 0} (o : Option A) → is_some o ≡ false → o ≡ None
none_running None is = refl
none_running (Some x) is = absurd (cc (is))

module _ {D : Type 0} (view : D → DiskView) (honest : (d : D) → WhereTold (view d) (IsHonest (view d))) (old new : Intake D) (h : List Entry) (none : old.waiting ≡ None) (hand_is : is_some old.archive.hand ≡ old.archive.stopped)
    (left : LeavesHeld (view old.archive.disk) (held h h old.archive.hand)) (lawful : IsLawful h) where
  abbrev pub before : Held
  before = held h h old.archive.hand

  abbrev pub behind : Held
  behind = held (committed h new.waiting) h new.archive.hand

  -- the disk wasn't called
  untouched : new.waiting ≡ None → new.archive.hand ≡ old.archive.hand → new.archive.disk ≡ old.archive.disk → GoesBy (view old.archive.disk) (view new.archive.disk) before behind []
  untouched none_waits same disk =
      respelt view old.archive.disk old.archive.disk new.archive.disk h old.archive.hand old.archive.hand before behind [] [] disk refl
      (held_is (committed h new.waiting) h h h new.archive.hand old.archive.hand (ap (committed h) none_waits ∙ append-nil h) refl same) refl (stays (view old.archive.disk) (honest old.archive.disk) before left)

  by_nothing : IsUntouched old new → GoesBy (view old.archive.disk) (view new.archive.disk) before behind []
  by_nothing u = untouched (u.waiting ∙ none) (ap (λ (a : Archived D). a.hand) u.archive) (ap (λ (a : Archived D). a.disk) u.archive)

  by_halting : (e : Entry) (posted : Option Entry) (Stops : Type 0) → posted ≡ Some e → is_next h e ≡ true → Commits view old.archive new.archive h e Stops → IsHalted old new e
      → GoesBy (view old.archive.disk) (view new.archive.disk) before behind (stop_at old.archive.hand posted)
  by_halting e posted Stops is next call a = by old.archive.hand refl
    where
      by : (o : Option Entry) → old.archive.hand ≡ o → GoesBy (view old.archive.disk) (view new.archive.disk) before behind (stop_at o posted)
      by (Some x) some =
          let same = a.silent (sym hand_is ∙ ap is_some some) in
          untouched a.waiting (ap (λ (y : Archived D). y.hand) same) (ap (λ (y : Archived D). y.disk) same)
      by None first =
          let running : old.archive.stopped ≡ false = sym hand_is ∙ ap is_some first in
          respelt view old.archive.disk new.archive.disk new.archive.disk h None old.archive.hand (held h h (Some e)) behind (begins e ∷ fails ∷ []) (stop_at None posted) refl first
          (held_is (committed h new.waiting) h h h new.archive.hand (Some e) (ap (committed h) a.waiting ∙ append-nil h) refl (a.hand ∙ ap (λ (y : Option Entry). first_hand y e) first)) (ap (stop_at None) is)
          (stops (view old.archive.disk) (view new.archive.disk) h e (lawful_push h e lawful next) (λ told. call.any_moment told running))

  pub post_goes : (p : Posted) (m : Moment) (s : Setting) (r : Result Verdict SubmitFault) → waits h new.waiting ≡ true → Posts old new h p m s r
      → ((e : Entry) → IsTheOne (posted_entry h p m s) e → Commits view old.archive new.archive h e (IsErrOf r Stopped))
      → GoesBy (view old.archive.disk) (view new.archive.disk) before behind (post_events r old.archive.hand (posted_entry h p m s))
  post_goes p m s (Err NoMemory) next row calls = by_nothing row
  post_goes p m s (Err Stopped) next row calls = by_halting row.entry (posted_entry h p m s) _ row.posted row.next (calls row.entry (the_one (posted_entry h p m s) row.entry row.posted)) row.halted
  post_goes p m s (Ok v) next row calls =
      elim (accepts_or_not v) [
        | inl accepts ↦
            let x = row.accepted accepts.0 accepts.1 in
            let e = x.0 in
            let first = none_running old.archive.hand (hand_is ∙ x.2.before) in
            respelt view old.archive.disk new.archive.disk new.archive.disk h None old.archive.hand (held (h ++ e ∷ []) h None) behind (begins e ∷ commits ∷ []) (commit_each (added_by v (posted_entry h p m s))) refl first
            (held_is (committed h new.waiting) h (h ++ e ∷ []) h new.archive.hand None (ap (committed h) x.2.waiting) refl (x.2.hand ∙ first))
            ((λ i. commit_each (added_by (accepts.1 i) (x.1 i))))
            (adds (view old.archive.disk) (view new.archive.disk) h e (lawful_push h e lawful (sym (ap (waits h) x.2.waiting) ∙ next)) (λ told. (calls e (the_one (posted_entry h p m s) e x.1)).any_moment told x.2.before))
        | inr other ↦ subst (λ (l : List Entry). GoesBy (view old.archive.disk) (view new.archive.disk) before behind (commit_each l)) (sym (nothing_added v (posted_entry h p m s) other).1) (by_nothing (row.refused other))
      ]

-- what a post adds is what waits behind it
pub waits_added : {D : Type 0} (old new : Intake D) (h : List Entry) (p : Posted) (m : Moment) (s : Setting) (v : Verdict) → old.waiting ≡ None → Posts old new h p m s (Ok v) → added_by v (posted_entry h p m s) ≡ option_to_list new.waiting
waits_added old new h p m s v none row =
    elim (accepts_or_not v) [
      | inl accepts ↦ let x = row.accepted accepts.0 accepts.1 in (λ i. added_by (accepts.1 i) (x.1 i)) ∙ ap option_to_list (sym x.2.waiting)
      | inr other ↦ (nothing_added v (posted_entry h p m s) other).1 ∙ ap option_to_list (sym none) ∙ ap option_to_list (sym (row.refused other).waiting)
    ]

-- what was posted is added, or nothing is
added_or_not : (v : Verdict) (posted : Option Entry) → (added_by v posted ≡ option_to_list posted) ⊎ (added_by v posted ≡ [])
added_or_not v posted =
    elim (accepts_or_not v) [
      | inl accepts ↦ inl (ap (λ (w : Verdict). added_by w posted) accepts.1 ∙ listed_as posted)
      | inr other ↦ inr (nothing_added v posted other).1
    ]
  where
    listed_as : (o : Option Entry) → listed o ≡ option_to_list o
    listed_as None = refl
    listed_as (Some e) = refl

-- ---- a submit: it shows what waits, posts, and shows again

one_longer : (h : List Entry) (e : Entry) → (length h == length (h ++ e ∷ [])) ≡ false
one_longer h e = by (length h) (length (h ++ e ∷ [])) (length_push h e)
  where
    by : (n m : ℕ) → m ≡ n + 1 → (n == m) ≡ false
    by n m is = grind (arith, nat_tests)

same_long : (n m : ℕ) → n ≡ m → (n == m) ≡ true
same_long n m is = grind (arith, nat_tests)

-- an entry that was committed is shown
committed_and_shown : (h : List Entry) (waiting hand : Option Entry) → commit_each (option_to_list waiting) ++ show_all (held (committed h waiting) h hand) ≡ show_each (option_to_list waiting)
committed_and_shown h None hand = ap (λ (b : Bool). if b then [] else publishes ∷ []) (same_long (length h) (length (h ++ [])) (ap length (sym (append-nil h))))
committed_and_shown h (Some e) hand = ap (λ (b : Bool). begins e ∷ commits ∷ (if b then [] else publishes ∷ [])) (one_longer h e)

-- nothing waits, and all is published: what is left of the history alone
pub left_shown : (view : DiskView) (h front : List Entry) (waiting hand : Option Entry) → waiting ≡ None → front ≡ h → LeavesHeld view (held (committed h waiting) front hand) → LeavesHeld view (held h h hand)
left_shown view h front waiting hand none shown left =
    subst (LeavesHeld view) (held_is (committed h waiting) front h h hand hand (ap (committed h) none ∙ append-nil h) shown refl) left

-- the same, where the end is spelt otherwise
pub makes_as : {D : Type 0} (view : D → DiskView) (before now now' : D) (old new new' : Held) (posted : Option Entry) (r : Result Submitted SubmitFault) → now' ≡ now → new' ≡ new → Makes (view before) (view now) old new posted r → Makes (view before) (view now') old new' posted r
makes_as {D} view before now now' old new new' posted r disk last made = subst (λ (x : D × Held). Makes (view before) (view x.0) old x.1 posted r) (λ i. (sym disk i, sym last i)) made

-- a post over what was shown before
pub post_as : {D : Type 0} (view : D → DiskView) (d d' now : D) (l h : List Entry) (hand hand' waiting behind : Option Entry) (p : Posted) (m : Moment) (s : Setting) (r : Result Verdict SubmitFault) → d ≡ d' → l ≡ h → hand ≡ hand'
    → GoesBy (view d) (view now) (held l l hand) (held (committed l waiting) l behind) (post_events r hand (posted_entry l p m s))
    → GoesBy (view d') (view now) (held h h hand') (held (committed h waiting) h behind) (post_events r hand' (posted_entry h p m s))
post_as {D} view d d' now l h hand hand' waiting behind p m s r disk same is goes =
    subst (λ (x : D × List Entry × Option Entry). GoesBy (view x.0) (view now) (held x.1 x.1 x.2) (held (committed x.1 waiting) x.1 behind) (post_events r x.2 (posted_entry x.1 p m s))) (λ i. (disk i, same i, is i)) goes

-- what a submit begins with, and what its post leaves
module _ {D : Type 0} (view : D → DiskView) (honest : (d : D) → WhereTold (view d) (IsHonest (view d))) (before mid : D) (h shown : List Entry) (hand : Option Entry) (first : IsPrefix shown h) (left : LeavesHeld (view before) (held h shown hand)) (posted : Option Entry) where
  abbrev pub old : Held
  old = held h shown hand

  flush : GoesBy (view before) (view before) old (held h h hand) (show_all old)
  flush = shows (view before) (honest before) h shown hand first left

  -- memory ran out before anything was shown
  pub unshown : (r : Result Submitted SubmitFault) → IsErrAnd r (λ f. f ≡ NoMemory) → Makes (view before) (view before) old old posted r
  unshown (Ok told) is = absurd is
  unshown (Err Stopped) is = absurd (cc (is))
  unshown (Err NoMemory) is = record { events = []; are = inl refl; goes = stays (view before) (honest before) old left }

  module _ (waiting behind : Option Entry) where
    abbrev pub end : Held
    end = held (committed h waiting) h behind

    -- the post was answered with a fault
    pub unposted : (f : SubmitFault) → GoesBy (view before) (view mid) (held h h hand) end (post_events (Err f) hand posted) → (r : Result Submitted SubmitFault) → IsErrAnd r (λ x. x ≡ f) → Makes (view before) (view mid) old end posted r
    unposted f goes (Ok done) is = absurd is
    unposted Stopped goes (Err NoMemory) is = absurd (cc (is))
    unposted NoMemory goes (Err Stopped) is = absurd (cc (is))
    unposted Stopped goes (Err Stopped) is = record {
      events = show_all old ++ stop_at hand posted;
      are = refl;
      goes = by_then (view before) (view before) (view mid) old (held h h hand) end (show_all old) (stop_at hand posted) refl flush goes;
    }
    unposted NoMemory goes (Err NoMemory) is = record {
      events = show_all old ++ [];
      are = inr (inl (append-nil (show_all old)));
      goes = by_then (view before) (view before) (view mid) old (held h h hand) end (show_all old) [] refl flush goes;
    }

    -- memory ran out behind the post
    pub unshown_again : (v : Verdict) → GoesBy (view before) (view mid) (held h h hand) end (post_events (Ok v) hand posted) → (r : Result Submitted SubmitFault) → IsErrAnd r (λ x. x ≡ NoMemory) → Makes (view before) (view mid) old end posted r
    unshown_again v goes (Ok done) is = absurd is
    unshown_again v goes (Err Stopped) is = absurd (cc (is))
    unshown_again v goes (Err NoMemory) is = record {
      events = show_all old ++ commit_each (added_by v posted);
      are = elim (added_or_not v posted) [
        | inl all ↦ inr (inr (ap (λ (l : List Entry). show_all old ++ commit_each l) all))
        | inr nothing ↦ inr (inl (ap (λ (l : List Entry). show_all old ++ commit_each l) nothing ∙ append-nil (show_all old)))
      ];
      goes = by_then (view before) (view before) (view mid) old (held h h hand) end (show_all old) (commit_each (added_by v posted)) refl flush goes;
    }

    -- all is shown
    pub shown_again : (told : Submitted) → added_by told.verdict posted ≡ option_to_list waiting → is_told (view mid) ≡ is_told (view before)
        → GoesBy (view before) (view mid) (held h h hand) end (post_events (Ok told.verdict) hand posted) → LeavesHeld (view mid) end → Makes (view before) (view mid) old (held (committed h waiting) (committed h waiting) behind) posted (Ok told)
    shown_again told added still goes again =
        let events = commit_each (added_by told.verdict posted) in
        let last = held (committed h waiting) (committed h waiting) behind in
        let made : events ++ show_all end ≡ show_each (added_by told.verdict posted) =
        ap (λ (l : List Entry). commit_each l ++ show_all end) added ∙ committed_and_shown h waiting behind ∙ ap show_each (sym added) in
        record {
          events = (show_all old ++ events) ++ show_all end;
          are = append_assoc (show_all old) events (show_all end) ∙ ap (λ (l : List Event). show_all old ++ l) made;
          goes =
              by_then (view before) (view mid) (view mid) old end last (show_all old ++ events) (show_all end) still
              (by_then (view before) (view before) (view mid) old (held h h hand) end (show_all old) events refl flush goes)
              (shows (view mid) (honest mid) (committed h waiting) h behind (option_to_list waiting, refl) again);
        }
