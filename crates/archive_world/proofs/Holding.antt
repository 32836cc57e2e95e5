-- What is done under the lock, by its events.
use Rattle.std.proofs.Common.{◌≡◌, inl, inr, ℕ, List, [], ◌∷◌, ◌++◌, length, Bool, true, false, ◌==◌, cond, Option, Some, None, option_to_list, refl, sym, ◌∙◌, ap, subst, arith, append_assoc, append-nil}
use Rattle.std.proofs.lemmas.Bool.{true≢false, eqb-true}
use mathlib.Core.List.{IsPrefix}
use Rattle.disk_model.specs.Disk.{Leaves}
use Rattle.disk_model.specs.View.{DiskView, WhereTold, IsHonest, AlwaysLeaves, is_told}
use Rattle.disk_model.proofs.Moments.{at_rest_now, weakened, and_then}
use Rattle.archive_entry.specs.declared.entry.Entry.{Entry}
use Rattle.archive_history.proofs.Beginnings.{whole_beginning}
use Rattle.archive_log.specs.Histories.{Recovers, RecoversWithOrWithout}
use Rattle.archive_post.specs.Leaving.{LeavesLeft, left_of}
use Rattle.archive_post.specs.Waiting.{are_both, committed}
use Rattle.archive_state.specs.Lawful.{IsLawful}
use Rattle.archive_world.specs.Held.{Held, held, Callers, world_of, IsLeftOf, IsLeftWithin, is_held, with_callers, Goes, GoesBy, LeavesHeld}
use Rattle.archive_world.specs.Submitting.{show_all}
use Rattle.archive_world.specs.World.{World, Event, Allowed, May, after, run}
use Rattle.archive_world.specs.World.Event.{begins, commits, publishes, reads, learns, replies, acknowledges, fails, crashes, recovers}
use Rattle.archive_world.proofs.Worlds.{run-append, allowed-append}

-- ---- what a crash leaves

-- an image of the history alone
left_alone : (w : World) (file : List ℕ) → Recovers w.journal file → IsLeftOf w file
left_alone w file is = record { joins = false; journal = is }

-- an image of the history with or without what is in hand
left_either : (w : World) (e : Entry) (file : List ℕ) → w.hand ≡ Some e → RecoversWithOrWithout w.journal e file → IsLeftOf w file
left_either w e file is (inl without) = left_alone w file without
left_either w e file is (inr with) = record { joins = true; journal = subst (λ (o : Option Entry). Recovers (w.journal ++ option_to_list o) file) (sym is) with }

-- after none of the events
within_none : (w : World) (events : List Event) (file : List ℕ) → IsLeftOf w file → IsLeftWithin w events file
within_none w events file left = record { done = []; ahead = events; are = refl; left = left }

-- the events of one more call
within_first : (w : World) (es fs : List Event) (file : List ℕ) → IsLeftWithin w es file → IsLeftWithin w (es ++ fs) file
within_first w es fs file x = record { done = x.done; ahead = x.ahead ++ fs; are = ap (λ (l : List Event). l ++ fs) x.are ∙ append_assoc x.done x.ahead fs; left = x.left }

within_second : (w : World) (es fs : List Event) (file : List ℕ) → IsLeftWithin (run w es) fs file → IsLeftWithin w (es ++ fs) file
within_second w es fs file x = record {
  done = es ++ x.done;
  ahead = x.ahead;
  are = ap (λ (l : List Event). es ++ l) x.are ∙ sym (append_assoc es x.done x.ahead);
  left = subst (λ (v : World). IsLeftOf v file) (sym (run-append es x.done w)) x.left;
}

-- what is left of an archive that takes commands
pub left_held : (view : DiskView) (h shown : List Entry) (waiting hand : Option Entry) → WhereTold view (LeavesLeft view.may_leave h (left_of waiting hand)) → LeavesHeld view (held (committed h waiting) shown hand)
left_held view h shown (Some e) hand left told c image is = left_alone (world_of (held (h ++ e ∷ []) shown hand) c) image (left told image is)
left_held view h shown None (Some e) left told c image is =
    left_either (world_of (held (h ++ []) shown (Some e)) c) e image refl (subst (λ (l : List Entry). RecoversWithOrWithout l e image) (sym (append-nil h)) (left told image is))
left_held view h shown None None left told c image is = left_alone (world_of (held (h ++ []) shown None) c) image (subst (λ (l : List Entry). Recovers l image) (sym (append-nil h)) (left told image is))

-- an image of what a crash leaves is one of the journal, with or without what is in hand
alone_left : (w : World) (file : List ℕ) → w.hand ≡ None → IsLeftOf w file → Recovers w.journal file
alone_left w file none x =
    elim x.joins as (λ b. Recovers (after w (crashes b)).journal file → Recovers w.journal file) [
      | true ↦ λ is. subst (λ (l : List Entry). Recovers l file) (ap (λ (o : Option Entry). w.journal ++ option_to_list o) none ∙ append-nil w.journal) is
      | false ↦ λ is. is
    ] x.journal

either_left : (w : World) (e : Entry) (file : List ℕ) → w.hand ≡ Some e → IsLeftOf w file → RecoversWithOrWithout w.journal e file
either_left w e file hand x =
    elim x.joins as (λ b. Recovers (after w (crashes b)).journal file → RecoversWithOrWithout w.journal e file) [
      | true ↦ λ is. inr (subst (λ (o : Option Entry). Recovers (w.journal ++ option_to_list o) file) hand is)
      | false ↦ λ is. inl is
    ] x.journal

nobody : Callers
nobody = record { seen = λ c. 0; shown = 0; acknowledged = [] }

-- so what lies under the lock says what is left
pub held_left : (view : DiskView) (h shown : List Entry) (waiting hand : Option Entry) → are_both waiting hand ≡ false
    → LeavesHeld view (held (committed h waiting) shown hand) → WhereTold view (LeavesLeft view.may_leave h (left_of waiting hand))
held_left view h shown (Some e) (Some d) apart left told = absurd (true≢false apart)
held_left view h shown (Some e) None apart left told =
    λ image is. alone_left (world_of (held (h ++ e ∷ []) shown None) nobody) image refl (left told nobody image is)
held_left view h shown None (Some e) apart left told =
    λ image is.
    subst (λ (l : List Entry). RecoversWithOrWithout l e image) (append-nil h)
    (either_left (world_of (held (h ++ []) shown (Some e)) nobody) e image refl (left told nobody image is))
held_left view h shown None None apart left told =
    λ image is.
    subst (λ (l : List Entry). Recovers l image) (append-nil h) (alone_left (world_of (held (h ++ []) shown None) nobody) image refl (left told nobody image is))

-- what is published plays no part in it
pub same_left : (view : DiskView) (h shown now : List Entry) (hand : Option Entry) → LeavesHeld view (held h shown hand) → LeavesHeld view (held h now hand)
same_left view h shown now hand left told c image is = let x = left told c image is in record { joins = x.joins; journal = x.journal }

-- ---- one call after another

goes_then : (before mid now : DiskView) (w v u : World) (es fs : List Event) → is_told mid ≡ is_told before → Goes before mid w es v → Goes mid now v fs u → Goes before now w (es ++ fs) u
goes_then before mid now w v u es fs told first second =
    let there : run w es ≡ v = first.steps.there in
    record {
      steps = record {
        allowed = allowed-append es fs w first.steps.allowed (subst (λ (x : World). Allowed x fs) (sym there) second.steps.allowed);
        there = run-append es fs w ∙ ap (λ (x : World). run x fs) there ∙ second.steps.there;
      };
      images = λ is.
          and_then before mid now (IsLeftWithin w (es ++ fs))
          (weakened before mid (IsLeftWithin w es) (IsLeftWithin w (es ++ fs)) (λ image. within_first w es fs image) (first.images is))
          (weakened mid now (IsLeftWithin v fs) (IsLeftWithin w (es ++ fs)) (λ image left. within_second w es fs image (subst (λ (x : World). IsLeftWithin x fs image) (sym there) left)) (second.images (told ∙ is)));
    }

pub by_then : (before mid now : DiskView) (old new newer : Held) (es fs : List Event) → is_told mid ≡ is_told before → GoesBy before mid old new es → GoesBy mid now new newer fs → GoesBy before now old newer (es ++ fs)
by_then before mid now old new newer es fs told first second c = goes_then before mid now (world_of old c) (world_of new c) (world_of newer c) es fs told (first c) (second c)

-- ---- a disk that isn't called

-- events after which a crash leaves what it leaves now
still : (view : DiskView) → WhereTold view (IsHonest view) → (w : World) (events : List Event) → WhereTold view (Leaves view.may_leave (IsLeftOf w)) → WhereTold view (AlwaysLeaves view view (IsLeftWithin w events))
still view honest w events left told = at_rest_now view (honest told) (IsLeftWithin w events) (λ image now. within_none w events image (left told image now))

-- nothing happens
pub stays : (view : DiskView) → WhereTold view (IsHonest view) → (h : Held) → LeavesHeld view h → GoesBy view view h h []
stays view honest h left c = record { steps = record { allowed = tt; there = refl }; images = still view honest (world_of h c) [] (λ told. left told c) }

-- all that is committed is published
pub shows : (view : DiskView) → WhereTold view (IsHonest view) → (journal shown : List Entry) (hand : Option Entry) → IsPrefix shown journal → LeavesHeld view (held journal shown hand)
    → GoesBy view view (held journal shown hand) (held journal journal hand) (show_all (held journal shown hand))
shows view honest journal shown hand first left = by (length shown == length journal) refl
  where
    by : (b : Bool) → (length shown == length journal) ≡ b → GoesBy view view (held journal shown hand) (held journal journal hand) (cond b [] (publishes ∷ []))
    by false apart = λ c. record { steps = record { allowed = (refl, tt); there = refl }; images = still view honest (world_of (held journal shown hand) c) (publishes ∷ []) (λ told. left told c) }
    by true same =
        let long = eqb-true (length shown) (length journal) same in
        let all : shown ≡ journal = whole_beginning shown journal first (omega (arith, long)) in
        subst (λ (l : List Entry). GoesBy view view (held journal shown hand) (held journal l hand) []) all (stays view honest (held journal shown hand) left)

-- ---- a commit

-- the entry joins the history
pub adds : (before now : DiskView) (h : List Entry) (e : Entry) → IsLawful (h ++ e ∷ []) → WhereTold before (AlwaysLeaves before now (RecoversWithOrWithout h e))
    → GoesBy before now (held h h None) (held (h ++ e ∷ []) h None) (begins e ∷ commits ∷ [])
adds before now h e lawful images c = record {
  steps = record { allowed = ((refl, refl, refl, refl, lawful), ((refl, refl, refl), tt)); there = refl };
  images = λ told.
      weakened before now (RecoversWithOrWithout h e) (IsLeftWithin (world_of (held h h None) c) (begins e ∷ commits ∷ []))
      (λ image either. record { done = begins e ∷ []; ahead = commits ∷ []; are = refl; left = left_either (after (world_of (held h h None) c) (begins e)) e image refl either }) (images told);
}

-- the disk fails
pub stops : (before now : DiskView) (h : List Entry) (e : Entry) → IsLawful (h ++ e ∷ []) → WhereTold before (AlwaysLeaves before now (RecoversWithOrWithout h e))
    → GoesBy before now (held h h None) (held h h (Some e)) (begins e ∷ fails ∷ [])
stops before now h e lawful images c = record {
  steps = record { allowed = ((refl, refl, refl, refl, lawful), (refl, tt)); there = refl };
  images = λ told.
      weakened before now (RecoversWithOrWithout h e) (IsLeftWithin (world_of (held h h None) c) (begins e ∷ fails ∷ []))
      (λ image either. record { done = begins e ∷ []; ahead = fails ∷ []; are = refl; left = left_either (after (world_of (held h h None) c) (begins e)) e image refl either }) (images told);
}

-- ---- what callers have plays no part

pub ignores_may : (w : World) (c : Callers) (e : Event) → is_held e ≡ true → May w e → May (with_callers w c) e
ignores_may w c (begins x) is may = may
ignores_may w c commits is may = may
ignores_may w c publishes is may = may
ignores_may w c fails is may = may
ignores_may w c (reads k n) is may = absurd (true≢false (sym is))
ignores_may w c (learns k) is may = absurd (true≢false (sym is))
ignores_may w c (replies k n) is may = absurd (true≢false (sym is))
ignores_may w c (acknowledges k n) is may = absurd (true≢false (sym is))
ignores_may w c (crashes b) is may = absurd (true≢false (sym is))
ignores_may w c recovers is may = absurd (true≢false (sym is))

pub ignores_after : (w : World) (c : Callers) (e : Event) → is_held e ≡ true → after (with_callers w c) e ≡ with_callers (after w e) c
ignores_after w c (begins x) is = refl
ignores_after w c commits is = refl
ignores_after w c publishes is = refl
ignores_after w c fails is = refl
ignores_after w c (reads k n) is = absurd (true≢false (sym is))
ignores_after w c (learns k) is = absurd (true≢false (sym is))
ignores_after w c (replies k n) is = absurd (true≢false (sym is))
ignores_after w c (acknowledges k n) is = absurd (true≢false (sym is))
ignores_after w c (crashes b) is = absurd (true≢false (sym is))
ignores_after w c recovers is = absurd (true≢false (sym is))
