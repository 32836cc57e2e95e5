-- What a crash leaves of a desk.
use Rattle.std.proofs.Common.{◌≡◌, ◌∙◌, ℕ, Bool, true, false, List, [], ◌∷◌, ◌++◌, sym, refl, ap, subst, Option, None, Some, is_some, option_to_list, ◌<◌, arith}
use Rattle.std.specs.List.{AllByRecursion}
use Rattle.std.proofs.lemmas.Bool.{true≢false}
use Rattle.std.proofs.lemmas.List.{append-nil}
use Rattle.disk_model.specs.View.{DiskView, AlwaysLeaves}
use Rattle.archive_entry.specs.declared.entry.Entry.{Entry}
use Rattle.archive_log.specs.Archive.{Archived, Stands}
use Rattle.archive_log.specs.Histories.{IsNextEntry, Recovers, RecoversWithOrWithout}
use Rattle.archive_entry.specs.Spelling.{IsEntry}
use Rattle.archive_state.specs.Lawful.{IsLawful}
use Rattle.archive_post.specs.Leaving.{LeavesLeft, KeepsHistory, left_of}
use Rattle.archive_post.specs.Waiting.{waits, are_both}

-- a disk that isn't called
pub at_rest : (view : DiskView) (h latest : List Entry) → h ≡ latest → ((e : Entry) → AlwaysLeaves view view (RecoversWithOrWithout h e)) → (e : Entry) → AlwaysLeaves view view (RecoversWithOrWithout latest e)
at_rest view h latest same rest e = subst (λ (l : List Entry). AlwaysLeaves view view (RecoversWithOrWithout l e)) same (rest e)

front_of : (xs ys : List Entry) → AllByRecursion IsEntry (xs ++ ys) → AllByRecursion IsEntry xs
front_of [] ys all = tt
front_of (x ∷ xs) ys all = (all.0, front_of xs ys all.1)

last_of : (xs : List Entry) (y : Entry) → AllByRecursion IsEntry (xs ++ y ∷ []) → IsEntry y
last_of [] y all = all.0
last_of (x ∷ xs) y all = last_of xs y all.1

module _ {D : Type 0} (view : D → DiskView) (archive : Archived D) (seen : List Entry) (hand_is : is_some archive.hand ≡ archive.stopped) (stands : Stands view archive) where
  runs : archive.hand ≡ None → archive.stopped ≡ false
  runs none = sym hand_is ∙ ap is_some none

  left_by : (short hand : Option Entry) → archive.hand ≡ hand → archive.history ≡ seen ++ option_to_list short → are_both short archive.hand ≡ false → LeavesLeft (view archive.disk).may_leave seen (left_of short hand)
  left_by None None none kept apart = λ image now. subst (λ (h : List Entry). Recovers h image) (kept ∙ append-nil seen) (stands.running (runs none) image now)
  left_by (Some e) None none kept apart = λ image now. subst (λ (h : List Entry). Recovers h image) kept (stands.running (runs none) image now)
  left_by None (Some f) one kept apart = λ image now. subst (λ (h : List Entry). RecoversWithOrWithout h f image) (kept ∙ append-nil seen) ((stands.halted f one).left image now)
  left_by (Some e) (Some f) one kept apart = absurd (true≢false (sym (ap is_some one) ∙ apart))

  pub leaves_left : (short : Option Entry) → archive.history ≡ seen ++ option_to_list short → are_both short archive.hand ≡ false → LeavesLeft (view archive.disk).may_leave seen (left_of short archive.hand)
  leaves_left short kept apart = left_by short archive.hand refl kept apart

  keeps_by : (short hand : Option Entry) → IsLawful seen → waits seen short ≡ true → archive.hand ≡ hand → archive.history ≡ seen ++ option_to_list short → are_both short archive.hand ≡ false → KeepsHistory seen (left_of short hand)
  keeps_by None None lawful waiting none kept apart = record {
    history = record { lawful = lawful; entries = front_of seen [] (subst (AllByRecursion IsEntry) kept stands.history.entries) };
    next = tt;
  }
  keeps_by (Some e) None lawful waiting none kept apart =
      let all = subst (AllByRecursion IsEntry) kept stands.history.entries in
      record {
        history = record { lawful = lawful; entries = front_of seen (e ∷ []) all };
        next = record { is_entry = last_of seen e all; next = waiting };
      }
  keeps_by None (Some f) lawful waiting one kept apart = record {
    history = record { lawful = lawful; entries = front_of seen [] (subst (AllByRecursion IsEntry) kept stands.history.entries) };
    next = subst (λ (h : List Entry). IsNextEntry h f) (kept ∙ append-nil seen) (stands.halted f one).next;
  }
  keeps_by (Some e) (Some f) lawful waiting one kept apart = absurd (true≢false (sym (ap is_some one) ∙ apart))

  pub keeps_history : (short : Option Entry) → IsLawful seen → waits seen short ≡ true → archive.history ≡ seen ++ option_to_list short → are_both short archive.hand ≡ false → KeepsHistory seen (left_of short archive.hand)
  keeps_history short lawful waiting kept apart = keeps_by short archive.hand lawful waiting refl kept apart

-- a disk that stayed as it was
pub still : {D : Type 0} (view : D → DiskView) (old new : D) (h l : List Entry) (e : Entry) → new ≡ old → h ≡ l → AlwaysLeaves (view old) (view old) (RecoversWithOrWithout h e) → AlwaysLeaves (view old) (view new) (RecoversWithOrWithout l e)
still {D} view old new h l e disk list rest = subst (λ (x : D × List Entry). AlwaysLeaves (view old) (view x.0) (RecoversWithOrWithout x.1 e)) (λ i. (sym disk i, list i)) rest

-- a desk that was stopped has a disk that failed
pub calm : (stopped : Bool) (stops : ℕ) (Failed : Type 0) → (stopped ≡ false → stops ≡ 0) → (stopped ≡ true → Failed) → 0 < stops → Failed
calm true stops Failed never cause some = cause refl
calm false stops Failed never cause some = absurd (omega (arith, never refl, some))

-- what an archive leaves by itself
module _ {D : Type 0} (view : D → DiskView) (archive : Archived D) (hand_is : is_some archive.hand ≡ archive.stopped) (stands : Stands view archive) where
  pub keeps_all : KeepsHistory archive.history (left_of None archive.hand)
  keeps_all = keeps_history view archive archive.history hand_is stands None stands.history.lawful refl (sym (append-nil archive.history)) refl
