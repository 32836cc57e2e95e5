-- How the images of a disk in memory go on, change by change.
use Rattle.std.proofs.Common.{◌≡◌, ◌⊎◌, inl, inr, ⊎_elim, ℕ, ◌+◌, ◌<◌, ◌≤◌, List, [], ◌∷◌, ◌++◌, length, get_or, take, drop, true, refl, sym, ◌∙◌, ap, subst, arith, length-append}
use Rattle.std.proofs.lemmas.List.{take_more, drop_all, drop-append-le}
use Rattle.std.proofs.lemmas.Bool.Decides.{nat_tests}
use Rattle.disk_model.specs.Images.{IsImage}
use Rattle.disk_model.specs.Changes.{State, at_rest, after, state_after, changes_in, LeftSince, all_by}
use Rattle.disk_model.specs.Sound.{IsSound, IsReplayed}
use Rattle.disk_model.specs.Disk.{overwritten, LeavesOnly}
use Rattle.disk_model.specs.declared.change.Change.{Change}
use Rattle.disk_model.specs.declared.change.Change.TheVariants.{Wrote, Tore, Cut, Synced}
use Rattle.disk_model.specs.declared.change.Step.{Step}
use Rattle.disk_model.proofs.ImageSteps.{synced_only}
use Rattle.disk_model.proofs.Sound.{Fits, sound_after, sound_at_rest}

pub state_after-push : (s : State) (xs : List Step) (x : Step) → state_after s (changes_in (xs ++ x ∷ [])) ≡ after (state_after s (changes_in xs)) x.change
state_after-push s [] x = refl
state_after-push s (y ∷ ys) x = state_after-push (after s y.change) ys x

-- what a crash might have left after one more change: what it might have left before it, or may now
pub left_before : (s : State) (xs : List Step) (x : Step) (t : ℕ) (image : List ℕ) → LeftSince s (xs ++ x ∷ []) t image → LeftSince s xs t image ⊎ IsImage (state_after s (changes_in (xs ++ x ∷ []))).images image
left_before s [] x t image (inl before) = inl before.1
left_before s [] x t image (inr now) = inr now
left_before s (y ∷ ys) x t image (inl early) = inl (inl early)
left_before s (y ∷ ys) x t image (inr left) = ⊎_elim (λ was. inl (inr was)) (λ now. inr now) (left_before (after s y.change) ys x t image left)

-- and what it might have left before that change stays
pub left_stays : (s : State) (xs : List Step) (x : Step) (t : ℕ) (image : List ℕ) → t < x.moment → LeftSince s xs t image → LeftSince s (xs ++ x ∷ []) t image
left_stays s [] x t image before is = inl (before, is)
left_stays s (y ∷ ys) x t image before (inl early) = inl early
left_stays s (y ∷ ys) x t image before (inr left) = inr (left_stays (after s y.change) ys x t image before left)

all_by-later : (m n : ℕ) (xs : List Step) → m ≤ n → all_by m xs ≡ true → all_by n xs ≡ true
all_by-later m n [] le by = refl
all_by-later m n (x ∷ xs) le by = let rest = all_by-later m n xs le (grind (arith, nat_tests)) in grind (arith, nat_tests)

all_by-push : (m : ℕ) (xs : List Step) (x : Step) → x.moment ≤ m → all_by m xs ≡ true → all_by m (xs ++ x ∷ []) ≡ true
all_by-push m [] x le by = grind (arith, nat_tests)
all_by-push m (y ∷ ys) x le by = let rest = all_by-push m ys x le (grind (arith, nat_tests)) in grind (arith, nat_tests)

pub kept_at_first : (file : List ℕ) → IsReplayed file file file [] 0 0
kept_at_first file = record { content_is = refl; base_is = refl; since_is = refl; since_in = omega arith; sound = sound_at_rest file; in_time = refl }

-- the same, of a disk that was just made
pub kept_new : (first file content : List ℕ) (steps : List Step) → first ≡ file → content ≡ file → steps ≡ [] → IsReplayed first content file steps 0 0
kept_new first file content steps p q r = subst (λ (x : List ℕ × List ℕ × List Step). IsReplayed x.0 x.1 file x.2 0 0) (λ i. (sym p i, sym q i, sym r i)) (kept_at_first file)

pub synced_new : (first file : List ℕ) (steps : List Step) → first ≡ file → steps ≡ [] → LeavesOnly (IsImage (state_after (at_rest first) (changes_in steps)).images) file
synced_new first file steps p r =
    subst (λ (x : List ℕ × List Step). LeavesOnly (IsImage (state_after (at_rest x.0) (changes_in x.1)).images) file) (λ i. (sym p i, sym r i)) (synced_only file)

-- time goes on
pub kept_later : (first content base : List ℕ) (steps : List Step) (since m n : ℕ) → m ≤ n → IsReplayed first content base steps since m → IsReplayed first content base steps since n
kept_later first content base steps since m n le kept = record {
  content_is = kept.content_is;
  base_is = kept.base_is;
  since_is = kept.since_is;
  since_in = kept.since_in;
  sound = kept.sound;
  in_time = all_by-later m n steps le kept.in_time;
}

-- The steps of each change as the code makes them: first room, then the change, at the next moment.
module _ (first content base : List ℕ) (steps room steps' : List Step) (since m : ℕ) (kept : IsReplayed first content base steps since m) (same : room ≡ steps) where
  s : State
  s = state_after (at_rest first) (changes_in steps)

  step : Change → Step
  step change = record { change = change; moment = m + 1 }

  -- the steps, one longer
  longer : (change : Change) → steps' ≡ room ++ step change ∷ [] → steps' ≡ steps ++ step change ∷ []
  longer change push = push ∙ ap (λ (xs : List Step). xs ++ step change ∷ []) same

  -- a change that leaves the file at the last sync
  pushed : (content' : List ℕ) (change : Change) → Fits s change → (after s change).images.base ≡ s.images.base → content' ≡ (after s change).content → steps' ≡ room ++ step change ∷ []
      → IsReplayed first content' base steps' since (m + 1)
  unfolding s step
  pushed content' change fits stays is push =
      let next : Step = step change in
      let now : state_after (at_rest first) (changes_in (steps ++ next ∷ [])) ≡ after s change = state_after-push (at_rest first) steps next in
      let tail : drop since (steps ++ next ∷ []) ≡ drop since steps ++ next ∷ [] = drop-append-le since steps (next ∷ []) kept.since_in in
      let then : after s change ≡ state_after (at_rest base) (changes_in (drop since (steps ++ next ∷ []))) =
      ap (λ t. after t change) kept.since_is ∙ sym (state_after-push (at_rest base) (drop since steps) next) ∙ ap (λ (xs : List Step). state_after (at_rest base) (changes_in xs)) (sym tail) in
      let whole : IsReplayed first content' base (steps ++ next ∷ []) since (m + 1) = record {
        content_is = is ∙ ap (λ t. t.content) (sym now);
        base_is = kept.base_is ∙ sym stays ∙ ap (λ t. t.images.base) (sym now);
        since_is = now ∙ then;
        since_in = omega (arith, kept.since_in, length-append steps (next ∷ []));
        sound = subst IsSound (sym now) (sound_after s change fits kept.sound);
        in_time = all_by-push (m + 1) steps next (omega arith) (all_by-later m (m + 1) steps (omega arith) kept.in_time);
      } in
      subst (λ (xs : List Step). IsReplayed first content' base xs since (m + 1)) (sym (longer change push)) whole

  pub kept_wrote : (content' : List ℕ) (at : ℕ) (bytes : List ℕ) → at ≤ length content → content' ≡ overwritten content at bytes → steps' ≡ room ++ record { change = Wrote at bytes; moment = m + 1 } ∷ [] → IsReplayed first content' base steps' since (m + 1)
  unfolding s step
  kept_wrote content' at bytes inside is push =
      pushed content' (Wrote at bytes) (omega (arith, inside, ap length kept.content_is)) refl (is ∙ ap (λ l. overwritten l at bytes) kept.content_is) push

  pub kept_tore : (at len : ℕ) → at ≤ length content → steps' ≡ room ++ record { change = Tore at len; moment = m + 1 } ∷ [] → IsReplayed first content base steps' since (m + 1)
  unfolding s step
  kept_tore at len inside push = pushed content (Tore at len) (omega (arith, inside, ap length kept.content_is)) refl kept.content_is push

  pub kept_cut : (content' : List ℕ) (len : ℕ) → len ≤ length content → content' ≡ take len content → steps' ≡ room ++ record { change = Cut len; moment = m + 1 } ∷ [] → IsReplayed first content' base steps' since (m + 1)
  unfolding s step
  kept_cut content' len inside is push = pushed content' (Cut len) (omega (arith, inside, ap length kept.content_is)) refl (is ∙ ap (take len) kept.content_is) push

  -- a sync: from here on the file as it reads is that at the last sync
  pub kept_synced : (base' : List ℕ) (since' : ℕ) → base' ≡ content → since' ≡ length steps' → steps' ≡ room ++ record { change = Synced; moment = m + 1 } ∷ [] → IsReplayed first content base' steps' since' (m + 1)
  unfolding s step
  kept_synced base' since' copy end push =
      let next : Step = step Synced in
      let whole : steps' ≡ steps ++ next ∷ [] = longer Synced push in
      let now : state_after (at_rest first) (changes_in steps') ≡ at_rest s.content = ap (λ (xs : List Step). state_after (at_rest first) (changes_in xs)) whole ∙ state_after-push (at_rest first) steps next in
      let file : base' ≡ s.content = copy ∙ kept.content_is in record {
        content_is = kept.content_is ∙ ap (λ t. t.content) (sym now);
        base_is = file ∙ ap (λ t. t.images.base) (sym now);
        since_is = now ∙ ap at_rest (sym file) ∙ ap (λ (xs : List Step). state_after (at_rest base') (changes_in xs)) (sym (drop_all since' steps' (omega (arith, end))));
        since_in = omega (arith, end);
        sound = subst IsSound (sym now) (sound_at_rest s.content);
        in_time = subst (λ (xs : List Step). all_by (m + 1) xs ≡ true) (sym whole) (all_by-push (m + 1) steps next (omega arith) (all_by-later m (m + 1) steps (omega arith) kept.in_time));
      }

-- a walk over the steps, one step on
pub state_more : (s : State) (xs : List Step) (i : ℕ) (x : Step) → i < length xs → x ≡ get_or xs i x → state_after s (changes_in (take (i + 1) xs)) ≡ after (state_after s (changes_in (take i xs))) x.change
state_more s xs i x lt is =
    ap (λ ys. state_after s (changes_in ys)) (take_more xs i x lt ∙ ap (λ y. take i xs ++ y ∷ []) (sym is)) ∙ state_after-push s (take i xs) x
