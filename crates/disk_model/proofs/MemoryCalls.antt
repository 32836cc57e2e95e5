-- What one call does to a disk in memory, in a disk's words.
use Rattle.std.proofs.Common.{Ok, Err, ◌≡◌, inl, inr, ⊎_elim, ℕ, ◌≤◌, List, [], ◌∷◌, ◌++◌, length, take, sym, ◌∙◌, ap, subst, arith}
use Rattle.std.proofs.lemmas.List.{map-append}
use Rattle.exact_time.specs.Causes.{Rose}
use Rattle.disk_model.specs.Disk.{overwritten, Torn, Shortened, Follows, Leaves, LeavesOnly}
use Rattle.disk_model.specs.View.{Elapses}
use Rattle.disk_model.specs.Effects.{IsWrittenInto, IsShortenedTo, IsMadeDurable}
use Rattle.disk_model.specs.Images.{IsImage}
use Rattle.disk_model.specs.Changes.{State, at_rest, after, state_after, changes_in, LeftSince}
use Rattle.disk_model.specs.Memory.{made_with, changes_of, content_of, state_of, images_now, memory_view, IsSame, IsChanged}
use Rattle.disk_model.specs.declared.change.Change.{Change}
use Rattle.disk_model.specs.declared.change.Change.TheVariants.{Wrote, Tore, Cut, Synced}
use Rattle.disk_model.specs.declared.change.Step.{Step}
use Rattle.disk_model.specs.declared.memory.MemoryDisk.{MemoryDisk}
use Rattle.disk_model.proofs.ImageSteps.{write_follows, cut_follows, synced_only}
use Rattle.disk_model.proofs.Overwrites.{torn_same, shortened_same}
use Rattle.disk_model.proofs.Past.{state_after-push, left_before, left_stays}

-- the images of a first file and its changes
abbrev images_after : List ℕ × List Step → List ℕ → Type 0
images_after p = IsImage (state_after (at_rest p.0) (changes_in p.1)).images

abbrev since_after : ℕ → List ℕ → List ℕ × List Step → Type 0
since_after t image p = LeftSince (at_rest p.0) p.1 t image

pub same_trans : (a b c : MemoryDisk) → IsSame a b → IsSame b c → IsSame a c
same_trans a b c p q = record {
  first_is = q.first_is ∙ p.first_is;
  content_is = q.content_is ∙ p.content_is;
  steps_are = q.steps_are ∙ p.steps_are;
  later = omega (arith, p.later, q.later);
}

pub same_then_changed : (change : Change) (a b c : MemoryDisk) → IsSame a b → IsChanged change b c → IsChanged change a c
same_then_changed change a b c p q = record {
  first_is = q.first_is ∙ p.first_is;
  moment = q.moment;
  steps_are = q.steps_are ∙ ap (λ xs. xs ++ record { change = change; moment = q.moment } ∷ []) p.steps_are;
  after = omega (arith, p.later, q.after);
  by = q.by;
}

pub changed_then_same : (change : Change) (a b c : MemoryDisk) → IsChanged change a b → IsSame b c → IsChanged change a c
changed_then_same change a b c p q = record {
  first_is = q.first_is ∙ p.first_is;
  moment = p.moment;
  steps_are = q.steps_are ∙ p.steps_are;
  after = p.after;
  by = omega (arith, p.by, q.later);
}

module _ (old new : MemoryDisk) (same : IsSame old new) where
  pub same_images : Leaves (images_now new) (images_now old)
  same_images image is = subst (λ p. images_after p image) (λ i. (same.first_is i, same.steps_are i)) is

  pub same_time : Rose old.moment new.moment → Elapses (memory_view old) (memory_view new)
  same_time rises = record {
    later = same.later;
    rises = rises;
    nothing_else = λ t image le left. inl (subst (since_after t image) (λ i. (same.first_is i, same.steps_are i)) left);
    keeps = λ t image le left. subst (since_after t image) (λ i. (sym same.first_is i, sym same.steps_are i)) left;
  }

  pub same_torn : (at n : ℕ) → Follows (Torn at n) (images_now old) (images_now new)
  same_torn at n image is = (image, same_images image is, torn_same at n image)

  pub same_shortened : (len : ℕ) → Follows (Shortened len) (images_now old) (images_now new)
  same_shortened len image is = (image, same_images image is, shortened_same len image)

module _ (change : Change) (old new : MemoryDisk) (changed : IsChanged change old new) where
  abbrev step : Step
  step = record { change = change; moment = changed.moment }

  -- the changes of before, and this one
  pub changed_changes : changes_of new ≡ changes_of old ++ change ∷ []
  changed_changes = ap changes_in changed.steps_are ∙ map-append (λ (x : Step). x.change) old.steps.items (step ∷ [])

  pub changed_state : state_of new ≡ after (state_of old) change
  changed_state =
      let both : (first : List ℕ) (steps : List Step) → first ≡ made_with old → steps ≡ old.steps.items ++ step ∷ [] → state_after (at_rest first) (changes_in steps) ≡ state_after (at_rest (made_with old)) (changes_in (old.steps.items ++ step ∷ [])) = λ first steps p q. (λ i. state_after (at_rest (p i)) (changes_in (q i))) in
      both (made_with new) new.steps.items changed.first_is changed.steps_are ∙ state_after-push (at_rest (made_with old)) old.steps.items step

  -- the file as it reads is that of before, changed
  pub changed_seen : content_of new ≡ (after (state_of old) change).content
  changed_seen = new.kept.content_is ∙ ap (λ (s : State). s.content) changed_state

  pub changed_images : (image : List ℕ) → images_now new image → IsImage (after (state_of old) change).images image
  changed_images image is = subst (λ (s : State). IsImage s.images image) changed_state is

  pub changed_time : Elapses (memory_view old) (memory_view new)
  changed_time = record {
    later = omega (arith, changed.after, changed.by);
    rises = omega (arith, changed.after, changed.by);
    nothing_else = λ t image le left.
        let left' : LeftSince (at_rest (made_with old)) (old.steps.items ++ step ∷ []) t image = subst (since_after t image) (λ i. (changed.first_is i, changed.steps_are i)) left in
        let back : IsImage (state_after (at_rest (made_with old)) (changes_in (old.steps.items ++ step ∷ []))).images image → images_now new image = λ is. subst (λ p. images_after p image) (λ i. (sym changed.first_is i, sym changed.steps_are i)) is in
        ⊎_elim (λ was. inl was) (λ now. inr (back now)) (left_before (at_rest (made_with old)) old.steps.items step t image left');
    keeps = λ t image le left.
        subst (since_after t image) (λ i. (sym changed.first_is i, sym changed.steps_are i)) (left_stays (at_rest (made_with old)) old.steps.items step t image (omega (arith, le, changed.after)) left);
  }

-- what the type of a disk keeps of its lengths
bounds : (disk : MemoryDisk) → (state_of disk).images.least ≤ (state_of disk).images.greatest
bounds disk = omega (arith, disk.kept.sound.reads.no_shorter, disk.kept.sound.reads.no_longer)

inside : (disk : MemoryDisk) (at : ℕ) → at ≤ length (content_of disk) → at ≤ (state_of disk).images.greatest
inside disk at le = omega (arith, le, ap length disk.kept.content_is, disk.kept.sound.reads.no_longer)

-- a write, done or not
pub wrote_torn : (at : ℕ) (bytes : List ℕ) (old new : MemoryDisk) → at ≤ length (content_of old) → IsChanged (Wrote at bytes) old new → Follows (Torn at (length bytes)) (images_now old) (images_now new)
wrote_torn at bytes old new le changed image is =
    write_follows (state_of old).images at (length bytes) (bounds old) (inside old at le) image (changed_images (Wrote at bytes) old new changed image is)

pub wrote_seen : (at : ℕ) (bytes : List ℕ) (old new : MemoryDisk) → IsChanged (Wrote at bytes) old new → content_of new ≡ overwritten (content_of old) at bytes
wrote_seen at bytes old new changed = changed_seen (Wrote at bytes) old new changed ∙ ap (λ l. overwritten l at bytes) (sym old.kept.content_is)

pub tore_torn : (at len : ℕ) (old new : MemoryDisk) → at ≤ length (content_of old) → IsChanged (Tore at len) old new → Follows (Torn at len) (images_now old) (images_now new)
tore_torn at len old new le changed image is =
    write_follows (state_of old).images at len (bounds old) (inside old at le) image (changed_images (Tore at len) old new changed image is)

pub tore_seen : (at len : ℕ) (old new : MemoryDisk) → IsChanged (Tore at len) old new → content_of new ≡ content_of old
tore_seen at len old new changed = changed_seen (Tore at len) old new changed ∙ sym old.kept.content_is

-- a cut
pub cut_shortened : (len : ℕ) (old new : MemoryDisk) → IsChanged (Cut len) old new → Follows (Shortened len) (images_now old) (images_now new)
cut_shortened len old new changed image is =
    cut_follows (state_of old).images len old.kept.sound.shortest (bounds old) image (changed_images (Cut len) old new changed image is)

pub cut_seen : (len : ℕ) (old new : MemoryDisk) → IsChanged (Cut len) old new → content_of new ≡ take len (content_of old)
cut_seen len old new changed = changed_seen (Cut len) old new changed ∙ ap (take len) (sym old.kept.content_is)

-- a sync
module _ (old new : MemoryDisk) (changed : IsChanged Synced old new) where
  pub sync_seen : content_of new ≡ content_of old
  sync_seen = changed_seen Synced old new changed ∙ sym old.kept.content_is

  pub sync_only : LeavesOnly (images_now new) (content_of new)
  sync_only image is = synced_only (state_of old).content image (changed_images Synced old new changed image is) ∙ sym (changed_seen Synced old new changed)

  pub sync_images : Leaves (images_now new) (images_now old)
  sync_images image is = subst (images_now old) (sym (sync_only image is ∙ sync_seen ∙ old.kept.content_is)) old.kept.sound.reads

-- A write that failed: it was counted, torn, and refused.
module _ (at len : ℕ) (old counted torn new : MemoryDisk) (count : IsSame old counted) (tear : IsChanged (Tore at len) counted torn) (refused : IsSame torn new) where
  pub torn_change : IsChanged (Tore at len) old new
  torn_change = same_then_changed (Tore at len) old counted new count (changed_then_same (Tore at len) counted torn new tear refused)

-- The calls as what they do to what is told, once they are done.
module _ {T E : Type 0} (x : T) (old new : MemoryDisk) where
  pub sync_effect : IsChanged Synced old new → IsMadeDurable {E = E} (memory_view old) (memory_view new) (Ok x)
  sync_effect changed = record {
    durable = sync_only old new changed;
    content = sync_seen old new changed;
    crash = sync_images old new changed;
    time = changed_time Synced old new changed;
  }

  pub cut_effect : (len : ℕ) → IsChanged (Cut len) old new → IsShortenedTo {E = E} len (memory_view old) (memory_view new) (Ok x)
  cut_effect len changed = record {
    shorter = cut_seen len old new changed;
    failed = tt;
    crash = cut_shortened len old new changed;
    time = changed_time (Cut len) old new changed;
  }

  pub write_effect : (at : ℕ) (bytes : List ℕ) → at ≤ length (content_of old) → IsChanged (Wrote at bytes) old new → IsWrittenInto {E = E} at bytes (memory_view old) (memory_view new) (Ok x)
  write_effect at bytes inside changed = record {
    written = wrote_seen at bytes old new changed;
    failed = tt;
    crash = wrote_torn at bytes old new inside changed;
    time = changed_time (Wrote at bytes) old new changed;
  }

-- a write that failed, and left a torn range
pub tear_effect : {T E : Type 0} → (x : E) (at : ℕ) (bytes : List ℕ) (old new : MemoryDisk) → at ≤ length (content_of old) → IsChanged (Tore at (length bytes)) old new → IsWrittenInto {T = T} at bytes (memory_view old) (memory_view new) (Err x)
tear_effect x at bytes old new inside changed = record {
  written = tt;
  failed = subst (λ file. Torn at (length bytes) (content_of old) file) (sym (tore_seen at (length bytes) old new changed)) (torn_same at (length bytes) (content_of old));
  crash = tore_torn at (length bytes) old new inside changed;
  time = changed_time (Tore at (length bytes)) old new changed;
}
