-- What a post does to the disk, and how it answers.
use Rattle.std.proofs.Common.{◌≡◌, ◌∙◌, ◌⊎◌, inl, inr, ℕ, List, [], true, false, Option, None, Some, Result, Ok, Err, refl, sym, ap, subst, arith}
use Rattle.std.specs.Result.{IsErrAnd, IsErrOf}
use Rattle.exact_time.specs.declared.moment.Moment.{Moment}
use Rattle.disk_model.specs.View.{DiskView, WhereTold, AlwaysLeaves}
use Rattle.archive_entry.specs.declared.entry.Entry.{Entry}
use Rattle.archive_log.specs.Archive.{Archived}
use Rattle.archive_log.specs.Histories.{RecoversWithOrWithout}
use Rattle.archive_state.specs.Lawful.{is_accept, is_next}
use Rattle.archive_state.specs.declared.posted.Posted.{Posted}
use Rattle.archive_state.specs.declared.verdict.Verdict.{Verdict}
use Rattle.archive_state.specs.declared.verdict.Verdict.TheVariants.{Denied, Role, Repeat, OtherBody, Gap, BadRecord, BadLine, Broken, FullRecords, FullBytes, Accept}
use Rattle.desk_words.specs.Posting.{added_by, could_stop, posted_entry, ruling}
use Rattle.desk_words.specs.Setting.{Setting}
use Rattle.desk_words.specs.Stand.{made_by}
use Rattle.desk_words.specs.declared.asking.SubmitFault.{SubmitFault}
use Rattle.desk_words.specs.declared.asking.SubmitFault.TheVariants.{Stopped, OutOfMemory as NoMemory}
use Rattle.archive_post.specs.Posts.{Adds, Commits, IsTheOne, Posts}
use Rattle.archive_post.specs.declared.kept.Intake.{Intake}

-- a fault that was handed on
pub handed_stop : {S T : Type 0} (r : Result S SubmitFault) (f : SubmitFault) (inner : Result T SubmitFault) → IsErrAnd r (λ x. x ≡ f) → inner ≡ Err f → IsErrOf r Stopped → IsErrOf inner Stopped
handed_stop (Ok x) f inner is was so = absurd is
handed_stop (Err x) f inner is was so = was ∙ ap Err (sym is ∙ cc (so))

-- the call of the same entry
pub same_call : {D : Type 0} (view : D → DiskView) (old new : Archived D) (h : List Entry) (entry e : Entry) (o : Option Entry) (Fails Stops : Type 0) → o ≡ Some entry → IsTheOne o e → (Stops → Fails) → Commits view old new h entry Fails → Commits view old new h e Stops
same_call view old new h entry e o Fails Stops one this means call =
    let same : entry ≡ e = subst (λ (x : Option Entry). IsTheOne x e) one this in
    let moved : Commits view old new h e Fails = subst (λ (x : Entry). Commits view old new h x Fails) same call in
    record {
      any_moment = moved.any_moment;
      silent = moved.silent;
      tells = moved.tells;
      opening = moved.opening;
      later = moved.later;
      cause = λ stops. moved.cause (means stops);
      failed = λ stops. moved.failed (means stops);
    }

-- an archive that wasn't called
pub quiet_call : {D : Type 0} (view : D → DiskView) (old new : Archived D) (h : List Entry) (e : Entry) (Stops : Type 0) → new ≡ old
    → WhereTold (view old.disk) (old.stopped ≡ false → (x : Entry) → AlwaysLeaves (view old.disk) (view old.disk) (RecoversWithOrWithout h x)) → (Stops → ⊥) → Commits view old new h e Stops
quiet_call {D} view old new h e Stops same rest never = subst (λ (a : Archived D). Commits view old a h e Stops) (sym same) (record {
  any_moment = λ told running. rest told running e;
  silent = λ _. refl;
  tells = refl;
  opening = refl;
  later = omega (arith);
  cause = λ stops. absurd (never stops);
  failed = λ stops. absurd (never stops);
})

-- want of memory is no stop
pub not_stopped : {T : Type 0} (r : Result T SubmitFault) → IsErrAnd r (λ f. f ≡ NoMemory) → IsErrOf r Stopped → ⊥
not_stopped (Ok x) is so = is
not_stopped (Err f) is so = absurd (cc (is, so))

-- a verdict accepts, or it doesn't
pub accepts_or_not : (v : Verdict) → ((n : ℕ) × (v ≡ Accept n)) ⊎ ((n : ℕ) → v ≡ Accept n → ⊥)
accepts_or_not (Accept n) = inl (n, refl)
accepts_or_not (Denied denial) = inr (λ n is. absurd cc)
accepts_or_not Role = inr (λ n is. absurd cc)
accepts_or_not (Repeat k) = inr (λ n is. absurd cc)
accepts_or_not (OtherBody k) = inr (λ n is. absurd cc)
accepts_or_not (Gap k) = inr (λ n is. absurd cc)
accepts_or_not (BadRecord at fault) = inr (λ n is. absurd cc)
accepts_or_not (BadLine line fault) = inr (λ n is. absurd cc)
accepts_or_not (Broken line rule) = inr (λ n is. absurd cc)
accepts_or_not (FullRecords k) = inr (λ n is. absurd cc)
accepts_or_not (FullBytes k) = inr (λ n is. absurd cc)

-- a verdict that doesn't accept makes nothing, and adds nothing
pub nothing_added : (v : Verdict) (e : Option Entry) → ((n : ℕ) → v ≡ Accept n → ⊥) → (made_by v ≡ 0) × (added_by v e ≡ [])
nothing_added (Accept n) e not = absurd (not n refl)
nothing_added _ e not = (refl, refl)

pub none_made : (v : Verdict) → ((n : ℕ) → v ≡ Accept n → ⊥) → made_by v ≡ 0
none_made v not = (nothing_added v None not).0

-- it is the entry that there is
pub the_one : (o : Option Entry) (e : Entry) → o ≡ Some e → IsTheOne o e
the_one o e is = subst (λ (x : Option Entry). IsTheOne x e) (sym is) refl

-- a commit that failed, of a command that was accepted
module _ {D : Type 0} (old new : Intake D) (h : List Entry) (p : Posted) (m : Moment) (s : Setting) (e : Entry) (posted : posted_entry h p m s ≡ Some e) (accepted : is_accept (ruling h p m s) ≡ true) (could : could_stop h p m s ≡ true) (next : is_next h e ≡ true) where
  pub fault_row : {T : Type 0} (r : Result Verdict SubmitFault) (f : SubmitFault) (inner : Result T SubmitFault) → IsErrAnd r (λ x. x ≡ f) → inner ≡ Err f → Adds old new e inner → Posts old new h p m s r
  fault_row {T} r f inner is was row = by r f is (subst (λ (x : Result T SubmitFault). Adds old new e x) was row)
    where
      by : (r : Result Verdict SubmitFault) (f : SubmitFault) → IsErrAnd r (λ x. x ≡ f) → Adds {T = T} old new e (Err f) → Posts old new h p m s r
      by (Ok x) f is row = absurd is
      by (Err Stopped) Stopped is row = record { entry = e; posted = posted; accepted = accepted; could = could; next = next; halted = row }
      by (Err Stopped) NoMemory is row = absurd (cc (is))
      by (Err NoMemory) Stopped is row = absurd (cc (is))
      by (Err NoMemory) NoMemory is row = row
