-- What a request adds at a desk that is alone, and what it leaves.
use Rattle.std.proofs.Common.{◌≡◌, ◌∙◌, ◌⊎◌, refl, sym, ap, subst, inl, inr, ⊎_elim, ℕ, ◌==◌, ◌||◌, Bool, true, false, List, [], ◌++◌, Option, None, Some, is_some, Result, Ok, Err}
use Rattle.std.specs.Prelude.{IsErr}
use Rattle.std.proofs.lemmas.List.{append-nil}
use Rattle.exact_time.specs.declared.error.OutOfMemory.{OutOfMemory}
use Rattle.exact_time.specs.declared.moment.Moment.{Moment}
use Rattle.archive_entry.specs.declared.entry.Entry.{Entry}
use Rattle.archive_state.specs.declared.posted.Posted.{Posted}
use Rattle.archive_state.specs.declared.verdict.Verdict.{Verdict}
use Rattle.archive_state.specs.declared.verdict.Verdict.TheVariants.{Denied, Role, Repeat, OtherBody, Gap, BadRecord, BadLine, Broken, FullRecords, FullBytes, Accept}
use Rattle.desk_words.specs.Posting.{ruling, posted_entry, listed, added_by as verdict_adds}
use Rattle.desk_words.specs.Setting.{Setting}
use Rattle.desk_words.specs.Stand.{Stand, Left, nothing, short, stopped, as_short, as_stopped, MayFlush, Alone, IsJudged, IsStopped, IsShort}
use Rattle.desk_words.specs.declared.asking.Submitted.{Submitted}
use Rattle.http_replies.specs.declared.reply.Reply.{Reply}
use Rattle.http_wire.specs.declared.turn.Turn.{Turn}
use Rattle.centre_desk.specs.Answering.{HasSaid, SaysWhole, SaysStopped, SaidRow, Says, entry_number}
use Rattle.centre_desk.specs.Sources.{own_entry, IsOwn, MayAdd, KeepsLeft, IsOwnLeft, AloneTurn, AloneSaid, AloneReply}
use Rattle.centre_desk.specs.Told.{status_told}
use Rattle.centre_desk.specs.declared.told.Told.{Told}
use Rattle.centre_desk.specs.declared.told.Said.{Said}
use Rattle.centre_desk.proofs.Posts.{accepted}

-- nothing has to come in of what was left
flush_none : (left : Left) → MayFlush left []
flush_none nothing = refl
flush_none (short e) = inl refl
flush_none (stopped e) = refl

-- a request that adds nothing and leaves what was left
pub quiet_turn : (old new : Stand) (posts : Option Posted) (m : Moment) (s : Setting) (ran_out was_stopped : Bool) → (new.seen ≡ old.seen) × (new.left ≡ old.left)
    → AloneTurn old new posts m s false ran_out was_stopped
quiet_turn old new posts m s ran_out was_stopped same = record {
  flushed = [];
  mine = [];
  may = flush_none old.left;
  seen = same.0 ∙ (sym (append-nil old.seen) ∙ sym (append-nil (old.seen ++ [])));
  adds = inl (refl, refl);
  left = inr (inl (record { unflushed = refl; same = same.1; in_order = inl refl }));
}

-- a desk that wasn't called
pub still_turn : (x : Stand) (posts : Option Posted) (m : Moment) (s : Setting) (ran_out was_stopped : Bool) → AloneTurn x x posts m s false ran_out was_stopped
still_turn x posts m s ran_out was_stopped = quiet_turn x x posts m s ran_out was_stopped (refl, refl)

-- where memory ran out before
pub failed_still : (x : Stand) (posts : Option Posted) (m : Moment) (s : Setting) (result : Result Said OutOfMemory) → IsErr result → AloneSaid x x posts m s result
failed_still x posts m s (Ok said) is = absurd cc
failed_still x posts m s (Err memory) is = still_turn x posts m s true false

-- where nothing was posted no entry is told
no_entry_told : (old new : Stand) (tells : List Entry → Bool → Told) (m : Moment) (s : Setting) (said : Said) → HasSaid old new tells None m s said → is_some said.entry ≡ false
no_entry_told old new tells m s said row =
    ⊎_elim (λ (w : SaysWhole tells None new.seen m s said). w.adds) (λ (w : SaysStopped None new.seen m s said). ap is_some w.no_entry) row.served

quiet_row : (old new : Stand) (tells : List Entry → Bool → Told) (m : Moment) (s : Setting) (result : Result Said OutOfMemory) → (new.seen ≡ old.seen) × (new.left ≡ old.left)
    → SaidRow old new tells None m s result → AloneSaid old new None m s result
quiet_row old new tells m s (Ok said) same row =
    subst (λ (told : Bool). AloneTurn old new None m s told false (status_told said.told == 503)) (sym (no_entry_told old new tells m s said row)) (quiet_turn old new None m s false (status_told said.told == 503) same)
quiet_row old new tells m s (Err memory) same row = quiet_turn old new None m s true false same

-- a query
pub quiet_said : (old new : Stand) (tells : List Entry → Bool → Told) (m : Moment) (s : Setting) (result : Result Said OutOfMemory) → (new.seen ≡ old.seen) × (new.left ≡ old.left)
    → Says old new tells None m s result → AloneSaid old new None m s result
quiet_said old new tells m s result same says = quiet_row old new tells m s result same says.row

-- memory ran out behind it
pub runs_out : (old new : Stand) (posts : Option Posted) (m : Moment) (s : Setting) (told was_stopped : Bool) → AloneTurn old new posts m s told false was_stopped → AloneTurn old new posts m s false true false
runs_out old new posts m s told was_stopped a = record {
  flushed = a.flushed;
  mine = a.mine;
  may = a.may;
  seen = a.seen;
  adds = ⊎_elim (λ (w : (a.mine ≡ []) × (told ≡ false)). inl (w.0, refl))
      (λ (w : IsOwn (old.seen ++ a.flushed) posts m s told false a.mine). inr (record { entry = w.entry; entry_is = w.entry_is; cause = refl; mine_is = w.mine_is })) a.adds;
  left = ⊎_elim (λ (w : new.left ≡ nothing). inl w)
      (λ (rest : KeepsLeft old.left new.left a.flushed a.mine ⊎ ((a.mine ≡ []) × IsOwnLeft (own_entry new.seen posts m s) false was_stopped new.left)).
      ⊎_elim (λ (w : KeepsLeft old.left new.left a.flushed a.mine). inr (inl w))
      (λ (w : (a.mine ≡ []) × IsOwnLeft (own_entry new.seen posts m s) false was_stopped new.left). inr (inr (w.0, own_left (own_entry new.seen posts m s) w.1))) rest)
      a.left;
}
  where
    own_left : (own : Option Entry) → IsOwnLeft own false was_stopped new.left → IsOwnLeft own true false new.left
    own_left own is = ⊎_elim (λ (w : (false ≡ true) × (new.left ≡ as_short own)). inl (refl, w.1)) (λ (w : ((false || was_stopped) ≡ true) × (new.left ≡ as_stopped own)). inr (refl, w.1)) is

-- what a verdict adds behind the history that it was given over
adds_own : (v : Verdict) (j : List Entry) (p : Posted) (m : Moment) (s : Setting) → ruling j p m s ≡ v → MayAdd j (Some p) m s (is_some (entry_number v)) false (verdict_adds v (posted_entry j p m s))
adds_own (Accept n) j p m s is =
    let one = accepted j p m s n is in
    inr (record { entry = one.made; entry_is = one.entry_is; cause = refl; mine_is = ap (λ (o : Option Entry). listed o) one.entry_is })
adds_own (Denied d) j p m s is = inl (refl, refl)
adds_own Role j p m s is = inl (refl, refl)
adds_own (Repeat n) j p m s is = inl (refl, refl)
adds_own (OtherBody n) j p m s is = inl (refl, refl)
adds_own (Gap n) j p m s is = inl (refl, refl)
adds_own (BadRecord at f) j p m s is = inl (refl, refl)
adds_own (BadLine line f) j p m s is = inl (refl, refl)
adds_own (Broken line rule) j p m s is = inl (refl, refl)
adds_own (FullRecords n) j p m s is = inl (refl, refl)
adds_own (FullBytes n) j p m s is = inl (refl, refl)

-- a command that was judged
pub judged_turn : (old new : Stand) (p : Posted) (m : Moment) (s : Setting) (t : Submitted) (was_stopped : Bool) → IsJudged old new p m s t → old.alone ≡ true
    → AloneTurn old new (Some p) m s (is_some (entry_number t.verdict)) false was_stopped
judged_turn old new p m s t was_stopped j is =
    let a = j.alone is in
    let mine = verdict_adds t.verdict (posted_entry j.judged p m s) in
    record {
      flushed = a.flushed;
      mine = mine;
      may = a.may;
      seen = j.seen ∙ ap (λ (w : List Entry). w ++ mine) a.judged_is;
      adds = subst (λ (w : List Entry). MayAdd w (Some p) m s (is_some (entry_number t.verdict)) false mine) a.judged_is (adds_own t.verdict j.judged p m s (sym j.verdict));
      left = ⊎_elim (λ (w : new.left ≡ nothing). inl w)
          (λ (rest : ((a.flushed ≡ []) × (new.left ≡ old.left)) ⊎ ⊥).
          ⊎_elim (λ (w : (a.flushed ≡ []) × (new.left ≡ old.left)). inr (inl (record { unflushed = w.0; same = w.1; in_order = inr (j.tidy is) }))) (λ (w : ⊥). absurd w) rest)
          a.left;
    }

-- a command that has no verdict: nothing of its own is seen
unjudged_turn : (old new : Stand) (p : Posted) (m : Moment) (s : Setting) (ran_out was_stopped : Bool) (Mine : Left → Type 0) → Alone old new new.seen Mine
    → (Mine new.left → IsOwnLeft (posted_entry new.seen p m s) ran_out was_stopped new.left) → AloneTurn old new (Some p) m s false ran_out was_stopped
unjudged_turn old new p m s ran_out was_stopped Mine a own = record {
  flushed = a.flushed;
  mine = [];
  may = a.may;
  seen = a.judged_is ∙ sym (append-nil (old.seen ++ a.flushed));
  adds = inl (refl, refl);
  left = ⊎_elim (λ (w : new.left ≡ nothing). inl w)
      (λ (rest : ((a.flushed ≡ []) × (new.left ≡ old.left)) ⊎ Mine new.left).
      ⊎_elim (λ (w : (a.flushed ≡ []) × (new.left ≡ old.left)). inr (inl (record { unflushed = w.0; same = w.1; in_order = inl refl }))) (λ (w : Mine new.left). inr (inr (refl, own w))) rest)
      a.left;
}

-- a disk stopped it
pub stopped_turn : (old new : Stand) (p : Posted) (m : Moment) (s : Setting) → IsStopped old new p m s → old.alone ≡ true → AloneTurn old new (Some p) m s false false true
stopped_turn old new p m s i is =
    unjudged_turn old new p m s false true (λ left. left ≡ as_stopped (posted_entry new.seen p m s)) (i.alone is) (λ w. inr (refl, w))

-- memory ran out for it
pub short_turn : (old new : Stand) (p : Posted) (m : Moment) (s : Setting) → IsShort old new p m s → old.alone ≡ true → AloneTurn old new (Some p) m s false true false
short_turn old new p m s i is =
    unjudged_turn old new p m s true false (λ left. left ≡ as_short (posted_entry new.seen p m s)) (i.alone is) (λ w. inl (refl, w))

-- what was said is replied
pub replied_alone : (old new : Stand) (posts : Option Posted) (m : Moment) (s : Setting) (said : Said) (reply : Reply) (turn : Turn) → turn.entry ≡ said.entry → reply.status ≡ status_told said.told
    → AloneSaid old new posts m s (Ok said) → AloneReply old new posts m s (Ok (reply, turn))
replied_alone old new posts m s said reply turn entry status a =
    subst (λ (n : ℕ). AloneTurn old new posts m s (is_some turn.entry) false (n == 503)) (sym status)
    (subst (λ (o : Option ℕ). AloneTurn old new posts m s (is_some o) false (status_told said.told == 503)) (sym entry) a)
