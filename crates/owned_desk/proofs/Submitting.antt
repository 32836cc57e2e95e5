-- What a submit does, over what a desk stands for.
use Rattle.std.proofs.Common.{◌≡◌, ◌∙◌, ◌⊎◌, inl, inr, ℕ, ◌+◌, ◌-◌, ◌^◌, ◌≤◌, Bool, true, false, List, [], ◌∷◌, ◌++◌, length, refl, sym, ap, subst, append_assoc, Option, None, Some, Result, Ok, Err, option_to_list, arith}
use Rattle.std.specs.Result.{IsErrAnd}
use Rattle.exact_time.specs.declared.error.OutOfMemory.{OutOfMemory}
use Rattle.std.proofs.Math.Nat.{min-le_left}
use Rattle.std.proofs.lemmas.Bool.{true≢false}
use Rattle.std.proofs.lemmas.List.{append-nil}
use mathlib.Core.List.{IsPrefix}
use Rattle.exact_time.specs.declared.moment.Moment.{Moment}
use Rattle.archive_entry.specs.declared.entry.Entry.{Entry}
use Rattle.archive_state.specs.declared.posted.Posted.{Posted}
use Rattle.archive_state.specs.declared.verdict.Verdict.{Verdict}
use Rattle.archive_state.specs.declared.verdict.Verdict.TheVariants.{Accept}
use Rattle.archive_post.specs.Waiting.{are_both}
use Rattle.archive_post.specs.Leaving.{left_of}
use Rattle.archive_post.specs.Posts.{first_hand}
use Rattle.archive_post.proofs.Calls.{nothing_added}
use Rattle.desk_words.specs.Counts.{RoseWithin}
use Rattle.desk_words.specs.Posting.{posted_entry, ruling, listed, could_stop}
use Rattle.desk_words.specs.Setting.{Setting}
use Rattle.desk_words.specs.Stand.{Stand, Left, nothing, short, stopped, as_short, as_stopped, MayFlush, NothingShort, Alone, GoesOn, Asks, answer_of, Submits}
use Rattle.desk_words.specs.declared.asking.Answer.{Answer}
use Rattle.desk_words.specs.declared.asking.Question.{Question}
use Rattle.desk_words.specs.declared.asking.Submitted.{Submitted}
use Rattle.desk_words.specs.declared.asking.SubmitFault.{SubmitFault}
use Rattle.desk_words.specs.declared.asking.SubmitFault.TheVariants.{Stopped, OutOfMemory as NoMemory}

-- ---- counts

le : (n : ℕ) → n ≤ n
le n = omega (arith)

stays : (n : ℕ) → RoseWithin 0 0 n n
stays n = record { later = le n; at_least = omega (arith, min-le_left (n + 0) (2 ^ 64 - 1)); at_most = omega (arith) }

may_rise : (n : ℕ) → RoseWithin 0 1 n n
may_rise n = record { later = le n; at_least = omega (arith, min-le_left (n + 0) (2 ^ 64 - 1)); at_most = omega (arith) }

rose_once : (n k : ℕ) → RoseWithin 1 1 n k → RoseWithin 0 1 n k
rose_once n k rose = record { later = rose.later; at_least = omega (arith, min-le_left (n + 0) (2 ^ 64 - 1), rose.later); at_most = rose.at_most }

-- ---- what is left

grows_by : (h l r : List Entry) → l ≡ h ++ r → IsPrefix h l
grows_by h l r is = (r, sym is)

may_flush : (o d : Option Entry) → MayFlush (left_of o d) (option_to_list o)
may_flush None None = refl
may_flush None (Some x) = refl
may_flush (Some e) d = inr refl

may_not : (l : Left) → MayFlush l []
may_not nothing = refl
may_not (short e) = inl refl
may_not (stopped e) = refl

left_after : (o d : Option Entry) (Mine : Type 0) → are_both o d ≡ false → (left_of None d ≡ nothing) ⊎ (((option_to_list o ≡ []) × (left_of None d ≡ left_of o d)) ⊎ Mine)
left_after o None Mine apart = inl refl
left_after None (Some x) Mine apart = inr (inl (refl, refl))
left_after (Some e) (Some x) Mine apart = absurd (true≢false apart)

tidy_after : (d : Option Entry) → NothingShort (left_of None d)
tidy_after None = tt
tidy_after (Some x) = tt

left_stopped : (o d : Option Entry) (e : Entry) → are_both o d ≡ false → (left_of None (first_hand d e) ≡ nothing) ⊎ (((option_to_list o ≡ []) × (left_of None (first_hand d e) ≡ left_of o d)) ⊎ (left_of None (first_hand d e) ≡ stopped e))
left_stopped o None e apart = inr (inr refl)
left_stopped None (Some x) e apart = inr (inl (refl, refl))
left_stopped (Some y) (Some x) e apart = absurd (true≢false apart)

-- ---- rows

-- a question changes nothing
pub refused_ask : (st : Stand) (q : Question) (s : Setting) (r : Result Answer OutOfMemory) (P : OutOfMemory → Type 0) → IsErrAnd r P → Asks st st q s r
refused_ask st q s (Ok a) P is = absurd is
refused_ask st q s (Err f) P is = record {
  goes_on = record { grows = grows_by st.seen st.seen [] (sym (append-nil st.seen)); alone = refl; footing = refl; stops = le st.stops };
  caught = refl;
  made = refl;
  quiet = λ _. (refl, refl);
  answer = tt;
}

pub told_ask : (st : Stand) (q : Question) (s : Setting) (a : Answer) → a ≡ answer_of st.seen q s → Asks st st q s (Ok a)
told_ask st q s a is = record {
  goes_on = record { grows = grows_by st.seen st.seen [] (sym (append-nil st.seen)); alone = refl; footing = refl; stops = le st.stops };
  caught = refl;
  made = refl;
  quiet = λ _. (refl, refl);
  answer = is;
}

-- memory ran out before anything changed
pub short_row : (st : Stand) (p : Posted) (m : Moment) (s : Setting) (r : Result Submitted SubmitFault) → IsErrAnd r (λ f. f ≡ NoMemory) → Submits st st p m s r
short_row st p m s (Ok x) is = absurd is
short_row st p m s (Err Stopped) is = absurd (cc (is))
short_row st p m s (Err NoMemory) is = record {
  goes_on = record { grows = grows_by st.seen st.seen [] (sym (append-nil st.seen)); alone = refl; footing = refl; stops = le st.stops };
  caught = refl;
  row = record { made = may_rise st.made; alone = λ _. record { flushed = []; may = may_not st.left; judged_is = sym (append-nil st.seen); left = inr (inl (refl, refl)) } };
}

module _ (told : Bool) (faults : ℕ) (h : List Entry) (stops caught made : ℕ) (o d : Option Entry) (l : List Entry) (is : l ≡ h ++ option_to_list o) (apart : are_both o d ≡ false) (p : Posted) (m : Moment) (s : Setting) (new : Stand)
    (alone : new.alone ≡ true) (footing : new.footing ≡ record { told = told; faults = faults }) (same_caught : new.caught ≡ caught) where
  abbrev old : Stand
  old = record { footing = record { told = told; faults = faults }; seen = h; stops = stops; caught = caught; made = made; alone = true; left = left_of o d }

  goes_on : (r : List Entry) → new.seen ≡ l ++ r → stops ≤ new.stops → GoesOn old new
  goes_on r seen rose = record {
    grows = grows_by h new.seen (option_to_list o ++ r) (seen ∙ ap (λ (x : List Entry). x ++ r) is ∙ append_assoc h (option_to_list o) r);
    alone = alone;
    footing = footing;
    stops = rose;
  }

  goes_to : new.seen ≡ l → stops ≤ new.stops → GoesOn old new
  goes_to seen rose = goes_on [] (seen ∙ sym (append-nil l)) rose

  -- what is left, where what was left short was seen
  alone_by : (judged : List Entry) (Mine : Left → Type 0) → judged ≡ l → (new.left ≡ nothing) ⊎ (((option_to_list o ≡ []) × (new.left ≡ left_of o d)) ⊎ Mine new.left) → Alone old new judged Mine
  alone_by judged Mine same left = record { flushed = option_to_list o; may = may_flush o d; judged_is = same ∙ is; left = left }

  -- judged, and not accepted
  pub judged_row : (v : Verdict) → v ≡ ruling l p m s → ((k : ℕ) → v ≡ Accept k → ⊥) → new.seen ≡ l → new.stops ≡ stops → new.made ≡ made → new.left ≡ left_of None d
      → Submits old new p m s (Ok (record { verdict = v; judged = length l; front = length new.seen }))
  judged_row v rules not seen same_stops same_made left =
      let none = nothing_added v (posted_entry l p m s) not in
      record {
        goes_on = goes_to seen (omega (arith, same_stops));
        caught = same_caught;
        row = record {
          judged = l;
          judged_is = refl;
          begins = grows_by h l (option_to_list o) is;
          verdict = rules;
          seen = seen ∙ sym (append-nil l) ∙ ap (λ (x : List Entry). l ++ x) (sym none.1);
          front = refl;
          made = subst (λ (x : ℕ × ℕ). RoseWithin x.0 x.0 made x.1) (λ i. (sym none.0 i, sym same_made i)) (stays made);
          alone = λ _. alone_by l (λ left. ⊥) refl (subst (λ (x : Left). (x ≡ nothing) ⊎ (((option_to_list o ≡ []) × (x ≡ left_of o d)) ⊎ ⊥)) (sym left) (left_after o d ⊥ apart));
          tidy = λ _. subst NothingShort (sym left) (tidy_after d);
        };
      }

  -- accepted: its entry is seen
  pub accepted_row : (e : Entry) (n : ℕ) → posted_entry l p m s ≡ Some e → Accept n ≡ ruling l p m s → new.seen ≡ l ++ e ∷ [] → new.stops ≡ stops → RoseWithin 1 1 made new.made → new.left ≡ left_of None d
      → Submits old new p m s (Ok (record { verdict = Accept n; judged = length l; front = length new.seen }))
  accepted_row e n posted rules seen same_stops rose left =
      record {
        goes_on = goes_on (e ∷ []) seen (omega (arith, same_stops));
        caught = same_caught;
        row = record {
          judged = l;
          judged_is = refl;
          begins = grows_by h l (option_to_list o) is;
          verdict = rules;
          seen = seen ∙ ap (λ (x : Option Entry). l ++ listed x) (sym posted);
          front = refl;
          made = rose;
          alone = λ _. alone_by l (λ left. ⊥) refl (subst (λ (x : Left). (x ≡ nothing) ⊎ (((option_to_list o ≡ []) × (x ≡ left_of o d)) ⊎ ⊥)) (sym left) (left_after o d ⊥ apart));
          tidy = λ _. subst NothingShort (sym left) (tidy_after d);
        };
      }

  -- the disk stopped it
  pub stopped_row : (e : Entry) → posted_entry l p m s ≡ Some e → could_stop l p m s ≡ true → new.seen ≡ l → RoseWithin 1 1 stops new.stops → new.made ≡ made → new.left ≡ left_of None (first_hand d e)
      → Submits old new p m s (Err Stopped)
  stopped_row e posted could seen rose same_made left =
      let named : posted_entry new.seen p m s ≡ Some e = ap (λ (x : List Entry). posted_entry x p m s) seen ∙ posted in
      record {
        goes_on = goes_to seen rose.later;
        caught = same_caught;
        row = record {
          rose = rose.at_least;
          could = ap (λ (x : List Entry). could_stop x p m s) seen ∙ could;
          made = same_made;
          alone = λ _. alone_by new.seen (λ x. x ≡ as_stopped (posted_entry new.seen p m s)) seen
              (subst (λ (x : Left × Option Entry). (x.0 ≡ nothing) ⊎ (((option_to_list o ≡ []) × (x.0 ≡ left_of o d)) ⊎ (x.0 ≡ as_stopped x.1))) (λ i. (sym left i, sym named i)) (left_stopped o d e apart));
        };
      }

  -- memory ran out before the commit
  pub unmade_row : new.seen ≡ l → new.stops ≡ stops → new.made ≡ made → new.left ≡ left_of None d → Submits old new p m s (Err NoMemory)
  unmade_row seen same_stops same_made left =
      record {
        goes_on = goes_to seen (omega (arith, same_stops));
        caught = same_caught;
        row = record {
          made = subst (λ (k : ℕ). RoseWithin 0 1 made k) (sym same_made) (may_rise made);
          alone = λ _. alone_by new.seen (λ x. x ≡ as_short (posted_entry new.seen p m s)) seen
              (subst (λ (x : Left). (x ≡ nothing) ⊎ (((option_to_list o ≡ []) × (x ≡ left_of o d)) ⊎ (x ≡ as_short (posted_entry new.seen p m s)))) (sym left) (left_after o d (left_of None d ≡ as_short (posted_entry new.seen p m s)) apart));
        };
      }

  -- memory ran out behind the commit
  pub unseen_row : (e : Entry) → posted_entry l p m s ≡ Some e → new.seen ≡ l → new.stops ≡ stops → RoseWithin 1 1 made new.made → new.left ≡ short e → Submits old new p m s (Err NoMemory)
  unseen_row e posted seen same_stops rose left =
      let named : posted_entry new.seen p m s ≡ Some e = ap (λ (x : List Entry). posted_entry x p m s) seen ∙ posted in
      record {
        goes_on = goes_to seen (omega (arith, same_stops));
        caught = same_caught;
        row = record {
          made = rose_once made new.made rose;
          alone = λ _. alone_by new.seen (λ x. x ≡ as_short (posted_entry new.seen p m s)) seen (inr (inr (left ∙ ap as_short (sym named))));
        };
      }
