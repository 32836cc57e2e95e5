-- The turn of a head that is refused.
use Rattle.std.proofs.Common.{◌≡◌, ◌∙◌, refl, sym, ap, subst, inl, inr, arith, ℕ, ◌+◌, ◌-◌, ◌^◌, ◌==◌, Bool, true, false, List, [], length, take, None}
use Rattle.std.proofs.Math.Nat.{min-le_left}
use Rattle.std.proofs.lemmas.List.{append-nil, take_all}
use Rattle.exact_time.specs.declared.moment.Moment.{Moment}
use Rattle.archive_entry.specs.declared.entry.Entry.{Entry}
use Rattle.desk_words.specs.Counts.{RoseAtLeast, RoseWithin}
use Rattle.desk_words.specs.Setting.{Setting}
use Rattle.desk_words.specs.Stand.{Stand, GoesOn}
use Rattle.http_replies.specs.declared.reply.Reply.{Reply}
use Rattle.http_wire.specs.declared.ending.HeadFault.{HeadFault}
use Rattle.http_wire.specs.declared.ending.HeadFault.TheVariants as head
use Rattle.http_wire.specs.declared.turn.Turn.{Turn}
use Rattle.centre_desk.specs.Faults.{head_status}
use Rattle.centre_desk.specs.Told.{head_reply}
use Rattle.centre_desk.specs.Turns.{as_count}
use Rattle.centre_desk.proofs.Behinds.{head_is_no_front, unlike_behind}
use Rattle.centre_desk.proofs.Sources.{still_turn}
use Rattle.centre_session.specs.Items.{refused, memory_reply}
use Rattle.centre_session.specs.Turns.{TurnStep}

abbrev pub turn_at : ℕ → Moment → Bool → Turn
turn_at front moment short = record { front = front; moment = moment; entry = None; short = short }

stays : (x : Stand) → GoesOn x x
stays x = record { grows = ([], append-nil x.seen); alone = refl; footing = refl; stops = omega arith }

none_more : (n : ℕ) → RoseAtLeast 0 n n
none_more n = record { later = omega arith; at_least = omega (arith, min-le_left (n + 0) (2 ^ 64 - 1)) }

none_made : (most n : ℕ) → RoseWithin 0 most n n
none_made most n = record { later = omega arith; at_least = omega (arith, min-le_left (n + 0) (2 ^ 64 - 1)); at_most = omega arith }

-- a head's fault doesn't tell that a disk stopped a command
no_stop : (f : HeadFault) → (head_status f == 503) ≡ false
no_stop head.TargetTooLong = refl
no_stop head.HeadTooLong = refl
no_stop head.BadHead = refl
no_stop head.TooManyHeaders = refl
no_stop head.BadLength = refl
no_stop head.NoLength = refl
no_stop (head.BodyTooLong n) = refl

whole : (h : List Entry) → length (take (length h) h) ≡ length h
whole h = ap length (take_all (length h) h (omega arith))

module _ (x : Stand) (s : Setting) (f : HeadFault) (moment : Moment) where
  abbrev front : ℕ
  front = length x.seen

  refused_at : TurnStep x x s (refused f) moment (turn_at front moment false) (head_reply f front)
  refused_at = record {
    goes_on = stays x;
    moment_is = refl;
    front = refl;
    served = record { rises = omega arith; within = omega arith; served = inl (refl, refl, ap (head_reply f) (sym (whole x.seen))) };
    counted = record {
      stops = subst (λ (b : Bool). RoseAtLeast (as_count b) x.stops x.stops) (sym (no_stop f)) (none_more x.stops);
      caught = unlike_behind (head_reply f front) x.caught x.caught (head_is_no_front f front) (omega arith);
      made = none_made 0 x.made;
    };
    alone = λ is. still_turn x None moment s false (head_status f == 503);
  }

  short_at : TurnStep x x s (refused f) moment (turn_at front moment true) (memory_reply front true false)
  short_at = record {
    goes_on = stays x;
    moment_is = refl;
    front = refl;
    served = record { rises = omega arith; within = omega arith; served = inr (record { short = refl; no_entry = refl; reply_is = ap (λ (n : ℕ). memory_reply n true false) (sym (whole x.seen)) }) };
    counted = record { stops = none_more x.stops; caught = none_more x.caught; made = none_made 1 x.made };
    alone = λ is. still_turn x None moment s true false;
  }

  -- it had the reply of its fault
  pub refused_step : (n : ℕ) (t : Turn) (reply : Reply) → n ≡ front → t ≡ turn_at n moment false → reply ≡ head_reply f n → TurnStep x x s (refused f) moment t reply
  refused_step n t reply at turn_is reply_is =
      subst (λ (u : Turn). TurnStep x x s (refused f) moment u reply) (sym (turn_is ∙ ap (λ (k : ℕ). turn_at k moment false) at))
      (subst (λ (r : Reply). TurnStep x x s (refused f) moment (turn_at front moment false) r) (sym (reply_is ∙ ap (head_reply f) at)) refused_at)

  -- or memory ran out
  pub short_step : (n : ℕ) (t : Turn) (reply : Reply) → n ≡ front → t ≡ turn_at n moment true → reply ≡ memory_reply n true false → TurnStep x x s (refused f) moment t reply
  short_step n t reply at turn_is reply_is =
      subst (λ (u : Turn). TurnStep x x s (refused f) moment u reply) (sym (turn_is ∙ ap (λ (k : ℕ). turn_at k moment true) at))
      (subst (λ (r : Reply). TurnStep x x s (refused f) moment (turn_at front moment true) r) (sym (reply_is ∙ ap (λ (k : ℕ). memory_reply k true false) at)) short_at)
