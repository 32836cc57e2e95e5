-- A reply tells what was said.
use Rattle.std.proofs.Common.{◌≡◌, ◌∙◌, refl, sym, ap, subst, inl, inr, ⊎_elim, ℕ, ◌≤◌, false, length}
use Rattle.exact_time.specs.declared.moment.Moment.{Moment}
use Rattle.desk_words.specs.Counts.{RoseAtLeast}
use Rattle.desk_words.specs.Setting.{Setting}
use Rattle.desk_words.specs.Stand.{Stand, GoesOn}
use Rattle.http_replies.specs.declared.reply.Reply.{Reply}
use Rattle.http_wire.specs.declared.request.Request.{Request}
use Rattle.http_wire.specs.declared.turn.Turn.{Turn}
use Rattle.centre_desk.specs.Answering.{HasSaid, SaysWhole, SaysStopped}
use Rattle.centre_desk.specs.Replies.{told_of}
use Rattle.centre_desk.specs.Told.{reply_from}
use Rattle.centre_desk.specs.Turns.{Replied, posted_by, asks_above, behind_of, CaughtUpIf}
use Rattle.centre_desk.proofs.Behinds.{behind_caught}
use Rattle.centre_desk.proofs.Posts.{prefix_length}
use Rattle.centre_desk.specs.declared.told.Told.{Told}
use Rattle.centre_desk.specs.declared.told.Said.{Said}

abbrev pub turn_of : Said → Moment → Turn
turn_of said moment = record { front = said.front; moment = moment; entry = said.entry; short = false }

same_reply : (r : Request) (moment : Moment) (s : Setting) (t u : Told) (n k : ℕ) → t ≡ u → n ≡ k → reply_from t n r moment s.secret ≡ reply_from u k r moment s.secret
same_reply r moment s t u n k told front = ap (λ (x : Told). reply_from x n r moment s.secret) told ∙ ap (λ (x : ℕ). reply_from u x r moment s.secret) front

pub replied : (old new : Stand) (r : Request) (moment : Moment) (s : Setting) (said : Said) → HasSaid old new (λ h added. told_of h r moment s added) (posted_by r) moment s said
    → Replied old new r moment s (reply_from said.told said.front r moment s.secret) (turn_of said moment)
replied old new r moment s said h = record {
  moment_is = refl;
  front = h.front;
  not_short = refl;
  rises = h.rises;
  served = ⊎_elim
      (λ (w : SaysWhole (λ g added. told_of g r moment s added) (posted_by r) new.seen moment s said).
      inl (record { entry = w.entry; adds = w.adds; reply_is = same_reply r moment s said.told _ said.front (length new.seen) w.told_is h.front }))
      (λ (w : SaysStopped (posted_by r) new.seen moment s said).
      inr (record { no_entry = w.no_entry; could = w.could; reply_is = same_reply r moment s said.told _ said.front (length new.seen) w.told_is h.front }))
      h.served;
  stops = h.stops;
  made = h.made;
}

-- the desk caught up where the reply tells that there are too few entries
pub behind_said : (old new : Stand) (r : Request) (moment : Moment) (s : Setting) (said : Said) (reply : Reply) → GoesOn old new → HasSaid old new (λ h added. told_of h r moment s added) (posted_by r) moment s said
    → CaughtUpIf (asks_above (length old.seen) r) old.caught new.caught → old.caught ≤ new.caught → reply ≡ reply_from said.told said.front r moment s.secret → RoseAtLeast (behind_of reply) old.caught new.caught
behind_said old new r moment s said reply on h caught later is =
    subst (λ (x : Reply). RoseAtLeast (behind_of x) old.caught new.caught) (sym is)
    (behind_caught (length old.seen) new.seen r s (turn_of said moment) (reply_from said.told said.front r moment s.secret) old.caught new.caught (prefix_length old.seen new.seen on.grows) later caught (replied old new r moment s said h).served)
