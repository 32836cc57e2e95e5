-- Every reply that is made can be sent.
use Rattle.std.proofs.Common.{◌≡◌, ◌∙◌, refl, sym, ap, ℕ, ◌==◌, true, false}
use Rattle.exact_time.specs.declared.moment.Moment.{Moment}
use Rattle.access_digest.specs.declared.denial.Denial.{Denial}
use Rattle.access_digest.specs.declared.denial.Denial.TheVariants as denial
use Rattle.http_digest.specs.declared.secret.Secret.{Secret}
use Rattle.http_replies.specs.Replies.{is_status, IsSendable}
use Rattle.http_replies.specs.declared.reply.Reply.{Reply}
use Rattle.http_wire.specs.declared.ending.HeadFault.{HeadFault}
use Rattle.http_wire.specs.declared.ending.HeadFault.TheVariants as head
use Rattle.http_wire.specs.declared.request.Request.{Request}
use Rattle.centre_desk.specs.Told.{reply_from, head_reply}
use Rattle.centre_desk.specs.declared.fault.Fault.{Fault}
use Rattle.centre_desk.specs.declared.fault.Fault.TheVariants as fault
use Rattle.centre_desk.specs.declared.told.Told.{Told}
use Rattle.centre_desk.specs.declared.told.Told.TheVariants.{Body, Nothing, Refused}

other : (n m : ℕ) → (n == m) ≡ false → (m == m) ≡ true → n ≡ m → ⊥
other n m unlike like is = let bad : true ≡ false = sym like ∙ (ap (λ (k : ℕ). k == m) (sym is) ∙ unlike) in cc

-- neither a challenge nor methods are owed
plain : (reply : Reply) → is_status reply.status ≡ true → (reply.status == 401) ≡ false → (reply.status == 405) ≡ false → IsSendable reply
plain reply status no_challenge no_methods = record {
  status = status;
  challenge = λ is. absurd (other reply.status 401 no_challenge refl is);
  allow = λ is. absurd (other reply.status 405 no_methods refl is);
}

module _ (front : ℕ) (r : Request) (moment : Moment) (secret : Secret) where
  of_head : (f : HeadFault) → IsSendable (reply_from (Refused (fault.Head f)) front r moment secret)
  of_head head.TargetTooLong = plain _ refl refl refl
  of_head head.HeadTooLong = plain _ refl refl refl
  of_head head.BadHead = plain _ refl refl refl
  of_head head.TooManyHeaders = plain _ refl refl refl
  of_head head.BadLength = plain _ refl refl refl
  of_head head.NoLength = plain _ refl refl refl
  of_head (head.BodyTooLong n) = plain _ refl refl refl

  of_denial : (d : Denial) → IsSendable (reply_from (Refused (fault.Denied d)) front r moment secret)
  of_denial denial.Absent = record { status = refl; challenge = λ is. refl; allow = λ is. absurd (other 401 405 refl refl is) }
  of_denial denial.Unreadable = record { status = refl; challenge = λ is. refl; allow = λ is. absurd (other 401 405 refl refl is) }
  of_denial denial.Stale = record { status = refl; challenge = λ is. refl; allow = λ is. absurd (other 401 405 refl refl is) }
  of_denial denial.UnknownUser = plain _ refl refl refl
  of_denial denial.WrongResponse = plain _ refl refl refl

  of_fault : (f : Fault) → IsSendable (reply_from (Refused f) front r moment secret)
  of_fault (fault.Head f) = of_head f
  of_fault fault.NoPath = plain _ refl refl refl
  of_fault (fault.NoMethod methods) = record { status = refl; challenge = λ is. absurd (other 405 401 refl refl is); allow = λ is. refl }
  of_fault fault.BadFront = plain _ refl refl refl
  of_fault (fault.Behind asked got) = plain _ refl refl refl
  of_fault (fault.Query f) = plain _ refl refl refl
  of_fault (fault.Denied d) = of_denial d
  of_fault fault.Role = plain _ refl refl refl
  of_fault (fault.OtherBody n) = plain _ refl refl refl
  of_fault (fault.Gap last) = plain _ refl refl refl
  of_fault (fault.Record at f) = plain _ refl refl refl
  of_fault (fault.Line line f) = plain _ refl refl refl
  of_fault (fault.Broken line rule) = plain _ refl refl refl
  of_fault fault.NoData = plain _ refl refl refl
  of_fault (fault.ManyBytes bytes most) = plain _ refl refl refl
  of_fault (fault.ManyLines lines most) = plain _ refl refl refl
  of_fault (fault.FullRecords records most) = plain _ refl refl refl
  of_fault (fault.FullBytes bytes most) = plain _ refl refl refl
  of_fault fault.Stopped = plain _ refl refl refl

  pub can_be_sent : (t : Told) → IsSendable (reply_from t front r moment secret)
  can_be_sent (Body kind bytes) = plain _ refl refl refl
  can_be_sent Nothing = plain _ refl refl refl
  can_be_sent (Refused f) = of_fault f

-- of a refused head too
pub head_can_be_sent : (f : HeadFault) (front : ℕ) → IsSendable (head_reply f front)
head_can_be_sent head.TargetTooLong front = plain _ refl refl refl
head_can_be_sent head.HeadTooLong front = plain _ refl refl refl
head_can_be_sent head.BadHead front = plain _ refl refl refl
head_can_be_sent head.TooManyHeaders front = plain _ refl refl refl
head_can_be_sent head.BadLength front = plain _ refl refl refl
head_can_be_sent head.NoLength front = plain _ refl refl refl
head_can_be_sent (head.BodyTooLong n) front = plain _ refl refl refl
