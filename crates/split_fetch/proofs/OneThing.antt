-- Of the same bytes one thing is heard.
use Rattle.std.proofs.Common.{◌≡◌, ◌∙◌, ℕ, ◌==◌, ◌||◌, Bool, true, false, List, Option, None, Some, Result, Ok, Err, refl, sym, subst}
use Rattle.std.specs.Prelude.{MatchBool}
use Rattle.mseed_header.proofs.Rows.{one_batch, no_batch}
use Rattle.http_answers.proofs.OneReply.{one_heard}
use Rattle.http_answers.specs.Hearing.{Answered}
use Rattle.http_answers.specs.declared.got.GotEnd.{GotEnd}
use Rattle.http_answers.specs.declared.got.GotEnd.TheVariants as end
use Rattle.split_fetch.specs.Peers.{most_body, any_moment, HasRecords, WithFront, HeardIn, OneHeard}
use Rattle.split_fetch.specs.declared.heard.Heard.{Heard}
use Rattle.split_fetch.specs.declared.heard.Heard.TheVariants.{Lost, Peer, BadReply, TooMuch, Got}

one_records : (front : ℕ) (body : List ℕ) (h k : Heard) → HasRecords front body h → HasRecords front body k → h ≡ k
one_records front body (Got f rows) (Got g others) p q =
    let same = one_batch body 0 any_moment rows others p.1 q.1 in
    λ i. Got ((p.0 ∙ sym q.0) i) (same i)
one_records front body (Got f rows) BadReply p q = absurd (no_batch body 0 any_moment rows q.0 q.1 p.1 q.2)
one_records front body BadReply (Got f rows) p q = absurd (no_batch body 0 any_moment rows p.0 p.1 q.1 p.2)
one_records front body BadReply BadReply p q = refl
one_records front body Lost k p q = absurd p
one_records front body (Peer status) k p q = absurd p
one_records front body TooMuch k p q = absurd p
one_records front body (Got f rows) Lost p q = absurd q
one_records front body (Got f rows) (Peer status) p q = absurd q
one_records front body (Got f rows) TooMuch p q = absurd q
one_records front body BadReply Lost p q = absurd q
one_records front body BadReply (Peer status) p q = absurd q
one_records front body BadReply TooMuch p q = absurd q

one_front : (front : Option ℕ) (body : List ℕ) (h k : Heard) → WithFront front body h → WithFront front body k → h ≡ k
one_front None body h k p q = p ∙ sym q
one_front (Some front) body h k p q = one_records front body h k p q

one_said : (front : Option ℕ) (body : List ℕ) (n : ℕ) (h k : Heard) (t u : Bool) → MatchBool t (WithFront front body h) (MatchBool u (h ≡ TooMuch) (h ≡ Peer n))
    → MatchBool t (WithFront front body k) (MatchBool u (k ≡ TooMuch) (k ≡ Peer n)) → h ≡ k
one_said front body n h k true u p q = one_front front body h k p q
one_said front body n h k false true p q = p ∙ sym q
one_said front body n h k false false p q = p ∙ sym q

one_in : (a : Result Answered GotEnd) (h k : Heard) → HeardIn a h → HeardIn a k → h ≡ k
one_in (Ok x) h k p q = one_said x.says.front x.body x.says.status h k (x.says.status == 200 || x.says.status == 204) (x.says.status == 413) p q
one_in (Err end.BadReply) h k p q = p ∙ sym q
one_in (Err (end.TooLong n)) h k p q = p ∙ sym q
one_in (Err end.Cut) h k p q = p ∙ sym q
one_in (Err end.LinkFault) h k p q = p ∙ sym q
one_in (Err end.OutOfMemory) h k p q = absurd p

pub one_thing : OneHeard
one_thing taken failed a b h k x y p q =
    let same : a ≡ b = one_heard most_body taken failed a b x y in
    one_in a h k p (subst (λ r. HeardIn r k) (sym same) q)
