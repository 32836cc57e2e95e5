-- What is heard on a link, step by step: `a` is what is told of it before the first request, `b` behind its reply, `c` behind the
-- second one.
use Rattle.std.proofs.Common.{◌≡◌, inl, inr, ℕ, ◌==◌, Bool, true, false, List, [], ◌++◌, Option, None, Some, Result, Ok, Err, refl, sym, ◌∙◌, ap, subst, arith, append-nil, append_assoc}
use Rattle.std.specs.Prelude.{if◌then◌else◌, MatchBool, IfOk, IfSome, OnErr}
use Rattle.std.proofs.lemmas.Bool.Decides.{nat_tests}
use Rattle.exact_time.specs.Causes.{Rose}
use Rattle.exact_time.specs.declared.error.OutOfMemory.{OutOfMemory}
use Rattle.streams.specs.Effects.{Grew, WritesPart, PutsAll, OnlyTakes}
use Rattle.streams.specs.View.{StreamView}
use Rattle.streams.proofs.Grows.{Consumes-then, Grew-then}
use Rattle.http_digest.specs.Answers.{are_visible}
use Rattle.http_answers.specs.Hearing.{Answered, Answers, answered}
use Rattle.http_answers.specs.Reading.{GivesReply, EndsSo}
use Rattle.http_answers.specs.declared.got.Got.{Got}
use Rattle.http_answers.specs.declared.got.GotEnd.{GotEnd}
use Rattle.http_answers.specs.declared.got.GotEnd.TheVariants as end
use Rattle.http_answers.specs.ReplyHeads.{Said}
use Rattle.http_answers.proofs.OneReply.{reply_heard, end_heard}
use Rattle.follow_round.specs.Requests.{first_request, second_request, requests}
use Rattle.follow_round.specs.Hearing.{most_body, HearsBehind, HeardOn, nonce_told, second_says, TellsNonce, WrotePart}
use Rattle.follow_round.specs.Steps.{GotReply, Breaks, ended_so, SecondHeard, HeardBehind}
use Rattle.follow_round.specs.declared.heard.Heard.{Heard}
use Rattle.follow_round.specs.declared.heard.Heard.TheVariants.{Brought, CaughtUp, Peer, BadReply, Lost}
use Rattle.follow_round.proofs.Visible.{nonce_visible}

-- ---- one exchange: `a` before it, `b` behind the request, `c` behind the reply

module _ (request : List ℕ) (a b c : StreamView) where
  grew : {T E F : Type 0} {one : T} → PutsAll {E = E} a b (Ok one) request → OnlyTakes b c F → Grew a.written c.written request
  grew puts takes = subst (λ (o : Option (List ℕ)). Grew a.written o request) (sym takes.kept) puts.ok

  all_part : Grew a.written c.written request → WritesPart a.written c.written request
  all_part g = record { part = request; rest = []; split = sym (append-nil request); output = g }

  pub got_reply : {T E F : Type 0} {one : T} (old new : List ℕ) (got : Got) → PutsAll {E = E} a b (Ok one) request → OnlyTakes b c F
      → GivesReply most_body b.left c.left old new got → GotReply request a c old new got
  got_reply old new got puts takes gives = record {
    later = (let one = puts.cause.later in let two = takes.later in omega (arith, one, two));
    wrote = grew puts takes;
    reply = subst (λ (o : Option (List ℕ)). GivesReply most_body o c.left old new got) puts.kept gives;
  }

  pub got_end : {T E : Type 0} {one : T} (old : List ℕ) (why : GotEnd) {F : Type 0} → (why ≡ end.LinkFault → F) → PutsAll {E = E} a b (Ok one) request → OnlyTakes b c F
      → EndsSo most_body b.left c.left old why → Breaks request a c old why
  got_end old end.BadReply is puts takes ends = record { wrote = grew puts takes; ends = subst (λ (o : Option (List ℕ)). EndsSo most_body o c.left old end.BadReply) puts.kept ends }
  got_end old (end.TooLong n) is puts takes ends = record { wrote = grew puts takes; ends = subst (λ (o : Option (List ℕ)). EndsSo most_body o c.left old (end.TooLong n)) puts.kept ends }
  got_end old end.Cut is puts takes ends = record { wrote = grew puts takes; ends = subst (λ (o : Option (List ℕ)). EndsSo most_body o c.left old end.Cut) puts.kept ends }
  got_end old end.LinkFault is puts takes ends =
      (all_part (grew puts takes), (let later = puts.cause.later in let rose = takes.cause (is refl) in omega (arith, later, rose)))
  got_end old end.OutOfMemory is puts takes ends = all_part (grew puts takes)

pub not_written : {T E : Type 0} {error : E} (request : List ℕ) (a b : StreamView) → PutsAll {T = T} a b (Err error) request → WritesPart a.written b.written request × Rose a.faults b.faults
not_written request a b puts = (puts.part, puts.cause.failed)

-- nothing was written
pub nothing_written : (request : List ℕ) (o : Option (List ℕ)) → WritesPart o o request
nothing_written request o = record { part = []; rest = request; split = refl; output = none o }
  where
    none : (o : Option (List ℕ)) → Grew o o []
    none None = tt
    none (Some old) = sym (append-nil old)

all_written : (request : List ℕ) (x y : Option (List ℕ)) → Grew x y request → WritesPart x y request
all_written request x y g = record { part = request; rest = []; split = sym (append-nil request); output = g }

-- ---- the second exchange

not_lost : {P : Type 0} (heard : Heard) → heard ≡ BadReply → heard ≡ Lost → P
not_lost {P} heard is lost = absurd (apart (sym is ∙ lost))
  where
    apart : BadReply ≡ Lost → ⊥
    apart h = cc

peer_not_lost : {P : Type 0} (n : ℕ) → Peer n ≡ Lost → P
peer_not_lost {P} n lost = absurd (apart lost)
  where
    apart : Peer n ≡ Lost → ⊥
    apart h = cc

not_said_lost : {P : Type 0} (x : Answered) → second_says x ≡ Lost → P
not_said_lost {P} x lost = absurd (by (x.says.status == 200) (x.says.status == 204) lost)
  where
    by : (s t : Bool) → (if s then Brought x.body else (if t then CaughtUp else Peer x.says.status)) ≡ Lost → ⊥
    by true t h = cc
    by false true h = cc
    by false false h = cc

pub heard_second : (request : List ℕ) (a b : StreamView) (old new : List ℕ) (got : Got) (heard : Heard) → GotReply request a b old new got
    → ((rest : List ℕ) → heard ≡ second_says (answered got rest)) → HeardBehind request a b old heard
heard_second request a b old new got heard reply says =
    let saw = reply_heard most_body a.left b.left old new got reply.reply in
    inl (record {
      taken = saw.taken;
      lost = saw.lost;
      second = Ok (answered got new);
      came = saw.is;
      says = says new;
      wrote = reply.wrote;
      ended = λ lost. not_said_lost (answered got new) (sym (says new) ∙ lost);
    })

pub heard_end : (request : List ℕ) (a b : StreamView) (old : List ℕ) (why : GotEnd) → Breaks request a b old why → IfOk (ended_so why) (HeardBehind request a b old)
heard_end request a b old end.BadReply none =
    let saw = end_heard most_body a.left b.left old end.BadReply none.ends tt in
    inl (record { taken = saw.taken; lost = saw.lost; second = Err end.BadReply; came = saw.is; says = refl; wrote = none.wrote; ended = not_lost BadReply refl })
heard_end request a b old (end.TooLong n) none =
    let saw = end_heard most_body a.left b.left old (end.TooLong n) none.ends tt in
    inl (record { taken = saw.taken; lost = saw.lost; second = Err (end.TooLong n); came = saw.is; says = refl; wrote = none.wrote; ended = not_lost BadReply refl })
heard_end request a b old end.Cut none =
    let saw = end_heard most_body a.left b.left old end.Cut none.ends tt in
    inl (record { taken = saw.taken; lost = saw.lost; second = Err end.Cut; came = saw.is; says = refl; wrote = none.wrote; ended = λ lost. none.ends.1 })
heard_end request a b old end.LinkFault (part, rose) = inr (refl, rose, part)
heard_end request a b old end.OutOfMemory part = tt

pub short_end : (request : List ℕ) (a b : StreamView) (old : List ℕ) (why : GotEnd) → Breaks request a b old why → OnErr (ended_so why) (WritesPart a.written b.written request)
short_end request a b old end.BadReply none = tt
short_end request a b old (end.TooLong n) none = tt
short_end request a b old end.Cut none = tt
short_end request a b old end.LinkFault none = tt
short_end request a b old end.OutOfMemory part = part

is_401 : (n : ℕ) → n ≡ 401 → (n == 401) ≡ true
is_401 n is = grind (arith, nat_tests, is)

isnt_401 : (n : ℕ) → (n ≡ 401 → ⊥) → (n == 401) ≡ false
isnt_401 n other = grind (arith, nat_tests, other)

pub on_err : {T E W : Type 0} (r : Result T E) → W → OnErr r W
on_err (Ok x) w = tt
on_err (Err e) w = w

-- ---- the whole talk

module _ (user ha1 : List ℕ) (wanted : ℕ) (a b : StreamView) where
  abbrev first : List ℕ
  first = first_request wanted

  -- a first part of the first request
  pub part_alone : WritesPart a.written b.written first → WrotePart user ha1 wanted a b
  part_alone part = record { nonce = None; told = tt; part = part }

  -- no first reply came
  pub first_end : (why : GotEnd) → Breaks first a b [] why → IfOk (ended_so why) (HeardOn user ha1 wanted a b)
  first_end end.BadReply none =
      let saw = end_heard most_body a.left b.left [] end.BadReply none.ends tt in
      inl (record { taken = saw.taken; lost = saw.lost; first = Err end.BadReply; hears = (saw.is, refl); wrote = none.wrote; ended = not_lost BadReply refl })
  first_end (end.TooLong n) none =
      let saw = end_heard most_body a.left b.left [] (end.TooLong n) none.ends tt in
      inl (record { taken = saw.taken; lost = saw.lost; first = Err (end.TooLong n); hears = (saw.is, refl); wrote = none.wrote; ended = not_lost BadReply refl })
  first_end end.Cut none =
      let saw = end_heard most_body a.left b.left [] end.Cut none.ends tt in
      inl (record { taken = saw.taken; lost = saw.lost; first = Err end.Cut; hears = (saw.is, refl); wrote = none.wrote; ended = λ lost. none.ends.1 })
  first_end end.LinkFault (part, rose) = inr (refl, rose, part_alone part)
  first_end end.OutOfMemory part = tt

  pub first_short : (why : GotEnd) → Breaks first a b [] why → OnErr (ended_so why) (WrotePart user ha1 wanted a b)
  first_short end.BadReply none = tt
  first_short (end.TooLong n) none = tt
  first_short end.Cut none = tt
  first_short end.LinkFault none = tt
  first_short end.OutOfMemory part = part_alone part

  module _ (new : List ℕ) (got : Got) (reply : GotReply first a b [] new got) where
    -- it has another status than 401
    pub heard_peer : (got.status ≡ 401 → ⊥) → HeardOn user ha1 wanted a b (Peer got.status)
    heard_peer differs =
        let other = isnt_401 got.status differs in
        let saw = reply_heard most_body a.left b.left [] new got reply.reply in
        inl (record {
          taken = saw.taken;
          lost = saw.lost;
          first = Ok (answered got new);
          hears = (saw.is, subst (λ (t : Bool). MatchBool t (HearsBehind got.nonce new (Peer got.status)) (Peer got.status ≡ Peer got.status)) (sym other) refl);
          wrote = subst (λ (t : Bool). Grew a.written b.written (requests user ha1 wanted (if t then got.nonce else None))) (sym other) reply.wrote;
          ended = peer_not_lost got.status;
        })

    -- it tells no nonce
    pub heard_no_nonce : got.status ≡ 401 → got.nonce ≡ None → HeardOn user ha1 wanted a b BadReply
    heard_no_nonce is none =
        let asks = is_401 got.status is in
        let saw = reply_heard most_body a.left b.left [] new got reply.reply in
        inl (record {
          taken = saw.taken;
          lost = saw.lost;
          first = Ok (answered got new);
          hears = (saw.is, subst (λ (t : Bool). MatchBool t (HearsBehind got.nonce new BadReply) (BadReply ≡ Peer got.status)) (sym asks) (subst (λ (n : Option (List ℕ)). HearsBehind n new BadReply) (sym none) refl));
          wrote = subst (λ (t : Bool). Grew a.written b.written (requests user ha1 wanted (if t then got.nonce else None))) (sym asks) (subst (λ (n : Option (List ℕ)). Grew a.written b.written (requests user ha1 wanted n)) (sym none) reply.wrote);
          ended = not_lost BadReply refl;
        })

    pub nonce_seen : (nonce : List ℕ) → got.nonce ≡ Some nonce → are_visible nonce ≡ true
    nonce_seen nonce is =
        subst (λ (n : Option (List ℕ)). IfSome n (λ m. are_visible m ≡ true)) is
        (subst (λ (s : Said). IfSome s.nonce (λ m. are_visible m ≡ true)) (sym reply.reply.item.says_is) (nonce_visible reply.reply.item.tree))

-- the second request was written behind the first reply, which tells this nonce
module _ (user ha1 : List ℕ) (wanted : ℕ) (a b c : StreamView) (held : List ℕ) (got : Got) (nonce : List ℕ) (reply : GotReply (first_request wanted) a b [] held got)
    (is : got.status ≡ 401) (tells : got.nonce ≡ Some nonce) where
  asks : (got.status == 401) ≡ true
  asks = is_401 got.status is

  told : nonce_told (Ok (answered got held)) ≡ Some nonce
  told = ap (λ (t : Bool). if t then got.nonce else None) asks ∙ tells

  tells_nonce : TellsNonce a.left nonce
  tells_nonce =
      let saw = reply_heard most_body a.left b.left [] held got reply.reply in
      record { taken = saw.taken; later = b.left; lost = saw.lost; first = Ok (answered got held); came = saw.is; told = told }

  both_part : WritesPart b.written c.written (second_request user ha1 wanted nonce) → WrotePart user ha1 wanted a c
  both_part part = record {
    nonce = Some nonce;
    told = tells_nonce;
    part = record {
      part = first_request wanted ++ part.part;
      rest = part.rest;
      split = ap (λ (l : List ℕ). first_request wanted ++ l) part.split ∙ sym (append_assoc (first_request wanted) part.part part.rest);
      output = Grew-then a.written b.written c.written (first_request wanted) part.part reply.wrote part.output;
    };
  }

  by_bytes : (heard : Heard) → SecondHeard (second_request user ha1 wanted nonce) b c held heard → HeardOn user ha1 wanted a c heard
  by_bytes heard s =
      let saw = reply_heard most_body a.left b.left [] held got reply.reply in
      let came : Answers most_body (saw.taken ++ s.taken) (Ok (answered got (held ++ s.taken))) =
      (saw.is.0, (ap (λ (l : List ℕ). l ++ s.taken) saw.is.1 ∙ append_assoc saw.is.0 held s.taken), saw.is.2, saw.is.3) in
      let behind : HearsBehind (Some nonce) (held ++ s.taken) heard = (s.second, s.came, s.says) in
      inl (record {
        taken = saw.taken ++ s.taken;
        lost = Consumes-then a.left b.left c.left saw.taken s.taken saw.lost s.lost;
        first = Ok (answered got (held ++ s.taken));
        hears = (
          came,
          subst (λ (t : Bool). MatchBool t (HearsBehind got.nonce (held ++ s.taken) heard) (heard ≡ Peer got.status)) (sym asks)
              (subst (λ (n : Option (List ℕ)). HearsBehind n (held ++ s.taken) heard) (sym tells) behind),
        );
        wrote = subst (λ (n : Option (List ℕ)). Grew a.written c.written (requests user ha1 wanted n)) (sym told)
            (Grew-then a.written b.written c.written (first_request wanted) (second_request user ha1 wanted nonce) reply.wrote s.wrote);
        ended = s.ended;
      })

  pub heard_both : (result : Result Heard OutOfMemory) → IfOk result (HeardBehind (second_request user ha1 wanted nonce) b c held) → IfOk result (HeardOn user ha1 wanted a c)
  heard_both (Ok heard) (inl s) = by_bytes heard s
  heard_both (Ok heard) (inr (lost, rose, part)) = inr (lost, (let later = reply.later in omega (arith, later, rose)), both_part part)
  heard_both (Err e) s = tt

  pub short_both : (result : Result Heard OutOfMemory) → OnErr result (WritesPart b.written c.written (second_request user ha1 wanted nonce)) → OnErr result (WrotePart user ha1 wanted a c)
  short_both (Ok heard) s = tt
  short_both (Err e) part = both_part part

  -- no memory for it
  pub short_between : b.written ≡ c.written → WrotePart user ha1 wanted a c
  short_between same = both_part (subst (λ (o : Option (List ℕ)). WritesPart b.written o (second_request user ha1 wanted nonce)) same (nothing_written (second_request user ha1 wanted nonce) b.written))
