-- What is heard on a link, step by step: `a` is what is told of it before the request, `b` behind it, `d` behind the reply.
use Rattle.std.proofs.Common.{◌≡◌, ℕ, true, false, List, [], Result, Ok, Err, Option, refl, sym, subst, arith, append-nil, true≢false}
use Rattle.std.specs.Prelude.{IfOk}
use Rattle.std.specs.Io.KnownBytes.{Consumes}
use Rattle.streams.specs.Effects.{Grew, WritesPart, PutsAll, OnlyTakes}
use Rattle.streams.specs.View.{StreamView}
use Rattle.http_answers.specs.Hearing.{Answered, Answers}
use Rattle.http_answers.specs.Reading.{Saw}
use Rattle.http_answers.specs.declared.got.GotEnd.{GotEnd}
use Rattle.http_answers.specs.declared.got.GotEnd.TheVariants as end
use Rattle.split_fetch.specs.Peers.{window_request, most_body, HeardIn, HeardOn}
use Rattle.split_fetch.specs.declared.asked.Codes.{Codes}
use Rattle.split_fetch.specs.declared.heard.Heard.{Heard}
use Rattle.split_fetch.specs.declared.heard.Heard.TheVariants.{Lost}
use Rattle.split_fetch.specs.declared.window.Window.{Window}

module _ (c : Codes) (w : Window) (a b d : StreamView) where
  -- all of the request was written, and what was taken then leaves it
  written : {T E F : Type 0} {one : T} (request : List ℕ) → request ≡ window_request c w → PutsAll {E = E} a b (Ok one) request → OnlyTakes b d F → Grew a.written d.written (window_request c w)
  written request same puts takes = subst (Grew a.written d.written) same (subst (λ (o : Option (List ℕ)). Grew a.written o request) (sym takes.kept) puts.ok)

  all_part : Grew a.written d.written (window_request c w) → WritesPart a.written d.written (window_request c w)
  all_part grew = record { part = window_request c w; rest = []; split = sym (append-nil (window_request c w)); output = grew }

  -- by the bytes that came
  pub heard_by_bytes : {T E F : Type 0} {one : T} (request : List ℕ) (answer : Result Answered GotEnd) (heard : Heard) → request ≡ window_request c w
      → PutsAll {E = E} a b (Ok one) request → OnlyTakes b d F → Saw b.left d.left [] (λ (bytes : List ℕ). Answers most_body bytes answer) → HeardIn answer heard → HeardOn c w a d heard
  heard_by_bytes request answer heard same puts takes saw is =
      let grew = written request same puts takes in
      record {
        taken = saw.taken;
        failed = false;
        lost = λ no. subst (λ (o : Option (List ℕ)). Consumes o d.left saw.taken) puts.kept saw.lost;
        rose = λ yes. absurd (true≢false (sym yes));
        answer = answer;
        hears = saw.is;
        is = is;
        whole = λ no. grew;
        part = all_part grew;
      }

  -- the link failed while the reply was read
  pub heard_lost : {T E F : Type 0} {one : T} (request : List ℕ) → request ≡ window_request c w → PutsAll {E = E} a b (Ok one) request → OnlyTakes b d F → F → HeardOn c w a d Lost
  heard_lost request same puts takes failed = record {
    taken = [];
    failed = true;
    lost = λ no. absurd (true≢false no);
    rose = λ yes. (let later = puts.cause.later in let rose = takes.cause failed in omega (arith, later, rose));
    answer = Err end.LinkFault;
    hears = refl;
    is = refl;
    whole = λ no. absurd (true≢false no);
    part = all_part (written request same puts takes);
  }

-- what was heard with an inbox that held nothing
pub saw_from : {x y : Option (List ℕ)} {P : List ℕ → Type 0} {old : List ℕ} → old ≡ [] → Saw x y old P → Saw x y [] P
saw_from {x} {y} {P} none saw = subst (λ (l : List ℕ). Saw x y l P) none saw

pub if_heard : {T E : Type 0} {P Q : T → Type 0} (result : Result T E) → IfOk result P → ((x : T) → P x → Q x) → IfOk result Q
if_heard (Ok x) p on = on x p
if_heard (Err e) p on = tt

-- it failed while the request was written
pub heard_nothing : (c : Codes) (w : Window) (a b : StreamView) {T E : Type 0} {error : E} (request : List ℕ) → request ≡ window_request c w → PutsAll {T = T} a b (Err error) request → HeardOn c w a b Lost
heard_nothing c w a b request same puts = record {
  taken = [];
  failed = true;
  lost = λ no. absurd (true≢false no);
  rose = λ yes. puts.cause.failed;
  answer = Err end.LinkFault;
  hears = refl;
  is = refl;
  whole = λ no. absurd (true≢false no);
  part = subst (WritesPart a.written b.written) same puts.part;
}
