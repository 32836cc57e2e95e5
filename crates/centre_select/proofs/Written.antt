-- Bytes of which a front is written, and the rest waits.
use Rattle.std.proofs.Common.{◌≡◌, ℕ, List, [], ◌++◌, refl, sym, ap, ◌∙◌, arith, None, Some, Ok, Err, Result, IsErr, true≢false, append_assoc}
use Rattle.std.specs.declared.option.Option.{Option}
use Rattle.std.proofs.lemmas.List.{append-nil}
use Rattle.streams.specs.Effects.{Grew, HasPut, PutsAll, WritesPart}
use Rattle.streams.specs.View.{StreamView}
use Rattle.streams.proofs.Grows.{Grew-then}
use Rattle.centre_select.specs.Output.{PutsFront}

-- a front of the bytes was written, and the rest waits
pub record Waits (old now : StreamView) (bytes rest : List ℕ) : Type 0 where
  pub front : List ℕ
  pub split : bytes ≡ front ++ rest
  pub put : HasPut old now front

Grew-nothing : (a : Option (List ℕ)) → Grew a a []
Grew-nothing None = tt
Grew-nothing (Some xs) = sym (append-nil xs)

-- nothing is written, and nothing waits
pub nothing_waits : (v : StreamView) → Waits v v [] []
nothing_waits v = record { front = []; split = refl; put = record { output = Grew-nothing v.written; kept = refl; later = omega arith } }

-- part of some bytes, which others came before and others come behind
part_between : (a b c : Option (List ℕ)) (front more tail all : List ℕ) → Grew a b front → WritesPart b c more → all ≡ front ++ (more ++ tail) → WritesPart a c all
part_between a b c front more tail all grew written whole = record {
  part = front ++ written.part;
  rest = written.rest ++ tail;
  split = whole ∙ ap (λ (xs : List ℕ). front ++ (xs ++ tail)) written.split ∙ ap (λ (xs : List ℕ). front ++ xs) (append_assoc written.part written.rest tail) ∙ sym (append_assoc front written.part (written.rest ++ tail));
  output = Grew-then a b c front written.part grew written.output;
}

-- what waits is kept, with more behind it
pub front_kept : {T E : Type 0} (v : StreamView) (value : T) (bytes : List ℕ) → PutsFront {E = E} v v (Ok value) bytes bytes
front_kept v value bytes = record {
  ok = ([], refl, Grew-nothing v.written);
  part = tt;
  kept = refl;
  cause = record { later = omega arith; failed = tt };
}

-- what waited is written, and more waits
pub front_written : {S F T E : Type 0} (a b : StreamView) (done : S) (value : T) (bytes more : List ℕ) → PutsAll {E = F} a b (Ok done) bytes → PutsFront {E = E} a b (Ok value) (bytes ++ more) more
front_written a b done value bytes more puts = record {
  ok = (bytes, refl, puts.ok);
  part = tt;
  kept = puts.kept;
  cause = record { later = puts.cause.later; failed = tt };
}

-- what waited was written in part alone
pub front_cut : {S T F E : Type 0} (a b : StreamView) (fault : F) (result : Result T E) (bytes more rest : List ℕ) → IsErr result → PutsAll {T = S} a b (Err fault) bytes → PutsFront a b result (bytes ++ more) rest
front_cut a b fault (Ok value) bytes more rest is puts = absurd (true≢false (sym is))
front_cut a b fault (Err error) bytes more rest is puts = record {
  ok = tt;
  part = part_between a.written a.written b.written [] bytes more (bytes ++ more) (Grew-nothing a.written) puts.part refl;
  kept = puts.kept;
  cause = record { later = puts.cause.later; failed = puts.cause.failed };
}

-- a row's bytes more
pub waits_more : {T E : Type 0} (a b c : StreamView) (value : T) (bytes waiting image rest : List ℕ) → Waits a b bytes waiting → PutsFront {E = E} b c (Ok value) (waiting ++ image) rest → Waits a c (bytes ++ image) rest
waits_more a b c value bytes waiting image rest before puts = record {
  front = before.front ++ puts.ok.0;
  split = ap (λ (xs : List ℕ). xs ++ image) before.split ∙ append_assoc before.front waiting image ∙ ap (λ (xs : List ℕ). before.front ++ xs) puts.ok.1 ∙ sym (append_assoc before.front puts.ok.0 rest);
  put = record {
    output = Grew-then a.written b.written c.written before.front puts.ok.0 before.put.output puts.ok.2;
    kept = puts.kept ∙ before.put.kept;
    later = omega (arith, before.put.later, puts.cause.later);
  };
}

-- a row's bytes were written in part alone
pub waits_cut : {T R E F : Type 0} (a b c : StreamView) (fault : F) (result : Result R E) (bytes waiting image rest tail all : List ℕ) → IsErr result → Waits a b bytes waiting → PutsFront {T = T} b c (Err fault) (waiting ++ image) rest
    → all ≡ (bytes ++ image) ++ tail → PutsAll a c result all
waits_cut a b c fault (Ok value) bytes waiting image rest tail all is before puts whole = absurd (true≢false (sym is))
waits_cut a b c fault (Err error) bytes waiting image rest tail all is before puts whole = record {
  ok = tt;
  part = part_between a.written b.written c.written before.front (waiting ++ image) tail all before.put.output puts.part
      (whole ∙ ap (λ (xs : List ℕ). (xs ++ image) ++ tail) before.split ∙ ap (λ (xs : List ℕ). xs ++ tail) (append_assoc before.front waiting image) ∙ append_assoc before.front (waiting ++ image) tail);
  kept = puts.kept ∙ before.put.kept;
  cause = record { later = omega (arith, before.put.later, puts.cause.later); failed = omega (arith, before.put.later, puts.cause.failed) };
}

-- what waits in the end is written, or a part of it
pub waits_ended : {T E : Type 0} (a b c : StreamView) (result : Result T E) (bytes waiting : List ℕ) → Waits a b bytes waiting → PutsAll b c result waiting → PutsAll a c result bytes
waits_ended a b c (Ok value) bytes waiting before puts = record {
  ok = rw before.split (Grew-then a.written b.written c.written before.front waiting before.put.output puts.ok);
  part = tt;
  kept = puts.kept ∙ before.put.kept;
  cause = record { later = omega (arith, before.put.later, puts.cause.later); failed = tt };
}
waits_ended a b c (Err error) bytes waiting before puts = record {
  ok = tt;
  part = part_between a.written b.written c.written before.front waiting [] bytes before.put.output puts.part (before.split ∙ ap (λ (xs : List ℕ). before.front ++ xs) (sym (append-nil waiting)));
  kept = puts.kept ∙ before.put.kept;
  cause = record { later = omega (arith, before.put.later, puts.cause.later); failed = omega (arith, before.put.later, puts.cause.failed) };
}
