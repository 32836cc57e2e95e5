-- How what is told of a stream goes on.
use Rattle.std.proofs.Common.{◌≡◌, ℕ, List, take, None, Some, Ok, Err, IsSome, sym, subst, arith, ◌∙◌, refl}
use Rattle.std.specs.declared.option.Option.{Option}
use Rattle.std.specs.Io.KnownBytes.{Consumes, Keeps}
use Rattle.streams.specs.Effects.{Grew, Takes, OnlyTakes}
use Rattle.streams.specs.View.{StreamView}
use Rattle.streams.specs.Laws.{TakesGoOn, PutsGoOn, GoOnTogether}

-- what is told of what is left is told still
still_told : (old new : Option (List ℕ)) (bytes : List ℕ) → Consumes old new bytes → IsSome old → IsSome new
still_told None new bytes lost is = absurd (cc)
still_told (Some xs) None bytes lost is = absurd lost
still_told (Some xs) (Some ys) bytes lost is = refl

still_kept : (old new : Option (List ℕ)) → Keeps old new → IsSome old → IsSome new
still_kept None new kept is = absurd (cc)
still_kept (Some xs) None kept is = absurd kept
still_kept (Some xs) (Some ys) kept is = refl

-- what was written and isn't told stays so
still_untold : (old new : Option (List ℕ)) (bytes : List ℕ) → Grew old new bytes → old ≡ None → new ≡ None
still_untold old None bytes grew is = refl
still_untold None (Some ys) bytes grew is = absurd grew
still_untold (Some xs) (Some ys) bytes grew is = absurd (cc)

pub takes_go_on : TakesGoOn
takes_go_on old new (Ok count) into t = record {
  later = t.cause.later;
  told = still_told old.left new.left (take count into) t.bytes.0;
  untold = λ is. t.kept ∙ is;
}
takes_go_on old new (Err e) into t = record {
  later = t.cause.later;
  told = still_kept old.left new.left t.bytes;
  untold = λ is. t.kept ∙ is;
}

pub puts_go_on : PutsGoOn
puts_go_on old new (Ok count) piece p = record {
  later = p.cause.later;
  told = λ is. subst IsSome (sym p.kept) is;
  untold = still_untold old.written new.written (take count piece) p.bytes;
}
puts_go_on old new (Err e) piece p = record {
  later = p.cause.later;
  told = λ is. subst IsSome (sym p.kept) is;
  untold = λ is. p.bytes ∙ is;
}

pub go_on_together : GoOnTogether
go_on_together old mid new g h = record {
  later = omega (arith, g.later, h.later);
  told = λ is. h.told (g.told is);
  untold = λ is. h.untold (g.untold is);
}

-- no take yet, and some takes behind others
pub no_take : (view : StreamView) → OnlyTakes view view ⊥
no_take view = record { kept = refl; later = omega arith; cause = absurd }

pub takes_then : (old mid new : StreamView) {First Then Failed : Type 0} → OnlyTakes old mid First → OnlyTakes mid new Then → (Failed → Then) → OnlyTakes old new Failed
takes_then old mid new g h why = record {
  kept = h.kept ∙ g.kept;
  later = omega (arith, g.later, h.later);
  cause = λ is. omega (arith, g.later, h.cause (why is));
}

-- a take that was done, behind some
pub take_then : (old mid new : StreamView) {First Failed E : Type 0} {count : ℕ} {into : List ℕ} → OnlyTakes old mid First → Takes {E = E} mid new (Ok count) into → (Failed → ⊥) → OnlyTakes old new Failed
take_then old mid new g t why = record {
  kept = t.kept ∙ g.kept;
  later = omega (arith, g.later, t.cause.later);
  cause = λ is. absurd (why is);
}
