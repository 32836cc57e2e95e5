-- A head and a body are written one after the other.
use Rattle.std.proofs.Common.{◌≡◌, List, ◌++◌, ℕ, Ok, Err, Result, IsErr, sym, ◌∙◌, ap, subst, arith, true≢false, append_assoc}
use Rattle.streams.specs.Effects.{Grew, PutsAll}
use Rattle.streams.specs.View.{StreamView}
use Rattle.streams.proofs.Grows.{Grew-then}

module _ {T E F : Type 0} where
  -- both were written
  pub whole : (a b c : StreamView) (x y head body : List ℕ) → x ≡ head → y ≡ body → {one two end : T} → PutsAll {E = E} a b (Ok one) x → PutsAll {E = E} b c (Ok two) y → PutsAll {E = F} a c (Ok end) (head ++ body)
  whole a b c x y head body is_head is_body g h = record {
    ok = Grew-then a.written b.written c.written head body (subst (Grew a.written b.written) is_head g.ok) (subst (Grew b.written c.written) is_body h.ok);
    part = tt;
    kept = h.kept ∙ g.kept;
    cause = record { later = omega (arith, g.cause.later, h.cause.later); failed = tt };
  }

  -- the head was written in part
  pub in_head : (a b : StreamView) (x head body : List ℕ) (result : Result T F) → IsErr result → x ≡ head → {error : E} → PutsAll {T = T} a b (Err error) x → PutsAll a b result (head ++ body)
  in_head a b x head body (Ok end) is is_head g = absurd (true≢false (sym is))
  in_head a b x head body (Err e) is is_head g = record {
    ok = tt;
    part = record {
      part = g.part.part;
      rest = g.part.rest ++ body;
      split = ap (λ (s : List ℕ). s ++ body) (sym is_head ∙ g.part.split) ∙ append_assoc g.part.part g.part.rest body;
      output = g.part.output;
    };
    kept = g.kept;
    cause = record { later = g.cause.later; failed = g.cause.failed };
  }

  -- the head was written, and the body in part
  pub in_body : (a b c : StreamView) (x y head body : List ℕ) (result : Result T F) → IsErr result → x ≡ head → y ≡ body → {one : T} {error : E} → PutsAll {E = E} a b (Ok one) x → PutsAll {T = T} b c (Err error) y → PutsAll a c result (head ++ body)
  in_body a b c x y head body (Ok end) is is_head is_body g h = absurd (true≢false (sym is))
  in_body a b c x y head body (Err e) is is_head is_body g h = record {
    ok = tt;
    part = record {
      part = head ++ h.part.part;
      rest = h.part.rest;
      split = ap (λ (s : List ℕ). head ++ s) (sym is_body ∙ h.part.split) ∙ sym (append_assoc head h.part.part h.part.rest);
      output = Grew-then a.written b.written c.written head h.part.part (subst (Grew a.written b.written) is_head g.ok) h.part.output;
    };
    kept = h.kept ∙ g.kept;
    cause = record { later = omega (arith, g.cause.later, h.cause.later); failed = omega (arith, g.cause.later, h.cause.failed) };
  }
