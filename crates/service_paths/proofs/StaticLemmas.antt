-- A path finds the route whose text it is, where no route has a parameter.
use Rattle.std.proofs.Common.{◌≡◌, ℕ, zero, suc, ◌-◌, ◌≤◌, List, [], ◌∷◌, length, Option, Some, None, true, false, cond, refl, ap, ◌∙◌, arith, ◌==◌, ◌&&◌}
use Rattle.std.proofs.lemmas.Bool.Decides.{nat_tests}
use Rattle.matchit.specs.Rows.{RowsOf, param_token, catch_all_token}
use Rattle.matchit.specs.Order.{lookup}
use Rattle.matchit.specs.Seek.{own, step, or_else, seek, first, param_step, has_slash, same_text}
use Rattle.service_paths.specs.Routers.{IsStatic}

-- no route goes on with what is no byte
no_token : {K : Type 0} (x : ℕ) (rs : RowsOf K) → 256 ≤ x → IsStatic rs → step x rs ≡ []
no_token x [] h s = refl
no_token x (([], k) ∷ rest) h s = no_token x rest h s.1
no_token x ((y ∷ t, k) ∷ rest) h s =
    let below = s.0.0 in
    let e : (y == x) ≡ false = grind (arith, nat_tests, below) in
    rw e (no_token x rest h s.1)

-- what is left of the routes behind a byte has no parameter either
stays_static : {K : Type 0} (b : ℕ) (rs : RowsOf K) → IsStatic rs → IsStatic (step b rs)
stays_static b [] s = tt
stays_static b (([], k) ∷ rest) s = stays_static b rest s.1
stays_static {K} b ((y ∷ t, k) ∷ rest) s =
    elim (y == b) as (λ v. IsStatic {K = K} (cond v ((t, k) ∷ step b rest) (step b rest))) [
      | true ↦ (s.0.1, stays_static b rest s.1)
      | false ↦ stays_static b rest s.1
    ]

param_of_none : {K : Type 0} (p : List ℕ) → (param_step {K = K} [] p).1 ≡ []
unfolding param_step
param_of_none {K} p =
    elim (has_slash p) as (λ v. (cond {A = ℕ × RowsOf K} v (0, []) (length p, [])).1 ≡ []) [
      | true ↦ refl
      | false ↦ refl
    ]

-- where no route is left, none is found
seek_none : {K : Type 0} (n : ℕ) (p : List ℕ) → seek {K = K} n [] p ≡ None
unfolding seek
seek_none n [] = refl
seek_none (suc n) (b ∷ p) = seek_none n p
seek_none {K} zero (b ∷ p) =
    rw (seek_none {K = K} 0 p, param_of_none {K = K} (b ∷ p)) (rw (seek_none {K = K} ((param_step {K = K} [] (b ∷ p)).0 - 1) p) refl)

pub or_else_none : {K : Type 0} (a : Option K) → or_else a None ≡ a
or_else_none None = refl
or_else_none (Some k) = refl

-- a byte of the path goes on in the routes that have it
seek_byte : {K : Type 0} (rs : RowsOf K) (b : ℕ) (p : List ℕ) → IsStatic rs → seek 0 rs (b ∷ p) ≡ seek 0 (step b rs) p
unfolding seek
seek_byte {K} rs b p s =
    let no_param : step param_token rs ≡ [] = no_token param_token rs (omega arith) s in
    let no_catch : step catch_all_token rs ≡ [] = no_token catch_all_token rs (omega arith) s in
    rw (no_param, no_catch, param_of_none {K = K} (b ∷ p), seek_none {K = K} ((param_step {K = K} [] (b ∷ p)).0 - 1) p) (or_else_none (seek 0 (step b rs) p))

lookup_end : {K : Type 0} (rs : RowsOf K) → own rs ≡ lookup [] rs
lookup_end [] = refl
lookup_end (([], k) ∷ rest) = refl
lookup_end ((x ∷ t, k) ∷ rest) = lookup_end rest

-- and so does a look-up
lookup_byte : {K : Type 0} (rs : RowsOf K) (b : ℕ) (p : List ℕ) → lookup p (step b rs) ≡ lookup (b ∷ p) rs
lookup_byte [] b p = refl
lookup_byte (([], k) ∷ rest) b p = lookup_byte rest b p
lookup_byte ((x ∷ t, k) ∷ rest) b p =
    elim (x == b) as (λ v. lookup p (cond v ((t, k) ∷ step b rest) (step b rest)) ≡ cond (v && same_text t p) (Some k) (lookup (b ∷ p) rest)) [
      | true ↦ ap (λ o. cond (same_text t p) (Some k) o) (lookup_byte rest b p)
      | false ↦ lookup_byte rest b p
    ]

-- the route that a path matches is the one of its text
pub first-static : {K : Type 0} (rs : RowsOf K) (path : List ℕ) → IsStatic rs → first rs path ≡ lookup path rs
unfolding seek
first-static rs [] s = lookup_end rs
first-static rs (b ∷ p) s =
    seek_byte rs b p s ∙ first-static (step b rs) p (stays_static b rs s) ∙ lookup_byte rs b p
