-- From each worker's own history to the one that all share.
use Rattle.std.proofs.Common.{◌≡◌, ◌⊎◌, inl, inr, Bool, true, false, ◌||◌, ℕ, suc, ◌+◌, ◌-◌, ◌≤◌, ◌<◌, ◌^◌, nat_lt, List, [], ◌∷◌, length, map, slice_index_or, refl, sym, ◌∙◌, ap, subst, arith}
use Rattle.std.specs.List.{list_any, sum_by, AllZip, AllByRecursion}
use Rattle.std.proofs.lemmas.Bool.Decides.{nat_tests}
use Rattle.std.proofs.lemmas.List.Sums.{sum_by-append}
use mathlib.Core.List.{IsPrefix}
use Rattle.exact_time.specs.Causes.{Rose}
use Rattle.archive_entry.specs.declared.entry.Entry.{Entry}
use Rattle.desk_words.specs.Setting.{Setting}
use Rattle.desk_words.specs.Stand.{Stand}
use Rattle.link_ports.specs.Ports.{PortView, IsSpent}
use Rattle.centre_port.specs.Visits.{IsVisits, PortScene, ServesPort}
use Rattle.centre_port.proofs.Visits.{visits_extend}
use Rattle.centre_serve.specs.Rows.{WorkerRow, EndsPort}
use Rattle.centre_serve.specs.Whole.{PortVisits, IsServed, AreServed, AreSpent, OneRose, least_made, most_made, halted}

pub zip_each : {A : Type 0} (R : A → A → Type 0) (xs ys : List A) → length ys ≡ length xs → ((i : ℕ) (d : A) → i < length xs → R (slice_index_or xs i d) (slice_index_or ys i d)) → AllZip R xs ys
zip_each R [] [] e f = tt
zip_each R [] (y ∷ ys) e f = absurd (omega (arith, e))
zip_each R (x ∷ xs) [] e f = absurd (omega (arith, e))
zip_each R (x ∷ xs) (y ∷ ys) e f = (f 0 x (omega arith), zip_each R xs ys (omega (arith, e)) (λ i d lt. f (suc i) d (omega arith)))

pub sum_cons : {X : Type 0} (f : X → ℕ) (x : X) (xs : List X) → sum_by f (x ∷ xs) ≡ f x + sum_by f xs
sum_cons f x xs = let e = sum_by-append f (x ∷ []) xs in let one : sum_by f (x ∷ []) ≡ f x = omega arith in omega (arith, e, one)

pub sum_map : {A B : Type 0} (g : B → ℕ) (f : A → B) (xs : List A) → sum_by g (map f xs) ≡ sum_by (λ x. g (f x)) xs
sum_map g f [] = refl
sum_map g f (x ∷ xs) = omega (arith, sum_cons g (f x) (map f xs), sum_cons (λ y. g (f y)) x xs, sum_map g f xs)

pub map_map : {A B C : Type 0} (g : B → C) (f : A → B) (xs : List A) → map g (map f xs) ≡ map (λ x. g (f x)) xs
map_map g f [] = refl
map_map g f (x ∷ xs) = ap (λ w. g (f x) ∷ w) (map_map g f xs)

pub from_map : {A B : Type 0} (f : A → B) (P : B → Type 0) (xs : List A) → AllByRecursion P (map f xs) → AllByRecursion (λ x. P (f x)) xs
from_map f P [] all = tt
from_map f P (x ∷ xs) all = (all.0, from_map f P xs all.1)

-- a sum of which some part is above 0, or none
some_by : {X : Type 0} (f : X → ℕ) (x : X) (xs : List X) (b : Bool) → nat_lt 0 (f x) ≡ b → (list_any (λ y. nat_lt 0 (f y)) xs ≡ true → 0 < sum_by f xs)
    → b || list_any (λ y. nat_lt 0 (f y)) xs ≡ true → 0 < sum_by f (x ∷ xs)
some_by f x xs true first rest is = let lt : 0 < f x = grind (arith, nat_tests, first) in omega (arith, sum_cons f x xs)
some_by f x xs false first rest is = let more = rest is in omega (arith, sum_cons f x xs)

pub some_above : {X : Type 0} (f : X → ℕ) (xs : List X) → list_any (λ x. nat_lt 0 (f x)) xs ≡ true → 0 < sum_by f xs
some_above f [] is = absurd cc
some_above f (x ∷ xs) is = some_by f x xs (nat_lt 0 (f x)) refl (some_above f xs) is

none_by : {X : Type 0} (f : X → ℕ) (x : X) (xs : List X) (b : Bool) → nat_lt 0 (f x) ≡ b → (list_any (λ y. nat_lt 0 (f y)) xs ≡ false → sum_by f xs ≡ 0)
    → b || list_any (λ y. nat_lt 0 (f y)) xs ≡ false → sum_by f (x ∷ xs) ≡ 0
none_by f x xs true first rest is = absurd cc
none_by f x xs false first rest is = let zero_here : f x ≡ 0 = grind (arith, nat_tests, first) in let more = rest is in omega (arith, sum_cons f x xs)

pub none_above : {X : Type 0} (f : X → ℕ) (xs : List X) → list_any (λ x. nat_lt 0 (f x)) xs ≡ false → sum_by f xs ≡ 0
none_above f [] is = refl
none_above f (x ∷ xs) is = none_by f x xs (nat_lt 0 (f x)) refl (none_above f xs) is

-- a desk that has seen the opening history, and made nothing yet
pub record IsFresh (opening : List Entry) (s : Stand) : Type 0 where
  pub seen : s.seen ≡ opening
  pub made : s.made ≡ 0

abbrev visits_of : {b a : PortScene} {s : Setting} → ServesPort b a s → PortVisits
visits_of v = record { gave = v.gave; came = v.came; replies = v.replies }

ends_so : (b a : PortView) (failed : Bool) → EndsPort b a failed → IsSpent a.left ⊎ Rose b.faults a.faults
ends_so b a false e = inl e
ends_so b a true e = inr e

module _ (s : Setting) (h opening : List Entry) where
  served_over : (b a : PortScene) (failed : Bool) (v : ServesPort b a s) → EndsPort b.port a.port failed → IsFresh opening b.stand → IsPrefix a.stand.seen h → IsServed h (length opening) s b.port a.port (visits_of v)
  served_over b a failed v ended fresh p = record {
    left = v.left;
    back = v.back;
    are = subst (λ (n : ℕ). IsVisits h n s v.gave v.came v.replies) (ap length fresh.seen) (visits_extend a.stand.seen h (length b.stand.seen) s v.gave v.came v.replies p v.visits);
    later = v.later;
    ends = ends_so b.port a.port failed ended;
  }

  -- all workers, with what they made and how often they were stopped
  pub record Sum (befores afters : List PortView) (made stops : ℕ) (failed : Bool) : Type 0 where
    pub served : List PortVisits
    pub are : AreServed h (length opening) s befores afters served
    pub least : made < 2 ^ 64 - 1 → sum_by least_made served ≤ made
    pub most : made ≤ sum_by most_made served
    pub quiet : stops ≡ 0 → sum_by halted served ≡ 0
    pub spent : failed ≡ false → AreSpent afters
    pub rose : failed ≡ true → OneRose befores afters

  module _ {J : Type 0} (scene : J → PortScene) (failed : J → Bool) where
    abbrev port_of : J → PortView
    port_of j = (scene j).port

    pub gather : (xs ys : List J) → AllZip (λ x y. WorkerRow s (scene x) (scene y) (failed y)) xs ys → AllByRecursion (λ x. IsFresh opening (scene x).stand) xs
        → AllByRecursion (λ y. IsPrefix (scene y).stand.seen h) ys
        → Sum (map port_of xs) (map port_of ys) (sum_by (λ y. (scene y).stand.made) ys) (sum_by (λ y. (scene y).stand.stops) ys) (list_any failed ys)
    gather [] [] rows fresh begins = record {
      served = [];
      are = tt;
      least = λ lt. omega arith;
      most = omega arith;
      quiet = λ none. refl;
      spent = λ none. tt;
      rose = λ some. absurd cc;
    }
    gather [] (y ∷ ys) rows fresh begins = absurd rows
    gather (x ∷ xs) [] rows fresh begins = absurd rows
    gather (x ∷ xs) (y ∷ ys) rows fresh begins =
        let rest = gather xs ys rows.1 fresh.1 begins.1 in
        let serves = rows.0.serves in
        let v = visits_of serves in
        let none = fresh.0.made in
        let one = sum_cons (λ z. (scene z).stand.made) y ys in
        let two = sum_cons (λ z. (scene z).stand.stops) y ys in
        record {
          served = v ∷ rest.served;
          are = (served_over (scene x) (scene y) (failed y) serves rows.0.ends fresh.0 begins.0, rest.are);
          least = λ lt. let low = serves.made.at_least in let more = rest.least (omega (arith, one)) in omega (arith, one, sum_cons least_made v rest.served);
          most = (let high = serves.made.at_most in let more = rest.most in omega (arith, one, sum_cons most_made v rest.served));
          quiet = λ zero_stops. let low = serves.stops.at_least in let more = rest.quiet (omega (arith, two)) in omega (arith, two, sum_cons halted v rest.served);
          spent = spent_by (failed y) refl rest.spent rows.0.ends;
          rose = rose_by (failed y) refl rest.rose rows.0.ends;
        }
      where
        spent_by : (b : Bool) → failed y ≡ b → (list_any failed ys ≡ false → AreSpent (map port_of ys)) → EndsPort (port_of x) (port_of y) (failed y)
            → list_any failed (y ∷ ys) ≡ false → AreSpent (map port_of (y ∷ ys))
        spent_by true is more e none = absurd (let f = sym (ap (λ (b : Bool). b || list_any failed ys) is) ∙ none in cc)
        spent_by false is more e none = (subst (λ (b : Bool). EndsPort (port_of x) (port_of y) b) is e, more (sym (ap (λ (b : Bool). b || list_any failed ys) is) ∙ none))

        rose_by : (b : Bool) → failed y ≡ b → (list_any failed ys ≡ true → OneRose (map port_of xs) (map port_of ys)) → EndsPort (port_of x) (port_of y) (failed y)
            → list_any failed (y ∷ ys) ≡ true → OneRose (map port_of (x ∷ xs)) (map port_of (y ∷ ys))
        rose_by true is more e some = inl (subst (λ (b : Bool). EndsPort (port_of x) (port_of y) b) is e)
        rose_by false is more e some = inr (more (sym (ap (λ (b : Bool). b || list_any failed ys) is) ∙ some))
