-- How a service ends, from what its workers and the closed hall say.
use Rattle.std.proofs.Common.{◌≡◌, ◌∙◌, refl, sym, ap, subst, arith, Bool, true, false, ℕ, ◌+◌, ◌≤◌, List, [], ◌∷◌, ◌++◌, length, map, take, drop, Result, Err}
use Rattle.std.proofs.lemmas.List.{take-append-drop}
use Rattle.std.specs.List.{list_any, sum_by, AllZip, AllByRecursion}
use mathlib.Core.List.{IsPrefix}
use Rattle.archive_entry.specs.declared.entry.Entry.{Entry}
use Rattle.desk_words.specs.Setting.{Setting}
use Rattle.disk_model.specs.View.{DiskView, is_told}
use Rattle.link_ports.specs.Ports.{PortView}
use Rattle.snapshot_hall.specs.Ends.{Closed}
use Rattle.two_copies.specs.Tallies.{Tally}
use Rattle.centre_port.specs.Visits.{PortScene}
use Rattle.centre_serve.proofs.Whole.{IsFresh, Sum, gather, sum_cons, sum_map, from_map, some_above, none_above}
use Rattle.centre_serve.specs.Rows.{WorkerRow, was_stopped}
use Rattle.centre_serve.specs.Service.{Site, site, Serving, IsCalm, StartedRow}
use Rattle.centre_serve.specs.Stops.{ending_of}
use Rattle.centre_serve.specs.declared.ending.ServeStop.{ServeStop}
use Rattle.centre_serve.specs.declared.ending.ServeStop.TheVariants.{OutOfMemory}
use Rattle.centre_serve.specs.Whole.{AllServed}

sum_same : {X : Type 0} (f g : X → ℕ) (xs : List X) → ((x : X) → f x ≡ g x) → sum_by f xs ≡ sum_by g xs
sum_same f g [] is = refl
sum_same f g (x ∷ xs) is = omega (arith, sum_cons f x xs, sum_cons g x xs, is x, sum_same f g xs is)

sum_below : {X : Type 0} (f g : X → ℕ) (xs : List X) → ((x : X) → f x ≤ g x) → sum_by f xs ≤ sum_by g xs
sum_below f g [] is = omega arith
sum_below f g (x ∷ xs) is = omega (arith, sum_cons f x xs, sum_cons g x xs, is x, sum_below f g xs is)

pub all_by : {X : Type 0} (P Q : X → Type 0) (xs : List X) → ((x : X) → P x → Q x) → AllByRecursion P xs → AllByRecursion Q xs
all_by P Q [] each all = tt
all_by P Q (x ∷ xs) each all = (each x all.0, all_by P Q xs each all.1)

prefix_of : (opening h : List Entry) → take (length opening) h ≡ opening → IsPrefix opening h
prefix_of opening h is = (drop (length opening) h, ap (λ (w : List Entry). w ++ drop (length opening) h) (sym is) ∙ take-append-drop (length opening) h)

-- the same under equal names of what is known of the opening
pub as_opened : (s : Setting) (before after : Site) (opening other : List Entry) (faults more : ℕ) (ending : Result (Unit {0}) ServeStop) → opening ≡ other → faults ≡ more
    → StartedRow s before after opening faults ending → StartedRow s before after other more ending
as_opened s before after opening other faults more ending same_opening same_faults row =
    subst (λ (n : ℕ). StartedRow s before after other n ending) same_faults (subst (λ (h : List Entry). StartedRow s before after h faults ending) same_opening row)

-- a service that ended didn't run short
pub not_short : (halt any : Bool) → ending_of halt any ≡ Err OutOfMemory → ⊥
not_short true any e = cc
not_short false true e = cc
not_short false false e = cc

module _ {J D P : Type 0} (scene : J → PortScene) (failed : J → Bool) (place : J → P) (seen : P → List Entry) (counted : P → Tally) (view : D → DiskView)
    (s : Setting) (opening : List Entry) (told : Bool) (faults : ℕ) (xs ys : List J) (disk : D) (was : DiskView)
    (rows : AllZip (λ x y. WorkerRow s (scene x) (scene y) (failed y)) xs ys) (fresh : AllByRecursion (λ x. IsFresh opening (scene x).stand) xs)
    (closed : Closed view told faults opening seen counted (map place ys) disk)
    (seen_is : (y : J) → (scene y).stand.seen ≡ seen (place y)) (made_is : (y : J) → (scene y).stand.made ≡ (counted (place y)).made)
    (stops_is : (y : J) → (scene y).stand.stops ≤ (counted (place y)).stops)
    (told_is : told ≡ is_told was) (tells : is_told (view disk) ≡ told) where
  abbrev port_of : J → PortView
  port_of j = (scene j).port

  abbrev h : List Entry
  h = closed.history

  begins : AllByRecursion (λ y. IsPrefix (scene y).stand.seen h) ys
  begins =
      all_by (λ y. IsPrefix (seen (place y)) h) (λ y. IsPrefix (scene y).stand.seen h) ys (λ y p. subst (λ (l : List Entry). IsPrefix l h) (sym (seen_is y)) p)
      (from_map place (λ p. IsPrefix (seen p) h) ys closed.begins)

  abbrev sums : Sum s h opening (map port_of xs) (map port_of ys) (sum_by (λ y. (scene y).stand.made) ys) (sum_by (λ y. (scene y).stand.stops) ys) (list_any failed ys)
  sums = gather s h opening scene failed xs ys rows fresh begins

  total : length h ≡ length opening + sum_by (λ y. (scene y).stand.made) ys
  total = omega (arith, closed.made, sum_map (λ p. (counted p).made) place ys, sum_same (λ y. (scene y).stand.made) (λ y. (counted (place y)).made) ys made_is)

  all : AllServed h (length opening) s (map port_of xs) (map port_of ys)
  all = record {
    served = sums.served;
    are = sums.are;
    least = (let low = sums.least (omega (arith, total, closed.few)) in omega (arith, total));
    most = (let high = sums.most in omega (arith, total));
  }

  serving : Serving s (site was (map port_of xs)) (site (view disk) (map port_of ys)) opening
  serving = record {
    history = h;
    lawful = closed.lawful;
    begins = prefix_of opening h closed.began;
    all = all;
    left = closed.left;
    images = λ t. closed.images (told_is ∙ t);
    keeps = λ t. closed.keeps (told_is ∙ t);
    tells = tells ∙ told_is;
  }

  places_stops : sum_by (λ p. (counted p).stops) (map place ys) ≡ sum_by (λ y. (counted (place y)).stops) ys
  places_stops = sum_map (λ p. (counted p).stops) place ys

  calm : list_any (λ y. was_stopped (counted (place y))) ys ≡ false → IsCalm serving
  unfolding serving all
  calm none =
      let zero_stops = none_above (λ y. (counted (place y)).stops) ys none in
      record {
        nothing_left = closed.calm (places_stops ∙ zero_stops);
        no_stop = sums.quiet (omega (arith, zero_stops, sum_below (λ y. (scene y).stand.stops) (λ y. (counted (place y)).stops) ys stops_is));
      }

  by_ends : (halt any : Bool) → halt ≡ list_any (λ y. was_stopped (counted (place y))) ys → any ≡ list_any failed ys
      → StartedRow s (site was (map port_of xs)) (site (view disk) (map port_of ys)) opening faults (ending_of halt any)
  by_ends true any halts fails = (serving, closed.stops (omega (arith, places_stops, some_above (λ y. (counted (place y)).stops) ys (sym halts))))
  by_ends false true halts fails = (serving, calm (sym halts), sums.rose (sym fails))
  by_ends false false halts fails = (serving, calm (sym halts), sums.spent (sym fails))

  pub finish : (halt any : Bool) (befores afters : List PortView) → halt ≡ list_any (λ y. was_stopped (counted (place y))) ys → any ≡ list_any failed ys → befores ≡ map port_of xs → afters ≡ map port_of ys
      → StartedRow s (site was befores) (site (view disk) afters) opening faults (ending_of halt any)
  finish halt any befores afters halts fails before after =
      subst (λ (ps : List PortView). StartedRow s (site was ps) (site (view disk) afters) opening faults (ending_of halt any)) (sym before)
      (subst (λ (ps : List PortView). StartedRow s (site was (map port_of xs)) (site (view disk) ps) opening faults (ending_of halt any)) (sym after) (by_ends halt any halts fails))
