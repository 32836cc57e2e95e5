-- Which of the rows that have arrived are held.
use Rattle.std.proofs.Common.{◌≡◌, ◌↔◌, ◌∙◌, Bool, true, false, not, cond, List, [], ◌∷◌, map, filter, refl, sym, ap, inl, inr, arith}
use Rattle.std.specs.Prelude.{Contains}
use Rattle.std.specs.List.{list_any}
use Rattle.std.proofs.lemmas.Bool.{not-true}
use Rattle.std.proofs.lemmas.List.Elements.{All-contains, All-contains_itself, All-filter, Contains-append_cases, Contains-append_left, Contains-append_right, Contains-push, Contains-push_cases, filter_passes}
use Rattle.epochs.specs.declared.kinds.LineKind.TheVariants.{Wdr}
use Rattle.epochs.specs.declared.line.Line.{Line}
use Rattle.epochs.specs.Lines.{LineValues}
use Rattle.epochs.specs.Views.{values_of_line}
use Rattle.epoch_rules.specs.Rules.{is_line_of}
use Rattle.mseed_header.specs.declared.row.Row.{Row}
use Rattle.dataselect.proofs.Fewer.{among, rises, stands}
use Rattle.access_digest.specs.Access.{is_withdrawn}
use Rattle.access_digest.proofs.Isolation.{without_withdrawals}
use Rattle.access_digest.proofs.Spared.{spared_decides}
use Rattle.archive_entry.specs.declared.entry.Entry.{Entry}
use Rattle.archive_state.specs.HeldLaw.{IsHeld, StandAmong}
use Rattle.archive_state.specs.History.{live_of, arrived_of, held_of}

-- an element that passes is among those that pass
passing_kept : {X : Type 0} (p : X → Bool) (xs : List X) (x : X) → p x ≡ true → Contains xs x → Contains (filter p xs) x
passing_kept p [] x passes there = absurd (omega (arith, there.1))
passing_kept p (y ∷ xs) x passes there =
    elim (Contains-append_cases (y ∷ []) xs x there) [
      | inl first ↦ elim (Contains-push_cases [] y x first) [
        | inl none ↦ absurd (omega (arith, none.1))
        | inr same ↦ rw (ap p same ∙ passes) (rw (sym same) (Contains-append_left (y ∷ []) (filter p xs) y (Contains-push [] y)))
      ]
      | inr later ↦ elim (p y) as (λ b. Contains (cond b (y ∷ filter p xs) (filter p xs)) x) [
        | true ↦ Contains-append_right (y ∷ []) (filter p xs) x (passing_kept p xs x passes later)
        | false ↦ passing_kept p xs x passes later
      ]
    ]

-- a list of which no element fails is all of it
all_pass : {X : Type 0} (p : X → Bool) → ((x : X) → p x ≡ true) → (xs : List X) → filter p xs ≡ xs
all_pass p each [] = refl
all_pass p each (x ∷ xs) = λ i. cond (each x i) (x ∷ all_pass p each xs i) (all_pass p each xs i)

pub held_decides : (h : List Entry) (lines : List Line) (row : Row) → map values_of_line lines ≡ live_of h → Contains (held_of h) row ↔ IsHeld h lines row
held_decides h lines row are =
    let live = live_of h in
    let all = arrived_of h in
    let kept : Row → Bool = λ r. not (is_withdrawn live r) in
    let decides = spared_decides lines row in
    let same : is_withdrawn (map values_of_line lines) row ≡ is_withdrawn live row = ap (λ (ls : List LineValues). is_withdrawn ls row) are in (
      λ there. record {
        arrived = All-contains (Contains all) (filter kept all) row (All-filter kept (Contains all) all (All-contains_itself all)) there;
        spared = decides.0 (same ∙ not-true (is_withdrawn live row) (All-contains (λ r. kept r ≡ true) (filter kept all) row (filter_passes kept all) there));
      },
      λ is. passing_kept kept all row (ap not (sym same ∙ decides.1 is.spared)) is.arrived,
    )

pub held_among : (h : List Entry) → StandAmong (held_of h) (arrived_of h)
held_among h =
    let kept : Row → Bool = λ row. not (is_withdrawn (live_of h) row) in
    record { place = among kept (arrived_of h); rises = rises kept (arrived_of h); each = stands kept (arrived_of h) }

-- without a live withdrawal
pub all_held : (h : List Entry) → list_any (is_line_of Wdr) (live_of h) ≡ false → held_of h ≡ arrived_of h
all_held h none = all_pass (λ row. not (is_withdrawn (live_of h) row)) (λ row. ap not (without_withdrawals (live_of h) row none)) (arrived_of h)
