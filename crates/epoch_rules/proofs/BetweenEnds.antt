-- Whether a set has an end between two.
use Rattle.std.proofs.Common.{◌≡◌, ◌∙◌, Bool, true, false, not, cond, ◌||◌, ◌⊎◌, inl, inr, List, [], ◌∷◌, filter, Option, Some, None, refl, sym, ap, Ordering}
use Rattle.std.specs.Option.{is_some}
use Rattle.std.specs.List.{list_any}
use Rattle.std.specs.Map.Iter.{TakesFirst}
use Rattle.std.specs.Ordering.{is_lt, is_le, ordering_reverse}
use Rattle.std.specs.declared.cmp.Ordering.TheVariants.{Less, Equal, Greater}
use Rattle.std.proofs.lemmas.Bool.{both_ways, and_parts}
use Rattle.epoch_rules.specs.declared.endings.Ending.{Ending}
use Rattle.epoch_rules.specs.Endings.{EndingParts, ending_cmp, parts_of_ending, is_between}
use Rattle.epoch_rules.proofs.EndingOrder.{endings_total}
use Rattle.epoch_rules.proofs.Members.{none_from}

abbrev is_there : {X : Type 0} → List X → Bool
is_there [] = false
is_there (x ∷ xs) = true

any_filter : {X : Type 0} (test : X → Bool) (xs : List X) → list_any test xs ≡ is_there (filter test xs)
any_filter test [] = refl
any_filter test (x ∷ xs) =
    elim (test x) as (λ b. (b || list_any test xs) ≡ is_there (cond b (x ∷ filter test xs) (filter test xs))) [
      | true ↦ refl
      | false ↦ any_filter test xs
    ]

-- the first of those that pass is there where one passes
pub first_taken : {A X : Type 0} (shows : A → X) (test : X → Bool) (all s t : List X) (r : Option A) → s ≡ filter test all → TakesFirst shows s r t → is_some r ≡ list_any test all
first_taken shows test all s t None is steps = sym (any_filter test all ∙ ap is_there (sym is ∙ steps.0))
first_taken shows test all s t (Some x) is steps = sym (any_filter test all ∙ ap is_there (sym is ∙ steps))

level_or_less : (o : Ordering) → is_le o ≡ true → (o ≡ Less) ⊎ (o ≡ Equal)
level_or_less Less h = inl refl
level_or_less Equal h = inr refl
level_or_less Greater h = cc

greater : (o : Ordering) → not (is_le o) ≡ true → o ≡ Greater
greater Less h = cc
greater Equal h = cc
greater Greater h = refl

-- between ends that aren't in order there is none
pub none_between : (low high : EndingParts) (ends : List Ending) → is_lt (ending_cmp low high) ≡ false → false ≡ list_any (λ q. is_between low high (parts_of_ending q)) ends
none_between low high ends h =
    sym
    (none_from (λ q. is_between low high (parts_of_ending q)) ends
    (λ q q_in between.
    let p = and_parts (is_le (ending_cmp low (parts_of_ending q))) (not (is_le (ending_cmp high (parts_of_ending q)))) between in
    let up : ending_cmp (parts_of_ending q) high ≡ Less = endings_total.antisymm (parts_of_ending q) high ∙ ap ordering_reverse (greater (ending_cmp high (parts_of_ending q)) p.1) in
    elim (level_or_less (ending_cmp low (parts_of_ending q)) p.0) [
      | inl less ↦ both_ways (is_lt (ending_cmp low high)) h (ap is_lt (endings_total.trans low (parts_of_ending q) high less up))
      | inr level ↦ both_ways (is_lt (ending_cmp low high)) h (ap is_lt (endings_total.congr low (parts_of_ending q) high level ∙ up))
    ]))
