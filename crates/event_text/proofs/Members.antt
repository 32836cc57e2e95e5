-- Which events stand among those in order.
use Rattle.std.proofs.Common.{◌≡◌, ◌⊎◌, inl, inr, ◌↔◌, zero, suc, Bool, true, false, cond, List, [], ◌∷◌, filter, refl, sym, ap, subst, ◌∙◌, arith}
use Rattle.std.specs.Bool.{⊤}
use Rattle.std.proofs.lemmas.Bool.{true≢false}
use Rattle.std.proofs.lemmas.List.Kept.{IsStrictlySortedBy-filter}
use Rattle.std.specs.BTreeSet.{insert_key}
use Rattle.std.specs.Cmp.{IsTotalOrder}
use Rattle.std.specs.Cmp.Lexicographic.{options_total}
use Rattle.std.specs.List.{Contains, AllByRecursion}
use Rattle.std.specs.List.Sorted.{IsStrictlySortedBy}
use Rattle.std.specs.Ordering.{ordering_then, ordering_reverse, match_ordering}
use Rattle.std.specs.declared.cmp.Ordering.{Ordering}
use Rattle.std.specs.declared.cmp.Ordering.TheVariants.{Less, Equal, Greater}
use Rattle.std.proofs.lemmas.Cmp.{back_total, then_total, int_cmp_total}
use Rattle.list_laws.specs.InOrder.{in_order}
use Rattle.list_laws.proofs.Keys.{all_in_order, sorted_in_order}
use Rattle.epochs.specs.Lines.{LineValues}
use Rattle.epoch_rules.specs.KeyOrder.{line_cmp}
use Rattle.epoch_rules.proofs.Orders.{total_on, lines_total}
use Rattle.query_parameters.specs.declared.order.EventOrder.{EventOrder}
use Rattle.query_parameters.specs.declared.order.EventOrder.TheVariants.{TimeDown, TimeUp, MagnitudeDown, MagnitudeUp}
use Rattle.query_words.specs.declared.event.EventQuery.{EventQuery}
use Rattle.event_text.specs.Events.{EventValues, event_of, is_event_asked, asked_events}
use Rattle.event_text.specs.Orders.{front_cmp, event_cmp, ordered_events}

front_total : (order : EventOrder) → IsTotalOrder (front_cmp order)
front_total TimeDown = back_total (total_on (λ (v : EventValues). v.time) int_cmp_total)
front_total TimeUp = total_on (λ (v : EventValues). v.time) int_cmp_total
front_total MagnitudeDown = back_total (total_on (λ (v : EventValues). v.magnitude) (options_total int_cmp_total))
front_total MagnitudeUp = total_on (λ (v : EventValues). v.magnitude) (options_total int_cmp_total)

pub events_total : (order : EventOrder) → IsTotalOrder (event_cmp order)
events_total order = then_total (total_on event_of (front_total order)) lines_total

module _ {X : Type 0} where
  in_here : (x : X) (xs : List X) → Contains (x ∷ xs) x
  in_here x xs = (0, omega arith, refl)

  in_there : (y x : X) (xs : List X) → Contains xs x → Contains (y ∷ xs) x
  in_there y x xs h = (suc h.0, omega (arith, h.1), h.2)

  in_cases : (y x : X) (xs : List X) → Contains (y ∷ xs) x → (y ≡ x) ⊎ Contains xs x
  in_cases y x xs (zero, lt, e) = inl e
  in_cases y x xs (suc k, lt, e) = inr (k, omega (arith, lt), e)

  in_none : (x : X) → Contains [] x → ⊥
  in_none x h = omega (arith, h.1)

  all_in : (P : X → Type 0) (xs : List X) → AllByRecursion P xs → (x : X) → Contains xs x → P x
  all_in P [] all x h = absurd (in_none x h)
  all_in P (y ∷ xs) all x h = elim (in_cases y x xs h) [ inl e ↦ subst P e all.0 | inr more ↦ all_in P xs all.1 x more ]

  all_weaker : (P Q : X → Type 0) → ((x : X) → P x → Q x) → (xs : List X) → AllByRecursion P xs → AllByRecursion Q xs
  all_weaker P Q f [] all = tt
  all_weaker P Q f (x ∷ xs) all = (f x all.0, all_weaker P Q f xs all.1)

  each_in : (xs : List X) → AllByRecursion (Contains xs) xs
  each_in [] = tt
  each_in (x ∷ xs) = (in_here x xs, all_weaker (Contains xs) (Contains (x ∷ xs)) (λ y h. in_there x y xs h) xs (each_in xs))

  module _ (p : X → Bool) where
    all_left : (P : X → Type 0) (xs : List X) → AllByRecursion P xs → AllByRecursion (λ x. P x × (p x ≡ true)) (filter p xs)
    all_left P [] all = tt
    all_left P (x ∷ xs) all =
        elim (p x) as (λ b. p x ≡ b → AllByRecursion (λ x. P x × (p x ≡ true)) (cond b (x ∷ filter p xs) (filter p xs))) [
          | true ↦ λ e. ((all.0, e), all_left P xs all.1)
          | false ↦ λ e. all_left P xs all.1
        ] refl

    in_left : (x : X) (xs : List X) → Contains xs x → p x ≡ true → Contains (filter p xs) x
    in_left x [] h is = absurd (in_none x h)
    in_left x (y ∷ xs) h is =
        elim (p y) as (λ b. p y ≡ b → Contains (cond b (y ∷ filter p xs) (filter p xs)) x) [
          | true ↦ λ e. elim (in_cases y x xs h) [ inl same ↦ subst (λ z. Contains (y ∷ filter p xs) z) same (in_here y (filter p xs)) | inr more ↦ in_there y x (filter p xs) (in_left x xs more is) ]
          | false ↦ λ e. elim (in_cases y x xs h) [
            | inl same ↦ absurd (true≢false (sym is ∙ ap p (sym same) ∙ e))
            | inr more ↦ in_left x xs more is
          ]
        ] refl

-- keys of which no two stand equal are all there, in order
module _ {K : Type 0} (cmp : K → K → Ordering) where
  in_inserted : (ks : List K) (k e : K) → Contains ks e → Contains (insert_key cmp ks k) e
  in_inserted [] k e h = absurd (in_none e h)
  in_inserted (x ∷ xs) k e h =
      elim (cmp k x) as (λ o. Contains (match_ordering o (k ∷ x ∷ xs) (x ∷ xs) (x ∷ insert_key cmp xs k)) e) [
        | Less ↦ in_there k e (x ∷ xs) h
        | Equal ↦ h
        | Greater ↦ elim (in_cases x e xs h) [ inl same ↦ subst (λ z. Contains (x ∷ insert_key cmp xs k) z) same (in_here x (insert_key cmp xs k)) | inr more ↦ in_there x e (insert_key cmp xs k) (in_inserted xs k e more) ]
      ]

  in_new : (ks : List K) (k : K) → AllByRecursion (λ x. cmp k x ≡ Equal → ⊥) ks → Contains (insert_key cmp ks k) k
  in_new [] k apart = in_here k []
  in_new (x ∷ xs) k apart =
      elim (cmp k x) as (λ o. cmp k x ≡ o → Contains (match_ordering o (k ∷ x ∷ xs) (x ∷ xs) (x ∷ insert_key cmp xs k)) k) [
        | Less ↦ λ e. in_here k (x ∷ xs)
        | Equal ↦ λ e. absurd (apart.0 e)
        | Greater ↦ λ e. in_there x k (insert_key cmp xs k) (in_new xs k apart.1)
      ] refl

  abbrev AreApart : List K → List K → Type 0
  AreApart done [] = ⊤
  AreApart done (k ∷ keys) = AllByRecursion (λ x. cmp k x ≡ Equal → ⊥) done × AllByRecursion (λ l. cmp l k ≡ Equal → ⊥) keys × AreApart done keys

  apart_more : (done keys : List K) (k : K) → AreApart done keys → AllByRecursion (λ l. cmp l k ≡ Equal → ⊥) keys → AreApart (insert_key cmp done k) keys
  apart_more done [] k apart new = tt
  apart_more done (l ∷ keys) k apart new = (all_in_order cmp (λ x. cmp l x ≡ Equal → ⊥) done (k ∷ []) apart.0 (new.0, tt), apart.1, apart_more done keys k apart.2 new.1)

  stays : (done keys : List K) (e : K) → Contains done e → Contains (in_order cmp done keys) e
  stays done [] e h = h
  stays done (k ∷ keys) e h = stays (insert_key cmp done k) keys e (in_inserted done k e h)

  comes : (done keys : List K) (e : K) → AreApart done keys → Contains keys e → Contains (in_order cmp done keys) e
  comes done [] e apart h = absurd (in_none e h)
  comes done (k ∷ keys) e apart h =
      elim (in_cases k e keys h) [
        | inl same ↦ subst (λ z. Contains (in_order cmp (insert_key cmp done k) keys) z) same (stays (insert_key cmp done k) keys k (in_new done k apart.0))
        | inr more ↦ comes (insert_key cmp done k) keys e (apart_more done keys k apart.2 apart.1) more
      ]

ties : (o r : Ordering) → ordering_then o r ≡ Equal → r ≡ Equal
ties Less r h = cc
ties Equal r h = h
ties Greater r h = cc

different : (order : EventOrder) (x l : LineValues) → line_cmp x l ≡ Less → event_cmp order l x ≡ Equal → ⊥
different order x l h k =
    let tied = ties (front_cmp order (event_of l) (event_of x)) (line_cmp l x) k in
    let other : line_cmp x l ≡ Equal = lines_total.antisymm x l ∙ ap ordering_reverse tied in
    let e : Less ≡ Equal = sym h ∙ other in
    cc

lines_apart : (order : EventOrder) (xs : List LineValues) → IsStrictlySortedBy line_cmp xs → AreApart (event_cmp order) [] xs
unfolding IsStrictlySortedBy
lines_apart order [] up = tt
lines_apart order (x ∷ xs) up = (tt, all_weaker (λ l. line_cmp x l ≡ Less) (λ l. event_cmp order l x ≡ Equal → ⊥) (λ l h. different order x l h) xs up.0, lines_apart order xs up.1)

pub in_the_order : (q : EventQuery) (live : List LineValues) → IsStrictlySortedBy (event_cmp q.order) (ordered_events q live)
in_the_order q live = sorted_in_order (events_total q.order) (asked_events q live)

pub asked_alone : (q : EventQuery) (live : List LineValues) → IsStrictlySortedBy line_cmp live → (e : LineValues) → Contains (ordered_events q live) e ↔ (Contains live e × (is_event_asked q e ≡ true))
asked_alone q live up e = (
  λ h. all_in (λ e. Contains live e × (is_event_asked q e ≡ true)) (ordered_events q live)
      (all_in_order (event_cmp q.order) (λ e. Contains live e × (is_event_asked q e ≡ true)) [] (asked_events q live) tt (all_left (is_event_asked q) (Contains live) live (each_in live))) e h,
  λ h. comes (event_cmp q.order) [] (asked_events q live) e (lines_apart q.order (asked_events q live) (IsStrictlySortedBy-filter line_cmp (is_event_asked q) live up)) (in_left (is_event_asked q) e live h.0 h.1),
)
