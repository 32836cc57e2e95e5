-- Ranks are in the order of their events.
use Rattle.std.proofs.Common.{◌≡◌, ℕ, suc, ◌+◌, ◌<◌, ℤ, neg_ℤ, Bool, true, false, not, cond, List, [], ◌∷◌, ◌++◌, Option, Some, None, length, map, filter, drop, get_or, refl, sym, ap, ◌∙◌, arith, add-one, drop-cons}
use Rattle.std.specs.BTreeSet.{insert_key}
use Rattle.std.specs.List.{AllByRecursion}
use Rattle.std.specs.Option.{option_cmp}
use Rattle.std.specs.Ordering.{int_cmp, bool_cmp, ordering_then, match_ordering}
use Rattle.std.specs.declared.cmp.Ordering.{Ordering}
use Rattle.std.specs.declared.cmp.Ordering.TheVariants.{Less, Equal, Greater}
use Rattle.std.proofs.lemmas.Int.{ints}
use Rattle.list_laws.specs.InOrder.{in_order}
use Rattle.list_laws.proofs.Keys.{all_in_order}
use Rattle.std.specs.Borrow.{Bor}
use Rattle.std.specs.Prelude.{◌&&◌}
use Rattle.epochs.specs.Lines.{LineValues}
use Rattle.epochs.specs.declared.line.Event.{Event}
use Rattle.epoch_catalog.specs.Families.{is_in}
use Rattle.epoch_catalog.specs.declared.families.Family.TheVariants.{Events}
use Rattle.epochs.specs.Views.{values_of_line}
use Rattle.epochs.specs.declared.line.Line.{Line}
use Rattle.epoch_rules.specs.KeyOrder.{text_cmp, line_cmp, or_zero}
use Rattle.query_parameters.specs.Places.{is_absent}
use Rattle.query_parameters.specs.declared.order.EventOrder.{EventOrder}
use Rattle.query_parameters.specs.declared.order.EventOrder.TheVariants.{TimeDown, TimeUp, MagnitudeDown, MagnitudeUp}
use Rattle.query_words.specs.declared.event.EventQuery.{EventQuery}
use Rattle.event_text.specs.Events.{EventValues, event_of, asks_for, is_event_asked}
use Rattle.event_text.specs.Orders.{front_cmp, event_cmp}
use Rattle.event_text.specs.Ranks.{line_at, line_of_rank, is_apart, measure_of, IsRank, rank_cmp}
use Rattle.event_text.specs.declared.rank.Rank.{Rank}

turned : (a b : ℤ) → int_cmp (neg_ℤ a) (neg_ℤ b) ≡ int_cmp b a
turned a b = grind (arith, ints)

down : (m n : Option ℤ) (ties : Ordering)
    → ordering_then (bool_cmp (is_absent m) (is_absent n)) (ordering_then (int_cmp (neg_ℤ (or_zero m)) (neg_ℤ (or_zero n))) ties) ≡ ordering_then (option_cmp int_cmp n m) ties
down None None ties = refl
down None (Some b) ties = refl
down (Some a) None ties = refl
down (Some a) (Some b) ties = ap (λ o. ordering_then o ties) (turned a b)

up : (m n : Option ℤ) (ties : Ordering)
    → ordering_then (bool_cmp (not (is_absent m)) (not (is_absent n))) (ordering_then (int_cmp (or_zero m) (or_zero n)) ties) ≡ ordering_then (option_cmp int_cmp m n) ties
up None None ties = refl
up None (Some b) ties = refl
up (Some a) None ties = refl
up (Some a) (Some b) ties = refl

by_values : (order : EventOrder) (v w : EventValues) (ties : Ordering)
    → ordering_then (bool_cmp (is_apart order v) (is_apart order w)) (ordering_then (int_cmp (measure_of order v) (measure_of order w)) ties) ≡ ordering_then (front_cmp order v w) ties
by_values TimeDown v w ties = ap (λ o. ordering_then o ties) (turned v.time w.time)
by_values TimeUp v w ties = refl
by_values MagnitudeDown v w ties = down v.magnitude w.magnitude ties
by_values MagnitudeUp v w ties = up v.magnitude w.magnitude ties

then_equal : (o : Ordering) → o ≡ ordering_then o Equal
then_equal Less = refl
then_equal Equal = refl
then_equal Greater = refl

-- the keys of events are their ids
by_id : (a b : Bor Event) → text_cmp a.now.id b.now.id ≡ line_cmp (line_at a) (line_at b)
by_id a b = then_equal (text_cmp a.now.id b.now.id)

same_order : (order : EventOrder) (a b : Rank) → IsRank order a → IsRank order b → rank_cmp a b ≡ event_cmp order (line_of_rank a) (line_of_rank b)
same_order order a b h k =
    (λ i. ordering_then (bool_cmp (h.apart_is i) (k.apart_is i)) (ordering_then (int_cmp (h.measure_is i) (k.measure_is i)) (text_cmp a.event.now.id b.event.now.id)))
    ∙ by_values order (event_of (line_of_rank a)) (event_of (line_of_rank b)) (text_cmp a.event.now.id b.event.now.id)
    ∙ ap (λ o. ordering_then (front_cmp order (event_of (line_of_rank a)) (event_of (line_of_rank b))) o) (by_id a.event b.event)

-- keys that are put in order, seen by a function that keeps the order
module _ {K E : Type 0} (f : K → E) (P : K → Type 0) (cmp : K → K → Ordering) (seen : E → E → Ordering) (agree : (a b : K) → P a → P b → cmp a b ≡ seen (f a) (f b)) where
  pushed : (o : Ordering) (below same above : List K) → map f (match_ordering o below same above) ≡ match_ordering o (map f below) (map f same) (map f above)
  pushed Less below same above = refl
  pushed Equal below same above = refl
  pushed Greater below same above = refl

  inserted : (ks : List K) (k : K) → AllByRecursion P ks → P k → map f (insert_key cmp ks k) ≡ insert_key seen (map f ks) (f k)
  inserted [] k all one = refl
  inserted (x ∷ xs) k all one =
      pushed (cmp k x) (k ∷ x ∷ xs) (x ∷ xs) (x ∷ insert_key cmp xs k)
      ∙ ap (λ o. match_ordering o (f k ∷ f x ∷ map f xs) (f x ∷ map f xs) (f x ∷ map f (insert_key cmp xs k))) (agree k x one all.0)
      ∙ ap (λ ys. match_ordering (seen (f k) (f x)) (f k ∷ f x ∷ map f xs) (f x ∷ map f xs) (f x ∷ ys)) (inserted xs k all.1 one)

  all_more : (ks : List K) (k : K) → AllByRecursion P ks → P k → AllByRecursion P (insert_key cmp ks k)
  all_more ks k all one = all_in_order cmp P ks (k ∷ []) all (one, tt)

-- what a test leaves of what a wider one left
pub narrowed : {X : Type 0} (wide narrow : X → Bool) → ((x : X) → wide x ≡ false → narrow x ≡ false) → (xs : List X) → filter narrow (filter wide xs) ≡ filter narrow xs
narrowed wide narrow less [] = refl
narrowed {X} wide narrow less (x ∷ xs) =
    elim (wide x) as (λ b. wide x ≡ b → filter narrow (cond b (x ∷ filter wide xs) (filter wide xs)) ≡ filter narrow (x ∷ xs)) [
      | true ↦ λ e. ap (λ (ys : List X). cond (narrow x) (x ∷ ys) ys) (narrowed wide narrow less xs)
      | false ↦ λ e. narrowed wide narrow less xs ∙ sym (ap (λ b. cond b (x ∷ filter narrow xs) (filter narrow xs)) (less x e))
    ] refl

-- one line more
module _ (query : EventQuery) (lines : List Line) where
  abbrev pub Ordered : List Rank → ℕ → Type 0
  Ordered keys i = in_order (event_cmp query.order) (map line_of_rank keys) (filter (is_event_asked query) (map values_of_line (drop i lines)))
      ≡ in_order (event_cmp query.order) [] (filter (is_event_asked query) (map values_of_line lines))

  module _ (keys : List Rank) (i : ℕ) (line : Line) (lt : i < length lines) (at : line ≡ get_or lines i line) (ordered : Ordered keys i) where
    here : drop i lines ≡ line ∷ drop (i + 1) lines
    here = rw (add-one i) (drop-cons lines i line lt ∙ ap (λ (x : Line). x ∷ drop (suc i) lines) (sym at))

    -- the list that is asked for begins with the line, or not
    asked_by : (b : Bool) → is_event_asked query (values_of_line line) ≡ b
        → filter (is_event_asked query) (map values_of_line (drop i lines)) ≡ cond b (values_of_line line ∷ filter (is_event_asked query) (map values_of_line (drop (i + 1) lines))) (filter (is_event_asked query) (map values_of_line (drop (i + 1) lines)))
    asked_by b is =
        ap (λ (ls : List Line). filter (is_event_asked query) (map values_of_line ls)) here
        ∙ ap (λ b. cond b (values_of_line line ∷ filter (is_event_asked query) (map values_of_line (drop (i + 1) lines))) (filter (is_event_asked query) (map values_of_line (drop (i + 1) lines)))) is

    pub passed : is_event_asked query (values_of_line line) ≡ false → Ordered keys (i + 1)
    passed is = ap (λ es. in_order (event_cmp query.order) (map line_of_rank keys) es) (sym (asked_by false is)) ∙ ordered

    module _ (r : Rank) (all : AllByRecursion (IsRank query.order) keys) (rank : IsRank query.order r) where
      pub each : AllByRecursion (IsRank query.order) (insert_key rank_cmp keys r)
      each = all_more line_of_rank (IsRank query.order) rank_cmp (event_cmp query.order) (same_order query.order) keys r all rank

      pub taken : is_event_asked query (values_of_line line) ≡ true → line_of_rank r ≡ values_of_line line → Ordered (insert_key rank_cmp keys r) (i + 1)
      taken is same =
          ap (λ es. in_order (event_cmp query.order) es (filter (is_event_asked query) (map values_of_line (drop (i + 1) lines))))
          (inserted line_of_rank (IsRank query.order) rank_cmp (event_cmp query.order) (same_order query.order) keys r all rank ∙ ap (λ e. insert_key (event_cmp query.order) (map line_of_rank keys) e) same)
          ∙ ap (λ es. in_order (event_cmp query.order) (map line_of_rank keys) es) (sym (asked_by true is))
          ∙ ordered

-- an event is moved from what is left to what is there
pub moved : (events : List (Bor Event)) (r : Rank) (rest : List Rank) → map line_at (events ++ r.event ∷ []) ++ map line_of_rank rest ≡ map line_at events ++ map line_of_rank (r ∷ rest)
moved [] r rest = refl
moved (e ∷ events) r rest = ap (λ es. line_at e ∷ es) (moved events r rest)

-- no line of another kind is asked for
pub none_else : (query : EventQuery) (e : LineValues) → is_in Events e ≡ false → is_event_asked query e ≡ false
none_else query e h = ap (λ b. b && asks_for query (event_of e)) h
