-- The lines of a station stand together, and stations are in the order of their codes.
use Rattle.std.proofs.Common.{◌≡◌, ℕ, Bool, true, false, ◌&&◌, ◌==◌, List, refl, ap, sym, subst, ◌∙◌, nat_cmp}
use Rattle.std.specs.declared.cmp.Ordering.{Ordering}
use Rattle.std.specs.declared.cmp.Ordering.TheVariants.{Less, Equal, Greater}
use Rattle.std.specs.Ordering.{ordering_then, is_lt, is_eq, is_gt, is_le}
use Rattle.std.specs.Cmp.{IsTotalOrder}
use Rattle.std.specs.Cmp.Lexicographic.{slice_cmp, nat_list_cmp_total}
use Rattle.std.specs.Str.{bytes_eq}
use Rattle.std.proofs.lemmas.Bool.{true≢false, and_parts, eqb-true, eq-eqb}
use Rattle.std.proofs.lemmas.Cmp.{on_total, then_total, upto}
use Rattle.std.proofs.lemmas.Map.Lookups.{CmpEqualImpliesEq, exact_pairs, exact_bytes}
use Rattle.std.proofs.lemmas.Slice.Eq.{bytes_eq-Decides}
use Rattle.epochs.specs.declared.kinds.LineKind.{LineKind}
use Rattle.epochs.specs.declared.kinds.Head.{Head}
use Rattle.epochs.specs.declared.kinds.Head.TheVariants.{Says, Deletes}
use Rattle.epochs.specs.Lines.{LineValues, line_values}
use Rattle.epoch_catalog.specs.declared.families.Family.{Family}
use Rattle.epoch_catalog.specs.declared.families.Family.TheVariants as family
use Rattle.epoch_catalog.proofs.FamilyPlaces.{front_cmp, front_total, front_rises, with_front, same_rank, same_text, both_eq}
use Rattle.epoch_rules.specs.KeyOrder.{KeyParts, key_parts_of, parts_cmp, rank_of, text_cmp}
use Rattle.epoch_rules.specs.Rules.{is_of_kind, is_line_of}
use Rattle.station_text.specs.Found.{place_cmp, place_order, stands_at}
use Rattle.station_text.specs.declared.place.Place.{Place}

pub places_total : IsTotalOrder place_cmp
places_total = then_total (on_total (λ (p : Place). p.network) nat_list_cmp_total) (on_total (λ (p : Place). p.station) nat_list_cmp_total)

pub exact_places : CmpEqualImpliesEq place_cmp
exact_places a b h =
    ap (λ (p : List ℕ × List ℕ). record { network = p.0; station = p.1 })
    (exact_pairs (slice_cmp nat_cmp) (slice_cmp nat_cmp) exact_bytes exact_bytes (a.network, a.station) (b.network, b.station) h)

-- the order of keys up to the station
abbrev front : Place → Family
front place = family.ChannelsOf place.network place.station

abbrev target : ℕ → Place → KeyParts → KeyParts
target rank place p = with_front p rank place.network place.station

pub lt_stays : {K : Type 0} {R : K → K → Ordering} (o : IsTotalOrder R) (x y z : K) → is_gt (R x y) ≡ false → is_lt (R y z) ≡ true → is_lt (R x z) ≡ true
lt_stays {K} {R} o x y z h k =
    elim (R x y) as (λ a. R x y ≡ a → is_gt a ≡ false → is_lt (R x z) ≡ true) [
      | Less ↦ λ e g.
          elim (R y z) as (λ b. R y z ≡ b → is_lt b ≡ true → is_lt (R x z) ≡ true) [
            | Less ↦ λ f t. ap is_lt (o.trans x y z e f)
            | Equal ↦ λ f t. absurd (true≢false (sym t))
            | Greater ↦ λ f t. absurd (true≢false (sym t))
          ] refl k
      | Equal ↦ λ e g. ap is_lt (o.congr x y z e) ∙ k
      | Greater ↦ λ e g. absurd (true≢false g)
    ] refl h

-- a key before a station's lines stands before each key that isn't
pub before_stays : (rank : ℕ) (place : Place) (p q : KeyParts) → parts_cmp p q ≡ Less → is_lt (place_order rank place q) ≡ true → is_lt (place_order rank place p) ≡ true
before_stays rank place p q h k = lt_stays (front_total (front place)) p q (target rank place p) (front_rises (front place) p q h) k

pub le_not_gt : (a : Ordering) → is_le a ≡ true → is_gt a ≡ false
le_not_gt Less h = refl
le_not_gt Equal h = refl
le_not_gt Greater h = absurd (true≢false (sym h))

pub not_gt_le : (a : Ordering) → is_gt a ≡ false → is_le a ≡ true
not_gt_le Less h = refl
not_gt_le Equal h = refl
not_gt_le Greater h = absurd (true≢false h)

-- a key that isn't behind them stands before each key that is
pub within_stays : (rank : ℕ) (place : Place) (p q : KeyParts) → parts_cmp p q ≡ Less → is_le (place_order rank place q) ≡ true → is_le (place_order rank place p) ≡ true
within_stays rank place p q h k =
    not_gt_le _ (upto (front_total (front place)) p q (target rank place p) (front_rises (front place) p q h) (le_not_gt _ k))

-- a line stands there exactly where its rank and its codes are those
pub stands_by_codes : (rank : ℕ) (place : Place) (e : LineValues)
    → stands_at rank place e ≡ (((key_parts_of e).rank == rank) && (bytes_eq (key_parts_of e).first place.network && bytes_eq (key_parts_of e).second place.station))
stands_by_codes rank place e =
    let p : KeyParts = key_parts_of e in
    both_eq (nat_cmp p.rank rank) (ordering_then (text_cmp p.first place.network) (text_cmp p.second place.station))
    ∙ (λ i. same_rank p.rank rank i && both_eq (text_cmp p.first place.network) (text_cmp p.second place.station) i)
    ∙ (λ i. (p.rank == rank) && (same_text p.first place.network i && same_text p.second place.station i))

-- the codes of a line that stands there
pub record HasCodes (rank : ℕ) (place : Place) (p : KeyParts) : Type 0 where
  pub rank_is : p.rank ≡ rank
  pub first_is : p.first ≡ place.network
  pub second_is : p.second ≡ place.station

pub codes_of : (rank : ℕ) (place : Place) (e : LineValues) → stands_at rank place e ≡ true → HasCodes rank place (key_parts_of e)
codes_of rank place e h =
    let p : KeyParts = key_parts_of e in
    let parts = and_parts (p.rank == rank) (bytes_eq p.first place.network && bytes_eq p.second place.station) (sym (stands_by_codes rank place e) ∙ h) in
    let codes = and_parts (bytes_eq p.first place.network) (bytes_eq p.second place.station) parts.1 in record {
      rank_is = eqb-true p.rank rank parts.0;
      first_is = (bytes_eq-Decides p.first place.network).0 codes.0;
      second_is = (bytes_eq-Decides p.second place.station).0 codes.1;
    }

all_three : (a b c : Bool) → a ≡ true → b ≡ true → c ≡ true → (a && (b && c)) ≡ true
all_three a b c h k l = ap (λ x. x && (b && c)) h ∙ ap (λ x. x && c) k ∙ l

pub stands_from : (rank : ℕ) (place : Place) (e : LineValues) → HasCodes rank place (key_parts_of e) → stands_at rank place e ≡ true
stands_from rank place e h =
    let p : KeyParts = key_parts_of e in
    stands_by_codes rank place e
    ∙ all_three _ _ _ (eq-eqb p.rank rank h.rank_is) ((bytes_eq-Decides p.first place.network).1 h.first_is) ((bytes_eq-Decides p.second place.station).1 h.second_is)

-- the key of a line that says something has its kind's rank
pub rank_is : (kind : LineKind) (e : LineValues) → is_line_of kind e ≡ true → (key_parts_of e).rank ≡ rank_of kind
rank_is kind e h = by_head e.head refl
  where
    by_head : (head : Head) → e.head ≡ head → (key_parts_of e).rank ≡ rank_of kind
    by_head (Says k) is =
        subst (λ (e : LineValues). (key_parts_of e).rank ≡ rank_of kind) (ap (λ h. line_values h e.values) (sym is))
        (eqb-true (rank_of k) (rank_of kind) (sym (ap (is_of_kind kind) is) ∙ h))
    by_head (Deletes k) is = absurd (true≢false (sym h ∙ ap (is_of_kind kind) is))

pub same_code : (xs : List ℕ) → text_cmp xs xs ≡ Equal
same_code xs = by_eq (text_cmp xs xs) (same_text xs xs ∙ (bytes_eq-Decides xs xs).1 refl)
  where
    by_eq : (o : Ordering) → is_eq o ≡ true → o ≡ Equal
    by_eq Less h = absurd (true≢false (sym h))
    by_eq Equal h = refl
    by_eq Greater h = absurd (true≢false (sym h))

pub then_second : (a b : Ordering) → a ≡ Equal → ordering_then a b ≡ b
then_second a b h = ap (λ o. ordering_then o b) h

same_number : (n : ℕ) → nat_cmp n n ≡ Equal
same_number n = by_eq (nat_cmp n n) (same_rank n n ∙ eq-eqb n n refl)
  where
    by_eq : (o : Ordering) → is_eq o ≡ true → o ≡ Equal
    by_eq Less h = absurd (true≢false (sym h))
    by_eq Equal h = refl
    by_eq Greater h = absurd (true≢false (sym h))

-- of lines that stand at two stations, the one with the less key isn't of the greater station
pub stations_rise : (rank : ℕ) (a b : Place) (p q : KeyParts) → parts_cmp p q ≡ Less → HasCodes rank a p → HasCodes rank b q → is_gt (place_cmp a b) ≡ false
stations_rise rank a b p q h at_a at_b =
    let fronts : front_cmp (front a) p q ≡ ordering_then (nat_cmp rank rank) (place_cmp a b) =
    (λ i. ordering_then (nat_cmp (at_a.rank_is i) (at_b.rank_is i)) (ordering_then (text_cmp (at_a.first_is i) (at_b.first_is i)) (text_cmp (at_a.second_is i) (at_b.second_is i)))) in
    sym (ap is_gt (fronts ∙ then_second (nat_cmp rank rank) (place_cmp a b) (same_number rank))) ∙ front_rises (front a) p q h

-- and a line stands at one station
pub one_station : (rank : ℕ) (a b : Place) (p : KeyParts) → HasCodes rank a p → HasCodes rank b p → place_cmp a b ≡ Equal
one_station rank a b p at_a at_b =
    let first_a = sym at_a.first_is in
    let first_b = sym at_b.first_is in
    let second_a = sym at_a.second_is in
    let second_b = sym at_b.second_is in
    (λ i. ordering_then (text_cmp (first_a i) (first_b i)) (text_cmp (second_a i) (second_b i)))
    ∙ then_second (text_cmp p.first p.first) (text_cmp p.second p.second) (same_code p.first)
    ∙ same_code p.second
