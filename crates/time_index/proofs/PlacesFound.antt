-- The places of a name's channel, put in order, are those of the rows of the name.
use Rattle.std.proofs.Common.{◌≡◌, ℕ, zero, suc, ◌+◌, ◌<◌, ◌==◌, Bool, true, false, ◌||◌, cond, List, [], ◌∷◌, map, refl, sym, ap, ◌∙◌, arith, Some, None, Option, true≢false, add-zero, zero-add, nat_cmp}
use Rattle.std.specs.List.{list_any, slice_get, AllByRecursion}
use Rattle.std.specs.List.Sorted.{IsStrictlySortedBy}
use Rattle.std.specs.Ordering.{eq_by_cmp, is_eq}
use Rattle.std.specs.BTreeMap.{BTreeMap, get}
use Rattle.std.specs.declared.cmp.Ordering.TheVariants.{Less}
use Rattle.std.proofs.lemmas.Bool.{or_left, or_right, and_parts}
use Rattle.std.proofs.lemmas.Bool.Decides.{nat_tests}
use Rattle.std.proofs.lemmas.Cmp.{nat_cmp_total}
use Rattle.std.proofs.lemmas.Map.Lookups.{btree_set_from_contains, exact_unsigned}
use Rattle.list_laws.specs.InOrder.{in_order}
use Rattle.list_laws.proofs.Keys.{sorted_in_order, any_in_order}
use Rattle.channel_globs.specs.declared.nslc.Nslc.{Nslc}
use Rattle.channel_globs.specs.Names.{name_cmp}
use Rattle.mseed_header.specs.declared.row.Row.{Row}
use Rattle.dataselect.specs.MergedSpans.{has_name}
use Rattle.dataselect.specs.Places.{places_named}
use Rattle.dataselect.specs.Spans.{placed_from}
use Rattle.dataselect.proofs.Placed.{places_from}
use Rattle.dataselect.proofs.Rises.{same_name_of}
use Rattle.time_index.specs.Index.{is_there, IsChannelIndex}
use Rattle.time_index.specs.SpanRanks.{places_of}
use Rattle.time_index.specs.Spots.{spot_cmp, spot_at, is_same, has}
use Rattle.time_index.specs.Windows.{is_place_among}
use Rattle.time_index.specs.declared.channels.Channel.{Channel}
use Rattle.time_index.specs.declared.spot.Spot.{Spot}
use Rattle.time_index.proofs.Sets.{itself}
use Rattle.time_index.proofs.Named.{same_name}
use Rattle.time_index.proofs.SpansFound.{reached}

-- places from an index on are strictly ascending
all_from : (name : Nslc) (i : ℕ) (rows : List Row) (least : ℕ) → least < i → AllByRecursion (λ p. nat_cmp least p ≡ Less) (places_from name i rows)
all_from name i [] least h = tt
all_from name i (row ∷ rows) least h =
    let later = all_from name (i + 1) rows least (omega arith) in
    elim (has_name name row) as (λ b. AllByRecursion (λ p. nat_cmp least p ≡ Less) (map (λ (p : ℕ × Row). p.0) (cond b ((i, row) ∷ placed_from (has_name name) (i + 1) rows) (placed_from (has_name name) (i + 1) rows)))) [
      | true ↦ (grind arith, later)
      | false ↦ later
    ]

sorted_from : (name : Nslc) (i : ℕ) (rows : List Row) → IsStrictlySortedBy nat_cmp (places_from name i rows)
unfolding IsStrictlySortedBy
sorted_from name i [] = tt
sorted_from name i (row ∷ rows) =
    elim (has_name name row) as (λ b. IsStrictlySortedBy nat_cmp (map (λ (p : ℕ × Row). p.0) (cond b ((i, row) ∷ placed_from (has_name name) (i + 1) rows) (placed_from (has_name name) (i + 1) rows)))) [
      | true ↦ (all_from name (i + 1) rows i (omega arith), sorted_from name (i + 1) rows)
      | false ↦ sorted_from name (i + 1) rows
    ]

eq_from : (a b : ℕ) → (a == b) ≡ true → a ≡ b
eq_from a b h = grind (arith, nat_tests)

-- the row of a name at a place
record IsPlaced (name : Nslc) (i : ℕ) (rows : List Row) (q : ℕ) : Type 0 where
  n : ℕ
  row : Row
  at : slice_get rows n ≡ Some row
  named : has_name name row ≡ true
  is : q ≡ i + n

placed : (name : Nslc) (i : ℕ) (rows : List Row) (q : ℕ) → is_place_among q (places_from name i rows) ≡ true → IsPlaced name i rows q
placed name i [] q h = absurd (true≢false (sym h))
placed name i (r ∷ rows) q h =
    let later : is_place_among q (places_from name (i + 1) rows) ≡ true → IsPlaced name i (r ∷ rows) q =
    λ k.
    let c = placed name (i + 1) rows q k in
    let e : (i + 1) + c.n ≡ i + suc c.n = omega arith in
    record { n = suc c.n; row = c.row; at = c.at; named = c.named; is = c.is ∙ e } in
    elim (has_name name r) as (λ b. has_name name r ≡ b → is_place_among q (map (λ (p : ℕ × Row). p.0) (cond b ((i, r) ∷ placed_from (has_name name) (i + 1) rows) (placed_from (has_name name) (i + 1) rows))) ≡ true → IsPlaced name i (r ∷ rows) q) [
      | true ↦ λ t k.
          elim (i == q) as (λ b. (i == q) ≡ b → (b || is_place_among q (places_from name (i + 1) rows)) ≡ true → IsPlaced name i (r ∷ rows) q) [
            | true ↦ λ e _. record { n = 0; row = r; at = refl; named = t; is = sym (eq_from i q e) ∙ sym (add-zero i) }
            | false ↦ λ _ rest. later rest
          ] refl k
      | false ↦ λ _ k. later k
    ] refl h

among : (name : Nslc) (i n : ℕ) (rows : List Row) (row : Row) → slice_get rows n ≡ Some row → has_name name row ≡ true → is_place_among (i + n) (places_from name i rows) ≡ true
among name i n [] row at t = (cc)
among name i zero (r ∷ rows) row at t =
    let same : r ≡ row = (cc) in
    let here : (i == i + 0) ≡ true = grind (arith, nat_tests) in
    ap (λ b. is_place_among (i + 0) (map (λ (p : ℕ × Row). p.0) (cond b ((i, r) ∷ placed_from (has_name name) (i + 1) rows) (placed_from (has_name name) (i + 1) rows)))) (ap (has_name name) same ∙ t)
    ∙ or_left (i == i + 0) (is_place_among (i + 0) (places_from name (i + 1) rows)) here
among name i (suc n) (r ∷ rows) row at t =
    let e : (i + 1) + n ≡ i + suc n = omega arith in
    let later = ap (λ k. is_place_among k (places_from name (i + 1) rows)) (sym e) ∙ among name (i + 1) n rows row at t in
    elim (has_name name r) as (λ b. is_place_among (i + suc n) (map (λ (p : ℕ × Row). p.0) (cond b ((i, r) ∷ placed_from (has_name name) (i + 1) rows) (placed_from (has_name name) (i + 1) rows))) ≡ true) [
      | true ↦ or_right (i == i + suc n) (is_place_among (i + suc n) (places_from name (i + 1) rows)) later
      | false ↦ later
    ]

-- the spot with a place
record HasPlace (spots : List Spot) (q : ℕ) : Type 0 where
  spot : Spot
  held : list_any (eq_by_cmp spot_cmp spot) spots ≡ true
  is : spot.place ≡ q

spot_with : (spots : List Spot) (q : ℕ) → is_place_among q (map (λ s. s.place) spots) ≡ true → HasPlace spots q
spot_with [] q h = absurd (true≢false (sym h))
spot_with (s ∷ spots) q h =
    elim (s.place == q) as (λ b. (s.place == q) ≡ b → (b || is_place_among q (map (λ (x : Spot). x.place) spots)) ≡ true → HasPlace (s ∷ spots) q) [
      | true ↦ λ e _. record { spot = s; held = or_left (eq_by_cmp spot_cmp s s) (list_any (eq_by_cmp spot_cmp s) spots) (itself s s refl); is = eq_from s.place q e }
      | false ↦ λ _ rest.
          let c = spot_with spots q rest in
          record { spot = c.spot; held = or_right (eq_by_cmp spot_cmp c.spot s) (list_any (eq_by_cmp spot_cmp c.spot) spots) c.held; is = c.is }
    ] refl h

same_bool : (a b : Bool) → (a ≡ true → b ≡ true) → (b ≡ true → a ≡ true) → a ≡ b
same_bool true b f g = sym (f refl)
same_bool false true f g = g refl
same_bool false false f g = refl

same_eq : (q p : ℕ) → is_eq (nat_cmp q p) ≡ (p == q)
same_eq q p = grind (arith, nat_tests)

module _ (rows : List Row) (m : BTreeMap Nslc Channel) (index : IsChannelIndex rows m) (name : Nslc) where
  named_row : (q : ℕ) (spot : Spot) (o : Option Row) → spot.place ≡ q → slice_get rows spot.place ≡ o → is_there name spot o ≡ true → is_place_among q (places_from name 0 rows) ≡ true
  named_row q spot None is at h = absurd (true≢false (sym h))
  named_row q spot (Some row) is at h =
      let named = (and_parts (is_same row.header.name name) (eq_by_cmp spot_cmp spot (spot_at spot.place row)) h).0 in
      ap (λ k. is_place_among k (places_from name 0 rows)) (sym is ∙ sym (zero-add spot.place))
      ∙ among name 0 spot.place rows row at (same_name_of row.header.name name (same_name row.header.name name named))

  held_row : (q : ℕ) (o : Option Channel) → get name_cmp m name ≡ o → is_place_among q (places_of o) ≡ true → is_place_among q (places_from name 0 rows) ≡ true
  held_row q None e h = absurd (true≢false (sym h))
  held_row q (Some c) e h =
      let s = spot_with c.spots.keys q h in
      let stands = sym (index.spots name s.spot) ∙ ap (λ o. has o s.spot) e ∙ s.held in
      named_row q s.spot (slice_get rows s.spot.place) s.is refl stands

  same_members : (q : ℕ) → is_place_among q (places_of (get name_cmp m name)) ≡ is_place_among q (places_from name 0 rows)
  same_members q =
      same_bool (is_place_among q (places_of (get name_cmp m name))) (is_place_among q (places_from name 0 rows))
      (held_row q (get name_cmp m name) refl)
      (λ h.
      let c = placed name 0 rows q h in
      ap (λ k. is_place_among k (places_of (get name_cmp m name))) (c.is ∙ zero-add c.n) ∙ reached rows m index name c.n c.row c.at c.named)

  -- the places of the channel's rows, put in order, are those of all rows of the name
  pub channel_places_are : in_order nat_cmp [] (places_of (get name_cmp m name)) ≡ places_named name rows
  channel_places_are =
      btree_set_from_contains nat_cmp_total (record { keys = in_order nat_cmp [] (places_of (get name_cmp m name)) }) (record { keys = places_named name rows })
      (sorted_in_order nat_cmp_total (places_of (get name_cmp m name))) (sorted_from name 0 rows)
      (λ q.
      any_in_order exact_unsigned (eq_by_cmp nat_cmp q) (places_of (get name_cmp m name))
      ∙ (λ i. list_any (λ p. same_eq q p i) (places_of (get name_cmp m name)))
      ∙ same_members q
      ∙ sym (λ i. list_any (λ p. same_eq q p i) (places_from name 0 rows))) exact_unsigned
