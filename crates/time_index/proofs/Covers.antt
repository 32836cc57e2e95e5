-- The place of a row that a selection selects is among those of its window.
use Rattle.std.proofs.Common.{◌≡◌, ℕ, ◌≤◌, ◌^◌, ◌==◌, true, false, not, ◌||◌, ◌&&◌, cond, List, [], ◌∷◌, ◌++◌, map, refl, sym, ap, ◌∙◌, arith, nat_cmp, Option, Some, None, ℤ, pos, negsuc, ◌+ℤ◌, ◌-◌, ◌-ℤ◌, ◌≤ℤ◌, ◌<ℤ◌, int_le, int_lt, true≢false, subst, eq-eqb}
use Rattle.std.specs.List.{list_any, slice_get, filter}
use Rattle.std.specs.Map.{lookup}
use Rattle.std.specs.Ordering.{is_eq, is_le, eq_by_cmp, int_cmp, ordering_then, MatchOrdering}
use Rattle.std.specs.declared.cmp.Ordering.TheVariants.{Less, Equal, Greater}
use Rattle.std.specs.BTreeMap.{BTreeMap, get, is_at}
use Rattle.std.specs.BTreeMap.Range.{range_contains, is_from_start, is_past_end}
use Rattle.std.proofs.lemmas.Bool.{and_parts, or_left, or_right}
use Rattle.std.proofs.lemmas.Bool.Decides.{nat_tests}
use Rattle.std.proofs.lemmas.Cmp.{int_ranked, tied_itself}
use Rattle.std.proofs.lemmas.Int.{ints}
use Rattle.std.proofs.lemmas.List.Folds.{list_any-append}
use Rattle.exact_time.specs.declared.moment.Moment.{Moment}
use Rattle.channel_globs.specs.declared.nslc.Nslc.{Nslc}
use Rattle.mseed_header.specs.declared.header.Header.{Header}
use Rattle.mseed_header.specs.declared.row.Row.{Row}
use Rattle.dataselect.specs.declared.query.Selection.{Selection}
use Rattle.dataselect.specs.Query.{holds, is_named, is_selected, reaches, starts_by}
use Rattle.channel_globs.specs.Names.{name_cmp}
use Rattle.channel_globs.proofs.Names.{names_total}
use Rattle.time_index.specs.declared.spot.Spot.{Spot}
use Rattle.time_index.specs.declared.channels.Channel.{Channel}
use Rattle.time_index.specs.Index.{is_there, LastsAtMost, IsChannelIndex}
use Rattle.time_index.specs.Spots.{spot_cmp, spot_at, is_same, has, longest_in, has_spot}
use Rattle.time_index.specs.Windows.{first_spot_at, lower_of, upper_of, from_bound, to_bound, is_forward, places_between, places_at, places_in, places_of_channel, places_by, single_name, window_places, is_place_among}
use Rattle.time_index.proofs.Lasts.{starts_near}
use Rattle.time_index.proofs.Named.{same_name}
use Rattle.time_index.proofs.Singles.{single_named}
use Rattle.time_index.proofs.Sets.{spots_total, exact_spots, itself, any_filtered, below}

le_nats : (i j : ℕ) → i ≤ j → is_le (nat_cmp i j) ≡ true
le_nats i j h = grind (arith, nat_tests)

least_spot : (print place : ℕ) → is_le (ordering_then (nat_cmp 0 print) (nat_cmp 0 place)) ≡ true
least_spot print place =
    elim (nat_cmp 0 print) as (λ o. is_le o ≡ true → is_le (ordering_then o (nat_cmp 0 place)) ≡ true) [
      | Less ↦ λ _. refl
      | Equal ↦ λ _. le_nats 0 place (omega arith)
      | Greater ↦ λ h. h
    ] (le_nats 0 print (omega arith))

ints_apart : (a b : ℤ) → a ≤ℤ b → b <ℤ a → ⊥
ints_apart a b h k = omega (arith, ints)

-- the first spot at a time isn't after one that starts then or later
first_below : (micros : ℤ) (s : Spot) → micros ≤ℤ s.start.micros → is_le (spot_cmp (first_spot_at micros) s) ≡ true
first_below micros s h =
    elim (int_cmp micros s.start.micros) as (λ o. MatchOrdering o (micros <ℤ s.start.micros) (micros ≡ s.start.micros) (s.start.micros <ℤ micros) → is_le (ordering_then o (ordering_then (nat_cmp 0 s.fingerprint) (nat_cmp 0 s.place))) ≡ true) [
      | Less ↦ λ _. refl
      | Equal ↦ λ _. least_spot s.fingerprint s.place
      | Greater ↦ λ m. absurd (ints_apart micros s.start.micros h m)
    ] (int_ranked micros s.start.micros (int_cmp micros s.start.micros) refl)

-- it is after one that starts earlier
first_above : (micros : ℤ) (s : Spot) → s.start.micros <ℤ micros → is_le (spot_cmp (first_spot_at micros) s) ≡ false
first_above micros s h =
    elim (int_cmp micros s.start.micros) as (λ o. MatchOrdering o (micros <ℤ s.start.micros) (micros ≡ s.start.micros) (s.start.micros <ℤ micros) → is_le (ordering_then o (ordering_then (nat_cmp 0 s.fingerprint) (nat_cmp 0 s.place))) ≡ false) [
      | Less ↦ λ m. absurd (omega (arith, ints, h, m))
      | Equal ↦ λ e. absurd (omega (arith, ints, h, e))
      | Greater ↦ λ _. refl
    ] (int_ranked micros s.start.micros (int_cmp micros s.start.micros) refl)

before : (t s : ℤ) (n : ℕ) → t ≤ℤ (s +ℤ pos n) → (t -ℤ pos n) ≤ℤ s
before t s n h = omega (arith, ints)

after : (t s : ℤ) → int_le s t ≡ true → s <ℤ (t +ℤ pos 1)
after t s h = grind (arith, ints)

lower_reaches : (h : Header) (start : Option Moment) (longest : ℕ) (s : Spot) → s.start.micros ≡ h.start.micros → holds (λ t. reaches h t.micros) start ≡ true → LastsAtMost h longest
    → is_from_start spot_cmp (from_bound (lower_of start longest)) s ≡ true
lower_reaches h None longest s same reached lasts = refl
lower_reaches h (Some t) longest s same reached lasts =
    elim (int_le (negsuc (2 ^ 63 - 1)) (t.micros -ℤ pos longest)) as (λ b. is_from_start spot_cmp (from_bound (cond b (Some (first_spot_at (t.micros -ℤ pos longest))) None)) s ≡ true) [
      | true ↦ first_below (t.micros -ℤ pos longest) s (subst (λ (z : ℤ). (t.micros -ℤ pos longest) ≤ℤ z) (sym same) (before t.micros h.start.micros longest (starts_near h t.micros longest reached lasts)))
      | false ↦ refl
    ]

upper_reaches : (h : Header) (end : Option Moment) (s : Spot) → s.start.micros ≡ h.start.micros → holds (λ t. starts_by h t.micros) end ≡ true → is_past_end spot_cmp (to_bound (upper_of end)) s ≡ false
upper_reaches h None s same started = refl
upper_reaches h (Some t) s same started =
    elim (int_lt t.micros (pos (2 ^ 63 - 1))) as (λ b. is_past_end spot_cmp (to_bound (cond b (Some (first_spot_at (t.micros +ℤ pos 1))) None)) s ≡ false) [
      | true ↦ first_above (t.micros +ℤ pos 1) s (subst (λ (z : ℤ). z <ℤ (t.micros +ℤ pos 1)) (sym same) (after t.micros h.start.micros started))
      | false ↦ refl
    ]

forward : (lower upper : Option Spot) (s : Spot) → is_from_start spot_cmp (from_bound lower) s ≡ true → is_past_end spot_cmp (to_bound upper) s ≡ false → is_forward lower upper ≡ true
forward None upper s h k = refl
forward (Some lower) None s h k = refl
forward (Some lower) (Some upper) s h k = below spots_total exact_spots lower s upper h k

among_mapped : (place : ℕ) (spots : List Spot) → is_place_among place (map (λ s. s.place) spots) ≡ list_any (λ s. s.place == place) spots
among_mapped place [] = refl
among_mapped place (s ∷ spots) = ap (λ b. (s.place == place) || b) (among_mapped place spots)

-- a spot of a channel is among those of the window that its row meets
in_window : (sel : Selection) (ch : Channel) (h : Header) (s : Spot) → has (Some ch) s ≡ true → s.start.micros ≡ h.start.micros → holds (λ t. reaches h t.micros) sel.start ≡ true
    → holds (λ t. starts_by h t.micros) sel.end ≡ true → LastsAtMost h ch.longest → is_place_among s.place (places_at sel ch) ≡ true
unfolding places_at places_between
in_window sel ch h s held same reached started lasts =
    let lower = lower_of sel.start ch.longest in
    let upper = upper_of sel.end in
    let from = lower_reaches h sel.start ch.longest s same reached lasts in
    let up_to = upper_reaches h sel.end s same started in
    let inside = range_contains spot_cmp (from_bound lower) (to_bound upper) in
    let test : inside s ≡ true = ap (λ b. b && not (is_past_end spot_cmp (to_bound upper) s)) from ∙ ap not up_to in
    ap (λ b. is_place_among s.place (cond b (map (λ (x : Spot). x.place) (filter inside ch.spots.keys)) [])) (forward lower upper s from up_to)
    ∙ among_mapped s.place (filter inside ch.spots.keys)
    ∙ any_filtered (λ x. x.place == s.place) inside ch.spots.keys s held test (eq-eqb s.place s.place refl)

-- a channel that is found is among the entries
among : (i : ℕ) (sel : Selection) (name : Nslc) (ch : Channel) (entries : List (Nslc × Channel)) → lookup (is_at (name_cmp name)) entries ≡ Some ch → is_named sel name ≡ true
    → is_place_among i (places_at sel ch) ≡ true → is_place_among i (places_in sel entries) ≡ true
among i sel name ch [] found named here = (cc)
among i sel name ch (e ∷ es) found named here =
    elim (is_same name e.0) as (λ b. is_same name e.0 ≡ b → cond b (Some e.1) (lookup (is_at (name_cmp name)) es) ≡ Some ch → is_place_among i (cond (is_named sel e.0) (places_at sel e.1 ++ places_in sel es) (places_in sel es)) ≡ true) [
      | true ↦ λ a f.
          let same : e.1 ≡ ch = (cc) in
          ap (λ b. is_place_among i (cond b (places_at sel e.1 ++ places_in sel es) (places_in sel es))) (ap (is_named sel) (sym (same_name name e.0 a)) ∙ named)
          ∙ list_any-append (λ p. p == i) (places_at sel e.1) (places_in sel es)
          ∙ or_left (is_place_among i (places_at sel e.1)) (is_place_among i (places_in sel es)) (ap (λ (c : Channel). is_place_among i (places_at sel c)) same ∙ here)
      | false ↦ λ _ f.
          let later = among i sel name ch es f named here in
          elim (is_named sel e.0) as (λ b. is_place_among i (cond b (places_at sel e.1 ++ places_in sel es) (places_in sel es)) ≡ true) [
            | true ↦ list_any-append (λ p. p == i) (places_at sel e.1) (places_in sel es) ∙ or_right (is_place_among i (places_at sel e.1)) (is_place_among i (places_in sel es)) later
            | false ↦ later
          ]
    ] refl found

-- what a selection asks of a row
record Asks (sel : Selection) (h : Header) : Type 0 where
  named : is_named sel h.name ≡ true
  reached : holds (λ t. reaches h t.micros) sel.start ≡ true
  started : holds (λ t. starts_by h t.micros) sel.end ≡ true

asks : (sel : Selection) (h : Header) → is_selected sel h ≡ true → Asks sel h
unfolding is_selected
asks sel h is =
    let outer = and_parts (is_named sel h.name) (holds (λ t. reaches h t.micros) sel.start && holds (λ t. starts_by h t.micros) sel.end) is in
    let inner = and_parts (holds (λ t. reaches h t.micros) sel.start) (holds (λ t. starts_by h t.micros) sel.end) outer.1 in
    record { named = outer.0; reached = inner.0; started = inner.1 }

module _ (rows : List Row) (m : BTreeMap Nslc Channel) (index : IsChannelIndex rows m) (i : ℕ) (row : Row) (at : slice_get rows i ≡ Some row) where
  held : has_spot m row.header.name (spot_at i row) ≡ true
  held =
      index.spots row.header.name (spot_at i row) ∙ ap (is_there row.header.name (spot_at i row)) at
      ∙ ap (λ b. b && eq_by_cmp spot_cmp (spot_at i row) (spot_at i row)) (ap is_eq (tied_itself names_total row.header.name))
      ∙ itself (spot_at i row) (spot_at i row) refl

  covers_channel : (sel : Selection) (o : Option Channel) → get name_cmp m row.header.name ≡ o → is_selected sel row.header ≡ true → is_place_among i (places_of_channel sel o) ≡ true
  covers_channel sel None e is = absurd (true≢false (sym held ∙ ap (λ c. has c (spot_at i row)) e))
  covers_channel sel (Some ch) e is =
      let parts = asks sel row.header is in
      in_window sel ch row.header (spot_at i row) (ap (λ c. has c (spot_at i row)) (sym e) ∙ held) refl parts.reached parts.started
      (subst (λ (n : ℕ). LastsAtMost row.header n) (ap longest_in e) (index.longest i row at))

  covers_named : (sel : Selection) (o : Option Channel) → get name_cmp m row.header.name ≡ o → is_selected sel row.header ≡ true → is_place_among i (places_in sel m.entries) ≡ true
  covers_named sel None e is = absurd (true≢false (sym held ∙ ap (λ c. has c (spot_at i row)) e))
  covers_named sel (Some ch) e is =
      let parts = asks sel row.header is in
      among i sel row.header.name ch m.entries e parts.named (covers_channel sel (Some ch) e is)

  -- a row that a selection selects is among the places of its window
  pub covers : (sel : Selection) → is_selected sel row.header ≡ true → is_place_among i (window_places sel m) ≡ true
  covers sel is =
      let parts = asks sel row.header is in
      elim (single_name sel) as (λ o. single_name sel ≡ o → is_place_among i (places_by o sel m) ≡ true) [
        | None ↦ λ _. covers_named sel (get name_cmp m row.header.name) refl is
        | Some name ↦ λ e.
            ap (λ (n : Nslc). is_place_among i (places_of_channel sel (get name_cmp m n))) (single_named sel name row.header.name e parts.named)
            ∙ covers_channel sel (get name_cmp m row.header.name) refl is
      ] refl
