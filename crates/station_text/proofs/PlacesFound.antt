-- Where each selection names one station, the lines of these stations that are asked for are all that are.
use Rattle.std.proofs.Common.{◌≡◌, ℕ, Bool, true, false, ◌&&◌, ◌||◌, List, [], ◌∷◌, ◌++◌, Option, Some, None, filter, cond, refl, ap, sym, ◌∙◌}
use Rattle.std.specs.declared.cmp.Ordering.TheVariants.{Less, Equal}
use Rattle.std.specs.Ordering.{is_gt, ordering_reverse}
use Rattle.std.specs.Str.{bytes_eq}
use Rattle.std.specs.List.{AllByRecursion, list_any, list_all, filter_map, flat_map, cons_option}
use Rattle.std.specs.List.Sorted.{IsStrictlySortedBy}
use Rattle.std.proofs.lemmas.Bool.{true≢false, false≢true, and_parts, cond-false}
use Rattle.std.proofs.lemmas.Slice.Eq.{bytes_eq-Decides}
use Rattle.list_laws.specs.InOrder.{in_order}
use Rattle.list_laws.proofs.Keys.{sorted_in_order, any_in_order}
use Rattle.channel_globs.specs.Matching.{is_match, is_match_any, is_plain, single_code}
use Rattle.channel_globs.proofs.Plain.{plain_matches}
use Rattle.dataselect.specs.declared.query.Selection.{Selection}
use Rattle.query_parameters.specs.declared.level.Level.{Level}
use Rattle.query_parameters.specs.declared.level.Level.TheVariants as level
use Rattle.query_words.specs.declared.station.StationQuery.{StationQuery}
use Rattle.epochs.specs.declared.kinds.LineKind.TheVariants.{Sta, Cha}
use Rattle.epochs.specs.Lines.{LineValues}
use Rattle.epoch_rules.specs.Catalog.{IsCatalog}
use Rattle.epoch_rules.specs.KeyOrder.{KeyParts, key_parts_of, line_cmp}
use Rattle.epoch_rules.specs.Rules.{is_line_of}
use Rattle.epoch_rules.proofs.Cuts.{filter_none, filter_joined}
use Rattle.epoch_rules.proofs.Halves.{Rises}
use Rattle.station_text.specs.Asked.{is_line_asked, is_asked_at, asked_lines, names_network, names_station, names_channel, matches_channel, has_channel, is_eligible, selects_station, selects_channel}
use Rattle.station_text.specs.Windows.{line_meets}
use Rattle.station_text.specs.Found.{level_rank, is_of_stations, both_codes, place_of, is_given, has_place, place_cmp, stands_at, asked_at}
use Rattle.station_text.specs.declared.place.Place.{Place}
use Rattle.station_text.proofs.Levels.{filter_within}
use Rattle.station_text.proofs.Places.{places_total, exact_places, codes_of, stands_from, rank_is, stations_rise, one_station}

-- where what passes one test stands before what passes another, the two are filtered one after the other
filter_split : {X : Type 0} (R : X → X → Type 0) (p q : X → Bool) → ((x : X) → p x ≡ true → q x ≡ false) → ((x y : X) → R x y → q x ≡ true → p y ≡ false) → (xs : List X) → Rises R xs
    → filter (λ x. p x || q x) xs ≡ filter p xs ++ filter q xs
filter_split R p q apart later [] h = refl
filter_split {X} R p q apart later (x ∷ xs) h =
    let more : filter (λ x. p x || q x) xs ≡ filter p xs ++ filter q xs = filter_split R p q apart later xs h.1 in
    let rest : List X = filter (λ x. p x || q x) xs in
    elim (p x) as (λ b. p x ≡ b → cond (b || q x) (x ∷ rest) rest ≡ cond b (x ∷ filter p xs) (filter p xs) ++ cond (q x) (x ∷ filter q xs) (filter q xs)) [
      | true ↦ λ e. ap (λ (ys : List X). x ∷ ys) (more ∙ ap (λ (ys : List X). filter p xs ++ ys) (sym (cond-false _ _ _ (apart x e))))
      | false ↦ λ e.
          elim (q x) as (λ b. q x ≡ b → cond b (x ∷ rest) rest ≡ filter p xs ++ cond b (x ∷ filter q xs) (filter q xs)) [
            | true ↦ λ f.
                let none : filter p xs ≡ [] = filter_none p xs (behind x f xs h.0) in
                ap (λ (ys : List X). x ∷ ys) (more ∙ ap (λ (ys : List X). ys ++ filter q xs) none) ∙ sym (ap (λ (ys : List X). ys ++ (x ∷ filter q xs)) none)
            | false ↦ λ f. more
          ] refl
    ] refl
  where
    behind : (x : X) → q x ≡ true → (ys : List X) → AllByRecursion (R x) ys → AllByRecursion (λ y. p y ≡ false) ys
    behind x f [] all = tt
    behind x f (y ∷ ys) all = (later x y all.0 f, behind x f ys all.1)

abbrev pub IsLess : LineValues → LineValues → Type 0
IsLess x y = line_cmp x y ≡ Less

pub rises : (live : List LineValues) → IsStrictlySortedBy line_cmp live → Rises IsLess live
unfolding IsStrictlySortedBy
rises [] h = tt
rises (x ∷ xs) h = (h.0, rises xs h.1)

none_of : {X : Type 0} (test : X → Bool) (xs : List X) → AllByRecursion (λ x. test x ≡ false) xs → list_any test xs ≡ false
none_of test [] all = refl
none_of test (x ∷ xs) all = ap (λ b. b || list_any test xs) all.0 ∙ none_of test xs all.1

is_false : (b : Bool) → (b ≡ true → ⊥) → b ≡ false
is_false true h = absurd (h refl)
is_false false h = refl

-- a line at one station is at no greater one
apart_from : (rank : ℕ) (place : Place) (e : LineValues) (places : List Place) → stands_at rank place e ≡ true → AllByRecursion (λ p. place_cmp place p ≡ Less) places → AllByRecursion (λ p. stands_at rank p e ≡ false) places
apart_from rank place e [] at all = tt
apart_from rank place e (p ∷ ps) at all = (
  is_false (stands_at rank p e) (λ also. let same : place_cmp place p ≡ Equal = one_station rank place p (key_parts_of e) (codes_of rank place e at) (codes_of rank p e also) in let less : place_cmp place p ≡ Less = all.0 in absurd cc),
  apart_from rank place e ps at all.1,
)

not_before : (a b : Place) → place_cmp a b ≡ Less → is_gt (place_cmp b a) ≡ false → ⊥
not_before a b less h = true≢false (ap is_gt (sym (places_total.antisymm b a ∙ ap ordering_reverse less)) ∙ h)

-- a line at one station stands before no line that is at a less one
behind_all : (rank : ℕ) (place : Place) (x y : LineValues) (places : List Place) → line_cmp x y ≡ Less → stands_at rank place y ≡ true → AllByRecursion (λ p. place_cmp place p ≡ Less) places → AllByRecursion (λ p. stands_at rank p x ≡ false) places
behind_all rank place x y [] less at all = tt
behind_all rank place x y (p ∷ ps) less at all = (
  is_false (stands_at rank p x) (λ also. not_before place p all.0 (stations_rise rank p place (key_parts_of x) (key_parts_of y) less (codes_of rank p x also) (codes_of rank place y at))),
  behind_all rank place x y ps less at all.1,
)

-- the lines of stations in order, one station after another, are the lines of these stations
joined : (rank : ℕ) (live : List LineValues) → Rises IsLess live → (places : List Place) → IsStrictlySortedBy place_cmp places
    → flat_map (λ p. filter (stands_at rank p) live) places ≡ filter (λ e. list_any (λ p. stands_at rank p e) places) live
unfolding IsStrictlySortedBy
joined rank live up [] h = sym (filter_none (λ e. false) live (nowhere live))
  where
    nowhere : (es : List LineValues) → AllByRecursion (λ e. false ≡ false) es
    nowhere [] = tt
    nowhere (e ∷ es) = (refl, nowhere es)
joined rank live up (place ∷ places) h =
    ap (λ (es : List LineValues). filter (stands_at rank place) live ++ es) (joined rank live up places h.1)
    ∙ sym (filter_split IsLess (stands_at rank place) (λ e. list_any (λ p. stands_at rank p e) places)
    (λ x at. none_of (λ p. stands_at rank p x) places (apart_from rank place x places at h.0))
    (λ x y less some. is_false (stands_at rank place y) (λ at. true≢false (sym some ∙ none_of (λ p. stands_at rank p x) places (behind_all rank place x y places less at h.0))))
    live up)

-- a filter of lists one after another
flat_filter : {X Y : Type 0} (test : Y → Bool) (f : X → List Y) (xs : List X) → flat_map (λ x. filter test (f x)) xs ≡ filter test (flat_map f xs)
flat_filter test f [] = refl
flat_filter {X} {Y} test f (x ∷ xs) = ap (λ (ys : List Y). filter test (f x) ++ ys) (flat_filter test f xs) ∙ sym (filter_joined test (f x) (flat_map f xs))

or_none : (b : Bool) → (b || false) ≡ b
or_none true = refl
or_none false = refl

-- a list that is one code matches that code alone
pub single_matches : (items : List (List ℕ)) (code other : List ℕ) → single_code items ≡ Some code → is_match_any items other ≡ bytes_eq code other
single_matches [] code other h = absurd cc
single_matches (x ∷ []) code other h = by_plain (list_all is_plain x) refl h
  where
    by_plain : (b : Bool) → list_all is_plain x ≡ b → cond b (Some x) None ≡ Some code → is_match_any (x ∷ []) other ≡ bytes_eq code other
    by_plain true plain is = let same : x ≡ code = cc in or_none (is_match x other) ∙ plain_matches x other plain ∙ ap (λ (c : List ℕ). bytes_eq c other) same
    by_plain false plain is = absurd cc
single_matches (x ∷ y ∷ xs) code other h = absurd cc

pub record AreCodes (network station : Option (List ℕ)) (place : Place) : Type 0 where
  pub network_is : network ≡ Some place.network
  pub station_is : station ≡ Some place.station

pub both_are : (network station : Option (List ℕ)) (place : Place) → both_codes network station ≡ Some place → AreCodes network station place
both_are None station place h = absurd cc
both_are (Some n) None place h = absurd cc
both_are (Some n) (Some s) place h =
    let names : Option Place → List ℕ × List ℕ = λ o. elim o [
      | None ↦ ([], [])
      | Some p ↦ (p.network, p.station)
    ] in
    let same = ap names h in record {
      network_is = ap (λ (p : List ℕ × List ℕ). Some p.0) same;
      station_is = ap (λ (p : List ℕ × List ℕ). Some p.1) same;
    }

-- a line that a selection of one station names stands there
named_there : (rank : ℕ) (s : Selection) (place : Place) (e : LineValues) → place_of s ≡ Some place → (key_parts_of e).rank ≡ rank → names_station s e ≡ true → stands_at rank place e ≡ true
named_there rank s place e is ranks named =
    let p : KeyParts = key_parts_of e in
    let codes = both_are (single_code s.network) (single_code s.station) place is in
    let outer = and_parts (is_match_any s.station p.second) (names_network s e) named in
    let inner = and_parts (is_match_any s.network p.first) (line_meets s e) outer.1 in
    stands_from rank place e (record {
      rank_is = ranks;
      first_is = sym ((bytes_eq-Decides place.network p.first).0 (sym (single_matches s.network place.network p.first codes.network_is) ∙ inner.0));
      second_is = sym ((bytes_eq-Decides place.station p.second).0 (sym (single_matches s.station place.station p.second codes.station_is) ∙ outer.0));
    })

or_second : (a b : Bool) → b ≡ true → (a || b) ≡ true
or_second true b h = refl
or_second false b h = h

-- it stands at the station of one of the selections
stands_somewhere : (rank : ℕ) (e : LineValues) (names : Selection → Bool) → ((s : Selection) → names s ≡ true → names_station s e ≡ true) → (key_parts_of e).rank ≡ rank
    → (ss : List Selection) → list_all has_place ss ≡ true → list_any names ss ≡ true → list_any (λ p. stands_at rank p e) (filter_map place_of ss) ≡ true
stands_somewhere rank e names means ranks [] all some = absurd (false≢true some)
stands_somewhere rank e names means ranks (s ∷ ss) all some =
    let parts = and_parts (has_place s) (list_all has_place ss) all in
    elim (place_of s) as (λ o. place_of s ≡ o → is_given o ≡ true → list_any (λ p. stands_at rank p e) (cons_option o (filter_map place_of ss)) ≡ true) [
      | None ↦ λ is given. absurd (false≢true given)
      | Some place ↦ λ is given.
          elim (names s) as (λ b. names s ≡ b → (b || list_any names ss) ≡ true → (stands_at rank place e || list_any (λ p. stands_at rank p e) (filter_map place_of ss)) ≡ true) [
            | true ↦ λ named h. ap (λ b. b || list_any (λ p. stands_at rank p e) (filter_map place_of ss)) (named_there rank s place e is ranks (means s named))
            | false ↦ λ other h. or_second _ _ (stands_somewhere rank e names means ranks ss parts.1 h)
          ] refl some
    ] refl parts.0

-- so does each line that is asked for
asked_stands : (level : Level) (live : List LineValues) (q : StationQuery) (e : LineValues) → is_of_stations level ≡ true → list_all has_place q.selections ≡ true → is_asked_at level live q e ≡ true
    → list_any (λ p. stands_at (level_rank level) p e) (filter_map place_of q.selections) ≡ true
asked_stands level.Network live q e below all asked = absurd (false≢true below)
asked_stands level.Station live q e below all asked =
    let parts = and_parts (is_line_of Sta e && is_eligible q e) (selects_station live q e) asked in
    stands_somewhere 1 e (λ s. names_station s e && has_channel live s e) (λ s h. (and_parts (names_station s e) (has_channel live s e) h).0)
    (rank_is Sta e (and_parts (is_line_of Sta e) (is_eligible q e) parts.0).0) q.selections all parts.1
asked_stands level.Channel live q e below all asked =
    let parts = and_parts (is_line_of Cha e && is_eligible q e) (selects_channel q e) asked in
    stands_somewhere 2 e (λ s. names_channel s e) (λ s h. (and_parts (matches_channel s e) (names_station s e) h).1)
    (rank_is Cha e (and_parts (is_line_of Cha e) (is_eligible q e) parts.0).0) q.selections all parts.1

pub both_or_one : (a b : Bool) → (b ≡ true → a ≡ true) → (a && b) ≡ b
both_or_one true b h = refl
both_or_one false true h = h refl
both_or_one false false h = refl

pub found_at_places : (live : List LineValues) (q : StationQuery) (places : List Place) → IsCatalog live → is_of_stations q.level ≡ true → list_all has_place q.selections ≡ true
    → places ≡ in_order place_cmp [] (filter_map place_of q.selections)
    → flat_map (asked_at live q) places ≡ asked_lines live q
found_at_places live q places catalog below all are =
    let rank : ℕ = level_rank q.level in
    let keys : List Place = in_order place_cmp [] (filter_map place_of q.selections) in
    let test : LineValues → Bool = is_line_asked live q in
    let stands : LineValues → Bool = λ e. list_any (λ p. stands_at rank p e) keys in
    ap (flat_map (asked_at live q)) are
    ∙ flat_filter test (λ p. filter (stands_at rank p) live) keys
    ∙ ap (filter test) (joined rank live (rises live catalog.rises) keys (sorted_in_order places_total (filter_map place_of q.selections)))
    ∙ filter_within test stands
    (λ e. both_or_one (stands e) (test e) (λ h. any_in_order exact_places (λ p. stands_at rank p e) (filter_map place_of q.selections) ∙ asked_stands q.level live q e below all h)) live
