-- One station's selections are new or more: what all of them are. And where each selection names one station, these
-- are the selections that match its codes.
use Rattle.std.proofs.Common.{◌≡◌, Bool, true, false, ◌&&◌, List, [], ◌∷◌, ◌++◌, filter, cond, Option, Some, None, refl, sym, ap, ◌∙◌}
use Rattle.std.specs.BTreeMap.{BTreeMap, get}
use Rattle.std.specs.List.{list_all}
use Rattle.std.proofs.lemmas.Bool.{and_parts, false≢true}
use Rattle.std.proofs.lemmas.Map.Views.{tells_apart}
use Rattle.channel_globs.specs.Matching.{is_match_any, single_code}
use Rattle.dataselect.specs.declared.query.Selection.{Selection}
use Rattle.query_words.specs.declared.station.StationQuery.{StationQuery}
use Rattle.epochs.specs.Lines.{LineValues}
use Rattle.epoch_catalog.proofs.FamilyPlaces.{same_text, both_eq}
use Rattle.epoch_rules.specs.KeyOrder.{text_cmp}
use Rattle.station_text.specs.Asked.{is_line_asked}
use Rattle.station_text.specs.Found.{place_of, is_given, has_place, place_cmp, level_rank, stands_at, asked_at, on_place}
use Rattle.station_text.specs.Groups.{is_same_place, is_place, is_of, group_in, group_at}
use Rattle.station_text.specs.Matched.{on_network, on_station, is_asked_by}
use Rattle.station_text.specs.declared.groups.Group.{Group}
use Rattle.station_text.specs.declared.place.Place.{Place}
use Rattle.station_text.proofs.Decided.{decided, line_place_is}
use Rattle.station_text.proofs.Places.{exact_places, codes_of}
use Rattle.station_text.proofs.PlacesFound.{single_matches, both_are}

same_place : (a b : Place) → is_same_place a b ≡ true → a ≡ b
same_place a b h = tells_apart exact_places a b h

pub group_grown : (m n : BTreeMap Place Group) (place : Place) (old : Option Group) (new : Group) (s : Selection) → get place_cmp m place ≡ old
    → ((p : Place) → get place_cmp n p ≡ cond (is_same_place place p) (Some new) (get place_cmp m p))
    → group_in (Some new) ≡ group_in old ++ s ∷ []
    → (p : Place) → group_at n p ≡ cond (is_same_place place p) (group_at m p ++ s ∷ []) (group_at m p)
group_grown m n place old new s was updates grown p =
    ap group_in (updates p)
    ∙ elim (is_same_place place p) as (λ b. is_same_place place p ≡ b → group_in (cond b (Some new) (get place_cmp m p)) ≡ cond b (group_at m p ++ s ∷ []) (group_at m p)) [
      | true ↦ λ t. grown ∙ sym (ap (λ (o : Option Group). group_in o ++ s ∷ []) (ap (get place_cmp m) (sym (same_place place p t)) ∙ was))
      | false ↦ λ _. refl
    ] refl

-- a selection joins those of its station alone
pub joined_by : (m n : BTreeMap Place Group) (place : Place) (s : Selection) → place_of s ≡ Some place
    → ((p : Place) → group_at n p ≡ cond (is_same_place place p) (group_at m p ++ s ∷ []) (group_at m p))
    → (p : Place) → group_at n p ≡ group_at m p ++ filter (is_of p) (s ∷ [])
joined_by m n place s is grown p =
    grown p
    ∙ elim (is_same_place place p) as (λ b. is_same_place place p ≡ b → cond b (group_at m p ++ s ∷ []) (group_at m p) ≡ group_at m p ++ filter (is_of p) (s ∷ [])) [
      | true ↦ λ t. sym (ap (λ b. group_at m p ++ cond b (s ∷ []) []) (ap (is_place p) is ∙ t))
      | false ↦ λ f. sym (ap (λ b. group_at m p ++ cond b (s ∷ []) []) (ap (is_place p) is ∙ f) ∙ append_none (group_at m p))
    ] refl
  where
    append_none : (ss : List Selection) → ss ++ [] ≡ ss
    append_none [] = refl
    append_none (x ∷ xs) = ap (λ (ys : List Selection). x ∷ ys) (append_none xs)

pub joined_none : (m : BTreeMap Place Group) (s : Selection) → place_of s ≡ None → (p : Place) → group_at m p ≡ group_at m p ++ filter (is_of p) (s ∷ [])
joined_none m s is p = sym (ap (λ b. group_at m p ++ cond b (s ∷ []) []) (ap (is_place p) is) ∙ append_none (group_at m p))
  where
    append_none : (ss : List Selection) → ss ++ [] ≡ ss
    append_none [] = refl
    append_none (x ∷ xs) = ap (λ (ys : List Selection). x ∷ ys) (append_none xs)

-- a selection that names one station is of that whose codes it matches
of_is : (s : Selection) (p place : Place) → place_of s ≡ Some place → is_of p s ≡ (is_match_any s.network p.network && is_match_any s.station p.station)
of_is s p place is =
    let codes = both_are (single_code s.network) (single_code s.station) place is in
    ap (is_place p) is
    ∙ both_eq (text_cmp place.network p.network) (text_cmp place.station p.station)
    ∙ (λ i. same_text place.network p.network i && same_text place.station p.station i)
    ∙ (λ i. sym (single_matches s.network place.network p.network codes.network_is) i && sym (single_matches s.station place.station p.station codes.station_is) i)

both_filters : (p : Place) (s : Selection) (ss : List Selection) → cond (is_match_any s.network p.network && is_match_any s.station p.station) (s ∷ on_place p ss) (on_place p ss) ≡ on_place p (s ∷ ss)
both_filters p s ss =
    elim (is_match_any s.network p.network) as (λ b. cond (b && is_match_any s.station p.station) (s ∷ on_place p ss) (on_place p ss) ≡ on_station p.station (cond b (s ∷ on_network p.network ss) (on_network p.network ss))) [
      | true ↦ refl
      | false ↦ refl
    ]

-- the selections of a station are those that match its codes
pub groups_match : (p : Place) (ss : List Selection) → list_all has_place ss ≡ true → filter (is_of p) ss ≡ on_place p ss
groups_match p [] all = refl
groups_match p (s ∷ ss) all =
    let parts = and_parts (has_place s) (list_all has_place ss) all in
    let here : is_of p s ≡ (is_match_any s.network p.network && is_match_any s.station p.station) =
    elim (place_of s) as (λ o. place_of s ≡ o → is_given o ≡ true → is_of p s ≡ (is_match_any s.network p.network && is_match_any s.station p.station)) [
      | None ↦ λ is given. absurd (false≢true given)
      | Some place ↦ λ is given. of_is s p place is
    ] refl parts.0 in
    (λ i. cond (here i) (s ∷ groups_match p ss parts.1 i) (groups_match p ss parts.1 i)) ∙ both_filters p s ss

filter_same_where : {X : Type 0} (p q r : X → Bool) → ((x : X) → r x ≡ true → p x ≡ q x) → (xs : List X) → filter p (filter r xs) ≡ filter q (filter r xs)
filter_same_where p q r same [] = refl
filter_same_where {X} p q r same (x ∷ xs) =
    let more : filter p (filter r xs) ≡ filter q (filter r xs) = filter_same_where p q r same xs in
    elim (r x) as (λ b. r x ≡ b → filter p (cond b (x ∷ filter r xs) (filter r xs)) ≡ filter q (cond b (x ∷ filter r xs) (filter r xs))) [
      | true ↦ λ h. (λ i. cond (same x h i) (x ∷ more i) (more i))
      | false ↦ λ h. more
    ] refl

-- at the lines of a station these selections decide
pub decided_at : (live : List LineValues) (q : StationQuery) (place : Place) (found : List Selection) → found ≡ on_place place q.selections
    → filter (is_asked_by q.level live q found) (filter (stands_at (level_rank q.level) place) live) ≡ asked_at live q place
decided_at live q place found is =
    filter_same_where (is_asked_by q.level live q found) (is_line_asked live q) (stands_at (level_rank q.level) place)
    (λ e at. decided q.level live q e found (λ p named.
    let codes = codes_of (level_rank q.level) place e at in
    let same : place ≡ p = (λ i. record { network = sym codes.first_is i; station = sym codes.second_is i }) ∙ line_place_is e p named in
    is ∙ ap (λ (p : Place). on_place p q.selections) same)) live
