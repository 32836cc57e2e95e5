-- The selections that match a line's network and station decide.
use Rattle.std.proofs.Common.{◌≡◌, Bool, true, false, ◌&&◌, ◌||◌, if◌then◌else◌, List, [], ◌∷◌, Some, None, refl, ap, ◌∙◌}
use Rattle.std.specs.List.{list_any}
use Rattle.dataselect.specs.declared.query.Selection.{Selection}
use Rattle.dataselect.proofs.Winners.{any_filtered}
use Rattle.query_parameters.specs.declared.level.Level.{Level}
use Rattle.query_parameters.specs.declared.level.Level.TheVariants as level
use Rattle.query_words.specs.declared.station.StationQuery.{StationQuery}
use Rattle.channel_globs.specs.Matching.{is_match_any}
use Rattle.epochs.specs.declared.kinds.LineKind.TheVariants.{Sta, Cha}
use Rattle.epochs.specs.Lines.{LineValues}
use Rattle.epoch_rules.specs.KeyOrder.{key_parts_of}
use Rattle.epoch_rules.specs.Rules.{is_line_of}
use Rattle.station_text.specs.Asked.{names_station, names_channel, matches_channel, has_channel, selects_station, selects_channel, is_eligible, is_asked_at}
use Rattle.station_text.specs.Windows.{line_meets}
use Rattle.station_text.specs.Matched.{on_network, on_station, line_place, takes_station, takes_channel, is_asked_by}
use Rattle.station_text.specs.declared.place.Place.{Place}

pub any_same : {X : Type 0} (p q : X → Bool) → ((x : X) → p x ≡ q x) → (xs : List X) → list_any p xs ≡ list_any q xs
any_same p q same [] = refl
any_same p q same (x ∷ xs) = ap (λ b. b || list_any p xs) (same x) ∙ ap (λ b. q x || b) (any_same p q same xs)

of_station : (network station window channels : Bool) → (network && (station && (window && channels))) ≡ (station && (network && window) && channels)
of_station true true window channels = refl
of_station true false window channels = refl
of_station false true window channels = refl
of_station false false window channels = refl

of_channel : (network station codes window : Bool) → (network && (station && (codes && window))) ≡ (codes && (station && (network && window)))
of_channel true true codes window = refl
of_channel true false true window = refl
of_channel true false false window = refl
of_channel false true true window = refl
of_channel false true false window = refl
of_channel false false true window = refl
of_channel false false false window = refl

-- of the line of a station
station_decided : (live : List LineValues) (q : StationQuery) (e : LineValues) → list_any (takes_station live e) (on_station (key_parts_of e).second (on_network (key_parts_of e).first q.selections)) ≡ selects_station live q e
station_decided live q e =
    any_filtered (takes_station live e) (λ s. is_match_any s.station (key_parts_of e).second) (on_network (key_parts_of e).first q.selections)
    ∙ any_filtered (λ s. is_match_any s.station (key_parts_of e).second && takes_station live e s) (λ s. is_match_any s.network (key_parts_of e).first) q.selections
    ∙ any_same (λ s. is_match_any s.network (key_parts_of e).first && (is_match_any s.station (key_parts_of e).second && takes_station live e s)) (λ s. names_station s e && has_channel live s e)
    (λ s. of_station (is_match_any s.network (key_parts_of e).first) (is_match_any s.station (key_parts_of e).second) (line_meets s e) (has_channel live s e)) q.selections

-- of the line of a channel
channel_decided : (q : StationQuery) (e : LineValues) → list_any (takes_channel e) (on_station (key_parts_of e).second (on_network (key_parts_of e).first q.selections)) ≡ selects_channel q e
channel_decided q e =
    any_filtered (takes_channel e) (λ s. is_match_any s.station (key_parts_of e).second) (on_network (key_parts_of e).first q.selections)
    ∙ any_filtered (λ s. is_match_any s.station (key_parts_of e).second && takes_channel e s) (λ s. is_match_any s.network (key_parts_of e).first) q.selections
    ∙ any_same (λ s. is_match_any s.network (key_parts_of e).first && (is_match_any s.station (key_parts_of e).second && takes_channel e s)) (λ s. names_channel s e)
    (λ s. of_channel (is_match_any s.network (key_parts_of e).first) (is_match_any s.station (key_parts_of e).second) (matches_channel s e) (line_meets s e)) q.selections

pub here : LineValues → Place
here e = record { network = (key_parts_of e).first; station = (key_parts_of e).second }

at_station : (e : LineValues) → is_line_of Sta e ≡ true → line_place e ≡ Some (here e)
unfolding here
at_station e h = ap (λ b. if b || is_line_of Cha e then Some (here e) else None) h

or_true : (b : Bool) → (b || true) ≡ true
or_true true = refl
or_true false = refl

at_channel : (e : LineValues) → is_line_of Cha e ≡ true → line_place e ≡ Some (here e)
unfolding here
at_channel e h = ap (λ b. if is_line_of Sta e || b then Some (here e) else None) h ∙ ap (λ b. if b then Some (here e) else None) (or_true (is_line_of Sta e))

-- the station of a line has the line's codes
pub line_place_is : (e : LineValues) (p : Place) → line_place e ≡ Some p → record { network = (key_parts_of e).first; station = (key_parts_of e).second } ≡ p
line_place_is e p = by_test (is_line_of Sta e || is_line_of Cha e)
  where
    by_test : (b : Bool) → (if b then Some (record { network = (key_parts_of e).first; station = (key_parts_of e).second }) else None) ≡ Some p → record { network = (key_parts_of e).first; station = (key_parts_of e).second } ≡ p
    by_test true h = cc
    by_test false h = absurd cc

abbrev pub Keeps : StationQuery → LineValues → List Selection → Type 0
Keeps q e found = (place : Place) → line_place e ≡ Some place → found ≡ on_station place.station (on_network place.network q.selections)

by_station : (live : List LineValues) (q : StationQuery) (e : LineValues) (found : List Selection) → Keeps q e found → is_asked_by level.Station live q found e ≡ is_asked_at level.Station live q e
unfolding here
by_station live q e found keeps =
    elim (is_line_of Sta e) as (λ b. is_line_of Sta e ≡ b → (b && (is_eligible q e && list_any (takes_station live e) found)) ≡ (b && is_eligible q e && selects_station live q e)) [
      | true ↦ λ h. ap (λ b. is_eligible q e && b) (ap (list_any (takes_station live e)) (keeps (here e) (at_station e h)) ∙ station_decided live q e)
      | false ↦ λ h. refl
    ] refl

by_channel : (live : List LineValues) (q : StationQuery) (e : LineValues) (found : List Selection) → Keeps q e found → is_asked_by level.Channel live q found e ≡ is_asked_at level.Channel live q e
unfolding here
by_channel live q e found keeps =
    elim (is_line_of Cha e) as (λ b. is_line_of Cha e ≡ b → (b && (is_eligible q e && list_any (takes_channel e) found)) ≡ (b && is_eligible q e && selects_channel q e)) [
      | true ↦ λ h. ap (λ b. is_eligible q e && b) (ap (list_any (takes_channel e)) (keeps (here e) (at_channel e h)) ∙ channel_decided q e)
      | false ↦ λ h. refl
    ] refl

pub decided : (level : Level) (live : List LineValues) (q : StationQuery) (e : LineValues) (found : List Selection) → Keeps q e found → is_asked_by level live q found e ≡ is_asked_at level live q e
decided level.Network live q e found keeps = refl
decided level.Station live q e found keeps = by_station live q e found keeps
decided level.Channel live q e found keeps = by_channel live q e found keeps
