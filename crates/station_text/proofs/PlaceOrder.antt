-- A selection of one station asks for no other.
use Rattle.std.proofs.Common.{◌≡◌, ℕ, Bool, true, false, ◌&&◌, ◌==◌, List, Some, filter, refl, sym, ap, ◌∙◌}
use Rattle.std.specs.List.{list_any}
use Rattle.std.specs.Str.{bytes_eq}
use Rattle.std.proofs.lemmas.Bool.{true≢false, and_parts, eq-eqb}
use Rattle.channel_globs.specs.Matching.{is_match_any, single_code}
use Rattle.dataselect.specs.declared.query.Selection.{Selection}
use Rattle.dataselect.proofs.Winners.{any_filtered}
use Rattle.query_parameters.specs.declared.area.Area.{Area}
use Rattle.epochs.specs.declared.kinds.LineKind.TheVariants.{Sta}
use Rattle.epochs.specs.Lines.{LineValues}
use Rattle.epoch_rules.specs.KeyOrder.{KeyParts, key_parts_of}
use Rattle.epoch_rules.specs.Rules.{is_line_of, contains}
use Rattle.station_text.specs.Asked.{stations_of, is_inner_station, asks_inside, is_wanted, has_channel}
use Rattle.station_text.specs.Windows.{is_in_area}
use Rattle.station_text.specs.Found.{stands_at}
use Rattle.station_text.specs.declared.place.Place.{Place}
use Rattle.station_text.proofs.Decided.{any_same}
use Rattle.station_text.proofs.Places.{rank_is, stands_by_codes}
use Rattle.station_text.proofs.SectionOrder.{both_same, code_at}

-- at a station that is asked for, to be of the place is to be of the network
three : (rank first second kind : Bool) → rank ≡ true → kind ≡ true → second ≡ true → (rank && (first && second)) ≡ (kind && first)
three true true true true a b c = refl
three true false true true a b c = refl
three false first second kind a b c = absurd (true≢false (sym a))
three true first false kind a b c = absurd (true≢false (sym c))
three true first true false a b c = absurd (true≢false (sym b))

module _ (area : Area) (s : Selection) (e : LineValues) (place : Place) (network_is : place.network ≡ (key_parts_of e).first) (station_is : single_code s.station ≡ Some place.station) where
  abbrev is_there : LineValues → Bool
  is_there t = is_line_of Sta t && bytes_eq (key_parts_of t).first (key_parts_of e).first

  there : (live : List LineValues) (t : LineValues) → is_inner_station live area s e t ≡ true → stands_at 1 place t ≡ is_there t
  there live t h =
      let p : KeyParts = key_parts_of t in
      let outer = and_parts (is_line_of Sta t && contains e t) (asks_inside live area s t) h in
      let kind = (and_parts (is_line_of Sta t) (contains e t) outer.0).0 in
      let wanted = (and_parts (is_wanted area s t) (has_channel live s t) outer.1).0 in
      let code = (and_parts (is_match_any s.station p.second) (is_in_area area t) wanted).0 in
      stands_by_codes 1 place t
      ∙ three (p.rank == 1) (bytes_eq p.first place.network) (bytes_eq p.second place.station) (is_line_of Sta t) (eq-eqb p.rank 1 (rank_is Sta t kind)) kind (code_at s.station place.station p.second station_is code)
      ∙ ap (λ (n : List ℕ). is_line_of Sta t && bytes_eq p.first n) network_is

  -- the stations that are asked for are those of the place that are
  pub place_decides : (live : List LineValues) → list_any (is_inner_station live area s e) (filter (stands_at 1 place) live) ≡ list_any (is_inner_station live area s e) (stations_of e live)
  place_decides live =
      any_filtered (is_inner_station live area s e) (stands_at 1 place) live
      ∙ any_same (λ t. stands_at 1 place t && is_inner_station live area s e t) (λ t. is_there t && is_inner_station live area s e t) (λ t. both_same (stands_at 1 place t) (is_there t) (is_inner_station live area s e t) (there live t)) live
      ∙ sym (any_filtered (is_inner_station live area s e) is_there live)
