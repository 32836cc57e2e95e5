-- Every query string and every body asks station for one query, or has one fault.
use Rattle.std.proofs.Common.{◌≡◌, inl, inr, ℕ, List, [], ◌∷◌, Option, Result, Ok, Err, length, refl, sym, subst, codes}
use Rattle.std.proofs.lemmas.Bool.{cases_lt}
use Rattle.list_laws.specs.Only.{IsOnly}
use Rattle.exact_time.specs.declared.moment.Moment.{Moment}
use Rattle.channel_globs.specs.declared.nslc.Part.{Part}
use Rattle.channel_globs.specs.declared.nslc.Part.TheVariants.{Network, Station, Location, Channel}
use Rattle.channel_globs.specs.PatternText.{IsPatternList}
use Rattle.dataselect.specs.declared.query.Selection.{Selection}
use Rattle.query_parameters.specs.Bodies.{parameters_in, parameter_lines, selection_lines, AreSelections, TakesLine, RefusesLine, TakesSelection, RefusesSelection}
use Rattle.query_parameters.specs.FirstRefusals.{AreTaken}
use Rattle.query_parameters.specs.Gets.{text_or, IsWindowInOrder, AreCodes, AreLimits, IsRight, LacksNone}
use Rattle.query_parameters.specs.Parameters.{Parameter, pairs_of, parameters_of, given, TakesParameter, RefusesParameter}
use Rattle.query_parameters.specs.Places.{AreBounds, IsAreaInOrder}
use Rattle.query_words.specs.StationOptions.{AreStationOptions}
use Rattle.query_parameters.specs.Posts.{AreFew, IsRightFront}
use Rattle.query_parameters.specs.Rows.{Text, kind_of}
use Rattle.query_words.specs.Tables.{station_names, station_options}
use Rattle.query_words.specs.StationGet.{IsStationGet, IsStationTurned, IsStationGetFault}
use Rattle.query_words.specs.StationPost.{IsStationPost, IsAreaTurned, IsStationPostFault}
use Rattle.query_parameters.specs.Values.{CanRead}
use Rattle.query_parameters.specs.declared.fault.QueryFault.{QueryFault}
use Rattle.query_parameters.specs.declared.fault.QueryFault.TheVariants.{TooMany, Order, NoLine}
use Rattle.query_parameters.specs.declared.rows.ValueKind.{ValueKind}
use Rattle.query_parameters.specs.declared.rows.ValueKind.TheVariants as kind
use Rattle.query_parameters.specs.declared.area.Area.{Area}
use Rattle.query_parameters.specs.declared.level.Level.TheVariants as level
use Rattle.query_words.specs.declared.station.StationQuery.{StationQuery}
use Rattle.query_parameters.proofs.GivenFound.{given_reads, default_reads, any_list, limit_given, no_nodata, in_time_or_backwards, wrong_answer}
use Rattle.query_parameters.proofs.OneGet.{not_backwards}
use Rattle.query_parameters.proofs.OnePlace.{one_area}
use Rattle.query_words.proofs.OneStation.{only_get, only_post}
use Rattle.query_parameters.proofs.LinesFound.{line_found, line_selects, selections_of, parameters_taken, some_or_nothing, wrong_front, wrong_rest}
use Rattle.query_parameters.proofs.RefusalLaws.{taken_or_refused}
use Rattle.query_parameters.proofs.ValuesFound.{parameter_found}
use Rattle.query_parameters.proofs.PlacesFound.{area_or_not, latitude_given, longitude_given}

-- what right parameters of a query string say
module _ (ps : List Parameter) (taken : AreTaken (TakesParameter station_names) [] ps) where
  said_bounds : (area : Area) × AreBounds station_names ps area
  said_bounds =
      let south = latitude_given (given station_names 11 ps) (given_reads station_names 11 [] ps taken) in
      let north = latitude_given (given station_names 12 ps) (given_reads station_names 12 [] ps taken) in
      let west = longitude_given (given station_names 13 ps) (given_reads station_names 13 [] ps taken) in
      let east = longitude_given (given station_names 14 ps) (given_reads station_names 14 [] ps taken) in (
        record { latitude = record { least = south.0; most = north.0 }; longitude = record { least = west.0; most = east.0 } },
        record { south_is = south.1; north_is = north.1; west_is = west.1; east_is = east.1 },
      )

  said_options : (selections : List Selection) (area : Area) → AreBounds station_names ps area → (q : StationQuery) × (q.selections ≡ selections) × (q.area ≡ area) × AreStationOptions station_names ps q
  said_options selections area bounds =
      let nodata = default_reads kind.Nodata (codes "204") no_nodata (given station_names 6 ps) (given_reads station_names 6 [] ps taken) in
      let start_before = limit_given (given station_names 7 ps) (given_reads station_names 7 [] ps taken) in
      let start_after = limit_given (given station_names 8 ps) (given_reads station_names 8 [] ps taken) in
      let end_before = limit_given (given station_names 9 ps) (given_reads station_names 9 [] ps taken) in
      let end_after = limit_given (given station_names 10 ps) (given_reads station_names 10 [] ps taken) in
      let level = default_reads kind.Level (codes "station") (level.Station, refl) (given station_names 15 ps) (given_reads station_names 15 [] ps taken) in (
        record {
          selections = selections;
          start_before = start_before.0;
          start_after = start_after.0;
          end_before = end_before.0;
          end_after = end_after.0;
          area = area;
          level = level.0;
          nodata = nodata.0;
        },
        refl,
        refl,
        record {
          nodata_is = nodata.1;
          start_before_is = start_before.1;
          start_after_is = start_after.1;
          end_before_is = end_before.1;
          end_after_is = end_after.1;
          bounds = bounds;
          level_is = level.1;
        },
      )

-- what right parameters of a body say
module _ (ps : List Parameter) (taken : AreTaken (TakesParameter station_options) [] ps) where
  posted_bounds : (area : Area) × AreBounds station_options ps area
  posted_bounds =
      let south = latitude_given (given station_options 5 ps) (given_reads station_options 5 [] ps taken) in
      let north = latitude_given (given station_options 6 ps) (given_reads station_options 6 [] ps taken) in
      let west = longitude_given (given station_options 7 ps) (given_reads station_options 7 [] ps taken) in
      let east = longitude_given (given station_options 8 ps) (given_reads station_options 8 [] ps taken) in (
        record { latitude = record { least = south.0; most = north.0 }; longitude = record { least = west.0; most = east.0 } },
        record { south_is = south.1; north_is = north.1; west_is = west.1; east_is = east.1 },
      )

  posted_options : (selections : List Selection) (area : Area) → AreBounds station_options ps area → (q : StationQuery) × (q.selections ≡ selections) × (q.area ≡ area) × AreStationOptions station_options ps q
  posted_options selections area bounds =
      let nodata = default_reads kind.Nodata (codes "204") no_nodata (given station_options 0 ps) (given_reads station_options 0 [] ps taken) in
      let start_before = limit_given (given station_options 1 ps) (given_reads station_options 1 [] ps taken) in
      let start_after = limit_given (given station_options 2 ps) (given_reads station_options 2 [] ps taken) in
      let end_before = limit_given (given station_options 3 ps) (given_reads station_options 3 [] ps taken) in
      let end_after = limit_given (given station_options 4 ps) (given_reads station_options 4 [] ps taken) in
      let level = default_reads kind.Level (codes "station") (level.Station, refl) (given station_options 9 ps) (given_reads station_options 9 [] ps taken) in (
        record {
          selections = selections;
          start_before = start_before.0;
          start_after = start_after.0;
          end_before = end_before.0;
          end_after = end_after.0;
          area = area;
          level = level.0;
          nodata = nodata.0;
        },
        refl,
        refl,
        record {
          nodata_is = nodata.1;
          start_before_is = start_before.1;
          start_after_is = start_after.1;
          end_before_is = end_before.1;
          end_after_is = end_after.1;
          bounds = bounds;
          level_is = level.1;
        },
      )

module _ (ps : List Parameter) (taken : AreTaken (TakesParameter station_names) [] ps) where
  list_under : (part : Part) (row : ℕ) → kind_of station_names row ≡ kind.Patterns part → (list : List Text) × IsPatternList part (text_or (codes "*") (given station_names row ps)) list
  list_under part row is =
      default_reads (kind.Patterns part) (codes "*") (any_list part) (given station_names row ps) (λ text e. subst (λ (k : ValueKind). CanRead k text) is (given_reads station_names row [] ps taken text e))

  selection_found : (start end : Option Moment) → (s : Selection) × (s.start ≡ start) × (s.end ≡ end) × AreCodes station_names ps s
  selection_found start end =
      let network = list_under Network 2 refl in
      let station = list_under Station 3 refl in
      let location = list_under Location 4 refl in
      let channel = list_under Channel 5 refl in (
        record { network = network.0; station = station.0; location = location.0; channel = channel.0; start = start; end = end },
        refl,
        refl,
        record { network_is = network.1; station_is = station.1; location_is = location.1; channel_is = channel.1 },
      )

  limits_found : (start : Option Moment) × (end : Option Moment) × AreLimits station_names ps start end
  limits_found =
      let start = limit_given (given station_names 0 ps) (given_reads station_names 0 [] ps taken) in
      let end = limit_given (given station_names 1 ps) (given_reads station_names 1 [] ps taken) in
      (start.0, end.0, record { start_is = start.1; end_is = end.1 })

abbrev Answer : Text → Type 0
Answer query = (answer : Result StationQuery QueryFault) × IsOnly (IsStationGet query) (IsStationGetFault query) answer

-- right parameters ask for a query, or their limits are in no order
right_answer : (query : Text) → IsRight station_names query → Answer query
right_answer query right =
    let limits = limits_found (parameters_of query) right.taken in
    let bounds = said_bounds (parameters_of query) right.taken in
    elim (in_time_or_backwards limits.0 limits.1) [
      | inr late ↦
          let why : ¬ (IsWindowInOrder limits.0 limits.1) = λ forwards. not_backwards limits.0 limits.1 late.0 late.1 late.2 late.3 forwards late.4 in
          (Err Order, only_get query (Err Order) (record { right = right; start = limits.0; end = limits.1; window = limits.2; area = bounds.0; bounds = bounds.1; turned = inl why }))
      | inl forwards ↦ elim (area_or_not bounds.0) [
        | inr off ↦ (Err Order, only_get query (Err Order) (record { right = right; start = limits.0; end = limits.1; window = limits.2; area = bounds.0; bounds = bounds.1; turned = inr off }))
        | inl in_order ↦
            let s = selection_found (parameters_of query) right.taken limits.0 limits.1 in
            let q = said_options (parameters_of query) right.taken (s.0 ∷ []) bounds.0 bounds.1 in (
              Ok q.0,
              only_get query (Ok q.0) (record {
                right = right;
                selection = s.0;
                only = q.1;
                names = s.3;
                window = subst (λ (m : Option Moment). AreLimits station_names (parameters_of query) s.0.start m) (sym s.2) (subst (λ (m : Option Moment). AreLimits station_names (parameters_of query) m limits.1) (sym s.1) limits.2);
                in_time = subst (λ (m : Option Moment). IsWindowInOrder s.0.start m) (sym s.2) (subst (λ (m : Option Moment). IsWindowInOrder m limits.1) (sym s.1) forwards);
                options = q.3;
                in_order = subst (λ (a : Area). IsAreaInOrder a) (sym q.2) in_order;
              }),
            )
      ]
    ]

-- every query string is one query, or has one fault
pub get_or_fault : (query : Text) → Answer query
get_or_fault query =
    elim (cases_lt 1000 (length (pairs_of query))) [
      | inl many ↦ (Err TooMany, only_get query (Err TooMany) many)
      | inr few ↦ elim (taken_or_refused (TakesParameter station_names) (RefusesParameter station_names) (parameter_found station_names) (parameters_of query)) [
        | inl taken ↦ right_answer query (record { few = few; taken = taken })
        | inr first ↦ (Err first.0, only_get query (Err first.0) (wrong_answer station_names LacksNone IsStationTurned query few first.0 first.1))
      ]
    ]

abbrev PostAnswer : Text → Type 0
PostAnswer body = (answer : Result StationQuery QueryFault) × IsOnly (IsStationPost body) (IsStationPostFault body) answer

-- right lines ask for a query, or their limits are in no order, or none of them selects
right_body_answer : (body : Text) → IsRightFront station_options body → AreTaken TakesSelection [] (selection_lines body) → PostAnswer body
right_body_answer body right taken =
    let ps = parameters_taken station_options [] (parameter_lines body) right.taken in
    let bounds = posted_bounds (parameters_in (parameter_lines body)) ps in
    elim (area_or_not bounds.0) [
      | inr off ↦ (Err Order, only_post body (Err Order) (record { right = right; rest = taken }, record { area = bounds.0; bounds = bounds.1; turned = off }))
      | inl in_order ↦ elim (some_or_nothing (selection_lines body)) [
        | inr nothing ↦
            let ordered : ¬ (IsAreaTurned body) = λ k. k.turned (subst (λ (a : Area). IsAreaInOrder a) (one_area station_options (parameters_in (parameter_lines body)) bounds.0 k.area bounds.1 k.bounds) in_order) in
            (Err NoLine, only_post body (Err NoLine) (record { right = right; rest = taken }, ordered, nothing))
        | inl some ↦
            let ss = selections_of [] (selection_lines body) taken in
            let q = posted_options (parameters_in (parameter_lines body)) ps ss.0 bounds.0 bounds.1 in (
              Ok q.0,
              only_post body (Ok q.0) (record {
                right = right;
                selections_are = subst (λ (xs : List Selection). AreSelections (selection_lines body) xs) (sym q.1) ss.1;
                some = some;
                options = q.3;
                in_order = subst (λ (a : Area). IsAreaInOrder a) (sym q.2) in_order;
              }),
            )
      ]
    ]

few_answer : (body : Text) → AreFew body → PostAnswer body
few_answer body few =
    elim (taken_or_refused (TakesLine station_options) (RefusesLine station_options) (line_found station_options) (parameter_lines body)) [
      | inr first ↦ (Err first.0, only_post body (Err first.0) (wrong_front station_options IsAreaTurned body few first.0 first.1))
      | inl front ↦ elim (taken_or_refused TakesSelection RefusesSelection line_selects (selection_lines body)) [
        | inr first ↦ (Err first.0, only_post body (Err first.0) (wrong_rest station_options IsAreaTurned body few first.0 (record { taken = front; first = first.1 })))
        | inl rest ↦ right_body_answer body (record { few = few; taken = front }) rest
      ]
    ]

-- every body is one query, or has one fault
pub post_or_fault : (body : Text) → PostAnswer body
post_or_fault body =
    elim (cases_lt 1000 (length (parameter_lines body))) [
      | inl many ↦ (Err TooMany, only_post body (Err TooMany) (inl many))
      | inr parameters ↦ elim (cases_lt 10_000 (length (selection_lines body))) [
        | inl many ↦ (Err TooMany, only_post body (Err TooMany) (inr many))
        | inr selections ↦ few_answer body (record { parameters = parameters; selections = selections })
      ]
    ]
