-- A query string or a body asks station for one query, or has one fault.
use Rattle.std.proofs.Common.{◌≡◌, ◌⊎◌, inl, inr, List, [], ◌∷◌, Option, Result, Err, MatchResult, sym, ap, subst, ◌∙◌}
use Rattle.list_laws.specs.Only.{IsOnly}
use Rattle.list_laws.proofs.Answers.{only_from}
use Rattle.exact_time.specs.declared.moment.Moment.{Moment}
use Rattle.dataselect.specs.declared.query.Selection.{Selection}
use Rattle.query_parameters.specs.Bodies.{parameters_in, parameter_lines, selection_lines}
use Rattle.query_parameters.specs.Gets.{IsWindowInOrder, LacksNone}
use Rattle.query_parameters.specs.Parameters.{Parameter, parameters_of}
use Rattle.query_parameters.specs.Places.{IsAreaInOrder}
use Rattle.query_words.specs.StationOptions.{AreStationOptions}
use Rattle.query_parameters.specs.Posts.{IsRightBody}
use Rattle.query_parameters.specs.Rows.{Text, Named}
use Rattle.query_words.specs.Tables.{station_names, station_options}
use Rattle.query_words.specs.StationGet.{IsStationGet, IsStationTurned, IsStationGetFault, RefusesStationGet}
use Rattle.query_words.specs.StationPost.{IsStationPost, IsAreaTurned, IsStationPostFault, RefusesStationPost}
use Rattle.query_parameters.specs.declared.fault.QueryFault.{QueryFault}
use Rattle.query_parameters.specs.declared.fault.QueryFault.TheVariants.{OutOfMemory}
use Rattle.query_parameters.specs.declared.area.Area.{Area}
use Rattle.query_words.specs.declared.station.StationQuery.{StationQuery}
use Rattle.query_parameters.proofs.OneGet.{one_selection, one_limit, some_one, no_fault, one_fault, refused_or_starved}
use Rattle.query_parameters.proofs.OnePost.{one_selections, no_fault as no_body_fault, one_fault as one_body_fault, refused_or_starved as body_refused_or_starved}
use Rattle.query_parameters.proofs.SelectionSteps.{selections_taken}
use Rattle.query_parameters.proofs.OnePlace.{one_area}

-- the options and the selections make the query
one_made : (rows : List Named) (ps : List Parameter) (q r : StationQuery) → AreStationOptions rows ps q → AreStationOptions rows ps r → q.selections ≡ r.selections → q ≡ r
one_made rows ps q r h k selections =
    let start_before = one_limit _ q.start_before r.start_before h.start_before_is k.start_before_is in
    let start_after = one_limit _ q.start_after r.start_after h.start_after_is k.start_after_is in
    let end_before = one_limit _ q.end_before r.end_before h.end_before_is k.end_before_is in
    let end_after = one_limit _ q.end_after r.end_after h.end_after_is k.end_after_is in
    let area = one_area rows ps q.area r.area h.bounds k.bounds in
    let level = some_one q.level r.level _ h.level_is k.level_is in
    let nodata = some_one q.nodata r.nodata _ h.nodata_is k.nodata_is in
    λ i. record {
      selections = selections i;
      start_before = start_before i;
      start_after = start_after i;
      end_before = end_before i;
      end_after = end_after i;
      area = area i;
      level = level i;
      nodata = nodata i;
    }

one_query : (query : Text) (q r : StationQuery) → IsStationGet query q → IsStationGet query r → q ≡ r
one_query query q r h k =
    let selection = one_selection station_names (parameters_of query) h.selection k.selection h.names h.window k.names k.window in
    one_made station_names (parameters_of query) q r h.options k.options (h.only ∙ ap (λ (s : Selection). s ∷ []) selection ∙ sym k.only)

not_turned : (query : Text) (q : StationQuery) → IsStationGet query q → IsStationTurned query → ⊥
not_turned query q h k =
    elim k.turned [
      | inl late ↦
          late (subst (λ (m : Option Moment). IsWindowInOrder k.start m) (one_limit _ h.selection.end k.end h.window.end_is k.window.end_is)
          (subst (λ (m : Option Moment). IsWindowInOrder m h.selection.end) (one_limit _ h.selection.start k.start h.window.start_is k.window.start_is) h.in_time))
      | inr off ↦ off (subst (λ (a : Area). IsAreaInOrder a) (one_area station_names (parameters_of query) q.area k.area h.options.bounds k.bounds) h.in_order)
    ]

pub only_get : (query : Text) (answer : Result StationQuery QueryFault) → MatchResult answer (IsStationGet query) (IsStationGetFault query) → IsOnly (IsStationGet query) (IsStationGetFault query) answer
only_get query answer right =
    only_from (IsStationGet query) (IsStationGetFault query) (one_query query) (one_fault station_names LacksNone IsStationTurned (λ q k. k.right) (λ q k. absurd k) (λ q k l. k) query)
    (λ q fault h k. no_fault station_names LacksNone IsStationTurned query fault h.right (λ k. k) (not_turned query q h) k) answer right

-- the same of a reader that may want memory
pub only_refused : (query : Text) (fault : QueryFault) → RefusesStationGet query fault → (fault ≡ OutOfMemory) ⊎ IsOnly (IsStationGet query) (IsStationGetFault query) (Err fault)
only_refused query fault h = refused_or_starved station_names LacksNone IsStationTurned (IsStationGet query) query (only_get query) fault h

one_post : (body : Text) (q r : StationQuery) → IsStationPost body q → IsStationPost body r → q ≡ r
one_post body q r h k = one_made station_options (parameters_in (parameter_lines body)) q r h.options k.options (one_selections (selection_lines body) q.selections r.selections h.selections_are k.selections_are)

right_body : (body : Text) (q : StationQuery) → IsStationPost body q → IsRightBody station_options body
right_body body q h = record { right = h.right; rest = selections_taken [] (selection_lines body) q.selections h.selections_are }

body_not_turned : (body : Text) (q : StationQuery) → IsStationPost body q → IsAreaTurned body → ⊥
body_not_turned body q h k = k.turned (subst (λ (a : Area). IsAreaInOrder a) (one_area station_options (parameters_in (parameter_lines body)) q.area k.area h.options.bounds k.bounds) h.in_order)

pub only_post : (body : Text) (answer : Result StationQuery QueryFault) → MatchResult answer (IsStationPost body) (IsStationPostFault body) → IsOnly (IsStationPost body) (IsStationPostFault body) answer
only_post body answer right =
    only_from (IsStationPost body) (IsStationPostFault body) (one_post body) (one_body_fault station_options IsAreaTurned body)
    (λ q fault h k. no_body_fault station_options IsAreaTurned body fault (right_body body q h) (body_not_turned body q h) h.some k) answer right

-- the same of a reader that may want memory
pub only_post_refused : (body : Text) (fault : QueryFault) → RefusesStationPost body fault → (fault ≡ OutOfMemory) ⊎ IsOnly (IsStationPost body) (IsStationPostFault body) (Err fault)
only_post_refused body fault h = body_refused_or_starved station_options IsAreaTurned (IsStationPost body) body (only_post body) fault h
