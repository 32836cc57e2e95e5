-- A query string asks dataselect for one query, or has one fault.
use Rattle.std.proofs.Common.{◌≡◌, ◌⊎◌, List, [], ◌∷◌, Result, Ok, Err, MatchResult, sym, ap, ◌∙◌}
use Rattle.list_laws.specs.Only.{IsOnly}
use Rattle.list_laws.proofs.Answers.{only_from}
use Rattle.dataselect.specs.declared.query.DataQuery.{DataQuery}
use Rattle.dataselect.specs.declared.query.Selection.{Selection}
use Rattle.query_words.specs.DataGet.{AreOptions, IsDataGet, IsBackwards, IsGetFault, RefusesGet}
use Rattle.query_parameters.specs.Gets.{LacksNone}
use Rattle.query_parameters.specs.Rows.{Text, Named}
use Rattle.query_words.specs.Tables.{data_names}
use Rattle.query_parameters.specs.Parameters.{Parameter, parameters_of}
use Rattle.query_parameters.specs.declared.fault.QueryFault.{QueryFault}
use Rattle.query_parameters.specs.declared.fault.QueryFault.TheVariants.{OutOfMemory}
use Rattle.query_parameters.proofs.Minimums.{one_minimum}
use Rattle.query_parameters.proofs.OneGet.{one_selection, one_limit, some_one, not_backwards, no_fault, one_fault, refused_or_starved}

-- the options and the selections make the query
pub one_made : (rows : List Named) (ps : List Parameter) (q r : DataQuery) → AreOptions rows ps q → AreOptions rows ps r → q.selections ≡ r.selections → q ≡ r
one_made rows ps q r h k selections =
    let nodata = some_one q.nodata r.nodata _ h.nodata_is k.nodata_is in
    let quality = some_one q.quality r.quality _ h.quality_is k.quality_is in
    let minimum = one_minimum _ q.minimum r.minimum h.minimum_is k.minimum_is in
    let longest = some_one q.longest r.longest _ h.longest_is k.longest_is in
    λ i. record { selections = selections i; quality = quality i; minimum = minimum i; longest = longest i; nodata = nodata i }

one_query : (query : Text) (q r : DataQuery) → IsDataGet query q → IsDataGet query r → q ≡ r
one_query query q r h k =
    let selection = one_selection data_names (parameters_of query) h.selection k.selection h.names h.window k.names k.window in
    one_made data_names (parameters_of query) q r h.options k.options (h.only ∙ ap (λ (s : Selection). s ∷ []) selection ∙ sym k.only)

forwards : (query : Text) (q : DataQuery) → IsDataGet query q → IsBackwards query → ⊥
forwards query q h k =
    not_backwards h.selection.start h.selection.end k.from k.to (one_limit _ _ _ h.window.start_is k.window.start_is) (one_limit _ _ _ h.window.end_is k.window.end_is) h.in_time k.order

pub only_get : (query : Text) (answer : Result DataQuery QueryFault) → MatchResult answer (IsDataGet query) (IsGetFault query) → IsOnly (IsDataGet query) (IsGetFault query) answer
only_get query answer right =
    only_from (IsDataGet query) (IsGetFault query) (one_query query) (one_fault data_names LacksNone IsBackwards (λ q k. k.right) (λ q k. absurd k) (λ q k l. k) query)
    (λ q fault h k. no_fault data_names LacksNone IsBackwards query fault h.right (λ k. k) (forwards query q h) k) answer right

pub only_read : (query : Text) (q : DataQuery) → IsDataGet query q → IsOnly (IsDataGet query) (IsGetFault query) (Ok q)
only_read query q h = only_get query (Ok q) h

-- the same of a reader that may want memory
pub only_refused : (query : Text) (fault : QueryFault) → RefusesGet query fault → (fault ≡ OutOfMemory) ⊎ IsOnly (IsDataGet query) (IsGetFault query) (Err fault)
only_refused query fault h = refused_or_starved data_names LacksNone IsBackwards (IsDataGet query) query (only_get query) fault h
