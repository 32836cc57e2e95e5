-- A query string asks event for one query, or has one fault.
use Rattle.std.proofs.Common.{◌≡◌, ◌⊎◌, Result, Err, MatchResult, List, sym, ◌∙◌, subst, codes}
use Rattle.list_laws.specs.Only.{IsOnly}
use Rattle.list_laws.proofs.Answers.{only_from}
use Rattle.query_parameters.specs.Gets.{said, LacksNone}
use Rattle.query_parameters.specs.Parameters.{Parameter, parameters_of}
use Rattle.query_parameters.specs.Rows.{Text, Named}
use Rattle.query_parameters.specs.declared.fault.QueryFault.{QueryFault}
use Rattle.query_parameters.specs.declared.fault.QueryFault.TheVariants.{OutOfMemory}
use Rattle.query_parameters.specs.declared.area.Limits2.{Limits2}
use Rattle.query_parameters.proofs.NumbersFound.{one_number_limit, one_count, one_count_limit}
use Rattle.query_parameters.proofs.OneGet.{one_limit, some_one, no_fault, one_fault, refused_or_starved}
use Rattle.query_parameters.proofs.OnePlace.{one_area}
use Rattle.query_words.specs.EventGet.{IsEventGet, IsEventTurned, IsEventGetFault, RefusesEventGet}
use Rattle.query_words.specs.EventOptions.{AreEventOptions, AreNumberLimits, IsEventInOrder}
use Rattle.query_words.specs.Tables.{event_names}
use Rattle.query_words.specs.declared.event.EventQuery.{EventQuery}

module _ (rows : List Named) (ps : List Parameter) where
  one_limits : (least most : Text) (a b : Limits2) → AreNumberLimits rows ps least most a → AreNumberLimits rows ps least most b → a ≡ b
  one_limits least most a b h k =
      let below = one_number_limit (said rows least ps) a.least b.least h.least_is k.least_is in
      let above = one_number_limit (said rows most ps) a.most b.most h.most_is k.most_is in
      λ i. record { least = below i; most = above i }

  pub one_asked : (q r : EventQuery) → AreEventOptions rows ps q → AreEventOptions rows ps r → q ≡ r
  one_asked q r h k =
      let start = one_limit _ q.start r.start h.window.start_is k.window.start_is in
      let end = one_limit _ q.end r.end h.window.end_is k.window.end_is in
      let area = one_area rows ps q.area r.area h.bounds k.bounds in
      let depth = one_limits (codes "mindepth") (codes "maxdepth") q.depth r.depth h.depth k.depth in
      let magnitude = one_limits (codes "minmagnitude") (codes "maxmagnitude") q.magnitude r.magnitude h.magnitude k.magnitude in
      let magnitude_kind = sym h.magnitude_kind_is ∙ k.magnitude_kind_is in
      let id = sym h.id_is ∙ k.id_is in
      let catalog = sym h.catalog_is ∙ k.catalog_is in
      let contributor = sym h.contributor_is ∙ k.contributor_is in
      let order = some_one q.order r.order _ h.order_is k.order_is in
      let limit = one_count_limit _ q.limit r.limit h.limit_is k.limit_is in
      let offset = one_count _ q.offset r.offset h.offset_is k.offset_is in
      let nodata = some_one q.nodata r.nodata _ h.nodata_is k.nodata_is in
      λ i. record {
        start = start i;
        end = end i;
        area = area i;
        depth = depth i;
        magnitude = magnitude i;
        magnitude_kind = magnitude_kind i;
        id = id i;
        catalog = catalog i;
        contributor = contributor i;
        order = order i;
        limit = limit i;
        offset = offset i;
        nodata = nodata i;
      }

one_query : (query : Text) (q r : EventQuery) → IsEventGet query q → IsEventGet query r → q ≡ r
one_query query q r h k = one_asked event_names (parameters_of query) q r h.options k.options

not_turned : (query : Text) (q : EventQuery) → IsEventGet query q → IsEventTurned query → ⊥
not_turned query q h k = k.turned (subst (λ (e : EventQuery). IsEventInOrder e) (one_asked event_names (parameters_of query) q k.q h.options k.options) h.in_order)

pub only_get : (query : Text) (answer : Result EventQuery QueryFault) → MatchResult answer (IsEventGet query) (IsEventGetFault query) → IsOnly (IsEventGet query) (IsEventGetFault query) answer
only_get query answer right =
    only_from (IsEventGet query) (IsEventGetFault query) (one_query query) (one_fault event_names LacksNone IsEventTurned (λ q k. k.right) (λ q k. absurd k) (λ q k l. k) query)
    (λ q fault h k. no_fault event_names LacksNone IsEventTurned query fault h.right (λ k. k) (not_turned query q h) k) answer right

-- the same of a reader that may want memory
pub only_refused : (query : Text) (fault : QueryFault) → RefusesEventGet query fault → (fault ≡ OutOfMemory) ⊎ IsOnly (IsEventGet query) (IsEventGetFault query) (Err fault)
only_refused query fault h = refused_or_starved event_names LacksNone IsEventTurned (IsEventGet query) query (only_get query) fault h
