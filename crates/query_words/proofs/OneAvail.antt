-- A query string or a body asks availability for one query, or has one fault.
use Rattle.std.proofs.Common.{◌≡◌, ◌⊎◌, List, [], ◌∷◌, Option, Result, Err, MatchResult, sym, ap, subst, ◌∙◌, codes}
use Rattle.list_laws.specs.Only.{IsOnly}
use Rattle.list_laws.proofs.Answers.{only_from}
use Rattle.exact_time.specs.declared.moment.Moment.{Moment}
use Rattle.dataselect.specs.declared.query.Selection.{Selection}
use Rattle.query_parameters.specs.Bodies.{parameters_in, parameter_lines, selection_lines}
use Rattle.query_parameters.specs.Gets.{said, IsWindowInOrder, LacksNone}
use Rattle.query_parameters.specs.Parameters.{Parameter, parameters_of}
use Rattle.query_parameters.specs.Posts.{IsRightBody}
use Rattle.query_parameters.specs.Rows.{Text, Named}
use Rattle.query_parameters.specs.declared.fault.QueryFault.{QueryFault}
use Rattle.query_parameters.specs.declared.fault.QueryFault.TheVariants.{OutOfMemory}
use Rattle.query_parameters.proofs.AvailFound.{one_merges}
use Rattle.query_parameters.proofs.Minimums.{one_minimum}
use Rattle.query_parameters.proofs.NumbersFound.{one_count_limit}
use Rattle.query_parameters.proofs.OneGet.{one_selection, one_limit, some_one, no_fault, one_fault, refused_or_starved}
use Rattle.query_parameters.proofs.OnePost.{one_selections, no_fault as no_body_fault, one_fault as one_body_fault, refused_or_starved as body_refused_or_starved}
use Rattle.query_parameters.proofs.SelectionSteps.{selections_taken}
use Rattle.query_words.specs.AvailGet.{IsAvailGet, IsAvailTurned, IsAvailGetFault, RefusesAvailGet}
use Rattle.query_words.specs.AvailOptions.{AreAvailOptions}
use Rattle.query_words.specs.AvailPost.{IsAvailPost, IsAvailPostFault, RefusesAvailPost}
use Rattle.query_words.specs.AvailTables.{avail_names, avail_options}
use Rattle.query_words.specs.DataPost.{IsTurned}
use Rattle.query_words.specs.declared.avail.AvailMethod.{AvailMethod}
use Rattle.query_words.specs.declared.avail.AvailQuery.{AvailQuery}

-- the options and the selections make the query
one_made : (method : AvailMethod) (rows : List Named) (ps : List Parameter) (q r : AvailQuery) → AreAvailOptions method rows ps q → AreAvailOptions method rows ps r → q.selections ≡ r.selections → q ≡ r
one_made method rows ps q r h k selections =
    let nodata = some_one q.nodata r.nodata _ h.nodata_is k.nodata_is in
    let qualities = some_one q.qualities r.qualities _ h.qualities_are k.qualities_are in
    let merges = one_merges (said rows (codes "merge") ps) _ _ h.merges_are k.merges_are in
    let order = some_one q.order r.order _ h.order_is k.order_is in
    let limit = one_count_limit _ q.limit r.limit h.limit_is k.limit_is in
    let form = some_one q.form r.form _ h.form_is k.form_is in
    let gaps = one_minimum _ q.gaps r.gaps h.gaps_are k.gaps_are in
    λ i. record {
      selections = selections i;
      qualities = qualities i;
      merge_rate = (merges i).rate;
      merge_quality = (merges i).quality;
      merge_overlap = (merges i).overlap;
      gaps = gaps i;
      order = order i;
      limit = limit i;
      form = form i;
      nodata = nodata i;
    }

module _ (method : AvailMethod) where
  one_query : (query : Text) (q r : AvailQuery) → IsAvailGet method query q → IsAvailGet method query r → q ≡ r
  one_query query q r h k =
      let selection = one_selection (avail_names method) (parameters_of query) h.selection k.selection h.names h.window k.names k.window in
      one_made method (avail_names method) (parameters_of query) q r h.options k.options (h.only ∙ ap (λ (s : Selection). s ∷ []) selection ∙ sym k.only)

  not_turned : (query : Text) (q : AvailQuery) → IsAvailGet method query q → IsAvailTurned method query → ⊥
  not_turned query q h k =
      k.turned (subst (λ (m : Option Moment). IsWindowInOrder k.start m) (one_limit _ h.selection.end k.end h.window.end_is k.window.end_is)
      (subst (λ (m : Option Moment). IsWindowInOrder m h.selection.end) (one_limit _ h.selection.start k.start h.window.start_is k.window.start_is) h.in_time))

  pub only_get : (query : Text) (answer : Result AvailQuery QueryFault) → MatchResult answer (IsAvailGet method query) (IsAvailGetFault method query) → IsOnly (IsAvailGet method query) (IsAvailGetFault method query) answer
  only_get query answer right =
      only_from (IsAvailGet method query) (IsAvailGetFault method query) (one_query query) (one_fault (avail_names method) LacksNone (IsAvailTurned method) (λ q k. k.right) (λ q k. absurd k) (λ q k l. k) query)
      (λ q fault h k. no_fault (avail_names method) LacksNone (IsAvailTurned method) query fault h.right (λ k. k) (not_turned query q h) k) answer right

  -- the same of a reader that may want memory
  pub only_refused : (query : Text) (fault : QueryFault) → RefusesAvailGet method query fault → (fault ≡ OutOfMemory) ⊎ IsOnly (IsAvailGet method query) (IsAvailGetFault method query) (Err fault)
  only_refused query fault h = refused_or_starved (avail_names method) LacksNone (IsAvailTurned method) (IsAvailGet method query) query (only_get query) fault h

  one_post : (body : Text) (q r : AvailQuery) → IsAvailPost method body q → IsAvailPost method body r → q ≡ r
  one_post body q r h k = one_made method (avail_options method) (parameters_in (parameter_lines body)) q r h.options k.options (one_selections (selection_lines body) q.selections r.selections h.selections_are k.selections_are)

  right_body : (body : Text) (q : AvailQuery) → IsAvailPost method body q → IsRightBody (avail_options method) body
  right_body body q h = record { right = h.right; rest = selections_taken [] (selection_lines body) q.selections h.selections_are }

  pub only_post : (body : Text) (answer : Result AvailQuery QueryFault) → MatchResult answer (IsAvailPost method body) (IsAvailPostFault method body) → IsOnly (IsAvailPost method body) (IsAvailPostFault method body) answer
  only_post body answer right =
      only_from (IsAvailPost method body) (IsAvailPostFault method body) (one_post body) (one_body_fault (avail_options method) IsTurned body)
      (λ q fault h k. no_body_fault (avail_options method) IsTurned body fault (right_body body q h) (λ t. t) h.some k) answer right

  -- the same of a reader that may want memory
  pub only_post_refused : (body : Text) (fault : QueryFault) → RefusesAvailPost method body fault → (fault ≡ OutOfMemory) ⊎ IsOnly (IsAvailPost method body) (IsAvailPostFault method body) (Err fault)
  only_post_refused body fault h = body_refused_or_starved (avail_options method) IsTurned (IsAvailPost method body) body (only_post body) fault h
