-- A body asks dataselect for one query, or has one fault.
use Rattle.std.proofs.Common.{◌≡◌, ◌⊎◌, [], Result, Ok, Err, MatchResult}
use Rattle.list_laws.specs.Only.{IsOnly}
use Rattle.list_laws.proofs.Answers.{only_from}
use Rattle.dataselect.specs.declared.query.DataQuery.{DataQuery}
use Rattle.query_parameters.specs.Bodies.{parameters_in, parameter_lines, selection_lines}
use Rattle.query_words.specs.DataPost.{IsDataPost, IsTurned, IsPostFault, RefusesPost}
use Rattle.query_parameters.specs.Posts.{IsRightBody}
use Rattle.query_parameters.specs.Rows.{Text}
use Rattle.query_words.specs.Tables.{data_options}
use Rattle.query_parameters.specs.declared.fault.QueryFault.{QueryFault}
use Rattle.query_parameters.specs.declared.fault.QueryFault.TheVariants.{OutOfMemory}
use Rattle.query_words.proofs.OneDataGet.{one_made}
use Rattle.query_parameters.proofs.OnePost.{one_selections, no_fault, one_fault, refused_or_starved}
use Rattle.query_parameters.proofs.SelectionSteps.{selections_taken}

one_query : (body : Text) (q r : DataQuery) → IsDataPost body q → IsDataPost body r → q ≡ r
one_query body q r h k = one_made data_options (parameters_in (parameter_lines body)) q r h.options k.options (one_selections (selection_lines body) q.selections r.selections h.selections_are k.selections_are)

right_body : (body : Text) (q : DataQuery) → IsDataPost body q → IsRightBody data_options body
right_body body q h = record { right = h.right; rest = selections_taken [] (selection_lines body) q.selections h.selections_are }

pub only_post : (body : Text) (answer : Result DataQuery QueryFault) → MatchResult answer (IsDataPost body) (IsPostFault body) → IsOnly (IsDataPost body) (IsPostFault body) answer
only_post body answer right =
    only_from (IsDataPost body) (IsPostFault body) (one_query body) (one_fault data_options IsTurned body)
    (λ q fault h k. no_fault data_options IsTurned body fault (right_body body q h) (λ t. t) h.some k) answer right

pub only_read : (body : Text) (q : DataQuery) → IsDataPost body q → IsOnly (IsDataPost body) (IsPostFault body) (Ok q)
only_read body q h = only_post body (Ok q) h

-- the same of a reader that may want memory
pub only_refused : (body : Text) (fault : QueryFault) → RefusesPost body fault → (fault ≡ OutOfMemory) ⊎ IsOnly (IsDataPost body) (IsPostFault body) (Err fault)
only_refused body fault h = refused_or_starved data_options IsTurned (IsDataPost body) body (only_post body) fault h
