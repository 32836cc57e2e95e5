-- Every body asks for one query, or has one fault.
use Rattle.std.proofs.Common.{◌≡◌, inl, inr, List, [], Result, Ok, Err, length, sym, subst, codes}
use Rattle.std.proofs.lemmas.Bool.{cases_lt}
use Rattle.list_laws.specs.Only.{IsOnly}
use Rattle.dataselect.specs.declared.query.DataQuery.{DataQuery}
use Rattle.dataselect.specs.declared.query.Selection.{Selection}
use Rattle.query_parameters.specs.Bodies.{AreSelections, TakesLine, RefusesLine, TakesSelection, RefusesSelection, parameters_in, parameter_lines, selection_lines}
use Rattle.query_words.specs.DataGet.{AreOptions}
use Rattle.query_words.specs.DataPost.{IsDataPost, IsTurned, IsPostFault}
use Rattle.query_parameters.specs.Posts.{AreFew, IsRightFront}
use Rattle.query_parameters.specs.FirstRefusals.{AreTaken}
use Rattle.query_parameters.specs.Parameters.{Parameter, given, TakesParameter}
use Rattle.query_parameters.specs.Rows.{Text}
use Rattle.query_words.specs.Tables.{data_options}
use Rattle.query_parameters.specs.declared.fault.QueryFault.{QueryFault}
use Rattle.query_parameters.specs.declared.fault.QueryFault.TheVariants.{TooMany, NoLine}
use Rattle.query_parameters.specs.declared.rows.ValueKind.TheVariants as kind
use Rattle.query_parameters.proofs.GivenFound.{given_reads, default_reads, no_nodata, no_quality, no_seconds, no_flag}
use Rattle.query_words.proofs.GetFound.{options_by}
use Rattle.query_words.proofs.OneDataPost.{only_post}
use Rattle.query_parameters.proofs.RefusalLaws.{taken_or_refused}
use Rattle.query_parameters.proofs.LinesFound.{line_found, line_selects, parameters_taken, selections_of, some_or_nothing, wrong_front, wrong_rest}

options_found : (ps : List Parameter) → AreTaken (TakesParameter data_options) [] ps → (selections : List Selection) → (q : DataQuery) × (q.selections ≡ selections) × AreOptions data_options ps q
options_found ps taken selections =
    options_by data_options ps selections (default_reads kind.Nodata (codes "204") no_nodata (given data_options 0 ps) (given_reads data_options 0 [] ps taken))
    (default_reads kind.Quality (codes "B") no_quality (given data_options 1 ps) (given_reads data_options 1 [] ps taken))
    (default_reads kind.Seconds (codes "0") no_seconds (given data_options 2 ps) (given_reads data_options 2 [] ps taken))
    (default_reads kind.Flag (codes "false") no_flag (given data_options 3 ps) (given_reads data_options 3 [] ps taken))

abbrev Answer : Text → Type 0
Answer body = (answer : Result DataQuery QueryFault) × IsOnly (IsDataPost body) (IsPostFault body) answer

-- right lines ask for a query, or none of them selects
right_answer : (body : Text) → IsRightFront data_options body → AreTaken TakesSelection [] (selection_lines body) → Answer body
right_answer body right taken =
    elim (some_or_nothing (selection_lines body)) [
      | inr nothing ↦ (Err NoLine, only_post body (Err NoLine) (record { right = right; rest = taken }, λ t. t, nothing))
      | inl some ↦
          let ss = selections_of [] (selection_lines body) taken in
          let q = options_found (parameters_in (parameter_lines body)) (parameters_taken data_options [] (parameter_lines body) right.taken) ss.0 in (
            Ok q.0,
            only_post body (Ok q.0) (record {
              right = right;
              selections_are = subst (λ (xs : List Selection). AreSelections (selection_lines body) xs) (sym q.1) ss.1;
              some = some;
              options = q.2;
            }),
          )
    ]

few_answer : (body : Text) → AreFew body → Answer body
few_answer body few =
    elim (taken_or_refused (TakesLine data_options) (RefusesLine data_options) (line_found data_options) (parameter_lines body)) [
      | inr first ↦ (Err first.0, only_post body (Err first.0) (wrong_front data_options IsTurned body few first.0 first.1))
      | inl front ↦ elim (taken_or_refused TakesSelection RefusesSelection line_selects (selection_lines body)) [
        | inr first ↦ (Err first.0, only_post body (Err first.0) (wrong_rest data_options IsTurned body few first.0 (record { taken = front; first = first.1 })))
        | inl rest ↦ right_answer body (record { few = few; taken = front }) rest
      ]
    ]

-- every body is one query, or has one fault
pub post_or_fault : (body : Text) → Answer body
post_or_fault body =
    elim (cases_lt 1000 (length (parameter_lines body))) [
      | inl many ↦ (Err TooMany, only_post body (Err TooMany) (inl many))
      | inr parameters ↦ elim (cases_lt 10_000 (length (selection_lines body))) [
        | inl many ↦ (Err TooMany, only_post body (Err TooMany) (inr many))
        | inr selections ↦ few_answer body (record { parameters = parameters; selections = selections })
      ]
    ]
