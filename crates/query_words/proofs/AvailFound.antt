-- Every query string and every body asks availability for one query, or has one fault.
use Rattle.std.proofs.Common.{◌≡◌, inl, inr, ℕ, List, [], ◌∷◌, Option, Some, Result, Ok, Err, length, refl, sym, subst, codes}
use Rattle.std.proofs.lemmas.Bool.{cases_lt}
use Rattle.list_laws.specs.Only.{IsOnly}
use Rattle.exact_time.specs.declared.moment.Moment.{Moment}
use Rattle.channel_globs.specs.PatternText.{IsPatternList}
use Rattle.channel_globs.specs.declared.nslc.Part.{Part}
use Rattle.channel_globs.specs.declared.nslc.Part.TheVariants.{Network, Station, Location, Channel}
use Rattle.dataselect.specs.declared.query.Selection.{Selection}
use Rattle.query_parameters.specs.Bodies.{parameters_in, parameter_lines, selection_lines, AreSelections, TakesLine, RefusesLine, TakesSelection, RefusesSelection}
use Rattle.query_parameters.specs.Extracts.{all_qualities}
use Rattle.query_parameters.specs.FirstRefusals.{AreTaken}
use Rattle.query_parameters.specs.Gets.{text_or, said, said_or, IsWindowInOrder, AreCodes, AreLimits, IsRight, LacksNone}
use Rattle.query_parameters.specs.Listed.{IsMerges}
use Rattle.query_parameters.specs.Parameters.{Parameter, pairs_of, parameters_of, given, TakesParameter, RefusesParameter}
use Rattle.query_parameters.specs.Places.{IsCountLimit}
use Rattle.query_parameters.specs.Posts.{AreFew, IsRightFront}
use Rattle.query_parameters.specs.Rows.{Text, Named, kind_of}
use Rattle.query_parameters.specs.Values.{CanRead}
use Rattle.query_parameters.specs.declared.avail.AvailForm.TheVariants as form
use Rattle.query_parameters.specs.declared.avail.AvailOrder.{AvailOrder}
use Rattle.query_parameters.specs.declared.avail.AvailOrder.TheVariants.{Name}
use Rattle.query_parameters.specs.declared.avail.Merges.{Merges}
use Rattle.query_parameters.specs.declared.fault.QueryFault.{QueryFault}
use Rattle.query_parameters.specs.declared.fault.QueryFault.TheVariants.{TooMany, Order, NoLine}
use Rattle.query_parameters.specs.declared.rows.ValueKind.{ValueKind}
use Rattle.query_parameters.specs.declared.rows.ValueKind.TheVariants as kind
use Rattle.query_parameters.proofs.AvailFound.{merges_given}
use Rattle.query_parameters.proofs.GivenFound.{given_reads, default_reads, any_list, limit_given, no_nodata, no_seconds, in_time_or_backwards, wrong_answer}
use Rattle.query_parameters.proofs.LinesFound.{line_found, line_selects, selections_of, parameters_taken, some_or_nothing, wrong_front, wrong_rest}
use Rattle.query_parameters.proofs.NumbersFound.{count_given}
use Rattle.query_parameters.proofs.OneGet.{not_backwards}
use Rattle.query_parameters.proofs.RefusalLaws.{taken_or_refused}
use Rattle.query_parameters.proofs.Said.{no_minimum}
use Rattle.query_parameters.proofs.ValuesFound.{parameter_found}
use Rattle.query_words.specs.AvailGet.{IsAvailGet, IsAvailTurned, IsAvailGetFault}
use Rattle.query_words.specs.AvailOptions.{order_of, AreAvailOptions}
use Rattle.query_words.specs.AvailPost.{IsAvailPost, IsAvailPostFault}
use Rattle.query_words.specs.AvailTables.{avail_names, avail_options}
use Rattle.query_words.specs.DataPost.{IsTurned}
use Rattle.query_words.specs.declared.avail.AvailMethod.{AvailMethod}
use Rattle.query_words.specs.declared.avail.AvailMethod.TheVariants.{Spans, Extent}
use Rattle.query_words.specs.declared.avail.AvailQuery.{AvailQuery}
use Rattle.query_words.proofs.OneAvail.{only_get, only_post}

all_four : CanRead kind.Qualities (codes "*")
all_four = (all_qualities, refl)

-- the query of some selections, by the values of the options
chosen : (method : AvailMethod) (rows : List Named) (ps : List Parameter) (selections : List Selection) → CanRead kind.Nodata (said_or (codes "204") rows (codes "nodata") ps) → CanRead kind.Qualities (said_or (codes "*") rows (codes "quality") ps)
    → ((merges : Merges) × IsMerges (said rows (codes "merge") ps) merges) → ((order : AvailOrder) × (order_of method (said_or (codes "nslc_time_quality_samplerate") rows (codes "orderby") ps) ≡ Some order))
    → ((limit : Option ℕ) × IsCountLimit (said rows (codes "limit") ps) limit) → CanRead kind.AvailForm (said_or (codes "text") rows (codes "format") ps) → CanRead kind.Seconds (said_or (codes "0") rows (codes "mergegaps") ps)
    → (q : AvailQuery) × (q.selections ≡ selections) × AreAvailOptions method rows ps q
chosen method rows ps selections nodata qualities merges order limit form gaps = (
  record {
    selections = selections;
    qualities = qualities.0;
    merge_rate = merges.0.rate;
    merge_quality = merges.0.quality;
    merge_overlap = merges.0.overlap;
    gaps = gaps.0;
    order = order.0;
    limit = limit.0;
    form = form.0;
    nodata = nodata.0;
  },
  refl,
  record { nodata_is = nodata.1; qualities_are = qualities.1; merges_are = merges.1; order_is = order.1; limit_is = limit.1; form_is = form.1; gaps_are = gaps.1 },
)

said_options : (method : AvailMethod) (ps : List Parameter) → AreTaken (TakesParameter (avail_names method)) [] ps → (selections : List Selection) → (q : AvailQuery) × (q.selections ≡ selections) × AreAvailOptions method (avail_names method) ps q
said_options Spans ps taken selections =
    chosen Spans (avail_names Spans) ps selections (default_reads kind.Nodata (codes "204") no_nodata (given (avail_names Spans) 6 ps) (given_reads (avail_names Spans) 6 [] ps taken)) (default_reads kind.Qualities (codes "*") all_four (given (avail_names Spans) 7 ps) (given_reads (avail_names Spans) 7 [] ps taken)) (merges_given (given (avail_names Spans) 8 ps) (given_reads (avail_names Spans) 8 [] ps taken))
    (default_reads kind.SpansOrder (codes "nslc_time_quality_samplerate") (Name, refl) (given (avail_names Spans) 9 ps) (given_reads (avail_names Spans) 9 [] ps taken)) (count_given (given (avail_names Spans) 10 ps) (given_reads (avail_names Spans) 10 [] ps taken)) (default_reads kind.AvailForm (codes "text") (form.Text, refl) (given (avail_names Spans) 11 ps) (given_reads (avail_names Spans) 11 [] ps taken)) (default_reads kind.Seconds (codes "0") no_seconds (given (avail_names Spans) 14 ps) (given_reads (avail_names Spans) 14 [] ps taken))
said_options Extent ps taken selections =
    chosen Extent (avail_names Extent) ps selections (default_reads kind.Nodata (codes "204") no_nodata (given (avail_names Extent) 6 ps) (given_reads (avail_names Extent) 6 [] ps taken)) (default_reads kind.Qualities (codes "*") all_four (given (avail_names Extent) 7 ps) (given_reads (avail_names Extent) 7 [] ps taken)) (merges_given (given (avail_names Extent) 8 ps) (given_reads (avail_names Extent) 8 [] ps taken))
    (default_reads kind.ExtentOrder (codes "nslc_time_quality_samplerate") (Name, refl) (given (avail_names Extent) 9 ps) (given_reads (avail_names Extent) 9 [] ps taken)) (count_given (given (avail_names Extent) 10 ps) (given_reads (avail_names Extent) 10 [] ps taken)) (default_reads kind.AvailForm (codes "text") (form.Text, refl) (given (avail_names Extent) 11 ps) (given_reads (avail_names Extent) 11 [] ps taken)) (0, no_minimum)

posted_options : (method : AvailMethod) (ps : List Parameter) → AreTaken (TakesParameter (avail_options method)) [] ps → (selections : List Selection) → (q : AvailQuery) × (q.selections ≡ selections) × AreAvailOptions method (avail_options method) ps q
posted_options Spans ps taken selections =
    chosen Spans (avail_options Spans) ps selections (default_reads kind.Nodata (codes "204") no_nodata (given (avail_options Spans) 0 ps) (given_reads (avail_options Spans) 0 [] ps taken)) (default_reads kind.Qualities (codes "*") all_four (given (avail_options Spans) 1 ps) (given_reads (avail_options Spans) 1 [] ps taken)) (merges_given (given (avail_options Spans) 2 ps) (given_reads (avail_options Spans) 2 [] ps taken))
    (default_reads kind.SpansOrder (codes "nslc_time_quality_samplerate") (Name, refl) (given (avail_options Spans) 3 ps) (given_reads (avail_options Spans) 3 [] ps taken)) (count_given (given (avail_options Spans) 4 ps) (given_reads (avail_options Spans) 4 [] ps taken)) (default_reads kind.AvailForm (codes "text") (form.Text, refl) (given (avail_options Spans) 5 ps) (given_reads (avail_options Spans) 5 [] ps taken)) (default_reads kind.Seconds (codes "0") no_seconds (given (avail_options Spans) 8 ps) (given_reads (avail_options Spans) 8 [] ps taken))
posted_options Extent ps taken selections =
    chosen Extent (avail_options Extent) ps selections (default_reads kind.Nodata (codes "204") no_nodata (given (avail_options Extent) 0 ps) (given_reads (avail_options Extent) 0 [] ps taken)) (default_reads kind.Qualities (codes "*") all_four (given (avail_options Extent) 1 ps) (given_reads (avail_options Extent) 1 [] ps taken)) (merges_given (given (avail_options Extent) 2 ps) (given_reads (avail_options Extent) 2 [] ps taken))
    (default_reads kind.ExtentOrder (codes "nslc_time_quality_samplerate") (Name, refl) (given (avail_options Extent) 3 ps) (given_reads (avail_options Extent) 3 [] ps taken)) (count_given (given (avail_options Extent) 4 ps) (given_reads (avail_options Extent) 4 [] ps taken)) (default_reads kind.AvailForm (codes "text") (form.Text, refl) (given (avail_options Extent) 5 ps) (given_reads (avail_options Extent) 5 [] ps taken)) (0, no_minimum)

list_under : (method : AvailMethod) (part : Part) (row : ℕ) → kind_of (avail_names method) row ≡ kind.Patterns part → (ps : List Parameter) → AreTaken (TakesParameter (avail_names method)) [] ps
    → (list : List Text) × IsPatternList part (text_or (codes "*") (given (avail_names method) row ps)) list
list_under Spans part row is ps taken =
    default_reads (kind.Patterns part) (codes "*") (any_list part) (given (avail_names Spans) row ps) (λ text e. subst (λ (k : ValueKind). CanRead k text) is (given_reads (avail_names Spans) row [] ps taken text e))
list_under Extent part row is ps taken =
    default_reads (kind.Patterns part) (codes "*") (any_list part) (given (avail_names Extent) row ps) (λ text e. subst (λ (k : ValueKind). CanRead k text) is (given_reads (avail_names Extent) row [] ps taken text e))

selection_found : (method : AvailMethod) (ps : List Parameter) → AreTaken (TakesParameter (avail_names method)) [] ps → (start end : Option Moment) → (s : Selection) × (s.start ≡ start) × (s.end ≡ end) × AreCodes (avail_names method) ps s
selection_found Spans ps taken start end =
    let network = list_under Spans Network 2 refl ps taken in
    let station = list_under Spans Station 3 refl ps taken in
    let location = list_under Spans Location 4 refl ps taken in
    let channel = list_under Spans Channel 5 refl ps taken in (
      record { network = network.0; station = station.0; location = location.0; channel = channel.0; start = start; end = end },
      refl,
      refl,
      record { network_is = network.1; station_is = station.1; location_is = location.1; channel_is = channel.1 },
    )
selection_found Extent ps taken start end =
    let network = list_under Extent Network 2 refl ps taken in
    let station = list_under Extent Station 3 refl ps taken in
    let location = list_under Extent Location 4 refl ps taken in
    let channel = list_under Extent Channel 5 refl ps taken in (
      record { network = network.0; station = station.0; location = location.0; channel = channel.0; start = start; end = end },
      refl,
      refl,
      record { network_is = network.1; station_is = station.1; location_is = location.1; channel_is = channel.1 },
    )

limits_found : (method : AvailMethod) (ps : List Parameter) → AreTaken (TakesParameter (avail_names method)) [] ps → (start : Option Moment) × (end : Option Moment) × AreLimits (avail_names method) ps start end
limits_found Spans ps taken =
    let start = limit_given (given (avail_names Spans) 0 ps) (given_reads (avail_names Spans) 0 [] ps taken) in
    let end = limit_given (given (avail_names Spans) 1 ps) (given_reads (avail_names Spans) 1 [] ps taken) in
    (start.0, end.0, record { start_is = start.1; end_is = end.1 })
limits_found Extent ps taken =
    let start = limit_given (given (avail_names Extent) 0 ps) (given_reads (avail_names Extent) 0 [] ps taken) in
    let end = limit_given (given (avail_names Extent) 1 ps) (given_reads (avail_names Extent) 1 [] ps taken) in
    (start.0, end.0, record { start_is = start.1; end_is = end.1 })

module _ (method : AvailMethod) where
  abbrev Answer : Text → Type 0
  Answer query = (answer : Result AvailQuery QueryFault) × IsOnly (IsAvailGet method query) (IsAvailGetFault method query) answer

  -- right parameters ask for a query, or their times are backwards
  right_answer : (query : Text) → IsRight (avail_names method) query → Answer query
  right_answer query right =
      let limits = limits_found method (parameters_of query) right.taken in
      elim (in_time_or_backwards limits.0 limits.1) [
        | inr late ↦
            let off : ¬ (IsWindowInOrder limits.0 limits.1) = λ forwards. not_backwards limits.0 limits.1 late.0 late.1 late.2 late.3 forwards late.4 in
            (Err Order, only_get method query (Err Order) (record { right = right; start = limits.0; end = limits.1; window = limits.2; turned = off }))
        | inl forwards ↦
            let s = selection_found method (parameters_of query) right.taken limits.0 limits.1 in
            let q = said_options method (parameters_of query) right.taken (s.0 ∷ []) in (
              Ok q.0,
              only_get method query (Ok q.0) (record {
                right = right;
                selection = s.0;
                only = q.1;
                names = s.3;
                window = subst (λ (m : Option Moment). AreLimits (avail_names method) (parameters_of query) s.0.start m) (sym s.2) (subst (λ (m : Option Moment). AreLimits (avail_names method) (parameters_of query) m limits.1) (sym s.1) limits.2);
                in_time = subst (λ (m : Option Moment). IsWindowInOrder s.0.start m) (sym s.2) (subst (λ (m : Option Moment). IsWindowInOrder m limits.1) (sym s.1) forwards);
                options = q.2;
              }),
            )
      ]

  -- every query string is one query, or has one fault
  pub get_or_fault : (query : Text) → Answer query
  get_or_fault query =
      elim (cases_lt 1000 (length (pairs_of query))) [
        | inl many ↦ (Err TooMany, only_get method query (Err TooMany) many)
        | inr few ↦ elim (taken_or_refused (TakesParameter (avail_names method)) (RefusesParameter (avail_names method)) (parameter_found (avail_names method)) (parameters_of query)) [
          | inl taken ↦ right_answer query (record { few = few; taken = taken })
          | inr first ↦ (Err first.0, only_get method query (Err first.0) (wrong_answer (avail_names method) LacksNone (IsAvailTurned method) query few first.0 first.1))
        ]
      ]

  abbrev PostAnswer : Text → Type 0
  PostAnswer body = (answer : Result AvailQuery QueryFault) × IsOnly (IsAvailPost method body) (IsAvailPostFault method body) answer

  -- right lines ask for a query, or none of them selects
  right_body_answer : (body : Text) → IsRightFront (avail_options method) body → AreTaken TakesSelection [] (selection_lines body) → PostAnswer body
  right_body_answer body right taken =
      elim (some_or_nothing (selection_lines body)) [
        | inr nothing ↦ (Err NoLine, only_post method body (Err NoLine) (record { right = right; rest = taken }, λ t. t, nothing))
        | inl some ↦
            let ss = selections_of [] (selection_lines body) taken in
            let q = posted_options method (parameters_in (parameter_lines body)) (parameters_taken (avail_options method) [] (parameter_lines body) right.taken) ss.0 in (
              Ok q.0,
              only_post method body (Ok q.0) (record {
                right = right;
                selections_are = subst (λ (xs : List Selection). AreSelections (selection_lines body) xs) (sym q.1) ss.1;
                some = some;
                options = q.2;
              }),
            )
      ]

  few_answer : (body : Text) → AreFew body → PostAnswer body
  few_answer body few =
      elim (taken_or_refused (TakesLine (avail_options method)) (RefusesLine (avail_options method)) (line_found (avail_options method)) (parameter_lines body)) [
        | inr first ↦ (Err first.0, only_post method body (Err first.0) (wrong_front (avail_options method) IsTurned body few first.0 first.1))
        | inl front ↦ elim (taken_or_refused TakesSelection RefusesSelection line_selects (selection_lines body)) [
          | inr first ↦ (Err first.0, only_post method body (Err first.0) (wrong_rest (avail_options method) IsTurned body few first.0 (record { taken = front; first = first.1 })))
          | inl rest ↦ right_body_answer body (record { few = few; taken = front }) rest
        ]
      ]

  -- every body is one query, or has one fault
  pub post_or_fault : (body : Text) → PostAnswer body
  post_or_fault body =
      elim (cases_lt 1000 (length (parameter_lines body))) [
        | inl many ↦ (Err TooMany, only_post method body (Err TooMany) (inl many))
        | inr parameters ↦ elim (cases_lt 10_000 (length (selection_lines body))) [
          | inl many ↦ (Err TooMany, only_post method body (Err TooMany) (inr many))
          | inr selections ↦ few_answer body (record { parameters = parameters; selections = selections })
        ]
      ]
