-- Every query string asks for one query, or has one fault.
use Rattle.std.proofs.Common.{◌≡◌, inl, inr, ℕ, List, [], ◌∷◌, Option, Some, Result, Ok, Err, length, refl, sym, subst, codes}
use Rattle.std.proofs.lemmas.Bool.{cases_lt}
use Rattle.list_laws.specs.Only.{IsOnly}
use Rattle.exact_time.specs.declared.moment.Moment.{Moment}
use Rattle.channel_globs.specs.declared.nslc.Part.{Part}
use Rattle.channel_globs.specs.declared.nslc.Part.TheVariants.{Network, Station, Location, Channel}
use Rattle.channel_globs.specs.PatternText.{IsPatternList}
use Rattle.dataselect.specs.declared.query.DataQuery.{DataQuery}
use Rattle.dataselect.specs.declared.query.Selection.{Selection}
use Rattle.query_words.specs.DataGet.{AreOptions, IsDataGet, IsBackwards, IsGetFault}
use Rattle.query_parameters.specs.Gets.{text_or, said_or, IsWindowInOrder, AreCodes, AreLimits, IsRight, LacksNone}
use Rattle.query_parameters.specs.FirstRefusals.{AreTaken}
use Rattle.query_parameters.specs.Parameters.{Parameter, pairs_of, parameters_of, given, TakesParameter, RefusesParameter}
use Rattle.query_parameters.specs.Rows.{Text, Named, kind_of}
use Rattle.query_words.specs.Tables.{data_names}
use Rattle.query_parameters.specs.Values.{CanRead}
use Rattle.query_parameters.specs.declared.fault.QueryFault.{QueryFault}
use Rattle.query_parameters.specs.declared.fault.QueryFault.TheVariants.{TooMany, Order}
use Rattle.query_parameters.specs.declared.rows.ValueKind.{ValueKind}
use Rattle.query_parameters.specs.declared.rows.ValueKind.TheVariants as kind
use Rattle.query_words.proofs.OneDataGet.{only_get}
use Rattle.query_parameters.proofs.RefusalLaws.{taken_or_refused}
use Rattle.query_parameters.proofs.ValuesFound.{parameter_found}
use Rattle.query_parameters.proofs.GivenFound.{any_list, default_reads, given_reads, in_time_or_backwards, limit_given, no_flag, no_nodata, no_quality, no_seconds, wrong_answer}

-- the query of some selections, by the values of the options
pub options_by : (rows : List Named) (ps : List Parameter) (selections : List Selection)
    → CanRead kind.Nodata (said_or (codes "204") rows (codes "nodata") ps) → CanRead kind.Quality (said_or (codes "B") rows (codes "quality") ps)
    → CanRead kind.Seconds (said_or (codes "0") rows (codes "minimumlength") ps) → CanRead kind.Flag (said_or (codes "false") rows (codes "longestonly") ps)
    → (q : DataQuery) × (q.selections ≡ selections) × AreOptions rows ps q
options_by rows ps selections nodata quality minimum longest = (
  record { selections = selections; quality = quality.0; minimum = minimum.0; longest = longest.0; nodata = nodata.0 },
  refl,
  record { nodata_is = nodata.1; quality_is = quality.1; minimum_is = minimum.1; longest_is = longest.1 },
)

module _ (ps : List Parameter) (taken : AreTaken (TakesParameter data_names) [] ps) where
  list_under : (part : Part) (row : ℕ) → kind_of data_names row ≡ kind.Patterns part → (list : List Text) × IsPatternList part (text_or (codes "*") (given data_names row ps)) list
  list_under part row is =
      default_reads (kind.Patterns part) (codes "*") (any_list part) (given data_names row ps) (λ text e. subst (λ (k : ValueKind). CanRead k text) is (given_reads data_names row [] ps taken text e))

  -- there is a selection in each window
  selection_found : (start end : Option Moment) → (s : Selection) × (s.start ≡ start) × (s.end ≡ end) × AreCodes data_names ps s
  selection_found start end =
      let network = list_under Network 2 refl in
      let station = list_under Station 3 refl in
      let location = list_under Location 4 refl in
      let channel = list_under Channel 5 refl in (
        record { network = network.0; station = station.0; location = location.0; channel = channel.0; start = start; end = end },
        refl,
        refl,
        record { network_is = network.1; station_is = station.1; location_is = location.1; channel_is = channel.1 },
      )

  limits_found : (start : Option Moment) × (end : Option Moment) × AreLimits data_names ps start end
  limits_found =
      let start = limit_given (given data_names 0 ps) (given_reads data_names 0 [] ps taken) in
      let end = limit_given (given data_names 1 ps) (given_reads data_names 1 [] ps taken) in
      (start.0, end.0, record { start_is = start.1; end_is = end.1 })

  options_found : (selections : List Selection) → (q : DataQuery) × (q.selections ≡ selections) × AreOptions data_names ps q
  options_found selections =
      options_by data_names ps selections (default_reads kind.Nodata (codes "204") no_nodata (given data_names 6 ps) (given_reads data_names 6 [] ps taken))
      (default_reads kind.Quality (codes "B") no_quality (given data_names 7 ps) (given_reads data_names 7 [] ps taken))
      (default_reads kind.Seconds (codes "0") no_seconds (given data_names 8 ps) (given_reads data_names 8 [] ps taken))
      (default_reads kind.Flag (codes "false") no_flag (given data_names 9 ps) (given_reads data_names 9 [] ps taken))

abbrev Answer : Text → Type 0
Answer query = (answer : Result DataQuery QueryFault) × IsOnly (IsDataGet query) (IsGetFault query) answer

-- right parameters ask for a query, or their times are backwards
right_answer : (query : Text) → IsRight data_names query → Answer query
right_answer query right =
    let limits = limits_found (parameters_of query) right.taken in
    elim (in_time_or_backwards limits.0 limits.1) [
      | inr turned ↦ (
        Err Order,
        only_get query (Err Order) (record {
          right = right;
          from = turned.0;
          to = turned.1;
          window = subst (λ (m : Option Moment). AreLimits data_names (parameters_of query) (Some turned.0) m) turned.3 (subst (λ (m : Option Moment). AreLimits data_names (parameters_of query) m limits.1) turned.2 limits.2);
          order = turned.4;
        }),
      )
      | inl forwards ↦
          let s = selection_found (parameters_of query) right.taken limits.0 limits.1 in
          let q = options_found (parameters_of query) right.taken (s.0 ∷ []) in (
            Ok q.0,
            only_get query (Ok q.0) (record {
              right = right;
              selection = s.0;
              only = q.1;
              names = s.3;
              window = subst (λ (m : Option Moment). AreLimits data_names (parameters_of query) s.0.start m) (sym s.2) (subst (λ (m : Option Moment). AreLimits data_names (parameters_of query) m limits.1) (sym s.1) limits.2);
              in_time = subst (λ (m : Option Moment). IsWindowInOrder s.0.start m) (sym s.2) (subst (λ (m : Option Moment). IsWindowInOrder m limits.1) (sym s.1) forwards);
              options = q.2;
            }),
          )
    ]

-- every query string is one query, or has one fault
pub get_or_fault : (query : Text) → Answer query
get_or_fault query =
    elim (cases_lt 1000 (length (pairs_of query))) [
      | inl many ↦ (Err TooMany, only_get query (Err TooMany) many)
      | inr few ↦ elim (taken_or_refused (TakesParameter data_names) (RefusesParameter data_names) (parameter_found data_names) (parameters_of query)) [
        | inl taken ↦ right_answer query (record { few = few; taken = taken })
        | inr first ↦ (Err first.0, only_get query (Err first.0) (wrong_answer data_names LacksNone IsBackwards query few first.0 first.1))
      ]
    ]
