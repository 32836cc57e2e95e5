-- The parts of a body.
use Rattle.std.proofs.Common.{◌≡◌, ◌↔◌, IsTrue, Bool, false, List, [], Option, Some, take, drop, sym, ap, subst, ◌∙◌, codes, arith}
use Rattle.std.proofs.lemmas.List.{take-map, drop-map}
use Rattle.dataselect.specs.declared.query.DataQuery.{DataQuery}
use Rattle.dataselect.specs.declared.query.Selection.{Selection}
use Rattle.query_words.specs.declared.asked.Options.{Options}
use Rattle.query_parameters.specs.declared.rows.ParameterName.{ParameterName}
use Rattle.query_parameters.specs.declared.words.ParameterValue.{ParameterValue}
use Rattle.query_parameters.specs.Bodies.{parameter_lines, selection_lines, parameters_in, AreSelections}
use Rattle.query_words.specs.DataGet.{AreOptions}
use Rattle.query_parameters.specs.Gets.{said_or}
use Rattle.query_words.specs.DataPost.{IsDataPost}
use Rattle.query_words.specs.Options.{AreOptionWords, IsMade}
use Rattle.query_parameters.specs.Parameters.{Parameter}
use Rattle.query_parameters.specs.Rows.{Text, Named, names_of, named}
use Rattle.query_words.specs.Tables.{data_names, data_options, station_names, station_options}
use Rattle.query_parameters.specs.Values.{IsMinimum}
use Rattle.query_parameters.specs.Words.{AreHeld}
use Rattle.query_parameters.proofs.Said.{nodata_said, quality_said, minimum_said, flag_said}
use Rattle.query_parameters.proofs.BodySteps.{right, some_selected}
use Rattle.query_parameters.specs.BodyWords.{HasBody}

pub option_rows : (rows : List ParameterName) → names_of rows ≡ data_names → names_of (take 5 (drop 6 rows)) ≡ data_options
option_rows rows is = sym (take-map named 5 (drop 6 rows)) ∙ ap (take 5) (sym (drop-map named 6 rows)) ∙ ap (λ (rs : List Named). take 5 (drop 6 rs)) is

pub station_option_rows : (rows : List ParameterName) → names_of rows ≡ station_names → names_of (take 19 (drop 6 rows)) ≡ station_options
station_option_rows rows is = sym (take-map named 19 (drop 6 rows)) ∙ ap (take 19) (sym (drop-map named 6 rows)) ∙ ap (λ (rs : List Named). take 19 (drop 6 rs)) is

options_posted : (ps : List Parameter) (words : List (Option ParameterValue)) → AreHeld data_options ps words → (selections : List Selection) (o : Options) (q : DataQuery) → AreOptionWords words 0 o
    → IsMade selections o q → AreOptions data_options ps q
options_posted ps words held selections o q h k = record {
  nodata_is = nodata_said _ _ (held.each 0 (omega arith)) ∙ ap Some (sym h.nodata_is ∙ sym k.nodata_is);
  quality_is = quality_said _ _ (held.each 1 (omega arith)) ∙ ap Some (sym h.quality_is ∙ sym k.quality_is);
  minimum_is = subst (λ n. IsMinimum (said_or (codes "0") data_options (codes "minimumlength") ps) n) (sym h.minimum_is ∙ sym k.minimum_is) (minimum_said _ _ (held.each 2 (omega arith)));
  longest_is = flag_said _ _ (held.each 3 (omega arith)) ∙ ap Some (sym h.longest_is ∙ sym k.longest_is);
}

-- the parts make the query
pub post_asked : (body : Text) (words : List (Option ParameterValue)) (ss : List Selection) → HasBody data_options body words ss → (empty : Bool) → IsTrue empty ↔ (ss ≡ []) → empty ≡ false
    → (o : Options) (q : DataQuery) → AreOptionWords words 0 o → IsMade ss o q → IsDataPost body q
post_asked body words ss h empty test e o q options made = record {
  right = right data_options body words ss h;
  selections_are = subst (λ (xs : List Selection). AreSelections (selection_lines body) xs) (sym made.selections_are) h.selections_are;
  some = some_selected data_options body words ss h empty test e;
  options = options_posted (parameters_in (parameter_lines body)) words h.front.held ss o q options made;
}
