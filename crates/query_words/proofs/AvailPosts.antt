-- The parts of a body that asks for spans or extents.
use Rattle.std.proofs.Common.{◌≡◌, ◌↔◌, IsTrue, Bool, false, List, [], Option, sym, subst}
use Rattle.dataselect.specs.declared.query.Selection.{Selection}
use Rattle.query_parameters.specs.Bodies.{parameter_lines, selection_lines, parameters_in, AreSelections}
use Rattle.query_parameters.specs.BodyWords.{HasBody}
use Rattle.query_parameters.specs.Rows.{Text}
use Rattle.query_parameters.specs.declared.words.ParameterValue.{ParameterValue}
use Rattle.query_parameters.proofs.BodySteps.{right, some_selected}
use Rattle.query_words.specs.AvailOptions.{AreAvailWords, IsAvailMade}
use Rattle.query_words.specs.AvailPost.{IsAvailPost}
use Rattle.query_words.specs.AvailTables.{avail_options}
use Rattle.query_words.specs.declared.avail.AvailChoices.{AvailChoices}
use Rattle.query_words.specs.declared.avail.AvailMethod.{AvailMethod}
use Rattle.query_words.specs.declared.avail.AvailQuery.{AvailQuery}
use Rattle.query_words.proofs.AvailSaid.{options_posted}

-- the parts make the query
pub post_asked : (method : AvailMethod) (body : Text) (words : List (Option ParameterValue)) (ss : List Selection) → HasBody (avail_options method) body words ss → (empty : Bool) → IsTrue empty ↔ (ss ≡ []) → empty ≡ false
    → (o : AvailChoices) (q : AvailQuery) → AreAvailWords method words 0 o → IsAvailMade ss o q → IsAvailPost method body q
post_asked method body words ss h empty test e o q choices made = record {
  right = right (avail_options method) body words ss h;
  selections_are = subst (λ (xs : List Selection). AreSelections (selection_lines body) xs) (sym made.selections_are) h.selections_are;
  some = some_selected (avail_options method) body words ss h empty test e;
  options = options_posted method (parameters_in (parameter_lines body)) words h.front.held ss o q choices made;
}
