-- The parts of a body.
use Rattle.std.proofs.Common.{inl, inr, ◌≡◌, ◌↔◌, IsTrue, Bool, true, false, ℕ, ◌-◌, ◌<◌, ◌≤◌, List, [], ◌∷◌, Option, length, map, take, drop, refl, sym, ap, subst, ◌∙◌, arith, length-take, length-drop}
use Rattle.std.proofs.lemmas.Bool.{iff_false}
use Rattle.std.proofs.lemmas.List.{take-map, drop-map, length-map, take_rest}
use Rattle.dataselect.specs.declared.query.Selection.{Selection}
use Rattle.query_parameters.specs.declared.fault.QueryFault.{QueryFault}
use Rattle.query_parameters.specs.declared.lines.BodyLine.{BodyLine}
use Rattle.query_parameters.specs.declared.words.ParameterValue.{ParameterValue}
use Rattle.query_parameters.specs.BodyWords.{HasBody, RefusesLines}
use Rattle.query_parameters.specs.Bodies.{Numbered, numbered_line, lines_of, front_count, parameter_lines, selection_lines, AreSelections}
use Rattle.query_parameters.specs.Posts.{AreFew, IsRightFront, IsRightBody, IsBodyFaultBy, RefusesBodyBy}
use Rattle.query_parameters.specs.declared.fault.QueryFault.TheVariants.{TooMany, Unknown, Repeated, OutOfScope, Value, Line, Order, NoLine, OutOfMemory}
use Rattle.query_parameters.specs.Fronts.{HasFront, RefusesFront}
use Rattle.query_parameters.specs.Rows.{Text, Named}
use Rattle.query_parameters.specs.Selecting.{RefusesRest}
use Rattle.query_parameters.proofs.SelectionSteps.{selections_taken}

some_lines : (ls : List Numbered) (ss : List Selection) → AreSelections ls ss → (ss ≡ [] → ⊥) → 0 < length ls
some_lines [] [] all some = absurd (some refl)
some_lines [] (s ∷ ss) all some = absurd all
some_lines (l ∷ ls) ss all some = omega arith

no_lines : (ls : List Numbered) (ss : List Selection) → AreSelections ls ss → ss ≡ [] → ls ≡ []
no_lines [] ss all none = refl
no_lines (l ∷ ls) [] all none = absurd all
no_lines (l ∷ ls) (s ∷ ss) all none = cc

-- what the readers of the two parts are refused for, the body is
front_by : (options : List Named) (body : Text) (fault : QueryFault) → AreFew body → RefusesFront options (parameter_lines body) fault → RefusesLines options body fault
front_by options body TooMany few h = absurd h.refused
front_by options body (Unknown n) few h = record { few = few; first = inl h }
front_by options body (Repeated n) few h = record { few = few; first = inl h }
front_by options body (OutOfScope n) few h = record { few = few; first = inl h }
front_by options body (Value n) few h = record { few = few; first = inl h }
front_by options body (Line n) few h = record { few = few; first = inl h }
front_by options body Order few h = h.refused
front_by options body NoLine few h = h.refused
front_by options body OutOfMemory few h = tt

rest_by : (options : List Named) (body : Text) (fault : QueryFault) → IsRightFront options body → RefusesRest (selection_lines body) fault → RefusesLines options body fault
rest_by options body (Line n) right h = record { few = right.few; first = inr (record { taken = right.taken; first = h }) }
rest_by options body OutOfMemory right h = tt
rest_by options body TooMany right h = absurd h.refused
rest_by options body (Unknown n) right h = absurd h.refused
rest_by options body (Repeated n) right h = absurd h.refused
rest_by options body (OutOfScope n) right h = absurd h.refused
rest_by options body (Value n) right h = absurd h.refused
rest_by options body Order right h = h.refused
rest_by options body NoLine right h = h.refused

-- and whatever its method makes of it
pub lines_refuse : (options : List Named) (Turned : Text → Type 0) (body : Text) (fault : QueryFault) → RefusesLines options body fault → RefusesBodyBy options Turned body fault
lines_refuse options Turned body TooMany h = h
lines_refuse options Turned body (Unknown n) h = h
lines_refuse options Turned body (Repeated n) h = h
lines_refuse options Turned body (OutOfScope n) h = h
lines_refuse options Turned body (Value n) h = h
lines_refuse options Turned body (Line n) h = h
lines_refuse options Turned body Order h = absurd h
lines_refuse options Turned body NoLine h = absurd h
lines_refuse options Turned body OutOfMemory h = tt

-- the lines of a body, cut where the selections begin
module _ (options : List Named) (body : Text) (lines : List BodyLine) (front : ℕ) (is : map numbered_line lines ≡ lines_of body) (at : front ≡ front_count (map numbered_line lines))
    (first : front ≤ 1000) (others : length lines - front ≤ 10_000) where
  count : front ≡ front_count (lines_of body)
  count = at ∙ ap front_count is

  front_at : map numbered_line (take front lines) ≡ parameter_lines body
  front_at = sym (take-map numbered_line front lines) ∙ ap (take front) is ∙ ap (λ n. take n (lines_of body)) count

  dropped_at : map numbered_line (drop front lines) ≡ selection_lines body
  dropped_at = sym (drop-map numbered_line front lines) ∙ ap (drop front) is ∙ ap (λ n. drop n (lines_of body)) count

  rest_at : map numbered_line (take (length lines - front) (drop front lines)) ≡ selection_lines body
  rest_at = ap (map numbered_line) (take_rest lines front) ∙ dropped_at

  few : AreFew body
  few = record {
    parameters = let e = ap length front_at in let n = length-map (take front lines) numbered_line in let t = length-take front lines in omega (arith, e, n, t, first);
    selections = let e = ap length dropped_at in let n = length-map (drop front lines) numbered_line in let t = length-drop front lines in omega (arith, e, n, t, others);
  }

  pub front_refused : (fault : QueryFault) → RefusesFront options (map numbered_line (take front lines)) fault → RefusesLines options body fault
  front_refused fault h = front_by options body fault few (subst (λ (ls : List Numbered). RefusesFront options ls fault) front_at h)

  module _ (words : List (Option ParameterValue)) (read : HasFront options (map numbered_line (take front lines)) words) where
    has_front : HasFront options (parameter_lines body) words
    has_front = subst (λ (ls : List Numbered). HasFront options ls words) front_at read

    pub rest_refused : (fault : QueryFault) → RefusesRest (map numbered_line (take (length lines - front) (drop front lines))) fault → RefusesLines options body fault
    rest_refused fault h = rest_by options body fault (record { few = few; taken = has_front.taken }) (subst (λ (ls : List Numbered). RefusesRest ls fault) rest_at h)

    pub body_read : (ss : List Selection) → AreSelections (map numbered_line (take (length lines - front) (drop front lines))) ss → HasBody options body words ss
    body_read ss all = record { few = few; front = has_front; selections_are = subst (λ (ls : List Numbered). AreSelections ls ss) rest_at all }

-- what a body that was read is
module _ (options : List Named) (body : Text) (words : List (Option ParameterValue)) (ss : List Selection) (h : HasBody options body words ss) where
  pub right : IsRightFront options body
  right = record { few = h.few; taken = h.front.taken }

  pub right_body : IsRightBody options body
  right_body = record { right = right; rest = selections_taken [] (selection_lines body) ss h.selections_are }

  module _ (empty : Bool) (test : IsTrue empty ↔ (ss ≡ [])) where
    pub none_selected : (Turned : Text → Type 0) → ¬ (Turned body) → empty ≡ true → IsBodyFaultBy options Turned body NoLine
    none_selected Turned ordered e = (right_body, ordered, no_lines (selection_lines body) ss h.selections_are (test.0 e))

    pub some_selected : empty ≡ false → 0 < length (selection_lines body)
    some_selected e = some_lines (selection_lines body) ss h.selections_are (iff_false test e)
