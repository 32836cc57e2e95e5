-- The pairs that are left of a query string.
use Rattle.std.proofs.Common.{◌≡◌, ℕ, ◌+◌, List, ◌∷◌, Option, length, map, ap, sym, subst, ◌∙◌, arith}
use Rattle.form_urlencoded.specs.Form.{DecodesTo}
use Rattle.query_parameters.specs.declared.words.ParameterValue.{ParameterValue}
use Rattle.query_parameters.specs.Parameters.{Parameter, parameter, decoded, numbered_from}
use Rattle.query_parameters.specs.Rows.{Text, Named}
use Rattle.query_parameters.specs.Words.{HasReadParameters}

-- the first of the pairs that are left, decoded
pub next_pair : (left next : List (Text × Text)) (raw_name raw_value name value : Text) → left ≡ (raw_name, raw_value) ∷ next → DecodesTo raw_name name → DecodesTo raw_value value
    → map decoded left ≡ (name, value) ∷ map decoded next
next_pair left next raw_name raw_value name value is n v = ap (map decoded) is ∙ ap (λ (p : Text × Text). p ∷ map decoded next) (λ i. (sym n.2 i, sym v.2 i))

pub next_read : (rows : List Named) (all done : List Parameter) (number : ℕ) (left next : List (Text × Text)) (name value : Text) (words : List (Option ParameterValue)) → left ≡ (name, value) ∷ next
    → HasReadParameters rows all done (numbered_from number left) words → HasReadParameters rows all done (parameter number (name, value) ∷ numbered_from (number + 1) next) words
next_read rows all done number left next name value words is h = subst (λ (ps : List (Text × Text)). HasReadParameters rows all done (numbered_from number ps) words) is h

pub next_count : (left next : List (Text × Text)) (name value : Text) (number total : ℕ) → left ≡ (name, value) ∷ next → number + length left ≡ total → number + 1 + length next ≡ total
next_count left next name value number total is h = let e : length left ≡ length next + 1 = ap length is ∙ omega arith in omega (arith, e, h)
