-- Rows of a table, and what is given under them.
use Rattle.std.proofs.Common.{◌≡◌, ℕ, ◌+◌, ◌<◌, Bool, true, false, cond, not, List, [], ◌∷◌, ◌++◌, Option, Some, None, length, map, get_or, refl, ap, ◌∙◌, position}
use Rattle.std.specs.List.{position_or_len}
use Rattle.std.proofs.lemmas.Bool.{eq-eqb, ne_eqb}
use Rattle.std.proofs.lemmas.List.{length-map, get_or-map}
use Rattle.std.proofs.lemmas.List.Quantifiers.{position-Some}
use Rattle.query_parameters.specs.declared.rows.ParameterName.{ParameterName}
use Rattle.query_parameters.specs.Parameters.{Parameter, given, is_name}
use Rattle.query_parameters.specs.Rows.{Named, names_of, named, place_of_name, is_called, kind_of, no_name}

position_or_len-map : {A B : Type 0} (f : A → B) (p : B → Bool) (xs : List A) → position_or_len (λ x. p (f x)) xs ≡ position_or_len p (map f xs)
position_or_len-map f p [] = refl
position_or_len-map f p (x ∷ xs) = ap (λ n. cond (not (p (f x))) (1 + n) 0) (position_or_len-map f p xs)

pub position-map : {A B : Type 0} (f : A → B) (p : B → Bool) (xs : List A) → position (λ x. p (f x)) xs ≡ position p (map f xs)
position-map f p xs = rw (position_or_len-map f p xs, length-map xs f) refl

pub within_rows : (rows : List Named) (name : List ℕ) (r : ℕ) → place_of_name rows name ≡ Some r → r < length rows
within_rows rows name r e = (position-Some (λ row. is_called row name) rows r no_name e).0

pub within_row : (table : List ParameterName) (name : List ℕ) (r : ℕ) → place_of_name (names_of table) name ≡ Some r → r < length table
within_row table name r e = rw (length-map table named) at (within_rows (names_of table) name r e)

pub kind_is : (table : List ParameterName) (r : ℕ) (d : ParameterName) → r < length table → kind_of (names_of table) r ≡ (get_or table r d).kind
kind_is table r d lt = ap (λ (n : Named). n.kind) (get_or-map named table r d no_name lt)

found_here : (rows : List Named) (row : ℕ) (p : Parameter) (rest : Option (List ℕ)) → place_of_name rows p.name ≡ Some row
    → cond (is_name row (place_of_name rows p.name)) (Some p.value) rest ≡ Some p.value
found_here rows row p rest e = ap (λ (o : Option ℕ). cond (is_name row o) (Some p.value) rest) e ∙ ap (λ b. cond b (Some p.value) rest) (eq-eqb row row refl)

found_elsewhere : (rows : List Named) (row other : ℕ) (p : Parameter) (rest : Option (List ℕ)) → place_of_name rows p.name ≡ Some other → (other ≡ row → ⊥)
    → cond (is_name row (place_of_name rows p.name)) (Some p.value) rest ≡ rest
found_elsewhere rows row other p rest e ne = ap (λ (o : Option ℕ). cond (is_name row o) (Some p.value) rest) e ∙ ap (λ b. cond b (Some p.value) rest) (ne_eqb other row ne)

skip : (b : Bool) (text : List ℕ) (rest : Option (List ℕ)) → cond b (Some text) rest ≡ None → (b ≡ false) × (rest ≡ None)
skip true text rest e = cc
skip false text rest e = (refl, e)

-- what one more parameter gives under its own row, where nothing was given
pub given_last : (rows : List Named) (row : ℕ) (ps : List Parameter) (p : Parameter) → given rows row ps ≡ None → place_of_name rows p.name ≡ Some row
    → given rows row (ps ++ p ∷ []) ≡ Some p.value
given_last rows row [] p none e = found_here rows row p None e
given_last rows row (q ∷ ps) p none e =
    let h = skip (is_name row (place_of_name rows q.name)) q.value (given rows row ps) none in
    ap (λ b. cond b (Some q.value) (given rows row (ps ++ p ∷ []))) h.0 ∙ given_last rows row ps p h.1 e

-- and under another
pub given_other : (rows : List Named) (row other : ℕ) (ps : List Parameter) (p : Parameter) → place_of_name rows p.name ≡ Some other → (other ≡ row → ⊥)
    → given rows row (ps ++ p ∷ []) ≡ given rows row ps
given_other rows row other [] p e ne = found_elsewhere rows row other p None e ne
given_other rows row other (q ∷ ps) p e ne = ap (λ rest. cond (is_name row (place_of_name rows q.name)) (Some q.value) rest) (given_other rows row other ps p e ne)
