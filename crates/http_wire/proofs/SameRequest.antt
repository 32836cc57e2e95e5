-- What a field and a request keep besides what they say is one thing.
use Rattle.std.proofs.Common.{◌≡◌, ℕ, true, List, [], ◌∷◌, map, refl, ap}
use Rattle.std.proofs.Props.{props}
use mathlib.Core.HLevel.{is_prop→PathP}
use Rattle.httparse.specs.Grammar.{is_token}
use Rattle.http_wire.specs.FieldPairs.{as_pair}
use Rattle.http_wire.specs.Heads.{is_lower_token, is_value, is_target}
use Rattle.http_wire.specs.declared.field.Field.{Field}
use Rattle.http_wire.specs.declared.request.Request.{Request}

same_field : (x y : Field) → x.name ≡ y.name → x.value ≡ y.value → x ≡ y
same_field x y name value = λ i. record {
  name = name i;
  value = value i;
  name_is = is_prop→PathP (λ j. is_lower_token (name j) ≡ true) (λ j. hlevel props) x.name_is y.name_is i;
  value_is = is_prop→PathP (λ j. is_value (value j) ≡ true) (λ j. hlevel props) x.value_is y.value_is i;
}

-- fields with the same names and values are the same
pub same_fields : (xs ys : List Field) → map as_pair xs ≡ map as_pair ys → xs ≡ ys
same_fields [] [] e = refl
same_fields [] (y ∷ ys) e = absurd cc
same_fields (x ∷ xs) [] e = absurd cc
same_fields (x ∷ xs) (y ∷ ys) e =
    let pair : as_pair x ≡ as_pair y = cc in
    let pairs : map as_pair xs ≡ map as_pair ys = cc in
    let one : x ≡ y = same_field x y (ap (λ (p : List ℕ × List ℕ). p.0) pair) (ap (λ (p : List ℕ × List ℕ). p.1) pair) in
    let more : xs ≡ ys = same_fields xs ys pairs in
    cc

-- requests that say the same are the same
pub same_request : (r s : Request) → r.method ≡ s.method → r.target ≡ s.target → r.headers ≡ s.headers → r.body ≡ s.body → r.close ≡ s.close → r ≡ s
same_request r s method target headers body close = λ i. record {
  method = method i;
  target = target i;
  headers = headers i;
  body = body i;
  close = close i;
  method_is = is_prop→PathP (λ j. is_token (method j) ≡ true) (λ j. hlevel props) r.method_is s.method_is i;
  target_is = is_prop→PathP (λ j. is_target (target j) ≡ true) (λ j. hlevel props) r.target_is s.target_is i;
}
