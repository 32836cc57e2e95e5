-- What a byte does at each place of a scan.
use Rattle.std.proofs.Common.{◌≡◌, ℕ, true, false, ◌==◌, List, ◌∷◌, Option, Some, refl, sym, ap, ◌∙◌, inl, inr}
use Rattle.std.specs.Option.{option_and_then}
use Rattle.std.proofs.lemmas.Bool.{cases_Bool, cond-true, cond-false}
use Rattle.std.proofs.lemmas.Bool.Decides.{Decides-eqb}
use Rattle.http_digest.specs.Credentials.{space, quotation_mark, comma, equals_sign, is_token_byte}
use Rattle.http_digest.specs.Items.{in_name, in_value, before_step, name_step, value_step, token_step, behind_step, step_at, items_from}
use Rattle.http_digest.specs.declared.item.Item.{Item}
use Rattle.http_digest.specs.declared.scan.Place.{Place}
use Rattle.http_digest.specs.declared.scan.Place.TheVariants as place
use Rattle.http_digest.specs.declared.scan.Scan.{Scan}

-- a scan at a place
abbrev pub scan_at : Place → List Item → List ℕ → List ℕ → Scan
scan_at p items name value = record { items = items; name = name; value = value; place = p }

abbrev pub reads : Place → List Item → List ℕ → List ℕ → List ℕ → Option (List Item)
reads p items name value text = items_from (scan_at p items name value) text

pub space_is_none : is_token_byte space ≡ false
unfolding is_token_byte
space_is_none = refl

pub comma_is_none : is_token_byte comma ≡ false
unfolding is_token_byte
comma_is_none = refl

pub equals_is_none : is_token_byte equals_sign ≡ false
unfolding is_token_byte
equals_is_none = refl

pub quotation_is_none : is_token_byte quotation_mark ≡ false
unfolding is_token_byte
quotation_is_none = refl

pub same_byte : (a b : ℕ) → (a == b) ≡ true → a ≡ b
same_byte a b h = (Decides-eqb a b).0 h

-- a byte of a token is none of the others
pub other : (b c : ℕ) → is_token_byte c ≡ false → is_token_byte b ≡ true → (b == c) ≡ false
other b c none token =
    elim (cases_Bool (b == c)) [
      | inl same ↦ let bad : true ≡ false = sym token ∙ ap is_token_byte (same_byte b c same) ∙ none in absurd cc
      | inr differs ↦ differs
    ]

-- a step goes on
pub goes : (s t : Scan) (b : ℕ) (text : List ℕ) → step_at s.place s b ≡ Some t → items_from s (b ∷ text) ≡ items_from t text
goes s t b text e = ap (option_and_then (λ t. items_from t text)) e

pub name_token : (s : Scan) (b : ℕ) → is_token_byte b ≡ true → name_step s b ≡ Some (in_name s b)
name_token s b h = cond-false _ _ _ (other b equals_sign equals_is_none h) ∙ cond-true _ _ _ h

pub before_token : (s : Scan) (b : ℕ) → is_token_byte b ≡ true → before_step s b ≡ Some (in_name s b)
before_token s b h = cond-false _ _ _ (other b space space_is_none h) ∙ cond-true _ _ _ h

pub value_token : (s : Scan) (b : ℕ) → is_token_byte b ≡ true → value_step s b ≡ Some (in_value place.Token s b)
value_token s b h = cond-false _ _ _ (other b quotation_mark quotation_is_none h) ∙ cond-true _ _ _ h

pub token_token : (s : Scan) (b : ℕ) → is_token_byte b ≡ true → token_step s b ≡ Some (in_value place.Token s b)
token_token s b h = cond-true _ _ _ h

pub token_other : (s : Scan) (b : ℕ) → is_token_byte b ≡ false → token_step s b ≡ behind_step s b
token_other s b h = cond-false _ _ _ h
