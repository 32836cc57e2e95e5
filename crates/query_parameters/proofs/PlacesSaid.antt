-- What a word of a place gives is what is said under its name.
use Rattle.std.proofs.Common.{◌≡◌, Option, Some, None, refl, sym, ap, subst, ◌∙◌, codes}
use Rattle.query_parameters.specs.Extracts.{number_word, level_word}
use Rattle.query_parameters.specs.Gets.{text_or}
use Rattle.query_parameters.specs.Places.{IsBound}
use Rattle.query_parameters.specs.Rows.{Text}
use Rattle.query_parameters.specs.Values.{level_of, most_latitude, most_longitude}
use Rattle.query_parameters.specs.Words.{IsParameterValue, IsHeld}
use Rattle.query_parameters.specs.declared.rows.ValueKind.TheVariants as kind
use Rattle.query_parameters.specs.declared.words.ParameterValue.{ParameterValue}

latitude_text : (text : Text) (w : ParameterValue) → IsParameterValue kind.Latitude text w → IsBound most_latitude (Some text) (number_word (Some w))
latitude_text text w h = subst (λ (w : ParameterValue). IsBound most_latitude (Some text) (number_word (Some w))) (sym h.1) (h.0, refl, h.2)

pub latitude_said : (given : Option Text) (held : Option ParameterValue) → IsHeld kind.Latitude given held → IsBound most_latitude given (number_word held)
latitude_said None held h = ap number_word h
latitude_said (Some text) held h = subst (λ (o : Option ParameterValue). IsBound most_latitude (Some text) (number_word o)) (sym h.1) (latitude_text text h.0 h.2)

longitude_text : (text : Text) (w : ParameterValue) → IsParameterValue kind.Longitude text w → IsBound most_longitude (Some text) (number_word (Some w))
longitude_text text w h = subst (λ (w : ParameterValue). IsBound most_longitude (Some text) (number_word (Some w))) (sym h.1) (h.0, refl, h.2)

pub longitude_said : (given : Option Text) (held : Option ParameterValue) → IsHeld kind.Longitude given held → IsBound most_longitude given (number_word held)
longitude_said None held h = ap number_word h
longitude_said (Some text) held h = subst (λ (o : Option ParameterValue). IsBound most_longitude (Some text) (number_word o)) (sym h.1) (longitude_text text h.0 h.2)

level_text : (text : Text) (w : ParameterValue) → IsParameterValue kind.Level text w → level_of text ≡ Some (level_word (Some w))
level_text text w h = h.2 ∙ ap (λ (w : ParameterValue). Some (level_word (Some w))) (sym h.1)

pub level_said : (given : Option Text) (held : Option ParameterValue) → IsHeld kind.Level given held → level_of (text_or (codes "station") given) ≡ Some (level_word held)
level_said None held h = ap (λ (o : Option ParameterValue). Some (level_word o)) (sym h)
level_said (Some text) held h = level_text text h.0 h.2 ∙ ap (λ (o : Option ParameterValue). Some (level_word o)) (sym h.1)
