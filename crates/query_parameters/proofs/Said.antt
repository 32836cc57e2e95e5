-- What a word gives is what is said under its name.
use Rattle.std.proofs.Common.{◌≡◌, inl, inr, ◌<ℤ◌, ◌↔◌, ◌<◌, ◌≤◌, IsTrue, ℕ, Bool, true, false, List, [], Option, Some, None, refl, sym, ap, subst, ◌∙◌, codes, arith}
use Rattle.std.proofs.lemmas.Int.{ints}
use Rattle.std.proofs.lemmas.Bool.{iff_false, cases_lt}
use Rattle.exact_time.specs.Decimals.{Unsigned}
use Rattle.exact_time.specs.declared.moment.Moment.{Moment}
use Rattle.channel_globs.specs.declared.nslc.Part.{Part}
use Rattle.channel_globs.specs.PatternText.{IsPatternList}
use Rattle.query_parameters.specs.Gets.{text_or, IsLimit, IsWindowInOrder}
use Rattle.query_parameters.specs.Extracts.{limit_word, nodata_word, quality_word, minimum_word, flag_word, IsListWord, is_backwards}
use Rattle.query_parameters.specs.Rows.{Text}
use Rattle.query_parameters.specs.Values.{nodata_of, quality_of, flag_of, IsMinimum}
use Rattle.query_parameters.specs.Words.{IsParameterValue, IsHeld}
use Rattle.query_parameters.specs.declared.rows.ValueKind.TheVariants as kind
use Rattle.query_parameters.specs.declared.words.ParameterValue.{ParameterValue}

limit_of : (text : Text) (w : ParameterValue) → IsParameterValue kind.Time text w → IsLimit (Some text) (limit_word (Some w))
limit_of text w h = subst (λ (w : ParameterValue). IsLimit (Some text) (limit_word (Some w))) (sym h.1) (h.0, refl, h.2)

pub limit_said : (given : Option Text) (held : Option ParameterValue) → IsHeld kind.Time given held → IsLimit given (limit_word held)
limit_said None held h = ap limit_word h
limit_said (Some text) held h = subst (λ (o : Option ParameterValue). IsLimit (Some text) (limit_word o)) (sym h.1) (limit_of text h.0 h.2)

list_of : (part : Part) (text : Text) (w : ParameterValue) (list : List Text) → IsParameterValue (kind.Patterns part) text w → IsListWord part (Some w) list → IsPatternList part text list
list_of part text w list h k =
    let same : list ≡ h.0 = subst (λ (w : ParameterValue). IsListWord part (Some w) list) h.1 k in
    subst (λ (l : List Text). IsPatternList part text l) (sym same) h.2

pub list_said : (part : Part) (given : Option Text) (held : Option ParameterValue) (list : List Text) → IsHeld (kind.Patterns part) given held → IsListWord part held list
    → IsPatternList part (text_or (codes "*") given) list
list_said part None held list h k = subst (λ (o : Option ParameterValue). IsListWord part o list) h k
list_said part (Some text) held list h k = list_of part text h.0 list h.2 (subst (λ (o : Option ParameterValue). IsListWord part o list) h.1 k)

nodata_text : (text : Text) (w : ParameterValue) → IsParameterValue kind.Nodata text w → nodata_of text ≡ Some (nodata_word (Some w))
nodata_text text w h = h.2 ∙ ap (λ (w : ParameterValue). Some (nodata_word (Some w))) (sym h.1)

pub nodata_said : (given : Option Text) (held : Option ParameterValue) → IsHeld kind.Nodata given held → nodata_of (text_or (codes "204") given) ≡ Some (nodata_word held)
nodata_said None held h = ap (λ (o : Option ParameterValue). Some (nodata_word o)) (sym h)
nodata_said (Some text) held h = nodata_text text h.0 h.2 ∙ ap (λ (o : Option ParameterValue). Some (nodata_word o)) (sym h.1)

quality_text : (text : Text) (w : ParameterValue) → IsParameterValue kind.Quality text w → quality_of text ≡ Some (quality_word (Some w))
quality_text text w h = h.2 ∙ ap (λ (w : ParameterValue). Some (quality_word (Some w))) (sym h.1)

pub quality_said : (given : Option Text) (held : Option ParameterValue) → IsHeld kind.Quality given held → quality_of (text_or (codes "B") given) ≡ Some (quality_word held)
quality_said None held h = ap (λ (o : Option ParameterValue). Some (quality_word o)) (sym h)
quality_said (Some text) held h = quality_text text h.0 h.2 ∙ ap (λ (o : Option ParameterValue). Some (quality_word o)) (sym h.1)

pub no_minimum : IsMinimum (codes "0") 0
no_minimum = record {
  decimal = record {
    sign = Unsigned;
    whole = codes "0";
    decimals = [];
    form = record { text_is = refl; some = omega arith; whole_digits = refl; decimal_digits = refl; few = omega arith };
    short = omega arith;
    value = refl;
  };
  small = omega arith;
}

minimum_text : (text : Text) (w : ParameterValue) → IsParameterValue kind.Seconds text w → IsMinimum text (minimum_word (Some w))
minimum_text text w h = subst (λ (w : ParameterValue). IsMinimum text (minimum_word (Some w))) (sym h.1) h.2

pub minimum_said : (given : Option Text) (held : Option ParameterValue) → IsHeld kind.Seconds given held → IsMinimum (text_or (codes "0") given) (minimum_word held)
minimum_said None held h = subst (λ (o : Option ParameterValue). IsMinimum (codes "0") (minimum_word o)) (sym h) no_minimum
minimum_said (Some text) held h = subst (λ (o : Option ParameterValue). IsMinimum text (minimum_word o)) (sym h.1) (minimum_text text h.0 h.2)

flag_text : (text : Text) (w : ParameterValue) → IsParameterValue kind.Flag text w → flag_of text ≡ Some (flag_word (Some w))
flag_text text w h = h.2 ∙ ap (λ (w : ParameterValue). Some (flag_word (Some w))) (sym h.1)

pub flag_said : (given : Option Text) (held : Option ParameterValue) → IsHeld kind.Flag given held → flag_of (text_or (codes "false") given) ≡ Some (flag_word held)
flag_said None held h = ap (λ (o : Option ParameterValue). Some (flag_word o)) (sym h)
flag_said (Some text) held h = flag_text text h.0 h.2 ∙ ap (λ (o : Option ParameterValue). Some (flag_word o)) (sym h.1)

-- a start that isn't after the end
pub in_time : (start end : Option Moment) → is_backwards start end ≡ false → IsWindowInOrder start end
in_time (Some start) (Some end) h = grind (arith, ints)
in_time (Some start) None h = tt
in_time None end h = tt

-- two limits, of which the first is after the second
pub backwards : (start end : Option Moment) → is_backwards start end ≡ true → (from : Moment) × (to : Moment) × (start ≡ Some from) × (end ≡ Some to) × (to.micros <ℤ from.micros)
backwards (Some start) (Some end) h = (start, end, refl, refl, grind (arith, ints))
backwards (Some start) None h = cc
backwards None end h = cc

pub few_enough : (b : Bool) (n : ℕ) → IsTrue b ↔ (1000 < n) → b ≡ false → n ≤ 1000
few_enough b n h e = elim (cases_lt 1000 n) [ inl more ↦ absurd (iff_false h e more) | inr few ↦ few ]
