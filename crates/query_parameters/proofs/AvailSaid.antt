-- What a word of availability gives is what is said under its name.
use Rattle.std.proofs.Common.{◌≡◌, Option, Some, None, sym, ap, ◌∙◌, codes}
use Rattle.query_parameters.specs.Extracts.{qualities_word, merges_word, avail_order_word, avail_form_word}
use Rattle.query_parameters.specs.Gets.{text_or}
use Rattle.query_parameters.specs.Listed.{qualities_of, IsMerges, spans_order_of, extent_order_of, avail_form_of}
use Rattle.query_parameters.specs.Rows.{Text}
use Rattle.query_parameters.specs.Words.{IsHeld}
use Rattle.query_parameters.specs.declared.rows.ValueKind.TheVariants as kind
use Rattle.query_parameters.specs.declared.words.ParameterValue.{ParameterValue}

pub qualities_said : (given : Option Text) (held : Option ParameterValue) → IsHeld kind.Qualities given held → qualities_of (text_or (codes "*") given) ≡ Some (qualities_word held)
qualities_said None held h = ap (λ (o : Option ParameterValue). Some (qualities_word o)) (sym h)
qualities_said (Some text) held h = h.2.2 ∙ ap (λ (o : Option ParameterValue). Some (qualities_word o)) (sym (h.1 ∙ ap Some h.2.1))

pub merges_said : (given : Option Text) (held : Option ParameterValue) → IsHeld kind.Merges given held → IsMerges given (merges_word held)
merges_said None held h = ap merges_word h
merges_said (Some text) held h = h.2.2 ∙ ap (λ (o : Option ParameterValue). Some (merges_word o)) (sym (h.1 ∙ ap Some h.2.1))

pub spans_order_said : (given : Option Text) (held : Option ParameterValue) → IsHeld kind.SpansOrder given held → spans_order_of (text_or (codes "nslc_time_quality_samplerate") given) ≡ Some (avail_order_word held)
spans_order_said None held h = ap (λ (o : Option ParameterValue). Some (avail_order_word o)) (sym h)
spans_order_said (Some text) held h = h.2.2 ∙ ap (λ (o : Option ParameterValue). Some (avail_order_word o)) (sym (h.1 ∙ ap Some h.2.1))

pub extent_order_said : (given : Option Text) (held : Option ParameterValue) → IsHeld kind.ExtentOrder given held → extent_order_of (text_or (codes "nslc_time_quality_samplerate") given) ≡ Some (avail_order_word held)
extent_order_said None held h = ap (λ (o : Option ParameterValue). Some (avail_order_word o)) (sym h)
extent_order_said (Some text) held h = h.2.2 ∙ ap (λ (o : Option ParameterValue). Some (avail_order_word o)) (sym (h.1 ∙ ap Some h.2.1))

pub avail_form_said : (given : Option Text) (held : Option ParameterValue) → IsHeld kind.AvailForm given held → avail_form_of (text_or (codes "text") given) ≡ Some (avail_form_word held)
avail_form_said None held h = ap (λ (o : Option ParameterValue). Some (avail_form_word o)) (sym h)
avail_form_said (Some text) held h = h.2.2 ∙ ap (λ (o : Option ParameterValue). Some (avail_form_word o)) (sym (h.1 ∙ ap Some h.2.1))
