-- What a word of a number, a text or an order gives is what is said under its name.
use Rattle.std.proofs.Common.{◌≡◌, ℕ, Option, Some, None, refl, sym, ap, subst, ◌∙◌, codes}
use Rattle.query_parameters.specs.Extracts.{number_word, whole_word, text_word, event_order_word}
use Rattle.query_parameters.specs.Gets.{text_or}
use Rattle.query_parameters.specs.Places.{IsNumberLimit, IsCountLimit}
use Rattle.query_parameters.specs.Rows.{Text}
use Rattle.query_parameters.specs.Values.{event_order_of, IsEntryNumber}
use Rattle.query_parameters.specs.Words.{IsHeld}
use Rattle.query_parameters.specs.declared.rows.ValueKind.TheVariants as kind
use Rattle.query_parameters.specs.declared.words.ParameterValue.{ParameterValue}

-- a held word in place of what it is
held_as : (P : Option ParameterValue → Type 0) (held : Option ParameterValue) (w v : ParameterValue) → held ≡ Some w → w ≡ v → P (Some v) → P held
held_as P held w v h k p = subst P (sym (h ∙ ap Some k)) p

pub number_said : (given : Option Text) (held : Option ParameterValue) → IsHeld kind.Decimal given held → IsNumberLimit given (number_word held)
number_said None held h = ap number_word h
number_said (Some text) held h = held_as (λ o. IsNumberLimit (Some text) (number_word o)) held _ _ h.1 h.2.1 (h.2.0, refl, h.2.2)

pub count_said : (given : Option Text) (held : Option ParameterValue) → IsHeld kind.Count given held → IsCountLimit given (whole_word held)
count_said None held h = ap whole_word h
count_said (Some text) held h = held_as (λ o. IsCountLimit (Some text) (whole_word o)) held _ _ h.1 h.2.1 (h.2.0, refl, h.2.2)

pub entry_number_said : (text : Text) (held : Option ParameterValue) → IsHeld kind.EntryNumber (Some text) held → (n : ℕ) × (whole_word held ≡ Some n) × IsEntryNumber text n
entry_number_said text held h = (h.2.0, ap whole_word (h.1 ∙ ap Some h.2.1), h.2.2)

pub text_said : (given : Option Text) (held : Option ParameterValue) → IsHeld kind.Text given held → given ≡ text_word held
text_said None held h = sym (ap text_word h)
text_said (Some text) held h = sym (ap text_word (h.1 ∙ ap Some h.2))

pub event_order_said : (given : Option Text) (held : Option ParameterValue) → IsHeld kind.EventOrder given held → event_order_of (text_or (codes "time") given) ≡ Some (event_order_word held)
event_order_said None held h = ap (λ (o : Option ParameterValue). Some (event_order_word o)) (sym h)
event_order_said (Some text) held h = h.2.2 ∙ ap (λ (o : Option ParameterValue). Some (event_order_word o)) (sym (h.1 ∙ ap Some h.2.1))
