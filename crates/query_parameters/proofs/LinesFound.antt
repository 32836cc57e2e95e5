-- Every line of a body is taken or refused.
use Rattle.std.proofs.Common.{◌≡◌, ◌⊎◌, inl, inr, suc, ◌<◌, List, [], ◌∷◌, ◌++◌, Option, Some, None, length, refl, subst, ◌∙◌, arith}
use Rattle.std.specs.Str.{IsAscii, IsNotAscii}
use Rattle.std.proofs.lemmas.Bool.{cases_Bool, cases_lt, both_ways}
use Rattle.std.proofs.lemmas.List.{map-append}
use Rattle.std.proofs.lemmas.Str.Ascii.{IsAscii-nil, IsAscii-cons}
use Rattle.exact_time.specs.declared.moment.Moment.{Moment}
use Rattle.channel_globs.specs.declared.nslc.Part.TheVariants.{Network, Station, Location, Channel}
use Rattle.dataselect.specs.declared.query.Selection.{Selection}
use Rattle.query_parameters.specs.Bodies.{Numbered, Fields, AreSix, AreFields, IsWindow, IsSelection, AreSelections, TakesLine, RefusesLine, TakesSelection, RefusesSelection, parameters_in, parameter_of, selection_fields, has_equals, limit_text}
use Rattle.query_parameters.specs.Gets.{IsLimit}
use Rattle.query_parameters.specs.Posts.{AreFew, IsWrongFront, IsWrongRest, IsBodyFaultBy}
use Rattle.query_parameters.specs.FirstRefusals.{AreTaken}
use Rattle.query_parameters.specs.Parameters.{Parameter, TakesParameter, RefusesParameter}
use Rattle.query_parameters.specs.Rows.{Text, Named}
use Rattle.query_parameters.specs.declared.fault.QueryFault.{QueryFault}
use Rattle.query_parameters.specs.declared.fault.QueryFault.TheVariants.{TooMany, Unknown, Repeated, OutOfScope, Value, Line, Order, NoLine, OutOfMemory}
use Rattle.query_parameters.proofs.GivenFound.{in_time_or_backwards}
use Rattle.query_parameters.proofs.OneGet.{one_limit, not_backwards}
use Rattle.query_parameters.proofs.OnePost.{not_both, one_fields}
use Rattle.query_parameters.proofs.ValuesFound.{Found, moment_found, list_found, parameter_found}

ascii_or_not : (text : Text) → IsAscii text ⊎ IsNotAscii text
ascii_or_not [] = inl IsAscii-nil
ascii_or_not (c ∷ cs) =
    elim (cases_lt c 128) [
      | inr high ↦ inr (0, high)
      | inl low ↦ elim (ascii_or_not cs) [ inl all ↦ inl (IsAscii-cons c cs low all) | inr other ↦ inr (suc other.0, other.1) ]
    ]

line_refused : (rows : List Named) (before : List Numbered) (l : Numbered) → IsAscii l.text → (fault : QueryFault) → RefusesParameter rows (parameters_in before) (parameter_of l) fault → RefusesLine rows before l fault
line_refused rows before l ascii (Unknown n) h = (ascii, h)
line_refused rows before l ascii (Repeated n) h = (ascii, h)
line_refused rows before l ascii (OutOfScope n) h = (ascii, h)
line_refused rows before l ascii (Value n) h = (ascii, h)
line_refused rows before l ascii TooMany h = h
line_refused rows before l ascii (Line n) h = absurd h
line_refused rows before l ascii Order h = h
line_refused rows before l ascii NoLine h = h
line_refused rows before l ascii OutOfMemory h = h

-- a parameter line is taken behind those before it, or refused
pub line_found : (rows : List Named) (before : List Numbered) (l : Numbered) → TakesLine rows before l ⊎ ((fault : QueryFault) × RefusesLine rows before l fault)
line_found rows before l =
    elim (ascii_or_not l.text) [
      | inr other ↦ inr (Line l.number, (refl, other))
      | inl ascii ↦ elim (parameter_found rows (parameters_in before) (parameter_of l)) [
        | inl takes ↦ inl (record { ascii = ascii; takes = takes })
        | inr wrong ↦ inr (wrong.0, line_refused rows before l ascii wrong.0 wrong.1)
      ]
    ]

six_found : (fields : List Text) → Found (AreSix fields)
six_found (a ∷ b ∷ c ∷ d ∷ e ∷ f ∷ []) = inl (record { network = a; station = b; location = c; channel = d; start = e; end = f }, refl)
six_found [] = inr (λ fields is. cc)
six_found (a ∷ []) = inr (λ fields is. cc)
six_found (a ∷ b ∷ []) = inr (λ fields is. cc)
six_found (a ∷ b ∷ c ∷ []) = inr (λ fields is. cc)
six_found (a ∷ b ∷ c ∷ d ∷ []) = inr (λ fields is. cc)
six_found (a ∷ b ∷ c ∷ d ∷ e ∷ []) = inr (λ fields is. cc)
six_found (a ∷ b ∷ c ∷ d ∷ e ∷ f ∷ g ∷ more) = inr (λ fields is. cc)

limit_found : (text : Option Text) → Found (IsLimit text)
limit_found None = inl (None, refl)
limit_found (Some text) =
    elim (moment_found text) [
      | inl is ↦ inl (Some (record { micros = is.0 }), (record { micros = is.0 }, refl, is.1))
      | inr none ↦ inr (λ limit h. none h.0.micros h.2)
    ]

window_found : (f : Fields) → Found (λ (w : Option Moment × Option Moment). IsWindow f w.0 w.1)
window_found f =
    elim (limit_found (limit_text f.start)) [
      | inr none ↦ inr (λ w h. none w.0 h.start_is)
      | inl start ↦ elim (limit_found (limit_text f.end)) [
        | inr none ↦ inr (λ w h. none w.1 h.end_is)
        | inl end ↦ elim (in_time_or_backwards start.0 end.0) [
          | inl forwards ↦ inl ((start.0, end.0), record { start_is = start.1; end_is = end.1; in_time = forwards })
          | inr turned ↦ inr (λ w h.
              let first = one_limit (limit_text f.start) w.0 start.0 h.start_is start.1 ∙ turned.2 in
              let second = one_limit (limit_text f.end) w.1 end.0 h.end_is end.1 ∙ turned.3 in
              not_backwards w.0 w.1 turned.0 turned.1 first second h.in_time turned.4)
        ]
      ]
    ]

fields_found : (f : Fields) → Found (AreFields f)
fields_found f =
    elim (list_found Network f.network) [
      | inr none ↦ inr (λ s h. none s.network h.code_fields.network_is)
      | inl network ↦ elim (list_found Station f.station) [
        | inr none ↦ inr (λ s h. none s.station h.code_fields.station_is)
        | inl station ↦ elim (list_found Location f.location) [
          | inr none ↦ inr (λ s h. none s.location h.code_fields.location_is)
          | inl location ↦ elim (list_found Channel f.channel) [
            | inr none ↦ inr (λ s h. none s.channel h.code_fields.channel_is)
            | inl channel ↦ elim (window_found f) [
              | inr none ↦ inr (λ s h. none (s.start, s.end) h.window)
              | inl window ↦ inl (
                record { network = network.0; station = station.0; location = location.0; channel = channel.0; start = window.0.0; end = window.0.1 },
                record { code_fields = record { network_is = network.1; station_is = station.1; location_is = location.1; channel_is = channel.1 }; window = window.1 },
              )
            ]
          ]
        ]
      ]
    ]

-- a text spells a selection, or none
selection_found : (text : Text) → Found (IsSelection text)
selection_found text =
    elim (ascii_or_not text) [
      | inr other ↦ inr (λ s h. not_both text h.ascii other)
      | inl ascii ↦ elim (cases_Bool (has_equals text)) [
        | inl equals ↦ inr (λ s h. h.no_equals equals)
        | inr none ↦ elim (six_found (selection_fields text)) [
          | inr no_six ↦ inr (λ s h. no_six h.fields h.fields_are)
          | inl six ↦ elim (fields_found six.0) [
            | inr no_spelling ↦ inr (λ s h. no_spelling s (subst (λ (f : Fields). AreFields f s) (one_fields (selection_fields text) h.fields six.0 h.fields_are six.1) h.spells))
            | inl spells ↦ inl (spells.0, record { ascii = ascii; no_equals = both_ways (has_equals text) none; fields = six.0; fields_are = six.1; spells = spells.1 })
          ]
        ]
      ]
    ]

-- a selection line is taken, or refused
pub line_selects : (before : List Numbered) (l : Numbered) → TakesSelection before l ⊎ ((fault : QueryFault) × RefusesSelection before l fault)
line_selects before l = elim (selection_found l.text) [ inl found ↦ inl found | inr none ↦ inr (Line l.number, (refl, none)) ]

-- taken selection lines spell selections
pub selections_of : (before ls : List Numbered) → AreTaken TakesSelection before ls → (ss : List Selection) × AreSelections ls ss
selections_of before [] taken = ([], tt)
selections_of before (l ∷ ls) taken =
    let others = selections_of (before ++ l ∷ []) ls taken.1 in
    (taken.0.0 ∷ others.0, (taken.0.1, others.1))

-- the parameters of taken lines are taken
pub parameters_taken : (rows : List Named) (before ls : List Numbered) → AreTaken (TakesLine rows) before ls → AreTaken (TakesParameter rows) (parameters_in before) (parameters_in ls)
parameters_taken rows before [] taken = tt
parameters_taken rows before (l ∷ ls) taken = (
  taken.0.takes,
  subst (λ (ps : List Parameter). AreTaken (TakesParameter rows) ps (parameters_in ls)) (map-append parameter_of before (l ∷ [])) (parameters_taken rows (before ++ l ∷ []) ls taken.1),
)

pub some_or_nothing : (ls : List Numbered) → (0 < length ls) ⊎ (ls ≡ [])
some_or_nothing [] = inr refl
some_or_nothing (l ∷ ls) = inl (omega arith)

pub wrong_front : (options : List Named) (Turned : Text → Type 0) (body : Text) → AreFew body → (fault : QueryFault) → IsWrongFront options body fault → IsBodyFaultBy options Turned body fault
wrong_front options Turned body few (Unknown n) h = record { few = few; first = inl h }
wrong_front options Turned body few (Repeated n) h = record { few = few; first = inl h }
wrong_front options Turned body few (OutOfScope n) h = record { few = few; first = inl h }
wrong_front options Turned body few (Value n) h = record { few = few; first = inl h }
wrong_front options Turned body few (Line n) h = record { few = few; first = inl h }
wrong_front options Turned body few TooMany h = absurd h.refused
wrong_front options Turned body few Order h = absurd h.refused
wrong_front options Turned body few NoLine h = absurd h.refused
wrong_front options Turned body few OutOfMemory h = h.refused

pub wrong_rest : (options : List Named) (Turned : Text → Type 0) (body : Text) → AreFew body → (fault : QueryFault) → IsWrongRest options body fault → IsBodyFaultBy options Turned body fault
wrong_rest options Turned body few (Line n) h = record { few = few; first = inr h }
wrong_rest options Turned body few (Unknown n) h = absurd h.first.refused
wrong_rest options Turned body few (Repeated n) h = absurd h.first.refused
wrong_rest options Turned body few (OutOfScope n) h = absurd h.first.refused
wrong_rest options Turned body few (Value n) h = absurd h.first.refused
wrong_rest options Turned body few TooMany h = absurd h.first.refused
wrong_rest options Turned body few Order h = absurd h.first.refused
wrong_rest options Turned body few NoLine h = absurd h.first.refused
wrong_rest options Turned body few OutOfMemory h = h.first.refused
