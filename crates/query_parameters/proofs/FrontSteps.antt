-- The parameter lines so far.
use Rattle.std.proofs.Common.{◌≡◌, ℕ, ◌+◌, ◌-◌, ◌<◌, ◌==◌, Bool, true, false, cond, List, [], ◌∷◌, ◌++◌, Option, None, ◌⊎◌, inl, inr, length, take, drop, reverse, get_or, map, replicate, refl, sym, ap, subst, ◌∙◌, arith}
use Rattle.std.specs.List.{position_or_len}
use Rattle.std.specs.Str.{IsAscii}
use Rattle.std.proofs.lemmas.Str.{IsAscii-take, IsAscii-drop}
use Rattle.std.proofs.lemmas.Str.Ascii.{IsAscii-from_reads}
use Rattle.std.proofs.lemmas.List.{length-reverse, get_or-reverse, map-append, take_more, take-append-drop, drop_more}
use Rattle.form_urlencoded.specs.Form.{split_pair}
use Rattle.channel_globs.specs.PatternText.{space, drop_spaces, without_spaces}
use Rattle.query_parameters.specs.declared.fault.QueryFault.{QueryFault}
use Rattle.query_parameters.specs.declared.fault.QueryFault.TheVariants.{TooMany, Unknown, Repeated, OutOfScope, Value, Line, Order, NoLine, OutOfMemory}
use Rattle.query_parameters.specs.declared.words.ParameterValue.{ParameterValue}
use Rattle.query_parameters.specs.Bodies.{Numbered, equals_sign, parameter_of, parameters_in, TakesLine, RefusesLine}
use Rattle.query_parameters.specs.FirstRefusals.{IsFirstRefusal}
use Rattle.query_parameters.specs.Fronts.{PutsLine, RefusesPutLine, HasFront, RefusesFront}
use Rattle.query_parameters.specs.Parameters.{Parameter, RefusesParameter}
use Rattle.query_parameters.specs.Rows.{Named}
use Rattle.query_parameters.specs.Words.{AreHeld, RefusesPut}
use Rattle.query_parameters.proofs.Held.{start, held_more, takes, refuses}
use Rattle.query_parameters.proofs.RefusalLaws.{taken_more}

-- a front of ASCII without spaces is ASCII
ascii_dropped : (cs : List ℕ) → IsAscii cs → IsAscii (drop_spaces cs)
ascii_dropped [] h = h
ascii_dropped (c ∷ cs) h = by (c == space) (ascii_dropped cs (IsAscii-drop (c ∷ cs) 1 h))
  where
    by : (b : Bool) → IsAscii (drop_spaces cs) → IsAscii (cond b (drop_spaces cs) (c ∷ cs))
    by true rest = rest
    by false rest = h

pub ascii_reversed : (cs : List ℕ) → IsAscii cs → IsAscii (reverse cs)
ascii_reversed cs h = IsAscii-from_reads (reverse cs) (length cs) (let e = length-reverse cs in omega (arith, e)) (λ k lt. rw (get_or-reverse cs k 0 lt) (h (length cs - 1 - k)))

pub ascii_trimmed : (cs : List ℕ) → IsAscii cs → IsAscii (without_spaces cs)
ascii_trimmed cs h = ascii_reversed _ (ascii_dropped _ (ascii_reversed _ (ascii_dropped cs h)))

abbrev equals_place : List ℕ → ℕ
equals_place text = position_or_len (λ b. b == equals_sign) text

pub ascii_name : (text : List ℕ) → IsAscii text → IsAscii (without_spaces (split_pair text).0)
ascii_name text h = ascii_trimmed (take (equals_place text) text) (IsAscii-take text (equals_place text) h)

pub ascii_value : (text : List ℕ) → IsAscii text → IsAscii (without_spaces (split_pair text).1)
ascii_value text h = ascii_trimmed (drop (equals_place text + 1) text) (IsAscii-drop text (equals_place text + 1) h)

pub no_front : (rows : List Named) (count : ℕ) (words : List (Option ParameterValue)) → length rows ≡ count → words ≡ replicate count None → HasFront rows [] words
no_front rows count words size e = record { taken = tt; held = (start rows [] count words size e).held }

-- one parameter line more
pub front_more : (rows : List Named) (before : List Numbered) (l : Numbered) (words more : List (Option ParameterValue)) → HasFront rows before words → PutsLine rows l words more → HasFront rows (before ++ l ∷ []) more
front_more rows before l words more h put = record {
  taken = taken_more (TakesLine rows) [] before l h.taken (record { ascii = put.ascii; takes = takes rows (parameters_in before) (parameter_of l) words h.held more put.put });
  held = subst (λ (ps : List Parameter). AreHeld rows ps more) (sym (map-append parameter_of before (l ∷ []))) (held_more rows (parameters_in before) (parameter_of l) words h.held more put.put);
}

module _ (rows : List Named) (before : List Numbered) (l : Numbered) (after : List Numbered) (words : List (Option ParameterValue)) (h : HasFront rows before words) where
  wrong : (fault : QueryFault) → RefusesLine rows before l fault → IsFirstRefusal (TakesLine rows) (RefusesLine rows) (before ++ l ∷ after) fault
  wrong fault refused = record { before = before; here = l; after = after; split = refl; taken = h.taken; refused = refused }

  by_parameter : (fault : QueryFault) → RefusesPut rows l.number (parameter_of l).name (parameter_of l).value words fault
      → (fault ≡ OutOfMemory) ⊎ RefusesParameter rows (parameters_in before) (parameter_of l) fault
  by_parameter fault refused = refuses rows (parameters_in before) (parameter_of l) words h.held fault refused

  -- the first wrong line
  pub front_refused : (fault : QueryFault) → RefusesPutLine rows l words fault → RefusesFront rows (before ++ l ∷ after) fault
  front_refused (Line n) r = wrong (Line n) r
  front_refused OutOfMemory r = tt
  front_refused (Unknown n) r = elim (by_parameter (Unknown n) r.1) [ inl starved ↦ cc | inr bad ↦ wrong (Unknown n) (r.0, bad) ]
  front_refused (Repeated n) r = elim (by_parameter (Repeated n) r.1) [ inl starved ↦ cc | inr bad ↦ wrong (Repeated n) (r.0, bad) ]
  front_refused (OutOfScope n) r = elim (by_parameter (OutOfScope n) r.1) [ inl starved ↦ cc | inr bad ↦ wrong (OutOfScope n) (r.0, bad) ]
  front_refused (Value n) r = elim (by_parameter (Value n) r.1) [ inl starved ↦ cc | inr bad ↦ wrong (Value n) (r.0, bad) ]
  front_refused TooMany r = absurd r.1
  front_refused Order r = absurd r.1
  front_refused NoLine r = absurd r.1

-- the lines of a slice, cut before one of them
pub cut_before : {X Y : Type 0} (f : X → Y) (xs : List X) (i : ℕ) (d : X) → i < length xs → map f xs ≡ map f (take i xs) ++ f (get_or xs i d) ∷ map f (drop (i + 1) xs)
cut_before f xs i d lt = ap (map f) (sym (take-append-drop i xs) ∙ ap (λ r. take i xs ++ r) (drop_more xs i d lt)) ∙ map-append f (take i xs) (get_or xs i d ∷ drop (i + 1) xs)

pub one_more : {X Y : Type 0} (f : X → Y) (xs : List X) (i : ℕ) (d : X) → i < length xs → map f (take (i + 1) xs) ≡ map f (take i xs) ++ f (get_or xs i d) ∷ []
one_more f xs i d lt = ap (map f) (take_more xs i d lt) ∙ map-append f (take i xs) (get_or xs i d ∷ [])
