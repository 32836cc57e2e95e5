-- Every query string gives one number under the one name of its method, or has one fault.
use Rattle.std.proofs.Common.{◌≡◌, ◌⊎◌, inl, inr, ℕ, ◌≤◌, List, [], Option, Some, None, Result, Ok, Err, MatchResult, length, get_or, refl, sym, ◌∙◌, subst, arith}
use Rattle.std.proofs.lemmas.Bool.{cases_lt}
use Rattle.list_laws.specs.Only.{IsOnly}
use Rattle.list_laws.proofs.Answers.{only_from}
use Rattle.query_parameters.specs.Extracts.{whole_word}
use Rattle.query_parameters.specs.Gets.{IsRight}
use Rattle.query_parameters.specs.Parameters.{pairs_of, parameters_of, given, TakesParameter, RefusesParameter}
use Rattle.query_parameters.specs.Rows.{Text}
use Rattle.query_parameters.specs.Values.{IsEntryNumber}
use Rattle.query_parameters.specs.Words.{IsHeld, HasReadParameters}
use Rattle.query_parameters.specs.declared.fault.QueryFault.{QueryFault}
use Rattle.query_parameters.specs.declared.fault.QueryFault.TheVariants.{TooMany, Value, OutOfMemory}
use Rattle.query_parameters.specs.declared.rows.ValueKind.TheVariants as kind
use Rattle.query_parameters.specs.declared.words.ParameterValue.{ParameterValue}
use Rattle.query_parameters.proofs.GivenFound.{given_reads, wrong_answer}
use Rattle.query_parameters.proofs.NumbersFound.{one_count}
use Rattle.query_parameters.proofs.NumbersSaid.{entry_number_said}
use Rattle.query_parameters.proofs.OneGet.{no_fault, one_fault, refused_or_starved}
use Rattle.query_parameters.proofs.RefusalLaws.{taken_or_refused}
use Rattle.query_parameters.proofs.ValuesFound.{parameter_found, some_or_none}
use Rattle.query_words.specs.NumberGet.{IsNumberGet, LacksNumber, HasNoOrder, IsNumberGetFault, RefusesNumberGet}
use Rattle.query_words.specs.Tables.{number_names}

module _ (name : Text) where
  one_number : (query : Text) (a b : ℕ) → IsNumberGet name query a → IsNumberGet name query b → a ≡ b
  one_number query a b h k =
      let e : Some h.text ≡ Some k.text = sym h.given ∙ k.given in
      let same : h.text ≡ k.text = cc in
      one_count k.text a b (subst (λ (t : Text). IsEntryNumber t a) same h.number_is).count k.number_is.count

  not_lacking : (query : Text) (a : ℕ) → IsNumberGet name query a → LacksNumber name query → ⊥
  not_lacking query a h k = let e : Some h.text ≡ None = sym h.given ∙ k.absent in cc

  pub only_get : (query : Text) (answer : Result ℕ QueryFault) → MatchResult answer (IsNumberGet name query) (IsNumberGetFault name query) → IsOnly (IsNumberGet name query) (IsNumberGetFault name query) answer
  only_get query answer right =
      only_from (IsNumberGet name query) (IsNumberGetFault name query) (one_number query) (one_fault (number_names name) (LacksNumber name) HasNoOrder (λ q k. absurd k) (λ q k. k.right) (λ q k l. l) query)
      (λ n fault h k. no_fault (number_names name) (LacksNumber name) HasNoOrder query fault h.right (not_lacking query n h) (λ k. k) k) answer right

  -- the same of a reader that may want memory
  pub only_refused : (query : Text) (fault : QueryFault) → RefusesNumberGet name query fault → (fault ≡ OutOfMemory) ⊎ IsOnly (IsNumberGet name query) (IsNumberGetFault name query) (Err fault)
  only_refused query fault h = refused_or_starved (number_names name) (LacksNumber name) HasNoOrder (IsNumberGet name query) query (only_get query) fault h

  -- what the word of the number says
  module _ (query : Text) (words : List (Option ParameterValue)) (few : length (pairs_of query) ≤ 1000) (read : HasReadParameters (number_names name) (parameters_of query) (parameters_of query) [] words) where
    right : IsRight (number_names name) query
    right = record { few = few; taken = read.taken }

    number_by : (given_is : Option Text) → given (number_names name) 0 (parameters_of query) ≡ given_is → (n : ℕ) → whole_word (get_or words 0 None) ≡ Some n → IsHeld kind.EntryNumber given_is (get_or words 0 None) → IsNumberGet name query n
    number_by None e n is held = let none : whole_word (get_or words 0 None) ≡ None = (λ i. whole_word (held i)) in let no : Some n ≡ None = sym is ∙ none in cc
    number_by (Some text) e n is held =
        let told = entry_number_said text (get_or words 0 None) held in
        let same : Some told.0 ≡ Some n = sym told.1 ∙ is in
        let equal : told.0 ≡ n = cc in
        record { right = right; text = text; given = e; number_is = subst (λ (m : ℕ). IsEntryNumber text m) equal told.2 }

    pub numbered : (n : ℕ) → whole_word (get_or words 0 None) ≡ Some n → IsNumberGet name query n
    numbered n is = number_by (given (number_names name) 0 (parameters_of query)) refl n is (read.held.each 0 (omega arith))

    absent_by : (given_is : Option Text) → given (number_names name) 0 (parameters_of query) ≡ given_is → whole_word (get_or words 0 None) ≡ None → IsHeld kind.EntryNumber given_is (get_or words 0 None) → LacksNumber name query
    absent_by None e is held = record { right = right; absent = e }
    absent_by (Some text) e is held =
        let told = entry_number_said text (get_or words 0 None) held in
        let no : Some told.0 ≡ None = sym told.1 ∙ is in
        cc

    pub absent : whole_word (get_or words 0 None) ≡ None → LacksNumber name query
    absent is = absent_by (given (number_names name) 0 (parameters_of query)) refl is (read.held.each 0 (omega arith))

  abbrev pub Answer : Text → Type 0
  Answer query = (answer : Result ℕ QueryFault) × IsOnly (IsNumberGet name query) (IsNumberGetFault name query) answer

  -- right parameters name an entry, or there is no number
  right_answer : (query : Text) → IsRight (number_names name) query → Answer query
  right_answer query right =
      elim (some_or_none (given (number_names name) 0 (parameters_of query))) [
        | inr none ↦ (Err (Value 0), only_get query (Err (Value 0)) (inr (refl, record { right = right; absent = none })))
        | inl some ↦
            let n = given_reads (number_names name) 0 [] (parameters_of query) right.taken some.0 some.1 in
            (Ok n.0, only_get query (Ok n.0) (record { right = right; text = some.0; given = some.1; number_is = n.1 }))
      ]

  pub get_or_fault : (query : Text) → Answer query
  get_or_fault query =
      elim (cases_lt 1000 (length (pairs_of query))) [
        | inl many ↦ (Err TooMany, only_get query (Err TooMany) many)
        | inr few ↦ elim (taken_or_refused (TakesParameter (number_names name)) (RefusesParameter (number_names name)) (parameter_found (number_names name)) (parameters_of query)) [
          | inl taken ↦ right_answer query (record { few = few; taken = taken })
          | inr first ↦ (Err first.0, only_get query (Err first.0) (wrong_answer (number_names name) (LacksNumber name) HasNoOrder query few first.0 first.1))
        ]
      ]
