use Rattle.std.proofs.Common.{◌≡◌, inl, inr, ap, sym, ◌∙◌, Err, None, List, ◌∷◌, [], ◌++◌, arith, subst}
use Rattle.dataselect.specs.declared.query.Selection.{Selection}
use Rattle.query_parameters.specs.declared.fault.QueryFault.TheVariants.{Order}
use Rattle.std.proofs.lemmas.List.{get_or_read}
use Rattle.std.proofs.lemmas.Result.{err_from_is_err_and}
use Rattle.query_parameters.specs.Extracts.{limit_word}
use Rattle.query_words.specs.Options.{IsMade}
use Rattle.query_words.proofs.OneDataGet.{only_read, only_refused}
use Rattle.query_parameters.proofs.OneGet.{words_refused}
use Rattle.query_words.specs.DataGet.{IsBackwards}
use Rattle.query_parameters.specs.Gets.{LacksNone}
use Rattle.query_words.specs.Tables.{data_names}
use Rattle.query_parameters.proofs.Said.{few_enough}
use Rattle.query_words.proofs.SaidWords.{asked, turned}
use Rattle.query_words.proofs.get.data_get.Goals as goal

pub returns-in_err-words-clause-exact : goal.returns-in_err-words-clause-exact
returns-in_err-words-clause-exact c =
    let p = err_from_is_err_and c.from_residual.result c.from_residual.ensures.1 in
    let few = few_enough _ _ c.has_too_many.ensures c.if-has_too_many.false in
    let refused = words_refused data_names LacksNone IsBackwards c.args.query.now few c.in_err-words.field-0.0 (rw c.data_names.ensures at c.in_err-words.ensures.refused) in
    elim (only_refused c.args.query.now c.in_err-words.field-0.0 refused) [
      | inl starved ↦ inl (p.1 ∙ ap Err (p.2 ∙ starved))
      | inr only ↦ inr (rw (p.1, p.2) only)
    ]

pub returns-then-is_backwards-clause-exact : goal.returns-then-is_backwards-clause-exact
returns-then-is_backwards-clause-exact c =
    let few = few_enough _ _ c.has_too_many.ensures c.if-has_too_many.false in
    let read = rw c.data_names.ensures at c.in_ok-words.ensures.words in
    let start = c.limit_in-start.ensures ∙ ap limit_word (get_or_read c.in_ok-words.words.items 0 c.index.result.now (omega (arith, read.held.size)) c.index.ensures None) in
    let end = c.limit_in-end.ensures ∙ ap limit_word (get_or_read c.in_ok-words.words.items 1 c.index-2.result.now (omega (arith, read.held.size)) c.index-2.ensures None) in
    let order = turned c.args.query.now c.in_ok-words.words.items few read _ _ start end (sym c.is_backwards.ensures ∙ c.if-is_backwards.true) in
    elim (only_refused c.args.query.now Order order) [
      | inl starved ↦ cc
      | inr only ↦ inr only
    ]

pub returns-clause-query : goal.returns-clause-query
returns-clause-query c =
    let few = few_enough _ _ c.has_too_many.ensures c.if-has_too_many.false in
    let read = rw c.data_names.ensures at c.in_ok-words.ensures.words in
    let start = c.limit_in-start.ensures ∙ ap limit_word (get_or_read c.in_ok-words.words.items 0 c.index.result.now (omega (arith, read.held.size)) c.index.ensures None) in
    let end = c.limit_in-end.ensures ∙ ap limit_word (get_or_read c.in_ok-words.words.items 1 c.index-2.result.now (omega (arith, read.held.size)) c.index-2.ensures None) in
    let selection = c.in_ok-selection.selection in
    let only : c.push.new.self ≡ selection ∷ [] = c.in_ok-push.ensures.ok ∙ ap (λ (xs : List Selection). xs ++ selection ∷ []) c.new-selections.ensures in
    let made = subst (λ (xs : List Selection). IsMade xs c.options_in-options.result c.query_of.result) only c.query_of.ensures in
    let options = rw c.deref.ensures.value at c.options_in-options.ensures in
    let forwards = sym c.is_backwards.ensures ∙ c.if-is_backwards.false in
    let s = c.in_ok-selection.ensures in
    asked c.args.query.now c.in_ok-words.words.items few read _ _ start end forwards selection c.options_in-options.result c.query_of.result s.lists s.start s.end options made

pub returns-clause-exact : goal.returns-clause-exact
returns-clause-exact c =
    let few = few_enough _ _ c.has_too_many.ensures c.if-has_too_many.false in
    let read = rw c.data_names.ensures at c.in_ok-words.ensures.words in
    let start = c.limit_in-start.ensures ∙ ap limit_word (get_or_read c.in_ok-words.words.items 0 c.index.result.now (omega (arith, read.held.size)) c.index.ensures None) in
    let end = c.limit_in-end.ensures ∙ ap limit_word (get_or_read c.in_ok-words.words.items 1 c.index-2.result.now (omega (arith, read.held.size)) c.index-2.ensures None) in
    let selection = c.in_ok-selection.selection in
    let only : c.push.new.self ≡ selection ∷ [] = c.in_ok-push.ensures.ok ∙ ap (λ (xs : List Selection). xs ++ selection ∷ []) c.new-selections.ensures in
    let made = subst (λ (xs : List Selection). IsMade xs c.options_in-options.result c.query_of.result) only c.query_of.ensures in
    let options = rw c.deref.ensures.value at c.options_in-options.ensures in
    let forwards = sym c.is_backwards.ensures ∙ c.if-is_backwards.false in
    let s = c.in_ok-selection.ensures in
    inr (only_read c.args.query.now c.query_of.result (asked c.args.query.now c.in_ok-words.words.items few read _ _ start end forwards selection c.options_in-options.result c.query_of.result s.lists s.start s.end options made))
