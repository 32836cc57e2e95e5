use Rattle.std.proofs.Common.{◌≡◌, inl, inr, ap, sym, ◌∙◌, Ok, Err, None, List, ◌∷◌, [], ◌++◌, arith, subst}
use Rattle.std.proofs.lemmas.Bool.{iff_false}
use Rattle.std.proofs.lemmas.List.{get_or_read}
use Rattle.std.proofs.lemmas.Result.{err_from_is_err_and}
use Rattle.dataselect.specs.declared.query.Selection.{Selection}
use Rattle.query_parameters.specs.Extracts.{limit_word}
use Rattle.query_words.specs.Options.{IsStationMade}
use Rattle.query_parameters.specs.Gets.{LacksNone}
use Rattle.query_words.specs.Tables.{station_names}
use Rattle.query_words.specs.StationGet.{IsStationTurned}
use Rattle.query_parameters.specs.declared.fault.QueryFault.TheVariants.{Order}
use Rattle.query_parameters.proofs.OneGet.{words_refused}
use Rattle.query_words.proofs.OneStation.{only_get, only_refused}
use Rattle.query_parameters.proofs.Said.{few_enough}
use Rattle.query_words.proofs.StationSteps.{asked, turned, late}
use Rattle.query_words.proofs.stations.station_get.Goals as goal

pub returns-in_err-words-clause-exact : goal.returns-in_err-words-clause-exact
returns-in_err-words-clause-exact c =
    let p = err_from_is_err_and c.from_residual.result c.from_residual.ensures.1 in
    let few = few_enough _ _ c.has_too_many.ensures c.if-has_too_many.false in
    let refused = words_refused station_names LacksNone IsStationTurned c.args.query.now few c.in_err-words.field-0.0 (rw c.station_names.ensures at c.in_err-words.ensures.refused) in
    elim (only_refused c.args.query.now c.in_err-words.field-0.0 refused) [
      | inl starved ↦ inl (p.1 ∙ ap Err (p.2 ∙ starved))
      | inr only ↦ inr (rw (p.1, p.2) only)
    ]

pub returns-then-is_backwards-clause-refused : goal.returns-then-is_backwards-clause-refused
returns-then-is_backwards-clause-refused c =
    let few = few_enough _ _ c.has_too_many.ensures c.if-has_too_many.false in
    let read = rw c.station_names.ensures at c.in_ok-words.ensures.words in
    let start = c.limit_in-start.ensures ∙ ap limit_word (get_or_read c.in_ok-words.words.items 0 c.index.result.now (omega (arith, read.held.size)) c.index.ensures None) in
    let end = c.limit_in-end.ensures ∙ ap limit_word (get_or_read c.in_ok-words.words.items 1 c.index-2.result.now (omega (arith, read.held.size)) c.index-2.ensures None) in
    let options = rw c.deref.ensures.value at c.station_options_in-options.ensures in
    let late = late c.args.query.now c.in_ok-words.words.items few read _ _ start end c.station_options_in-options.result options (sym c.is_backwards.ensures ∙ c.if-is_backwards.true) in
    let order = turned c.args.query.now c.in_ok-words.words.items few read _ _ start end c.station_options_in-options.result options (inl late) in
    order

pub returns-then-is_backwards-clause-exact : goal.returns-then-is_backwards-clause-exact
returns-then-is_backwards-clause-exact c =
    let few = few_enough _ _ c.has_too_many.ensures c.if-has_too_many.false in
    let read = rw c.station_names.ensures at c.in_ok-words.ensures.words in
    let start = c.limit_in-start.ensures ∙ ap limit_word (get_or_read c.in_ok-words.words.items 0 c.index.result.now (omega (arith, read.held.size)) c.index.ensures None) in
    let end = c.limit_in-end.ensures ∙ ap limit_word (get_or_read c.in_ok-words.words.items 1 c.index-2.result.now (omega (arith, read.held.size)) c.index-2.ensures None) in
    let options = rw c.deref.ensures.value at c.station_options_in-options.ensures in
    let late = late c.args.query.now c.in_ok-words.words.items few read _ _ start end c.station_options_in-options.result options (sym c.is_backwards.ensures ∙ c.if-is_backwards.true) in
    let order = turned c.args.query.now c.in_ok-words.words.items few read _ _ start end c.station_options_in-options.result options (inl late) in
    inr (only_get c.args.query.now (Err Order) order)

pub returns-then-not-is_area_in_order-clause-refused : goal.returns-then-not-is_area_in_order-clause-refused
returns-then-not-is_area_in_order-clause-refused c =
    let few = few_enough _ _ c.has_too_many.ensures c.if-has_too_many.false in
    let read = rw c.station_names.ensures at c.in_ok-words.ensures.words in
    let start = c.limit_in-start.ensures ∙ ap limit_word (get_or_read c.in_ok-words.words.items 0 c.index.result.now (omega (arith, read.held.size)) c.index.ensures None) in
    let end = c.limit_in-end.ensures ∙ ap limit_word (get_or_read c.in_ok-words.words.items 1 c.index-2.result.now (omega (arith, read.held.size)) c.index-2.ensures None) in
    let options = rw c.deref.ensures.value at c.station_options_in-options.ensures in
    let order = turned c.args.query.now c.in_ok-words.words.items few read _ _ start end c.station_options_in-options.result options (inr (iff_false c.is_area_in_order.ensures c.if-not-is_area_in_order.true)) in
    order

pub returns-then-not-is_area_in_order-clause-exact : goal.returns-then-not-is_area_in_order-clause-exact
returns-then-not-is_area_in_order-clause-exact c =
    let few = few_enough _ _ c.has_too_many.ensures c.if-has_too_many.false in
    let read = rw c.station_names.ensures at c.in_ok-words.ensures.words in
    let start = c.limit_in-start.ensures ∙ ap limit_word (get_or_read c.in_ok-words.words.items 0 c.index.result.now (omega (arith, read.held.size)) c.index.ensures None) in
    let end = c.limit_in-end.ensures ∙ ap limit_word (get_or_read c.in_ok-words.words.items 1 c.index-2.result.now (omega (arith, read.held.size)) c.index-2.ensures None) in
    let options = rw c.deref.ensures.value at c.station_options_in-options.ensures in
    let order = turned c.args.query.now c.in_ok-words.words.items few read _ _ start end c.station_options_in-options.result options (inr (iff_false c.is_area_in_order.ensures c.if-not-is_area_in_order.true)) in
    inr (only_get c.args.query.now (Err Order) order)

pub returns-clause-query : goal.returns-clause-query
returns-clause-query c =
    let few = few_enough _ _ c.has_too_many.ensures c.if-has_too_many.false in
    let read = rw c.station_names.ensures at c.in_ok-words.ensures.words in
    let start = c.limit_in-start.ensures ∙ ap limit_word (get_or_read c.in_ok-words.words.items 0 c.index.result.now (omega (arith, read.held.size)) c.index.ensures None) in
    let end = c.limit_in-end.ensures ∙ ap limit_word (get_or_read c.in_ok-words.words.items 1 c.index-2.result.now (omega (arith, read.held.size)) c.index-2.ensures None) in
    let options = rw c.deref.ensures.value at c.station_options_in-options.ensures in
    let selection = c.in_ok-selection.selection in
    let only : c.push.new.self ≡ selection ∷ [] = c.in_ok-push.ensures.ok ∙ ap (λ (xs : List Selection). xs ++ selection ∷ []) c.new-selections.ensures in
    let made = subst (λ (xs : List Selection). IsStationMade xs c.station_options_in-options.result c.station_query_of.result) only c.station_query_of.ensures in
    let forwards = sym c.is_backwards.ensures ∙ c.if-is_backwards.false in
    let in_order = c.is_area_in_order.ensures.0 c.if-not-is_area_in_order.false in
    let s = c.in_ok-selection.ensures in
    let query = asked c.args.query.now c.in_ok-words.words.items few read _ _ start end c.station_options_in-options.result options forwards in_order selection c.station_query_of.result s.lists s.start s.end made in
    query

pub returns-clause-exact : goal.returns-clause-exact
returns-clause-exact c =
    let few = few_enough _ _ c.has_too_many.ensures c.if-has_too_many.false in
    let read = rw c.station_names.ensures at c.in_ok-words.ensures.words in
    let start = c.limit_in-start.ensures ∙ ap limit_word (get_or_read c.in_ok-words.words.items 0 c.index.result.now (omega (arith, read.held.size)) c.index.ensures None) in
    let end = c.limit_in-end.ensures ∙ ap limit_word (get_or_read c.in_ok-words.words.items 1 c.index-2.result.now (omega (arith, read.held.size)) c.index-2.ensures None) in
    let options = rw c.deref.ensures.value at c.station_options_in-options.ensures in
    let selection = c.in_ok-selection.selection in
    let only : c.push.new.self ≡ selection ∷ [] = c.in_ok-push.ensures.ok ∙ ap (λ (xs : List Selection). xs ++ selection ∷ []) c.new-selections.ensures in
    let made = subst (λ (xs : List Selection). IsStationMade xs c.station_options_in-options.result c.station_query_of.result) only c.station_query_of.ensures in
    let forwards = sym c.is_backwards.ensures ∙ c.if-is_backwards.false in
    let in_order = c.is_area_in_order.ensures.0 c.if-not-is_area_in_order.false in
    let s = c.in_ok-selection.ensures in
    let query = asked c.args.query.now c.in_ok-words.words.items few read _ _ start end c.station_options_in-options.result options forwards in_order selection c.station_query_of.result s.lists s.start s.end made in
    inr (only_get c.args.query.now (Ok c.station_query_of.result) query)
