use Rattle.std.proofs.Common.{inl, inr, ap, ◌∙◌, Ok, Err}
use Rattle.std.proofs.lemmas.Bool.{iff_false}
use Rattle.std.proofs.lemmas.Result.{err_from_is_err_and}
use Rattle.query_parameters.specs.Gets.{LacksNone}
use Rattle.query_parameters.specs.declared.fault.QueryFault.TheVariants.{Order}
use Rattle.query_parameters.proofs.OneGet.{words_refused}
use Rattle.query_parameters.proofs.Said.{few_enough}
use Rattle.query_words.specs.EventGet.{IsEventTurned}
use Rattle.query_words.specs.Tables.{event_names}
use Rattle.query_words.proofs.EventSaid.{asked, turned}
use Rattle.query_words.proofs.OneEvent.{only_get, only_refused}
use Rattle.query_words.proofs.events.event_get.Goals as goal

pub returns-in_err-words-clause-exact : goal.returns-in_err-words-clause-exact
returns-in_err-words-clause-exact c =
    let p = err_from_is_err_and c.from_residual.result c.from_residual.ensures.1 in
    let few = few_enough _ _ c.has_too_many.ensures c.if-has_too_many.false in
    let refused = words_refused event_names LacksNone IsEventTurned c.args.query.now few c.in_err-words.field-0.0 (rw c.event_names.ensures at c.in_err-words.ensures.refused) in
    elim (only_refused c.args.query.now c.in_err-words.field-0.0 refused) [
      | inl starved ↦ inl (p.1 ∙ ap Err (p.2 ∙ starved))
      | inr only ↦ inr (rw (p.1, p.2) only)
    ]

pub returns-then-not-is_event_in_order-clause-refused : goal.returns-then-not-is_event_in_order-clause-refused
returns-then-not-is_event_in_order-clause-refused c =
    let few = few_enough _ _ c.has_too_many.ensures c.if-has_too_many.false in
    let read = rw c.event_names.ensures at c.in_ok-words.ensures.words in
    turned c.args.query.now c.in_ok-words.words.items few read c.event_query_in-asked.result c.event_query_in-asked.ensures (iff_false c.is_event_in_order.ensures c.if-not-is_event_in_order.true)

pub returns-then-not-is_event_in_order-clause-exact : goal.returns-then-not-is_event_in_order-clause-exact
returns-then-not-is_event_in_order-clause-exact c =
    let few = few_enough _ _ c.has_too_many.ensures c.if-has_too_many.false in
    let read = rw c.event_names.ensures at c.in_ok-words.ensures.words in
    let off = turned c.args.query.now c.in_ok-words.words.items few read c.event_query_in-asked.result c.event_query_in-asked.ensures (iff_false c.is_event_in_order.ensures c.if-not-is_event_in_order.true) in
    inr (only_get c.args.query.now (Err Order) off)

pub returns-clause-query : goal.returns-clause-query
returns-clause-query c =
    let few = few_enough _ _ c.has_too_many.ensures c.if-has_too_many.false in
    let read = rw c.event_names.ensures at c.in_ok-words.ensures.words in
    asked c.args.query.now c.in_ok-words.words.items few read c.event_query_in-asked.result c.event_query_in-asked.ensures (c.is_event_in_order.ensures.0 c.if-not-is_event_in_order.false)

pub returns-clause-exact : goal.returns-clause-exact
returns-clause-exact c =
    let few = few_enough _ _ c.has_too_many.ensures c.if-has_too_many.false in
    let read = rw c.event_names.ensures at c.in_ok-words.ensures.words in
    let query = asked c.args.query.now c.in_ok-words.words.items few read c.event_query_in-asked.result c.event_query_in-asked.ensures (c.is_event_in_order.ensures.0 c.if-not-is_event_in_order.false) in
    inr (only_get c.args.query.now (Ok c.event_query_in-asked.result) query)
