use Rattle.std.proofs.Common.{inl, inr, ap, sym, ◌∙◌, Ok, Err, None, arith, refl}
use Rattle.std.proofs.lemmas.List.{get_or_read}
use Rattle.std.proofs.lemmas.Result.{err_from_is_err_and}
use Rattle.query_parameters.specs.Extracts.{whole_word}
use Rattle.query_parameters.specs.declared.fault.QueryFault.TheVariants.{Value}
use Rattle.query_parameters.proofs.OneGet.{words_refused}
use Rattle.query_parameters.proofs.Said.{few_enough}
use Rattle.query_words.specs.NumberGet.{LacksNumber, HasNoOrder}
use Rattle.query_words.specs.Tables.{number_names}
use Rattle.query_words.proofs.Numbers.{only_get, only_refused, numbered, absent}
use Rattle.query_words.proofs.number.number_get.Goals as goal

pub returns-in_err-words-clause-exact : goal.returns-in_err-words-clause-exact
returns-in_err-words-clause-exact c =
    let p = err_from_is_err_and c.from_residual.result c.from_residual.ensures.1 in
    let few = few_enough _ _ c.has_too_many.ensures c.if-has_too_many.false in
    let refused = words_refused (number_names c.args.name.now) (LacksNumber c.args.name.now) HasNoOrder c.args.query.now few c.in_err-words.field-0.0 (rw c.number_names.ensures at c.in_err-words.ensures.refused) in
    elim (only_refused c.args.name.now c.args.query.now c.in_err-words.field-0.0 refused) [
      | inl starved ↦ inl (p.1 ∙ ap Err (p.2 ∙ starved))
      | inr only ↦ inr (rw (p.1, p.2) only)
    ]

pub returns-in_default-clause-exact : goal.returns-in_default-clause-exact
returns-in_default-clause-exact c =
    let few = few_enough _ _ c.has_too_many.ensures c.if-has_too_many.false in
    let read = rw c.number_names.ensures at c.in_ok-words.ensures.words in
    let word = c.whole_in.ensures ∙ ap whole_word (get_or_read c.in_ok-words.words.items 0 c.index.result.now (omega (arith, read.held.size)) c.index.ensures None) in
    inr (only_get c.args.name.now c.args.query.now (Err (Value 0)) (inr (refl, absent c.args.name.now c.args.query.now c.in_ok-words.words.items few read (sym word ∙ c.in_default.is))))

pub returns-clause-exact : goal.returns-clause-exact
returns-clause-exact c =
    let few = few_enough _ _ c.has_too_many.ensures c.if-has_too_many.false in
    let read = rw c.number_names.ensures at c.in_ok-words.ensures.words in
    let word = c.whole_in.ensures ∙ ap whole_word (get_or_read c.in_ok-words.words.items 0 c.index.result.now (omega (arith, read.held.size)) c.index.ensures None) in
    inr (only_get c.args.name.now c.args.query.now (Ok c.in-Some.number) (numbered c.args.name.now c.args.query.now c.in_ok-words.words.items few read c.in-Some.number (sym word ∙ c.in-Some.is)))
