use Rattle.std.proofs.Common.{inl, inr, ap, ◌∙◌, Ok, Err}
use Rattle.std.proofs.lemmas.Result.{err_from_is_err_and}
use Rattle.query_parameters.specs.declared.fault.QueryFault.TheVariants.{NoLine}
use Rattle.query_parameters.proofs.BodySteps.{lines_refuse, none_selected}
use Rattle.query_words.specs.DataPost.{IsTurned}
use Rattle.query_words.specs.Tables.{data_options}
use Rattle.query_words.proofs.OneDataPost.{only_post, only_refused}
use Rattle.query_words.proofs.PostSteps.{option_rows, post_asked}
use Rattle.query_words.proofs.post.data_post.Goals as goal

pub returns-in_err-read-clause-refused : goal.returns-in_err-read-clause-refused
returns-in_err-read-clause-refused c =
    let p = err_from_is_err_and c.from_residual.result c.from_residual.ensures.1 in
    let refused = rw (option_rows c.data_names.result c.data_names.ensures) at c.in_err-read.ensures.refused in
    rw (p.1, p.2) (lines_refuse data_options IsTurned c.args.body.now c.in_err-read.field-0.0 refused)

pub returns-in_err-read-clause-exact : goal.returns-in_err-read-clause-exact
returns-in_err-read-clause-exact c =
    let p = err_from_is_err_and c.from_residual.result c.from_residual.ensures.1 in
    let refused = rw (option_rows c.data_names.result c.data_names.ensures) at c.in_err-read.ensures.refused in
    elim (only_refused c.args.body.now c.in_err-read.field-0.0 (lines_refuse data_options IsTurned c.args.body.now c.in_err-read.field-0.0 refused)) [
      | inl starved ↦ inl (p.1 ∙ ap Err (p.2 ∙ starved))
      | inr only ↦ inr (rw (p.1, p.2) only)
    ]

pub returns-then-is_empty-clause-refused : goal.returns-then-is_empty-clause-refused
returns-then-is_empty-clause-refused c =
    let read = rw (option_rows c.data_names.result c.data_names.ensures) at c.in_ok-read.ensures.read in
    none_selected data_options c.args.body.now _ _ read _ c.is_empty.ensures IsTurned (λ t. t) c.if-is_empty.true

pub returns-then-is_empty-clause-exact : goal.returns-then-is_empty-clause-exact
returns-then-is_empty-clause-exact c =
    let read = rw (option_rows c.data_names.result c.data_names.ensures) at c.in_ok-read.ensures.read in
    inr (only_post c.args.body.now (Err NoLine) (none_selected data_options c.args.body.now _ _ read _ c.is_empty.ensures IsTurned (λ t. t) c.if-is_empty.true))

pub returns-clause-query : goal.returns-clause-query
returns-clause-query c =
    let read = rw (option_rows c.data_names.result c.data_names.ensures) at c.in_ok-read.ensures.read in
    let options = rw c.deref.ensures.value at c.options_in-options.ensures in
    post_asked c.args.body.now _ _ read _ c.is_empty.ensures c.if-is_empty.false c.options_in-options.result c.query_of.result options c.query_of.ensures

pub returns-clause-exact : goal.returns-clause-exact
returns-clause-exact c =
    let read = rw (option_rows c.data_names.result c.data_names.ensures) at c.in_ok-read.ensures.read in
    let options = rw c.deref.ensures.value at c.options_in-options.ensures in
    inr (only_post c.args.body.now (Ok c.query_of.result) (post_asked c.args.body.now _ _ read _ c.is_empty.ensures c.if-is_empty.false c.options_in-options.result c.query_of.result options c.query_of.ensures))
