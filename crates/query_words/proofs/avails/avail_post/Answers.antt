use Rattle.std.proofs.Common.{inl, inr, ap, ◌∙◌, Ok, Err}
use Rattle.std.proofs.lemmas.Result.{err_from_is_err_and}
use Rattle.query_parameters.specs.declared.fault.QueryFault.TheVariants.{NoLine}
use Rattle.query_parameters.proofs.BodySteps.{lines_refuse, none_selected}
use Rattle.query_words.specs.AvailTables.{avail_options}
use Rattle.query_words.specs.DataPost.{IsTurned}
use Rattle.query_words.proofs.AvailPosts.{post_asked}
use Rattle.query_words.proofs.OneAvail.{only_post, only_post_refused}
use Rattle.query_words.proofs.avails.avail_post.Goals as goal

pub returns-in_err-read-clause-exact : goal.returns-in_err-read-clause-exact
returns-in_err-read-clause-exact c =
    let p = err_from_is_err_and c.from_residual.result c.from_residual.ensures.1 in
    elim (only_post_refused c.args.method c.args.body.now c.in_err-read.field-0.0 (lines_refuse (avail_options c.args.method) IsTurned c.args.body.now c.in_err-read.field-0.0 c.in_err-read.ensures.refused)) [
      | inl starved ↦ inl (p.1 ∙ ap Err (p.2 ∙ starved))
      | inr only ↦ inr (rw (p.1, p.2) only)
    ]

pub returns-then-is_empty-clause-refused : goal.returns-then-is_empty-clause-refused
returns-then-is_empty-clause-refused c = none_selected (avail_options c.args.method) c.args.body.now _ _ c.in_ok-read.ensures.read _ c.is_empty.ensures IsTurned (λ t. t) c.if-is_empty.true

pub returns-then-is_empty-clause-exact : goal.returns-then-is_empty-clause-exact
returns-then-is_empty-clause-exact c = inr (only_post c.args.method c.args.body.now (Err NoLine) (none_selected (avail_options c.args.method) c.args.body.now _ _ c.in_ok-read.ensures.read _ c.is_empty.ensures IsTurned (λ t. t) c.if-is_empty.true))

pub returns-clause-query : goal.returns-clause-query
returns-clause-query c =
    let choices = rw c.deref.ensures.value at c.avail_choices_in-choices.ensures in
    post_asked c.args.method c.args.body.now _ _ c.in_ok-read.ensures.read _ c.is_empty.ensures c.if-is_empty.false c.avail_choices_in-choices.result c.avail_query_of.result choices c.avail_query_of.ensures

pub returns-clause-exact : goal.returns-clause-exact
returns-clause-exact c =
    let choices = rw c.deref.ensures.value at c.avail_choices_in-choices.ensures in
    inr (only_post c.args.method c.args.body.now (Ok c.avail_query_of.result) (post_asked c.args.method c.args.body.now _ _ c.in_ok-read.ensures.read _ c.is_empty.ensures c.if-is_empty.false c.avail_choices_in-choices.result c.avail_query_of.result choices c.avail_query_of.ensures))
