use Rattle.std.proofs.Common.{inl, inr, ap, ◌∙◌, Ok, Err}
use Rattle.std.proofs.lemmas.Bool.{iff_false}
use Rattle.std.proofs.lemmas.Result.{err_from_is_err_and}
use Rattle.query_parameters.specs.declared.fault.QueryFault.TheVariants.{NoLine, Order}
use Rattle.query_parameters.proofs.BodySteps.{lines_refuse, right, right_body, none_selected, some_selected}
use Rattle.query_words.specs.StationPost.{IsAreaTurned}
use Rattle.query_words.specs.Tables.{station_options}
use Rattle.query_words.proofs.OneStation.{only_post, only_post_refused}
use Rattle.query_words.proofs.PostSteps.{station_option_rows}
use Rattle.query_words.proofs.StationPosts.{area_turned, area_ordered, post_asked}
use Rattle.query_words.proofs.station_bodies.station_post.Goals as goal

pub returns-in_err-read-clause-refused : goal.returns-in_err-read-clause-refused
returns-in_err-read-clause-refused c =
    let p = err_from_is_err_and c.from_residual.result c.from_residual.ensures.1 in
    let refused = rw (station_option_rows c.station_names.result c.station_names.ensures) at c.in_err-read.ensures.refused in
    rw (p.1, p.2) (lines_refuse station_options IsAreaTurned c.args.body.now c.in_err-read.field-0.0 refused)

pub returns-in_err-read-clause-exact : goal.returns-in_err-read-clause-exact
returns-in_err-read-clause-exact c =
    let p = err_from_is_err_and c.from_residual.result c.from_residual.ensures.1 in
    let refused = rw (station_option_rows c.station_names.result c.station_names.ensures) at c.in_err-read.ensures.refused in
    elim (only_post_refused c.args.body.now c.in_err-read.field-0.0 (lines_refuse station_options IsAreaTurned c.args.body.now c.in_err-read.field-0.0 refused)) [
      | inl starved ↦ inl (p.1 ∙ ap Err (p.2 ∙ starved))
      | inr only ↦ inr (rw (p.1, p.2) only)
    ]

pub returns-then-not-is_area_in_order-clause-refused : goal.returns-then-not-is_area_in_order-clause-refused
returns-then-not-is_area_in_order-clause-refused c =
    let read = rw (station_option_rows c.station_names.result c.station_names.ensures) at c.in_ok-read.ensures.read in
    let options = rw c.deref.ensures.value at c.station_options_in-options.ensures in
    (right_body station_options c.args.body.now _ _ read, area_turned c.args.body.now _ read.front.held c.station_options_in-options.result options (iff_false c.is_area_in_order.ensures c.if-not-is_area_in_order.true))

pub returns-then-not-is_area_in_order-clause-exact : goal.returns-then-not-is_area_in_order-clause-exact
returns-then-not-is_area_in_order-clause-exact c =
    let read = rw (station_option_rows c.station_names.result c.station_names.ensures) at c.in_ok-read.ensures.read in
    let options = rw c.deref.ensures.value at c.station_options_in-options.ensures in
    inr (only_post c.args.body.now (Err Order) (right_body station_options c.args.body.now _ _ read, area_turned c.args.body.now _ read.front.held c.station_options_in-options.result options (iff_false c.is_area_in_order.ensures c.if-not-is_area_in_order.true)))

pub returns-then-is_empty-clause-refused : goal.returns-then-is_empty-clause-refused
returns-then-is_empty-clause-refused c =
    let read = rw (station_option_rows c.station_names.result c.station_names.ensures) at c.in_ok-read.ensures.read in
    let options = rw c.deref.ensures.value at c.station_options_in-options.ensures in
    let ordered = area_ordered c.args.body.now _ read.front.held c.station_options_in-options.result options (c.is_area_in_order.ensures.0 c.if-not-is_area_in_order.false) in
    none_selected station_options c.args.body.now _ _ read _ c.is_empty.ensures IsAreaTurned ordered c.if-is_empty.true

pub returns-then-is_empty-clause-exact : goal.returns-then-is_empty-clause-exact
returns-then-is_empty-clause-exact c =
    let read = rw (station_option_rows c.station_names.result c.station_names.ensures) at c.in_ok-read.ensures.read in
    let options = rw c.deref.ensures.value at c.station_options_in-options.ensures in
    let ordered = area_ordered c.args.body.now _ read.front.held c.station_options_in-options.result options (c.is_area_in_order.ensures.0 c.if-not-is_area_in_order.false) in
    inr (only_post c.args.body.now (Err NoLine) (none_selected station_options c.args.body.now _ _ read _ c.is_empty.ensures IsAreaTurned ordered c.if-is_empty.true))

pub returns-clause-query : goal.returns-clause-query
returns-clause-query c =
    let read = rw (station_option_rows c.station_names.result c.station_names.ensures) at c.in_ok-read.ensures.read in
    let options = rw c.deref.ensures.value at c.station_options_in-options.ensures in
    let in_order = c.is_area_in_order.ensures.0 c.if-not-is_area_in_order.false in
    let some = some_selected station_options c.args.body.now _ _ read _ c.is_empty.ensures c.if-is_empty.false in
    post_asked c.args.body.now _ (right station_options c.args.body.now _ _ read) read.front.held _ read.selections_are some c.station_options_in-options.result c.station_query_of.result options in_order c.station_query_of.ensures

pub returns-clause-exact : goal.returns-clause-exact
returns-clause-exact c =
    let read = rw (station_option_rows c.station_names.result c.station_names.ensures) at c.in_ok-read.ensures.read in
    let options = rw c.deref.ensures.value at c.station_options_in-options.ensures in
    let in_order = c.is_area_in_order.ensures.0 c.if-not-is_area_in_order.false in
    let some = some_selected station_options c.args.body.now _ _ read _ c.is_empty.ensures c.if-is_empty.false in
    inr (only_post c.args.body.now (Ok c.station_query_of.result) (post_asked c.args.body.now _ (right station_options c.args.body.now _ _ read) read.front.held _ read.selections_are some c.station_options_in-options.result c.station_query_of.result options in_order c.station_query_of.ensures))
