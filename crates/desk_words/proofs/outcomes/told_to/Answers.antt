use Rattle.std.proofs.Common.{◌≡◌, List, ℕ, Result, IfOk, option_map, subst, refl}
use Rattle.exact_time.specs.declared.error.TextRefusal.{TextRefusal}
use Rattle.dataselect.specs.DataBody.{answer_of as data_answer_of}
use Rattle.dataselect.specs.declared.answers.DataRefusal.{DataRefusal}
use Rattle.query_words.specs.declared.avail.AvailMethod.TheVariants.{Spans, Extent}
use Rattle.availability.specs.Spans.{spans_of}
use Rattle.availability.specs.Texts.{answer_of as avail_answer_of}
use Rattle.station_text.specs.Answers.{text_answer_of as station_answer_of}
use Rattle.event_text.specs.Texts.{text_answer_of as event_answer_of}
use Rattle.access_digest.specs.Access.{is_seen, is_touched}
use Rattle.archive_state.specs.History.{arrived_of}
use Rattle.desk_words.specs.Outcomes.{outcome_from, data_told, text_told}
use Rattle.desk_words.proofs.Told.{waves_told, spans_told, stations_told, events_told}
use Rattle.desk_words.proofs.outcomes.told_to.Goals as goal

pub returns-in-Waves : goal.returns-in-Waves
returns-in-Waves c =
    let q = c.in-Waves.query in
    let most = c.args.limits.now.max_bytes in
    let user = option_map (λ u. u.now.name) c.args.user in
    let live = c.catalog.result.now in
    let rows = c.shelf.result.now.index.rows.items in
    let told = c.told_data.ensures (data_answer_of (is_seen live user) q most rows) c.answer.ensures.body c.answer.ensures.refused in
    rw c.in-Waves.is (subst (λ (a : Result (List ℕ) DataRefusal). IfOk c.told_data.result (λ o. o ≡ outcome_from data_told a)) (waves_told c.args.state.now live rows user c.catalog.ensures c.shelf.ensures q most) told)

pub returns-in-Spans : goal.returns-in-Spans
returns-in-Spans c =
    let q = c.in-Spans.query in
    let most = c.args.limits.now.max_lines in
    let user = option_map (λ u. u.now.name) c.args.user in
    let live = c.catalog.result.now in
    let rows = c.shelf-in-Spans.result.now.index.rows.items in
    let told = c.told_text.ensures (avail_answer_of Spans q most (spans_of (is_seen live user) (is_touched live) q rows)) c.spans_body.ensures.text c.spans_body.ensures.refused in
    rw c.in-Spans.is (subst (λ (a : Result (List ℕ) TextRefusal). IfOk c.told_text.result (λ o. o ≡ outcome_from text_told a)) (spans_told c.args.state.now live rows user c.catalog.ensures c.shelf-in-Spans.ensures Spans q most) told)

pub returns-in-Extent : goal.returns-in-Extent
returns-in-Extent c =
    let q = c.in-Extent.query in
    let most = c.args.limits.now.max_lines in
    let user = option_map (λ u. u.now.name) c.args.user in
    let live = c.catalog.result.now in
    let rows = c.shelf-in-Extent.result.now.index.rows.items in
    let told = c.told_text-in-Extent.ensures (avail_answer_of Extent q most (spans_of (is_seen live user) (is_touched live) q rows)) c.extent_body.ensures.text c.extent_body.ensures.refused in
    rw c.in-Extent.is (subst (λ (a : Result (List ℕ) TextRefusal). IfOk c.told_text-in-Extent.result (λ o. o ≡ outcome_from text_told a)) (spans_told c.args.state.now live rows user c.catalog.ensures c.shelf-in-Extent.ensures Extent q most) told)

pub returns-in-Station : goal.returns-in-Station
returns-in-Station c =
    let q = c.in-Station.query in
    let most = c.args.limits.now.max_lines in
    let user = option_map (λ u. u.now.name) c.args.user in
    let live = c.catalog-in-Station.result.now in
    let told = c.told_text-in-Station.ensures (station_answer_of q most live) c.answer-in-Station.ensures.text c.answer-in-Station.ensures.refused in
    rw c.in-Station.is (subst (λ (a : Result (List ℕ) TextRefusal). IfOk c.told_text-in-Station.result (λ o. o ≡ outcome_from text_told a)) (stations_told c.args.state.now live (arrived_of c.args.state.now) user c.catalog-in-Station.ensures refl q most) told)

pub returns-in-Event : goal.returns-in-Event
returns-in-Event c =
    let q = c.in-Event.query in
    let most = c.args.limits.now.max_lines in
    let user = option_map (λ u. u.now.name) c.args.user in
    let live = c.catalog-in-Event.result.now in
    let told = c.told_text-in-Event.ensures (event_answer_of q most live) c.answer-in-Event.ensures.text c.answer-in-Event.ensures.refused in
    rw c.in-Event.is (subst (λ (a : Result (List ℕ) TextRefusal). IfOk c.told_text-in-Event.result (λ o. o ≡ outcome_from text_told a)) (events_told c.args.state.now live (arrived_of c.args.state.now) user c.catalog-in-Event.ensures refl q most) told)
