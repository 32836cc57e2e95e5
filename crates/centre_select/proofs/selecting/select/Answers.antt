use Rattle.std.proofs.Common.{refl}
use Rattle.command_words.specs.Arguments.{words_at}
use Rattle.dataselect.specs.DataBody.{images_at}
use Rattle.centre_select.proofs.Rows.{refused_row, selected_row, cut_row}
use Rattle.centre_select.proofs.selecting.select.Goals as goal

pub returns-in-Err-answer_places : goal.returns-in-Err-answer_places
returns-in-Err-answer_places g c = record {
  row = refused_row (words_at c.args.arguments.now) c.in-Ok.query c.take_records.new.shelf.rows.items c.in-Err-answer_places.refusal _ _ c.stop_for_data.result c.stop_for_data.ensures c.in-Ok.ensures.ok c.in-Ok-take_records.ensures.taken refl c.in-Err-answer_places.ensures.refused;
}

pub put_rows-requires : goal.put_rows-requires
put_rows-requires g c = rw c.as_slice.ensures c.in-Ok-answer_places.ensures.inside

pub returns-in-Ok-put_rows : goal.returns-in-Ok-put_rows
returns-in-Ok-put_rows g c =
    let rows = c.take_records.new.shelf.rows.items in
    record {
      row = selected_row (words_at c.args.arguments.now) c.in-Ok.query rows (images_at rows c.in-Ok-answer_places.places) _ _ c.in-Ok.ensures.ok c.in-Ok-take_records.ensures.taken c.in-Ok-answer_places.ensures.body (rw c.as_slice.ensures at c.in-Ok-put_rows.ensures.ok);
    }

pub returns : goal.returns
returns g c =
    let rows = c.take_records.new.shelf.rows.items in
    record {
      row = cut_row (words_at c.args.arguments.now) c.in-Ok.query rows (images_at rows c.in-Ok-answer_places.places) _ _ c.in-Ok.ensures.ok c.in-Ok-take_records.ensures.taken c.in-Ok-answer_places.ensures.body c.in-Err-put_rows.ensures.cause.failed (rw c.as_slice.ensures at c.in-Err-put_rows.ensures.part);
    }
