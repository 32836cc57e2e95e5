use Rattle.std.proofs.Common.{arith, ◌<◌, ◌∙◌, ap, sym, length, None, []}
use Rattle.std.specs.Option.{is_some}
use Rattle.std.proofs.lemmas.List.{get_or_read}
use Rattle.query_parameters.specs.Rows.{names_of, place_of_name}
use Rattle.query_parameters.specs.declared.rows.ValueKind.TheVariants as kind
use Rattle.query_parameters.proofs.RowPlaces.{within_row, kind_is}
use Rattle.query_parameters.proofs.Held.{puts_word}
use Rattle.query_parameters.proofs.words.take_parameter.Goals as goal

pub returns-clause-put : goal.returns-clause-put
returns-clause-put c =
    let row = ap (place_of_name (names_of c.args.table.now)) (sym c.as_bytes.ensures.value) ∙ sym c.place_of_name.ensures ∙ c.in-Some.is in
    let lt = within_row c.args.table.now c.args.name.now c.in-Some.row row in
    let bound : c.in-Some.row < length c.args.words.now.items = omega (arith, lt, c.requires) in
    let none = ap is_some (sym (get_or_read c.args.words.now.items c.in-Some.row c.index.result.now bound c.index.ensures None)) ∙ sym c.is_some.ensures ∙ c.if-is_some.false in
    let same = kind_is c.args.table.now c.in-Some.row (record { name = record { ref_ptr = (0, 0); now = [] }; alias = record { ref_ptr = (0, 0); now = [] }; kind = kind.Time }) lt in
    puts_word (names_of c.args.table.now) c.args.name.now c.args.value.now c.args.words.now.items c.in-Some.row c.in-Ok.word row none (rw same c.in-Ok.ensures.word)
