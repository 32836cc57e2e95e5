use Rattle.std.proofs.Common.{rules, ◌≤◌, ◌++◌, ◌∙◌, Bor, List, map, length, ap, sym, Option}
use Rattle.std.proofs.lemmas.List.{append-nil}
use Rattle.mseed_header.specs.declared.row.Row.{Row}
use Rattle.dataselect.specs.SpanOrder.{row_or_none}
use Rattle.dataselect.proofs.SpanRanks.{none_there}
use Rattle.availability.proofs.rows.add_row.Goals as goal

pub returns-else-index-len : goal.returns-else-index-len
returns-else-index-len g c =
    let now : Bor Row → Row = λ r. r.now in
    let held : List Row = g.S.Shelf.rows c.args.shelf.now in
    let past : length held ≤ c.args.index = search rules in
    record {
      ok =
          sym (append-nil (map now c.args.rows.now))
          ∙ ap (λ (o : Option Row). map now c.args.rows.now ++ row_or_none o) (sym (none_there held c.args.index past));
    }
