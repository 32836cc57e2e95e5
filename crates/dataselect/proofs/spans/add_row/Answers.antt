use Rattle.std.proofs.Common.{rules, ◌≡◌, ◌++◌, ◌∷◌, [], ◌∙◌, Bor, map, ap, sym, Some, Option}
use Rattle.std.specs.List.{slice_get}
use Rattle.std.proofs.lemmas.List.{map-append, append-nil}
use Rattle.std.proofs.lemmas.Option.{slice_get-get_or}
use Rattle.mseed_header.specs.declared.row.Row.{Row}
use Rattle.dataselect.specs.SpanOrder.{row_or_none}
use Rattle.dataselect.proofs.SpanRanks.{none_there}
use Rattle.dataselect.proofs.spans.add_row.Goals as goal

pub returns-in_ok-push : goal.returns-in_ok-push
returns-in_ok-push c =
    let now : Bor Row → Row = λ r. r.now in
    let there : slice_get c.args.rows.now c.args.rank.now.index ≡ Some c.in-Some.row.now =
    slice_get-get_or c.args.rows.now c.args.rank.now.index c.in-Some.row.now (search rules) ∙ ap Some (sym c.in-Some.ensures.lookup.1) in
    record {
      ok =
          ap (map now) c.in_ok-push.ensures.ok ∙ map-append now c.args.ranked.now (c.in-Some.row ∷ [])
          ∙ ap (λ (o : Option Row). map now c.args.ranked.now ++ row_or_none o) (sym there);
    }

pub returns-in_default : goal.returns-in_default
returns-in_default c =
    let now : Bor Row → Row = λ r. r.now in
    record {
      ok =
          sym (append-nil (map now c.args.ranked.now))
          ∙ ap (λ (o : Option Row). map now c.args.ranked.now ++ row_or_none o) (sym (none_there c.args.rows.now c.args.rank.now.index c.in_default.ensures.lookup.3));
    }
