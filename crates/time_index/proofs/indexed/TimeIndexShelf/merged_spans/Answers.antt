use Rattle.std.proofs.Common.{◌≡◌, ◌∙◌, [], List, ap, sym}
use Rattle.std.specs.BTreeMap.{get}
use Rattle.list_laws.specs.InOrder.{in_order}
use Rattle.channel_globs.specs.Names.{name_cmp}
use Rattle.mseed_header.specs.declared.row.Row.{Row}
use Rattle.dataselect.specs.MergedSpans.{has_name, merged_spans_of}
use Rattle.dataselect.specs.SpanOrder.{span_rank_cmp, ranks_named}
use Rattle.time_index.specs.SpanRanks.{span_ranks_at, places_of}
use Rattle.time_index.proofs.SpansFound.{channel_ranks_are}
use Rattle.time_index.proofs.indexed.TimeIndexShelf.merged_spans.Goals as goal

pub returns : goal.returns
returns c =
    let name = c.args.name.now in
    let shelf = c.args.self.now in
    let places = places_of (get name_cmp shelf.channels name) in
    let ranked : c.in_ok-ranks.ranks.keys ≡ ranks_named name c.deref-2.result.now =
    c.in_ok-ranks.ensures
    ∙ ap (λ (rows : List Row). in_order span_rank_cmp [] (span_ranks_at (has_name name) rows places)) c.deref.ensures.value
    ∙ channel_ranks_are shelf.rows.items shelf.channels shelf.index name
    ∙ ap (ranks_named name) (sym c.deref-2.ensures.value) in
    c.in_ok-spans.ensures name ranked ∙ ap (merged_spans_of name) c.deref-2.ensures.value
