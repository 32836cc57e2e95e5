use Rattle.std.proofs.Common.{rules, refl, Some, sym, ◌∙◌, ap}
use Rattle.std.proofs.lemmas.Option.{slice_get-get_or}
use Rattle.dataselect.specs.MergedSpans.{has_name}
use Rattle.dataselect.proofs.SpanRanks.{span_rank_same}
use Rattle.time_index.proofs.SpansFound.{span_rank_in, span_rank_out}
use Rattle.time_index.proofs.channel_spans.add_rank.Goals as goal

pub returns-in_ok-insert : goal.returns-in_ok-insert
returns-in_ok-insert c = record {
  ok =
      span_rank_in (has_name c.args.name.now) c.args.place c.args.rows.now c.in-Some.row.now c.args.ranks.now.keys c.insert.new.self.keys
      (slice_get-get_or c.args.rows.now c.args.place c.in-Some.row.now (search rules) ∙ ap Some (sym c.in-Some.ensures.lookup.1))
      (sym c.has_name.ensures ∙ c.if-has_name.true) (rw (c.in_ok-insert.ensures.keys, span_rank_same, c.span_rank_of.ensures) refl);
}

pub returns-else-has_name : goal.returns-else-has_name
returns-else-has_name c = record {
  ok =
      span_rank_out (has_name c.args.name.now) c.args.place c.args.rows.now c.in-Some.row.now c.args.ranks.now.keys
      (slice_get-get_or c.args.rows.now c.args.place c.in-Some.row.now (search rules) ∙ ap Some (sym c.in-Some.ensures.lookup.1))
      (sym c.has_name.ensures ∙ c.if-has_name.false);
}
