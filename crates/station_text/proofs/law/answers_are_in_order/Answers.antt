use Rattle.std.proofs.lemmas.List.Kept.{IsStrictlySortedBy-filter}
use Rattle.epoch_rules.specs.KeyOrder.{line_cmp}
use Rattle.station_text.specs.Asked.{is_line_asked}
use Rattle.station_text.proofs.law.answers_are_in_order.Goals as goal

pub returns : goal.returns
returns c live q catalog = IsStrictlySortedBy-filter line_cmp (is_line_asked live q) live catalog.rises
