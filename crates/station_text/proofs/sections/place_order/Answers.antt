use Rattle.std.proofs.Common.{◌∙◌, sym, ap}
use Rattle.epochs.specs.Views.{values_of_line}
use Rattle.epoch_rules.specs.KeyOrder.{key_parts_of}
use Rattle.station_text.specs.Found.{level_rank, place_order}
use Rattle.station_text.proofs.sections.place_order.Goals as goal

pub returns-in-Sta : goal.returns-in-Sta
returns-in-Sta c = c.codes_order.ensures ∙ ap (λ l. place_order (level_rank c.args.level) c.args.place.now (key_parts_of (values_of_line l))) (sym c.in-Sta.is)

pub returns-in-Cha : goal.returns-in-Cha
returns-in-Cha c = c.codes_order-in-Cha.ensures ∙ ap (λ l. place_order (level_rank c.args.level) c.args.place.now (key_parts_of (values_of_line l))) (sym c.in-Cha.is)
