use Rattle.std.proofs.Common.{rules, tests}
use Rattle.std.proofs.lemmas.Iterator.Consumers.{map_from_collect, YieldsList-from_filter, YieldsList-at}
use Rattle.std.proofs.lemmas.Iterator.Splits.{YieldsList-from_slice_split}
use Rattle.form_urlencoded.specs.Form.{is_nonempty}
use Rattle.query_parameters.specs.Bodies.{is_gap}
use Rattle.query_parameters.proofs.selections.field_list.Goals as goal

pub returns : goal.returns
returns c = map_from_collect _ c.collect.ensures.ran (YieldsList-from_filter _ is_nonempty
    (YieldsList-at c.filter.ensures.source (YieldsList-from_slice_split _ is_gap c.args.text.now c.split.ensures.rest c.split.ensures.done c.split.ensures.closure (λ x b q k. search (rules, tests))))
    c.filter.ensures.closure (λ x b q k. search (rules, tests)))
