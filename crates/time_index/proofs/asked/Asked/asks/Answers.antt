use Rattle.std.proofs.Common.{◌∙◌, sym}
use Rattle.time_index.proofs.Tested.{asked}
use Rattle.time_index.proofs.asked.Asked.asks.Goals as goal

pub returns-then-has_quality : goal.returns-then-has_quality
returns-then-has_quality g c =
    c.meets.ensures ∙ asked c.args.self.now.query.now c.args.self.now.selection.now c.args.self.now.name.now c.args.header.now c.args.self.now.named c.requires.of_it (sym c.has_quality.ensures ∙ c.if-has_quality.true)
