use Rattle.std.proofs.Common.{◌∙◌, sym, ap}
use Rattle.epochs.specs.Lines.{end_of}
use Rattle.epochs.specs.Views.{values_of_line}
use Rattle.epochs.specs.declared.line.Line.TheVariants as line
use Rattle.epoch_rules.specs.Endings.{ending, ending_of, is_child}
use Rattle.epoch_rules.specs.KeyOrder.{KeyParts, key_parts_of}
use Rattle.epoch_rules.proofs.endings.ending_of.Goals as goal

pub returns-in-Cha : goal.returns-in-Cha
returns-in-Cha c =
    let key : KeyParts = key_parts_of (values_of_line (line.Cha c.in-Cha.cha)) in
    let keys = c.channel_key-key.ensures in (
      ap (λ l. is_child (values_of_line l)) c.in-Cha.is,
      c.ending_in-in-Cha.ensures
          ∙ (λ i. ending 2 (keys i).first (keys i).second (c.end-in-Cha.ensures i) (keys i))
          ∙ ap (λ l. ending 2 key.first key.second (end_of (values_of_line l).values) key) c.in-Cha.is
          ∙ ap (λ l. ending_of (values_of_line l)) (sym c.in-Cha.is),
    )
