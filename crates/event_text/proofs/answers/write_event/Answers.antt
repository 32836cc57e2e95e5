use Rattle.epochs.proofs.SpellableWord.{spellable_has}
use Rattle.line_columns.proofs.Printable.{writable}
use Rattle.event_text.proofs.answers.write_event.Goals as goal

pub write_columns-requires : goal.write_columns-requires
write_columns-requires c =
    let values = (spellable_has _ c.args.event.now.spellable).values_are in
    (tt, (writable _ values.1.0, (tt, (tt, (tt, (tt, (tt, (tt, (tt, (tt, (tt, (tt, (tt, tt)))))))))))))
