use Rattle.channel_globs.specs.declared.nslc.Part.TheVariants.{Network, Station, Location, Channel}
use Rattle.epochs.proofs.SpellableWord.{spellable_has}
use Rattle.line_columns.proofs.Printable.{code_ascii, writable, writable_end}
use Rattle.station_text.proofs.lines.write_channel.Goals as goal

pub write_columns-requires : goal.write_columns-requires
write_columns-requires c =
    let values = (spellable_has _ c.args.channel.now.spellable).values_are in
    let behind = values.1.1.1.1.1.1.1.1.1.1.1.1.1.1.1 in (
      code_ascii Network _ values.0,
      (
        code_ascii Station _ values.1.0,
        (
          code_ascii Location _ values.1.1.0,
          (
            code_ascii Channel _ values.1.1.1.0,
            (tt, (tt, (tt, (tt, (tt, (tt, (tt, (tt, (tt, (tt, (tt, (writable _ behind.0, (writable_end _ behind.1.0, tt))))))))))))),
          ),
        ),
      ),
    )
