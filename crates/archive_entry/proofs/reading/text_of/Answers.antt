use Rattle.exact_time.proofs.Ascii.{not_err}
use Rattle.archive_entry.proofs.Names.{name_is_utf8}
use Rattle.archive_entry.proofs.reading.text_of.Goals as goal

pub unwrap-requires : goal.unwrap-requires
unwrap-requires c = not_err _ _ _ c.from_utf8.result c.from_utf8.ensures.cases (name_is_utf8 c.args.name.now c.requires)
