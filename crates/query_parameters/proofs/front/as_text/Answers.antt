use Rattle.std.proofs.lemmas.Str.{IsUtf8-from_ascii}
use Rattle.exact_time.proofs.Ascii.{not_err}
use Rattle.query_parameters.proofs.front.as_text.Goals as goal

pub unwrap-requires : goal.unwrap-requires
unwrap-requires c = not_err _ _ _ c.from_utf8.result c.from_utf8.ensures.cases (IsUtf8-from_ascii c.args.ascii.now c.requires)
