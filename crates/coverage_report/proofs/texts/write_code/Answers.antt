use Rattle.std.proofs.Common.{subst, sym}
use Rattle.std.specs.Str.{IsUtf8}
use Rattle.std.proofs.lemmas.Str.{IsUtf8-from_ascii}
use Rattle.exact_time.proofs.Ascii.{not_err}
use Rattle.coverage_report.proofs.texts.write_code.Goals as goal

pub unwrap-requires : goal.unwrap-requires
unwrap-requires c =
    not_err _ _ _ c.from_utf8.result c.from_utf8.ensures.cases (subst IsUtf8 (sym c.as_slice.ensures.value) (IsUtf8-from_ascii c.args.code c.requires))
