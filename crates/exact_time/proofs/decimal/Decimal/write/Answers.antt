use Rattle.std.proofs.Common.{◌≡◌, ◌%◌, arith, rules}
use Rattle.std.specs.Str.{IsAscii}
use Rattle.std.proofs.lemmas.Str.{IsUtf8-from_ascii}
use Rattle.exact_time.specs.MomentText.{six_digits}
use Rattle.exact_time.specs.Decimals.{short_digits}
use Rattle.exact_time.proofs.Ascii.{not_err}
use Rattle.exact_time.proofs.DecimalsWritten.{ascii_short, reads_back}
use Rattle.exact_time.proofs.decimal.Decimal.write.Goals as goal

pub unwrap-decimals-requires : goal.unwrap-decimals-requires
unwrap-decimals-requires c =
    let rest = c.unsigned_abs-size.result % 1_000_000 in
    let text : c.short.result.now ≡ short_digits (six_digits rest) = search rules in
    let ascii : IsAscii c.short.result.now = rw text (ascii_short rest (omega arith)) in
    not_err _ _ _ c.from_utf8.result c.from_utf8.ensures.cases (IsUtf8-from_ascii c.short.result.now ascii)

pub returns-in_err-format-clause-reads_back : goal.returns-in_err-format-clause-reads_back
returns-in_err-format-clause-reads_back c = reads_back c.args.self.now.millionths c.args.self.now.millionths_in

pub returns-clause-reads_back : goal.returns-clause-reads_back
returns-clause-reads_back c = reads_back c.args.self.now.millionths c.args.self.now.millionths_in
