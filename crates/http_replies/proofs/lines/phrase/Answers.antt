use Rattle.std.proofs.Common.{rules, ◌≡◌, length, arith, ap}
use Rattle.http_replies.specs.Replies.{phrase}
use Rattle.http_replies.proofs.StatusFacts.{short_phrase, status_code_of}
use Rattle.http_replies.proofs.lines.phrase.Goals as goal

pub returns-in-Ok-clause-short : goal.returns-in-Ok-clause-short
returns-in-Ok-clause-short c =
    let same : c.unwrap_or.result.now ≡ phrase c.args.status = search rules in
    omega (arith, ap length same, short_phrase c.args.status c.requires)

pub returns-in-Err-clause-same : goal.returns-in-Err-clause-same
returns-in-Err-clause-same c = absurd (c.in-Err.ensures (status_code_of c.args.status c.requires))
