use Rattle.std.proofs.Common.{ℕ, List, subst}
use Rattle.httparse.specs.Grammar.{RequestHead, ReadsRequest}
use Rattle.http_wire.proofs.WholeBlock.{head_is_whole}
use Rattle.http_wire.proofs.parsing.crowded_or_bad.Goals as goal

pub returns-then-branch : goal.returns-then-branch
returns-then-branch c =
    let found : (tree : RequestHead) × (rest : List ℕ) × ReadsRequest c.args.block.now tree rest = rw c.if-branch.true at c.in_ok-is_head.ensures in
    let block = c.args.block.now in
    let P : List ℕ → Type 0 = λ r. ReadsRequest block found.0 r in
    (found.0, subst P (head_is_whole block found.0 found.1 c.requires.whole found.2) found.2, c.requires.crowded found.0 found.1 found.2)
