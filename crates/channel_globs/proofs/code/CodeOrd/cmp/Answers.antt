use Rattle.std.proofs.Common.{◌∙◌, sym}
use Rattle.std.specs.Ordering.{nat_cmp}
use Rattle.std.specs.Cmp.{Equal-is}
use Rattle.std.specs.Cmp.Lexicographic.{slice_cmp, texts_ties}
use Rattle.channel_globs.proofs.code.CodeOrd.cmp.Goals as goal

pub returns-then-eq : goal.returns-then-eq
returns-then-eq c =
    let xs = c.args.self.now in
    let ys = c.args.other.now in
    sym ((Equal-is (slice_cmp nat_cmp xs ys)).0 (sym (texts_ties xs ys) ∙ sym c.eq.ensures ∙ c.if-eq.true))
