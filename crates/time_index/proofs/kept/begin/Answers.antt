use Rattle.std.proofs.Common.{sym, subst}
use Rattle.time_index.specs.Kept.{kept_mend, IsBegun}
use Rattle.time_index.specs.declared.kept.Kept.{Kept}
use Rattle.time_index.proofs.Mending.{begun_home, begun_alone}
use Rattle.time_index.proofs.kept.begin.Goals as goal

pub returns-in-Some-clause-ok : goal.returns-in-Some-clause-ok
returns-in-Some-clause-ok c =
    let es = c.args.spans.now.entries in
    subst (λ (joined : Kept). IsBegun c.args.rate (kept_mend c.args.rate (c.args.start, c.args.kept) es) (c.in-Some.key, joined) es) (sym c.join.ensures)
    (begun_home c.args.rate c.args.start c.in-Some.key c.args.kept c.in-Some.other es c.requires.spread c.requires.forward c.in-Some.ensures)

pub returns-clause-ok : goal.returns-clause-ok
returns-clause-ok c =
    begun_alone c.args.rate c.args.start c.args.kept c.args.spans.now.entries c.insert.new.self.entries c.requires.spread c.requires.forward c.in_default.ensures c.in_ok-insert.ensures.entries
