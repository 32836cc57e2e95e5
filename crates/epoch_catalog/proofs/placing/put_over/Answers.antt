use Rattle.std.proofs.Common.{◌≡◌, ◌∙◌, ◌+◌, ◌++◌, ◌∷◌, ℕ, suc, take, drop, slice_set, ap, arith, rules}
use Rattle.epochs.specs.declared.line.Line.{Line}
use Rattle.epoch_catalog.proofs.Placed.{set_parts}
use Rattle.epoch_catalog.proofs.placing.put_over.Goals as goal

pub returns-clause-lines : goal.returns-clause-lines
returns-clause-lines c =
    let is : c.replace.new.dest ≡ c.args.line = search rules in
    let next : suc c.args.place ≡ c.args.place + 1 = omega arith in
    ap (λ (x : Line). slice_set c.args.live.now.items c.args.place x) is ∙ set_parts c.args.live.now.items c.args.place c.args.line (omega (arith, c.requires))
    ∙ ap (λ (n : ℕ). take c.args.place c.args.live.now.items ++ c.args.line ∷ drop n c.args.live.now.items) next
