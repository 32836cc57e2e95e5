use Rattle.std.proofs.Common.{◌∷◌, [], Err, subst, sym}
use Rattle.follow_replica.specs.Takes.{AddsOne, AddsSo}
use Rattle.follow_replica.proofs.AddSteps.{adds_none, append_row, told_append}
use Rattle.follow_replica.proofs.adding.add.Goals as goal

pub returns-in-Ok-clause-row : goal.returns-in-Ok-clause-row
returns-in-Ok-clause-row g c =
    let view = g.D.Disk.view in
    let old = c.args.intake.now in
    let new = c.append.new.self in
    let e = c.args.entry in
    let h = c.requires.stands.0 in
    let stood = c.requires.stands.1 in
    let none = adds_none view old.archive (e ∷ []) (g.met.D.Disk.honest old.archive.disk) c.count-count.ensures.archive in
    subst (λ r. AddsOne view e old.archive new.archive (told_append view e.number r)) c.in-Ok.is
    (append_row view old new h e stood (c.append.ensures.stands h stood) c.requires.free.0 c.append.result none (c.append.ensures.row h stood) (c.append.ensures.disk h stood))

pub returns-in-Err-clause-row : goal.returns-in-Err-clause-row
returns-in-Err-clause-row g c =
    let view = g.D.Disk.view in
    let old = c.args.intake.now in
    let new = c.append.new.self in
    let e = c.args.entry in
    let h = c.requires.stands.0 in
    let stood = c.requires.stands.1 in
    let none = adds_none view old.archive (e ∷ []) (g.met.D.Disk.honest old.archive.disk) c.count-count.ensures.archive in
    let told = subst (λ r. AddsOne view e old.archive new.archive (told_append view e.number r)) c.in-Err.is
    (append_row view old new h e stood (c.append.ensures.stands h stood) c.requires.free.0 c.append.result none (c.append.ensures.row h stood) (c.append.ensures.disk h stood)) in
    subst (λ f. AddsSo view (e ∷ []) old.archive new.archive (Err f)) (sym c.from_append.ensures) told
