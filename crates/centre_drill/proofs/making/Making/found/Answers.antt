use Rattle.std.proofs.Common.{◌≡◌, ◌∙◌, length, sym, subst, ap}
use Rattle.disk_model.specs.View.{WhereTold}
use Rattle.archive_log.specs.Archive.{Archived}
use Rattle.archive_state.specs.Admits.{IsAdmit}
use Rattle.archive_state.specs.Lawful.{IsLawful}
use Rattle.archive_state.specs.declared.admit.Admit.{Admit}
use Rattle.archive_post.proofs.Standing.{fresh}
use Rattle.centre_drill.proofs.Begun.{first_lawful}
use Rattle.centre_drill.proofs.making.Making.found.Goals as goal

pub returns-in-Ok-first_taken-clause-way : goal.returns-in-Ok-first_taken-clause-way
returns-in-Ok-first_taken-clause-way g c =
    let view = g.D.Disk.view in
    let state = c.in-Ok-first_taken.state in
    let taken = c.in-Ok-first_taken.ensures in
    let founded = c.in-Ok.ensures.founded in
    let of = c.of.ensures in
    record {
      running = ap (λ (a : Archived g.row.D.Denot). a.stopped) of.parts.0 ∙ founded.running;
      stands = fresh view c.of.result state of.none.0 (subst IsLawful (sym taken.state) first_lawful) (subst (λ (a : Admit). IsAdmit a state) (sym of.parts.1) taken.admits)
          (ap (λ (a : Archived g.row.D.Denot). a.count) of.parts.0 ∙ founded.counted ∙ ap length (sym taken.state))
          (subst (λ (a : Archived g.row.D.Denot). WhereTold (view a.disk) (a.history ≡ state)) (sym of.parts.0) (λ told. founded.history told ∙ sym taken.state));
      nothing = of.none;
    }
