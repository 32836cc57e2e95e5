use Rattle.std.proofs.Common.{codes, ◌∷◌}
use Rattle.command_words.specs.Commands.{command_of}
use Rattle.centre.proofs.SmallProgram.{above, below, given_select}
use Rattle.centre.proofs.law.the_small_program_says_the_same.Goals as goal

pub returns-clause-all : goal.returns-clause-all
returns-clause-all g c = λ secret behind before after old new status same run.
    above g.D.Disk.view secret (command_of (codes "select" ∷ behind)) before after old new status (given_select behind) same run

pub returns-clause-only : goal.returns-clause-only
returns-clause-only g c = λ secret behind before after old new status run.
    below g.D.Disk.view secret (command_of (codes "select" ∷ behind)) before after old new status (given_select behind) run
