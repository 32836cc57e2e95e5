use Rattle.disk_model.specs.View.{file_of}
use Rattle.centre_coverage.proofs.Rows.{lines_answer, refusal_answer}
use Rattle.centre_coverage.proofs.law.a_row_is_the_answer.Goals as goal

pub returns-clause-done : goal.returns-clause-done
returns-clause-done g c = λ w old new before after done h told.
    (h.puts.0, lines_answer g.D.Disk.view w old new before after h (file_of (g.D.Disk.view before)) (h.over.opens told), h.puts.2)

pub returns-clause-refused : goal.returns-clause-refused
returns-clause-refused g c = λ w old new before after refusal h. refusal_answer g.D.Disk.view w old new before after refusal h
