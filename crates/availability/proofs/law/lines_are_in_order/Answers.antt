use Rattle.availability.proofs.LineOrder.{lines_total, exact_lines, lines_sorted}
use Rattle.availability.proofs.law.lines_are_in_order.Goals as goal

pub returns : goal.returns
returns c = record { total = lines_total; ties = exact_lines; sorted = lines_sorted }
