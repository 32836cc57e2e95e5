use Rattle.split_fetch.proofs.AskedOnce.{each_once}
use Rattle.split_fetch.proofs.law.no_window_is_asked_twice.Goals as goal

pub returns : goal.returns
returns c = λ whole heard round forward. each_once whole heard round forward
