use Rattle.query_parameters.proofs.words.read_number.Goals as goal

pub returns-in-Err-clause-refused : goal.returns-in-Err-clause-refused
returns-in-Err-clause-refused c = λ h. c.in-Err.ensures.exact h.0 h.1
