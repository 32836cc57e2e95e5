use Rattle.centre_talk.proofs.talking.serve_streams.Goals as goal

pub returns-clause-row : goal.returns-clause-row
returns-clause-row g c = record { row = c.serve_session-end.ensures }
