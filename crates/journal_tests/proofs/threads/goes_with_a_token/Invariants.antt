use Rattle.journal_tests.proofs.threads.goes_with_a_token.Given as goal

abbrev pub ghosts-count_elsewhere : goal.ghosts-count_elsewhere
ghosts-count_elsewhere g a = record { name = a.blank.name; parts = a.blank.parts }
