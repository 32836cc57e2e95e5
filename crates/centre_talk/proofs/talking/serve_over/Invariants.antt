use Rattle.centre_talk.proofs.talking.serve_over.Given as goal

abbrev pub ghosts-serve_streams : goal.ghosts-serve_streams
ghosts-serve_streams g a = record { source = a.source.ghost_name; sink = a.sink.ghost_name }
