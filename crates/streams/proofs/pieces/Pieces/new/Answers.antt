use Rattle.std.proofs.Common.{List, ℕ, ap}
use Rattle.streams.specs.Pieces.{with_bytes}
use Rattle.streams.proofs.Giving.{all_pieces}
use Rattle.streams.proofs.pieces.Pieces.new.Goals as goal

pub returns-clause-pieces : goal.returns-clause-pieces
returns-clause-pieces c = ap (λ (ps : List (List ℕ)). with_bytes ps) (all_pieces c.args.all)
