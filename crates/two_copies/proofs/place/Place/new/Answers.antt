use Rattle.two_copies.proofs.Rises.{admits}
use Rattle.two_copies.proofs.place.Place.new.Goals as goal

pub reader-requires : goal.reader-requires
reader-requires g c x = admits (g.T.Absorb.state x)
