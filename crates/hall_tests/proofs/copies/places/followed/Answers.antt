use Rattle.two_copies.proofs.Rises.{begins}
use Rattle.hall_tests.proofs.copies.places.followed.Goals as goal

pub new-requires-clause-rule : goal.new-requires-clause-rule
new-requires-clause-rule g c = begins _
