use Rattle.split_fetch.proofs.Apart.{held_twice}
use Rattle.split_fetch.proofs.Whole.{parts_adjoin, bytes_made, size_made, never_moved}
use Rattle.split_fetch.proofs.law.parts_make_the_whole.Goals as goal

pub returns-clause-held : goal.returns-clause-held
returns-clause-held c = λ rows. held_twice rows

pub returns-clause-adjoin : goal.returns-clause-adjoin
returns-clause-adjoin c = λ seen query rows whole answers are. parts_adjoin seen query rows whole answers are

pub returns-clause-bytes : goal.returns-clause-bytes
returns-clause-bytes c = λ seen query rows whole answers are. bytes_made seen query rows whole answers are

pub returns-clause-too_large : goal.returns-clause-too_large
returns-clause-too_large c = λ seen query rows whole answers are. size_made seen query rows whole answers are

pub returns-clause-never_moved : goal.returns-clause-never_moved
returns-clause-never_moved c = λ seen query rows whole answers are. never_moved seen query rows whole answers are
