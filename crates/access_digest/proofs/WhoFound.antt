-- What a reader of credentials answers is the one right answer.
use Rattle.std.proofs.Common.{◌≡◌, ℕ, List, Result, Ok, Err, MatchResult, IfOk, IfErr, sym}
use Rattle.http_digest.proofs.HeaderLaw.{one_answer}
use Rattle.http_digest.specs.Parts.{IsAuthorization, RefusesHeader}
use Rattle.http_digest.specs.declared.authorization.AuthFault.{AuthFault}
use Rattle.http_digest.specs.declared.authorization.AuthFault.TheVariants as fault
use Rattle.http_digest.specs.declared.authorization.Authorization.{Authorization}
use Rattle.access_digest.specs.Who.{reading_of, Misreads}

pub reading_is : (header : List ℕ) (r : Result Authorization AuthFault) → IfOk r (IsAuthorization header) → IfErr r (RefusesHeader header)
    → MatchResult r (λ a. reading_of header ≡ Ok a) (Misreads (reading_of header))
unfolding reading_of
reading_is header (Ok a) h k = sym ((one_answer header).1.only (Ok a) h)
reading_is header (Err fault.Unreadable) h k = sym ((one_answer header).1.only (Err fault.Unreadable) k)
reading_is header (Err fault.OutOfMemory) h k = tt
