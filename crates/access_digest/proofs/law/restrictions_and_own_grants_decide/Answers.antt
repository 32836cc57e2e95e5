use Rattle.access_digest.proofs.Isolation.{same_had, same_touched, same_unrestricted, same_withdrawn, same_seen, same_whole}
use Rattle.access_digest.proofs.law.restrictions_and_own_grants_decide.Goals as goal

pub returns-clause-may : goal.returns-clause-may
returns-clause-may c = λ live other user row restrictions grants. same_had live other user row restrictions grants

pub returns-clause-touched : goal.returns-clause-touched
returns-clause-touched c = λ live other row restrictions. same_touched live other row restrictions

pub returns-clause-unrestricted : goal.returns-clause-unrestricted
returns-clause-unrestricted c = λ live other name restrictions. same_unrestricted live other name restrictions

pub returns-clause-withdrawn : goal.returns-clause-withdrawn
returns-clause-withdrawn c = λ live other row withdrawals. same_withdrawn live other row withdrawals

pub returns-clause-seen : goal.returns-clause-seen
returns-clause-seen c = λ live other user row restrictions withdrawals grants. same_seen live other user row restrictions withdrawals grants

pub returns-clause-whole : goal.returns-clause-whole
returns-clause-whole c = λ live other name restrictions withdrawals. same_whole live other name restrictions withdrawals
