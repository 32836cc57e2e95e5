use Rattle.access_digest.proofs.Named.{who_names, names_who}
use Rattle.access_digest.proofs.law.credentials_name_whom_they_prove.Goals as goal

pub returns : goal.returns
returns c = λ live asked now secret user. (who_names live asked now secret user, names_who live asked now secret user)
