use Rattle.centre_fetch.proofs.SomeFetch.{some_heard, some_words}
use Rattle.centre_fetch.proofs.law.some_fetch_answer.Goals as goal

pub returns-clause-words : goal.returns-clause-words
returns-clause-words c = λ w heard answer h. some_words w heard answer h

pub returns-clause-heard : goal.returns-clause-heard
returns-clause-heard c = λ w heard h. some_heard w heard h
