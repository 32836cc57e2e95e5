use Rattle.centre_desk.proofs.Laws.{path_rows, feed_rows, query_rows}
use Rattle.centre_desk.proofs.law.a_request_is_told_by_the_first_test_it_fails.Goals as goal

pub returns-clause-path : goal.returns-clause-path
returns-clause-path c = path_rows

pub returns-clause-feed : goal.returns-clause-feed
returns-clause-feed c = feed_rows

pub returns-clause-query : goal.returns-clause-query
returns-clause-query c = query_rows
