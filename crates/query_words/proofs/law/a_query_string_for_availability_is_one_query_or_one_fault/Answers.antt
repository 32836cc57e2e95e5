use Rattle.query_words.proofs.AvailFound.{get_or_fault}
use Rattle.query_words.proofs.law.a_query_string_for_availability_is_one_query_or_one_fault.Goals as goal

pub returns : goal.returns
returns c = get_or_fault
