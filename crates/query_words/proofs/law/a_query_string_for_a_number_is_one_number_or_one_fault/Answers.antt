use Rattle.query_words.proofs.Numbers.{get_or_fault}
use Rattle.query_words.proofs.law.a_query_string_for_a_number_is_one_number_or_one_fault.Goals as goal

pub returns : goal.returns
returns c = get_or_fault
