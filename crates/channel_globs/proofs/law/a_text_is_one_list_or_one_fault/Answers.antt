use Rattle.channel_globs.proofs.OneList.{list_or_fault}
use Rattle.channel_globs.proofs.law.a_text_is_one_list_or_one_fault.Goals as goal

pub returns : goal.returns
returns c = list_or_fault
