-- What waits joins what is seen.
use Rattle.std.proofs.Common.{◌≡◌, true, List, ◌++◌, sym, subst, Option, None, Some, option_to_list}
use Rattle.std.proofs.lemmas.List.{append-nil}
use Rattle.archive_entry.specs.declared.entry.Entry.{Entry}
use Rattle.archive_state.specs.Lawful.{IsLawful}
use Rattle.archive_state.proofs.Growth.{lawful_push}
use Rattle.archive_post.specs.Waiting.{waits}

pub lawful_flush : (h : List Entry) (o : Option Entry) → IsLawful h → waits h o ≡ true → IsLawful (h ++ option_to_list o)
lawful_flush h None is w = subst IsLawful (sym (append-nil h)) is
lawful_flush h (Some e) is w = lawful_push h e is w
