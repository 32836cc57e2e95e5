-- What a crash leaves opens as the history of the world after it.
use Rattle.std.proofs.Common.{◌≡◌, ℕ, true, List, [], ◌∷◌, ◌++◌, refl}
use Rattle.std.specs.List.{AllByRecursion}
use Rattle.std.proofs.lemmas.Bool.{and_parts}
use Rattle.archive_entry.specs.Spelling.{IsEntry}
use Rattle.archive_entry.specs.declared.entry.Entry.{Entry}
use Rattle.archive_state.specs.Lawful.{IsLawful, is_next, goes_on}
use Rattle.archive_state.proofs.NextEntry.{next_is_entry}
use Rattle.archive_state.proofs.Growth.{lawful_push}
use Rattle.archive_log.specs.Histories.{IsHistory, IsHistoryOf}
use Rattle.archive_log.proofs.Spellings.{one_history}
use Rattle.archive_world.specs.World.{World, IsWorld, after}
use Rattle.archive_world.specs.World.Event.{crashes}
use Rattle.archive_world.specs.Held.{IsLeftOf, IsOpened}
use Rattle.archive_world.proofs.Worlds.{keeps}

entries_go_on : (past es : List Entry) → IsLawful past → goes_on past es ≡ true → AllByRecursion IsEntry es
entries_go_on past [] lawful is = tt
entries_go_on past (e ∷ es) lawful is =
    let parts = and_parts (is_next past e) (goes_on (past ++ e ∷ []) es) is in
    (next_is_entry past e lawful parts.0, entries_go_on (past ++ e ∷ []) es (lawful_push past e lawful parts.0) parts.1)

-- the entries of a lawful history have a spelling each
pub lawful_history : (h : List Entry) → IsLawful h → IsHistory h
lawful_history h lawful = record { lawful = lawful; entries = entries_go_on [] h refl lawful }

pub opened : (w : World) (file : List ℕ) (h : List Entry) → IsWorld w → IsLeftOf w file → IsHistoryOf file h → IsOpened w h
opened w file h is left opens =
    let v = after w (crashes left.joins) in
    record {
      joins = left.joins;
      history = one_history file h v.journal opens (record { history = lawful_history v.journal (keeps w (crashes left.joins) is tt).lawful; journal = left.journal });
    }
