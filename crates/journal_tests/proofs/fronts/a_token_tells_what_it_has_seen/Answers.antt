use Rattle.std.proofs.Common.{◌∙◌, ap, refl, [], ◌∷◌}
use Rattle.archive_state.specs.Lawful.{is_next}
use Rattle.archive_state.proofs.FoundingEntry.{founding_next}
use Rattle.journal_tests.proofs.fronts.a_token_tells_what_it_has_seen.Goals as goal

-- the name and the HA1 that stand in the test
pub one_goes_past_the_other-requires-clause-first : goal.one_goes_past_the_other-requires-clause-first
one_goes_past_the_other-requires-clause-first g c =
    ap (is_next []) c.in_ok-entry.ensures
    ∙ founding_next (111 ∷ 112 ∷ []) (57 ∷ 51 ∷ 57 ∷ 101 ∷ 55 ∷ 53 ∷ 55 ∷ 56 ∷ 101 ∷ 100 ∷ 57 ∷ 101 ∷ 51 ∷ 99 ∷ 53 ∷ 49 ∷ 56 ∷ 97 ∷ 52 ∷ 53 ∷ 50 ∷ 97 ∷ 99 ∷ 101 ∷ 101 ∷ 55 ∷ 54 ∷ 51 ∷ 98 ∷ 99 ∷ 101 ∷ 57 ∷ []) refl refl
