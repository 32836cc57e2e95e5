-- Of two requests in a row.
use Rattle.std.specs.Prelude.{◌≡◌, ◌⊎◌, ◌+◌, ◌==◌, ◌<ℤ◌, ℕ, ⊤, List, [], ◌∷◌, ◌++◌, if◌then◌else◌}
use Rattle.std.specs.List.{AllByRecursion}
use Rattle.split_fetch.specs.Rounds.{Stage, Way, Goes, Ends, after, first_of_todo}
use Rattle.split_fetch.specs.declared.heard.Heard.{Heard}
use Rattle.split_fetch.specs.declared.window.Window.{Window}

-- the one begins earlier, or it begins with the other and ends later
abbrev pub ComesBefore : Window → Window → Type 0
ComesBefore v w = (v.start.micros <ℤ w.start.micros) ⊎ ((v.start.micros ≡ w.start.micros) × (w.end.micros <ℤ v.end.micros))

abbrev pub FirstComesAfter : Window → List Window → Type 0
FirstComesAfter w [] = ⊤
FirstComesAfter w (v ∷ todo) = ComesBefore w v

-- after a window was asked: the next round, or a window that comes after it, or the end
abbrev pub Follows : Stage → Window → Way → Type 0
Follows s w (Goes t) = (t.round ≡ s.round + 1) ⊎ FirstComesAfter w t.todo
Follows s w (Ends outcome) = ⊤

-- the windows that are asked in the round of this number, one for each reply
unfoldable pub asked_in : ℕ → Way → List Heard → List Window
asked_in round way [] = []
asked_in round (Ends outcome) (heard ∷ more) = []
asked_in round (Goes s) (heard ∷ more) = (if s.round == round then first_of_todo s.todo else []) ++ asked_in round (after s heard) more

-- each comes after all that were asked before it, so that none is asked twice
abbrev pub InOrder : List Window → Type 0
InOrder [] = ⊤
InOrder (w ∷ windows) = AllByRecursion (ComesBefore w) windows × InOrder windows
