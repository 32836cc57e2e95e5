-- The rule over the copies, and what a look tells.
use Rattle.std.specs.Prelude.{◌≡◌, ℕ, List, []}
use mathlib.Core.List.{IsPrefix}
use mathlib.Core.Option.{some}
use lib.ListN.{get_elem?}
use Rattle.archive_entry.specs.declared.entry.Entry.{Entry}
use Rattle.two_copies.specs.declared.view.View.{View}

-- what each view has seen is a beginning of what is shown
abbrev pub Keeps : List Entry → List View → Type 0
Keeps shown views = (seat : ℕ) (v : View) → get_elem? views seat ≡ some v → IsPrefix v.seen shown

-- a new view has seen nothing
abbrev pub newcomer : View
newcomer = record { seen = [] }

-- what is shown begins with what was seen, and all of it is seen then
abbrev pub Finds : View → List Entry → View → Type 0
Finds before shown after = IsPrefix before.seen shown × (after ≡ record { seen = shown })
