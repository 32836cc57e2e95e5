-- What holds of the items of all streams.
use Rattle.std.specs.Prelude.{◌≡◌, List, ℕ}
use Rattle.centre_session.specs.Items.{Item, Ending, AreItems}

-- Bytes are the items of a session in one way: it doesn't matter in what pieces they came.
abbrev pub OneListOfItems : Type 0
OneListOfItems = (bytes : List ℕ) (one other : List Item) (interim sent : List ℕ) (ending end : Ending)
    → AreItems 0 bytes one interim ending → AreItems 0 bytes other sent end → (one ≡ other) × (interim ≡ sent) × (ending ≡ end)

-- And in some way, whatever the bytes.
abbrev pub SomeListOfItems : Type 0
SomeListOfItems = (bytes : List ℕ) → (items : List Item) × (interim : List ℕ) × (ending : Ending) × AreItems 0 bytes items interim ending
