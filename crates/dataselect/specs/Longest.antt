-- Of a list the longest items among those that are alike, on a tie the first.
use Rattle.std.specs.Prelude.{Bool, not, ◌&&◌, List, [], ◌∷◌, filter, if◌then◌else◌}
use Rattle.std.specs.List.{list_any}

module _ {X : Type 0} (alike longer : X → X → Bool) where
  -- an item behind this one is alike and longer
  abbrev pub is_exceeded : X → List X → Bool
  is_exceeded x xs = list_any (λ y. alike y x && longer y x) xs

  -- An item stands unless one behind it is alike and longer. Where it stands, none that is alike stands
  -- behind it.
  abbrev pub longest_by : List X → List X
  longest_by [] = []
  longest_by (x ∷ xs) =
      if is_exceeded x xs then longest_by xs
      else x ∷ filter (λ y. not (alike y x)) (longest_by xs)
