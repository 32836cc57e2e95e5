-- Spans from a start to a reach that are kept merged: one more span joins those that it touches.
use Rattle.std.specs.Prelude.{ℤ, ◌≤ℤ◌, ◌<ℤ◌, int_lt, List, [], ◌∷◌, if◌then◌else◌}
use Rattle.std.specs.List.{AllByRecursion}

module _ {S : Type 0} (start reach : S → ℤ) where
  -- a span doesn't reach back
  abbrev pub IsForward : S → Type 0
  IsForward s = start s ≤ℤ reach s

  -- spans in order that don't touch
  abbrev pub AreSpread : List S → Type 0
  AreSpread [] = Unit {0}
  AreSpread (t ∷ ts) = IsForward t × AllByRecursion (λ u. reach t <ℤ start u) ts × AreSpread ts

  module _ (join : S → S → S) where
    -- a span among spread ones, in order: it stands behind those that end before it and before those that
    -- begin behind it, and joins the others
    abbrev pub mend : S → List S → List S
    mend s [] = s ∷ []
    mend s (t ∷ ts) =
        if int_lt (reach t) (start s) then t ∷ mend s ts
        else (if int_lt (reach s) (start t) then s ∷ t ∷ ts else mend (join s t) ts)

    -- the spans of items, which go in one by one
    abbrev pub mended : {X : Type 0} → (X → S) → List X → List S
    mended one [] = []
    mended one (x ∷ xs) = mend (one x) (mended one xs)
