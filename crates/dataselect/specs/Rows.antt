-- Rows without doubles.
use Rattle.std.specs.Prelude.{ℕ, Bool, List, [], ◌∷◌, ◌++◌, if◌then◌else◌}
use Rattle.std.specs.List.{list_any, fold}
use Rattle.std.specs.Str.{bytes_eq}
use Rattle.mseed_header.specs.declared.row.Row.{Row}
use Rattle.dataselect.specs.declared.shelf.Inserted.{Inserted}
use Rattle.dataselect.specs.declared.shelf.Inserted.TheVariants.{New, Duplicate}

-- some row has these bytes
abbrev pub has_image : List ℕ → List Row → Bool
has_image image rows = list_any (λ row. bytes_eq row.image image) rows

abbrev pub inserted_as : List Row → Row → Inserted
inserted_as rows row = if has_image row.image rows then Duplicate else New

-- the rows, and the row at their end unless its bytes are there
abbrev pub with_row : List Row → Row → List Row
with_row rows row = if has_image row.image rows then rows else rows ++ row ∷ []

-- the rows, and then each of some others in turn unless its bytes are there
abbrev pub with_rows : List Row → List Row → List Row
with_rows rows more = fold with_row rows more

-- of the rows that come after `before`, those whose bytes no earlier row has
abbrev pub new_after : List Row → List Row → List Row
new_after before [] = []
new_after before (row ∷ rows) =
    (if has_image row.image before then [] else row ∷ []) ++ new_after (before ++ row ∷ []) rows

-- the rows that are held: all but those whose bytes equal an earlier one's
abbrev pub held_rows : List Row → List Row
held_rows rows = new_after [] rows
