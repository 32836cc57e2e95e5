-- The restrictions and grants whose network is written as patterns, the withdrawals some text of which is, and their
-- places among the live lines.
use Rattle.std.specs.Prelude.{◌≡◌, ℕ, ◌+◌, Bool, not, ◌&&◌, ◌||◌, List, [], ◌∷◌, ◌++◌, map, filter, Some, if◌then◌else◌, codes}
use Rattle.std.specs.List.{list_all, slice_get}
use Rattle.std.specs.Char.{is_ascii_alphanumeric}
use Rattle.std.specs.Str.{bytes_eq}
use Rattle.epochs.specs.declared.kinds.LineKind.TheVariants.{Rst, Grt, Wdr}
use Rattle.epochs.specs.Kinds.{Text}
use Rattle.epochs.specs.Lines.{LineValues}
use Rattle.epoch_catalog.specs.declared.families.Family.{Family}
use Rattle.epoch_catalog.specs.Families.{is_in}
use Rattle.epoch_rules.specs.KeyOrder.{key_parts_of}
use Rattle.epoch_rules.specs.Rules.{is_line_of}

-- letters and digits alone: such a list of patterns is one code
abbrev pub is_one_code : Text → Bool
is_one_code text = list_all is_ascii_alphanumeric text

-- and so is such a list for locations, or two hyphens, which name the blank location as no text at all does
abbrev pub is_one_location : Text → Bool
is_one_location text = is_one_code text || bytes_eq text (codes "--")

-- each of four lists is written as one code
abbrev pub is_one_name : (network station location channel : Text) → Bool
is_one_name network station location channel =
    is_one_code network && is_one_code station && is_one_location location && is_one_code channel

-- a restriction or a grant whose network isn't written as one code, or a withdrawal some text of which isn't
abbrev pub is_wide : LineValues → Bool
is_wide e =
    (is_line_of Rst e && not (is_one_code (key_parts_of e).first))
    || (is_line_of Grt e && not (is_one_code (key_parts_of e).second))
    || (is_line_of Wdr e
    && not (is_one_name (key_parts_of e).first (key_parts_of e).second (key_parts_of e).third (key_parts_of e).fourth))

-- the places of the elements that pass a test, where the first element's place is n
abbrev pub places_from : {X : Type 0} → (X → Bool) → ℕ → List X → List ℕ
places_from test n [] = []
places_from test n (x ∷ xs) = (if test x then n ∷ [] else []) ++ places_from test (n + 1) xs

-- the places of the wide lines, counted from 0
abbrev pub wide_places : List LineValues → List ℕ
wide_places live = places_from is_wide 0 live

-- these elements stand at these places of the list
abbrev pub StandAt : {X : Type 0} → List X → List ℕ → List X → Type 0
StandAt xs places found = map (slice_get xs) places ≡ map Some found

-- the wide lines of a family
abbrev pub wide_in : Family → List LineValues → List LineValues
wide_in f live = filter (λ e. is_in f e && is_wide e) live
