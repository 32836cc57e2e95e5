-- The numbers of each author's entries, as a map keeps them by the bytes of the author's name.
use Rattle.std.specs.Prelude.{ℕ, ◌==◌, if◌then◌else◌, ◌++◌, ◌∷◌, Bool, false, List, [], Vec, nat_lt, Option, None, Some, vec_len, vec_capacity}
use Rattle.std.specs.declared.cmp.Ordering.{Ordering}
use Rattle.std.specs.Ordering.{nat_cmp}
use Rattle.std.specs.declared.alloc.Global.{Global}
use Rattle.std.specs.BTreeMap.{BTreeMap, get_by}
use Rattle.std.specs.Cmp.Lexicographic.{slice_cmp}
use Rattle.std.specs.Str.{bytes_eq}
use Rattle.epochs.specs.Kinds.{Text}
use Rattle.archive_entry.specs.declared.entry.Entry.{Entry}

abbrev pub Map : Type 0
Map = BTreeMap (Vec ℕ Global) (Vec ℕ Global)

abbrev pub beside_key : Text → Vec ℕ Global → Ordering
beside_key author key = slice_cmp nat_cmp author key.items

abbrev pub items_in : Option (Vec ℕ Global) → List ℕ
items_in None = []
items_in (Some numbers) = numbers.items

abbrev pub is_roomy : Option (Vec ℕ Global) → Bool
is_roomy None = false
is_roomy (Some numbers) = nat_lt (vec_len numbers) (vec_capacity numbers)

-- the numbers of an author's entries, those of sequence number 1, 2, 3 and so on
abbrev pub numbers_in : Map → Text → List ℕ
numbers_in map author = items_in (get_by (beside_key author) map)

-- one more number of the author can be kept without memory being taken
abbrev pub has_room : Map → Text → Bool
has_room map author = is_roomy (get_by (beside_key author) map)

-- with the number of an entry, which goes to its author's others where it has a sequence number
abbrev pub with_entry : Entry → Text → List ℕ → List ℕ
with_entry e author numbers =
    if e.seq == 0 then numbers else (if bytes_eq e.author author then numbers ++ e.number ∷ [] else numbers)
