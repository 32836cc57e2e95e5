use Rattle.std.proofs.Common.{◌≡◌, List, ℕ, ◌++◌, length, true}
use Rattle.std.specs.Option.{is_some}
use Rattle.http_digest.specs.Items.{has_name}
use Rattle.http_digest.specs.Parts.{value_of, names_are_once}
use Rattle.http_digest.specs.declared.item.Item.{Item}
use Rattle.http_digest.proofs.parts.names_are_once.Given as goal

-- the names of the items behind, of which none stands twice
abbrev pub invariant-items : goal.invariant-items
invariant-items l = (behind : List Item) × (l.fn.items ≡ l.left ++ behind) × (names_are_once behind ≡ true) × ((name : List ℕ) → has_name l.names name ≡ is_some (value_of name behind))

abbrev pub decreases-items : goal.decreases-items
decreases-items l = length l.left
