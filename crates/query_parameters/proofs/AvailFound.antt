-- Right parameters say what is merged, and they say one thing.
use Rattle.std.proofs.Common.{◌≡◌, Option, Some, None, refl, sym, ◌∙◌}
use Rattle.query_parameters.specs.Listed.{no_merges, IsMerges}
use Rattle.query_parameters.specs.Rows.{Text}
use Rattle.query_parameters.specs.Values.{CanRead}
use Rattle.query_parameters.specs.declared.avail.Merges.{Merges}
use Rattle.query_parameters.specs.declared.rows.ValueKind.TheVariants as kind
use Rattle.query_parameters.proofs.OneGet.{some_one}

pub merges_given : (given : Option Text) → ((text : Text) → given ≡ Some text → CanRead kind.Merges text) → (merges : Merges) × IsMerges given merges
merges_given None h = (no_merges, refl)
merges_given (Some text) h = h text refl

pub one_merges : (given : Option Text) (a b : Merges) → IsMerges given a → IsMerges given b → a ≡ b
one_merges None a b h k = h ∙ sym k
one_merges (Some text) a b h k = some_one a b _ h k
