use Rattle.std.proofs.Common.{◌∷◌, []}
use Rattle.service_paths.proofs.table.routes.Goals as goal

pub returns : goal.returns
returns c = λ i.
    c.open.ensures i
    ∷ c.signed.ensures i
    ∷ c.open-2.ensures i
    ∷ c.open-3.ensures i
    ∷ c.signed-2.ensures i
    ∷ c.signed-3.ensures i
    ∷ c.open-4.ensures i
    ∷ c.open-5.ensures i
    ∷ c.version.ensures i
    ∷ c.version-2.ensures i
    ∷ c.version-3.ensures i
    ∷ c.version-4.ensures i
    ∷ c.feed.ensures i
    ∷ c.feed-2.ensures i ∷ c.signed-4.ensures i
    ∷ []
