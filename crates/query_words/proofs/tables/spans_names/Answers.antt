use Rattle.std.proofs.Common.{◌∷◌, []}
use Rattle.query_words.proofs.tables.spans_names.Goals as goal

pub returns : goal.returns
returns c = λ i.
    c.with_alias.ensures i
    ∷ c.with_alias-2.ensures i
    ∷ c.with_alias-3.ensures i
    ∷ c.with_alias-4.ensures i
    ∷ c.with_alias-5.ensures i
    ∷ c.with_alias-6.ensures i
    ∷ c.new.ensures i
    ∷ c.new-2.ensures i
    ∷ c.new-3.ensures i
    ∷ c.new-4.ensures i
    ∷ c.new-5.ensures i
    ∷ c.new-6.ensures i
    ∷ c.new-7.ensures i
    ∷ c.new-8.ensures i
    ∷ c.new-9.ensures i
    ∷ []
