use Rattle.std.proofs.Common.{◌∷◌, []}
use Rattle.query_words.proofs.tables.event_names.Goals as goal

pub returns : goal.returns
returns c = λ i.
    c.with_alias.ensures i
    ∷ c.with_alias-2.ensures i
    ∷ c.new.ensures i
    ∷ c.with_alias-3.ensures i
    ∷ c.with_alias-4.ensures i
    ∷ c.with_alias-5.ensures i
    ∷ c.with_alias-6.ensures i
    ∷ c.new-2.ensures i
    ∷ c.new-3.ensures i
    ∷ c.with_alias-7.ensures i
    ∷ c.with_alias-8.ensures i
    ∷ c.with_alias-9.ensures i
    ∷ c.new-4.ensures i
    ∷ c.new-5.ensures i
    ∷ c.new-6.ensures i
    ∷ c.new-7.ensures i
    ∷ c.new-8.ensures i
    ∷ c.new-9.ensures i
    ∷ c.new-10.ensures i
    ∷ c.new-11.ensures i
    ∷ c.new-12.ensures i
    ∷ c.new-13.ensures i
    ∷ c.new-14.ensures i
    ∷ c.with_alias-10.ensures i
    ∷ c.with_alias-11.ensures i
    ∷ c.new-15.ensures i
    ∷ c.new-16.ensures i
    ∷ c.new-17.ensures i
    ∷ []
