-- What the closed word IsSpellable says.
use Rattle.epochs.specs.Lines.{LineValues}
use Rattle.epochs.specs.Spellable.{HasValues, IsSpellable}

pub spellable_is : (e : LineValues) → HasValues e → IsSpellable e
unfolding IsSpellable
spellable_is e h = h

pub spellable_has : (e : LineValues) → IsSpellable e → HasValues e
unfolding IsSpellable
spellable_has e h = h
