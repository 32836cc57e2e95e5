-- Why a word of `select` can't be read.
use Rattle.std.proofs.Common.{◌≡◌, ℕ, List, [], ◌∷◌, ◌++◌, subst, refl, sym}
use Rattle.std.specs.List.{AllByRecursion}
use Rattle.channel_globs.proofs.OneList.{no_list}
use Rattle.channel_globs.specs.PatternText.{RefusesList}
use Rattle.channel_globs.specs.declared.nslc.Part.{Part}
use Rattle.channel_globs.specs.declared.patterns.GlobFault.{GlobFault}
use Rattle.channel_globs.specs.declared.patterns.GlobFault.TheVariants.{TooMany, Character, Length, OutOfMemory}
use Rattle.centre_select.specs.declared.ending.Word.{Word}
use Rattle.centre_select.specs.declared.ending.SelectRefusal.{SelectRefusal}
use Rattle.centre_select.specs.declared.ending.SelectRefusal.TheVariants.{Value}
use Rattle.centre_select.specs.declared.ending.SelectStop.{SelectStop}
use Rattle.centre_select.specs.declared.ending.SelectStop.TheVariants.{Refused, ReadFault, WriteFault, OutOfMemory as NoMemory}
use Rattle.command_words.specs.Commands.{SelectWords}
use Rattle.centre_select.specs.Words.{CanReadWord, CanReadWords, IsList, RefusesSelectWords, StopsWith, tested_words, stop_for}

-- a fault of a code word is no pattern list
pub refused_list : (part : Part) (text : List ℕ) (fault : GlobFault) (word : Word) → RefusesList part text fault
    → StopsWith (λ refusal. (refusal ≡ Value word) × (IsList part text → ⊥)) (stop_for fault word)
refused_list part text TooMany word h = (refl, λ list. no_list part text list.0 TooMany list.1 h)
refused_list part text Character word h = (refl, λ list. no_list part text list.0 Character list.1 h)
refused_list part text Length word h = (refl, λ list. no_list part text list.0 Length list.1 h)
refused_list part text OutOfMemory word h = tt

-- the first word that can't be read
pub first_word : (w : SelectWords) (word : Word) (before after : List Word) → tested_words ≡ before ++ word ∷ after → AllByRecursion (CanReadWord w) before → (stop : SelectStop)
    → StopsWith (λ refusal. (refusal ≡ Value word) × (CanReadWord w word → ⊥)) stop → StopsWith (RefusesSelectWords w) stop
first_word w word before after split all (Refused refusal) h =
    subst (λ (r : SelectRefusal). RefusesSelectWords w r) (sym h.0) (record { before = before; after = after; split = split; all = all; lacks = h.1 })
first_word w word before after split all NoMemory h = tt
first_word w word before after split all ReadFault h = absurd h
first_word w word before after split all WriteFault h = absurd h

-- the same of a refusal
pub first_refused : (w : SelectWords) (word : Word) (before after : List Word) (refusal : SelectRefusal) → tested_words ≡ before ++ word ∷ after → CanReadWords w before
    → (refusal ≡ Value word) × (CanReadWord w word → ⊥) → RefusesSelectWords w refusal
first_refused w word before after refusal split all h =
    subst (λ (r : SelectRefusal). RefusesSelectWords w r) (sym h.0) (record { before = before; after = after; split = split; all = all; lacks = h.1 })

-- words that can be read, and one more
pub one_more : (w : SelectWords) (words : List Word) (word : Word) → CanReadWords w words → CanReadWord w word → CanReadWords w (words ++ word ∷ [])
one_more w [] word all can = (can, tt)
one_more w (x ∷ words) word all can = (all.0, one_more w words word all.1 can)
