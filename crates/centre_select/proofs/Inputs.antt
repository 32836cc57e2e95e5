-- What a source had, from what was taken.
use Rattle.std.proofs.Common.{ℕ, ◌<◌, List, ◌++◌, length, refl, ◌∙◌, ap, arith, None, Some, append-nil, length-append}
use Rattle.std.specs.declared.option.Option.{Option}
use Rattle.std.specs.Io.KnownBytes.{Consumes, IsAtEnd}
use Rattle.centre_select.specs.Had.{Had, HadMore}

-- what was taken up to the end is what there was
pub had_all : (left after : Option (List ℕ)) (input : List ℕ) → Consumes left after input → IsAtEnd after → Had left input
had_all None after input taken end = tt
had_all (Some xs) None input taken end = absurd taken
had_all (Some xs) (Some ys) input taken end = taken ∙ ap (λ (s : List ℕ). input ++ s) end ∙ append-nil input

pub had_more : (left after : Option (List ℕ)) (limit : ℕ) (input : List ℕ) → Consumes left after input → limit < length input → HadMore left limit
had_more None after limit input taken long = record { input = input; had = tt; long = long }
had_more (Some xs) None limit input taken long = absurd taken
had_more (Some xs) (Some ys) limit input taken long =
    record { input = xs; had = refl; long = (let e = ap length taken ∙ length-append input ys in omega arith) }
