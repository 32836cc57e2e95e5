-- How what is told of a stream goes on.
use Rattle.std.specs.Prelude.{ℕ, List, Result}
use Rattle.exact_time.specs.declared.error.Failed.{Failed}
use Rattle.streams.specs.View.{StreamView, GoesOn}
use Rattle.streams.specs.Effects.{Takes, Puts}

-- it goes on over each take and each put
abbrev pub TakesGoOn : Type 0
TakesGoOn = (old new : StreamView) (result : Result ℕ Failed) (into : List ℕ) → Takes old new result into → GoesOn old new

abbrev pub PutsGoOn : Type 0
PutsGoOn = (old new : StreamView) (result : Result ℕ Failed) (piece : List ℕ) → Puts old new result piece → GoesOn old new

-- and so over some calls and then others
abbrev pub GoOnTogether : Type 0
GoOnTogether = (old mid new : StreamView) → GoesOn old mid → GoesOn mid new → GoesOn old new
