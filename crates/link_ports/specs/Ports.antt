-- What is told of a port at one moment, and what its calls do to that. `old` is the view before a call, `new` after it.
use Rattle.std.specs.Prelude.{◌≡◌, ℕ, List, [], ◌∷◌, ◌++◌, ⊤, Option, None, Some, Result, Ok, Err}
use Rattle.exact_time.specs.Causes.{HasCause}
use Rattle.exact_time.specs.declared.error.Failed.{Failed}
use Rattle.http_wire.specs.declared.turn.Turn.{Turn}
use Rattle.streams.specs.View.{StreamView}

-- what is told of a link that came back, and the turns of its session
pub record Visitor : Type 0 where
  pub link : StreamView
  pub turns : List Turn

abbrev pub visitor : StreamView → List Turn → Visitor
visitor link turns = record { link = link; turns = turns }

-- What is told of a port at one moment: the links that it has left to give, and those that came back, each list in order and
-- where the port tells it; and how often it has failed. Of a link that is what is told of it then. Of a real port only the
-- faults say something.
pub record PortView : Type 0 where
  pub left : Option (List StreamView)
  pub back : Option (List Visitor)
  pub faults : ℕ

-- These were the first of what was left. What is told goes on to be told, and what isn't is not.
abbrev pub Took : {A : Type 0} → Option (List A) → Option (List A) → List A → Type 0
Took (Some old) (Some new) taken = old ≡ taken ++ new
Took None None taken = ⊤
Took None (Some new) taken = ⊥
Took (Some old) None taken = ⊥

-- These came behind the others. A list that is no longer told is never told again.
abbrev pub Came : {A : Type 0} → Option (List A) → Option (List A) → List A → Type 0
Came old None more = ⊤
Came None (Some new) more = ⊥
Came (Some old) (Some new) more = new ≡ old ++ more

-- nothing is left, where that is told
abbrev pub IsSpent : {A : Type 0} → Option (List A) → Type 0
IsSpent None = ⊤
IsSpent (Some left) = left ≡ []

-- A link was the first of those that were left; where none was given, none is left; where the call failed, all are.
abbrev pub Gives : {L : Type 0} → (L → StreamView) → Option (List StreamView) → Option (List StreamView) → Result (Option L) Failed → Type 0
Gives see old new (Ok (Some link)) = Took old new (see link ∷ [])
Gives see old new (Ok None) = IsSpent old × (new ≡ old)
Gives see old new (Err failed) = new ≡ old

-- An `accept`. What came back stays, the count of faults never falls, and it rose where the call failed. `see` is what is
-- told of a link.
pub record Accepts {L : Type 0} (see : L → StreamView) (old new : PortView) (result : Result (Option L) Failed) : Type 0 where
  pub gives : Gives see old.left new.left result
  pub back : new.back ≡ old.back
  pub cause : HasCause old.faults new.faults result

-- a link came back with its turns; what is left stays, and no fault is counted
pub record TakesBack (old new : PortView) (link : StreamView) (turns : List Turn) : Type 0 where
  pub back : Came old.back new.back (visitor link turns ∷ [])
  pub left : new.left ≡ old.left
  pub faults : new.faults ≡ old.faults
