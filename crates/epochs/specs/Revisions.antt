-- The lines of a revision's body, and its first fault.
use Rattle.std.specs.Prelude.{◌≡◌, ℕ, ◌+◌, List, [], ◌∷◌, ◌++◌, length, filter, not, false, ⊤}
use Rattle.std.specs.Str.Lines.{lines}
use Rattle.epochs.specs.Kinds.{Text}
use Rattle.epochs.specs.Lines.{LineValues, IsLine, IsLineFault, is_skipped}
use Rattle.epochs.specs.declared.fault.LineFault.{LineFault}
use Rattle.epochs.specs.declared.fault.LineFault.TheVariants as fault
use Rattle.epochs.specs.declared.fault.RevisionFault.{RevisionFault}
use Rattle.epochs.specs.declared.fault.RevisionFault.TheVariants as revision

-- the lines that aren't skipped
abbrev pub said_in : List Text → List Text
said_in texts = filter (λ text. not (is_skipped text)) texts

-- each line spells its values
abbrev pub AreLines : List Text → List LineValues → Type 0
AreLines [] [] = ⊤
AreLines (text ∷ texts) (e ∷ spelled) = IsLine text e × AreLines texts spelled
AreLines [] (e ∷ spelled) = ⊥
AreLines (text ∷ texts) [] = ⊥

-- a body spells these lines, of which there is at least one
pub record IsRevision (body : Text) (spelled : List LineValues) : Type 0 where
  pub each : AreLines (said_in (lines body)) spelled
  pub some : ¬ (spelled ≡ [])

-- the line of this number, counted from 1 over all lines, has this fault, and each before it that
-- isn't skipped spells values
pub record IsFirstBadLine (body : Text) (number : ℕ) (f : LineFault) : Type 0 where
  pub before : List Text
  pub here : Text
  pub after : List Text
  pub split : lines body ≡ before ++ here ∷ after
  pub number_is : number ≡ length before + 1
  pub spelled : List LineValues
  pub clean : AreLines (said_in before) spelled
  pub said : is_skipped here ≡ false
  pub bad : IsLineFault here f

-- each line is skipped
abbrev pub IsSilent : Text → Type 0
IsSilent body = said_in (lines body) ≡ []

-- the first fault of a body; want of memory has no cause in it
abbrev pub IsRevisionFault : Text → RevisionFault → Type 0
IsRevisionFault body (revision.Bad number fault.NoLine) = (number ≡ 1) × IsSilent body
IsRevisionFault body (revision.Bad number f) = IsFirstBadLine body number f
IsRevisionFault body revision.OutOfMemory = ⊥

-- why no lines were read; want of memory is free
abbrev pub RefusesRevision : Text → RevisionFault → Type 0
RefusesRevision body revision.OutOfMemory = ⊤
RefusesRevision body (revision.Bad number f) = IsRevisionFault body (revision.Bad number f)
