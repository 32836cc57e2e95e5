-- Lines of a family, as the program lends them.
use Rattle.std.proofs.Common.{◌≡◌, Bool, true, false, ◌||◌, ◌&&◌, List, map, Result, Ok, Err, OnOk, sym, ap, ◌∙◌}
use Rattle.std.specs.List.{list_any}
use Rattle.std.specs.Result.{IfOk}
use Rattle.epochs.specs.declared.line.Line.{Line}
use Rattle.epochs.specs.Lines.{LineValues}
use Rattle.epochs.specs.Views.{values_of_line}
use Rattle.epochs.proofs.FieldSteps.{list_any-map}

-- a test of some line of a slice is one of what these lines say
pub any_seen : (test : LineValues → Bool) (lines : List Line) (entries : List LineValues) (result : Bool) → map values_of_line lines ≡ entries → result ≡ list_any (λ line. test (values_of_line line)) lines → result ≡ list_any test entries
any_seen test lines entries result same is = is ∙ sym (list_any-map test values_of_line lines) ∙ ap (list_any test) same

-- where the first of two tests fails, the second decides
pub or_second : (first second result : Bool) → first ≡ false → result ≡ second → result ≡ (first || second)
or_second first second result fails is = is ∙ ap (λ b. b || second) (sym fails)

-- what follows from a fact of a success
pub ok_step : {T E P Q : Type 0} (r : Result T E) → (P → Q) → OnOk r P → OnOk r Q
ok_step (Ok x) f h = f h
ok_step (Err e) f h = tt

-- and what follows from what is said of its value
pub if_ok_step : {T E : Type 0} (P Q : T → Type 0) (r : Result T E) → ((x : T) → P x → Q x) → IfOk r P → IfOk r Q
if_ok_step P Q (Ok x) f h = f x h
if_ok_step P Q (Err e) f h = tt

-- where the first of two tests passes, the second decides
pub and_second : (first second result : Bool) → first ≡ true → result ≡ second → result ≡ (first && second)
and_second first second result passes is = is ∙ ap (λ b. b && second) (sym passes)
