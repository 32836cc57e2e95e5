-- Tests of lines and of their values.
use Rattle.std.proofs.Common.{◌≡◌, Bool, List, map, sym, ap, ◌∙◌}
use Rattle.std.specs.List.{list_any}
use Rattle.epochs.specs.declared.line.Line.{Line}
use Rattle.epochs.specs.Lines.{LineValues}
use Rattle.epochs.specs.Views.{values_of_line}
use Rattle.epoch_catalog.proofs.Heads.{any_mapped}

-- the live lines pass a test where the catalog's lines pass it by their values
pub any_live : (p : LineValues → Bool) (lines : List Line) (live : List LineValues) (b : Bool) → map values_of_line lines ≡ live → b ≡ list_any (λ l. p (values_of_line l)) lines → b ≡ list_any p live
any_live p lines live b are found = found ∙ sym (any_mapped values_of_line p lines) ∙ ap (list_any p) are
