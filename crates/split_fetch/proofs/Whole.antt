-- Answers that are parts of one answer, put together, are that answer.
use Rattle.std.proofs.Common.{◌≡◌, ◌+ℤ◌, ℕ, ℤ, pos, Bool, false, cond, List, [], ◌∷◌, length, Some, None, refl, sym, ap, ◌∙◌, arith, eq-eqb}
use Rattle.std.specs.List.{AllByRecursion, flat_map}
use Rattle.std.proofs.lemmas.Int.{ints}
use Rattle.mseed_header.specs.Records.{images_of}
use Rattle.mseed_header.specs.declared.row.Row.{Row}
use Rattle.dataselect.specs.DataBody.{images_at, data_body}
use Rattle.dataselect.specs.Rows.{held_rows}
use Rattle.dataselect.specs.declared.query.DataQuery.{DataQuery}
use Rattle.dataselect.proofs.Wholes.{picked_are_chosen}
use Rattle.split_fetch.specs.Fronts.{fronts_of, first_move}
use Rattle.split_fetch.specs.Gathering.{arrived, gathered, IsGathered, GatherRefuses}
use Rattle.split_fetch.specs.Parts.{IsPart, AreParts}
use Rattle.split_fetch.specs.Windows.{windows_of, IsWindow, Adjoin, Make, in_window}
use Rattle.split_fetch.specs.declared.answer.WindowAnswer.{WindowAnswer}
use Rattle.split_fetch.specs.declared.fault.GatherFault.TheVariants.{Moved, TooLarge}
use Rattle.split_fetch.specs.declared.window.Window.{Window}
use Rattle.split_fetch.proofs.Alike.{Same, join_same, records_same, gathered_same, images_same}
use Rattle.split_fetch.proofs.Cells.{put_together}
use Rattle.split_fetch.proofs.Ordered.{ordered, chosen_images}

-- where all fronts are one, no neighbours differ
pub stands_still : (front : ℕ) (answers : List WindowAnswer) → AllByRecursion (λ answer. answer.front ≡ front) answers
    → first_move (fronts_of answers) ≡ None
stands_still front [] all = refl
stands_still front (a ∷ []) all = refl
stands_still front (a ∷ b ∷ answers) all =
    ap (λ (same : Bool). cond same (first_move (fronts_of (b ∷ answers))) (Some (a.front, b.front)))
    (eq-eqb a.front b.front (all.0 ∙ sym all.1.0))
    ∙ stands_still front (b ∷ answers) all.1

module _ (seen : Row → Bool) (query : DataQuery) (rows : List Row) (none : query.minimum ≡ 0) (any : query.longest ≡ false) where
  abbrev in_order : Window → List Row
  in_order w = ordered seen (in_window w query) rows

  -- the data body of a window
  body_is : (w : Window) → data_body seen (in_window w query) rows ≡ images_of (in_order w)
  body_is w =
      ap (images_at rows) (picked_are_chosen seen (in_window w query) rows none any)
      ∙ chosen_images seen (in_window w query) rows

  arrived_same : (answers : List WindowAnswer) → AllByRecursion (IsPart seen query rows) answers
      → Same (arrived answers) (flat_map in_order (windows_of answers))
  arrived_same [] all = refl
  arrived_same (a ∷ answers) all =
      join_same a.rows (in_order a.window) (arrived answers) (flat_map in_order (windows_of answers))
      (records_same a.rows (in_order a.window) (all.0 ∙ body_is a.window)) (arrived_same answers all.1)

  some_made : (whole : Window) (a : WindowAnswer) (answers : List WindowAnswer) → held_rows rows ≡ rows
      → Make whole.start.micros whole.end.micros (windows_of (a ∷ answers)) → AllByRecursion (IsPart seen query rows) (a ∷ answers)
      → images_of (gathered (arrived (a ∷ answers))) ≡ data_body seen (in_window whole query) rows
  some_made whole a answers held make parts =
      let all = arrived (a ∷ answers) in
      let them = flat_map in_order (windows_of (a ∷ answers)) in
      images_same (gathered all) (gathered them) (gathered_same all them (arrived_same (a ∷ answers) parts))
      ∙ ap images_of (put_together seen query rows whole a.window (windows_of answers) held make)
      ∙ sym (body_is whole)

  made : (whole : Window) (answers : List WindowAnswer) → held_rows rows ≡ rows → IsWindow whole
      → Make whole.start.micros whole.end.micros (windows_of answers) → AllByRecursion (IsPart seen query rows) answers
      → images_of (gathered (arrived answers)) ≡ data_body seen (in_window whole query) rows
  made whole [] held forward make parts = absurd (omega (arith, ints, forward, make))
  made whole (a ∷ answers) held forward make parts = some_made whole a answers held make parts

none_some : (fronts : ℕ × ℕ) → None ≡ Some fronts → ⊥
none_some fronts h = absurd cc

-- windows that make a whole adjoin
pub make_adjoin : (from to : ℤ) (windows : List Window) → Make from to windows → Adjoin windows
make_adjoin from to [] make = tt
make_adjoin from to (w ∷ []) make = let begins = make.0 in let forward = make.1 in omega (arith, ints, begins, forward)
make_adjoin from to (w ∷ v ∷ windows) make = (
  let begins = make.0 in let forward = make.1 in omega (arith, ints, begins, forward),
  make.2.0,
  make_adjoin (w.end.micros +ℤ pos 1) to (v ∷ windows) make.2,
)

module _ (seen : Row → Bool) (query : DataQuery) (rows : List Row) (whole : Window) (answers : List WindowAnswer)
    (are : AreParts seen query rows whole answers) where
  pub whole_made : images_of (gathered (arrived answers)) ≡ data_body seen (in_window whole query) rows
  whole_made = made seen query rows are.no_minimum are.not_longest whole answers are.no_doubles are.forward are.make are.parts

  pub bytes_made : (bytes : List ℕ) → IsGathered answers bytes → bytes ≡ data_body seen (in_window whole query) rows
  bytes_made bytes h = h.bytes_are.are ∙ whole_made

  pub size_made : (n : ℕ) → GatherRefuses answers (TooLarge n) → n ≡ length (data_body seen (in_window whole query) rows)
  size_made n h = h.1.0 ∙ ap length whole_made

  pub never_moved : (a b : ℕ) → GatherRefuses answers (Moved a b) → ⊥
  never_moved a b h = none_some (a, b) (sym (stands_still are.front answers are.one_front) ∙ h)

  pub parts_adjoin : Adjoin (windows_of answers)
  parts_adjoin = make_adjoin whole.start.micros whole.end.micros (windows_of answers) are.make
