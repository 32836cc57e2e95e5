-- Selection lines, and the selections so far.
use Rattle.std.proofs.Common.{◌≡◌, ℕ, ◌≤◌, true, List, [], ◌∷◌, ◌++◌, Option, length, map, refl, ◌∙◌, arith, slice_index_or}
use Rattle.std.specs.Borrow.{Bor}
use Rattle.exact_time.specs.declared.moment.Moment.{Moment}
use Rattle.dataselect.specs.declared.query.Selection.{Selection}
use Rattle.query_parameters.specs.Bodies.{Numbered, Fields, limit_text, AreFields, IsSelection, TakesSelection, AreSelections}
use Rattle.query_parameters.specs.Gets.{IsLimit}
use Rattle.query_parameters.specs.Extracts.{is_backwards}
use Rattle.query_parameters.specs.FirstRefusals.{AreTaken}
use Rattle.query_parameters.specs.Rows.{Text}
use Rattle.query_parameters.specs.Selecting.{HasNone, IsWindowPair, line_fault, RefusesRest}
use Rattle.query_parameters.specs.declared.words.ValueFault.{ValueFault}
use Rattle.query_parameters.specs.declared.words.ValueFault.TheVariants as fault
use Rattle.query_parameters.proofs.OneGet.{one_limit, not_backwards}
use Rattle.query_parameters.proofs.Said.{backwards}

abbrev Slice : Type 0
Slice = Bor (List ℕ)

abbrev at : List Slice → ℕ → Text
at xs i = (slice_index_or xs i (record { ref_ptr = (0, 0); now = [] })).now

-- a list of six elements
pub six_are : (xs : List Slice) → 6 ≤ length xs → length xs ≤ 6 → map (λ (x : Slice). x.now) xs ≡ at xs 0 ∷ at xs 1 ∷ at xs 2 ∷ at xs 3 ∷ at xs 4 ∷ at xs 5 ∷ []
six_are (a ∷ b ∷ c ∷ d ∷ e ∷ f ∷ []) least most = refl
six_are [] least most = absurd (omega arith)
six_are (a ∷ []) least most = absurd (omega arith)
six_are (a ∷ b ∷ []) least most = absurd (omega arith)
six_are (a ∷ b ∷ c ∷ []) least most = absurd (omega arith)
six_are (a ∷ b ∷ c ∷ d ∷ []) least most = absurd (omega arith)
six_are (a ∷ b ∷ c ∷ d ∷ e ∷ []) least most = absurd (omega arith)
six_are (a ∷ b ∷ c ∷ d ∷ e ∷ f ∷ g ∷ xs) least most = absurd (omega arith)

-- limits that are backwards have no window
pub no_window : (f : Fields) (start end : Option Moment) → IsLimit (limit_text f.start) start → IsLimit (limit_text f.end) end → is_backwards start end ≡ true
    → (w : Option Moment × Option Moment) → IsWindowPair f w → ⊥
no_window f start end s e turned w h =
    let b = backwards start end turned in
    let first = one_limit (limit_text f.start) w.0 start h.start_is s ∙ b.2 in
    let second = one_limit (limit_text f.end) w.1 end h.end_is e ∙ b.3 in
    not_backwards w.0 w.1 b.0 b.1 first second h.in_time b.4

-- fields without a window spell no selection
pub no_spelling : (f : Fields) (why : ValueFault) → HasNone (IsWindowPair f) why → HasNone (AreFields f) why
no_spelling f fault.Value h = λ s k. h (s.start, s.end) k.window
no_spelling f fault.OutOfScope h = h
no_spelling f fault.OutOfMemory h = tt

-- one selection more
pub selections_more : (ls : List Numbered) (ss : List Selection) (l : Numbered) (s : Selection) → AreSelections ls ss → IsSelection l.text s → AreSelections (ls ++ l ∷ []) (ss ++ s ∷ [])
selections_more [] [] l s all is = (is, tt)
selections_more [] (t ∷ ss) l s all is = absurd all
selections_more (k ∷ ls) [] l s all is = absurd all
selections_more (k ∷ ls) (t ∷ ss) l s all is = (all.0, selections_more ls ss l s all.1 is)

-- lines with selections are taken
pub selections_taken : (before ls : List Numbered) (ss : List Selection) → AreSelections ls ss → AreTaken TakesSelection before ls
selections_taken before [] [] all = tt
selections_taken before [] (s ∷ ss) all = absurd all
selections_taken before (l ∷ ls) [] all = absurd all
selections_taken before (l ∷ ls) (s ∷ ss) all = ((s, all.0), selections_taken (before ++ l ∷ []) ls ss all.1)

pub selections_length : (ls : List Numbered) (ss : List Selection) → AreSelections ls ss → length ls ≡ length ss
selections_length [] [] all = refl
selections_length [] (s ∷ ss) all = absurd all
selections_length (l ∷ ls) [] all = absurd all
selections_length (l ∷ ls) (s ∷ ss) all = let e = selections_length ls ss all.1 in omega (arith, e)

-- the first wrong line
pub rest_refused : (before : List Numbered) (l : Numbered) (after : List Numbered) (ss : List Selection) → AreSelections before ss → (why : ValueFault) → HasNone (IsSelection l.text) why
    → RefusesRest (before ++ l ∷ after) (line_fault why l.number)
rest_refused before l after ss all fault.Value h = record { before = before; here = l; after = after; split = refl; taken = selections_taken [] before ss all; refused = (refl, h) }
rest_refused before l after ss all fault.OutOfScope h = absurd h
rest_refused before l after ss all fault.OutOfMemory h = tt
