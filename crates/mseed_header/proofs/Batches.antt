-- One record more of a batch, and the first that is refused.
use Rattle.std.proofs.Common.{◌≡◌, ◌≢◌, ◌==◌, true, false, ℕ, ◌+◌, ◌-◌, ◌≤◌, List, [], ◌∷◌, ◌++◌, length, drop, Some, sym, ap, ◌∙◌, arith, subst, append_assoc, length-append, append-nil, inl, inr}
use Rattle.std.specs.List.{slice_get}
use Rattle.std.proofs.Math.Seq.{drop-append_seam}
use Rattle.std.proofs.lemmas.Bool.{cases_lt, eqb-true}
use Rattle.std.proofs.lemmas.Option.{slice_get_within}
use Rattle.std.proofs.lemmas.Grind.{flat_map-append}
use Rattle.list_laws.proofs.Places.{get_before, get_last}
use Rattle.exact_time.specs.declared.moment.Moment.{Moment}
use Rattle.mseed_header.specs.declared.header.RecordFault.{RecordFault}
use Rattle.mseed_header.specs.declared.row.Row.{Row}
use Rattle.mseed_header.proofs.Fronts.{size_bounds, record_header, record_whole}
use Rattle.mseed_header.specs.Header.{RefusesRecord}
use Rattle.mseed_header.specs.Records.{images_of, IsPlaced, IsFirstBad}

-- an image has 65,536 bytes at most
pub image_size : (row : Row) → length row.image ≤ 65_536
image_size row = omega (arith, size_bounds row.image row.header (record_header row.image row.header row.head), record_whole row.image row.header row.head)

-- the record behind the rows that is refused is the first
pub first_bad : (bytes rest : List ℕ) (rows : List Row) (fault : RecordFault) → bytes ≡ images_of rows ++ rest → rest ≢ [] → RefusesRecord rest fault
    → IsFirstBad bytes (length bytes - length rest) fault
first_bad bytes rest rows fault split some refused =
    let sizes : length bytes ≡ length (images_of rows) + length rest = ap length split ∙ length-append (images_of rows) rest in
    let at : length bytes - length rest ≡ length (images_of rows) = omega arith in
    let left : drop (length bytes - length rest) bytes ≡ rest = ap (λ n. drop n bytes) at ∙ ap (drop (length (images_of rows))) split ∙ drop-append_seam (images_of rows) rest in
    record {
      before = rows;
      split = split ∙ ap (λ (xs : List ℕ). images_of rows ++ xs) (sym left);
      offset = at;
      some = (λ e. some (sym left ∙ e));
      refused = (let P : List ℕ → Type 0 = λ xs. RefusesRecord xs fault in subst P (sym left) refused);
    }

-- the images with one row more
pub images_more : (bytes rest image after : List ℕ) (rows : List Row) (row : Row) → bytes ≡ images_of rows ++ rest → row.image ≡ image → image ++ after ≡ rest
    → bytes ≡ images_of (rows ++ row ∷ []) ++ after
images_more bytes rest image after rows row split is cut =
    split ∙ ap (λ (xs : List ℕ). images_of rows ++ xs) (sym cut ∙ ap (λ (xs : List ℕ). xs ++ after) (sym is ∙ sym (append-nil row.image))) ∙ sym (append_assoc (images_of rows) (row.image ++ []) after)
    ∙ ap (λ (xs : List ℕ). xs ++ after) (sym (flat_map-append (λ (r : Row). r.image) rows (row ∷ [])))

-- the places with one row more
pub placed_more : (entry : ℕ) (moment : Moment) (rows : List Row) (row : Row) → ((i : ℕ) (r : Row) → slice_get rows i ≡ Some r → IsPlaced entry moment i r) → IsPlaced entry moment (length rows) row
    → (i : ℕ) (r : Row) → slice_get (rows ++ row ∷ []) i ≡ Some r → IsPlaced entry moment i r
placed_more entry moment rows row all here i r e =
    elim (cases_lt i (length rows)) [
      | inl lt ↦ all i r (sym (get_before rows row i lt) ∙ e)
      | inr ge ↦
          let within = slice_get_within (rows ++ row ∷ []) i r e in
          let at : i ≡ length rows = omega (arith, within, length-append rows (row ∷ [])) in
          let same : Some row ≡ Some r = sym (get_last rows row) ∙ ap (slice_get (rows ++ row ∷ [])) (sym at) ∙ e in
          let is : row ≡ r = cc in
          let P : ℕ → Row → Type 0 = λ k q. IsPlaced entry moment k q in
          subst (λ (k : ℕ). P k r) (sym at) (subst (λ (q : Row). P (length rows) q) is here)
    ]

pub some_left : (xs : List ℕ) → (length xs == 0) ≡ false → xs ≢ []
some_left [] h e = cc
some_left (x ∷ xs) h e = cc

-- the rows are all of the bytes where none is left
pub none_left : (bytes rest : List ℕ) (rows : List Row) → bytes ≡ images_of rows ++ rest → (length rest == 0) ≡ true → bytes ≡ images_of rows
none_left bytes [] rows split h = split ∙ append-nil (images_of rows)
none_left bytes (x ∷ rest) rows split h = let none = eqb-true (length (x ∷ rest)) 0 h in absurd (omega arith)

-- no more rows than bytes
pub rows_fit : (rows : List Row) → length rows ≤ length (images_of rows)
rows_fit [] = omega arith
rows_fit (row ∷ rows) =
    omega (arith, rows_fit rows, size_bounds row.image row.header (record_header row.image row.header row.head), record_whole row.image row.header row.head, length-append row.image (images_of rows))
