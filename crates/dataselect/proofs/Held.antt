-- A row more among those that are held.
use Rattle.std.proofs.Common.{◌≡◌, ℕ, ◌+◌, ◌≤◌, Bool, true, false, ◌||◌, if◌then◌else◌, cond, List, [], ◌∷◌, ◌++◌, length, refl, sym, ap, ◌∙◌, arith, append_assoc, append-nil, length-append}
use Rattle.std.specs.Str.{bytes_eq}
use Rattle.std.proofs.lemmas.List.Folds.{list_any-append}
use Rattle.std.proofs.lemmas.Slice.Eq.{bytes_eq-Decides}
use Rattle.mseed_header.specs.declared.row.Row.{Row}
use Rattle.dataselect.specs.Rows.{has_image, with_row, with_rows, new_after, held_rows}

-- what comes after is told apart by all that came before
after-append : (before xs ys : List Row) → new_after before (xs ++ ys) ≡ new_after before xs ++ new_after (before ++ xs) ys
after-append before [] ys = ap (λ (b : List Row). new_after b ys) (sym (append-nil before))
after-append before (row ∷ xs) ys =
    let head = if has_image row.image before then [] else row ∷ [] in
    ap (λ (rest : List Row). head ++ rest) (after-append (before ++ row ∷ []) xs ys)
    ∙ sym (append_assoc head (new_after (before ++ row ∷ []) xs) (new_after ((before ++ row ∷ []) ++ xs) ys))
    ∙ ap (λ (b : List Row). (head ++ new_after (before ++ row ∷ []) xs) ++ new_after b ys) (append_assoc before (row ∷ []) xs)

same_bytes : (xs ys : List ℕ) → bytes_eq xs ys ≡ true → xs ≡ ys
same_bytes xs ys h = (bytes_eq-Decides xs ys).0 h

-- one row more: it is kept (k says it isn't), it has the bytes or not (s), and so have those before (b)
one_kept : (k s b n r : Bool) → ((b || (s || false)) || n) ≡ ((b || (s || false)) || r) → (k ≡ true → s ≡ true → b ≡ true)
    → (b || (cond k false (s || false) || n)) ≡ (b || (s || r))
one_kept k s true n r more known = refl
one_kept true true false n r more known = absurd (let e = known refl refl in (cc))
one_kept true false false n r more known = more
one_kept false true false n r more known = refl
one_kept false false false n r more known = more

head_has : (image : List ℕ) (row : Row) (k : Bool) → has_image image (cond k [] (row ∷ [])) ≡ cond k false (bytes_eq row.image image || false)
head_has image row true = refl
head_has image row false = refl

-- the rows that are kept have the bytes of all that came
has_kept : (image : List ℕ) (before rows : List Row) → (has_image image before || has_image image (new_after before rows)) ≡ (has_image image before || has_image image rows)
has_kept image before [] = refl
has_kept image before (row ∷ rows) =
    let known = has_image row.image before in
    let here = bytes_eq row.image image in
    let rest = new_after (before ++ row ∷ []) rows in
    let longer : has_image image (before ++ row ∷ []) ≡ (has_image image before || (here || false)) = list_any-append (λ (r : Row). bytes_eq r.image image) before (row ∷ []) in
    let more : ((has_image image before || (here || false)) || has_image image rest) ≡ ((has_image image before || (here || false)) || has_image image rows) =
    ap (λ b. b || has_image image rest) (sym longer) ∙ has_kept image (before ++ row ∷ []) rows ∙ ap (λ b. b || has_image image rows) longer in
    let split : has_image image (cond known [] (row ∷ []) ++ rest) ≡ (cond known false (here || false) || has_image image rest) =
    list_any-append (λ (r : Row). bytes_eq r.image image) (cond known [] (row ∷ [])) rest ∙ ap (λ b. b || has_image image rest) (head_has image row known) in
    ap (λ b. has_image image before || b) split
    ∙ one_kept known here (has_image image before) (has_image image rest) (has_image image rows) more
    (λ k same. ap (λ (xs : List ℕ). has_image xs before) (sym (same_bytes row.image image same)) ∙ k)

held_has : (image : List ℕ) (rows : List Row) → has_image image (held_rows rows) ≡ has_image image rows
held_has image rows = has_kept image [] rows

put_if_new : (rows : List Row) (row : Row) (k : Bool) → rows ++ (cond k [] (row ∷ []) ++ []) ≡ cond k rows (rows ++ row ∷ [])
put_if_new rows row true = append-nil rows
put_if_new rows row false = refl

-- one row more
pub held_more : (rows : List Row) (row : Row) → held_rows (rows ++ row ∷ []) ≡ with_row (held_rows rows) row
held_more rows row =
    after-append [] rows (row ∷ []) ∙ put_if_new (held_rows rows) row (has_image row.image rows)
    ∙ ap (λ (k : Bool). cond k (held_rows rows) (held_rows rows ++ row ∷ [])) (sym (held_has row.image rows))

length_if : (rows : List Row) (row : Row) (k : Bool) → length (cond k rows (rows ++ row ∷ [])) ≤ length rows + 1
length_if rows row true = omega arith
length_if rows row false = omega (arith, length-append rows (row ∷ []))

pub length_with : (rows : List Row) (row : Row) → length (with_row rows row) ≤ length rows + 1
length_with rows row = length_if rows row (has_image row.image rows)

pub length_all : (rows more : List Row) → length (with_rows rows more) ≤ length rows + length more
length_all rows [] = omega arith
length_all rows (row ∷ more) = omega (arith, length_all (with_row rows row) more, length_with rows row)

-- some rows more
pub held_all : (rows more : List Row) → with_rows (held_rows rows) more ≡ held_rows (rows ++ more)
held_all rows [] = ap held_rows (sym (append-nil rows))
held_all rows (row ∷ more) =
    ap (λ held. with_rows held more) (sym (held_more rows row))
    ∙ held_all (rows ++ row ∷ []) more
    ∙ ap held_rows (append_assoc rows (row ∷ []) more)
