-- Rows with the same records are put together alike, and the bytes of records, one after another, say which they are.
use Rattle.std.proofs.Common.{◌≡◌, ℕ, Bool, true, false, ◌||◌, cond, List, [], ◌∷◌, ◌++◌, length, take, refl, sym, ap, ap₂, ◌∙◌, subst, arith, length-append}
use Rattle.std.specs.List.{list_any}
use Rattle.std.specs.Ordering.{int_cmp, ordering_then, is_lt}
use Rattle.std.specs.Str.{bytes_eq}
use Rattle.std.proofs.Math.Seq.{take-append_seam}
use Rattle.std.proofs.lemmas.List.{append_cancel_left, map-append}
use Rattle.channel_globs.specs.Names.{name_cmp}
use Rattle.mseed_header.specs.Header.{HasHeader}
use Rattle.mseed_header.specs.Quality.{quality_cmp}
use Rattle.mseed_header.specs.Records.{images_of}
use Rattle.mseed_header.specs.declared.header.Header.{Header}
use Rattle.mseed_header.specs.declared.row.Row.{Row}
use Rattle.mseed_header.proofs.Fronts.{header_in_front, record_header, record_whole, size_bounds}
use Rattle.mseed_header.proofs.Headers.{one_header}
use Rattle.dataselect.specs.Rows.{has_image, new_after, held_rows}
use Rattle.split_fetch.specs.Gathered.{put_behind, put_all_behind}
use Rattle.split_fetch.specs.Gathering.{start_cmp, records_of, gathered}

abbrev pub Same : List Row → List Row → Type 0
Same xs ys = records_of xs ≡ records_of ys

first_same : (x y : Row) (xs ys : List Row) → Same (x ∷ xs) (y ∷ ys) → x.image ≡ y.image
first_same x y xs ys h = let e : x.image ∷ records_of xs ≡ y.image ∷ records_of ys = h in (cc)

rest_same : (x y : Row) (xs ys : List Row) → Same (x ∷ xs) (y ∷ ys) → Same xs ys
rest_same x y xs ys h = let e : x.image ∷ records_of xs ≡ y.image ∷ records_of ys = h in (cc)

none_some : (y : Row) (ys : List Row) → Same [] (y ∷ ys) → ⊥
none_some y ys h = let e : [] ≡ y.image ∷ records_of ys = h in absurd cc

some_none : (x : Row) (xs : List Row) → Same (x ∷ xs) [] → ⊥
some_none x xs h = let e : x.image ∷ records_of xs ≡ [] = h in absurd cc

both_same : (x y : Row) (xs ys : List Row) → x.image ≡ y.image → Same xs ys → Same (x ∷ xs) (y ∷ ys)
both_same x y xs ys h k = ap₂ (λ (a : List ℕ) (l : List (List ℕ)). a ∷ l) h k

pub join_same : (xs ys us vs : List Row) → Same xs ys → Same us vs → Same (xs ++ us) (ys ++ vs)
join_same xs ys us vs h k =
    map-append (λ (r : Row). r.image) xs us ∙ ap₂ (λ (a b : List (List ℕ)). a ++ b) h k ∙ sym (map-append (λ (r : Row). r.image) ys vs)

same_header : (x y : Row) → x.image ≡ y.image → x.header ≡ y.header
same_header x y e = one_header y.image x.header y.header
    (subst (λ (bytes : List ℕ). HasHeader bytes x.header) e (record_header x.image x.header x.head)) (record_header y.image y.header y.head)

same_cmp : (x y z w : Row) → x.image ≡ y.image → z.image ≡ w.image → start_cmp x z ≡ start_cmp y w
same_cmp x y z w e f =
    ap₂ (λ (h g : Header). ordering_then (name_cmp h.name g.name)
    (ordering_then (quality_cmp h.quality g.quality) (int_cmp h.start.micros g.start.micros)))
    (same_header x y e) (same_header z w f)

has_records : (image : List ℕ) (xs : List Row) → has_image image xs ≡ list_any (λ i. bytes_eq i image) (records_of xs)
has_records image [] = refl
has_records image (x ∷ xs) = ap (λ (b : Bool). bytes_eq x.image image || b) (has_records image xs)

after_same : (before other xs ys : List Row) → Same before other → Same xs ys → Same (new_after before xs) (new_after other ys)
after_same before other [] [] h k = refl
after_same before other [] (y ∷ ys) h k = absurd (none_some y ys k)
after_same before other (x ∷ xs) [] h k = absurd (some_none x xs k)
after_same before other (x ∷ xs) (y ∷ ys) h k =
    let e = first_same x y xs ys k in
    let test : has_image x.image before ≡ has_image y.image other =
    has_records x.image before ∙ ap₂ (λ (i : List ℕ) (l : List (List ℕ)). list_any (λ j. bytes_eq j i) l) e h
    ∙ sym (has_records y.image other) in
    join_same (cond (has_image x.image before) [] (x ∷ [])) (cond (has_image y.image other) [] (y ∷ [])) (new_after (before ++ x ∷ []) xs)
    (new_after (other ++ y ∷ []) ys)
    (same_if x y (has_image x.image before) (has_image y.image other) test e)
    (after_same (before ++ x ∷ []) (other ++ y ∷ []) xs ys (join_same before other (x ∷ []) (y ∷ []) h (both_same x y [] [] e refl))
    (rest_same x y xs ys k))
  where
    same_if : (x y : Row) (j k : Bool) → j ≡ k → x.image ≡ y.image → Same (cond j [] (x ∷ [])) (cond k [] (y ∷ []))
    same_if x y true true h e = refl
    same_if x y false false h e = both_same x y [] [] e refl
    same_if x y true false h e = absurd (let f = h in (cc))
    same_if x y false true h e = absurd (let f = h in (cc))

put_same : (xs ys : List Row) (x y : Row) → Same xs ys → x.image ≡ y.image → Same (put_behind start_cmp xs x) (put_behind start_cmp ys y)
put_same [] [] x y h e = both_same x y [] [] e refl
put_same [] (w ∷ ys) x y h e = absurd (none_some w ys h)
put_same (z ∷ xs) [] x y h e = absurd (some_none z xs h)
put_same (z ∷ xs) (w ∷ ys) x y h e =
    let f = first_same z w xs ys h in
    let rest = put_same xs ys x y (rest_same z w xs ys h) e in
    same_if (x ∷ z ∷ xs) (y ∷ w ∷ ys) (z ∷ put_behind start_cmp xs x) (w ∷ put_behind start_cmp ys y) (is_lt (start_cmp x z))
    (is_lt (start_cmp y w)) (ap is_lt (same_cmp x y z w e f))
    (both_same x y (z ∷ xs) (w ∷ ys) e h) (both_same z w (put_behind start_cmp xs x) (put_behind start_cmp ys y) f rest)
  where
    same_if : (a b c d : List Row) (j k : Bool) → j ≡ k → Same a b → Same c d → Same (cond j a c) (cond k b d)
    same_if a b c d true true h s t = s
    same_if a b c d false false h s t = t
    same_if a b c d true false h s t = absurd (let f = h in (cc))
    same_if a b c d false true h s t = absurd (let f = h in (cc))

put_all_same : (done other xs ys : List Row) → Same done other → Same xs ys
    → Same (put_all_behind start_cmp done xs) (put_all_behind start_cmp other ys)
put_all_same done other [] [] h k = h
put_all_same done other [] (y ∷ ys) h k = absurd (none_some y ys k)
put_all_same done other (x ∷ xs) [] h k = absurd (some_none x xs k)
put_all_same done other (x ∷ xs) (y ∷ ys) h k =
    put_all_same (put_behind start_cmp done x) (put_behind start_cmp other y) xs ys (put_same done other x y h (first_same x y xs ys k))
    (rest_same x y xs ys k)

pub gathered_same : (xs ys : List Row) → Same xs ys → Same (gathered xs) (gathered ys)
gathered_same xs ys h = put_all_same [] [] (held_rows xs) (held_rows ys) refl (after_same [] [] xs ys refl h)

pub images_same : (xs ys : List Row) → Same xs ys → images_of xs ≡ images_of ys
images_same [] [] h = refl
images_same [] (y ∷ ys) h = absurd (none_some y ys h)
images_same (x ∷ xs) [] h = absurd (some_none x xs h)
images_same (x ∷ xs) (y ∷ ys) h = ap₂ (λ (a b : List ℕ). a ++ b) (first_same x y xs ys h) (images_same xs ys (rest_same x y xs ys h))

-- the same bytes are the same records
some_bytes : (y : Row) (rest : List ℕ) → [] ≡ y.image ++ rest → ⊥
some_bytes y rest h =
    let size = record_whole y.image y.header y.head in
    let least = (size_bounds y.image y.header (record_header y.image y.header y.head)).0 in
    let n : 0 ≡ length (y.image ++ rest) = ap length h in
    let m = length-append y.image rest in
    absurd (omega (arith, size, least, n, m))

pub records_same : (xs ys : List Row) → images_of xs ≡ images_of ys → Same xs ys
records_same [] [] h = refl
records_same [] (y ∷ ys) h = absurd (some_bytes y (images_of ys) h)
records_same (x ∷ xs) [] h = absurd (some_bytes x (images_of xs) (sym h))
records_same (x ∷ xs) (y ∷ ys) h =
    let header : x.header ≡ y.header =
    one_header (y.image ++ images_of ys) x.header y.header
    (subst (λ (bytes : List ℕ). HasHeader bytes x.header) h (header_in_front x.image (images_of xs) x.header x.head))
    (header_in_front y.image (images_of ys) y.header y.head) in
    let size : length x.image ≡ length y.image = sym (record_whole x.image x.header x.head) ∙ ap (λ (g : Header). g.length) header
    ∙ record_whole y.image y.header y.head in
    let same : x.image ≡ y.image =
    sym (take-append_seam x.image (images_of xs)) ∙ ap (take (length x.image)) h ∙ ap (λ (n : ℕ). take n (y.image ++ images_of ys)) size
    ∙ take-append_seam y.image (images_of ys) in
    both_same x y xs ys same (records_same xs ys (append_cancel_left y.image (images_of xs) (images_of ys)
    (ap (λ (bytes : List ℕ). bytes ++ images_of xs) (sym same) ∙ h)))
