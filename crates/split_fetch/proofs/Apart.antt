-- Rows with different bytes.
use Rattle.std.proofs.Common.{◌≡◌, ℕ, Bool, true, false, ◌||◌, not, ◌&&◌, List, [], ◌∷◌, ◌++◌, filter, cond, refl, sym, ap, ap₂, ◌∙◌, append_assoc, append-nil, Ordering}
use Rattle.std.specs.List.{AllByRecursion}
use Rattle.std.specs.Ordering.{is_lt}
use Rattle.std.specs.Str.{bytes_eq}
use Rattle.std.proofs.lemmas.List.Folds.{list_any-append}
use Rattle.std.proofs.lemmas.Slice.Eq.{bytes_eq-Decides}
use Rattle.mseed_header.specs.declared.row.Row.{Row}
use Rattle.dataselect.specs.Rows.{has_image, new_after, held_rows}
use Rattle.split_fetch.specs.Gathered.{put_behind, put_all_behind}
use Rattle.split_fetch.proofs.Rising.{all_put}

abbrev pub Apart : Row → Row → Type 0
Apart x y = x.image ≡ y.image → ⊥

abbrev pub AreApart : List Row → Type 0
AreApart [] = Unit {0}
AreApart (x ∷ xs) = AllByRecursion (Apart x) xs × AreApart xs

not_equal : (x y : Row) → Apart x y → bytes_eq x.image y.image ≡ false
not_equal x y apart =
    elim (bytes_eq x.image y.image) as (λ b. bytes_eq x.image y.image ≡ b → b ≡ false) [
      | true ↦ λ e. absurd (apart ((bytes_eq-Decides x.image y.image).0 e))
      | false ↦ λ _. refl
    ] refl

unequal : (x y : Row) → bytes_eq x.image y.image ≡ false → Apart x y
unequal x y other same = let yes : bytes_eq x.image y.image ≡ true = (bytes_eq-Decides x.image y.image).1 same in absurd cc

itself : (x : Row) → bytes_eq x.image x.image ≡ true
itself x = (bytes_eq-Decides x.image x.image).1 refl

all_kept : (P : Row → Type 0) (p : Row → Bool) (xs : List Row) → AllByRecursion P xs → AllByRecursion P (filter p xs)
all_kept P p [] all = tt
all_kept P p (x ∷ xs) all =
    let rest = all_kept P p xs all.1 in
    elim (p x) as (λ b. AllByRecursion P (cond b (x ∷ filter p xs) (filter p xs))) [ true ↦ (all.0, rest) | false ↦ rest ]

pub apart_kept : (p : Row → Bool) (xs : List Row) → AreApart xs → AreApart (filter p xs)
apart_kept p [] apart = tt
apart_kept p (x ∷ xs) apart =
    let rest = apart_kept p xs apart.1 in
    elim (p x) as (λ b. AreApart (cond b (x ∷ filter p xs) (filter p xs))) [ true ↦ (all_kept (Apart x) p xs apart.0, rest) | false ↦ rest ]

turned : (x y : Row) → Apart x y → Apart y x
turned x y apart e = apart (sym e)

module _ (cmp : Row → Row → Ordering) where
  apart_put : (ys : List Row) (x : Row) → AreApart ys → AllByRecursion (Apart x) ys → AreApart (put_behind cmp ys x)
  apart_put [] x apart all = (tt, tt)
  apart_put (y ∷ ys) x apart all =
      let rest = apart_put ys x apart.1 all.1 in
      elim (is_lt (cmp x y)) as (λ b. AreApart (cond b (x ∷ y ∷ ys) (y ∷ put_behind cmp ys x))) [
        | true ↦ (all, apart)
        | false ↦ (all_put cmp (Apart y) ys x apart.0 (turned x y all.0), rest)
      ]

  each_put : (done : List Row) (x : Row) (xs : List Row) → AllByRecursion (λ z. AllByRecursion (Apart z) done) xs
      → AllByRecursion (Apart x) xs → AllByRecursion (λ z. AllByRecursion (Apart z) (put_behind cmp done x)) xs
  each_put done x [] all one = tt
  each_put done x (z ∷ zs) all one = (all_put cmp (Apart z) done x all.0 (turned x z one.0), each_put done x zs all.1 one.1)

  pub apart_put_all : (done xs : List Row) → AreApart done → AllByRecursion (λ z. AllByRecursion (Apart z) done) xs → AreApart xs
      → AreApart (put_all_behind cmp done xs)
  apart_put_all done [] apart all more = apart
  apart_put_all done (x ∷ xs) apart all more = apart_put_all (put_behind cmp done x) xs (apart_put done x apart all.0)
      (each_put done x xs all.1 more.0) more.1

all_nothing : (xs : List Row) → AllByRecursion (λ z. AllByRecursion (Apart z) []) xs
all_nothing [] = tt
all_nothing (x ∷ xs) = (tt, all_nothing xs)

pub apart_sorted : (cmp : Row → Row → Ordering) (xs : List Row) → AreApart xs → AreApart (put_all_behind cmp [] xs)
apart_sorted cmp xs apart = apart_put_all cmp [] xs tt (all_nothing xs) apart

-- what is held is apart
or_none : (a b : Bool) → (a || b) ≡ false → (a ≡ false) × (b ≡ false)
or_none true b h = absurd (let e = h in (cc))
or_none false b h = (refl, h)

more_has : (image : List ℕ) (before : List Row) (row : Row) → has_image image (before ++ row ∷ [])
    ≡ (has_image image before || (bytes_eq row.image image || false))
more_has image before row = list_any-append (λ (r : Row). bytes_eq r.image image) before (row ∷ [])

abbrev IsNewTo : List Row → Row → Type 0
IsNewTo before r = has_image r.image before ≡ false

split_new : (before : List Row) (row r : Row) → IsNewTo (before ++ row ∷ []) r → IsNewTo before r × Apart row r
split_new before row r h =
    let p = or_none (has_image r.image before) (bytes_eq row.image r.image || false) (sym (more_has r.image before row) ∙ h) in
    let q = or_none (bytes_eq row.image r.image) false p.1 in
    (p.0, unequal row r q.0)

split_all : (before : List Row) (row : Row) (rs : List Row) → AllByRecursion (IsNewTo (before ++ row ∷ [])) rs
    → AllByRecursion (IsNewTo before) rs × AllByRecursion (Apart row) rs
split_all before row [] all = (tt, tt)
split_all before row (r ∷ rs) all = (let p = split_new before row r all.0 in let rest = split_all before row rs all.1 in
    ((p.0, rest.0), (p.1, rest.1)))

after_apart : (before rows : List Row) → AreApart (new_after before rows) × AllByRecursion (IsNewTo before) (new_after before rows)
after_apart before [] = (tt, tt)
after_apart before (row ∷ rows) =
    let rest = after_apart (before ++ row ∷ []) rows in
    let parts = split_all before row (new_after (before ++ row ∷ []) rows) rest.1 in
    elim (has_image row.image before) as (λ b. has_image row.image before ≡ b
    → AreApart (cond b [] (row ∷ []) ++ new_after (before ++ row ∷ []) rows)
    × AllByRecursion (IsNewTo before) (cond b [] (row ∷ []) ++ new_after (before ++ row ∷ []) rows)) [
      | true ↦ λ _. (rest.0, parts.0)
      | false ↦ λ e. ((parts.1, rest.0), (e, parts.0))
    ] refl

pub held_apart : (rows : List Row) → AreApart (held_rows rows)
held_apart rows = (after_apart [] rows).0

-- of rows that are apart: one is among those that a test keeps exactly where it passes
none_like : (x : Row) (xs : List Row) → AllByRecursion (Apart x) xs → has_image x.image xs ≡ false
none_like x [] all = refl
none_like x (y ∷ ys) all = ap₂ (λ a b. a || b) (not_equal y x (turned x y all.0)) (none_like x ys all.1)

pub all_found : (m : Row → Bool) (xs : List Row) → AreApart xs → AllByRecursion (λ r. has_image r.image (filter m xs) ≡ m r) xs
all_found m [] apart = tt
all_found m (x ∷ xs) apart = (
  elim (m x) as (λ b. has_image x.image (cond b (x ∷ filter m xs) (filter m xs)) ≡ b) [
    | true ↦ ap (λ b. b || has_image x.image (filter m xs)) (itself x)
    | false ↦ none_like x (filter m xs) (all_kept (Apart x) m xs apart.0)
  ],
  others xs apart.0 (all_found m xs apart.1),
)
  where
    others : (rs : List Row) → AllByRecursion (Apart x) rs → AllByRecursion (λ r. has_image r.image (filter m xs) ≡ m r) rs
        → AllByRecursion (λ r. has_image r.image (cond (m x) (x ∷ filter m xs) (filter m xs)) ≡ m r) rs
    others [] all found = tt
    others (r ∷ rs) all found = (
      elim (m x) as (λ b. has_image r.image (cond b (x ∷ filter m xs) (filter m xs)) ≡ m r) [
        | true ↦ ap (λ b. b || has_image r.image (filter m xs)) (not_equal x r all.0) ∙ found.0
        | false ↦ found.0
      ],
      others rs all.1 found.1,
    )

-- what comes after is told apart by all that came before
pub after_joined : (before xs ys : List Row) → new_after before (xs ++ ys) ≡ new_after before xs ++ new_after (before ++ xs) ys
after_joined before [] ys = ap (λ (b : List Row). new_after b ys) (sym (append-nil before))
after_joined before (row ∷ xs) ys =
    let head = cond (has_image row.image before) [] (row ∷ []) in
    ap (λ (rest : List Row). head ++ rest) (after_joined (before ++ row ∷ []) xs ys)
    ∙ sym (append_assoc head (new_after (before ++ row ∷ []) xs) (new_after ((before ++ row ∷ []) ++ xs) ys))
    ∙ ap (λ (b : List Row). (head ++ new_after (before ++ row ∷ []) xs) ++ new_after b ys) (append_assoc before (row ∷ []) xs)

-- of rows that are apart, those that a test keeps and that are new to what came before
module _ (known m : Row → Bool) where
  still_known : (before : List Row) (x : Row) (rs : List Row) → AllByRecursion (Apart x) rs
      → AllByRecursion (λ r. has_image r.image before ≡ known r) rs
      → AllByRecursion (λ r. has_image r.image (before ++ x ∷ []) ≡ known r) rs
  still_known before x [] all same = tt
  still_known before x (r ∷ rs) all same = (
    more_has r.image before x ∙ ap₂ (λ a b. a || (b || false)) same.0 (not_equal x r all.0)
        ∙ or_false (known r),
    still_known before x rs all.1 same.1,
  )
    where
      or_false : (b : Bool) → (b || false) ≡ b
      or_false true = refl
      or_false false = refl

  pub after_kept : (before xs : List Row) → AreApart xs → AllByRecursion (λ r. has_image r.image before ≡ known r) xs
      → new_after before (filter m xs) ≡ filter (λ r. not (known r) && m r) xs
  after_kept before [] apart same = refl
  after_kept before (x ∷ xs) apart same =
      elim (m x) as (λ b. new_after before (cond b (x ∷ filter m xs) (filter m xs))
      ≡ cond (not (known x) && b) (x ∷ filter (λ r. not (known r) && m r) xs) (filter (λ r. not (known r) && m r) xs)) [
        | true ↦
            ap₂ (λ (b : Bool) (l : List Row). cond b [] (x ∷ []) ++ l) same.0
            (after_kept (before ++ x ∷ []) xs apart.1 (still_known before x xs apart.0 same.1))
            ∙ elim (known x) as (λ k. cond k [] (x ∷ []) ++ filter (λ r. not (known r) && m r) xs
            ≡ cond (not k && true) (x ∷ filter (λ r. not (known r) && m r) xs)
            (filter (λ r. not (known r) && m r) xs)) [ true ↦ refl | false ↦ refl ]
        | false ↦
            after_kept before xs apart.1 same.1
            ∙ elim (known x) as (λ k. filter (λ r. not (known r) && m r) xs
            ≡ cond (not k && false) (x ∷ filter (λ r. not (known r) && m r) xs)
            (filter (λ r. not (known r) && m r) xs)) [ true ↦ refl | false ↦ refl ]
      ]

-- what is held of held rows is all of them
filter_true : (xs : List Row) → filter (λ r. true) xs ≡ xs
filter_true [] = refl
filter_true (x ∷ xs) = ap (λ (l : List Row). x ∷ l) (filter_true xs)

all_unknown : (xs : List Row) → AllByRecursion (λ r. has_image r.image [] ≡ false) xs
all_unknown [] = tt
all_unknown (x ∷ xs) = (refl, all_unknown xs)

pub held_twice : (rows : List Row) → held_rows (held_rows rows) ≡ held_rows rows
held_twice rows =
    let held = held_rows rows in
    ap (new_after []) (sym (filter_true held)) ∙ after_kept (λ r. false) (λ r. true) [] held (held_apart rows) (all_unknown held)
    ∙ filter_true held
