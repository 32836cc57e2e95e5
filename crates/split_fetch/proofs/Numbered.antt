-- One row more, numbered by its place.
use Rattle.std.proofs.Common.{◌≡◌, ◌+◌, ◌<◌, ◌≤◌, ℕ, List, [], ◌∷◌, ◌++◌, length, drop, get_or, sym, ap, ◌∙◌, subst, arith, length-append}
use Rattle.std.specs.List.{AllByRecursion}
use Rattle.std.proofs.lemmas.List.{map-append, at_drop_more}
use Rattle.mseed_header.specs.declared.row.Row.{Row}
use Rattle.split_fetch.specs.Gathering.{records_of, EntriesRise, IsNumbered}

all_more : (P : Row → Type 0) (rows : List Row) (row : Row) → AllByRecursion P rows → P row → AllByRecursion P (rows ++ row ∷ [])
all_more P [] row all one = (one, tt)
all_more P (r ∷ rows) row all one = (all.0, all_more P rows row all.1 one)

below_more : (n m : ℕ) (rows : List Row) → n ≤ m → AllByRecursion (λ r. r.entry < n) rows → AllByRecursion (λ r. r.entry < m) rows
below_more n m [] h all = tt
below_more n m (r ∷ rows) h all = (let one = all.0 in omega (arith, one, h), below_more n m rows h all.1)

rise_more : (rows : List Row) (row : Row) → EntriesRise rows → AllByRecursion (λ r. r.entry < row.entry) rows
    → EntriesRise (rows ++ row ∷ [])
rise_more [] row rise all = (tt, tt)
rise_more (r ∷ rows) row rise all = (all_more (λ q. r.entry < q.entry) rows row rise.0 all.0, rise_more rows row rise.1 all.1)

pub numbered_more : (rows : List Row) (row : Row) → IsNumbered rows → row.entry ≡ length rows → IsNumbered (rows ++ row ∷ [])
numbered_more rows row is at =
    let longer : length (rows ++ row ∷ []) ≡ length rows + 1 = length-append rows (row ∷ []) in
    let all : AllByRecursion (λ r. r.entry < length rows) rows = is.1 in (
      rise_more rows row is.0 (subst (λ (n : ℕ). AllByRecursion (λ r. r.entry < n) rows) (sym at) all),
      all_more (λ r. r.entry < length (rows ++ row ∷ [])) rows row
          (below_more (length rows) (length (rows ++ row ∷ [])) rows (omega (arith, longer)) all) (omega (arith, at, longer)),
    )

pub records_more : (rows : List Row) (row other : Row) → row.image ≡ other.image → records_of (rows ++ row ∷ []) ≡ records_of rows
    ++ records_of (other ∷ [])
records_more rows row other same = map-append (λ (r : Row). r.image) rows (row ∷ []) ∙ ap (λ (i : List ℕ). records_of rows ++ i ∷ []) same

-- what is left of a list begins with the item at its place
pub opened : (rows : List Row) (i : ℕ) (row : Row) → i < length rows → row ≡ get_or rows i row → drop i rows ≡ row ∷ drop (i + 1) rows
opened rows i row within is = at_drop_more (λ (l : List Row). l) rows i row within ∙ ap (λ (r : Row). r ∷ drop (i + 1) rows) (sym is)
