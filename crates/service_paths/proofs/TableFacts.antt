-- The table: its paths are plain texts, and no two are the same.
use Rattle.std.proofs.Common.{◌≡◌, ◌∙◌, refl, sym, ap, ℕ, zero, suc, ◌+◌, ◌<◌, ◌≤◌, ◌⊎◌, inl, inr, List, [], ◌∷◌, ◌++◌, length, take, take_all, get_or, find, Option, Some, None, option_map, is_none, Bool, true, false, cond, ◌&&◌, bytes_eq, IsUtf8, subst, arith, true≢false, eq-or-lt_of_le, le_of_suc-le-suc}
use Rattle.std.proofs.lemmas.List.{get_or-map, length-map, take_more}
use Rattle.std.specs.Cmp.Lexicographic.{bytes_decides}
use Rattle.std.specs.List.{list_all}
use Rattle.matchit.specs.Order.{lookup, placed}
use Rattle.matchit.specs.Router.{RouteOf}
use Rattle.matchit.specs.Rows.{RowsOf}
use Rattle.matchit.specs.Seek.{first}
use Rattle.service_paths.specs.Paths.{Row, row, row_of, rows_of, page_in, page_of, routes}
use Rattle.service_paths.specs.Routers.{is_plain, plain_route, HoldsRows}
use Rattle.service_paths.specs.declared.page.Page.{Page}
use Rattle.service_paths.specs.declared.page.Page.TheVariants.{Version}
use Rattle.service_paths.specs.declared.page.Service.TheVariants.{Event}
use Rattle.service_paths.specs.declared.table.Route.{Route}
use Rattle.service_paths.proofs.PlainTexts.{plain-IsUtf8}
use Rattle.service_paths.proofs.StaticInserts.{added, no_route}
use Rattle.service_paths.proofs.StaticLemmas.{first-static}

-- what stands for a row that isn't there
abbrev no_row : Row
no_row = row [] (Version Event)

-- a test passes at each place below
abbrev all_below : (ℕ → Bool) → ℕ → Bool
all_below p zero = true
all_below p (suc n) = p n && all_below p n

both : (a b : Bool) → (a && b) ≡ true → (a ≡ true) × (b ≡ true)
both true b e = (refl, e)
both false b e = absurd (true≢false (sym e))

passes_at : (p : ℕ → Bool) (n i : ℕ) → all_below p n ≡ true → i < n → p i ≡ true
passes_at p zero i e l = absurd (omega arith)
passes_at p (suc n) i e l =
    let parts = both (p n) (all_below p n) e in
    by (eq-or-lt_of_le (le_of_suc-le-suc l)) parts.0 (λ below. passes_at p n i parts.1 below)
  where
    by : (i ≡ n) ⊎ (i < n) → p n ≡ true → (i < n → p i ≡ true) → p i ≡ true
    by (inl same) here before = rw same here
    by (inr below) here before = before below

from_none : {A : Type 0} (o : Option A) → is_none o ≡ true → o ≡ None
from_none None e = refl
from_none (Some x) e = absurd (true≢false (sym e))

-- a path of the table is plain, and no row before it has the same
plain_at : (i : ℕ) → i < length routes → is_plain (get_or routes i no_row).path ≡ true
plain_at i l = passes_at (λ k. is_plain (get_or routes k no_row).path) 15 i refl l

new_at : (i : ℕ) → i < length routes → page_in (take i routes) (get_or routes i no_row).path ≡ None
new_at i l = from_none _ (passes_at (λ k. is_none (page_in (take k routes) (get_or routes k no_row).path)) 15 i refl l)

-- bytes that are no text stand in no table of plain texts
not_text : (rows : List Row) (path : List ℕ) → list_all (λ r. is_plain r.path) rows ≡ true → (IsUtf8 path → ⊥) → page_in rows path ≡ None
not_text [] path plain not = refl
not_text (r ∷ rows) path plain not = by (bytes_eq r.path path) refl (not_text rows path (both _ _ plain).1 not)
  where
    by : (v : Bool) → bytes_eq r.path path ≡ v → page_in rows path ≡ None → option_map (λ (s : Row). s.page) (cond v (Some r) (find (λ (s : Row). bytes_eq s.path path) rows)) ≡ None
    by true same none = absurd (not (subst IsUtf8 ((bytes_decides r.path path).0 same) (plain-IsUtf8 r.path (both _ _ plain).0)))
    by false other none = none

-- and so have no page
pub no_page : (path : List ℕ) → (IsUtf8 path → ⊥) → page_of path ≡ None
unfolding page_of
no_page path not = not_text routes path refl not

-- what a router of the table finds
pub routed : (router : RowsOf (RouteOf Page)) (path : List ℕ) → HoldsRows routes router
    → option_map (λ (r : RouteOf Page). r.value) (first router path) ≡ page_of path
unfolding page_of
routed router path holds = ap (option_map (λ (r : RouteOf Page). r.value)) (first-static router path holds.static) ∙ holds.pages path

-- a table in code that is this one, at a place
module _ (table : List Route) (i : ℕ) (none : Route) where
  row_at : rows_of table ≡ routes → i < 15 → get_or routes i no_row ≡ row_of (get_or table i none)
  row_at same within =
      let as_long : length table ≡ 15 = sym (length-map table row_of) ∙ ap length same in
      sym (ap (λ (rows : List Row). get_or rows i no_row) same) ∙ get_or-map row_of table i none no_row (omega arith)

  pub plain_route_at : rows_of table ≡ routes → i < 15 → is_plain (get_or table i none).path.now ≡ true
  plain_route_at same within = sym (ap (λ (r : Row). is_plain r.path) (row_at same within)) ∙ plain_at i within

  new_row_at : rows_of table ≡ routes → i < 15 → page_in (take i routes) (get_or table i none).path.now ≡ None
  new_row_at same within = sym (ap (λ (r : Row). page_in (take i routes) r.path) (row_at same within)) ∙ new_at i within

  pub new_route_at : rows_of table ≡ routes → i < 15 → (router : RowsOf (RouteOf Page)) → HoldsRows (take i routes) router
      → lookup (get_or table i none).path.now router ≡ None
  new_route_at same within router holds = no_route (take i routes) router (get_or table i none).path.now holds (new_row_at same within)

  pub one_more : rows_of table ≡ routes → i < 15 → (router : RowsOf (RouteOf Page)) → HoldsRows (take i routes) router
      → HoldsRows (take (i + 1) routes) (placed (plain_route (get_or table i none).path.now (get_or table i none).page) router)
  one_more same within router holds =
      let route = get_or table i none in
      let next : take (i + 1) routes ≡ take i routes ++ row_of route ∷ [] = take_more routes i no_row within ∙ ap (λ (r : Row). take i routes ++ r ∷ []) (row_at same within) in
      rw next (added (take i routes) router route.path.now route.page holds (plain_route_at same within) (new_route_at same within router holds))

-- the router before the first row, and behind the last
pub no_rows : HoldsRows [] []
no_rows = record { static = tt; pages = λ path. refl }

pub all_rows : (i : ℕ) (router : RowsOf (RouteOf Page)) → 15 ≤ i → HoldsRows (take i routes) router → HoldsRows routes router
all_rows i router end holds = subst (λ (rows : List Row). HoldsRows rows router) (take_all i routes end) holds
