-- Routers whose routes have no parameters.
use Rattle.std.specs.Prelude.{◌≡◌, ℕ, ◌==◌, nat_lt, List, [], ◌∷◌, option_map, Bool, ◌||◌, ◌&&◌, not}
use Rattle.std.specs.List.{list_all}
use Rattle.matchit.specs.Level.{IsText}
use Rattle.matchit.specs.Order.{lookup}
use Rattle.matchit.specs.Route.{open_brace, close_brace}
use Rattle.matchit.specs.Router.{RouteOf}
use Rattle.matchit.specs.Rows.{RowsOf}
use Rattle.service_paths.specs.Paths.{Row, page_in}
use Rattle.service_paths.specs.declared.page.Page.{Page}

-- a byte that stands for itself in a route: ASCII, and no brace
abbrev pub is_plain_byte : ℕ → Bool
is_plain_byte byte = nat_lt byte 128 && not (byte == open_brace || byte == close_brace)

-- a text of such bytes, which is a route without parameters
abbrev pub is_plain : List ℕ → Bool
is_plain text = list_all is_plain_byte text

-- the route of such a text, beside its pattern, which is the text
abbrev pub plain_route : List ℕ → Page → List ℕ × RouteOf Page
plain_route text page = (text, record { pattern = text; text = text; names = []; value = page })

-- no route has a parameter
abbrev pub IsStatic : {K : Type 0} → RowsOf K → Type 0
IsStatic [] = Unit {0}
IsStatic ((pattern, route) ∷ rest) = IsText pattern × IsStatic rest

-- a router of these rows: no route has a parameter, and each path leads to what its row says
pub record HoldsRows (rows : List Row) (router : RowsOf (RouteOf Page)) : Type 0 where
  pub static : IsStatic router
  pub pages : (path : List ℕ) → option_map (λ route. route.value) (lookup path router) ≡ page_in rows path
