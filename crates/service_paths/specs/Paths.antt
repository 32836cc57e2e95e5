-- The paths, and what each leads to (FDSN Web Service Specifications 1.2, and of availability
-- fdsnws-availability 1.0).
use Rattle.std.specs.Prelude.{ℕ, ◌==◌, List, [], ◌∷◌, map, find, Option, option_map, Bool, ◌||◌, codes}
use Rattle.std.specs.List.{before_first, after_first}
use Rattle.std.specs.Str.{bytes_eq}
use Rattle.archive_entry.specs.declared.entry.Kind.TheVariants.{Batch, Revise}
use Rattle.http_replies.specs.declared.reply.Allow.{Allow}
use Rattle.http_replies.specs.declared.reply.Allow.TheVariants as allow
use Rattle.service_paths.specs.declared.page.Access.TheVariants.{Open, Signed}
use Rattle.service_paths.specs.declared.page.Asked.{Asked}
use Rattle.service_paths.specs.declared.page.Asked.TheVariants.{Records, Spans, Extents, Stations, Events, Entries}
use Rattle.service_paths.specs.declared.page.Page.{Page}
use Rattle.service_paths.specs.declared.page.Page.TheVariants.{Query, Version, Feed}
use Rattle.service_paths.specs.declared.page.Service.{Service}
use Rattle.service_paths.specs.declared.page.Service.TheVariants.{Dataselect, Availability, Station, Event}
use Rattle.service_paths.specs.declared.table.Route.{Route}

-- a path, and what it leads to
pub record Row : Type 0 where
  pub path : List ℕ
  pub page : Page

-- the row of this path, and of what it leads to
abbrev pub row : List ℕ → Page → Row
row path page = record { path = path; page = page }

-- the row of a route, without where its text lies in memory
abbrev pub row_of : Route → Row
row_of route = row route.path.now route.page

-- the rows of a table in code
abbrev pub rows_of : List Route → List Row
rows_of table = map row_of table

-- the table: each path, and what it leads to
abbrev pub routes : List Row
routes =
    row (codes "/fdsnws/dataselect/1/query") (Query Records Open)
    ∷ row (codes "/fdsnws/dataselect/1/queryauth") (Query Records Signed)
    ∷ row (codes "/fdsnws/availability/1/query") (Query Spans Open)
    ∷ row (codes "/fdsnws/availability/1/extent") (Query Extents Open)
    ∷ row (codes "/fdsnws/availability/1/queryauth") (Query Spans Signed)
    ∷ row (codes "/fdsnws/availability/1/extentauth") (Query Extents Signed)
    ∷ row (codes "/fdsnws/station/1/query") (Query Stations Open)
    ∷ row (codes "/fdsnws/event/1/query") (Query Events Open)
    ∷ row (codes "/fdsnws/dataselect/1/version") (Version Dataselect)
    ∷ row (codes "/fdsnws/availability/1/version") (Version Availability)
    ∷ row (codes "/fdsnws/station/1/version") (Version Station)
    ∷ row (codes "/fdsnws/event/1/version") (Version Event)
    ∷ row (codes "/feed/1/batch") (Feed Batch)
    ∷ row (codes "/feed/1/revise") (Feed Revise)
    ∷ row (codes "/archive/1/entries") (Query Entries Signed)
    ∷ []

-- the page of the row whose path is exactly this one
abbrev pub page_in : List Row → List ℕ → Option Page
page_in rows path = option_map (λ r. r.page) (find (λ r. bytes_eq r.path path) rows)

-- what a path leads to
unfoldable pub page_of : List ℕ → Option Page
page_of path = page_in routes path

-- what a query is asked by: GET or POST, and GET alone for events and for entries
abbrev pub query_methods : Asked → Allow
query_methods Records = allow.Both
query_methods Spans = allow.Both
query_methods Extents = allow.Both
query_methods Stations = allow.Both
query_methods Events = allow.Get
query_methods Entries = allow.Get

-- the methods that a page has: a version is asked for by GET, and the feed takes POST
abbrev pub methods_of : Page → Allow
methods_of (Query asked access) = query_methods asked
methods_of (Version service) = allow.Get
methods_of (Feed kind) = allow.Post

-- the version that a service tells
abbrev pub version_text : Service → List ℕ
version_text Dataselect = codes "1.2.0\n"
version_text Availability = codes "1.0.0\n"
version_text Station = codes "1.2.0\n"
version_text Event = codes "1.2.0\n"

-- the method is one of these, byte for byte (RFC 9110, section 9.1)
abbrev pub is_allowed : Allow → List ℕ → Bool
is_allowed allow.Get method = bytes_eq method (codes "GET")
is_allowed allow.Post method = bytes_eq method (codes "POST")
is_allowed allow.Both method = bytes_eq method (codes "GET") || bytes_eq method (codes "POST")

-- the byte `?`
abbrev pub question_mark : ℕ
question_mark = 63

-- what stands before the first question mark of a target, or all of it
abbrev pub path_of : List ℕ → List ℕ
path_of target = before_first (λ byte. byte == question_mark) target

-- what stands behind the first question mark of a target, or nothing
abbrev pub query_of : List ℕ → List ℕ
query_of target = after_first (λ byte. byte == question_mark) target
