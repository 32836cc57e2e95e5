-- The definitions, on paths.
use Rattle.std.proofs.Common.{◌≡◌, refl, codes, Some, None, [], false}
use Rattle.http_replies.specs.declared.reply.Allow.TheVariants.{Both}
use Rattle.service_paths.specs.Paths.{page_of, path_of, query_of, is_allowed}
use Rattle.service_paths.specs.declared.page.Access.TheVariants.{Signed}
use Rattle.service_paths.specs.declared.page.Asked.TheVariants.{Extents, Entries}
use Rattle.service_paths.specs.declared.page.Page.TheVariants.{Query}

-- a row from the midst of the table, and its last
extents : page_of (codes "/fdsnws/availability/1/extentauth") ≡ Some (Query Extents Signed)
unfolding page_of
extents = refl

entries : page_of (codes "/archive/1/entries") ≡ Some (Query Entries Signed)
unfolding page_of
entries = refl

-- no slash is passed over, and no case
slash_behind : page_of (codes "/feed/1/batch/") ≡ None
unfolding page_of
slash_behind = refl

other_case : page_of (codes "/feed/1/Batch") ≡ None
unfolding page_of
other_case = refl

-- the first question mark splits
path_before : path_of (codes "/a?b?c") ≡ codes "/a"
path_before = refl

query_behind : query_of (codes "/a?b?c") ≡ codes "b?c"
query_behind = refl

no_query : query_of (codes "/a") ≡ []
no_query = refl

no_head : is_allowed Both (codes "HEAD") ≡ false
no_head = refl
