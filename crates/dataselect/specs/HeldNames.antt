-- The names of the rows that are held.
use Rattle.std.specs.Prelude.{List, [], map, filter}
use Rattle.list_laws.specs.InOrder.{in_order}
use Rattle.channel_globs.specs.Names.{name_cmp}
use Rattle.channel_globs.specs.declared.nslc.Nslc.{Nslc}
use Rattle.mseed_header.specs.declared.row.Row.{Row}
use Rattle.dataselect.specs.Query.{is_named}
use Rattle.dataselect.specs.declared.query.Selection.{Selection}

-- the names that the selection's four codes match, ascending, each once
abbrev pub names_of : Selection → List Row → List Nslc
names_of s rows = in_order name_cmp [] (filter (is_named s) (map (λ row. row.header.name) rows))
