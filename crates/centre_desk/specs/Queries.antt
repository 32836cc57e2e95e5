-- What a query path is asked for.
use Rattle.std.specs.Prelude.{◌≡◌, ◌⊎◌, ℕ, List, [], ◌∷◌, Result, Ok, Err, IsErrOf, Bool, if◌then◌else◌, codes}
use Rattle.std.specs.Str.{bytes_eq}
use Rattle.dataselect.specs.declared.query.DataQuery.{DataQuery}
use Rattle.dataselect.specs.declared.query.Nodata.{Nodata}
use Rattle.dataselect.specs.declared.query.Nodata.TheVariants.{Quiet}
use Rattle.query_parameters.specs.Rows.{Text}
use Rattle.query_parameters.specs.declared.fault.QueryFault.{QueryFault}
use Rattle.query_parameters.specs.declared.fault.QueryFault.TheVariants.{OutOfScope, OutOfMemory}
use Rattle.query_words.proofs.AvailFound as avail
use Rattle.query_words.proofs.EventFound as event
use Rattle.query_words.proofs.GetFound as get
use Rattle.query_words.proofs.Numbers as number
use Rattle.query_words.proofs.PostFound as post
use Rattle.query_words.proofs.StationFound as station
use Rattle.query_words.specs.NumberGet.{seq, from}
use Rattle.query_words.specs.declared.avail.AvailMethod.{AvailMethod}
use Rattle.query_words.specs.declared.avail.AvailMethod.TheVariants as method
use Rattle.query_words.specs.declared.avail.AvailQuery.{AvailQuery}
use Rattle.query_words.specs.declared.event.EventQuery.{EventQuery}
use Rattle.query_words.specs.declared.station.StationQuery.{StationQuery}
use Rattle.desk_words.specs.declared.asking.Wanted.{Wanted}
use Rattle.desk_words.specs.declared.asking.Wanted.TheVariants.{Nothing, Waves, Spans, Extent, Station, Event, Entries}
use Rattle.service_paths.specs.declared.page.Asked.{Asked}
use Rattle.service_paths.specs.declared.page.Asked.TheVariants as asked

-- The query that a query string or a body spells, or its fault: by law there is exactly one of them.
unfoldable pub data_got : Text → Result DataQuery QueryFault
data_got text = (get.get_or_fault text).0

unfoldable pub data_sent : Text → Result DataQuery QueryFault
data_sent body = (post.post_or_fault body).0

unfoldable pub avail_got : AvailMethod → Text → Result AvailQuery QueryFault
avail_got way text = (avail.get_or_fault way text).0

unfoldable pub avail_sent : AvailMethod → Text → Result AvailQuery QueryFault
avail_sent way body = (avail.post_or_fault way body).0

unfoldable pub station_got : Text → Result StationQuery QueryFault
station_got text = (station.get_or_fault text).0

unfoldable pub station_sent : Text → Result StationQuery QueryFault
station_sent body = (station.post_or_fault body).0

unfoldable pub event_got : Text → Result EventQuery QueryFault
event_got text = (event.get_or_fault text).0

-- the sequence number of a command
unfoldable pub seq_got : Text → Result ℕ QueryFault
seq_got text = (number.get_or_fault seq text).0

-- the number of the first entry that is wanted
unfoldable pub from_got : Text → Result ℕ QueryFault
from_got text = (number.get_or_fault from text).0

-- a reader's answer, or want of memory
abbrev pub IsAnswer : {A : Type 0} → Result A QueryFault → Result A QueryFault → Type 0
IsAnswer answer result = IsErrOf result OutOfMemory ⊎ (result ≡ answer)

-- a query as what is wanted
abbrev pub wanted_as : {Q : Type 0} → (Q → Wanted) → Result Q QueryFault → Result Wanted QueryFault
wanted_as want (Ok q) = Ok (want q)
wanted_as want (Err f) = Err f

-- the query of a body, beside a query string of no bytes
abbrev pub beside : {Q : Type 0} → Text → Result Q QueryFault → Result Q QueryFault
beside [] sent = sent
beside (b ∷ query) sent = Err (OutOfScope 1)

-- by POST the body spells the query, and else the query string
abbrev pub by_method : {Q : Type 0} → Bool → Text → Result Q QueryFault → Result Q QueryFault → Result Q QueryFault
by_method posts query got sent = if posts then beside query sent else got

abbrev pub is_post : List ℕ → Bool
is_post way = bytes_eq way (codes "POST")

abbrev pub data_of : List ℕ → Text → Text → Result DataQuery QueryFault
data_of way query body = by_method (is_post way) query (data_got query) (data_sent body)

abbrev pub avail_of : AvailMethod → List ℕ → Text → Text → Result AvailQuery QueryFault
avail_of method way query body = by_method (is_post way) query (avail_got method query) (avail_sent method body)

abbrev pub station_of : List ℕ → Text → Text → Result StationQuery QueryFault
station_of way query body = by_method (is_post way) query (station_got query) (station_sent body)

-- what is wanted by a method, a query string and a body, or the fault of the query; events and entries have no body
abbrev pub wanted_of : Asked → List ℕ → Text → Text → Result Wanted QueryFault
wanted_of asked.Records way query body = wanted_as Waves (data_of way query body)
wanted_of asked.Spans way query body = wanted_as Spans (avail_of method.Spans way query body)
wanted_of asked.Extents way query body = wanted_as Extent (avail_of method.Extent way query body)
wanted_of asked.Stations way query body = wanted_as Station (station_of way query body)
wanted_of asked.Events way query body = wanted_as Event (event_got query)
wanted_of asked.Entries way query body = wanted_as Entries (from_got query)

-- how the query wants to be told that there is nothing
abbrev pub nodata_of : Wanted → Nodata
nodata_of Nothing = Quiet
nodata_of (Waves q) = q.nodata
nodata_of (Spans q) = q.nodata
nodata_of (Extent q) = q.nodata
nodata_of (Station q) = q.nodata
nodata_of (Event q) = q.nodata
nodata_of (Entries n) = Quiet

-- what a question wants: nothing, where the query has a fault
abbrev pub wanted_or_nothing : Result Wanted QueryFault → Wanted
wanted_or_nothing (Ok wanted) = wanted
wanted_or_nothing (Err f) = Nothing
