-- The order of channel names.
use Rattle.std.specs.declared.cmp.Ordering.{Ordering}
use Rattle.std.specs.Ordering.{nat_cmp, ordering_then}
use Rattle.std.specs.Cmp.Lexicographic.{slice_cmp}
use Rattle.channel_globs.specs.declared.nslc.Nslc.{Nslc}

-- by network, station, location and channel, each by its bytes
abbrev pub name_cmp : Nslc → Nslc → Ordering
name_cmp a b =
    ordering_then (slice_cmp nat_cmp a.network b.network)
    (ordering_then (slice_cmp nat_cmp a.station b.station)
    (ordering_then (slice_cmp nat_cmp a.location b.location) (slice_cmp nat_cmp a.channel b.channel)))
