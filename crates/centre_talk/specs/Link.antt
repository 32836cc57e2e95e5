-- A source and a sink as one link.
use Rattle.std.specs.Prelude.{◌+◌, min}
use Rattle.streams.specs.View.{StreamView}

-- The bytes that are left are those of the source, and the bytes that were written those of the sink. The count of faults
-- is that of both together, and stays at the greatest number of its type.
abbrev pub joined : StreamView → StreamView → StreamView
joined source sink = record {
  left = source.left;
  written = sink.written;
  faults = min (source.faults + sink.faults) 18_446_744_073_709_551_615;
}
