-- Revision lines, without where they lie in memory.
use Rattle.std.specs.Prelude.{List, map, Result, Ok, Err}
use Rattle.epochs.specs.declared.fault.RevisionFault.{RevisionFault}
use Rattle.epochs.specs.declared.line.Line.{Line}
use Rattle.epochs.specs.declared.line.Line.TheVariants.{Net, Sta, Cha, Evt, Rst, Grt, Usr, Wdr, Del}
use Rattle.epochs.specs.Lines.{LineValues}
use Rattle.epochs.specs.Values.{network_line, station_line, channel_line, event_line, restriction_line, grant_line, user_line, withdrawal_line}
use Rattle.epochs.specs.Keys.{deletion_line}

abbrev pub values_of_line : Line → LineValues
values_of_line (Net n) = network_line n.network n.description n.times
values_of_line (Sta s) = station_line s.network s.station s.position s.site s.times
values_of_line (Cha c) = channel_line c.name c.position c.sensor c.response c.times
values_of_line (Evt e) = event_line e.id e.time e.hypocentre e.attribution e.magnitude
values_of_line (Rst r) = restriction_line r.channels r.times
values_of_line (Grt g) = grant_line g.user g.channels g.times
values_of_line (Usr u) = user_line u.name u.ha1 u.roles
values_of_line (Wdr w) = withdrawal_line w.channels w.times w.upto
values_of_line (Del d) = deletion_line d.key

-- what the reader of a revision answers
abbrev pub values_of_answer : Result (List Line) RevisionFault → Result (List LineValues) RevisionFault
values_of_answer (Ok lines) = Ok (map values_of_line lines)
values_of_answer (Err fault) = Err fault
