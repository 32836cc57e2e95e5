use Rattle.std.proofs.Common.{◌≡◌}
use Rattle.link_ports.proofs.tcp_link.TcpLinkSink.put.Given as goal

abbrev pub invariant-waits : goal.invariant-waits
invariant-waits l = l.self.faults ≡ l.fn.self.faults
