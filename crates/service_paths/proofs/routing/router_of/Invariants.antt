use Rattle.std.proofs.Common.{take}
use Rattle.service_paths.specs.Paths.{routes}
use Rattle.service_paths.specs.Routers.{HoldsRows}
use Rattle.service_paths.proofs.routing.router_of.Given as goal

-- the rows so far are in the router
abbrev pub invariant-loop-route : goal.invariant-loop-route
invariant-loop-route l = HoldsRows (take l.route-index routes) l.router
