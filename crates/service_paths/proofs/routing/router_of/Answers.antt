use Rattle.std.proofs.Common.{[]}
use Rattle.service_paths.specs.declared.table.Route.{Route}
use Rattle.service_paths.specs.declared.page.Access.TheVariants.{Open}
use Rattle.service_paths.specs.declared.page.Asked.TheVariants.{Records}
use Rattle.service_paths.specs.declared.page.Page.TheVariants.{Query}
use Rattle.service_paths.proofs.TableFacts.{plain_route_at, new_route_at, one_more, no_rows, all_rows}
use Rattle.service_paths.proofs.routing.router_of.Goals as goal

-- what stands for a route that isn't there
abbrev no_route : Route
no_route = record { path = record { ref_ptr = (0, 0); now = [] }; page = Query Records Open }

pub loop-route-init : goal.loop-route-init
loop-route-init c = rw c.new-router.ensures no_rows

pub add_route-requires-clause-plain : goal.add_route-requires-clause-plain
add_route-requires-clause-plain c = plain_route_at c.routes-table.result c.loop-route.route-index no_route c.routes-table.ensures c.loop-route-test.true

pub add_route-requires-clause-static_rows : goal.add_route-requires-clause-static_rows
add_route-requires-clause-static_rows c = c.loop-route.invariant.static

pub add_route-requires-clause-new_path : goal.add_route-requires-clause-new_path
add_route-requires-clause-new_path c =
    new_route_at c.routes-table.result c.loop-route.route-index no_route c.routes-table.ensures c.loop-route-test.true c.loop-route.router c.loop-route.invariant

pub loop-route-preserved : goal.loop-route-preserved
loop-route-preserved c =
    rw c.in_ok-add_route.ensures
    (one_more c.routes-table.result c.loop-route.route-index no_route c.routes-table.ensures c.loop-route-test.true c.loop-route.router c.loop-route.invariant)

pub returns : goal.returns
returns c = all_rows c.loop-route.route-index c.loop-route.router c.loop-route-test.false c.loop-route.invariant
