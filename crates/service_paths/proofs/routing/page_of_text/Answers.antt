use Rattle.std.proofs.Common.{◌∙◌, sym, ap, Option, option_map}
use Rattle.matchit.specs.Router.{RouteOf}
use Rattle.service_paths.specs.declared.page.Page.{Page}
use Rattle.service_paths.proofs.TableFacts.{routed}
use Rattle.service_paths.proofs.routing.page_of_text.Goals as goal

abbrev value_of : Option (RouteOf Page) → Option Page
value_of o = option_map (λ r. r.value) o

pub returns-in-Ok : goal.returns-in-Ok
returns-in-Ok c = ap value_of (sym c.in-Ok.ensures.found) ∙ routed c.in_ok-router.router c.args.path.now c.in_ok-router.ensures

pub returns : goal.returns
returns c = ap value_of (sym c.in-Err.ensures.missing) ∙ routed c.in_ok-router.router c.args.path.now c.in_ok-router.ensures
