use Rattle.std.proofs.Common.{sym}
use Rattle.service_paths.proofs.TableFacts.{no_page}
use Rattle.service_paths.proofs.routing.page_of.Goals as goal

pub returns-in-Err : goal.returns-in-Err
returns-in-Err c = sym (no_page c.args.path.now c.in-Err.ensures.cases.0)
