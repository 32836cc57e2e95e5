use Rattle.service_paths.proofs.StaticInserts.{inserted, refused}
use Rattle.service_paths.proofs.routing.add_route.Goals as goal

pub want_of_memory-requires : goal.want_of_memory-requires
want_of_memory-requires c =
    refused c.args.route.now.path.now c.args.route.now.page c.args.router.now c.insert.new.self c.in-Err.error c.requires.plain
    c.requires.static_rows c.requires.new_path c.in-Err.ensures

pub returns-in-Ok : goal.returns-in-Ok
returns-in-Ok c =
    inserted c.args.route.now.path.now c.args.route.now.page c.args.router.now c.insert.new.self tt c.requires.plain c.in-Ok.ensures
