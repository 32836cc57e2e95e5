use Rattle.std.proofs.Common.{None, map, rules, of_calls}
use Rattle.std.proofs.lemmas.Fn.{always_returns_same}
use Rattle.epochs.specs.Views.{values_of_line}
use Rattle.epoch_rules.specs.Catalog.{user_place}
use Rattle.epoch_rules.specs.KeyOrder.{key_parts_of}
use Rattle.epoch_catalog.proofs.OneUser.{user_is}
use Rattle.epoch_catalog.proofs.UsersFound.{no_user, places_rise, user_there}
use Rattle.epoch_catalog.proofs.users.user_in.Goals as goal

pub returns-in-Ok : goal.returns-in-Ok
returns-in-Ok c =
    let name = c.args.name.now in
    let lines = c.args.lines.now in
    let found = c.in-Ok.ensures.position (λ line. user_place name (key_parts_of (values_of_line line))) (always_returns_same _ _ _ (λ a r g k. search (rules, of_calls))) in
    user_is name (map values_of_line lines) c.user_of.result c.requires
    (user_there name lines c.in-Ok.place c.index-lines-place.result c.user_of.result c.requires c.in-Ok.ensures.bound c.index-lines-place.is found c.user_of.ensures)

pub returns-in-Err : goal.returns-in-Err
returns-in-Err c =
    let name = c.args.name.now in
    let lines = c.args.lines.now in
    let parts = c.in-Err.ensures.position (λ line. user_place name (key_parts_of (values_of_line line))) (always_returns_same _ _ _ (λ a r g k. search (rules, of_calls))) in
    user_is name (map values_of_line lines) None c.requires (no_user name lines c.in-Err.field-0 c.requires (parts (places_rise name lines c.requires.rises)))
