use Rattle.std.proofs.Common.{List, ℕ, ◌++◌, take, drop, ap, ◌∙◌, take-add}
use Rattle.http_wire.proofs.inbox.Inbox.take_piece.Goals as goal

pub returns-clause-took : goal.returns-clause-took
returns-clause-took g c =
    let room = c.take_behind.new.room.items in
    let count = c.self.inside.count in
    let more = c.in_ok-more.more in
    let taken = take more (drop count room) in
    record {
      taken = taken;
      lost = c.in_ok-more.ensures.gave;
      held = take-add count more room ∙ ap (λ (x : List ℕ). x ++ taken) (c.take_behind.ensures.front ∙ c.self.view_is);
    }
