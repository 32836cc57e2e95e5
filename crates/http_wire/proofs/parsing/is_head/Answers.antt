use Rattle.std.proofs.Common.{◌≡◌, ℕ, ◌/◌, length, subst, ◌∙◌}
use Rattle.httparse.specs.Spans.{RequestOverflows}
use Rattle.http_wire.proofs.Room.{overflow_none}
use Rattle.http_wire.proofs.parsing.is_head.Goals as goal

pub returns : goal.returns
returns c =
    let room : length c.deref_mut.result.now ≡ length c.args.block.now / 3 = c.deref_mut.ensures.len ∙ c.in_ok-spans.ensures.len in
    let P : ℕ → Type 0 = λ n. RequestOverflows n c.args.block.now in
    overflow_none c.args.block.now (subst P room c.in-Err.ensures.no_room)
