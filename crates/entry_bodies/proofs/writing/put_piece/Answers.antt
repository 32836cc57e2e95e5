use Rattle.std.proofs.Common.{◌≡◌, ◌∙◌, length, ap}
use Rattle.std.specs.Int.{w32, to_be_bytes}
use Rattle.archive_entry.specs.Spelling.{spelling}
use Rattle.entry_bodies.proofs.Written.{put_so}
use Rattle.entry_bodies.proofs.writing.put_piece.Goals as goal

pub returns : goal.returns
returns c =
    let e = c.args.entry.now in
    let same = c.in_ok-spelling.ensures in
    let size : c.to_be_bytes.result ≡ to_be_bytes w32 (length (spelling e)) =
    c.to_be_bytes.ensures ∙ ap (to_be_bytes w32) (c.len.ensures ∙ ap length same) in
    put_so c.extend-2.result c.args.body.now c.extend.new.self c.extend-2.new.self c.to_be_bytes.result c.as_slice.result.now e
    c.in_ok-extend.ensures.ok size (c.as_slice.ensures ∙ same) c.extend-2.ensures.ok
