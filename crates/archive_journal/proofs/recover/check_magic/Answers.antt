use Rattle.std.proofs.Common.{inl, inr, arith}
use Rattle.disk_model.specs.View.{file_of}
use Rattle.archive_journal.proofs.Heads.{begins_with_magic, other_magic}
use Rattle.archive_journal.proofs.recover.check_magic.Goals as goal
use Rattle.archive_journal.proofs.recover.check_magic.Goals.{then-count-lt17-via-then-count-lt17, then-count-lt17-via-else-count-lt17+then-not-starts_with}

pub returns-then-count-lt17-clause-magic : goal.returns-then-count-lt17-clause-magic
returns-then-count-lt17-clause-magic g c tells =
    let file = file_of (g.D.Disk.view c.args.disk.now) in
    let head = c.read.new.into in
    let read = c.in_ok-count.ensures.bytes tells in
    elim c.then-count-lt17.branch [
      | then-count-lt17-via-then-count-lt17 w ↦ inl (omega (arith, read.count_is, w.if-count-lt17))
      | then-count-lt17-via-else-count-lt17+then-not-starts_with w ↦ inr (other_magic file head c.in_ok-count.count read w.if-count-lt17.false w.starts_with.result w.starts_with.ensures.value w.if-not-starts_with.true)
    ]

pub returns-clause-magic : goal.returns-clause-magic
returns-clause-magic g c tells =
    let file = file_of (g.D.Disk.view c.args.disk.now) in
    let read = c.in_ok-count.ensures.bytes tells in
    let found = begins_with_magic file c.read.new.into c.in_ok-count.count read c.if-count-lt17.false c.starts_with.result c.starts_with.ensures.value c.if-not-starts_with.false in
    record { long = found.0; begins = found.1 }
