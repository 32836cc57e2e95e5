use Rattle.std.proofs.Common.{sym, subst, ◌∙◌, arith}
use Rattle.exact_time.proofs.Clock.{since_1970, before_2600}
use Rattle.mseed_header.specs.Octets.{AreOctets}
use Rattle.archive_entry.proofs.Readings.{batch_rows_is}
use Rattle.archive_state.proofs.Absorbs.{rows_none}
use Rattle.archive_state.proofs.state.rows_in.Goals as goal

pub cut_body-requires-clause-since_1970 : goal.cut_body-requires-clause-since_1970
cut_body-requires-clause-since_1970 c = since_1970 c.args.moment c.requires.clock

pub cut_body-requires-clause-before_2600 : goal.cut_body-requires-clause-before_2600
cut_body-requires-clause-before_2600 c = before_2600 c.args.moment c.requires.clock

pub returns-in-Ok : goal.returns-in-Ok
returns-in-Ok c =
    let octets : AreOctets c.args.body.now = subst AreOctets c.requires.same (λ i. omega (arith, c.type_inv.bytes i)) in
    sym (batch_rows_is c.args.body.now c.args.number c.args.moment c.in-Ok.rows octets c.requires.clock c.in-Ok.ensures.rows)

pub returns-in-Err-Bad : goal.returns-in-Err-Bad
returns-in-Err-Bad c =
    let octets : AreOctets c.args.body.now = subst AreOctets c.requires.same (λ i. omega (arith, c.type_inv.bytes i)) in
    let refused = rw c.in-Err-Bad.field-0-is at c.in-Err-Bad.ensures.refused in
    c.new.ensures ∙ sym (rows_none c.args.body.now c.args.number c.args.moment _ _ octets c.requires.clock refused)
