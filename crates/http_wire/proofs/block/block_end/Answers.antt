use Rattle.std.proofs.Common.{length, arith, refl}
use Rattle.std.proofs.lemmas.Bool.{false≢true}
use Rattle.http_wire.proofs.BlockSteps.{one_more, found_at, none_to}
use Rattle.http_wire.proofs.block.block_end.Goals as goal

pub returns-then-ends_block-clause-found : goal.returns-then-ends_block-clause-found
returns-then-ends_block-clause-found c = found_at c.args.text.now c.places.place (omega arith) c.places.invariant.clear (c.if-ends_block.ensures.0 refl)

pub places-preserved : goal.places-preserved
places-preserved c = record {
  within = omega arith;
  clear = one_more c.args.text.now c.places.place c.places.invariant.clear (λ e. absurd (false≢true (c.if-ends_block.ensures.1 e)));
}

pub returns-clause-none : goal.returns-clause-none
returns-clause-none c = none_to c.args.text.now (length c.args.text.now) c.places.place (omega arith) c.places.invariant.clear
