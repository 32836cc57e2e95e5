use Rattle.std.proofs.Common.{[], ◌∷◌, ◌++◌, arith}
use Rattle.std.proofs.lemmas.Int.{ints}
use Rattle.mseed_header.specs.Blockettes.{RefusesChain}
use Rattle.mseed_header.proofs.Chains.{walked_more, walked_chain, walked_size, walked_end, walked_micros, walked_refused}
use Rattle.mseed_header.proofs.Steps.{handed_on}
use Rattle.mseed_header.proofs.blockettes.blockettes_in.Goals as goal

pub returns-in_err-end-clause-err : goal.returns-in_err-end-clause-err
returns-in_err-end-clause-err c =
    handed_on c.from_residual.result c.in_err-end.field-0.0 (RefusesChain c.args.little c.args.bytes.now) c.from_residual.ensures.1
    (walked_refused c.args.little c.args.bytes.now c.chain.invariant.0.0 c.chain.at c.chain.end c.chain.size c.chain.micros c.chain.invariant.0.1 (omega arith) _ c.in_err-end.ensures.err)

pub chain-preserved : goal.chain-preserved
chain-preserved c = (
  (
    c.chain.invariant.0.0 ++ c.chain.at ∷ [],
    walked_more c.args.little c.args.bytes.now c.chain.invariant.0.0 c.chain.at c.chain.end c.chain.size c.chain.micros _ _ _ _ c.chain.invariant.0.1
        (omega arith) c.in_ok-end.ensures.rises c.in_ok-end.ensures.whole c.in_ok-size.ensures.exponent c.u16_of-at-in-chain.ensures c.in_ok-end.ensures.value c.in_ok-size.ensures.value c.micros_with-micros.ensures,
  ),
  c.u16_of-at-in-chain.type_inv,
)

pub returns-clause-chain : goal.returns-clause-chain
returns-clause-chain c = walked_chain c.args.little c.args.bytes.now c.chain.invariant.0.0 c.chain.at c.chain.end c.chain.size c.chain.micros c.chain.invariant.0.1 c.chain-test.false

pub returns-clause-size : goal.returns-clause-size
returns-clause-size c = walked_size c.args.little c.args.bytes.now c.chain.invariant.0.0 c.chain.at c.chain.end c.chain.size c.chain.micros c.chain.invariant.0.1 c.chain-test.false

pub returns-clause-micros : goal.returns-clause-micros
returns-clause-micros c =
    let told = walked_micros c.args.little c.args.bytes.now c.chain.invariant.0.0 c.chain.at c.chain.end c.chain.size c.chain.micros c.chain.invariant.0.1 c.chain-test.false in
    omega (arith, ints, c.unwrap_or.ensures, told)

pub returns-clause-end : goal.returns-clause-end
returns-clause-end c = walked_end c.args.little c.args.bytes.now c.chain.invariant.0.0 c.chain.at c.chain.end c.chain.size c.chain.micros c.chain.invariant.0.1 c.chain-test.false
