use Rattle.std.proofs.Common.{◌≤◌, ◌<◌, ◌^◌, length, arith}
use Rattle.std.proofs.Math.Nat.{pow-le-pow_right}
use Rattle.http_wire.proofs.fields.length_in.Goals as goal

pub returns-clause-bound : goal.returns-clause-bound
returns-clause-bound c =
    let short : length c.args.text.now ≤ 18 = omega arith in
    let ten : 0 < 10 = omega arith in
    let most : 10 ^ length c.args.text.now ≤ 10 ^ 18 = pow-le-pow_right ten short in
    omega (arith, most, c.number_of.ensures.bound)
