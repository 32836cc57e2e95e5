use Rattle.std.proofs.Common.{◌≡◌, ℤ, pos, ◌<ℤ◌, ap, ◌∙◌, arith}
use Rattle.std.specs.Int.{int_min}
use Rattle.std.proofs.lemmas.Int.{ints}
use Rattle.exact_time.specs.SampleTime.{floor_at}
use Rattle.availability.proofs.Lasts.{last_moment_before}
use Rattle.availability.proofs.spans.last_moment.Goals as goal

least : (f : ℤ) → f <ℤ pos 23_068_108_800_000_000 → int_min f (pos 9_223_372_036_854_775_807) ≡ f
least f h = grind (arith, ints)

pub returns : goal.returns
returns c =
    let last = c.last.ensures in
    let micros =
    c.floor.ensures.value
    ∙ ap (λ f. int_min f (pos 9_223_372_036_854_775_807)) (λ i. floor_at (last.start i).micros (last.index i) (last.rate i))
    ∙ least _ (last_moment_before c.args.row.now) in
    λ i. record { micros = micros i }
