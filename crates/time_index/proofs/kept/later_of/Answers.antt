use Rattle.std.proofs.Common.{◌≡◌, ◌∙◌, pos, ◌*ℤ◌, sym, ap}
use Rattle.std.specs.Ordering.{int_cmp, ordering_then, is_lt}
use Rattle.exact_time.specs.SampleTime.{sample_micros, sample_parts}
use Rattle.time_index.specs.Kept.{mark_cmp}
use Rattle.time_index.proofs.KeptOrder.{micros_same, is_less, no_less}
use Rattle.time_index.proofs.kept.later_of.Goals as goal

pub returns-then-is_lt : goal.returns-then-is_lt
returns-then-is_lt c =
    let a = c.args.a in
    let b = c.args.b in
    let rate = c.args.rate in
    let one = c.time_of.ensures in
    let two = c.time_of-2.ensures in
    let order : c.then.result ≡ mark_cmp rate a b =
    c.then.ensures
    ∙ (λ i. ordering_then
    ((c.cmp_times-times.ensures
    ∙ (λ j. int_cmp (sample_micros (one.start j).micros (one.k j) (one.rate j) *ℤ pos (sample_parts (two.rate j))) (sample_micros (two.start j).micros (two.k j) (two.rate j) *ℤ pos (sample_parts (one.rate j))))
    ∙ (λ j. int_cmp (micros_same a.start.micros a.k rate j *ℤ pos (sample_parts rate)) (micros_same b.start.micros b.k rate j *ℤ pos (sample_parts rate)))) i)
    (c.cmp.ensures i)) in
    is_less (mark_cmp rate a b) a b (sym (ap is_lt order) ∙ sym c.is_lt.ensures ∙ c.if-is_lt.true)

pub returns-else-is_lt : goal.returns-else-is_lt
returns-else-is_lt c =
    let a = c.args.a in
    let b = c.args.b in
    let rate = c.args.rate in
    let one = c.time_of.ensures in
    let two = c.time_of-2.ensures in
    let order : c.then.result ≡ mark_cmp rate a b =
    c.then.ensures
    ∙ (λ i. ordering_then
    ((c.cmp_times-times.ensures
    ∙ (λ j. int_cmp (sample_micros (one.start j).micros (one.k j) (one.rate j) *ℤ pos (sample_parts (two.rate j))) (sample_micros (two.start j).micros (two.k j) (two.rate j) *ℤ pos (sample_parts (one.rate j))))
    ∙ (λ j. int_cmp (micros_same a.start.micros a.k rate j *ℤ pos (sample_parts rate)) (micros_same b.start.micros b.k rate j *ℤ pos (sample_parts rate)))) i)
    (c.cmp.ensures i)) in
    no_less (mark_cmp rate a b) a b (sym (ap is_lt order) ∙ sym c.is_lt.ensures ∙ c.if-is_lt.false)
