use Rattle.std.proofs.Common.{◌≡◌, ◌∙◌, pos}
use Rattle.exact_time.specs.SampleTime.{compare_sample}
use Rattle.mseed_header.proofs.Starts.{not_later, sample_free}
use Rattle.mseed_header.proofs.read.ends_in_time.Goals as goal

pub returns : goal.returns
returns c =
    let h = c.args.header.now in
    let free = sample_free h.start.micros h.samples h.rate (pos 19_880_899_200_000_000) in
    let start = c.next.ensures.start in
    let rate = c.next.ensures.rate in
    let index = c.next.ensures.index in
    let same : c.cmp_sample_time.result ≡ compare_sample h.start.micros h.samples h.rate (pos 19_880_899_200_000_000) =
    c.cmp_sample_time.ensures ∙ (λ i. compare_sample (start i).micros (index i) (rate i) (pos 19_880_899_200_000_000)) ∙ free in
    rw (← same) (not_later c.cmp_sample_time.result c.ne.result c.ne.ensures)
