use Rattle.std.proofs.Common.{◌≡◌, refl, sym, ◌∙◌, arith, pos, ◌+ℤ◌}
use Rattle.std.proofs.lemmas.Int.{ints}
use Rattle.exact_time.specs.SampleTime.{compare_sample}
use Rattle.mseed_header.specs.Header.{RefusesRecord, HasHeader, EndsInTime, start_micros, samples_of}
use Rattle.mseed_header.proofs.Headers.{refused_fields, refused_body, refused_reach}
use Rattle.mseed_header.proofs.Steps.{handed_on_whole}
use Rattle.mseed_header.proofs.read.header_in.Goals as goal
use Rattle.mseed_header.proofs.read.header_in.Goals.{After-ends_in_time}

pub returns-in_err-fields : goal.returns-in_err-fields
returns-in_err-fields c =
    handed_on_whole c.from_residual.result c.in_err-fields.field-0.0 (HasHeader c.args.bytes.now) (RefusesRecord c.args.bytes.now) c.from_residual.ensures.1
    (refused_fields c.in-Some.little c.args.bytes.now _ (omega arith) c.in-Some.ensures.order c.in-Some.ensures.year c.in_err-fields.ensures.err)

pub returns-in_err-body : goal.returns-in_err-body
returns-in_err-body c =
    let fields = c.in_ok-fields.ensures in
    handed_on_whole c.from_residual-in_err-body.result c.in_err-body.field-0.0 (HasHeader c.args.bytes.now) (RefusesRecord c.args.bytes.now) c.from_residual-in_err-body.ensures.1
    (refused_fields c.in-Some.little c.args.bytes.now _ (omega arith) c.in-Some.ensures.order c.in-Some.ensures.year
    (refused_body c.in-Some.little c.args.bytes.now _ c.in_ok-fields.fields.quality c.in_ok-fields.fields.name c.in_ok-fields.ensures.time c.in_ok-fields.ensures.quality c.in_ok-fields.ensures.name c.in_err-body.ensures.err))

-- the start is that of the bytes
start : (c : After-ends_in_time) → c.start_with.result.micros ≡ start_micros c.in-Some.little c.args.bytes.now
start c =
    let sum : c.start_with.result.micros ≡ c.in_ok-fields.fields.start +ℤ c.in_ok-body.body.micros = omega (arith, ints, c.start_with.ensures, c.in_ok-fields.ensures.low, c.in_ok-fields.ensures.high) in
    sum ∙ (λ i. c.in_ok-fields.ensures.start i +ℤ c.in_ok-body.ensures.micros i)

pub returns-then-not-ends_in_time : goal.returns-then-not-ends_in_time
returns-then-not-ends_in_time c =
    let little = c.in-Some.little in
    let bytes = c.args.bytes.now in
    let start_is = start (goal.at.returns-then-not-ends_in_time c).After-ends_in_time in
    let late : EndsInTime (start_micros little bytes) (samples_of little bytes) c.rate_in.result → ⊥ =
    λ h. let more = c.if-not-ends_in_time.ensures.1 (λ e. h ((λ i. compare_sample (sym start_is i) (sym c.u16_of.ensures i) c.rate_in.result (pos 19_880_899_200_000_000)) ∙ e)) in (cc) in
    refused_fields little bytes _ (omega arith) c.in-Some.ensures.order c.in-Some.ensures.year
    (refused_body little bytes _ c.in_ok-fields.fields.quality c.in_ok-fields.fields.name c.in_ok-fields.ensures.time c.in_ok-fields.ensures.quality c.in_ok-fields.ensures.name
    (refused_reach little bytes c.in_ok-body.body.length c.rate_in.result c.in_ok-body.ensures.chain c.in_ok-body.ensures.length c.in_ok-body.ensures.within c.in_ok-body.ensures.whole c.rate_in.ensures late))

pub returns : goal.returns
returns c = record {
  year = c.in-Some.ensures.year;
  time = c.in_ok-fields.ensures.time;
  start = start (goal.at.returns c).After-ends_in_time;
  quality = c.in_ok-fields.ensures.quality;
  name = c.in_ok-fields.ensures.name;
  samples = c.u16_of.ensures;
  rate = c.rate_in.ensures;
  chain = c.in_ok-body.ensures.chain;
  size = c.in_ok-body.ensures.length;
  within = c.in_ok-body.ensures.within;
  whole = c.in_ok-body.ensures.whole;
  reach = c.if-not-ends_in_time.ensures.0 refl;
}
