use Rattle.std.proofs.Common.{◌≡◌, ◌≤◌, Some, inl, inr, refl, sym, ◌∙◌, arith, length}
use Rattle.mseed_header.proofs.Chains.{all_within, last_within}
use Rattle.mseed_header.proofs.Fronts.{long_record}
use Rattle.mseed_header.specs.Blockettes.{EndWithin, end_after, first_at, offsets_of, record_size}
use Rattle.mseed_header.proofs.read.body_in.Goals as goal

pub returns-then-length-blockettes-clause-err : goal.returns-then-length-blockettes-clause-err
returns-then-length-blockettes-clause-err c =
    let little = c.args.little in
    let bytes = c.args.bytes.now in
    let size : record_size little bytes (offsets_of little bytes) ≡ Some c.in-Some.length = sym c.in_ok-blockettes.ensures.size ∙ c.in-Some.is in
    let past : ¬ (EndWithin little bytes c.in-Some.length (offsets_of little bytes)) =
    λ all. omega (arith, last_within little bytes 48 c.in-Some.length (offsets_of little bytes) (long_record little bytes c.in-Some.length c.in_ok-blockettes.ensures.chain size) all, c.in_ok-blockettes.ensures.end, c.if-length-blockettes.true) in
    inr (c.in_ok-blockettes.ensures.chain, inr (rw size refl, inl (rw size past, refl)))

pub returns-then-bytes-length-clause-err : goal.returns-then-bytes-length-clause-err
returns-then-bytes-length-clause-err c =
    let little = c.args.little in
    let bytes = c.args.bytes.now in
    let size : record_size little bytes (offsets_of little bytes) ≡ Some c.in-Some.length = sym c.in_ok-blockettes.ensures.size ∙ c.in-Some.is in
    let chain = c.in_ok-blockettes.ensures.chain in
    let end : end_after little bytes 48 (offsets_of little bytes) ≤ c.in-Some.length = omega (arith, c.in_ok-blockettes.ensures.end, c.if-length-blockettes.false) in
    let within : EndWithin little bytes c.in-Some.length (offsets_of little bytes) = all_within little bytes 48 (first_at little bytes) c.in-Some.length (offsets_of little bytes) chain.chain.sound end in
    let cut : ¬ (c.in-Some.length ≤ length bytes) = λ h. omega (arith, h, c.if-bytes-length.true) in
    inr (chain, inr (rw size refl, inr (rw size within, inl (rw size cut, refl))))

pub returns-clause-within : goal.returns-clause-within
returns-clause-within c =
    let little = c.args.little in
    let bytes = c.args.bytes.now in
    let end : end_after little bytes 48 (offsets_of little bytes) ≤ c.in-Some.length = omega (arith, c.in_ok-blockettes.ensures.end, c.if-length-blockettes.false) in
    all_within little bytes 48 (first_at little bytes) c.in-Some.length (offsets_of little bytes) c.in_ok-blockettes.ensures.chain.chain.sound end
