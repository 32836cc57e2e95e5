use Rattle.std.proofs.Common.{ℕ, ◌+◌, ◌-◌, pos, List, length, Ok, Err, ◌∙◌, refl, subst, sym, arith}
use Rattle.std.proofs.lemmas.Int.{ints}
use Rattle.exact_time.specs.declared.moment.Moment.{Moment}
use Rattle.mseed_header.proofs.Batches.{first_bad, some_left}
use Rattle.mseed_header.proofs.Fronts.{size_bounds}
use Rattle.mseed_header.proofs.Rows.{only_count}
use Rattle.mseed_header.proofs.Walked.{HasWalked, walk_begins, walks, walked_all}
use Rattle.mseed_header.proofs.batch.count_records.Goals as goal

pub records-init : goal.records-init
records-init c = record { walked = walk_begins c.args.bytes.now; fits = omega arith }

pub records-preserved : goal.records-preserved
records-preserved c =
    let bytes = c.args.bytes.now in
    let rest = c.records.rest.now in
    let header = c.in-Ok.header in
    record {
      walked = subst (λ (n : ℕ). HasWalked bytes c.split_at.result.1.now n) (sym c.one_more-count.ensures)
          (subst (λ (xs : List ℕ). HasWalked bytes xs (c.records.count + 1)) (sym c.split_at.ensures.back)
          (walks bytes rest c.records.count header c.in-Ok.ensures.ok c.records.invariant.walked));
      fits = omega (arith, c.split_at.ensures.back_len, c.records.invariant.fits, size_bounds rest header c.in-Ok.ensures.ok, c.one_more-count.ensures);
    }

pub records-smaller : goal.records-smaller
records-smaller c = omega (arith, c.split_at.ensures.back_len, size_bounds c.records.rest.now c.in-Ok.header c.in-Ok.ensures.ok)

pub one_more-count-requires : goal.one_more-count-requires
one_more-count-requires c = omega (arith, c.records.invariant.fits, c.split_at.ensures.back_len, size_bounds c.records.rest.now c.in-Ok.header c.in-Ok.ensures.ok, c.in-Ok.ensures.ok.whole)

pub returns-in-Err-clause-exact : goal.returns-in-Err-clause-exact
returns-in-Err-clause-exact c =
    let bytes = c.args.bytes.now in
    let rest = c.records.rest.now in
    let zero : Moment = record { micros = pos 0 } in
    let far = c.records.invariant.walked 0 zero (omega (arith, ints)) (omega (arith, ints)) in
    only_count bytes (Err (length bytes - length rest, c.in-Err.fault))
    (first_bad bytes rest far.0 c.in-Err.fault far.1.split (some_left rest (sym c.is_empty.ensures ∙ c.records-test.true)) ((c.in-Err.ensures.refused c.in-Err.fault).0 refl))

pub returns-clause-exact : goal.returns-clause-exact
returns-clause-exact c = only_count c.args.bytes.now (Ok c.records.count) (walked_all c.args.bytes.now c.records.rest.now c.records.count (sym c.is_empty.ensures ∙ c.records-test.false) c.records.invariant.walked)
