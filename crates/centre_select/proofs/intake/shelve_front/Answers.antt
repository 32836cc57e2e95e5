use Rattle.std.proofs.Common.{◌≢◌, ◌∙◌, sym, subst, refl, arith, List, [], ℕ}
use Rattle.mseed_header.proofs.Batches.{some_left}
use Rattle.mseed_header.specs.Header.{RefusesRecord}
use Rattle.mseed_header.proofs.Fronts.{size_bounds, record_from}
use Rattle.centre_select.proofs.Shelved.{passes_more, few_more, end_stays}
use Rattle.centre_select.proofs.intake.shelve_front.Goals as goal

pub shelve_asked-requires-clause-head : goal.shelve_asked-requires-clause-head
shelve_asked-requires-clause-head g c = record_from c.records.rest.now c.split_at.result.0.now c.in-Ok.header c.in-Ok.ensures.ok c.split_at.ensures.front c.split_at.ensures.front_len

pub records-smaller : goal.records-smaller
records-smaller g c = omega (arith, c.split_at.ensures.back_len, size_bounds c.records.rest.now c.in-Ok.header c.in-Ok.ensures.ok, c.in-Ok.ensures.ok.whole)

pub returns-in-Err-clause-fault : goal.returns-in-Err-clause-fault
returns-in-Err-clause-fault g c =
    let back = c.records.invariant.back in
    let some : c.records.rest.now ≢ [] = some_left c.records.rest.now (sym c.is_empty.ensures ∙ c.records-test.true) in
    let refused : RefusesRecord c.records.rest.now c.in-Err.fault = (c.in-Err.ensures.refused c.in-Err.fault).0 refl in
    subst (λ (xs : List ℕ). (xs ≢ []) × RefusesRecord xs c.in-Err.fault) back (some, refused)

pub records-preserved : goal.records-preserved
records-preserved g c =
    let query = c.args.query.now in
    let rest = c.records.rest.now in
    let after = c.split_at.result.1.now in
    let image = c.split_at.result.0.now in
    let header = c.in-Ok.header in
    let is = c.in-Ok.ensures.ok in
    let held = g.H.Shelf.rows c.records.shelf in
    let new = g.H.Shelf.rows c.shelve_asked.new.shelf in
    let sizes = size_bounds rest header is in
    let old = c.records.invariant in
    record {
      passes = passes_more query c.args.bytes.now rest image after c.args.first c.records.place (g.H.Shelf.rows c.args.shelf.now) held new header is c.split_at.ensures.front c.split_at.ensures.back c.in_ok-shelve_asked.ensures old.passes;
      back = end_stays c.args.bytes.now rest after header.length old.back old.within is.whole c.split_at.ensures.back;
      within = omega (arith, old.within, c.split_at.ensures.back_len);
      few = omega (arith, old.few, c.split_at.ensures.back_len, sizes, is.whole);
      room = omega (arith, old.room, c.split_at.ensures.back_len, sizes, is.whole, few_more query rest image c.records.place held new header is c.split_at.ensures.front c.in_ok-shelve_asked.ensures);
    }
