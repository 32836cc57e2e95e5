use Rattle.std.proofs.Common.{refl, arith, sym, ap, inl, inr, ◌-◌, Ok, Err, ◌∙◌, ◌≡◌, ◌++◌, ◌∷◌, take, drop, length, [], length-append}
use Rattle.std.proofs.lemmas.List.{take-append-drop}
use Rattle.std.proofs.lemmas.Result.{err_from_is_err_and}
use Rattle.mseed_header.specs.Records.{IsPlaced, images_of}
use Rattle.mseed_header.proofs.Fronts.{size_bounds, record_from}
use Rattle.mseed_header.proofs.Batches.{first_bad, images_more, placed_more, some_left, none_left}
use Rattle.mseed_header.proofs.CutParts.{part_of_rest}
use Rattle.mseed_header.proofs.Rows.{only_batch}
use Rattle.mseed_header.specs.declared.cut.CutFault.TheVariants.{Bad}
use Rattle.mseed_header.proofs.cut.cut_from.Goals as goal

pub returns-in-Err-clause-refused : goal.returns-in-Err-clause-refused
returns-in-Err-clause-refused c =
    first_bad c.args.bytes.now c.records.rest.now c.records.rows c.in-Err.fault c.records.invariant.split
    (some_left c.records.rest.now (sym c.is_empty.ensures ∙ c.records-test.true)) ((c.in-Err.ensures.refused c.in-Err.fault).0 refl)

pub returns-in-Err-clause-exact : goal.returns-in-Err-clause-exact
returns-in-Err-clause-exact c =
    inr (only_batch c.args.bytes.now c.args.entry c.args.moment (Err (Bad (length c.args.bytes.now - length c.records.rest.now) c.in-Err.fault)) (returns-in-Err-clause-refused c))

pub returns-clause-exact : goal.returns-clause-exact
returns-clause-exact c =
    inr (only_batch c.args.bytes.now c.args.entry c.args.moment (Ok c.records.rows) (record {
      whole = none_left c.args.bytes.now c.records.rest.now c.records.rows c.records.invariant.split (sym c.is_empty.ensures ∙ c.records-test.false);
      placed = c.records.invariant.placed;
    }))

pub records-smaller : goal.records-smaller
records-smaller c = omega (arith, c.split_at.ensures.back_len, size_bounds c.records.rest.now c.in-Ok.header c.in-Ok.ensures.ok, c.in-Ok.ensures.ok.whole)

pub with-requires-clause-head : goal.with-requires-clause-head
with-requires-clause-head c =
    let part : c.in_ok-image.image ≡ take c.in-Ok.header.length c.records.rest.now =
    c.in_ok-image.ensures ∙ part_of_rest c.args.body.now c.args.bytes.now (images_of c.records.rows) c.records.rest.now c.in-Ok.header.length c.requires.same c.records.invariant.split in
    let same : c.in_ok-image.image ≡ c.split_at.result.0.now = part ∙ sym c.split_at.ensures.front in
    record_from c.records.rest.now c.in_ok-image.image c.in-Ok.header c.in-Ok.ensures.ok part (ap length same ∙ c.split_at.ensures.front_len)

pub records-preserved : goal.records-preserved
records-preserved c =
    let part : c.in_ok-image.image ≡ take c.in-Ok.header.length c.records.rest.now =
    c.in_ok-image.ensures ∙ part_of_rest c.args.body.now c.args.bytes.now (images_of c.records.rows) c.records.rest.now c.in-Ok.header.length c.requires.same c.records.invariant.split in
    let row = c.with.result in
    let rows = c.records.rows in
    let header = c.in-Ok.header in
    let pushed : c.push.new.self ≡ rows ++ row ∷ [] = c.in_ok-push.ensures.ok in
    let front : c.split_at.result.0.now ≡ take header.length c.records.rest.now = c.split_at.ensures.front in
    let back : c.split_at.result.1.now ≡ drop header.length c.records.rest.now = c.split_at.ensures.back in
    let cut : c.split_at.result.0.now ++ c.split_at.result.1.now ≡ c.records.rest.now = rw (front, back) (take-append-drop header.length c.records.rest.now) in
    let image : row.image ≡ c.split_at.result.0.now = c.with.ensures.image ∙ part ∙ sym front in
    let placed : IsPlaced c.args.entry c.args.moment (length rows) row = record { entry_is = c.with.ensures.entry; moment_is = c.with.ensures.moment; place_is = c.with.ensures.place ∙ c.len-place.ensures } in
    rw pushed (record {
      split = images_more c.args.bytes.now c.records.rest.now c.split_at.result.0.now c.split_at.result.1.now rows row c.records.invariant.split image cut;
      placed = placed_more c.args.entry c.args.moment rows row c.records.invariant.placed placed;
      few = omega (arith, length-append rows (row ∷ []), c.split_at.ensures.back_len, size_bounds c.records.rest.now header c.in-Ok.ensures.ok, c.records.invariant.few);
    })
