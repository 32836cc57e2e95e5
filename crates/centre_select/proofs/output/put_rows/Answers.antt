use Rattle.std.proofs.Common.{◌≡◌, ◌∙◌, ◌+◌, ◌++◌, ℕ, List, arith, ap, sym, subst, length, take, drop}
use Rattle.std.proofs.lemmas.List.{take-append-drop}
use Rattle.std.proofs.lemmas.Grind.{flat_map-append}
use Rattle.std.proofs.Math.Seq.{take-length}
use Rattle.std.specs.List.{slice_get}
use Rattle.mseed_header.proofs.Batches.{image_size}
use Rattle.mseed_header.specs.declared.row.Row.{Row}
use Rattle.dataselect.specs.DataBody.{images_at, image_of}
use Rattle.dataselect.proofs.Bodies.{images_more}
use Rattle.streams.specs.Effects.{PutsAll}
use Rattle.centre_select.proofs.Written.{waits_more, waits_cut, waits_ended}
use Rattle.centre_select.proofs.output.put_rows.Goals as goal

-- the bytes at the places behind one
images_split : (rows : List Row) (places : List ℕ) (n : ℕ) → images_at rows places ≡ images_at rows (take n places) ++ images_at rows (drop n places)
images_split rows places n = ap (images_at rows) (sym (take-append-drop n places)) ∙ flat_map-append (λ i. image_of (slice_get rows i)) (take n places) (drop n places)

pub put_row-requires : goal.put_row-requires
put_row-requires g c = omega (arith, image_size c.row.result.now, ap length c.as_slice.ensures)

pub returns-in_err-put_row : goal.returns-in_err-put_row
returns-in_err-put_row g c =
    let rows = g.H.Shelf.rows c.args.shelf.now in
    let places = c.args.places.now in
    let i = c.places.place-index in
    let image = c.as_slice.result.now in
    let more : images_at rows (take (i + 1) places) ≡ images_at rows (take i places) ++ image = images_more rows places i c.row.result.now c.places-test.true c.row.ensures ∙ ap (λ (xs : List ℕ). images_at rows (take i places) ++ xs) (sym c.as_slice.ensures) in
    let all : images_at rows places ≡ (images_at rows (take i places) ++ image) ++ images_at rows (drop (i + 1) places) = images_split rows places (i + 1) ∙ ap (λ (xs : List ℕ). xs ++ images_at rows (drop (i + 1) places)) more in
    let old = g.K.Stream.view c.args.sink.now in
    let new = g.K.Stream.view c.put_row.new.sink in
    waits_cut old (g.K.Stream.view c.places.sink) new _ c.from_residual.result (images_at rows (take i places)) _ image _ (images_at rows (drop (i + 1) places)) (images_at rows places) c.from_residual.ensures.0 c.places.invariant c.in_err-put_row.ensures all

pub places-preserved : goal.places-preserved
places-preserved g c =
    let rows = g.H.Shelf.rows c.args.shelf.now in
    let places = c.args.places.now in
    let i = c.places.place-index in
    let image = c.as_slice.result.now in
    let more : images_at rows (take (i + 1) places) ≡ images_at rows (take i places) ++ image = images_more rows places i c.row.result.now c.places-test.true c.row.ensures ∙ ap (λ (xs : List ℕ). images_at rows (take i places) ++ xs) (sym c.as_slice.ensures) in
    rw more (waits_more (g.K.Stream.view c.args.sink.now) (g.K.Stream.view c.places.sink) (g.K.Stream.view c.put_row.new.sink) _ (images_at rows (take i places)) _ image _ c.places.invariant c.in_ok-put_row.ensures)

pub returns : goal.returns
returns g c =
    let rows = g.H.Shelf.rows c.args.shelf.now in
    let places = c.args.places.now in
    let all : take c.places.place-index places ≡ places = ap (λ (n : ℕ). take n places) (omega (arith, c.places-test.false, c.places.auto.place-index-end)) ∙ take-length places in
    subst (λ (ps : List ℕ). PutsAll (g.K.Stream.view c.args.sink.now) (g.K.Stream.view c.put_all.new.sink) c.put_all.result (images_at rows ps)) all
    (waits_ended (g.K.Stream.view c.args.sink.now) (g.K.Stream.view c.places.sink) (g.K.Stream.view c.put_all.new.sink) c.put_all.result (images_at rows (take c.places.place-index places)) (take c.places.chunk.used c.places.chunk.bytes)
    c.places.invariant (rw c.as_slice-2.ensures at c.put_all.ensures))
