-- What a take does, by what was read of the body and by what was added.
use Rattle.std.proofs.Common.{◌≡◌, inl, inr, ℕ, ◌+◌, List, None, Result, Ok, Err, refl, sym, subst}
use Rattle.std.specs.Prelude.{IsErrAnd}
use Rattle.disk_model.specs.View.{DiskView}
use Rattle.archive_entry.specs.declared.entry.Entry.{Entry}
use Rattle.archive_log.specs.Archive.{Archived}
use Rattle.entry_bodies.specs.Bodies.{IsBody, RefusesBody}
use Rattle.entry_bodies.specs.declared.reading.BodyFault.{BodyFault}
use Rattle.entry_bodies.specs.declared.reading.BodyFault.TheVariants as body
use Rattle.follow_replica.specs.Numbers.{gap_in}
use Rattle.follow_replica.specs.Takes.{AddsRow, TakesRow, from_body}
use Rattle.follow_replica.specs.declared.fault.TakeFault.{TakeFault}
use Rattle.follow_replica.specs.declared.fault.TakeFault.TheVariants.{Form, Gap, Unlawful, DiskFault, OutOfMemory}

module _ {D : Type 0} (view : D → DiskView) (text : List ℕ) where
  pub takes : (old new : Archived D) (es : List Entry) (r : Result ℕ TakeFault) → IsBody text es → gap_in (old.count + 1) es ≡ None → AddsRow view es old new r → TakesRow view text old new r
  takes old new es (Ok n) is gap row = (es, is, gap, row)
  takes old new es (Err (Form at)) is gap row = absurd row
  takes old new es (Err (Gap n)) is gap row = absurd row
  takes old new es (Err (Unlawful n)) is gap row = (es, is, gap, row)
  takes old new es (Err DiskFault) is gap row = (es, is, gap, row)
  takes old new es (Err OutOfMemory) is gap row = inr (es, is, gap, row)

  pub refused : (old : Archived D) (fault : BodyFault) (r : Result ℕ TakeFault) → IsErrAnd r (λ f. f ≡ from_body fault) → RefusesBody text fault → TakesRow view text old old r
  refused old (body.Form at) (Ok n) is bad = absurd is
  refused old (body.Form at) (Err f) is bad = subst (λ (g : TakeFault). TakesRow view text old old (Err g)) (sym is) (bad, refl)
  refused old body.OutOfMemory (Ok n) is bad = absurd is
  refused old body.OutOfMemory (Err f) is bad = subst (λ (g : TakeFault). TakesRow view text old old (Err g)) (sym is) (inl refl)
