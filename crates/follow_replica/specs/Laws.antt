-- What holds of a replica whose primary is lawful.
use Rattle.std.specs.Prelude.{◌≡◌, ℕ, true, List, ◌++◌, length, drop, Result, Err}
use mathlib.Core.List.{IsPrefix}
use Rattle.disk_model.specs.View.{DiskView, is_told}
use Rattle.archive_entry.specs.declared.entry.Entry.{Entry}
use Rattle.archive_log.specs.Archive.{Archived}
use Rattle.archive_log.specs.Histories.{IsHistory}
use Rattle.entry_bodies.specs.Bodies.{pieces_of}
use Rattle.follow_replica.specs.Takes.{TakesRow}
use Rattle.follow_replica.specs.declared.fault.TakeFault.{TakeFault}
use Rattle.follow_replica.specs.declared.fault.TakeFault.TheVariants.{Form, Unlawful}

-- what a take leaves, where the primary's history is lawful
pub record StaysFirst {D : Type 0} (h : List Entry) (new : Archived D) (result : Result ℕ TakeFault) : Type 0 where
  pub begins : IsPrefix new.history h
  pub no_form : (at : ℕ) → result ≡ Err (Form at) → ⊥
  pub no_unlawful : (n : ℕ) → result ≡ Err (Unlawful n) → ⊥

-- these entries are consecutive in the history, and a body
pub record IsPartOf (h : List Entry) (body : List ℕ) : Type 0 where
  pub before : ℕ
  pub es : List Entry
  pub rest : List Entry
  pub part : drop before h ≡ es ++ rest
  pub bytes : body ≡ pieces_of es

abbrev pub TakesOfALawfulHistory : {D : Type 0} → (D → DiskView) → Type 0
TakesOfALawfulHistory {D = D} view = (h : List Entry) (body : List ℕ) (old new : Archived D) (result : Result ℕ TakeFault)
    → IsHistory h → is_told (view old.disk) ≡ true → old.count ≡ length old.history → IsPrefix old.history h → IsPartOf h body
    → TakesRow view body old new result → StaysFirst h new result
