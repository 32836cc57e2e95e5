use Rattle.std.proofs.Common.{◌≡◌, ◌∙◌, ◌++◌, ◌∷◌, ◌-◌, [], List, ℕ, length, sym, ap, subst}
use Rattle.std.specs.List.{slice_get}
use Rattle.mseed_header.specs.declared.row.Row.{Row}
use Rattle.time_index.specs.Kept.{AllKept}
use Rattle.time_index.proofs.KeptStep.{all_dropped, split_end}
use Rattle.time_index.proofs.shelf.IndexedShelf.drop_last.Goals as goal

pub invariant_of-self : goal.invariant_of-self
invariant_of-self c =
    let shelf = c.args.self.now in
    let held = shelf.index.rows.items in
    let row = c.row.result.now in
    let n : c.len-last.result - 1 ≡ length held - 1 = ap (λ (k : ℕ). k - 1) c.len-last.ensures in
    let whole : held ≡ c.drop_last.new.self.rows.items ++ row ∷ [] =
    split_end held row (length held - 1) (λ i. length held - 1) c.requires.some (sym (ap (slice_get held) n) ∙ c.row.ensures)
    ∙ ap (λ (rows : List Row). rows ++ row ∷ []) (sym c.drop_last.ensures) in
    record { kept = all_dropped shelf.spans c.remove.new.self c.drop_last.new.self.rows.items row (c.remove.ensures.updates.0) (subst (λ (rows : List Row). AllKept rows shelf.spans) whole shelf.kept) }
