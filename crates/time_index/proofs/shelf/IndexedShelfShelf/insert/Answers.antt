use Rattle.std.proofs.Common.{◌≡◌, ◌∙◌, ◌++◌, ◌∷◌, ◌-◌, [], List, ℕ, length, take, sym, ap, subst}
use Rattle.std.specs.List.{slice_get}
use Rattle.channel_globs.specs.declared.nslc.Nslc.{Nslc}
use Rattle.mseed_header.specs.declared.row.Row.{Row}
use Rattle.time_index.specs.Kept.{AllKept, IsKnown}
use Rattle.time_index.proofs.KeptStep.{all_lost, all_spread, new_at_end, without_end, end_is}
use Rattle.time_index.proofs.shelf.IndexedShelfShelf.insert.Goals as goal

pub invariant_of-self-then-not-keeps : goal.invariant_of-self-then-not-keeps
invariant_of-self-then-not-keeps c =
    let shelf = c.args.self.now in
    let held = shelf.index.rows.items in
    let row = c.args.row in
    let grown : c.insert.new.self.rows.items ≡ held ++ row ∷ [] = c.in_ok-insert.ensures.ok ∙ new_at_end held row (sym c.in_ok-insert.ensures.answer ∙ c.in-New.is) in
    record { kept = subst (λ (rows : List Row). AllKept rows shelf.spans) (sym grown) (all_lost shelf.spans held row (c.keeps-keeps.ensures.lost c.if-not-keeps.true) shelf.kept) }

pub add_row-added-requires : goal.add_row-added-requires
add_row-added-requires c = record { spread = all_spread c.args.self.now.spans c.args.self.now.index.rows.items c.row.result.now.header.name c.args.self.now.kept }

pub invariant_of-self-in-Err : goal.invariant_of-self-in-Err
invariant_of-self-in-Err c =
    let shelf = c.args.self.now in
    let held = shelf.index.rows.items in
    let row = c.args.row in
    let grown : c.insert.new.self.rows.items ≡ held ++ row ∷ [] = c.in_ok-insert.ensures.ok ∙ new_at_end held row (sym c.in_ok-insert.ensures.answer ∙ c.in-New.is) in
    let back : c.drop_last.new.self.rows.items ≡ held = c.drop_last.ensures ∙ ap (λ (rows : List Row). take (length rows - 1) rows) grown ∙ without_end held row in
    record { kept = subst (λ (rows : List Row). AllKept rows c.add_row-added.new.channels) (sym back) (c.in-Err.ensures.err held shelf.kept) }

pub invariant_of-self-in_default : goal.invariant_of-self-in_default
invariant_of-self-in_default c =
    let shelf = c.args.self.now in
    let held = shelf.index.rows.items in
    let row = c.args.row in
    let last = c.row.result.now in
    let grown : c.insert.new.self.rows.items ≡ held ++ row ∷ [] = c.in_ok-insert.ensures.ok ∙ new_at_end held row (sym c.in_ok-insert.ensures.answer ∙ c.in-New.is) in
    let same : last ≡ row =
    end_is held row last (c.len-last.result - 1) (ap (λ (n : ℕ). n - 1) (c.len-last.ensures ∙ ap length grown))
    (sym (ap (λ (rows : List Row). slice_get rows (c.len-last.result - 1)) grown) ∙ c.row.ensures) in
    let known = subst (λ (name : Nslc). IsKnown held shelf.spans name) (ap (λ (r : Row). r.header.name) (sym same)) (c.keeps-keeps.ensures.kept c.if-not-keeps.false) in
    record { kept = subst (λ (rows : List Row). AllKept rows c.add_row-added.new.channels) (sym (grown ∙ ap (λ (r : Row). held ++ r ∷ []) (sym same))) (c.in_default.ensures.ok held shelf.kept known) }
