use Rattle.std.proofs.Common.{◌≡◌, ◌+◌, ◌++◌, ◌∷◌, [], ◌∙◌, sym, ap, subst, append_assoc, List, ℕ, drop}
use Rattle.mseed_header.specs.declared.row.Row.{Row}
use Rattle.split_fetch.specs.Gathering.{records_of, IsNumbered}
use Rattle.split_fetch.proofs.Numbered.{numbered_more, records_more, opened}
use Rattle.split_fetch.proofs.copying.add_copies.Goals as goal

pub rows-preserved : goal.rows-preserved
rows-preserved c =
    let at : c.push.new.self ≡ c.rows.all ++ c.in_ok-copy.copy ∷ [] = c.in_ok-push.ensures.ok in
    let row = c.row-item.result in
    let later = drop (c.rows.row-index + 1) c.args.rows.now in
    let rest = records_of later in (
      ap (λ (l : List Row). records_of l ++ rest) at
          ∙ ap (λ (l : List (List ℕ)). l ++ rest) (records_more c.rows.all c.in_ok-copy.copy row c.in_ok-copy.ensures.image)
          ∙ append_assoc (records_of c.rows.all) (records_of (row ∷ [])) rest
          ∙ ap (λ (l : List Row). records_of c.rows.all ++ records_of l)
          (sym (opened c.args.rows.now c.rows.row-index row c.rows-test.true c.row-item.is))
          ∙ c.rows.invariant.0,
      subst IsNumbered (sym at) (numbered_more c.rows.all c.in_ok-copy.copy c.rows.invariant.1
          (c.in_ok-copy.ensures.entry ∙ c.len-entry.ensures)),
    )
