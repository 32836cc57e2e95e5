use Rattle.std.proofs.Common.{◌≡◌, ◌++◌, ◌∷◌, [], ◌∙◌, sym, ap, subst, append_assoc, List, ℕ}
use Rattle.mseed_header.specs.declared.row.Row.{Row}
use Rattle.split_fetch.specs.Gathering.{records_of, IsNumbered}
use Rattle.split_fetch.proofs.Numbered.{numbered_more, records_more}
use Rattle.split_fetch.proofs.numbering.add_rows.Goals as goal

pub rows-preserved : goal.rows-preserved
rows-preserved c =
    let at : c.push.new.self ≡ c.rows.all ++ c.renumbered.result ∷ [] = c.in_ok-push.ensures.ok in
    let rest = records_of c.next.new.self.rest.items in (
      ap (λ (l : List Row). records_of l ++ rest) at
          ∙ ap (λ (l : List (List ℕ)). l ++ rest) (records_more c.rows.all c.renumbered.result c.in-Some.row c.renumbered.ensures.image)
          ∙ append_assoc (records_of c.rows.all) (records_of (c.in-Some.row ∷ [])) rest
          ∙ ap (λ (l : List Row). records_of c.rows.all ++ records_of l) (sym c.in-Some.ensures.steps.0)
          ∙ c.rows.invariant.0,
      subst IsNumbered (sym at) (numbered_more c.rows.all c.renumbered.result c.rows.invariant.1
          (c.renumbered.ensures.entry ∙ c.len-entry.ensures)),
    )
