use Rattle.std.proofs.Common.{◌≡◌, ◌∙◌, sym, ap, cond, true}
use Rattle.mseed_header.specs.declared.row.Row.{Row}
use Rattle.mseed_header.proofs.Rows.{same_row}
use Rattle.dataselect.specs.Query.{is_asked}
use Rattle.dataselect.specs.Rows.{with_row}
use Rattle.centre_select.proofs.intake.shelve_asked.Goals as goal

pub returns : goal.returns
returns g c = λ row header image placed.
    let old = g.H.Shelf.rows c.args.shelf.now in
    let made = c.in_ok-row.row in
    let same : made ≡ row = same_row made row (c.in_ok-row.ensures.header ∙ sym header) (c.in_ok-row.ensures.image ∙ sym image) (c.in_ok-row.ensures.entry ∙ sym placed.entry_is) (c.in_ok-row.ensures.place ∙ sym placed.place_is) (c.in_ok-row.ensures.moment ∙ sym placed.moment_is) in
    let asked : is_asked c.args.query.now row.header ≡ true = ap (is_asked c.args.query.now) header ∙ sym c.asks.ensures ∙ c.if-not-asks.false in
    c.in_ok-insert.ensures.ok ∙ ap (λ (r : Row). with_row old r) same ∙ ap (λ b. cond b (with_row old row) old) (sym asked)
