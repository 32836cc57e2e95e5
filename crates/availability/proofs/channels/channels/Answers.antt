use Rattle.std.proofs.Common.{◌≡◌, ◌∙◌, List, IfOk, ap, subst}
use Rattle.std.specs.List.{flat_map}
use Rattle.channel_globs.specs.declared.nslc.Nslc.{Nslc}
use Rattle.dataselect.specs.declared.query.Selection.{Selection}
use Rattle.availability.specs.Channels.{spans_named, names_asked, all_spans}
use Rattle.availability.specs.declared.span.TimeSpan.{TimeSpan}
use Rattle.availability.proofs.ByName.{spans_by_name}
use Rattle.availability.proofs.channels.channels.Goals as goal

pub returns-clause-spans : goal.returns-clause-spans
returns-clause-spans g c =
    let seen = g.V.Sight.seen c.args.sight.now in
    let touched = g.V.Sight.touched c.args.sight.now in
    let q = c.args.query.now in
    let held = g.S.Shelf.rows c.args.shelf.now in
    subst (λ (list : List TimeSpan). IfOk c.channels_of.result (λ channels. all_spans channels ≡ list))
    (ap (λ (names : List Nslc). flat_map (spans_named seen touched q held) names) (c.in_ok-names.ensures ∙ ap (λ (sels : List Selection). names_asked sels held) c.as_slice.ensures)
    ∙ spans_by_name seen touched q held)
    c.channels_of.ensures.spans
