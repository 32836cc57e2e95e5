use Rattle.std.proofs.Common.{◌≡◌, ◌∙◌, ap, subst, sym, ◌++◌, List}
use Rattle.std.specs.List.{AllByRecursion}
use Rattle.availability.specs.declared.channel.ChannelSpans.{ChannelSpans}
use Rattle.availability.specs.declared.span.TimeSpan.{TimeSpan}
use Rattle.availability.specs.Channels.{AreNamed, all_spans}
use Rattle.availability.proofs.ChannelsMade.{all_of_name, named_more, spans_more}
use Rattle.availability.proofs.channels.add_channel.Goals as goal

pub returns-clause-named : goal.returns-clause-named
returns-clause-named g c =
    let name = c.args.name.now in
    let new : ChannelSpans = record { name = name; spans = c.in_ok-spans.spans } in
    subst AreNamed (sym c.in_ok-push.ensures.ok)
    (named_more c.args.channels.now new c.requires.named
    (subst (λ (ss : List TimeSpan). AllByRecursion (λ s. s.group.name ≡ name) ss) (sym c.in_ok-spans.ensures)
    (all_of_name (g.V.Sight.seen c.args.sight.now) (g.V.Sight.touched c.args.sight.now) c.args.query.now (g.S.Shelf.rows c.args.shelf.now) name)))

pub returns-clause-spans : goal.returns-clause-spans
returns-clause-spans g c =
    let new : ChannelSpans = record { name = c.args.name.now; spans = c.in_ok-spans.spans } in
    ap all_spans c.in_ok-push.ensures.ok ∙ spans_more c.args.channels.now new ∙ ap (λ (ss : List TimeSpan). all_spans c.args.channels.now ++ ss) c.in_ok-spans.ensures
