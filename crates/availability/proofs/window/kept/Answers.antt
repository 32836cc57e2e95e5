use Rattle.std.proofs.Common.{◌∙◌, ◌++◌, ap, sym, List}
use Rattle.availability.specs.Windows.{kept_within}
use Rattle.availability.specs.declared.span.TimeSpan.{TimeSpan}
use Rattle.availability.proofs.ChannelsKept.{next_named, channel_kept, channel_passed}
use Rattle.availability.proofs.window.kept.Goals as goal
use Rattle.availability.proofs.window.kept.Goals.{then-names+in_ok-add_kept, else-names}

pub channels-preserved : goal.channels-preserved
channels-preserved c =
    let s = c.args.selection.now in
    let i = c.channels.channel-index in
    let cs = c.args.channels.now in
    let channel = c.channel-item.result in
    record {
      windows = elim c.if-names.branch [
        | then-names+in_ok-add_kept w ↦ rw w.windows-is
            (channel_kept s c.channels.windows i cs channel c.channels-test.true c.channel-item.is c.channels.invariant.named _ (w.in_ok-add_kept.ensures.ok ∙ ap (λ (ss : List TimeSpan). c.channels.windows ++ kept_within s ss) w.as_slice.ensures) (sym c.names.ensures ∙ w.if-names.true) ∙ c.channels.invariant.windows)
        | else-names w ↦ rw w.windows-is
            (channel_passed s c.channels.windows i cs channel c.channels-test.true c.channel-item.is c.channels.invariant.named (sym c.names.ensures ∙ w.if-names.false) ∙ c.channels.invariant.windows)
      ];
      named = next_named s c.channels.windows i cs channel c.channels-test.true c.channel-item.is c.channels.invariant.named;
    }
