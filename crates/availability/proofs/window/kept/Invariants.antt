use Rattle.std.proofs.Common.{◌≡◌, ◌++◌, drop}
use Rattle.availability.specs.Channels.{all_spans, AreNamed}
use Rattle.availability.specs.Windows.{kept}
use Rattle.availability.proofs.window.kept.Given as goal

abbrev pub invariant-channels : goal.invariant-channels
invariant-channels l = record {
  windows : l.windows ++ kept l.selection (all_spans (drop l.channel-index l.channels)) ≡ kept l.selection (all_spans l.channels);
  named : AreNamed (drop l.channel-index l.channels);
}
