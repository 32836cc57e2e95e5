use Rattle.std.proofs.Common.{◌≡◌, ◌++◌, map, take}
use Rattle.std.specs.List.{flat_map}
use Rattle.event_text.specs.Ranks.{line_at}
use Rattle.event_text.specs.Texts.{header_text, event_text}
use Rattle.event_text.proofs.answers.answer_text.Given as goal

abbrev pub invariant-events : goal.invariant-events
invariant-events l = l.text ≡ header_text ++ flat_map event_text (map line_at (take l.event-index l.events))
