use Rattle.std.proofs.Common.{◌≡◌, ◌==◌, map, take, Ok}
use Rattle.std.specs.List.{slice_split}
use Rattle.channel_globs.specs.PatternText.{item_of, without_spaces, comma}
use Rattle.channel_globs.proofs.patterns.items_in.Given as goal

-- each item so far was read
abbrev pub invariant-items : goal.invariant-items
invariant-items l = record {
  same : map (λ x. x.now) l.piece-items ≡ slice_split (λ b. b == comma) l.text;
  so_far : map (item_of l.part) (map (λ x. without_spaces x.now) (take l.piece-index l.piece-items)) ≡ map Ok l.items.items;
}
