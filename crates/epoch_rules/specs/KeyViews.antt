-- The keys of lines, as the program compares them.
use Rattle.std.specs.Prelude.{ℕ, ℤ}
use Rattle.epochs.specs.Kinds.{Text}
use Rattle.epoch_rules.specs.declared.key_order.KeyView.{KeyView}
use Rattle.epoch_rules.specs.KeyKinds.{key_rank}
use Rattle.epoch_rules.specs.KeyOrder.{KeyParts}

abbrev pub view_of : ℕ → (first second third fourth fifth : Text) → ℤ → KeyParts
view_of rank first second third fourth fifth start = record {
  rank = rank;
  first = first;
  second = second;
  third = third;
  fourth = fourth;
  fifth = fifth;
  start = start;
}

abbrev pub parts_of_view : KeyView → KeyParts
parts_of_view v = view_of (key_rank v.kind) v.first.now v.second.now v.third.now v.fourth.now v.fifth.now v.start
