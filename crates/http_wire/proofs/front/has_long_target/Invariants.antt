use Rattle.std.proofs.Common.{◌≡◌, ◌+◌, drop}
use Rattle.std.specs.List.{prefix_len}
use Rattle.std.specs.Prelude.{not}
use Rattle.http_wire.specs.Fronts.{after_space, is_stop}
use Rattle.http_wire.proofs.front.has_long_target.Given as goal

abbrev pub invariant-bytes : goal.invariant-bytes
invariant-bytes l = (l.count ≡ l.byte-index) × (l.count + prefix_len (λ b. not (is_stop b)) (drop l.byte-index (after_space l.text)) ≡ prefix_len (λ b. not (is_stop b)) (after_space l.text))
