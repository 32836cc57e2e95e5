use Rattle.std.proofs.Common.{◌≡◌, ◌+◌, ◌<◌, ◌^◌, length}
use Rattle.form_urlencoded.specs.Form.{raw_pairs}
use Rattle.form_urlencoded.specs.Parse.{raw_pairs_left}
use Rattle.query_parameters.proofs.counting.parameter_count.Given as goal

abbrev pub invariant-pairs : goal.invariant-pairs
invariant-pairs l = record {
  count : l.count + length (raw_pairs_left l._pair-iterator) ≡ length (raw_pairs l.query);
  fits : length (raw_pairs l.query) < 2 ^ 64;
}
