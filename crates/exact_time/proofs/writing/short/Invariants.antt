use Rattle.std.proofs.Common.{◌≡◌, ◌≤◌, ◌==◌, true, drop, length}
use Rattle.std.specs.List.{list_all}
use Rattle.exact_time.specs.MomentText.{zero_digit}
use Rattle.exact_time.proofs.writing.short.Given as goal

abbrev pub invariant-zeros : goal.invariant-zeros
invariant-zeros l = record {
  some : 1 ≤ l.end;
  within : l.end ≤ length l.digits;
  zeros : list_all (λ d. d == zero_digit) (drop l.end l.digits) ≡ true;
}

abbrev pub decreases-zeros : goal.decreases-zeros
decreases-zeros l = l.end
