use Rattle.std.proofs.Common.{rules, ◌≡◌, ◌∙◌, ◌-ℤ◌, to_z, of_z, w64, sym, ap₂}
use Rattle.std.specs.Prelude.{int_lt, unsigned_abs}
use Rattle.std.proofs.lemmas.Int.{to_z-of_z}
use Rattle.command_words.specs.Arguments.{coverage_words_at}
use Rattle.centre_coverage.proofs.Decide.{apart_by, asks_days, too_late}
use Rattle.centre_coverage.proofs.days.asked_days.Goals as goal

pub returns-then-count-gt3660-clause-err : goal.returns-then-count-gt3660-clause-err
returns-then-count-gt3660-clause-err c =
    let first = c.in-Some.first.micros in
    let last = c.in-Some-day_of.last.micros in
    let f : to_z w64 (of_z w64 first) ≡ first = to_z-of_z w64 first (search rules) in
    let l : to_z w64 (of_z w64 last) ≡ last = to_z-of_z w64 last (search rules) in
    let apart = apart_by first last c.abs_diff.result (c.abs_diff.ensures ∙ ap₂ (λ x y. unsigned_abs (x -ℤ y)) l f) (sym (ap₂ int_lt l f) ∙ c.if-last-first.false) in
    too_late (coverage_words_at c.args.arguments.now) first last c.in-Some.ensures c.in-Some-day_of.ensures c.abs_diff.result apart c.if-count-gt3660.true

pub returns-clause-ok : goal.returns-clause-ok
returns-clause-ok c =
    let first = c.in-Some.first.micros in
    let last = c.in-Some-day_of.last.micros in
    let f : to_z w64 (of_z w64 first) ≡ first = to_z-of_z w64 first (search rules) in
    let l : to_z w64 (of_z w64 last) ≡ last = to_z-of_z w64 last (search rules) in
    let apart = apart_by first last c.abs_diff.result (c.abs_diff.ensures ∙ ap₂ (λ x y. unsigned_abs (x -ℤ y)) l f) (sym (ap₂ int_lt l f) ∙ c.if-last-first.false) in
    asks_days (coverage_words_at c.args.arguments.now) first last c.in-Some.ensures c.in-Some-day_of.ensures c.abs_diff.result apart c.if-count-gt3660.false
