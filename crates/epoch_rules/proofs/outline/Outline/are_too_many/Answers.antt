use Rattle.std.proofs.Common.{◌≡◌, ◌∙◌, ◌+◌, ◌-◌, length, nat_lt, if◌then◌else◌, ap, arith}
use Rattle.std.specs.List.{list_any}
use Rattle.epochs.specs.Views.{values_of_line}
use Rattle.epoch_rules.specs.KeyOrder.{have_one_key}
use Rattle.epoch_rules.specs.LiveLines.{is_said}
use Rattle.epoch_rules.specs.Outlines.{outlined}
use Rattle.epoch_rules.specs.Rules.{most_lines, with_line}
use Rattle.epoch_rules.proofs.WithLine.{length_others, length_with_line}
use Rattle.epoch_rules.proofs.outline.Outline.are_too_many.Goals as goal

pub overflow_sub-others : goal.overflow_sub-others
overflow_sub-others c =
    let e = values_of_line c.args.line.now in
    let live = outlined c.args.self.now in
    let apart = length_others e live c.requires.catalog.rises in
    let held : c.one_if.result ≡ (if list_any (have_one_key e) live then 1 else 0) = c.one_if.ensures ∙ ap (λ b. if b then 1 else 0) c.is_live.ensures in
    omega (arith, apart, held, c.len.ensures.len)

pub returns : goal.returns
returns c =
    let e = values_of_line c.args.line.now in
    let live = outlined c.args.self.now in
    let apart = length_others e live c.requires.catalog.rises in
    let after = length_with_line live e c.requires.catalog.rises c.requires.catalog.states in
    let held : c.one_if.result ≡ (if list_any (have_one_key e) live then 1 else 0) = c.one_if.ensures ∙ ap (λ b. if b then 1 else 0) c.is_live.ensures in
    let new : c.one_if-2.result ≡ (if is_said e then 1 else 0) = c.one_if-2.ensures ∙ ap (λ b. if b then 1 else 0) c.is_said.ensures in
    let same : c.len.result - c.one_if.result + c.one_if-2.result ≡ length (with_line live e) = omega (arith, apart, after, held, new, c.len.ensures.len) in
    ap (nat_lt most_lines) same
