use Rattle.std.proofs.Common.{rules, of_calls, ◌≡◌, ◌∙◌, ◌-◌, length, take, drop, sym, ap}
use Rattle.std.proofs.lemmas.Fn.{always_returns_same}
use Rattle.channel_globs.specs.Names.{name_cmp}
use Rattle.epoch_catalog.specs.Withdrawals.{marks_at}
use Rattle.epoch_catalog.specs.declared.withdrawals.NameMark.{NameMark}
use Rattle.epoch_rules.proofs.Cuts.{whole_rest}
use Rattle.epoch_catalog.proofs.MarkedNames.{found_name, names_searchable, no_name}
use Rattle.epoch_catalog.proofs.withdrawals.marks_of.Goals as goal

pub returns-in-Ok-clause-found : goal.returns-in-Ok-clause-found
returns-in-Ok-clause-found c = λ n there same.
    let found = c.in-Ok.ensures.position (λ (x : NameMark). name_cmp x.name c.args.name.now) (always_returns_same _ _ _ (λ a r g k. search (rules, of_calls))) in
    let one = found_name c.args.names.now c.args.name.now c.in-Ok.place c.index-names-place.result n c.requires.rises c.in-Ok.ensures.bound c.index-names-place.is found there same in
    ap (take c.index-names-place.result.count) (whole_rest c.index-names-place.result.first c.args.marks.now) ∙ ap (λ (x : NameMark). marks_at x c.args.marks.now) one

pub returns-in-Err-clause-found : goal.returns-in-Err-clause-found
returns-in-Err-clause-found c = λ n there same.
    let parts = c.in-Err.ensures.position (λ (x : NameMark). name_cmp x.name c.args.name.now) (always_returns_same _ _ _ (λ a r g k. search (rules, of_calls))) in
    absurd (no_name c.args.names.now c.args.name.now c.in-Err.field-0 n (parts (names_searchable c.args.name.now c.args.names.now c.requires.rises)) there same)
