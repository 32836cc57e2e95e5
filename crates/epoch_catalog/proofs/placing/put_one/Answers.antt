use Rattle.std.proofs.Common.{rules, ◌≡◌, ◌∙◌, ◌+◌, ◌∷◌, ℕ, suc, true, false, List, map, take, drop, filter, sym, ap, arith}
use Rattle.epochs.specs.declared.line.Line.{Line}
use Rattle.epochs.specs.Lines.{LineValues}
use Rattle.epochs.specs.Views.{values_of_line}
use Rattle.epoch_rules.specs.KeyOrder.{KeyParts, key_parts_of}
use Rattle.epoch_rules.specs.KeyViews.{parts_of_view}
use Rattle.epoch_rules.specs.LiveLines.{is_said}
use Rattle.epoch_rules.specs.Neighbours.{is_below_key, is_from_key}
use Rattle.epoch_rules.proofs.Cuts.{whole_rest}
use Rattle.epoch_catalog.specs.Merging.{is_first}
use Rattle.epoch_catalog.proofs.Placed.{put_between, put_instead, first_at, halves_mapped, laid}
use Rattle.epoch_catalog.proofs.placing.put_one.Goals as goal

pub returns-then-is_first-clause-lines : goal.returns-then-is_first-clause-lines
returns-then-is_first-clause-lines c =
    let items : List Line = c.args.live.now.items in
    let n : ℕ = c.count_below-place.result in
    let head : LineValues = values_of_line c.args.head in
    let live : List LineValues = map values_of_line items in
    let value : c.deref.result.now ≡ items = c.deref.ensures.value in
    let parts : parts_of_view c.key_view.result ≡ key_parts_of head = search rules in
    let before : map values_of_line (take n items) ≡ filter (is_below_key (key_parts_of head)) live =
    ap (λ (ls : List Line). map values_of_line (take n ls)) (sym value) ∙ c.count_below-place.ensures.before
    ∙ ap (λ (p : KeyParts). filter (is_below_key p) (map values_of_line c.deref.result.now)) parts ∙ ap (λ (ls : List Line). filter (is_below_key (key_parts_of head)) (map values_of_line ls)) value in
    let behind : map values_of_line (drop n items) ≡ filter (is_from_key (key_parts_of head)) live =
    ap (λ (ls : List Line). map values_of_line (drop n ls)) (sym value) ∙ c.count_below-place.ensures.behind
    ∙ ap (λ (p : KeyParts). filter (is_from_key p) (map values_of_line c.deref.result.now)) parts ∙ ap (λ (ls : List Line). filter (is_from_key (key_parts_of head)) (map values_of_line ls)) value in
    let seen : is_first (map values_of_line (drop n items)) head ≡ c.is_first.result =
    ap (λ (ls : List Line). is_first (map values_of_line ls) head) (sym (whole_rest n c.deref-2.result.now ∙ ap (drop n) c.deref-2.ensures.value)) ∙ sym c.is_first.ensures in
    let there : is_first (map values_of_line (drop n items)) head ≡ true = seen ∙ c.if-is_first.true in
    let at = first_at head items n there in
    let next : suc n ≡ n + 1 = omega arith in
    ap (map values_of_line) c.put_first.ensures.lines
    ∙ laid (take n items) (drop (n + 1) items) (is_said head) c.args.head
    ∙ sym (put_instead live (map values_of_line (take n items)) (map values_of_line (drop n items)) head (halves_mapped items n) c.requires.rises c.requires.states before behind (values_of_line at.1.0) (map values_of_line (drop (n + 1) items)) (ap (map values_of_line) at.1.1 ∙ ap (λ (k : ℕ). values_of_line at.1.0 ∷ map values_of_line (drop k items)) next) there)

pub returns-else-is_first-clause-lines : goal.returns-else-is_first-clause-lines
returns-else-is_first-clause-lines c =
    let items : List Line = c.args.live.now.items in
    let n : ℕ = c.count_below-place.result in
    let head : LineValues = values_of_line c.args.head in
    let live : List LineValues = map values_of_line items in
    let value : c.deref.result.now ≡ items = c.deref.ensures.value in
    let parts : parts_of_view c.key_view.result ≡ key_parts_of head = search rules in
    let before : map values_of_line (take n items) ≡ filter (is_below_key (key_parts_of head)) live =
    ap (λ (ls : List Line). map values_of_line (take n ls)) (sym value) ∙ c.count_below-place.ensures.before
    ∙ ap (λ (p : KeyParts). filter (is_below_key p) (map values_of_line c.deref.result.now)) parts ∙ ap (λ (ls : List Line). filter (is_below_key (key_parts_of head)) (map values_of_line ls)) value in
    let behind : map values_of_line (drop n items) ≡ filter (is_from_key (key_parts_of head)) live =
    ap (λ (ls : List Line). map values_of_line (drop n ls)) (sym value) ∙ c.count_below-place.ensures.behind
    ∙ ap (λ (p : KeyParts). filter (is_from_key p) (map values_of_line c.deref.result.now)) parts ∙ ap (λ (ls : List Line). filter (is_from_key (key_parts_of head)) (map values_of_line ls)) value in
    let seen : is_first (map values_of_line (drop n items)) head ≡ c.is_first.result =
    ap (λ (ls : List Line). is_first (map values_of_line ls) head) (sym (whole_rest n c.deref-2.result.now ∙ ap (drop n) c.deref-2.ensures.value)) ∙ sym c.is_first.ensures in
    let none : is_first (map values_of_line (drop n items)) head ≡ false = seen ∙ c.if-is_first.false in
    ap (map values_of_line) c.put_before.ensures.lines
    ∙ laid (take n items) (drop n items) (is_said head) c.args.head
    ∙ sym (put_between live (map values_of_line (take n items)) (map values_of_line (drop n items)) head (halves_mapped items n) c.requires.rises c.requires.states before behind none)
