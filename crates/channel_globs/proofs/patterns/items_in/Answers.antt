use Rattle.std.proofs.Common.{arith, ◌≤◌, ◌∙◌, sym, ap, map, length, []}
use Rattle.std.proofs.lemmas.Result.{err_from_is_err_and}
use Rattle.std.proofs.lemmas.List.{take_all}
use Rattle.channel_globs.specs.PatternText.{without_spaces, words_of, item_of}
use Rattle.channel_globs.proofs.PatternTexts.{word_count, refused_at, words_are, words_at}
use Rattle.channel_globs.proofs.patterns.items_in.Goals as goal

pub returns-then-comma_count-ge-MOST_ITEMS-clause-refused : goal.returns-then-comma_count-ge-MOST_ITEMS-clause-refused
returns-then-comma_count-ge-MOST_ITEMS-clause-refused c = omega (arith, word_count c.args.text.now, c.comma_count.ensures)

pub returns-in_err-read_item-clause-refused : goal.returns-in_err-read_item-clause-refused
returns-in_err-read_item-clause-refused c =
    let p = err_from_is_err_and c.from_residual-in_err-read_item.result c.from_residual-in_err-read_item.ensures.1 in
    let few : length (words_of c.args.text.now) ≤ 64 = omega (arith, word_count c.args.text.now, c.comma_count.ensures, c.if-comma_count-ge-MOST_ITEMS.false) in
    let pieces = c.deref-piece-items.result.now in
    let split = words_are (λ x. x.now) without_spaces pieces _ c.items.invariant.same ∙ words_at (λ x. without_spaces x.now) pieces c.items.piece-index (record { ref_ptr = (0, 0); now = [] }) c.items-test.true in
    rw (p.1, p.2) (refused_at c.args.part c.args.text.now _ _ _ _ c.items.items.items few split c.items.invariant.so_far (rw c.trimmed.ensures at c.in_err-read_item.ensures))

pub returns-clause-list : goal.returns-clause-list
returns-clause-list c =
    let pieces = c.deref-piece-items.result.now in
    record {
      few = omega (arith, word_count c.args.text.now, c.comma_count.ensures, c.if-comma_count-ge-MOST_ITEMS.false);
      each = ap (map (item_of c.args.part)) (words_are (λ x. x.now) without_spaces pieces _ c.items.invariant.same ∙ ap (map (λ x. without_spaces x.now)) (sym (take_all c.items.piece-index pieces c.items-test.false))) ∙ c.items.invariant.so_far;
    }
