use Rattle.std.proofs.Common.{rules, ◌≡◌, ◌∙◌, ◌-◌, ◌<◌, ℕ, sym, arith, length, get_or, List}
use Rattle.std.proofs.lemmas.List.{get_or_default}
use Rattle.std.specs.declared.cmp.Ordering.TheVariants.{Less}
use Rattle.std.proofs.lemmas.List.Sorted.{all_adjacent_more}
use Rattle.dataselect.specs.declared.order.Rank.{Rank}
use Rattle.dataselect.specs.Order.{rank_cmp}
use Rattle.time_index.proofs.Rising.{less_of, rising}
use Rattle.time_index.proofs.windows.are_rising.Goals as goal

-- what was read at a place within a list is there
there : (ranks : List Rank) (i : ℕ) (r d : Rank) → i < length ranks → r ≡ get_or ranks i r → get_or ranks i d ≡ r
there ranks i r d within is = get_or_default ranks i d r within ∙ sym is

pub ranks-preserved : goal.ranks-preserved
ranks-preserved c =
    let ranks = c.args.ranks.now in
    let i = c.ranks.index in
    let a = c.index-ranks-index.result in
    let b = c.index-ranks-index-in-ranks.result in
    let less : rank_cmp a b ≡ Less = sym (search rules) ∙ less_of c.cmp.result (sym c.is_ge.ensures ∙ c.if-is_ge.false) in
    all_adjacent_more ranks (λ (x y : Rank). rank_cmp x y ≡ Less) i (omega (arith, c.ranks.auto)) c.ranks.invariant
    (λ d. (λ j. rank_cmp (there ranks (i - 1) a d (omega (arith, c.ranks-test.true)) c.index-ranks-index.is j) (there ranks i b d (omega (arith, c.ranks-test.true)) c.index-ranks-index-in-ranks.is j)) ∙ less)

pub returns : goal.returns
returns c = λ _. rising c.args.ranks.now (λ k d l. c.ranks.invariant k d (omega (arith, c.ranks-test.false)))
