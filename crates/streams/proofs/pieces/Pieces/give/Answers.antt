use Rattle.std.proofs.Common.{◌≡◌, ◌+◌, ◌≤◌, length, arith, ◌∙◌, sym, ap, take, drop, ◌++◌, length-drop, List, ℕ, ◌-◌, get_or}
use Rattle.std.proofs.lemmas.Grind.{common_steps}
use Rattle.streams.specs.Pieces.{bytes_behind}
use Rattle.streams.proofs.Giving.{skipped, gave, given_part, piece_skipped}
use Rattle.streams.proofs.pieces.Pieces.give.Goals as goal

pub returns-then-self-piece-clause-bytes : goal.returns-then-self-piece-clause-bytes
returns-then-self-piece-clause-bytes c =
    let s = c.spent.self in
    let p = c.index-as_slice-self.result in
    let n = c.copy_front-count.result in
    let d = c.as_slice-piece.result.now in
    let same : d ≡ p = c.as_slice-piece.ensures in
    let long : length d ≡ length p = ap length same in
    let before_end : s.from ≤ length p = omega arith in
    let most : length (take (length d - s.from) (drop s.from d)) ≡ length p - s.from = grind (arith, common_steps, length-drop s.from d) in
    let fits : s.from + n ≤ length p = omega arith in
    let item : p ≡ get_or s.all s.at p = rw c.as_slice.ensures at c.index-as_slice-self.is in
    let step = gave s.all s.at s.from n p (omega arith) item fits in (
      sym c.spent.invariant.left ∙ step
          ∙ ap (λ (xs : List ℕ). xs ++ bytes_behind s.all s.at (s.from + n)) (given_part d p c.copy_front-count.new.into s.from n same before_end c.copy_front-count.ensures.given),
      λ none some. absurd (omega arith),
    )

pub spent-preserved : goal.spent-preserved
spent-preserved c =
    let s = c.spent.self in
    let p = c.index-as_slice-self.result in
    let size : length c.as_slice-piece.result.now ≡ length p = ap length c.as_slice-piece.ensures in
    let item : p ≡ get_or s.all s.at p = rw c.as_slice.ensures at c.index-as_slice-self.is in
    let step = skipped s.all s.at s.from p (omega arith) item (omega (arith, size)) in
    let piece = piece_skipped s.all s.at s.from p (omega arith) item (omega (arith, size)) in
    record {
      left = rw size (step ∙ c.spent.invariant.left);
      pieces = rw size (piece ∙ c.spent.invariant.pieces);
    }
