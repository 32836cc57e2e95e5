use Rattle.std.proofs.Common.{rules, ◌≡◌, ◌≤◌, ◌<◌, inl, ℕ, List, length, arith, subst, sym}
use Rattle.http_wire.specs.Blocks.{NoBlock}
use Rattle.streams.proofs.GoingOn.{no_take, takes_then}
use Rattle.http_wire.specs.Taking.{StopsAs}
use Rattle.http_wire.specs.declared.block.BlockEnd.TheVariants.{Ended}
use Rattle.http_wire.proofs.BlockSteps.{no_bytes, late, full, took_then, took_none, took_long}
use Rattle.http_wire.proofs.Waiting.{stays_still, lacked}
use Rattle.http_wire.proofs.block.read_block.Goals as goal

pub pieces-init : goal.pieces-init
pieces-init g c = record { within = omega arith; clear = no_bytes c.args.held.now; took = search rules; waits = inl (stays_still _); takes = no_take _ }

pub block_end-requires-clause-clear : goal.block_end-requires-clause-clear
block_end-requires-clause-clear g c = let P : List ℕ → Type 0 = λ t. NoBlock t c.pieces.seen in subst P (sym c.as_slice.ensures) c.pieces.invariant.clear

pub returns-else-end-limit-clause-stops : goal.returns-else-end-limit-clause-stops
returns-else-end-limit-clause-stops g c = late c.pieces.held c.as_slice.result.now c.args.limit c.in-Some.end c.as_slice.ensures (omega arith) c.in-Some.ensures.found

pub returns-then-limit-seen-clause-stops : goal.returns-then-limit-seen-clause-stops
returns-then-limit-seen-clause-stops g c =
    let le : c.args.limit ≤ length c.pieces.held = search rules in
    (le, full c.pieces.held c.as_slice.result.now c.args.limit c.as_slice.ensures le c.in_default.ensures.none)

pub returns-then-not-branch-clause-took : goal.returns-then-not-branch-clause-took
returns-then-not-branch-clause-took g c = took_then _ _ _ _ c.pieces.held _ c.pieces.invariant.took c.in_ok-take_piece.ensures.took

pub returns-then-not-branch-clause-stops : goal.returns-then-not-branch-clause-stops
returns-then-not-branch-clause-stops g c =
    let old = c.pieces.held in
    let same : c.take_piece.new.self ≡ old = rw c.if-not-branch.true at c.in_ok-take_piece.ensures.more in
    let seen : c.len-seen.result ≡ length old = search rules in
    let none = full old c.as_slice.result.now (length old) c.as_slice.ensures (omega arith) c.in_default.ensures.none in
    let P : List ℕ → Type 0 = λ t. (length t < c.args.limit) × NoBlock t (length t) in
    subst P (sym same) (omega (arith, seen), none)

pub returns-in_err-take_piece-clause-waits : goal.returns-in_err-take_piece-clause-waits
returns-in_err-take_piece-clause-waits g c =
    let old = c.pieces.held in
    let seen : c.len-seen.result ≡ length old = search rules in
    let none = full old c.as_slice.result.now (length old) c.as_slice.ensures (omega arith) c.in_default.ensures.none in
    lacked (λ (t : List ℕ). StopsAs c.args.limit t Ended) _ _ _ c.args.held.now old c.pieces.invariant.took c.pieces.invariant.waits (omega (arith, seen, c.if-limit-seen.false), none)

pub returns-then-not-branch-clause-waits : goal.returns-then-not-branch-clause-waits
returns-then-not-branch-clause-waits g c =
    let old = c.pieces.held in
    let seen : c.len-seen.result ≡ length old = search rules in
    let none = full old c.as_slice.result.now (length old) c.as_slice.ensures (omega arith) c.in_default.ensures.none in
    lacked (λ (t : List ℕ). StopsAs c.args.limit t Ended) _ _ _ c.args.held.now old c.pieces.invariant.took c.pieces.invariant.waits (omega (arith, seen, c.if-limit-seen.false), none)

pub pieces-preserved : goal.pieces-preserved
pieces-preserved g c =
    let old = c.pieces.held in
    let took = c.in_ok-take_piece.ensures.took in
    let seen : c.len-seen.result ≡ length old = search rules in
    let none = full old c.as_slice.result.now (length old) c.as_slice.ensures (omega arith) c.in_default.ensures.none in
    let P : ℕ → Type 0 = λ n. NoBlock c.take_piece.new.self n in
    record {
      within = omega (arith, seen, took_long _ _ _ _ took);
      clear = subst P (sym seen) (took_none _ _ old _ (length old) took (omega arith) none);
      took = took_then _ _ _ _ old _ c.pieces.invariant.took took;
      waits = lacked (λ (t : List ℕ). StopsAs c.args.limit t Ended) _ _ _ c.args.held.now old c.pieces.invariant.took c.pieces.invariant.waits (omega (arith, seen, c.if-limit-seen.false), none);
      takes = takes_then _ _ _ c.pieces.invariant.takes c.take_piece.ensures.takes absurd;
    }
