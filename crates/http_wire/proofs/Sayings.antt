-- What blocks and fronts say, once they are read.
use Rattle.std.proofs.Common.{◌≡◌, ℕ, true, false, List, length, map, refl, sym, ◌∙◌, ap, arith, nat_lt, Option, Some, Result, Err}
use Rattle.std.proofs.lemmas.Bool.{false≢true, cond-true}
use Rattle.std.proofs.lemmas.Bool.Decides.{nat_tests}
use Rattle.std.proofs.lemmas.List.{length-map}
use Rattle.httparse.specs.Spans.{name_and_value}
use Rattle.http_wire.specs.Fronts.{has_long_target}
use Rattle.http_wire.specs.Heads.{HeadView, head_said, in_lower_case, head_fault, unless_faulty, BlockSays, KindSays, FrontSays}
use Rattle.http_wire.specs.HeadReading.{head_view, IsHeadRead, StopsByBlock, StopsBySaying}
use Rattle.http_wire.specs.declared.block.BlockEnd.{BlockEnd}
use Rattle.http_wire.specs.declared.block.BlockEnd.TheVariants.{Block}
use Rattle.http_wire.specs.declared.ending.HeadFault.{HeadFault}
use Rattle.http_wire.specs.declared.ending.HeadFault.TheVariants.{TargetTooLong, TooManyHeaders}
use Rattle.http_wire.specs.declared.ending.StreamEnd.{StreamEnd}
use Rattle.http_wire.specs.declared.ending.StreamEnd.TheVariants as end
use Rattle.http_wire.specs.declared.ending.Stop.{Stop}
use Rattle.http_wire.specs.declared.ending.Stop.TheVariants as stop
use Rattle.http_wire.specs.declared.head.Head.{Head}
use Rattle.http_wire.specs.declared.head.HeadRead.TheVariants as found

-- a head that was read whole says what its first fault says
pub whole_says : (most : ℕ) (block : List ℕ) (head : Head) (fault : Option HeadFault) → IsHeadRead block (found.Whole head)
    → head_fault most (head_view head) ≡ fault → BlockSays most block (unless_faulty (head_view head) fault)
whole_says most block head fault (tree, reads, view, few) e = record {
  read = Some (head_view head);
  reads = (tree, reads, view);
  is = ap (unless_faulty (head_view head)) e;
}

-- a block of more fields than are read says so
pub crowded_says : (most : ℕ) (block : List ℕ) → IsHeadRead block found.Crowded → BlockSays most block (Err TooManyHeaders)
crowded_says most block (tree, reads, many) =
    let count : length (head_said tree).fields ≡ length tree.fields =
    length-map (map name_and_value tree.fields) in_lower_case ∙ length-map tree.fields name_and_value in
    let test : nat_lt 64 (length (head_said tree).fields) ≡ true = rw count (grind (arith, nat_tests)) in
    record {
      read = Some (head_said tree);
      reads = (tree, reads, refl);
      is = ap (unless_faulty (head_said tree)) (cond-true _ _ _ test);
    }

-- a front whose target is too long says so, whatever it is
pub long_says : (most : ℕ) (front : List ℕ) (kind : BlockEnd) → has_long_target front ≡ true → FrontSays most front kind (Err (end.Head TargetTooLong))
long_says most front kind is = record { long = λ _. refl; other = λ isnt. absurd (false≢true (sym isnt ∙ is)) }

-- any other front says what its kind says
pub kind_says : (most : ℕ) (front : List ℕ) (kind : BlockEnd) (says : Result HeadView StreamEnd) → has_long_target front ≡ false
    → KindSays most front kind says → FrontSays most front kind says
kind_says most front kind says isnt it = record { long = λ is. absurd (false≢true (sym isnt ∙ is)); other = λ _. it }

-- where a block's saying stops the reading, so does its front's
pub block_stops : (most n : ℕ) (front : List ℕ) (why : Stop) → has_long_target front ≡ false → StopsByBlock most front why → StopsBySaying most front (Block n) why
block_stops most n front (stop.Ended (end.Head fault)) isnt s = kind_says most front (Block n) (Err (end.Head fault)) isnt (Err fault, s, refl)
block_stops most n front (stop.Ended end.End) isnt s = absurd s
block_stops most n front (stop.Ended end.Cut) isnt s = absurd s
block_stops most n front stop.BodyCut isnt s = absurd s
block_stops most n front stop.LinkFault isnt s = absurd s
block_stops most n front stop.OutOfMemory isnt s = tt
