-- A head in parts, and what a parse of a block says.
use Rattle.std.specs.Prelude.{◌≡◌, ℕ, ◌<◌, ◌≤◌, List, [], length, map, Err}
use Rattle.httparse.specs.Grammar.{RequestHead, ReadsRequest, HasNoRequest}
use Rattle.http_wire.specs.Blocks.{IsBlock}
use Rattle.http_wire.specs.FieldPairs.{as_pair}
use Rattle.http_wire.specs.Heads.{HeadView, field_limit, head_said, BlockSays, FrontSays}
use Rattle.http_wire.specs.declared.block.BlockEnd.{BlockEnd}
use Rattle.http_wire.specs.declared.block.BlockEnd.TheVariants.{Block}
use Rattle.http_wire.specs.declared.ending.StreamEnd.TheVariants as end
use Rattle.http_wire.specs.declared.ending.Stop.{Stop}
use Rattle.http_wire.specs.declared.ending.Stop.TheVariants as stop
use Rattle.http_wire.specs.declared.head.Head.{Head}
use Rattle.http_wire.specs.declared.head.HeadRead.{HeadRead}
use Rattle.http_wire.specs.declared.head.HeadRead.TheVariants as found

-- what a head in parts says
abbrev pub head_view : Head → HeadView
head_view head = record { method = head.method; target = head.target; minor = head.minor; fields = map as_pair head.fields }

-- the block is this head; or it is one of more than 64 fields; or no head begins it
abbrev pub IsHeadRead : List ℕ → HeadRead → Type 0
IsHeadRead block (found.Whole head) =
    (tree : RequestHead) × ReadsRequest block tree [] × (head_view head ≡ head_said tree) × (length tree.fields ≤ field_limit)
IsHeadRead block found.Crowded = (tree : RequestHead) × ReadsRequest block tree [] × (field_limit < length tree.fields)
IsHeadRead block found.Bad = HasNoRequest block

-- where the front is a block, it is one from its first byte to its last
abbrev pub IsWholeBlock : BlockEnd → List ℕ → Type 0
IsWholeBlock (Block n) front = IsBlock front (length front)
IsWholeBlock _ front = Unit {0}

-- reading stops where the block says so, or for want of memory
abbrev pub StopsByBlock : ℕ → List ℕ → Stop → Type 0
StopsByBlock most block (stop.Ended (end.Head fault)) = BlockSays most block (Err fault)
StopsByBlock most block stop.OutOfMemory = Unit {0}
StopsByBlock most block _ = ⊥

-- reading stops where the front says so, or for want of memory
abbrev pub StopsBySaying : ℕ → List ℕ → BlockEnd → Stop → Type 0
StopsBySaying most front kind (stop.Ended why) = FrontSays most front kind (Err why)
StopsBySaying most front kind stop.OutOfMemory = Unit {0}
StopsBySaying most front kind _ = ⊥
