-- What reading the next request does: what it takes from the link and from what is held, and what it
-- writes. `old` and `new` are what is held, `before` and `after` what the link has left, `out` and
-- `out_new` what was written to it.
use Rattle.std.specs.Prelude.{◌≡◌, ◌≢◌, ◌⊎◌, ℕ, ◌≤◌, List, ◌++◌, length, map, Ok}
use Rattle.std.specs.declared.option.Option.{Option}
use Rattle.std.specs.Io.KnownBytes.{Consumes, IsAtEnd}
use Rattle.streams.specs.Effects.{Grew, WritesPart}
use Rattle.http_wire.specs.FieldPairs.{as_pair}
use Rattle.http_wire.specs.Fronts.{front_limit, IsFront}
use Rattle.http_wire.specs.Heads.{HeadView, FrontSays, body_length, closes, interim_of}
use Rattle.http_wire.specs.Items.{IsRequest, EndsAtFront, EndsInBody}
use Rattle.http_wire.specs.Taking.{Moved, AtEndIf}
use Rattle.http_wire.specs.declared.block.BlockEnd.{BlockEnd}
use Rattle.http_wire.specs.declared.block.BlockEnd.TheVariants.{Ended}
use Rattle.http_wire.specs.declared.ending.StreamEnd.{StreamEnd}
use Rattle.http_wire.specs.declared.ending.StreamEnd.TheVariants as end
use Rattle.http_wire.specs.declared.ending.Stop.{Stop}
use Rattle.http_wire.specs.declared.ending.Stop.TheVariants as stop
use Rattle.http_wire.specs.declared.ending.ReadEnd.{ReadEnd}
use Rattle.http_wire.specs.declared.ending.ReadEnd.TheVariants as read
use Rattle.http_wire.specs.declared.request.Request.{Request}
use Rattle.http_wire.specs.declared.taking.TakeStop.{TakeStop}
use Rattle.http_wire.specs.declared.taking.TakeStop.TheVariants as take

-- the request is what this head says
pub record TellsHead (request : Request) (head : HeadView) : Type 0 where
  pub method_is : request.method ≡ head.method
  pub target_is : request.target ≡ head.target
  pub fields_are : map as_pair request.headers ≡ head.fields
  pub close_is : request.close ≡ closes head

-- The next item is this request: its bytes were used, what came behind them is held, and what it asks for
-- was written.
pub record GivesRequest (most : ℕ) (before after : Option (List ℕ)) (old new : List ℕ) (out out_new : Option (List ℕ)) (request : Request) : Type 0 where
  pub used : List ℕ
  pub moved : Moved before after old used new
  pub head : HeadView
  pub item : IsRequest front_limit most used head request.body
  pub tells : TellsHead request head
  pub wrote : Grew out out_new (interim_of head)

-- the link has nothing left where the input's end is the answer
abbrev pub IsSpent : Option (List ℕ) → StreamEnd → Type 0
IsSpent after (end.Head fault) = Unit {0}
IsSpent after _ = IsAtEnd after

-- the stream ends at the next front, and nothing was written
pub record StopsAtFront (most : ℕ) (before after : Option (List ℕ)) (old : List ℕ) (out out_new : Option (List ℕ)) (why : StreamEnd) : Type 0 where
  pub taken : List ℕ
  pub lost : Consumes before after taken
  pub item : EndsAtFront front_limit most (old ++ taken) why
  pub at_end : AtEndIf after item.kind
  pub spent : IsSpent after why
  pub quiet : out_new ≡ out

-- the stream ends in the next body; what its head asks for was written
pub record StopsInBody (most : ℕ) (before after : Option (List ℕ)) (old : List ℕ) (out out_new : Option (List ℕ)) : Type 0 where
  pub taken : List ℕ
  pub lost : Consumes before after taken
  pub item : EndsInBody front_limit most (old ++ taken)
  pub spent : IsAtEnd after
  pub wrote : Grew out out_new (interim_of item.head)

-- the bytes that were held and a first part of what the link had left begin with a front that says this head
pub record ReadsHead (most : ℕ) (before : Option (List ℕ)) (old : List ℕ) (head : HeadView) : Type 0 where
  pub taken : List ℕ
  pub later : Option (List ℕ)
  pub lost : Consumes before later taken
  pub kind : BlockEnd
  pub front : List ℕ
  pub rest : List ℕ
  pub is_front : IsFront front_limit (old ++ taken) kind front rest
  pub says : FrontSays most front kind (Ok head)

-- The link failed: nothing was written, or a first part of what the head that was read asks for.
abbrev pub BreaksOff : ℕ → Option (List ℕ) → List ℕ → Option (List ℕ) → Option (List ℕ) → Type 0
BreaksOff most before old out out_new =
    (out_new ≡ out) ⊎ ((head : HeadView) × ReadsHead most before old head × WritesPart out out_new (interim_of head))

-- Memory ran out: nothing was written, or what the head that was read asks for.
abbrev pub RunsOut : ℕ → Option (List ℕ) → List ℕ → Option (List ℕ) → Option (List ℕ) → Type 0
RunsOut most before old out out_new =
    (out_new ≡ out) ⊎ ((head : HeadView) × ReadsHead most before old head × Grew out out_new (interim_of head))

-- A whole item is in hand: what is held begins with a front that doesn't end where it does, and where that is the head of a
-- request, the body is held too.
pub record HoldsItem (most : ℕ) (held : List ℕ) : Type 0 where
  pub kind : BlockEnd
  pub front : List ℕ
  pub rest : List ℕ
  pub is_front : IsFront front_limit held kind front rest
  pub ends_before : kind ≢ Ended
  pub body : (head : HeadView) → FrontSays most front kind (Ok head) → body_length head.fields ≤ length rest

-- why reading stopped
abbrev pub StopsSo : ℕ → Option (List ℕ) → Option (List ℕ) → List ℕ → Option (List ℕ) → Option (List ℕ) → Stop → Type 0
StopsSo most before after old out out_new (stop.Ended why) = StopsAtFront most before after old out out_new why
StopsSo most before after old out out_new stop.BodyCut = StopsInBody most before after old out out_new
StopsSo most before after old out out_new stop.LinkFault = BreaksOff most before old out out_new
StopsSo most before after old out out_new stop.OutOfMemory = RunsOut most before old out out_new

-- why nothing more could be taken
abbrev pub stop_of : TakeStop → Stop
stop_of take.LinkFault = stop.LinkFault
stop_of take.OutOfMemory = stop.OutOfMemory

-- the same, as it is told
abbrev pub told_stop : Stop → ReadEnd
told_stop (stop.Ended end.End) = read.End
told_stop (stop.Ended end.Cut) = read.Cut
told_stop (stop.Ended (end.Head fault)) = read.Head fault
told_stop stop.BodyCut = read.Cut
told_stop stop.LinkFault = read.LinkFault
told_stop stop.OutOfMemory = read.OutOfMemory

-- Why there is no next request.
abbrev pub EndsSo : ℕ → Option (List ℕ) → Option (List ℕ) → List ℕ → Option (List ℕ) → Option (List ℕ) → ReadEnd → Type 0
EndsSo most before after old out out_new read.End = StopsAtFront most before after old out out_new end.End
EndsSo most before after old out out_new read.Cut =
    StopsAtFront most before after old out out_new end.Cut ⊎ StopsInBody most before after old out out_new
EndsSo most before after old out out_new (read.Head fault) = StopsAtFront most before after old out out_new (end.Head fault)
EndsSo most before after old out out_new read.LinkFault = BreaksOff most before old out out_new
EndsSo most before after old out out_new read.OutOfMemory = RunsOut most before old out out_new
