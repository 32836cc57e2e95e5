-- What holds of all streams.
use Rattle.std.specs.Prelude.{◌≡◌, ℕ, ◌-◌, List, ◌++◌, length, take, Option, Some, Result, map}
use Rattle.http_wire.specs.FieldPairs.{as_pair}
use Rattle.http_wire.specs.Fronts.{front_limit, has_long_target, IsFront}
use Rattle.http_wire.specs.Heads.{HeadView, FrontSays}
use Rattle.http_wire.specs.Items.{IsRequest, EndsAtFront, EndsInBody}
use Rattle.http_wire.specs.Requests.{GivesRequest, HoldsItem, StopsAtFront, StopsInBody}
use Rattle.http_wire.specs.declared.block.BlockEnd.{BlockEnd}
use Rattle.http_wire.specs.declared.ending.StreamEnd.{StreamEnd}
use Rattle.http_wire.specs.declared.request.Request.{Request}

-- A stream begins with a front, and the front says a head or how the stream ends there; it has one front, which says one
-- thing.
abbrev pub SomeFront : Type 0
SomeFront = (limit most : ℕ) (bytes : List ℕ)
    → (kind : BlockEnd) × (front : List ℕ) × (rest : List ℕ) × IsFront limit bytes kind front rest × ((says : Result HeadView StreamEnd) × FrontSays most front kind says)

abbrev pub OneFront : Type 0
OneFront = (limit most : ℕ) (bytes : List ℕ) (one other : BlockEnd) (front first rest behind : List ℕ) (said says : Result HeadView StreamEnd)
    → IsFront limit bytes one front rest → IsFront limit bytes other first behind → FrontSays most front one said → FrontSays most first other says
    → (one ≡ other) × (front ≡ first) × (said ≡ says)

-- Where a whole request is in hand, a whole item is.
abbrev pub RequestInHand : Type 0
RequestInHand = (most : ℕ) (used behind : List ℕ) (head : HeadView) (body : List ℕ) → IsRequest front_limit most used head body → HoldsItem most (used ++ behind)

-- Bytes begin with one request at most, and what follows it is one.
abbrev pub OneRequestInFront : Type 0
OneRequestInFront = (limit most : ℕ) (used first rest behind : List ℕ) (head view : HeadView) (body text : List ℕ)
    → IsRequest limit most used head body → IsRequest limit most first view text → used ++ rest ≡ first ++ behind
    → (head ≡ view) × (body ≡ text) × (rest ≡ behind)

-- Over a link that tells what it has left, the answers speak of all that was held and left.
abbrev pub RequestOfAll : Type 0
RequestOfAll = (most : ℕ) (left rest old new : List ℕ) (out written : Option (List ℕ)) (request : Request)
    → GivesRequest most (Some left) (Some rest) old new out written request
    → (used : List ℕ) × (head : HeadView) × IsRequest front_limit most used head request.body × (old ++ left ≡ used ++ (new ++ rest))

abbrev pub EndOfAll : Type 0
EndOfAll = (most : ℕ) (left rest old : List ℕ) (out written : Option (List ℕ)) (why : StreamEnd)
    → StopsAtFront most (Some left) (Some rest) old out written why → EndsAtFront front_limit most (old ++ left) why

abbrev pub CutOfAll : Type 0
CutOfAll = (most : ℕ) (left rest old : List ℕ) (out written : Option (List ℕ))
    → StopsInBody most (Some left) (Some rest) old out written → EndsInBody front_limit most (old ++ left)

-- The target is tested on the front alone, and that is the test on all bytes up to the limit.
abbrev pub TargetOfAll : Type 0
TargetOfAll = (limit : ℕ) (bytes : List ℕ) (kind : BlockEnd) (front rest : List ℕ) (is : IsFront limit bytes kind front rest)
    → has_long_target front ≡ has_long_target (take (limit - length is.blanks) (front ++ rest))

-- both requests say the same
pub record SaysSame (one other : Request) : Type 0 where
  pub method : one.method ≡ other.method
  pub target : one.target ≡ other.target
  pub fields : map as_pair one.headers ≡ map as_pair other.headers
  pub body : one.body ≡ other.body
  pub close : one.close ≡ other.close

-- Two readings of the same bytes, held and left in other parts and given in other pieces: `old` and `left`
-- in the one, `kept` and `more` in the other. Where both give a request, it is the same, and the same
-- bytes follow it.
abbrev pub SameRequestHoweverCut : Type 0
SameRequestHoweverCut = (most : ℕ) (left rest old new more last kept then : List ℕ) (out written sent told : Option (List ℕ)) (one other : Request)
    → GivesRequest most (Some left) (Some rest) old new out written one → GivesRequest most (Some more) (Some last) kept then sent told other
    → old ++ left ≡ kept ++ more → SaysSame one other × (new ++ rest ≡ then ++ last)

-- Where both stop at a front, they stop for the same reason.
abbrev pub SameEndHoweverCut : Type 0
SameEndHoweverCut = (most : ℕ) (left rest old more last kept : List ℕ) (out written sent told : Option (List ℕ)) (one other : StreamEnd)
    → StopsAtFront most (Some left) (Some rest) old out written one → StopsAtFront most (Some more) (Some last) kept sent told other
    → old ++ left ≡ kept ++ more → one ≡ other

-- And where the one gives a request the other doesn't stop, neither at a front nor in a body, and where
-- the one stops at a front the other doesn't stop in a body.
abbrev pub NoEndForARequest : Type 0
NoEndForARequest = (most : ℕ) (left rest old new more last kept : List ℕ) (out written sent told : Option (List ℕ)) (request : Request) (why : StreamEnd)
    → GivesRequest most (Some left) (Some rest) old new out written request → StopsAtFront most (Some more) (Some last) kept sent told why
    → old ++ left ≡ kept ++ more → ⊥

abbrev pub NoCutForARequest : Type 0
NoCutForARequest = (most : ℕ) (left rest old new more last kept : List ℕ) (out written sent told : Option (List ℕ)) (request : Request)
    → GivesRequest most (Some left) (Some rest) old new out written request → StopsInBody most (Some more) (Some last) kept sent told
    → old ++ left ≡ kept ++ more → ⊥

abbrev pub NoCutForAnEnd : Type 0
NoCutForAnEnd = (most : ℕ) (left rest old more last kept : List ℕ) (out written sent told : Option (List ℕ)) (why : StreamEnd)
    → StopsAtFront most (Some left) (Some rest) old out written why → StopsInBody most (Some more) (Some last) kept sent told
    → old ++ left ≡ kept ++ more → ⊥
