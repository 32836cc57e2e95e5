-- A request of a stream of bytes, and how one ends.
use Rattle.std.specs.Prelude.{◌≡◌, ℕ, ◌<◌, List, length, Ok, Err}
use Rattle.http_wire.specs.Fronts.{IsFront}
use Rattle.http_wire.specs.Heads.{HeadView, FrontSays, body_length}
use Rattle.http_wire.specs.declared.block.BlockEnd.{BlockEnd}
use Rattle.http_wire.specs.declared.ending.StreamEnd.{StreamEnd}

-- the bytes are a whole request with this head and this body, and nothing behind it
pub record IsRequest (limit most : ℕ) (bytes : List ℕ) (head : HeadView) (body : List ℕ) : Type 0 where
  pub kind : BlockEnd
  pub front : List ℕ
  pub is_front : IsFront limit bytes kind front body
  pub says : FrontSays most front kind (Ok head)
  pub size : length body ≡ body_length head.fields

-- the bytes begin with a front at which the stream ends so
pub record EndsAtFront (limit most : ℕ) (bytes : List ℕ) (why : StreamEnd) : Type 0 where
  pub kind : BlockEnd
  pub front : List ℕ
  pub rest : List ℕ
  pub is_front : IsFront limit bytes kind front rest
  pub says : FrontSays most front kind (Err why)

-- the bytes end inside the body of a request
pub record EndsInBody (limit most : ℕ) (bytes : List ℕ) : Type 0 where
  pub kind : BlockEnd
  pub front : List ℕ
  pub part : List ℕ
  pub head : HeadView
  pub is_front : IsFront limit bytes kind front part
  pub says : FrontSays most front kind (Ok head)
  pub short : length part < body_length head.fields

-- how many bytes a body may have, and how many requests a session may have
abbrev pub body_limit : ℕ
body_limit = 1048576

abbrev pub request_limit : ℕ
request_limit = 1000
