-- What a request that was read says as an item of a session.
use Rattle.std.proofs.Common.{◌≡◌, ◌∙◌, refl, sym, ap, subst, arith, ℕ, ◌+◌, ◌<◌, ◌≤◌, ◌==◌, ◌||◌, Bool, true, false, if◌then◌else◌, nat_lt, List, length, map, Option, None, Some, Result, Ok, Err}
use Rattle.std.proofs.lemmas.Bool.Decides.{nat_tests}
use Rattle.http_wire.specs.FieldPairs.{as_pair}
use Rattle.http_wire.specs.Fronts.{has_long_target}
use Rattle.http_wire.specs.Heads.{HeadView, FrontSays, KindSays, BlockSays, checked, unless_faulty, head_fault, or_ends, body_length, has_bad_length, lacks_length, field_limit, closes}
use Rattle.http_wire.specs.Items.{IsRequest, request_limit}
use Rattle.http_wire.specs.Requests.{TellsHead}
use Rattle.http_wire.specs.declared.block.BlockEnd.{BlockEnd}
use Rattle.http_wire.specs.declared.block.BlockEnd.TheVariants.{Block, Long, Ended}
use Rattle.http_wire.specs.declared.ending.HeadFault.{HeadFault}
use Rattle.http_wire.specs.declared.ending.HeadFault.TheVariants.{TooManyHeaders, BadLength, NoLength, BodyTooLong}
use Rattle.http_wire.specs.declared.request.Request.{Request}
use Rattle.centre_session.specs.Items.{Says}

-- a head without a fault has no body that is too long
last_test : (a b c d : Bool) (n : ℕ) → (if a then Some TooManyHeaders else (if b then Some BadLength else (if c then Some NoLength else (if d then Some (BodyTooLong n) else None)))) ≡ None → d ≡ false
last_test true b c d n is = absurd cc
last_test false true c d n is = absurd cc
last_test false false true d n is = absurd cc
last_test false false false true n is = absurd cc
last_test false false false false n is = refl

no_more : (most n : ℕ) → nat_lt most n ≡ false → n ≤ most
no_more most n is = grind (arith, nat_tests, is)

fits : (most : ℕ) (head : HeadView) → head_fault most head ≡ None → body_length head.fields ≤ most
fits most head is =
    no_more most (body_length head.fields) (last_test (nat_lt field_limit (length head.fields)) (has_bad_length head.fields) (lacks_length head.method head.fields) (nat_lt most (body_length head.fields)) (body_length head.fields) is)

by_fault : (most : ℕ) (view head : HeadView) (o : Option HeadFault) → head_fault most view ≡ o → unless_faulty view o ≡ Ok head → body_length head.fields ≤ most
by_fault most view head None none is = let same : view ≡ head = cc in subst (λ (h : HeadView). body_length h.fields ≤ most) same (fits most view none)
by_fault most view head (Some f) some is = absurd cc

by_read : (most : ℕ) (head : HeadView) (read : Option HeadView) → checked most read ≡ Ok head → body_length head.fields ≤ most
by_read most head None is = absurd cc
by_read most head (Some view) is = by_fault most view head (head_fault most view) refl is

by_said : (most : ℕ) (front : List ℕ) (head : HeadView) (said : Result HeadView HeadFault) → BlockSays most front said → Ok head ≡ or_ends said → body_length head.fields ≤ most
by_said most front head (Ok view) b is = let same : head ≡ view = cc in subst (λ (h : HeadView). body_length h.fields ≤ most) (sym same) (by_read most view b.read b.is)
by_said most front head (Err f) b is = absurd cc

by_kind : (most : ℕ) (front : List ℕ) (kind : BlockEnd) (head : HeadView) → KindSays most front kind (Ok head) → body_length head.fields ≤ most
by_kind most front (Block n) head k = by_said most front head k.0 k.1 k.2
by_kind most front Long head k = absurd cc
by_kind most front Ended head k = absurd cc

by_target : (most : ℕ) (front : List ℕ) (kind : BlockEnd) (head : HeadView) (b : Bool) → has_long_target front ≡ b → FrontSays most front kind (Ok head) → body_length head.fields ≤ most
by_target most front kind head true long says = absurd (cc (says.long long))
by_target most front kind head false short says = by_kind most front kind head (says.other short)

-- the body of a whole request is no longer than may be
pub body_within : (limit most : ℕ) (used : List ℕ) (head : HeadView) (body : List ℕ) → IsRequest limit most used head body → length body ≤ most
body_within limit most used head body is = omega (arith, is.size, by_target most is.front is.kind head (has_long_target is.front) refl is.says)

-- a request says what its head says, and closes besides where it is the last one
pub says_by : (n : ℕ) (head : HeadView) (request r : Request) (last : Bool) → TellsHead request head → r.method ≡ request.method → r.target ≡ request.target → r.headers ≡ request.headers
    → r.close ≡ (request.close || last) → last ≡ (n + 1 == request_limit) → Says n head r
says_by n head request r last tells method target headers close is_last = record {
  method_is = method ∙ tells.method_is;
  target_is = target ∙ tells.target_is;
  fields_are = ap (map as_pair) headers ∙ tells.fields_are;
  close_is = close ∙ (ap (λ (b : Bool). b || last) tells.close_is ∙ ap (λ (b : Bool). closes head || b) is_last);
}

-- behind a request that doesn't close, there is room for one more
pub few_more : (b : Bool) (n : ℕ) → (b || n + 1 == 1000) ≡ false → n < 1000 → n + 1 < 1000
few_more true n is lt = absurd cc
few_more false n is lt = grind (arith, nat_tests, is, lt)
