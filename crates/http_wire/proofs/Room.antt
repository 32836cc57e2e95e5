-- A head has at most a third as many fields as bytes, and bytes that refuse with that room have no head.
use Rattle.std.proofs.Common.{◌≡◌, ℕ, ◌+◌, ◌*◌, ◌/◌, ◌≤◌, List, [], ◌∷◌, length, subst, arith, length-append, append-nil}
use Rattle.std.specs.Prelude.{All}
use Rattle.std.specs.List.{flat_map}
use Rattle.std.proofs.lemmas.List.Elements.{All-head, All-tail}
use Rattle.httparse.specs.Grammar.{LineEnd, crlf, lf, print_end, Field, IsField, print_field, RequestHead, IsRequestHead, ReadsRequest, HasNoRequest, NeverHasRequest, print_request}
use Rattle.httparse.specs.Spans.{RequestOverflows}

pub end_is_some : (e : LineEnd) → 1 ≤ length (print_end e)
end_is_some crlf = omega arith
end_is_some lf = omega arith

pub field_is_long : (f : Field) → IsField f → 3 ≤ length (print_field f)
field_is_long f h =
    let e = end_is_some f.end in
    let n = h.name.0 in
    grind (arith, length-append, e, n)

pub fields_are_long : (fs : List Field) → All IsField fs → 3 * length fs ≤ length (flat_map print_field fs)
fields_are_long [] h = omega arith
fields_are_long (f ∷ fs) h =
    let one = field_is_long f (All-head IsField f fs h) in
    let others = fields_are_long fs (All-tail IsField f fs h) in
    grind (arith, length-append, one, others)

pub head_is_long : (t : RequestHead) → IsRequestHead t → 3 * length t.fields ≤ length (print_request t)
unfolding print_request
head_is_long t h =
    let fs = fields_are_long t.fields h.fields in
    grind (arith, length-append, fs)

pub room_is_enough : (bytes : List ℕ) (t : RequestHead) (rest : List ℕ) → ReadsRequest bytes t rest
    → length t.fields ≤ length bytes / 3
room_is_enough bytes t rest h =
    let long = head_is_long t h.0 in
    let all : length bytes ≡ length (print_request t) + length rest = rw h.1 (length-append (print_request t) rest) in
    omega (arith, long, all)

pub never_none : (bytes : List ℕ) → NeverHasRequest bytes → HasNoRequest bytes
never_none bytes h = subst HasNoRequest (append-nil bytes) (h [])

pub overflow_none : (bytes : List ℕ) → RequestOverflows (length bytes / 3) bytes → HasNoRequest bytes
overflow_none bytes h t rest r =
    let more = h [] t rest (rw append-nil r) in
    let room = room_is_enough bytes t rest r in
    omega (arith, more, room)
