-- The definitions, on bytes.
use Rattle.std.proofs.Common.{◌≡◌, ℕ, true, false, List, [], ◌∷◌, ◌++◌, refl, Some, None, Ok, Err}
use Rattle.std.specs.Prelude.{codes, replicate}
use Rattle.http_wire.specs.Fronts.{after_space, has_long_target}
use Rattle.http_wire.specs.Heads.{HeadView, length_in, checked, closes, interim_of, end_behind}
use Rattle.http_wire.specs.declared.ending.HeadFault.TheVariants.{TooManyHeaders, BadHead, BadLength, NoLength, BodyTooLong}
use Rattle.http_wire.specs.declared.ending.StreamEnd.TheVariants as end

-- what follows the first space of the first line, and no further
target : after_space (codes "GET /a HTTP/1.1\r\n") ≡ codes "/a HTTP/1.1\r\n"
target = refl

no_target : after_space (codes "GET\nHost: a") ≡ []
no_target = refl

-- 8,000 bytes are a target, 8,001 are too many, also where no byte follows
longest : has_long_target (codes "GET " ++ replicate 8000 97 ++ codes " HTTP/1.1") ≡ false
longest = refl

too_long : has_long_target (codes "GET " ++ replicate 8001 97) ≡ true
too_long = refl

-- 1 to 18 digits stand for a number
five : length_in (codes "05") ≡ Some 5
five = refl

signed : length_in (codes "+5") ≡ None
signed = refl

nineteen_digits : length_in (codes "1000000000000000000") ≡ None
nineteen_digits = refl

-- a head with these fields
abbrev head : List ℕ → List (List ℕ × List ℕ) → HeadView
head method fields = record { method = method; target = codes "/"; minor = 1; fields = fields }

abbrev length_of : List ℕ → List ℕ × List ℕ
length_of digits = (codes "content-length", digits)

-- the faults in their order: bytes that are no head, two lengths that differ, none in a POST, and one too long
no_head : checked 10 None ≡ Err BadHead
no_head = refl

two_lengths : checked 10 (Some (head (codes "POST") (length_of (codes "5") ∷ length_of (codes "6") ∷ []))) ≡ Err BadLength
two_lengths = refl

equal_lengths : checked 10 (Some (head (codes "POST") (length_of (codes "5") ∷ length_of (codes "05") ∷ []))) ≡ Ok (head (codes "POST") (length_of (codes "5") ∷ length_of (codes "05") ∷ []))
equal_lengths = refl

no_length : checked 10 (Some (head (codes "POST") [])) ≡ Err NoLength
no_length = refl

chunked : checked 10 (Some (head (codes "GET") ((codes "transfer-encoding", codes "chunked") ∷ []))) ≡ Err NoLength
chunked = refl

eleven : checked 10 (Some (head (codes "POST") (length_of (codes "11") ∷ []))) ≡ Err (BodyTooLong 11)
eleven = refl

crowded : checked 10 (Some (head (codes "POST") (replicate 65 (length_of (codes "x"))))) ≡ Err TooManyHeaders
crowded = refl

-- the item `close` in any case closes, among others; a longer word doesn't
closing : closes (head (codes "GET") ((codes "connection", codes "keep-alive,\tClose ") ∷ [])) ≡ true
closing = refl

going_on : closes (head (codes "GET") ((codes "connection", codes "closed") ∷ [])) ≡ false
going_on = refl

-- the interim is asked for with a body alone
asked : interim_of (head (codes "PUT") ((codes "expect", codes "100-Continue") ∷ length_of (codes "3") ∷ [])) ≡ codes "HTTP/1.1 100 Continue\r\n\r\n"
asked = refl

not_asked : interim_of (head (codes "GET") ((codes "expect", codes "100-continue") ∷ [])) ≡ []
not_asked = refl

-- the input ends between requests, or inside one
between : end_behind [] ≡ end.End
between = refl

inside : end_behind (codes "G") ≡ end.Cut
inside = refl
