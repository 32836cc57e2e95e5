-- The bytes of the two requests.
use Rattle.std.proofs.Common.{◌≡◌, List, ℕ, [], ◌∷◌, ◌++◌, codes, ◌∙◌, ap, append-nil, append_assoc}
use Rattle.http_digest.specs.Answers.{authorization_text}
use Rattle.http_replies.specs.Replies.{field_line}
use Rattle.http_wire.specs.FieldPairs.{as_pair}
use Rattle.http_wire.specs.declared.field.Field.{Field}
use Rattle.http_answers.specs.Requests.{lines_of}
use Rattle.follow_round.specs.Requests.{entries_target, entries_request, first_request, second_request}

-- a request whose fields are that of the host and these
request_is : (wanted : ℕ) (method target : List ℕ) (fields more : List Field) (host : Field) → method ≡ codes "GET" → target ≡ entries_target wanted
    → fields ≡ host ∷ more → as_pair host ≡ (codes "host", codes "localhost")
    → (method ++ (codes " " ++ (target ++ codes " HTTP/1.1\r\n"))) ++ (lines_of fields ++ codes "\r\n") ≡ entries_request wanted (lines_of more)
request_is wanted method target fields more host method_is target_is fields_are host_is =
    let line = codes " HTTP/1.1\r\n" in
    let rest = codes "host: localhost\r\n" ++ (lines_of more ++ codes "\r\n") in
    let lines : lines_of fields ++ codes "\r\n" ≡ rest =
    ap (λ (fs : List Field). lines_of fs ++ codes "\r\n") fields_are
    ∙ ap (λ (pair : List ℕ × List ℕ). (field_line pair ++ lines_of more) ++ codes "\r\n") host_is
    ∙ append_assoc (codes "host: localhost\r\n") (lines_of more) (codes "\r\n") in
    (λ i. (method_is i ++ (codes " " ++ (target_is i ++ line))) ++ lines i)
    ∙ ap (λ (l : List ℕ). codes "GET " ++ l) (append_assoc (entries_target wanted) line rest)

pub first_is : (wanted : ℕ) (method target : List ℕ) (fields : List Field) (host : Field) → method ≡ codes "GET" → target ≡ entries_target wanted
    → fields ≡ host ∷ [] → as_pair host ≡ (codes "host", codes "localhost")
    → (method ++ (codes " " ++ (target ++ codes " HTTP/1.1\r\n"))) ++ (lines_of fields ++ codes "\r\n") ≡ first_request wanted
first_is wanted method target fields host a b c d = request_is wanted method target fields [] host a b c d

pub second_is : (user ha1 : List ℕ) (wanted : ℕ) (nonce method target : List ℕ) (fields : List Field) (host answer : Field) → method ≡ codes "GET" → target ≡ entries_target wanted
    → fields ≡ host ∷ answer ∷ [] → as_pair host ≡ (codes "host", codes "localhost")
    → as_pair answer ≡ (codes "authorization", authorization_text user ha1 (codes "GET") (entries_target wanted) nonce)
    → (method ++ (codes " " ++ (target ++ codes " HTTP/1.1\r\n"))) ++ (lines_of fields ++ codes "\r\n") ≡ second_request user ha1 wanted nonce
second_is user ha1 wanted nonce method target fields host answer a b c d e =
    request_is wanted method target fields (answer ∷ []) host a b c d
    ∙ ap (entries_request wanted) (append-nil (field_line (as_pair answer)) ∙ ap field_line e)
