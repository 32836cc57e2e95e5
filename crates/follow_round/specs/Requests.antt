-- What a replica asks its primary for on one link.
use Rattle.std.specs.Prelude.{ℕ, List, [], ◌++◌, Option, None, Some, codes, decimal}
use Rattle.http_digest.specs.Answers.{authorization_text}
use Rattle.http_replies.specs.Replies.{field_line}

-- the target that has the entries from that number on
abbrev pub entries_target : ℕ → List ℕ
entries_target wanted = codes "/archive/1/entries?from=" ++ decimal wanted

-- a request for them, with these lines behind that of the host
abbrev pub entries_request : ℕ → List ℕ → List ℕ
entries_request wanted lines =
    codes "GET " ++ (entries_target wanted ++ (codes " HTTP/1.1\r\nhost: localhost\r\n" ++ (lines ++ codes "\r\n")))

-- the first one says nothing of who asks; the second one answers the challenge that has this nonce (RFC 2617, section 3.2.2)
abbrev pub first_request : ℕ → List ℕ
first_request wanted = entries_request wanted []

abbrev pub second_request : List ℕ → List ℕ → ℕ → List ℕ → List ℕ
second_request user ha1 wanted nonce =
    entries_request wanted (field_line (codes "authorization", authorization_text user ha1 (codes "GET") (entries_target wanted) nonce))

-- what is asked on a link on which this nonce was told, or none
abbrev pub requests : List ℕ → List ℕ → ℕ → Option (List ℕ) → List ℕ
requests user ha1 wanted None = first_request wanted
requests user ha1 wanted (Some nonce) = first_request wanted ++ second_request user ha1 wanted nonce
