-- In the same bytes at most one thing is heard.
use Rattle.std.proofs.Common.{◌≡◌, ℕ, Bool, true, false, List, Option, None, Some, Result, Ok, Err, sym, ◌∙◌, subst}
use Rattle.std.specs.Prelude.{MatchBool, ◌==◌}
use Rattle.http_answers.specs.Hearing.{Answered, Answers}
use Rattle.http_answers.specs.declared.got.GotEnd.{GotEnd}
use Rattle.http_answers.specs.declared.got.GotEnd.TheVariants as end
use Rattle.http_answers.proofs.OneReply.{one_heard}
use Rattle.follow_round.specs.Hearing.{most_body, HeardAtEnd, HearsSecond, HearsBehind, HearsFirst}
use Rattle.follow_round.specs.Laws.{OneHeard}
use Rattle.follow_round.specs.declared.heard.Heard.{Heard}
use Rattle.follow_round.specs.declared.heard.Heard.TheVariants.{Peer}

one_end : (why : GotEnd) (a b : Heard) → HeardAtEnd why a → HeardAtEnd why b → a ≡ b
one_end end.BadReply a b is also = is ∙ sym also
one_end (end.TooLong n) a b is also = is ∙ sym also
one_end end.Cut a b is also = is ∙ sym also
one_end end.LinkFault a b is also = absurd is
one_end end.OutOfMemory a b is also = absurd is

one_second : (second : Result Answered GotEnd) (a b : Heard) → HearsSecond second a → HearsSecond second b → a ≡ b
one_second (Ok x) a b is also = is ∙ sym also
one_second (Err why) a b is also = one_end why a b is also

one_answer : (bytes : List ℕ) (a b : Result Answered GotEnd) → Answers most_body bytes a → Answers most_body bytes b → a ≡ b
one_answer bytes a b x y = one_heard most_body bytes false a b x y

one_behind : (nonce : Option (List ℕ)) (rest : List ℕ) (a b : Heard) → HearsBehind nonce rest a → HearsBehind nonce rest b → a ≡ b
one_behind None rest a b is also = is ∙ sym also
one_behind (Some nonce) rest a b (x, came, is) (y, came2, also) =
    one_second y a b (subst (λ (s : Result Answered GotEnd). HearsSecond s a) (one_answer rest x y came came2) is) also

one_first : (first : Result Answered GotEnd) (a b : Heard) → HearsFirst first a → HearsFirst first b → a ≡ b
one_first (Ok x) a b is also = by (x.says.status == 401) is also
  where
    by : (t : Bool) → MatchBool t (HearsBehind x.says.nonce x.rest a) (a ≡ Peer x.says.status) → MatchBool t (HearsBehind x.says.nonce x.rest b) (b ≡ Peer x.says.status) → a ≡ b
    by true p q = one_behind x.says.nonce x.rest a b p q
    by false p q = p ∙ sym q
one_first (Err why) a b is also = one_end why a b is also

pub one_link : OneHeard
one_link bytes first other a b x y =
    let same = one_answer bytes first other x.0 y.0 in
    (same, one_first other a b (subst (λ (f : Result Answered GotEnd). HearsFirst f a) same x.1) y.1)
