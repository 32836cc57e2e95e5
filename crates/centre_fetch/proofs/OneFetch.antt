-- The words of `fetch` and what was heard have one answer.
use Rattle.std.proofs.Common.{◌≡◌, ◌≢◌, inl, inr, ℕ, ◌<◌, ◌≤◌, true, false, cond, List, [], ◌∷◌, length, Result, Ok, Err, nat_lt, refl, sym, ap, ◌∙◌, arith}
use Rattle.std.proofs.lemmas.Bool.Decides.{nat_tests}
use Rattle.mseed_header.specs.Records.{images_of}
use Rattle.command_words.specs.Commands.{FetchWords}
use Rattle.split_fetch.specs.Gathering.{arrived, gathered, max_gathered, IsGathered, GatherRefuses}
use Rattle.split_fetch.specs.Rounds.{Goes, Ends, begun, way_after}
use Rattle.split_fetch.specs.declared.answer.WindowAnswer.{WindowAnswer}
use Rattle.split_fetch.specs.declared.fault.GatherFault.TheVariants as gather
use Rattle.split_fetch.specs.declared.heard.Heard.{Heard}
use Rattle.split_fetch.specs.declared.heard.Outcome.{Outcome}
use Rattle.split_fetch.specs.declared.heard.Outcome.TheVariants as outcome
use Rattle.split_fetch.specs.declared.window.Window.{Window}
use Rattle.centre_fetch.specs.Answers.{ComesOf, IsHeardAnswer, IsFetchAnswer}
use Rattle.centre_fetch.specs.declared.ending.FetchRefusal.{FetchRefusal}
use Rattle.centre_fetch.specs.declared.ending.FetchRefusal.TheVariants.{Value, Order, NoData, TooLarge, Peer, BadReply, Lost, Moved, Requests}
use Rattle.centre_fetch.proofs.Decide.{one_window, one_refused, not_both}

-- the bytes of all answers, put together
abbrev pub all_bytes : List WindowAnswer → List ℕ
all_bytes taken = images_of (gathered (arrived taken))

of_some : List ℕ → Result (List ℕ) FetchRefusal
of_some [] = Err NoData
of_some (b ∷ bytes) = Ok (b ∷ bytes)

by_bytes : List ℕ → Result (List ℕ) FetchRefusal
by_bytes bytes = cond (nat_lt max_gathered (length bytes)) (Err (TooLarge (length bytes) 268_435_456)) (of_some bytes)

-- what comes of an end
by_outcome : Outcome → Result (List ℕ) FetchRefusal
by_outcome (outcome.Done taken) = by_bytes (all_bytes taken)
by_outcome outcome.Lost = Err Lost
by_outcome (outcome.Moved a b) = Err (Moved a b)
by_outcome outcome.Requests = Err Requests
by_outcome (outcome.Peer status) = Err (Peer status)
by_outcome outcome.BadReply = Err BadReply

some_ok : (bytes : List ℕ) → bytes ≢ [] → Ok bytes ≡ of_some bytes
unfolding of_some
some_ok [] some = absurd (some refl)
some_ok (b ∷ bytes) some = refl

few_bytes : (bytes : List ℕ) → length bytes ≤ max_gathered → of_some bytes ≡ by_bytes bytes
unfolding by_bytes
few_bytes bytes few =
    let e : nat_lt max_gathered (length bytes) ≡ false = grind (arith, nat_tests) in
    ap (λ b. cond b (Err (TooLarge (length bytes) 268_435_456)) (of_some bytes)) (sym e)

many_bytes : (bytes : List ℕ) → max_gathered < length bytes → Err (TooLarge (length bytes) 268_435_456) ≡ by_bytes bytes
unfolding by_bytes
many_bytes bytes many =
    let e : nat_lt max_gathered (length bytes) ≡ true = grind (arith, nat_tests) in
    ap (λ b. cond b (Err (TooLarge (length bytes) 268_435_456)) (of_some bytes)) (sym e)

none_of : Err NoData ≡ of_some []
unfolding of_some
none_of = refl

gathered_gives : (taken : List WindowAnswer) (bytes : List ℕ) → IsGathered taken bytes → of_some bytes ≡ by_outcome (outcome.Done taken)
unfolding by_outcome
gathered_gives taken bytes h = few_bytes bytes h.bytes_are.small ∙ ap by_bytes h.bytes_are.are

too_many : (taken : List WindowAnswer) (bytes limit : ℕ) → GatherRefuses taken (gather.TooLarge bytes) → limit ≡ 268_435_456
    → Err (TooLarge bytes limit) ≡ by_outcome (outcome.Done taken)
unfolding by_outcome
too_many taken bytes limit h is =
    let size = h.1.0 in
    let great = h.1.1 in
    let many : max_gathered < length (all_bytes taken) = omega (arith, size, great) in
    ap (λ n. Err (TooLarge n limit)) size ∙ ap (λ n. Err (TooLarge (length (all_bytes taken)) n)) is ∙ many_bytes (all_bytes taken) many

-- what comes of an end is this
comes_is : (o : Outcome) (answer : Result (List ℕ) FetchRefusal) → ComesOf o answer → answer ≡ by_outcome o
unfolding by_outcome
comes_is o (Ok body) h = some_ok body h.3 ∙ gathered_gives h.0 body h.2 ∙ ap by_outcome (sym h.1)
comes_is o (Err NoData) h = none_of ∙ gathered_gives h.0 [] h.2 ∙ ap by_outcome (sym h.1)
comes_is o (Err (TooLarge bytes limit)) h = too_many h.0 bytes limit h.2 h.3 ∙ ap by_outcome (sym h.1)
comes_is o (Err (Peer status)) h = ap by_outcome (sym h)
comes_is o (Err BadReply) h = ap by_outcome (sym h)
comes_is o (Err Lost) h = ap by_outcome (sym h)
comes_is o (Err (Moved a b)) h = ap by_outcome (sym h)
comes_is o (Err Requests) h = ap by_outcome (sym h)
comes_is o (Err (Value word)) h = absurd h
comes_is o (Err Order) h = absurd h

one_heard : (w : FetchWords) (heard : List Heard) (a b : Result (List ℕ) FetchRefusal) → IsHeardAnswer w heard a → IsHeardAnswer w heard b → a ≡ b
one_heard w heard a b h k =
    let window : h.window ≡ k.window = one_window w h.window k.window h.asked k.asked in
    let ends : Ends h.outcome ≡ Ends k.outcome = sym h.leads ∙ ap (λ (x : Window). way_after (Goes (begun x 1)) heard) window ∙ k.leads in
    let same : h.outcome ≡ k.outcome = cc in
    comes_is h.outcome a h.comes ∙ ap by_outcome same ∙ sym (comes_is k.outcome b k.comes)

pub one_fetch : (w : FetchWords) (heard : List Heard) (a b : Result (List ℕ) FetchRefusal) → IsFetchAnswer w heard a → IsFetchAnswer w heard b → a ≡ b
one_fetch w heard (Ok x) (Ok y) h k = one_heard w heard (Ok x) (Ok y) h k
one_fetch w heard (Ok x) (Err s) h (inl k) = absurd (not_both w s h.window k h.asked)
one_fetch w heard (Ok x) (Err s) h (inr k) = one_heard w heard (Ok x) (Err s) h k
one_fetch w heard (Err r) (Ok y) (inl h) k = absurd (not_both w r k.window h k.asked)
one_fetch w heard (Err r) (Ok y) (inr h) k = one_heard w heard (Err r) (Ok y) h k
one_fetch w heard (Err r) (Err s) (inl h) (inl k) = ap Err (one_refused w r s h k)
one_fetch w heard (Err r) (Err s) (inl h) (inr k) = absurd (not_both w r k.window h k.asked)
one_fetch w heard (Err r) (Err s) (inr h) (inl k) = absurd (not_both w s h.window k h.asked)
one_fetch w heard (Err r) (Err s) (inr h) (inr k) = one_heard w heard (Err r) (Err s) h k
