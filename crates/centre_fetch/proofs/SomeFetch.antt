-- Words of `fetch` that are refused have an answer, and words with what leads to an end of asking have one.
use Rattle.std.proofs.Common.{◌≡◌, inl, inr, ℕ, List, [], ◌∷◌, length, None, Result, Ok, Err, refl, ap, ◌∙◌}
use Rattle.std.proofs.lemmas.Bool.{cases_lt}
use Rattle.command_words.specs.Commands.{FetchWords}
use Rattle.split_fetch.specs.Fronts.{fronts_of, first_move}
use Rattle.split_fetch.specs.Gathering.{max_gathered, IsGathered}
use Rattle.split_fetch.specs.Rounds.{Ends}
use Rattle.split_fetch.specs.declared.answer.WindowAnswer.{WindowAnswer}
use Rattle.split_fetch.specs.declared.heard.Heard.{Heard}
use Rattle.split_fetch.specs.declared.heard.Outcome.{Outcome}
use Rattle.split_fetch.specs.declared.heard.Outcome.TheVariants as outcome
use Rattle.split_fetch.proofs.RoundsSound.{accepted}
use Rattle.centre_fetch.specs.Answers.{ComesOf, IsHeardOut, IsFetchAnswer}
use Rattle.centre_fetch.specs.Words.{IsWordsAnswer}
use Rattle.centre_fetch.specs.declared.ending.FetchRefusal.{FetchRefusal}
use Rattle.centre_fetch.specs.declared.ending.FetchRefusal.TheVariants.{NoData, TooLarge, Peer, BadReply, Lost, Moved, Requests}
use Rattle.centre_fetch.proofs.Decide.{can_be_asked}
use Rattle.centre_fetch.proofs.OneFetch.{all_bytes}

abbrev SomeComes : Outcome → Type 0
SomeComes o = (answer : Result (List ℕ) FetchRefusal) × ComesOf o answer

-- bytes that were gathered are some, or none
some_bytes : (taken : List WindowAnswer) (bytes : List ℕ) → IsGathered taken bytes → SomeComes (outcome.Done taken)
some_bytes taken [] h = (Err NoData, (taken, refl, h))
some_bytes taken (b ∷ bytes) h = (Ok (b ∷ bytes), (taken, refl, h, λ e. cc))

-- answers with one front are put together, or have too many bytes
all_taken : (taken : List WindowAnswer) → first_move (fronts_of taken) ≡ None → SomeComes (outcome.Done taken)
all_taken taken still =
    elim (cases_lt max_gathered (length (all_bytes taken))) [
      | inl above ↦ (Err (TooLarge (length (all_bytes taken)) 268_435_456), (taken, refl, (still, (refl, above)), refl))
      | inr fits ↦ some_bytes taken (all_bytes taken) (record { still = still; bytes_are = record { are = refl; small = fits } })
    ]

some_comes : (o : Outcome) → ((taken : List WindowAnswer) → o ≡ outcome.Done taken → first_move (fronts_of taken) ≡ None) → SomeComes o
some_comes (outcome.Done taken) still = all_taken taken (still taken refl)
some_comes outcome.Lost still = (Err Lost, refl)
some_comes (outcome.Moved a b) still = (Err (Moved a b), refl)
some_comes outcome.Requests still = (Err Requests, refl)
some_comes (outcome.Peer status) still = (Err (Peer status), refl)
some_comes outcome.BadReply still = (Err BadReply, refl)

is_answer : (w : FetchWords) (heard : List Heard) (h : IsHeardOut w heard) (answer : Result (List ℕ) FetchRefusal) → ComesOf h.outcome answer → IsFetchAnswer w heard answer
is_answer w heard h (Ok body) comes = record { window = h.window; asked = h.asked; outcome = h.outcome; leads = h.leads; comes = comes }
is_answer w heard h (Err refusal) comes = inr (record { window = h.window; asked = h.asked; outcome = h.outcome; leads = h.leads; comes = comes })

pub some_heard : (w : FetchWords) (heard : List Heard) → IsHeardOut w heard → (answer : Result (List ℕ) FetchRefusal) × IsFetchAnswer w heard answer
some_heard w heard h =
    let forward = (can_be_asked w h.window h.asked).forward in
    let some = some_comes h.outcome (λ taken e. (accepted h.window forward heard taken (h.leads ∙ ap Ends e)).1) in
    (some.0, is_answer w heard h some.0 some.1)

pub some_words : (w : FetchWords) (heard : List Heard) (answer : Result (List ℕ) FetchRefusal) → IsWordsAnswer w answer → IsFetchAnswer w heard answer
some_words w heard (Ok body) h = absurd h
some_words w heard (Err refusal) h = inl h
