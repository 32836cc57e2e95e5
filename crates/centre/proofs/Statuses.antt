-- Which refusals have a status.
use Rattle.std.proofs.Common.{◌≡◌, ◌⊎◌, ◌==◌, inl, inr, ℕ, refl}
use Rattle.std.specs.Prelude.{MatchBool, ⊤}
use Rattle.centre.specs.Status.{status_of_refusal}
use Rattle.centre.specs.declared.ending.Refusal.{Refusal}
use Rattle.centre.specs.declared.ending.Refusal.TheVariants.{UnknownCommand, Value, Order, Record, NoData, TooLarge, TooManyLines, InputTooLong, NotEmpty, NotAJournal, Damaged, RequestCut, Peer, BadReply, Lost, Moved, Requests}

-- one of the refusals with this status has it
abbrev pub Of : (Refusal → Type 0) → ℕ → Type 0
Of P n =
    MatchBool (n == 1) (P UnknownCommand)
    (MatchBool (n == 2) ((refusal : Refusal) × P refusal × (status_of_refusal refusal ≡ 2))
    (MatchBool (n == 3) (P NoData)
    (MatchBool (n == 4) (((bytes : ℕ) × (limit : ℕ) × P (TooLarge bytes limit)) ⊎ ((lines : ℕ) × (limit : ℕ) × P (TooManyLines lines limit)))
    (MatchBool (n == 9) (P NotEmpty ⊎ (P NotAJournal ⊎ ((at : ℕ) × P (Damaged at))))
    (MatchBool (n == 10) (P InputTooLong)
    (MatchBool (n == 11) (P RequestCut)
    (MatchBool (n == 13) ((status : ℕ) × P (Peer status))
    (MatchBool (n == 14) (P BadReply)
    (MatchBool (n == 15) (P Lost ⊎ ((a : ℕ) × (b : ℕ) × P (Moved a b)))
    (MatchBool (n == 18) (P Requests) ⊤))))))))))

pub of_status : (P : Refusal → Type 0) (refusal : Refusal) → P refusal → Of P (status_of_refusal refusal)
of_status P UnknownCommand p = p
of_status P (Value word) p = (Value word, p, refl)
of_status P Order p = (Order, p, refl)
of_status P (Record at fault) p = (Record at fault, p, refl)
of_status P NoData p = p
of_status P (TooLarge bytes limit) p = inl (bytes, limit, p)
of_status P (TooManyLines lines limit) p = inr (lines, limit, p)
of_status P NotEmpty p = inl p
of_status P NotAJournal p = inr (inl p)
of_status P (Damaged at) p = inr (inr (at, p))
of_status P InputTooLong p = p
of_status P RequestCut p = p
of_status P (Peer status) p = (status, p)
of_status P BadReply p = p
of_status P Lost p = inl p
of_status P (Moved a b) p = inr (a, b, p)
of_status P Requests p = p
