-- What is kept of a history to judge the next command.
use Rattle.std.specs.Prelude.{◌≡◌, ℕ, ◌-◌, ◌≤◌, true, List, length, Option, None, Some, Ok}
use Rattle.std.specs.List.{slice_get}
use Rattle.exact_time.specs.declared.moment.Moment.{Moment}
use Rattle.epochs.specs.Kinds.{Text}
use Rattle.http_digest.specs.declared.secret.Secret.{Secret}
use Rattle.access_digest.specs.Who.{who_of}
use Rattle.archive_entry.specs.declared.entry.Entry.{Entry}
use Rattle.archive_state.specs.Authors.{numbers_in}
use Rattle.archive_state.specs.History.{live_of, records_of, bytes_of, earlier_of, last_seq}
use Rattle.archive_state.specs.Lawful.{is_next}
use Rattle.archive_state.specs.declared.admit.Admit.{Admit}
use Rattle.archive_state.specs.declared.posted.Posted.{Posted}

abbrev pub number_of : Option Entry → Option ℕ
number_of None = None
number_of (Some e) = Some e.number

-- These are the numbers of the author's entries of a history: as many as the author's last sequence number, and for
-- each sequence number that of its entry.
pub record AreNumbers (numbers : List ℕ) (h : List Entry) (author : Text) : Type 0 where
  pub last : length numbers ≡ last_seq h author
  pub each : (seq : ℕ) → 1 ≤ seq → slice_get numbers (seq - 1) ≡ number_of (earlier_of h author seq)

-- what is kept stands for the history: its live lines, its sums, and the numbers of each author's entries
pub record IsAdmit (admit : Admit) (h : List Entry) : Type 0 where
  pub live : admit.catalog ≡ live_of h
  pub count : admit.sums.count ≡ length h
  pub records : admit.sums.records ≡ records_of h
  pub bytes : admit.sums.bytes ≡ bytes_of h
  pub numbers : (author : Text) → AreNumbers (numbers_in admit.authors author) h author

-- the entry is the next one of a history for which it stands
pub record IsNextOf (admit : Admit) (e : Entry) : Type 0 where
  pub history : List Entry
  pub stands : IsAdmit admit history
  pub next : is_next history e ≡ true

-- Where the credentials name a user, this is that user's entry with the posted sequence number, if there is one.
abbrev pub IsEarlierEntry : List Entry → Posted → Moment → Secret → Option Entry → Type 0
IsEarlierEntry h posted moment secret earlier =
    (author : Text) → who_of (live_of h) posted.credentials moment secret ≡ Ok author → earlier ≡ earlier_of h author posted.seq

-- it stands for some history
abbrev pub StandsForSome : Admit → Type 0
StandsForSome admit = (h : List Entry) × IsAdmit admit h
