-- Who the credentials of a request name (RFC 2617, section 3.2.2).
use Rattle.std.specs.Prelude.{◌≡◌, ℕ, ◌-◌, ◌&&◌, nat_le, Bool, false, List, [], ◌∷◌, Option, Some, None, option_map, find, Result, Ok, Err, if◌then◌else◌}
use Rattle.std.specs.Str.{bytes_eq}
use Rattle.epochs.specs.Fields.{Value, words}
use Rattle.epochs.specs.Kinds.{Text}
use Rattle.epochs.specs.Lines.{LineValues}
use Rattle.epoch_rules.specs.Catalog.{is_user}
use Rattle.exact_time.specs.declared.moment.Moment.{Moment}
use Rattle.http_digest.proofs.HeaderLaw.{one_answer}
use Rattle.http_digest.specs.Nonces.{issue_of, second_of}
use Rattle.http_digest.specs.Responses.{response_of}
use Rattle.http_digest.specs.declared.authorization.AuthFault.{AuthFault}
use Rattle.http_digest.specs.declared.authorization.AuthFault.TheVariants as fault
use Rattle.http_digest.specs.declared.authorization.Authorization.{Authorization}
use Rattle.http_digest.specs.declared.authorization.Credentials.{Credentials}
use Rattle.http_digest.specs.declared.secret.Secret.{Secret}
use Rattle.access_digest.specs.declared.denial.Denial.{Denial}
use Rattle.access_digest.specs.declared.denial.Denial.TheVariants.{Absent, Unreadable, Stale, UnknownUser, WrongResponse}
use Rattle.access_digest.specs.declared.denial.WhoFault.{WhoFault}
use Rattle.access_digest.specs.declared.denial.WhoFault.TheVariants.{Denied, OutOfMemory}

-- what a header spells, by the law that it spells one authorization or none
unfoldable pub reading_of : List ℕ → Result Authorization AuthFault
reading_of header = (one_answer header).0

-- what is read, where it was made for this target
abbrev pub for_target : List ℕ → Result Authorization AuthFault → Result Authorization Denial
for_target target (Err fault) = Err Unreadable
for_target target (Ok a) = if bytes_eq a.uri target then Ok a else Err Unreadable

-- what the credentials say; without a header they say nothing
abbrev pub authorized : Option (List ℕ) → List ℕ → Result Authorization Denial
authorized None target = Err Absent
authorized (Some header) target = for_target target (reading_of header)

-- for how many seconds a nonce may be used
abbrev pub lifetime : ℕ
lifetime = 300

-- the nonce is one of ours, and the present second is no earlier than its issue second and within its lifetime
abbrev pub is_fresh : Option ℕ → Option ℕ → Bool
is_fresh (Some issued) (Some second) = nat_le issued second && nat_le (second - issued) lifetime
is_fresh _ _ = false

-- the digest of name, realm and password that the line of a user keeps
abbrev pub ha1_in : List Value → List ℕ
ha1_in (words name ∷ words ha1 ∷ values) = ha1
ha1_in _ = []

-- that of the live user of a name
abbrev pub ha1_of : List LineValues → Text → Option (List ℕ)
ha1_of live name = option_map (λ e. ha1_in e.values) (find (is_user name) live)

-- whether the response is the one that the user has to give
abbrev pub denial_by : Option (List ℕ) → Credentials → Authorization → Option Denial
denial_by None asked a = Some UnknownUser
denial_by (Some ha1) asked a =
    if bytes_eq a.response (response_of ha1 asked.method asked.target a.nonce a.auth) then None else Some WrongResponse

-- the first reason to deny what was read, if there is one
abbrev pub denial_of : List LineValues → Credentials → Moment → Secret → Authorization → Option Denial
denial_of live asked now secret a =
    if is_fresh (issue_of secret a.nonce) (second_of now.micros) then denial_by (ha1_of live a.user) asked a else Some Stale

abbrev pub named : Text → Option Denial → Result Text Denial
named user None = Ok user
named user (Some denial) = Err denial

abbrev pub who_by : List LineValues → Credentials → Moment → Secret → Result Authorization Denial → Result Text Denial
who_by live asked now secret (Ok a) = named a.user (denial_of live asked now secret a)
who_by live asked now secret (Err denial) = Err denial

-- The name of the user, or the first reason to deny: the header is absent; it can't be read or was made for
-- another target; its nonce isn't ours or is stale; its user isn't live; its response is wrong.
abbrev pub who_of : List LineValues → Credentials → Moment → Secret → Result Text Denial
who_of live asked now secret = who_by live asked now secret (authorized asked.header asked.target)

-- why no name was given: the answer is this denial; want of memory is free
abbrev pub Denies : {A : Type 0} → Result A Denial → WhoFault → Type 0
Denies answer (Denied denial) = answer ≡ Err denial
Denies answer OutOfMemory = Unit {0}

-- a header couldn't be read
abbrev pub Misreads : Result Authorization AuthFault → AuthFault → Type 0
Misreads answer fault.Unreadable = answer ≡ Err fault.Unreadable
Misreads answer fault.OutOfMemory = Unit {0}
