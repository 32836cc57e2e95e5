-- The user whom credentials name is live.
use Rattle.std.proofs.Common.{◌≡◌, ◌∙◌, Bool, true, false, cond, List, [], ◌∷◌, Option, None, Some, Result, Ok, Err, refl, sym, ap, find}
use Rattle.std.specs.Option.{option_map}
use Rattle.std.proofs.lemmas.Slice.Eq.{bytes_eq-Decides}
use Rattle.epochs.specs.declared.parts.Roles.{Roles}
use Rattle.epochs.specs.Kinds.{Text}
use Rattle.epochs.specs.Lines.{LineValues}
use Rattle.epochs.specs.Values.{user_line}
use Rattle.epoch_rules.specs.Catalog.{is_user}
use Rattle.exact_time.specs.declared.moment.Moment.{Moment}
use Rattle.http_digest.specs.Nonces.{issue_of, second_of}
use Rattle.http_digest.specs.declared.authorization.Authorization.{Authorization}
use Rattle.http_digest.specs.declared.authorization.Credentials.{Credentials}
use Rattle.http_digest.specs.declared.secret.Secret.{Secret}
use Rattle.access_digest.specs.Who.{ha1_in, ha1_of, is_fresh, denial_by, denial_of, named, who_by, who_of, authorized}
use Rattle.access_digest.specs.declared.denial.Denial.{Denial}
use Rattle.access_digest.specs.declared.denial.Denial.TheVariants.{Stale}

-- of a choice without a denial
no_denial : (b : Bool) (d : Option Denial) → cond b d (Some Stale) ≡ None → d ≡ None
no_denial true d is = is
no_denial false d is = absurd (cc)

some_ha1 : (o : Option LineValues) (asked : Credentials) (a : Authorization) → denial_by (option_map (λ e. ha1_in e.values) o) asked a ≡ None → (line : LineValues) × (o ≡ Some line)
some_ha1 None asked a is = absurd (cc)
some_ha1 (Some line) asked a is = (line, refl)

named_so : (user name : Text) (d : Option Denial) → named user d ≡ Ok name → (user ≡ name) × (d ≡ None)
named_so user name None is = ((cc), refl)
named_so user name (Some denial) is = absurd (cc)

by_reading : (live : List LineValues) (asked : Credentials) (now : Moment) (secret : Secret) (name : Text) (r : Result Authorization Denial) → who_by live asked now secret r ≡ Ok name → (line : LineValues) × (find (is_user name) live ≡ Some line)
by_reading live asked now secret name (Err denial) is = absurd (cc)
by_reading live asked now secret name (Ok a) is =
    let says = named_so a.user name (denial_of live asked now secret a) is in
    let rest = no_denial (is_fresh (issue_of secret a.nonce) (second_of now.micros)) (denial_by (ha1_of live a.user) asked a) says.1 in
    let found = some_ha1 (find (is_user a.user) live) asked a rest in
    (found.0, ap (λ (n : Text). find (is_user n) live) (sym says.0) ∙ found.1)

-- there is a line of the user
pub who_is_live : (live : List LineValues) (asked : Credentials) (now : Moment) (secret : Secret) (name : Text) → who_of live asked now secret ≡ Ok name → (line : LineValues) × (find (is_user name) live ≡ Some line)
who_is_live live asked now secret name is = by_reading live asked now secret name (authorized asked.header asked.target) is

found_holds : (p : LineValues → Bool) (live : List LineValues) (line : LineValues) → find p live ≡ Some line → p line ≡ true
found_holds p [] line is = absurd (cc)
found_holds p (e ∷ live) line is =
    elim (p e) as (λ b. p e ≡ b → cond b (Some e) (find p live) ≡ Some line → p line ≡ true) [
      | true ↦ λ h found. let same : e ≡ line = cc in ap p (sym same) ∙ h
      | false ↦ λ h found. found_holds p live line found
    ] refl is

-- a user's line that is found by a name has that name
pub named_user : (name n ha1 : Text) (r : Roles) (live : List LineValues) → Some (user_line n ha1 r) ≡ find (is_user name) live → n ≡ name
named_user name n ha1 r live found = (bytes_eq-Decides n name).0 (found_holds (is_user name) live (user_line n ha1 r) (sym found))
