-- Whom credentials name, as a function and in the subject's words.
use Rattle.std.proofs.Common.{◌≡◌, ℕ, ◌-◌, ◌≤◌, Bool, true, false, List, Option, Some, None, Result, Ok, Err, MatchResult, cond, refl, sym, ap, subst, ◌∙◌, arith}
use Rattle.std.specs.Prelude.{nat_le}
use Rattle.std.specs.Str.{bytes_eq}
use Rattle.std.proofs.lemmas.Bool.{and_parts, and_from, cond-true}
use Rattle.std.proofs.lemmas.Bool.Decides.{nat_tests}
use Rattle.std.proofs.lemmas.Slice.Eq.{bytes_eq-Decides}
use Rattle.epochs.specs.Kinds.{Text}
use Rattle.epochs.specs.Lines.{LineValues}
use Rattle.exact_time.specs.declared.moment.Moment.{Moment}
use Rattle.http_digest.proofs.AnswerLaw.{answer_reads_back}
use Rattle.http_digest.proofs.HeaderLaw.{one_answer}
use Rattle.http_digest.specs.Answers.{authorization_text, answer_meant}
use Rattle.http_digest.specs.Nonces.{issue_of, second_of}
use Rattle.http_digest.specs.Parts.{IsAuthorization, IsAuthFault}
use Rattle.http_digest.specs.Responses.{response_of}
use Rattle.http_digest.specs.declared.authorization.AuthFault.{AuthFault}
use Rattle.http_digest.specs.declared.authorization.Authorization.{Authorization}
use Rattle.http_digest.specs.declared.authorization.Credentials.{Credentials}
use Rattle.http_digest.specs.declared.secret.Secret.{Secret}
use Rattle.access_digest.specs.declared.denial.Denial.TheVariants.{Stale, UnknownUser, WrongResponse, Unreadable}
use Rattle.access_digest.specs.Who.{reading_of, for_target, authorized, lifetime, is_fresh, ha1_of, denial_by, named, who_by, who_of}
use Rattle.access_digest.specs.WhoLaw.{IsUsable, Names, IsAnswerOf}

-- what is read, the header spells, and the other way round
read_spells : (header : List ℕ) (a : Authorization) → reading_of header ≡ Ok a → IsAuthorization header a
unfolding reading_of
read_spells header a e = subst (λ r. MatchResult r (IsAuthorization header) (IsAuthFault header)) e (one_answer header).1.right

spells_read : (header : List ℕ) (a : Authorization) → IsAuthorization header a → reading_of header ≡ Ok a
unfolding reading_of
spells_read header a h = sym ((one_answer header).1.only (Ok a) h)

fresh_usable : (secret : Secret) (nonce : List ℕ) (now : Moment) (o s : Option ℕ) → issue_of secret nonce ≡ o → second_of now.micros ≡ s → is_fresh o s ≡ true → IsUsable secret nonce now
fresh_usable secret nonce now (Some issued) (Some second) i s h =
    let parts = and_parts (nat_le issued second) (nat_le (second - issued) lifetime) h in
    record {
      issued = issued;
      second = second;
      issued_at = i;
      second_is = s;
      begun = at_most issued second parts.0;
      within = let low = at_most issued second parts.0 in let high = at_most (second - issued) lifetime parts.1 in omega (arith, low, high);
    }
  where
    at_most : (a b : ℕ) → nat_le a b ≡ true → a ≤ b
    at_most a b h = grind (arith, nat_tests)
fresh_usable secret nonce now None s i e h = absurd (let bad : false ≡ true = h in cc)
fresh_usable secret nonce now (Some issued) None i e h = absurd (let bad : false ≡ true = h in cc)

usable_fresh : (secret : Secret) (nonce : List ℕ) (now : Moment) → IsUsable secret nonce now → is_fresh (issue_of secret nonce) (second_of now.micros) ≡ true
usable_fresh secret nonce now h =
    ap (λ o. is_fresh o (second_of now.micros)) h.issued_at
    ∙ ap (is_fresh (Some h.issued)) h.second_is
    ∙ and_from (nat_le h.issued h.second) (nat_le (h.second - h.issued) lifetime) (test h.issued h.second h.begun)
    (test (h.second - h.issued) lifetime (let b = h.begun in let w = h.within in omega (arith, b, w)))
  where
    test : (a b : ℕ) → a ≤ b → nat_le a b ≡ true
    test a b h = grind (arith, nat_tests)

module _ (live : List LineValues) (asked : Credentials) (now : Moment) (secret : Secret) (user : Text) where
  by_response : (header : List ℕ) (a : Authorization) (ha1 : List ℕ) → asked.header ≡ Some header → IsAuthorization header a → a.uri ≡ asked.target → IsUsable secret a.nonce now
      → ha1_of live a.user ≡ Some ha1 → (same : Bool) → bytes_eq a.response (response_of ha1 asked.method asked.target a.nonce a.auth) ≡ same
      → named a.user (cond same None (Some WrongResponse)) ≡ Ok user → Names live asked now secret user
  by_response header a ha1 there spells target usable lives true is h =
      let same : a.user ≡ user = let e : Ok a.user ≡ Ok user = h in cc in
      record {
        header = header;
        there = there;
        read = a;
        spells = spells;
        for_target = target;
        user_is = same;
        usable = usable;
        ha1 = ha1;
        lives = ap (ha1_of live) (sym same) ∙ lives;
        answers = (bytes_eq-Decides a.response (response_of ha1 asked.method asked.target a.nonce a.auth)).0 is;
      }
  by_response header a ha1 there spells target usable lives false is h = absurd (let e : Err WrongResponse ≡ Ok user = h in cc)

  by_user : (header : List ℕ) (a : Authorization) → asked.header ≡ Some header → IsAuthorization header a → a.uri ≡ asked.target → IsUsable secret a.nonce now
      → (o : Option (List ℕ)) → ha1_of live a.user ≡ o → named a.user (denial_by o asked a) ≡ Ok user → Names live asked now secret user
  by_user header a there spells target usable (Some ha1) is h =
      by_response header a ha1 there spells target usable is (bytes_eq a.response (response_of ha1 asked.method asked.target a.nonce a.auth)) refl h
  by_user header a there spells target usable None is h = absurd (let e : Err UnknownUser ≡ Ok user = h in cc)

  by_nonce : (header : List ℕ) (a : Authorization) → asked.header ≡ Some header → IsAuthorization header a → a.uri ≡ asked.target
      → (fresh : Bool) → is_fresh (issue_of secret a.nonce) (second_of now.micros) ≡ fresh
      → named a.user (cond fresh (denial_by (ha1_of live a.user) asked a) (Some Stale)) ≡ Ok user → Names live asked now secret user
  by_nonce header a there spells target true is h =
      by_user header a there spells target (fresh_usable secret a.nonce now (issue_of secret a.nonce) (second_of now.micros) refl refl is) (ha1_of live a.user) refl h
  by_nonce header a there spells target false is h = absurd (let e : Err Stale ≡ Ok user = h in cc)

  by_target : (header : List ℕ) (a : Authorization) → asked.header ≡ Some header → IsAuthorization header a → (same : Bool) → bytes_eq a.uri asked.target ≡ same
      → who_by live asked now secret (cond same (Ok a) (Err Unreadable)) ≡ Ok user → Names live asked now secret user
  by_target header a there spells true is h =
      by_nonce header a there spells ((bytes_eq-Decides a.uri asked.target).0 is) (is_fresh (issue_of secret a.nonce) (second_of now.micros)) refl h
  by_target header a there spells false is h = absurd (let e : Err Unreadable ≡ Ok user = h in cc)

  by_reading : (header : List ℕ) → asked.header ≡ Some header → (r : Result Authorization AuthFault) → reading_of header ≡ r
      → who_by live asked now secret (for_target asked.target r) ≡ Ok user → Names live asked now secret user
  by_reading header there (Ok a) is h = by_target header a there (read_spells header a is) (bytes_eq a.uri asked.target) refl h
  by_reading header there (Err fault) is h = absurd (let e : Err Unreadable ≡ Ok user = h in cc)

  by_header : (o : Option (List ℕ)) → asked.header ≡ o → who_by live asked now secret (authorized o asked.target) ≡ Ok user → Names live asked now secret user
  by_header (Some header) is h = by_reading header is (reading_of header) refl h
  by_header None is h = absurd (let bad : who_by live asked now secret (authorized None asked.target) ≡ Ok user = h in cc)

  pub who_names : who_of live asked now secret ≡ Ok user → Names live asked now secret user
  who_names h = by_header asked.header refl h

  pub names_who : Names live asked now secret user → who_of live asked now secret ≡ Ok user
  names_who n =
      let a = n.read in
      let lives : ha1_of live a.user ≡ Some n.ha1 = ap (ha1_of live) n.user_is ∙ n.lives in
      ap (λ o. who_by live asked now secret (authorized o asked.target)) n.there
      ∙ ap (λ r. who_by live asked now secret (for_target asked.target r)) (spells_read n.header a n.spells)
      ∙ ap (who_by live asked now secret) (cond-true _ _ _ ((bytes_eq-Decides a.uri asked.target).1 n.for_target))
      ∙ ap (named a.user) (cond-true _ _ _ (usable_fresh secret a.nonce now n.usable))
      ∙ ap (λ o. named a.user (denial_by o asked a)) lives
      ∙ ap (named a.user) (cond-true _ _ _ ((bytes_eq-Decides a.response (response_of n.ha1 asked.method asked.target a.nonce a.auth)).1 n.answers))
      ∙ ap Ok n.user_is

  -- an answer to a challenge proves its user
  pub answer_names : IsAnswerOf live asked now secret user → who_of live asked now secret ≡ Ok user
  answer_names h = names_who (record {
    header = authorization_text user h.ha1 asked.method asked.target h.nonce;
    there = h.there;
    read = answer_meant user h.ha1 asked.method asked.target h.nonce;
    spells = answer_reads_back user h.ha1 asked.method asked.target h.nonce h.user_is h.target_is h.nonce_is;
    for_target = refl;
    user_is = refl;
    usable = h.usable;
    ha1 = h.ha1;
    lives = h.lives;
    answers = refl;
  })
