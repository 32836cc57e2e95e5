-- The entry of an accepted post comes next, and an author's earlier entry stands at its number.
use Rattle.std.proofs.Common.{◌≡◌, ◌∙◌, ◌==◌, ◌&&◌, ◌||◌, is_some, ℕ, zero, suc, ◌-◌, ◌≤◌, Bool, true, false, cond, List, [], ◌∷◌, Option, None, Some, Result, Ok, refl, sym, ap, arith, find}
use Rattle.std.specs.List.{slice_get}
use Rattle.exact_time.specs.declared.moment.Moment.{Moment}
use Rattle.epochs.specs.Kinds.{Text}
use Rattle.access_digest.specs.Who.{who_of}
use Rattle.access_digest.specs.declared.denial.Denial.{Denial}
use Rattle.archive_entry.specs.declared.entry.Entry.{Entry}
use Rattle.archive_state.specs.Admits.{number_of}
use Rattle.archive_state.specs.History.{live_of, is_by, earlier_of}
use Rattle.archive_state.specs.Lawful.{IsLawful, is_accept, is_next}
use Rattle.archive_state.specs.Verdicts.{command, judged_of, verdict_by, entry_of}
use Rattle.archive_state.specs.declared.posted.Posted.{Posted}
use Rattle.archive_state.specs.declared.verdict.Verdict.{Verdict}
use Rattle.archive_state.specs.declared.verdict.Verdict.TheVariants.{Accept}
use Rattle.archive_state.proofs.Accepts.{accept_number}
use Rattle.archive_state.proofs.Sendings.{accepted_is_next, number_at}
use Rattle.desk_words.specs.Posting.{can_be_posted, posted_entry, ruling, command_by, entry_by, may_stop, could_stop}
use Rattle.desk_words.specs.Setting.{Setting}

-- ---- an accepted post

judged_so : (w : Result Text Denial) (h : List Entry) (p : Posted) (s : Setting) (name : Text) (n : ℕ) → w ≡ Ok name → verdict_by h s.limits p w ≡ Accept n → judged_of h s.limits (command name p.seq p.kind p.body) ≡ Accept n
judged_so w h p s name n who is = ap (verdict_by h s.limits p) (sym who) ∙ is

module _ (h : List Entry) (p : Posted) (m : Moment) (s : Setting) (name : Text) (n : ℕ) (who : who_of (live_of h) p.credentials m s.secret ≡ Ok name) (is : ruling h p m s ≡ Accept n) where
  accepted : judged_of h s.limits (command name p.seq p.kind p.body) ≡ Accept n
  accepted = judged_so (who_of (live_of h) p.credentials m s.secret) h p s name n who is

  -- its entry
  pub entry_is : posted_entry h p m s ≡ Some (entry_of h (command name p.seq p.kind p.body) m)
  entry_is = ap (λ (w : Result Text Denial). entry_by h m (command_by p w)) who

  -- the entry that is made of what was posted is this one
  pub made_entry : (e : Entry) → e ≡ record { number = n; moment = m; author = name; seq = p.seq; kind = p.kind; body = p.body } → e ≡ entry_of h (command name p.seq p.kind p.body) m
  made_entry e made =
      let number = accept_number h s.limits (command name p.seq p.kind p.body) n accepted in
      made ∙ (λ i. record { number = number i; moment = m; author = name; seq = p.seq; kind = p.kind; body = p.body })

  -- a disk could stop it
  pub could : could_stop h p m s ≡ true
  could =
      ap (λ (w : Result Text Denial). may_stop h s.limits (command_by p w)) who
      ∙ ap (λ (v : Verdict). is_accept v || is_some (earlier_of h name p.seq)) accepted

  pub entry_next : can_be_posted p m ≡ true → is_next h (entry_of h (command name p.seq p.kind p.body) m) ≡ true
  entry_next fit = accepted_is_next h s.limits (record { command = command name p.seq p.kind p.body; moment = m }) fit (ap is_accept accepted)

-- ---- an author's earlier entry

record Found (h : List Entry) (e : Entry) : Type 0 where
  place : ℕ
  at : slice_get h place ≡ Some e

found_at : (p : Entry → Bool) (h : List Entry) (e : Entry) → find p h ≡ Some e → Found h e
found_at p [] e is = absurd (cc)
found_at p (x ∷ h) e is =
    elim (p x) as (λ b. p x ≡ b → cond b (Some x) (find p h) ≡ Some e → Found (x ∷ h) e) [
      | true ↦ λ _ found. record { place = zero; at = found }
      | false ↦ λ _ found. let rest = found_at p h e found in record { place = suc rest.place; at = rest.at }
    ] refl is

by_number : (h : List Entry) (author : Text) (seq : ℕ) (o : Option Entry) (n : ℕ) → IsLawful h → earlier_of h author seq ≡ o → Some n ≡ number_of o → slice_get h (n - 1) ≡ o
by_number h author seq None n lawful is number = absurd (cc)
by_number h author seq (Some e) n lawful is number =
    let found = found_at (λ x. is_by author x && x.seq == seq) h e is in
    let same : n ≡ e.number = cc in
    let place : n - 1 ≡ found.place = omega (arith, same, number_at h found.place e lawful found.at) in
    ap (slice_get h) place ∙ found.at

-- the entry that its number names
pub earlier_there : (h : List Entry) (author : Text) (seq n : ℕ) → IsLawful h → Some n ≡ number_of (earlier_of h author seq) → slice_get h (n - 1) ≡ earlier_of h author seq
earlier_there h author seq n lawful number = by_number h author seq (earlier_of h author seq) n lawful refl number

none_there : (o : Option Entry) → None ≡ number_of o → None ≡ o
none_there None is = refl
none_there (Some e) is = absurd (cc)

pub earlier_absent : (h : List Entry) (author : Text) (seq : ℕ) → None ≡ number_of (earlier_of h author seq) → None ≡ earlier_of h author seq
earlier_absent h author seq is = none_there (earlier_of h author seq) is

some_number : (h : List Entry) (o : Option Entry) (n : ℕ) → ((e : Entry) → o ≡ Some e → 1 ≤ e.number) → Some n ≡ number_of o → 1 ≤ n
some_number h None n least is = absurd (cc)
some_number h (Some e) n least is = let same : n ≡ e.number = cc in omega (arith, same, least e refl)

-- a number is from 1 on
pub earlier_some : (h : List Entry) (author : Text) (seq n : ℕ) → IsLawful h → Some n ≡ number_of (earlier_of h author seq) → 1 ≤ n
earlier_some h author seq n lawful is =
    some_number h (earlier_of h author seq) n (λ e at. let found = found_at (λ x. is_by author x && x.seq == seq) h e at in omega (arith, number_at h found.place e lawful found.at)) is
