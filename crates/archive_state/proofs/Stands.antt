-- What is kept of a history stands for it, and for the history with the next entry.
use Rattle.std.proofs.Common.{◌≡◌, inl, inr, ◌==◌, ◌&&◌, ℕ, zero, suc, ◌+◌, ◌-◌, ◌≤◌, Bool, true, false, cond, List, [], ◌∷◌, ◌++◌, length, Option, None, Some, refl, sym, ap, subst, ◌∙◌, arith, length-append}
use Rattle.std.specs.Prelude.{max, if◌then◌else◌, Result, Ok, Err, IfOk}
use Rattle.std.specs.List.{slice_get}
use Rattle.std.specs.Option.{option_or}
use Rattle.std.specs.Str.{bytes_eq}
use Rattle.std.proofs.lemmas.Bool.{cases_Bool, eqb-true}
use Rattle.std.proofs.lemmas.Bool.Decides.{nat_tests}
use Rattle.std.proofs.lemmas.Slice.Eq.{bytes_eq-Decides}
use Rattle.exact_time.specs.declared.error.OutOfMemory.{OutOfMemory}
use Rattle.epochs.specs.Kinds.{Text}
use Rattle.epoch_rules.specs.LiveLines.{live_lines}
use Rattle.archive_entry.specs.declared.entry.Entry.{Entry}
use Rattle.archive_state.specs.declared.admit.Admit.{Admit}
use Rattle.archive_state.specs.declared.limits.Limits.{Limits}
use Rattle.archive_state.specs.declared.verdict.Verdict.{Verdict}
use Rattle.archive_state.specs.Admits.{IsAdmit, AreNumbers, number_of}
use Rattle.archive_state.specs.Authors.{numbers_in, with_entry}
use Rattle.archive_state.specs.History.{lines_of, records_by, is_by, earlier_of, last_seq}
use Rattle.archive_state.specs.Lawful.{is_founding, is_later, is_next, is_accept, is_fit, full}
use Rattle.archive_state.specs.Verdicts.{Command, command, command_of, totals, judged, judged_of}
use Rattle.archive_state.proofs.Accepts.{accepted, later_parts, Follows, next_follows}
use Rattle.archive_state.proofs.Growth.{live_more, records_more, bytes_more, last_more, earlier_more}

-- the verdict over what is kept is that over the history
pub judged_is : (k : Admit) (h : List Entry) (limits : Limits) (c : Command) (earlier : Option Entry) → IsAdmit k h → earlier ≡ earlier_of h c.author c.seq
    → judged (totals k.catalog k.sums.count k.sums.records k.sums.bytes) limits c earlier (length (numbers_in k.authors c.author)) ≡ judged_of h limits c
unfolding judged_of
judged_is k h limits c earlier is same =
    λ i. judged (totals (is.live i) (is.count i) (is.records i) (is.bytes i)) limits c (same i) ((is.numbers c.author).last i)

pub judged_by : (k : Admit) (limits : Limits) (c : Command) (earlier : Option Entry) (r : Result Verdict OutOfMemory)
    → IfOk r (λ v. v ≡ judged (totals k.catalog k.sums.count k.sums.records k.sums.bytes) limits c earlier (length (numbers_in k.authors c.author)))
    → IfOk r (λ v. (h : List Entry) → IsAdmit k h → earlier ≡ earlier_of h c.author c.seq → v ≡ judged_of h limits c)
judged_by k limits c earlier (Ok v) found = λ h is same. found ∙ judged_is k h limits c earlier is same
judged_by k limits c earlier (Err e) found = tt

-- ---- the numbers of an author's entries

bytes_eq-same : (xs : List ℕ) → bytes_eq xs xs ≡ true
bytes_eq-same xs = (bytes_eq-Decides xs xs).1 refl

suc_not_zero : (i : ℕ) → (suc i == 0) ≡ false
suc_not_zero i = grind (arith, nat_tests)

suc_same : (i k : ℕ) → (suc i == suc k) ≡ (i == k)
suc_same i k = grind (arith, nat_tests)

get_more : (ns : List ℕ) (n i : ℕ) → slice_get (ns ++ n ∷ []) i ≡ option_or (slice_get ns i) (if i == length ns then Some n else None)
get_more [] n zero = refl
get_more [] n (suc i) = ap (λ (b : Bool). cond b (Some n) None) (sym (suc_not_zero i))
get_more (m ∷ ns) n zero = refl
get_more (m ∷ ns) n (suc i) = get_more ns n i ∙ ap (λ (b : Bool). option_or (slice_get ns i) (cond b (Some n) None)) (sym (suc_same i (length ns)))

none_past : (ns : List ℕ) (i : ℕ) → slice_get ns i ≡ None → length ns ≤ i
none_past [] i e = omega arith
none_past (n ∷ ns) zero e = absurd cc
none_past (n ∷ ns) (suc i) e = omega (arith, none_past ns i e)

number_or : (a b : Option Entry) → number_of (option_or a b) ≡ option_or (number_of a) (number_of b)
number_or None b = refl
number_or (Some e) b = refl

number_if : (b : Bool) (e : Entry) → number_of (if b then Some e else None) ≡ (if b then Some e.number else None)
number_if true e = refl
number_if false e = refl

-- the author's number of the next entry
next_last : (ns : List ℕ) (h : List Entry) (e : Entry) → AreNumbers ns h e.author → Follows h e → e.seq ≡ length ns + 1
next_last ns h e are f =
    let past = none_past ns (e.seq - 1) (are.each e.seq f.some ∙ ap number_of f.none) in
    omega (arith, past, are.last, f.follows, f.some)

same_test : (seq n k : ℕ) → 1 ≤ seq → n ≡ k + 1 → (n == seq) ≡ (seq - 1 == k)
same_test seq n k h e = grind (arith, nat_tests)

or_none : (a : Option ℕ) → option_or a None ≡ a
or_none None = refl
or_none (Some n) = refl

-- one entry of the author more
own_more : (ns : List ℕ) (h : List Entry) (e : Entry) → AreNumbers ns h e.author → Follows h e → AreNumbers (ns ++ e.number ∷ []) (h ++ e ∷ []) e.author
own_more ns h e are f =
    let own : is_by e.author e ≡ true = bytes_eq-same e.author in
    let seq = next_last ns h e are f in
    record {
      last = (let longer : length (ns ++ e.number ∷ []) ≡ length ns + 1 = length-append ns (e.number ∷ []) in
          let more : last_seq (h ++ e ∷ []) e.author ≡ max (last_seq h e.author) e.seq = last_more h e e.author ∙ ap (λ (b : Bool). cond b (max (last_seq h e.author) e.seq) (last_seq h e.author)) own in
          omega (arith, longer, more, are.last, seq));
      each = λ s some.
          get_more ns e.number (s - 1)
          ∙ (λ i. option_or (are.each s some i) (cond (sym (same_test s e.seq (length ns) some seq) i) (Some e.number) None))
          ∙ ap (option_or (number_of (earlier_of h e.author s))) (sym (number_if (e.seq == s) e))
          ∙ sym (number_or (earlier_of h e.author s) (cond (e.seq == s) (Some e) None))
          ∙ ap (λ (b : Bool). number_of (option_or (earlier_of h e.author s) (cond (b && e.seq == s) (Some e) None))) (sym own)
          ∙ ap number_of (sym (earlier_more h e e.author s));
    }

-- an entry of another author
other_more : (ns : List ℕ) (h : List Entry) (e : Entry) (author : Text) → is_by author e ≡ false → AreNumbers ns h author → AreNumbers ns (h ++ e ∷ []) author
other_more ns h e author other are = record {
  last = are.last ∙ sym (last_more h e author ∙ ap (λ (b : Bool). cond b (max (last_seq h author) e.seq) (last_seq h author)) other);
  each = λ s some.
      are.each s some ∙ sym (or_none (number_of (earlier_of h author s)))
      ∙ sym (number_or (earlier_of h author s) None)
      ∙ ap (λ (b : Bool). number_of (option_or (earlier_of h author s) (cond (b && e.seq == s) (Some e) None))) (sym other)
      ∙ ap number_of (sym (earlier_more h e author s));
}

-- an entry without a sequence number
zero_more : (ns : List ℕ) (h : List Entry) (e : Entry) (author : Text) → e.seq ≡ 0 → AreNumbers ns h author → AreNumbers ns (h ++ e ∷ []) author
zero_more ns h e author none are =
    elim (cases_Bool (is_by author e)) [
      | inr other ↦ other_more ns h e author other are
      | inl own ↦ record {
        last = (let more : last_seq (h ++ e ∷ []) author ≡ max (last_seq h author) e.seq = last_more h e author ∙ ap (λ (b : Bool). cond b (max (last_seq h author) e.seq) (last_seq h author)) own in
            omega (arith, more, are.last, none));
        each = λ s some.
            (let apart : (e.seq == s) ≡ false = grind (arith, nat_tests) in
            are.each s some ∙ sym (or_none (number_of (earlier_of h author s)))
            ∙ sym (number_or (earlier_of h author s) None)
            ∙ ap (λ (b : Bool). number_of (option_or (earlier_of h author s) (cond b (Some e) None))) (sym (and_false (is_by author e) (e.seq == s) apart))
            ∙ ap number_of (sym (earlier_more h e author s)));
      }
    ]
  where
    and_false : (a b : Bool) → b ≡ false → (a && b) ≡ false
    and_false true b h = h
    and_false false b h = refl

author_is : (e : Entry) (author : Text) → is_by author e ≡ true → e.author ≡ author
author_is e author h = (bytes_eq-Decides e.author author).0 h

-- the number of the next entry behind its author's others
put_own : (ns : List ℕ) (h : List Entry) (e : Entry) (author : Text) → Follows h e → AreNumbers ns h author
    → AreNumbers (if bytes_eq e.author author then ns ++ e.number ∷ [] else ns) (h ++ e ∷ []) author
put_own ns h e author f are =
    elim (is_by author e) as (λ b. is_by author e ≡ b → AreNumbers (if b then ns ++ e.number ∷ [] else ns) (h ++ e ∷ []) author) [
      | true ↦ λ is.
          (let same = author_is e author is in
          subst (λ (a : Text). AreNumbers (ns ++ e.number ∷ []) (h ++ e ∷ []) a) same
          (own_more ns h e (subst (λ (a : Text). AreNumbers ns h a) (sym same) are) f))
      | false ↦ λ is. other_more ns h e author is are
    ] refl

-- ---- one entry more

-- what is kept once an entry is taken in
pub record TakesIn (old new : Admit) (e : Entry) : Type 0 where
  pub live : new.catalog ≡ live_lines (old.catalog ++ lines_of e)
  pub count : new.sums.count ≡ old.sums.count + 1
  pub records : new.sums.records ≡ old.sums.records + records_by e.kind e.body
  pub bytes : new.sums.bytes ≡ old.sums.bytes + length e.body

totals_more : (old new : Admit) (h : List Entry) (e : Entry) → IsAdmit old h → TakesIn old new e → ((author : Text) → AreNumbers (numbers_in new.authors author) (h ++ e ∷ []) author) → IsAdmit new (h ++ e ∷ [])
totals_more old new h e is takes numbers = record {
  live = takes.live ∙ ap (λ ls. live_lines (ls ++ lines_of e)) is.live ∙ sym (live_more h e);
  count = (let longer : length (h ++ e ∷ []) ≡ length h + 1 = length-append h (e ∷ []) in omega (arith, longer, takes.count, is.count));
  records = takes.records ∙ ap (λ (n : ℕ). n + records_by e.kind e.body) is.records ∙ sym (records_more h e);
  bytes = takes.bytes ∙ ap (λ (n : ℕ). n + length e.body) is.bytes ∙ sym (bytes_more h e);
  numbers = numbers;
}

-- an entry of a sequence number
pub stands_more : (old new : Admit) (h : List Entry) (e : Entry) → IsAdmit old h → is_next h e ≡ true → ¬ (e.seq ≡ 0) → TakesIn old new e
    → ((author : Text) → numbers_in new.authors author ≡ (if bytes_eq e.author author then numbers_in old.authors author ++ e.number ∷ [] else numbers_in old.authors author)) → IsAdmit new (h ++ e ∷ [])
stands_more old new h e is next some takes numbers =
    elim (next_follows h e next) [
      | inl none ↦ absurd (some none)
      | inr f ↦ totals_more old new h e is takes (λ author. subst (λ (ns : List ℕ). AreNumbers ns (h ++ e ∷ []) author) (sym (numbers author)) (put_own (numbers_in old.authors author) h e author f (is.numbers author)))
    ]

-- an entry without one
pub stands_first : (old new : Admit) (h : List Entry) (e : Entry) → IsAdmit old h → e.seq ≡ 0 → TakesIn old new e → ((author : Text) → numbers_in new.authors author ≡ numbers_in old.authors author) → IsAdmit new (h ++ e ∷ [])
stands_first old new h e is none takes numbers =
    totals_more old new h e is takes (λ author. subst (λ (ns : List ℕ). AreNumbers ns (h ++ e ∷ []) author) (sym (numbers author)) (zero_more (numbers_in old.authors author) h e author none (is.numbers author)))

pub stands_next : (old new : Admit) (h : List Entry) (e : Entry) → IsAdmit old h → is_next h e ≡ true → TakesIn old new e
    → ((author : Text) → numbers_in new.authors author ≡ with_entry e author (numbers_in old.authors author)) → IsAdmit new (h ++ e ∷ [])
stands_next old new h e is next takes numbers = by (e.seq == 0) refl
  where
    by : (b : Bool) → (e.seq == 0) ≡ b → IsAdmit new (h ++ e ∷ [])
    by true none = stands_first old new h e is (eqb-true e.seq 0 none) takes (λ author. numbers author ∙ ap (λ (b : Bool). if b then numbers_in old.authors author else (if bytes_eq e.author author then numbers_in old.authors author ++ e.number ∷ [] else numbers_in old.authors author)) none)
    by false some = stands_more old new h e is next (λ none. absurd (let f : true ≡ false = ap (λ (n : ℕ). n == 0) (sym none) ∙ some in cc)) takes (λ author. numbers author ∙ ap (λ (b : Bool). if b then numbers_in old.authors author else (if bytes_eq e.author author then numbers_in old.authors author ++ e.number ∷ [] else numbers_in old.authors author)) some)

-- the same lines, sums and numbers stand for the same history
pub stands_same : (old new : Admit) (h : List Entry) → IsAdmit old h → new.catalog ≡ old.catalog → new.sums ≡ old.sums → ((author : Text) → numbers_in new.authors author ≡ numbers_in old.authors author) → IsAdmit new h
stands_same old new h is live sums numbers = record {
  live = live ∙ is.live;
  count = ap (λ s. s.count) sums ∙ is.count;
  records = ap (λ s. s.records) sums ∙ is.records;
  bytes = ap (λ s. s.bytes) sums ∙ is.bytes;
  numbers = λ author. subst (λ (ns : List ℕ). AreNumbers ns h author) (sym (numbers author)) (is.numbers author);
}

-- ---- whether an entry is the next

next_is : (h : List Entry) (e : Entry) (b : Bool) → (length h == 0) ≡ b → is_next h e ≡ (if b then is_founding e else is_later h e)
unfolding is_next
next_is h e b is = ap (λ (t : Bool). if t then is_founding e else is_later h e) is

pub founding_by : (k : Admit) (e : Entry) (r : Result Bool OutOfMemory) → k.sums.count ≡ 0 → IfOk r (λ is. is ≡ is_founding e) → IfOk r (λ is. (h : List Entry) → IsAdmit k h → is ≡ is_next h e)
founding_by k e (Ok b) none found = λ h is. found ∙ sym (next_is h e true (ap (λ (n : ℕ). n == 0) (sym is.count ∙ none)))
founding_by k e (Err f) none found = tt

some_by : (n : ℕ) → (n ≡ 0 → ⊥) → (n == 0) ≡ false
some_by zero h = absurd (h refl)
some_by (suc n) h = suc_not_zero n

pub later_by : (k : Admit) (e : Entry) (r : Result Bool OutOfMemory) → (k.sums.count ≡ 0 → ⊥) → IfOk r (λ is. (h : List Entry) → IsAdmit k h → is ≡ is_later h e) → IfOk r (λ is. (h : List Entry) → IsAdmit k h → is ≡ is_next h e)
later_by k e (Ok b) some found = λ h is. found h is ∙ sym (next_is h e false (ap (λ (n : ℕ). n == 0) (sym is.count) ∙ some_by k.sums.count some))
later_by k e (Err f) some found = tt

false_by : (b : Bool) → (b ≡ true → ⊥) → b ≡ false
false_by true h = absurd (h refl)
false_by false h = refl

-- an entry whose sequence number its author has used is no later one
pub known_is_not_later : (h : List Entry) (e : Entry) (found : Option ℕ) (number : ℕ) → found ≡ number_of (earlier_of h e.author e.seq) → found ≡ Some number → false ≡ is_later h e
known_is_not_later h e found number named some =
    sym (false_by (is_later h e) (λ is.
    let none = (accepted h full (command_of e) (later_parts h e is).2).none in
    let lost : None ≡ Some number = sym (ap number_of none) ∙ sym named ∙ some in
    cc))

none_named : (o : Option Entry) (found : Option ℕ) → found ≡ number_of o → found ≡ None → None ≡ o
none_named None found is none = refl
none_named (Some e) found is none = absurd (let f : Some e.number ≡ None = sym is ∙ none in cc)

-- the tests of a later entry, as they are found
pub later_found : (a : Admit) (e : Entry) (author body : List ℕ) (found : Option ℕ) (v : Verdict) → author ≡ e.author → body ≡ e.body → e.number ≡ a.sums.count + 1 → is_fit e ≡ true
    → ((h : List Entry) → IsAdmit a h → found ≡ number_of (earlier_of h author e.seq)) → found ≡ None
    → ((h : List Entry) → IsAdmit a h → None ≡ earlier_of h author e.seq → v ≡ judged_of h full (command author e.seq e.kind body))
    → (h : List Entry) → IsAdmit a h → is_accept v ≡ is_later h e
later_found a e author body found v author_is body_is number fit looked none judged h is =
    let right : v ≡ judged_of h full (command author e.seq e.kind body) = judged h is (none_named (earlier_of h author e.seq) found (looked h is) none) in
    let test : (e.number == length h + 1) ≡ true = same_number (e.number) (length h + 1) (number ∙ ap (λ (n : ℕ). n + 1) is.count) in
    sym (
    (λ i. (test i && fit i) && is_accept (judged_of h full (command_of e)))
    ∙ ap is_accept ((λ i. judged_of h full (command (sym author_is i) e.seq e.kind (sym body_is i))) ∙ sym right))
  where
    same_number : (m n : ℕ) → m ≡ n → (m == n) ≡ true
    same_number m n same = grind (arith, nat_tests)
