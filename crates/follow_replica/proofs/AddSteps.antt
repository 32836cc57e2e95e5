-- Entries are added one after another.
use Rattle.std.proofs.Common.{◌≡◌, ◌⊎◌, inl, inr, ℕ, ◌+◌, ◌-◌, ◌≤◌, true, false, List, [], ◌∷◌, ◌++◌, length, refl, sym, ◌∙◌, ap, subst, arith, append_assoc, append-nil, length-append, Result, Ok, Err, None, Some, Option}
use Rattle.std.specs.Prelude.{IsErrAnd, IsErrOf}
use Rattle.std.specs.Prelude.{◌==◌}
use Rattle.std.proofs.lemmas.Bool.{cases_lt, cond-true, cond-false, false≢true}
use Rattle.std.proofs.lemmas.Bool.Decides.{nat_tests}
use Rattle.exact_time.specs.Causes.{Rose}
use Rattle.disk_model.specs.Disk.{Leaves}
use Rattle.disk_model.specs.View.{DiskView, WhereTold, IsHonest, is_told}
use Rattle.disk_model.proofs.Moments.{and_then, weakened, at_rest_now}
use Rattle.archive_entry.specs.declared.entry.Entry.{Entry}
use Rattle.archive_log.specs.Archive.{Archived, Stands}
use Rattle.archive_log.specs.Histories.{Recovers, RecoversWithOrWithout}
use Rattle.archive_state.specs.Lawful.{is_next}
use Rattle.follow_replica.specs.Numbers.{coming_from}
use Rattle.archive_post.specs.Intake.{StandsFor}
use Rattle.archive_post.specs.Posts.{Appends, Commits, IsHalted}
use Rattle.archive_post.specs.Waiting.{committed}
use Rattle.archive_post.specs.declared.appending.AppendFault.{AppendFault}
use Rattle.archive_post.specs.declared.appending.AppendFault.TheVariants as append
use Rattle.archive_post.specs.declared.kept.Intake.{Intake}
use Rattle.follow_replica.specs.Takes.{RecoversWithSome, Adds, AddsSo, AddsOne, from_append}
use Rattle.follow_replica.specs.declared.fault.TakeFault.{TakeFault}
use Rattle.follow_replica.specs.declared.fault.TakeFault.TheVariants.{Form, Gap, Unlawful, DiskFault, OutOfMemory}

-- ---- some of the entries

none_of : (h es : List Entry) → Leaves (Recovers h) (RecoversWithSome h es)
none_of h es file holds = record { some = []; others = es; split = refl; journal = subst (λ (l : List Entry). Recovers l file) (sym (append-nil h)) holds }

first_of_some : (h : List Entry) (e : Entry) (es : List Entry) → Leaves (RecoversWithOrWithout h e) (RecoversWithSome h (e ∷ es))
first_of_some h e es file (inl holds) = none_of h (e ∷ es) file holds
first_of_some h e es file (inr holds) = record { some = e ∷ []; others = es; split = refl; journal = holds }

some_of_more : (h es more : List Entry) → Leaves (RecoversWithSome h es) (RecoversWithSome h (es ++ more))
some_of_more h es more file has = record {
  some = has.some;
  others = has.others ++ more;
  split = ap (λ (l : List Entry). l ++ more) has.split ∙ append_assoc has.some has.others more;
  journal = has.journal;
}

some_behind : (h added es rest : List Entry) → es ≡ added ++ rest → Leaves (RecoversWithSome (h ++ added) rest) (RecoversWithSome h es)
some_behind h added es rest split file has = record {
  some = added ++ has.some;
  others = has.others;
  split = split ∙ ap (λ (l : List Entry). added ++ l) has.split ∙ sym (append_assoc added has.some has.others);
  journal = subst (λ (l : List Entry). Recovers l file) (append_assoc h added has.some) has.journal;
}

module _ {D : Type 0} (view : D → DiskView) where
  -- at rest
  pub adds_none : (a : Archived D) (es : List Entry) → WhereTold (view a.disk) (IsHonest (view a.disk)) → WhereTold (view a.disk) (Stands view a) → Adds view a a es es
  adds_none a es honest stands = record {
    added = [];
    split = refl;
    counted = omega arith;
    opening = refl;
    tells = refl;
    later = omega arith;
    history = λ told. sym (append-nil a.history);
    any_moment = λ told on. at_rest_now (view a.disk) (honest told) (RecoversWithSome a.history es) (λ image now. none_of a.history es image ((stands told).running on image now));
    silent = λ off. (refl, refl, off);
  }

  -- some, and then some more
  pub adds_then : (a b c : Archived D) (es mid rest : List Entry) → b.stopped ≡ a.stopped → Adds view a b es mid → Adds view b c mid rest → Adds view a c es rest
  adds_then a b c es mid rest same p q =
      let told-b = λ (t : is_told (view a.disk) ≡ true). p.tells ∙ t in record {
        added = p.added ++ q.added;
        split = p.split ∙ ap (λ (l : List Entry). p.added ++ l) q.split ∙ sym (append_assoc p.added q.added rest);
        counted = omega (arith, p.counted, q.counted, length-append p.added q.added);
        opening = q.opening ∙ p.opening;
        tells = q.tells ∙ p.tells;
        later = omega (arith, p.later, q.later);
        history = λ t. q.history (told-b t) ∙ ap (λ (l : List Entry). l ++ q.added) (p.history t) ∙ append_assoc a.history p.added q.added;
        any_moment = λ t on.
            let means : Leaves (RecoversWithSome b.history mid) (RecoversWithSome a.history es) =
            λ file has. some_behind a.history p.added es mid p.split file (subst (λ (l : List Entry). RecoversWithSome l mid file) (p.history t) has) in
            and_then (view a.disk) (view b.disk) (view c.disk) (RecoversWithSome a.history es) (p.any_moment t on)
            (weakened (view b.disk) (view c.disk) (RecoversWithSome b.history mid) (RecoversWithSome a.history es) means (q.any_moment (told-b t) (same ∙ on)));
        silent = λ off.
            let one = p.silent off in
            let two = q.silent (same ∙ off) in
            (ap (λ (l : List Entry). l ++ q.added) one.0 ∙ two.0, two.1 ∙ one.1, two.2);
      }

  -- more entries come behind
  pub adds_more : (a b : Archived D) (es rest more : List Entry) → Adds view a b es rest → Adds view a b (es ++ more) (rest ++ more)
  adds_more a b es rest more p = record {
    added = p.added;
    split = ap (λ (l : List Entry). l ++ more) p.split ∙ append_assoc p.added rest more;
    counted = p.counted;
    opening = p.opening;
    tells = p.tells;
    later = p.later;
    history = p.history;
    any_moment = λ t on. weakened (view a.disk) (view b.disk) (RecoversWithSome a.history es) (RecoversWithSome a.history (es ++ more)) (some_of_more a.history es more) (p.any_moment t on);
    silent = p.silent;
  }

  -- room was made
  pub adds_spare : (a b : Archived D) (es rest : List Entry) → b ≡ record a { spare = b.spare } → Adds view a a es rest → Adds view a b es rest
  adds_spare a b es rest is p = subst (λ (x : Archived D). Adds view a x es rest) (sym is) (record { added = p.added; split = p.split; counted = p.counted; opening = p.opening; tells = p.tells; later = p.later; history = p.history; any_moment = p.any_moment; silent = p.silent })

  -- one commit, that was done or failed, over an archive whose history is h
  adds_by : (a b : Archived D) (h : List Entry) (e : Entry) (added rest : List Entry) (Stops : Type 0) → e ∷ [] ≡ added ++ rest → a.count ≡ length h → b.count ≡ length (h ++ added)
      → WhereTold (view a.disk) (a.history ≡ h) → WhereTold (view b.disk) (b.history ≡ h ++ added) → Commits view a b h e Stops
      → (a.stopped ≡ true → (added ≡ []) × (b.stopped ≡ true)) → Adds view a b (e ∷ []) rest
  adds_by a b h e added rest Stops split few many before behind commits off = record {
    added = added;
    split = split;
    counted = omega (arith, few, many, length-append h added);
    opening = commits.opening;
    tells = commits.tells;
    later = commits.later;
    history = λ t. behind (commits.tells ∙ t) ∙ ap (λ (l : List Entry). l ++ added) (sym (before t));
    any_moment = λ t on.
        let means : Leaves (RecoversWithOrWithout h e) (RecoversWithSome a.history (e ∷ [])) =
        λ file has. subst (λ (l : List Entry). RecoversWithSome l (e ∷ []) file) (sym (before t)) (first_of_some h e [] file has) in
        weakened (view a.disk) (view b.disk) (RecoversWithOrWithout h e) (RecoversWithSome a.history (e ∷ [])) means (commits.any_moment t on);
    silent = λ on. ((off on).0, commits.silent on, (off on).1);
  }

  -- the entries of one body, and then those of another
  pub adds_both : (a b c : Archived D) (es more rest : List Entry) → b.stopped ≡ a.stopped → Adds view a b es [] → Adds view b c more rest → Adds view a c (es ++ more) rest
  adds_both a b c es more rest same p q = adds_then a b c (es ++ more) more rest same (adds_more a b es [] more p) q

  -- ---- rows

  -- what a fault of appending is told as
  abbrev pub told_append : ℕ → Result (Unit {0}) AppendFault → Result (Unit {0}) TakeFault
  told_append n (Ok done) = Ok done
  told_append n (Err f) = Err (from_append n f)

  -- an entry was handed to an intake in which nothing waits
  module _ (old new : Intake D) (h : List Entry) (e : Entry) (stood : StandsFor view old h) (stands : StandsFor view new h) (free : old.waiting ≡ None) where
    few : old.archive.count ≡ length h
    few = stood.counted ∙ ap (λ (w : Option Entry). length (committed h w)) free ∙ ap length (append-nil h)

    before : WhereTold (view old.archive.disk) (old.archive.history ≡ h)
    before t = stood.history t ∙ ap (committed h) free ∙ append-nil h

    many : (w : Option Entry) → new.waiting ≡ w → new.archive.count ≡ length (committed h w)
    many w is = stands.counted ∙ ap (λ (v : Option Entry). length (committed h v)) is

    behind : (w : Option Entry) → new.waiting ≡ w → WhereTold (view new.archive.disk) (new.archive.history ≡ committed h w)
    behind w is t = stands.history t ∙ ap (committed h) is

    halted_row : {Stops : Type 0} → is_next h e ≡ true → IsHalted old new e → Commits view old.archive new.archive h e Stops → Stops → AddsOne view e old.archive new.archive (Err DiskFault)
    halted_row {Stops} next halted commits stops = (
      e,
      [],
      adds_by old.archive new.archive h e [] (e ∷ []) Stops refl few (many None halted.waiting) before (behind None halted.waiting) commits (λ off. (refl, halted.stopped)),
      record {
        lawful = λ t. ap (λ (l : List Entry). is_next l e) (behind None halted.waiting (commits.tells ∙ t) ∙ append-nil h) ∙ next;
        stopped = halted.stopped;
        cause = commits.cause stops;
      },
    )

    pub append_row : (r : Result (Unit {0}) AppendFault) → Adds view old.archive old.archive (e ∷ []) (e ∷ []) → Appends old new h e r
        → Commits view old.archive new.archive h e (IsErrOf r append.Stopped) → AddsOne view e old.archive new.archive (told_append e.number r)
    append_row (Ok done) none row commits = (
      adds_by old.archive new.archive h e (e ∷ []) [] (IsErrOf {T = Unit {0}} (Ok done) append.Stopped) refl few (many (Some e) row.added.waiting) before (behind (Some e) row.added.waiting) commits
          (λ off. absurd (false≢true (sym row.added.before ∙ off))),
      refl,
      row.added.behind ∙ sym row.added.before,
    )
    append_row (Err append.NotNext) none row commits =
        subst (λ (n : Intake D). AddsOne view e old.archive n.archive (Err (Unlawful e.number))) (sym row.1)
        (e, [], none, record { number = refl; unlawful = λ t. ap (λ (l : List Entry). is_next l e) (before t) ∙ row.0; stopped = refl })
    append_row (Err append.Stopped) none row commits = halted_row row.next row.halted commits refl
    append_row (Err append.OutOfMemory) none row commits =
        (e ∷ [], adds_spare old.archive new.archive (e ∷ []) (e ∷ []) row.archive none, ap (λ (a : Archived D). a.stopped) row.archive)

  -- ---- one after another

  rose_so : (opening a b c : ℕ) → a ≤ b → b ≤ c → Rose b c ⊎ Rose opening b → Rose a c ⊎ Rose opening a
  rose_so opening a b c ab bc (inl rose) = inl (omega (arith, rose, ab, bc))
  rose_so opening a b c ab bc (inr rose) = elim (cases_lt a (opening + 1)) [
    | inl low ↦ inl (omega (arith, low, rose, ab, bc))
    | inr high ↦ inr (omega (arith, high))
  ]

  -- one entry more was added
  pub added_one : (a b c : Archived D) (all rest : List Entry) (e : Entry) → Adds view a b all (e ∷ rest) → b.stopped ≡ a.stopped → Adds view b c (e ∷ []) [] → Adds view a c all rest
  added_one a b c all rest e p same q = adds_then a b c all (e ∷ rest) rest same p (adds_more b c (e ∷ []) [] rest q)

  -- a fault came at it
  pub fault_at : (a b c : Archived D) (all rest : List Entry) (e : Entry) (f : TakeFault) → Adds view a b all (e ∷ rest) → b.stopped ≡ a.stopped → AddsOne view e b c (Err f) → AddsSo view all a c (Err f)
  fault_at a b c all rest e (Form at) p same row = row
  fault_at a b c all rest e (Gap n) p same row = row
  fault_at a b c all rest e (Unlawful n) p same (x, others, q, refused) = (
    x,
    others ++ rest,
    adds_then a b c all (e ∷ rest) (x ∷ (others ++ rest)) same p (adds_more b c (e ∷ []) (x ∷ others) rest q),
    record { number = refused.number; unlawful = λ t. refused.unlawful (p.tells ∙ t); stopped = refused.stopped ∙ same },
  )
  fault_at a b c all rest e DiskFault p same (x, others, q, stopped) = (
    x,
    others ++ rest,
    adds_then a b c all (e ∷ rest) (x ∷ (others ++ rest)) same p (adds_more b c (e ∷ []) (x ∷ others) rest q),
    record {
      lawful = λ t. stopped.lawful (p.tells ∙ t);
      stopped = stopped.stopped;
      cause = rose_so a.faults (view a.disk).faults (view b.disk).faults (view c.disk).faults p.later q.later
          (subst (λ (n : ℕ). Rose (view b.disk).faults (view c.disk).faults ⊎ Rose n (view b.disk).faults) p.opening stopped.cause);
    },
  )
  fault_at a b c all rest e OutOfMemory p same (others, q, still) =
      (others ++ rest, adds_then a b c all (e ∷ rest) (others ++ rest) same p (adds_more b c (e ∷ []) others rest q), still ∙ same)

  -- all were added
  pub all_added : (a b : Archived D) (all : List Entry) (n : ℕ) → Adds view a b all [] → b.stopped ≡ a.stopped → n ≡ b.count - a.count → AddsSo view all a b (Ok n)
  all_added a b all n p same is =
      let count = p.counted in
      (p, omega (arith, is, count, ap length (p.split ∙ append-nil p.added)), same)

module _ {D : Type 0} (view : D → DiskView) where
  -- one entry was added
  pub one_more : (b c : Archived D) (e : Entry) → Adds view b c (e ∷ []) [] → c.count ≡ b.count + 1
  one_more b c e p = let counted = p.counted in omega (arith, counted, ap length (p.split ∙ append-nil p.added))

  -- nothing changed, and memory ran out
  pub row_still : (a : Archived D) (all : List Entry) (r : Result ℕ TakeFault) → IsErrAnd r (λ f. f ≡ OutOfMemory) → Adds view a a all all → AddsSo view all a a r
  row_still a all (Ok n) is p = absurd is
  row_still a all (Err f) is p = subst (λ (g : TakeFault). AddsSo view all a a (Err g)) (sym is) (all, p, refl)

  -- a fault that was handed on
  pub row_handed : (a c : Archived D) (all : List Entry) (f : TakeFault) (r : Result ℕ TakeFault) → IsErrAnd r (λ g. g ≡ f) → AddsSo view all a c (Err f) → AddsSo view all a c r
  row_handed a c all f (Ok n) is row = absurd is
  row_handed a c all f (Err g) is row = subst (λ (x : TakeFault). AddsSo view all a c (Err x)) (sym is) row

-- ---- the numbers that come next

pub passed_over : (n : ℕ) (e : Entry) (es : List Entry) → (e.number ≡ n → ⊥) → coming_from n (e ∷ es) ≡ coming_from n es
passed_over n e es other = cond-false _ _ _ (let test : (e.number == n) ≡ false = grind (arith, nat_tests, other) in test)

pub comes_next : (n : ℕ) (e : Entry) (es : List Entry) → e.number ≡ n → coming_from n (e ∷ es) ≡ e ∷ coming_from (n + 1) es
comes_next n e es same = cond-true _ _ _ (let test : (e.number == n) ≡ true = grind (arith, nat_tests, same) in test)
