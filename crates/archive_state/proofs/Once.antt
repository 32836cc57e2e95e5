-- In a lawful history an author and a sequence number stand once.
use Rattle.std.proofs.Common.{◌≡◌, ◌==◌, ◌&&◌, ◌∙◌, ℕ, zero, suc, ◌≤◌, Bool, true, cond, List, [], ◌∷◌, ◌++◌, length, Option, None, Some, refl, sym, ap, subst, append_assoc, append-nil, arith, ◌⊎◌, inl, inr}
use Rattle.std.specs.List.{slice_get}
use Rattle.std.specs.Option.{option_or}
use Rattle.std.specs.Str.{bytes_eq}
use Rattle.std.proofs.lemmas.Bool.{cases_lt, and_parts}
use Rattle.std.proofs.lemmas.Bool.Decides.{nat_tests}
use Rattle.std.proofs.lemmas.Slice.Eq.{bytes_eq-Decides}
use Rattle.list_laws.proofs.Places.{get_before}
use Rattle.archive_entry.specs.declared.entry.Entry.{Entry}
use Rattle.archive_entry.specs.declared.entry.Kind.{Kind}
use Rattle.archive_entry.specs.declared.entry.Kind.TheVariants.{Batch, Revise}
use Rattle.archive_state.specs.declared.limits.Limits.{Limits}
use Rattle.archive_state.specs.declared.verdict.Verdict.TheVariants.{Role, Repeat, OtherBody}
use Rattle.archive_state.specs.History.{is_by, earlier_of, last_seq, live_of, may_post}
use Rattle.archive_state.specs.Lawful.{is_next, goes_on, is_lawful}
use Rattle.archive_state.specs.Verdicts.{command_of, totals_of, beside, judged_of, is_kind}
use Rattle.archive_state.proofs.Accepts.{Follows, next_follows}
use Rattle.archive_state.proofs.Growth.{earlier_more}

abbrev pub IsOnce : List Entry → Type 0
IsOnce h = (i : ℕ) (e : Entry) → slice_get h i ≡ Some e → 1 ≤ e.seq → earlier_of h e.author e.seq ≡ Some e

last_is : (past : List Entry) (x e : Entry) (i : ℕ) → length past ≤ i → slice_get (past ++ x ∷ []) i ≡ Some e → x ≡ e
last_is [] x e zero h at = cc
last_is [] x e (suc i) h at = absurd cc
last_is (y ∷ past) x e zero h at = absurd (omega (arith, h))
last_is (y ∷ past) x e (suc i) h at = last_is past x e i (omega (arith, h)) at

same_bytes : (xs : List ℕ) → bytes_eq xs xs ≡ true
same_bytes xs = (bytes_eq-Decides xs xs).1 refl

same_number : (n : ℕ) → (n == n) ≡ true
same_number n = grind (arith, nat_tests)

own_found : (past : List Entry) (x : Entry) → Follows past x → earlier_of (past ++ x ∷ []) x.author x.seq ≡ Some x
own_found past x f =
    earlier_more past x x.author x.seq
    ∙ (λ i. option_or (f.none i) (cond (same_bytes x.author i && same_number x.seq i) (Some x) None))

once_more : (past : List Entry) (x : Entry) → IsOnce past → is_next past x ≡ true → IsOnce (past ++ x ∷ [])
once_more past x once next = λ i e at some.
    elim (cases_lt i (length past)) [
      | inl before ↦ earlier_more past x e.author e.seq ∙ ap (λ (o : Option Entry). option_or o (cond (is_by e.author x && x.seq == e.seq) (Some x) None)) (once i e (sym (get_before past x i before) ∙ at) some)
      | inr behind ↦
          let same = last_is past x e i behind at in
          subst (λ (y : Entry). earlier_of (past ++ x ∷ []) y.author y.seq ≡ Some y) same (by (next_follows past x next) (subst (λ (y : Entry). 1 ≤ y.seq) (sym same) some))
    ]
  where
    by : (x.seq ≡ 0) ⊎ Follows past x → 1 ≤ x.seq → earlier_of (past ++ x ∷ []) x.author x.seq ≡ Some x
    by (inl none) some = absurd (omega (arith, none, some))
    by (inr f) some = own_found past x f

once_all : (past es : List Entry) → IsOnce past → goes_on past es ≡ true → IsOnce (past ++ es)
once_all past [] once is = subst IsOnce (sym (append-nil past)) once
once_all past (x ∷ es) once is =
    let parts = and_parts (is_next past x) (goes_on (past ++ x ∷ []) es) is in
    subst IsOnce (append_assoc past (x ∷ []) es) (once_all (past ++ x ∷ []) es (once_more past x once parts.0) parts.1)

pub once : (h : List Entry) → is_lawful h ≡ true → IsOnce h
once h is = once_all [] h (λ i e at some. absurd (nothing i e at)) is
  where
    nothing : (i : ℕ) (e : Entry) → slice_get [] i ≡ Some e → ⊥
    nothing i e at = cc

same_kind : (k : Kind) → is_kind k k ≡ true
same_kind Batch = refl
same_kind Revise = refl

-- what was accepted once is answered as a repeat
pub repeated : (h : List Entry) (limits : Limits) (i : ℕ) (e : Entry) → is_lawful h ≡ true → slice_get h i ≡ Some e → 1 ≤ e.seq → may_post (live_of h) e.author e.kind ≡ true → judged_of h limits (command_of e) ≡ Repeat e.number
unfolding judged_of
repeated h limits i e lawful at some may =
    ap (λ (b : Bool). cond b (beside (totals_of h) limits (command_of e) (earlier_of h e.author e.seq) (last_seq h e.author)) Role) may
    ∙ ap (λ (o : Option Entry). beside (totals_of h) limits (command_of e) o (last_seq h e.author)) (once h lawful i e at some)
    ∙ (λ j. cond (same_kind e.kind j && same_bytes e.body j) (Repeat e.number) (OtherBody e.number))
