-- The set of ends, with one line more or less.
use Rattle.std.proofs.Common.{◌≡◌, ◌∙◌, inl, inr, Bool, true, false, not, cond, ◌&&◌, ◌||◌, List, [], ◌∷◌, refl, sym, ap, subst, Ordering}
use Rattle.std.specs.List.{list_any}
use Rattle.std.specs.List.Sorted.{IsStrictlySortedBy}
use Rattle.std.specs.Ordering.{is_eq, match_ordering}
use Rattle.std.specs.declared.cmp.Ordering.TheVariants.{Less, Equal, Greater}
use Rattle.std.specs.BTreeSet.{insert_key}
use Rattle.std.proofs.lemmas.Cmp.{tied_itself}
use Rattle.std.proofs.lemmas.Bool.{and_from, and_parts, both_ways, cases_Bool, not-true, not_from_false}
use Rattle.epochs.specs.Lines.{LineValues}
use Rattle.epoch_rules.specs.declared.endings.Ending.{Ending}
use Rattle.epoch_rules.specs.Endings.{EndingParts, AddsEnd, AreEndsOf, DropsEnd, KeepsEnds, ending_cmp, ending_of, parts_of_ending, is_child}
use Rattle.epoch_rules.specs.KeyOrder.{key_parts_of, line_cmp, have_one_key}
use Rattle.epoch_rules.proofs.EndingOrder.{endings_total, exact_endings}
use Rattle.epoch_rules.proofs.FamilyKeys.{has_one_key, one_key}
use Rattle.epoch_rules.proofs.Lookups.{is_equal}
use Rattle.epoch_rules.proofs.Members.{Has, all_has, any_has, has_any, or_swap, or_same, same_bool}
use Rattle.epoch_rules.proofs.Replaced.{sorted_head, sorted_tail}
use Rattle.epoch_rules.proofs.WithLine.{any_other, any_put, others}

-- tests that agree at each element
pub any_same : {X : Type 0} (p q : X → Bool) (xs : List X) → ((x : X) → Has xs x → p x ≡ q x) → list_any p xs ≡ list_any q xs
any_same p q [] same = refl
any_same p q (x ∷ xs) same = (λ i. same x (inl refl) i || any_same p q xs (λ y h. same y (inr h)) i)

module _ (cmp : Ending → Ending → Ordering) (is : (a b : Ending) → cmp a b ≡ ending_cmp (parts_of_ending a) (parts_of_ending b)) where
  pub any_inserted : (test : EndingParts → Bool) (ks : List Ending) (k : Ending) → list_any (λ q. test (parts_of_ending q)) (insert_key cmp ks k) ≡ (test (parts_of_ending k) || list_any (λ q. test (parts_of_ending q)) ks)
  any_inserted test [] k = refl
  any_inserted test (x ∷ xs) k =
      let rest = list_any (λ q. test (parts_of_ending q)) xs in
      let t = test (parts_of_ending k) in
      elim (cmp k x) as (λ o. cmp k x ≡ o → list_any (λ q. test (parts_of_ending q)) (match_ordering o (k ∷ x ∷ xs) (x ∷ xs) (x ∷ insert_key cmp xs k)) ≡ (t || (test (parts_of_ending x) || rest))) [
        | Less ↦ λ _. refl
        | Equal ↦ λ h.
            (let same : parts_of_ending k ≡ parts_of_ending x = exact_endings (parts_of_ending k) (parts_of_ending x) (sym (is k x) ∙ h) in
            ap (λ b. b || rest) (sym (ap test same)) ∙ or_same t rest ∙ ap (λ b. t || (b || rest)) (ap test same))
        | Greater ↦ λ _. ap (λ b. test (parts_of_ending x) || b) (any_inserted test xs k) ∙ or_swap (test (parts_of_ending x)) t rest
      ] refl

-- in a list in order one line has a key
pub one_line : (lines : List LineValues) (a b : LineValues) → IsStrictlySortedBy line_cmp lines → Has lines a → Has lines b → have_one_key a b ≡ true → a ≡ b
one_line [] a b up a_in b_in same = absurd a_in
one_line (x ∷ xs) a b up (inl is) (inl it) same = sym is ∙ it
one_line (x ∷ xs) a b up (inl is) (inr b_in) same =
    let less : line_cmp x b ≡ Less = all_has (λ y. line_cmp x y ≡ Less) xs b (sorted_head line_cmp x xs up) b_in in
    absurd (both_ways (have_one_key a b) (ap is_eq (ap (λ y. line_cmp y b) (sym is) ∙ less)) same)
one_line (x ∷ xs) a b up (inr a_in) (inl it) same =
    let less : line_cmp x a ≡ Less = all_has (λ y. line_cmp x y ≡ Less) xs a (sorted_head line_cmp x xs up) a_in in
    let turned : have_one_key b a ≡ true = has_one_key b a (sym (one_key a b same)) in
    absurd (both_ways (have_one_key b a) (ap is_eq (ap (λ y. line_cmp y a) (sym it) ∙ less)) turned)
one_line (x ∷ xs) a b up (inr a_in) (inr b_in) same = one_line xs a b (sorted_tail line_cmp x xs up) a_in b_in same

-- of a key, the ends that are compared tell the key
ending_keys : (a b : EndingParts) → ending_cmp a b ≡ Equal → a.key ≡ b.key
ending_keys a b h = ap (λ e. e.key) (exact_endings a b h)

and_swap : (a b c : Bool) → (a && (b && c)) ≡ (b && (a && c))
and_swap true b c = refl
and_swap false true c = refl
and_swap false false c = refl

module _ (lines : List LineValues) (up : IsStrictlySortedBy line_cmp lines) (e o : LineValues) (o_in : Has lines o) (same : have_one_key e o ≡ true) where
  same_as : (x : LineValues) → Has lines x → have_one_key e x ≡ true → o ≡ x
  same_as x x_in here = one_line lines o x up o_in x_in (has_one_key o x (sym (one_key e o same) ∙ one_key e x here))

  -- only the old line has its end
  ends_apart : (x : LineValues) → Has lines x → is_eq (ending_cmp (ending_of o) (ending_of x)) ≡ have_one_key e x
  ends_apart x x_in =
      elim (cases_Bool (have_one_key e x)) [
        | inl here ↦ ap is_eq (ap (λ y. ending_cmp (ending_of o) (ending_of y)) (sym (same_as x x_in here)) ∙ tied_itself endings_total (ending_of o)) ∙ sym here
        | inr apart ↦
            elim (cases_Bool (is_eq (ending_cmp (ending_of o) (ending_of x)))) [
              | inl equal ↦
                  (let keys : key_parts_of o ≡ key_parts_of x = ending_keys (ending_of o) (ending_of x) (is_equal (ending_cmp (ending_of o) (ending_of x)) equal) in
                  absurd (both_ways (have_one_key e x) apart (has_one_key e x (one_key e o same ∙ keys))))
              | inr other ↦ other ∙ sym apart
            ]
      ]

  -- the old line lies in none
  pub ends_left : (held : (EndingParts → Bool) → Bool) → AreEndsOf held lines → is_child o ≡ false → AreEndsOf held (others e lines)
  ends_left held are child test =
      are test
      ∙ any_same (λ x. is_child x && test (ending_of x)) (λ x. not (have_one_key e x) && (is_child x && test (ending_of x))) lines
      (λ x x_in.
      elim (cases_Bool (have_one_key e x)) [
        | inl here ↦
            (let out : is_child x ≡ false = ap is_child (sym (same_as x x_in here)) ∙ child in
            ap (λ b. b && test (ending_of x)) out ∙ sym (ap (λ b. not b && (is_child x && test (ending_of x))) here))
        | inr apart ↦ sym (ap (λ b. not b && (is_child x && test (ending_of x))) apart)
      ])
      ∙ sym (any_other (λ x. is_child x && test (ending_of x)) e lines)

module _ (cmp : Ending → Ending → Ordering) (is : (a b : Ending) → cmp a b ≡ ending_cmp (parts_of_ending a) (parts_of_ending b)) (old new : List Ending) (k : Ending)
    (updated : (q : Ending) → list_any (λ x. is_eq (cmp q x)) new ≡ cond (is_eq (cmp k q)) false (list_any (λ x. is_eq (cmp q x)) old)) (test : EndingParts → Bool) where
  apart : EndingParts → Bool
  apart p = not (is_eq (ending_cmp (parts_of_ending k) p)) && test p

  seen_same : (x y : Ending) → is_eq (cmp x y) ≡ true → parts_of_ending x ≡ parts_of_ending y
  seen_same x y h = exact_endings (parts_of_ending x) (parts_of_ending y) (sym (is x y) ∙ is_equal (cmp x y) h)

  itself : (x : Ending) → is_eq (cmp x x) ≡ true
  itself x = ap is_eq (is x x ∙ tied_itself endings_total (parts_of_ending x))

  -- what a set holds without an end
  pub ends_removed : list_any (λ q. test (parts_of_ending q)) new ≡ list_any (λ q. not (is_eq (ending_cmp (parts_of_ending k) (parts_of_ending q))) && test (parts_of_ending q)) old
  unfolding apart
  ends_removed =
      same_bool (list_any (λ q. test (parts_of_ending q)) new) (list_any (λ q. apart (parts_of_ending q)) old)
      (λ h.
      let q = has_any (λ q. test (parts_of_ending q)) new h in
      let there = sym (updated q.0) ∙ any_has (λ x. is_eq (cmp q.0 x)) new q.0 q.1 (itself q.0) in
      let parts = cond_true (is_eq (cmp k q.0)) (list_any (λ x. is_eq (cmp q.0 x)) old) there in
      let y = has_any (λ x. is_eq (cmp q.0 x)) old parts.1 in
      let same = seen_same q.0 y.0 y.2 in
      any_has (λ q. apart (parts_of_ending q)) old y.0 y.1
      (subst (λ p. apart p ≡ true) same
      (and_from (not (is_eq (ending_cmp (parts_of_ending k) (parts_of_ending q.0)))) (test (parts_of_ending q.0)) (not_from_false (is_eq (ending_cmp (parts_of_ending k) (parts_of_ending q.0))) (ap is_eq (sym (is k q.0)) ∙ parts.0)) q.2)))
      (λ h.
      let y = has_any (λ q. apart (parts_of_ending q)) old h in
      let parts = and_parts (not (is_eq (ending_cmp (parts_of_ending k) (parts_of_ending y.0)))) (test (parts_of_ending y.0)) y.2 in
      let out : is_eq (cmp k y.0) ≡ false = ap is_eq (is k y.0) ∙ not-true (is_eq (ending_cmp (parts_of_ending k) (parts_of_ending y.0))) parts.0 in
      let there : list_any (λ x. is_eq (cmp y.0 x)) new ≡ true =
      updated y.0 ∙ ap (λ b. cond b false (list_any (λ x. is_eq (cmp y.0 x)) old)) out ∙ any_has (λ x. is_eq (cmp y.0 x)) old y.0 y.1 (itself y.0) in
      let z = has_any (λ x. is_eq (cmp y.0 x)) new there in
      any_has (λ q. test (parts_of_ending q)) new z.0 z.1 (ap test (sym (seen_same y.0 z.0 z.2)) ∙ parts.1))
    where
      cond_true : (a b : Bool) → cond a false b ≡ true → (a ≡ false) × (b ≡ true)
      cond_true true b h = cc
      cond_true false b h = (refl, h)

-- a new line, with its end where it lies in a container
pub ended_put : (held more : (EndingParts → Bool) → Bool) (lines : List LineValues) (e : LineValues) → AreEndsOf held lines → (is_child e ≡ true → AddsEnd held (ending_of e) more) → (is_child e ≡ false → KeepsEnds held more)
    → list_any (have_one_key e) lines ≡ false → AreEndsOf more (insert_key line_cmp lines e)
ended_put held more lines e are child other absent test =
    elim (cases_Bool (is_child e)) [
      | inl h ↦
          child h test
          ∙ ap (λ b. test (ending_of e) || b) (are test)
          ∙ ap (λ b. (b && test (ending_of e)) || list_any (λ l. is_child l && test (ending_of l)) lines) (sym h)
          ∙ sym (any_put (λ l. is_child l && test (ending_of l)) e lines absent)
      | inr h ↦
          other h test
          ∙ are test
          ∙ ap (λ b. (b && test (ending_of e)) || list_any (λ l. is_child l && test (ending_of l)) lines) (sym h)
          ∙ sym (any_put (λ l. is_child l && test (ending_of l)) e lines absent)
    ]

-- the old line is gone, with its end where it lay in a container
pub ended_cut : (held fewer : (EndingParts → Bool) → Bool) (lines : List LineValues) (up : IsStrictlySortedBy line_cmp lines) (e o : LineValues) → Has lines o → have_one_key e o ≡ true
    → AreEndsOf held lines → (is_child o ≡ true → DropsEnd held (ending_of o) fewer) → (is_child o ≡ false → KeepsEnds held fewer) → AreEndsOf fewer (others e lines)
ended_cut held fewer lines up e o o_in same are child other test =
    elim (cases_Bool (is_child o)) [
      | inl h ↦
          (let apart = λ (p : EndingParts). not (is_eq (ending_cmp (ending_of o) p)) && test p in
          child h test
          ∙ are apart
          ∙ any_same (λ x. is_child x && apart (ending_of x)) (λ x. not (have_one_key e x) && (is_child x && test (ending_of x))) lines
          (λ x x_in.
          and_swap (is_child x) (not (is_eq (ending_cmp (ending_of o) (ending_of x)))) (test (ending_of x))
          ∙ ap (λ b. not b && (is_child x && test (ending_of x))) (ends_apart lines up e o o_in same x x_in))
          ∙ sym (any_other (λ x. is_child x && test (ending_of x)) e lines))
      | inr h ↦ other h test ∙ ends_left lines up e o o_in same held are h test
    ]

-- of lines in order one has the key
pub one_at_key : (p : LineValues → Bool) (lines : List LineValues) (up : IsStrictlySortedBy line_cmp lines) (e o : LineValues) → Has lines o → have_one_key e o ≡ true → list_any (λ l. have_one_key e l && p l) lines ≡ p o
one_at_key p lines up e o o_in same =
    same_bool (list_any (λ l. have_one_key e l && p l) lines) (p o)
    (λ h.
    let x = has_any (λ l. have_one_key e l && p l) lines h in
    let parts = and_parts (have_one_key e x.0) (p x.0) x.2 in
    ap p (same_as lines up e o o_in same x.0 x.1 parts.0) ∙ parts.1)
    (λ h. any_has (λ l. have_one_key e l && p l) lines o o_in (and_from (have_one_key e o) (p o) same h))
