-- Ends laid over others.
use Rattle.std.proofs.Common.{◌≡◌, ◌∙◌, ℕ, zero, suc, ◌+◌, ◌<◌, Bool, true, false, not, cond, ◌&&◌, ◌||◌, inl, inr, List, length, take, get_or, [], ◌∷◌, ◌++◌, filter, OnOk, Result, Ok, Err, refl, sym, ap, subst}
use Rattle.std.specs.List.{list_any}
use Rattle.std.specs.Ordering.{is_eq}
use Rattle.std.specs.BTreeSet.{BTreeSet}
use Rattle.std.proofs.lemmas.Bool.{and_from, and_parts, both_ways, cases_Bool, not-true, not_from_false, or_cases, or_parts}
use Rattle.std.proofs.lemmas.Cmp.{tied_itself}
use Rattle.std.proofs.lemmas.List.{take_more}
use Rattle.epoch_rules.specs.declared.endings.Ending.{Ending}
use Rattle.epoch_rules.specs.Endings.{EndingParts, ending_cmp, has_end, parts_of_ending}
use Rattle.epoch_rules.specs.EndsOver.{has_left, is_end_in}
use Rattle.epoch_rules.proofs.Ended.{any_same}
use Rattle.epoch_rules.proofs.EndingOrder.{endings_total, exact_endings}
use Rattle.epoch_rules.proofs.KeptCatalog.{eq_turned}
use Rattle.epoch_rules.proofs.Lookups.{is_equal}
use Rattle.epoch_rules.proofs.Members.{Has, any_has, has_any, none_from, same_bool}

pub any_filtered : {X : Type 0} (test p : X → Bool) (xs : List X) → list_any test (filter p xs) ≡ list_any (λ x. test x && p x) xs
any_filtered test p [] = refl
any_filtered test p (x ∷ xs) =
    elim (p x) as (λ b. list_any test (cond b (x ∷ filter p xs) (filter p xs)) ≡ ((test x && b) || list_any (λ x. test x && p x) xs)) [
      | true ↦ (λ i. sym (and_yes (test x)) i || any_filtered test p xs i)
      | false ↦ any_filtered test p xs ∙ ap (λ b. b || list_any (λ x. test x && p x) xs) (sym (and_no (test x)))
    ]
  where
    and_yes : (a : Bool) → (a && true) ≡ a
    and_yes true = refl
    and_yes false = refl

    and_no : (a : Bool) → (a && false) ≡ false
    and_no true = refl
    and_no false = refl

pub none_both : {X : Type 0} (a b : X → Bool) (xs : List X) → list_any b xs ≡ false → list_any (λ x. a x && b x) xs ≡ false
none_both a b [] none = refl
none_both a b (x ∷ xs) none =
    let n = or_parts (b x) (list_any b xs) none in
    (λ i. (a x && n.0 i) || none_both a b xs n.1 i) ∙ ap (λ c. c || false) (and_no (a x))
  where
    and_no : (a : Bool) → (a && false) ≡ false
    and_no true = refl
    and_no false = refl

pub any_joined : {X : Type 0} (test : X → Bool) (xs ys : List X) → list_any test (xs ++ ys) ≡ (list_any test xs || list_any test ys)
any_joined test [] ys = refl
any_joined test (x ∷ xs) ys =
    elim (test x) as (λ b. (b || list_any test (xs ++ ys)) ≡ ((b || list_any test xs) || list_any test ys)) [
      | true ↦ refl
      | false ↦ any_joined test xs ys
    ]

-- some end of a list passes a test
abbrev pub Any : List Ending → (EndingParts → Bool) → Bool
Any xs test = list_any (λ q. test (parts_of_ending q)) xs

abbrev pub is_in : List Ending → EndingParts → Bool
is_in xs p = Any xs (λ q. is_eq (ending_cmp p q))

itself : (p : EndingParts) → is_eq (ending_cmp p p) ≡ true
itself p = ap is_eq (tied_itself endings_total p)

same_of : (p q : EndingParts) → is_eq (ending_cmp p q) ≡ true → p ≡ q
same_of p q h = exact_endings p q (is_equal (ending_cmp p q) h)

in_has : (xs : List Ending) (q : Ending) → Has xs q → is_in xs (parts_of_ending q) ≡ true
in_has xs q has = any_has (λ r. is_eq (ending_cmp (parts_of_ending q) (parts_of_ending r))) xs q has (itself (parts_of_ending q))

-- one that is there is one of the list's
found : (xs : List Ending) (p : EndingParts) → is_in xs p ≡ true → (q : Ending) × Has xs q × (p ≡ parts_of_ending q)
found xs p h =
    let q = has_any (λ r. is_eq (ending_cmp p (parts_of_ending r))) xs h in
    (q.0, q.1, same_of p (parts_of_ending q.0) q.2)

-- what was put in is taken out again
pub undone : (old part : List Ending) (test : EndingParts → Bool) → Any part (is_in old) ≡ false
    → (Any old (λ p. not (is_in part p) && test p) || Any part (λ p. not (is_in part p) && test p)) ≡ Any old test
undone old part test none =
    (λ i. stays i || gone i) ∙ or_none (Any old test)
  where
    or_none : (b : Bool) → (b || false) ≡ b
    or_none true = refl
    or_none false = refl

    outside : (q : Ending) → Has old q → is_in part (parts_of_ending q) ≡ false
    outside q has =
        elim (cases_Bool (is_in part (parts_of_ending q))) [
          | inl there ↦
              (let r = found part (parts_of_ending q) there in
              absurd (both_ways (Any part (is_in old)) none (any_has (λ x. is_in old (parts_of_ending x)) part r.0 r.1 (subst (λ p. is_in old p ≡ true) r.2 (in_has old q has)))))
          | inr h ↦ h
        ]

    stays : Any old (λ p. not (is_in part p) && test p) ≡ Any old test
    stays = any_same (λ q. not (is_in part (parts_of_ending q)) && test (parts_of_ending q)) (λ q. test (parts_of_ending q)) old (λ q has. ap (λ b. not b && test (parts_of_ending q)) (outside q has))

    gone : Any part (λ p. not (is_in part p) && test p) ≡ false
    gone =
        none_from (λ q. not (is_in part (parts_of_ending q)) && test (parts_of_ending q)) part (λ q has h.
        both_ways (is_in part (parts_of_ending q)) (not-true (is_in part (parts_of_ending q)) (and_parts (not (is_in part (parts_of_ending q))) (test (parts_of_ending q)) h).0) (in_has part q has))

-- one end less, after others
pub one_less : (old list : List Ending) (x : Ending) (test : EndingParts → Bool)
    → Any old (λ p. not (is_in list p) && (not (is_eq (ending_cmp (parts_of_ending x) p)) && test p)) ≡ Any old (λ p. not (is_in (list ++ x ∷ []) p) && test p)
one_less old list x test =
    any_same (λ q. not (is_in list (parts_of_ending q)) && (not (is_eq (ending_cmp (parts_of_ending x) (parts_of_ending q))) && test (parts_of_ending q))) (λ q. not (is_in (list ++ x ∷ []) (parts_of_ending q)) && test (parts_of_ending q)) old
    (λ q has.
    let p = parts_of_ending q in
    ap (λ b. not (is_in list p) && (not b && test p)) (eq_turned endings_total (parts_of_ending x) p)
    ∙ both (is_in list p) (is_eq (ending_cmp p (parts_of_ending x))) (test p)
    ∙ ap (λ b. not b && test p) (sym (any_joined (λ r. is_eq (ending_cmp p (parts_of_ending r))) list (x ∷ []))))
  where
    both : (a b c : Bool) → (not a && (not b && c)) ≡ (not (a || (b || false)) && c)
    both true b c = refl
    both false true c = refl
    both false false c = refl

module _ (old put gone fresh stale : List Ending) (fresh_is : (t : EndingParts → Bool) → Any fresh t ≡ Any put (λ p. not (is_in old p) && t p)) (stale_is : (t : EndingParts → Bool) → Any stale t ≡ Any gone (λ p. not (is_in put p) && t p)) where
  stale_gone : (p : EndingParts) → is_in stale p ≡ true → (is_in gone p ≡ true) × (is_in put p ≡ false)
  stale_gone p h =
      let g = has_any (λ q. not (is_in put (parts_of_ending q)) && is_eq (ending_cmp p (parts_of_ending q))) gone (sym (stale_is (λ q. is_eq (ending_cmp p q))) ∙ h) in
      let k = and_parts (not (is_in put (parts_of_ending g.0))) (is_eq (ending_cmp p (parts_of_ending g.0))) g.2 in
      let same = same_of p (parts_of_ending g.0) k.1 in
      (ap (is_in gone) same ∙ in_has gone g.0 g.1, ap (is_in put) same ∙ not-true (is_in put (parts_of_ending g.0)) k.0)

  gone_stale : (p : EndingParts) → is_in gone p ≡ true → is_in put p ≡ false → is_in stale p ≡ true
  gone_stale p h out =
      let g = found gone p h in
      stale_is (λ q. is_eq (ending_cmp p q))
      ∙ any_has (λ q. not (is_in put (parts_of_ending q)) && is_eq (ending_cmp p (parts_of_ending q))) gone g.0 g.1
      (and_from (not (is_in put (parts_of_ending g.0))) (is_eq (ending_cmp p (parts_of_ending g.0))) (not_from_false (is_in put (parts_of_ending g.0)) (ap (is_in put) (sym g.2) ∙ out)) (ap (λ q. is_eq (ending_cmp p q)) (sym g.2) ∙ itself p))

  fresh_enough : (p : EndingParts) → is_in put p ≡ true → not (is_in stale p) ≡ true
  fresh_enough p h =
      elim (cases_Bool (is_in stale p)) [
        | inl s ↦ absurd (both_ways (is_in put p) (stale_gone p s).1 h)
        | inr f ↦ ap not f
      ]

  kept_enough : (p : EndingParts) → not (is_in gone p) ≡ true → not (is_in stale p) ≡ true
  kept_enough p h =
      elim (cases_Bool (is_in stale p)) [
        | inl s ↦ absurd (both_ways (is_in gone p) (not-true (is_in gone p) h) (stale_gone p s).0)
        | inr f ↦ ap not f
      ]

  or_left : (a b : Bool) → a ≡ true → (a || b) ≡ true
  or_left a b h = ap (λ c. c || b) h

  or_right : (a b : Bool) → b ≡ true → (a || b) ≡ true
  or_right true b h = refl
  or_right false b h = h

  -- the new ones put in, and then those taken out that aren't put in: those that are left, and all that are put in
  pub laid : (test : EndingParts → Bool) → (Any old (λ p. not (is_in stale p) && test p) || Any fresh (λ p. not (is_in stale p) && test p)) ≡ (Any old (λ p. not (is_in gone p) && test p) || Any put test)
  laid test =
      same_bool (Any old (λ p. not (is_in stale p) && test p) || Any fresh (λ p. not (is_in stale p) && test p)) (Any old (λ p. not (is_in gone p) && test p) || Any put test)
      (λ h.
      elim (or_cases (Any old (λ p. not (is_in stale p) && test p)) (Any fresh (λ p. not (is_in stale p) && test p)) h) [
        | inl there ↦
            (let q = has_any (λ q. not (is_in stale (parts_of_ending q)) && test (parts_of_ending q)) old there in
            let p = parts_of_ending q.0 in
            let k = and_parts (not (is_in stale p)) (test p) q.2 in
            elim (cases_Bool (is_in gone p)) [
              | inl g ↦
                  elim (cases_Bool (is_in put p)) [
                    | inl again ↦ (let r = found put p again in or_right (Any old (λ p. not (is_in gone p) && test p)) (Any put test) (any_has (λ x. test (parts_of_ending x)) put r.0 r.1 (ap test (sym r.2) ∙ k.1)))
                    | inr out ↦ absurd (both_ways (is_in stale p) (not-true (is_in stale p) k.0) (gone_stale p g out))
                  ]
              | inr f ↦ or_left (Any old (λ p. not (is_in gone p) && test p)) (Any put test) (any_has (λ x. not (is_in gone (parts_of_ending x)) && test (parts_of_ending x)) old q.0 q.1 (and_from (not (is_in gone p)) (test p) (ap not f) k.1))
            ])
        | inr there ↦
            (let q = has_any (λ q. not (is_in old (parts_of_ending q)) && (not (is_in stale (parts_of_ending q)) && test (parts_of_ending q))) put (sym (fresh_is (λ p. not (is_in stale p) && test p)) ∙ there) in
            let p = parts_of_ending q.0 in
            let k = and_parts (not (is_in old p)) (not (is_in stale p) && test p) q.2 in
            or_right (Any old (λ p. not (is_in gone p) && test p)) (Any put test) (any_has (λ x. test (parts_of_ending x)) put q.0 q.1 (and_parts (not (is_in stale p)) (test p) k.1).1))
      ])
      (λ h.
      elim (or_cases (Any old (λ p. not (is_in gone p) && test p)) (Any put test) h) [
        | inl there ↦
            (let q = has_any (λ q. not (is_in gone (parts_of_ending q)) && test (parts_of_ending q)) old there in
            let p = parts_of_ending q.0 in
            let k = and_parts (not (is_in gone p)) (test p) q.2 in
            or_left (Any old (λ p. not (is_in stale p) && test p)) (Any fresh (λ p. not (is_in stale p) && test p)) (any_has (λ x. not (is_in stale (parts_of_ending x)) && test (parts_of_ending x)) old q.0 q.1 (and_from (not (is_in stale p)) (test p) (kept_enough p k.0) k.1)))
        | inr there ↦
            (let q = has_any (λ q. test (parts_of_ending q)) put there in
            let p = parts_of_ending q.0 in
            let stays = fresh_enough p (in_has put q.0 q.1) in
            elim (cases_Bool (is_in old p)) [
              | inl o ↦
                  (let r = found old p o in
                  or_left (Any old (λ p. not (is_in stale p) && test p)) (Any fresh (λ p. not (is_in stale p) && test p))
                  (any_has (λ x. not (is_in stale (parts_of_ending x)) && test (parts_of_ending x)) old r.0 r.1 (subst (λ v. (not (is_in stale v) && test v) ≡ true) r.2 (and_from (not (is_in stale p)) (test p) stays q.2))))
              | inr f ↦
                  or_right (Any old (λ p. not (is_in stale p) && test p)) (Any fresh (λ p. not (is_in stale p) && test p))
                  (fresh_is (λ p. not (is_in stale p) && test p)
                  ∙ any_has (λ x. not (is_in old (parts_of_ending x)) && (not (is_in stale (parts_of_ending x)) && test (parts_of_ending x))) put q.0 q.1
                  (and_from (not (is_in old p)) (not (is_in stale p) && test p) (ap not f) (and_from (not (is_in stale p)) (test p) stays q.2)))
            ])
      ])

-- an end more that was taken out below, and out of those that were put in
pub dropped : (all : Bool) (gone more put fewer : BTreeSet Ending) (e : EndingParts) → (all ≡ false → (p : EndingParts) → is_end_in more p ≡ (is_eq (ending_cmp p e) || is_end_in gone p))
    → ((test : EndingParts → Bool) → has_end fewer test ≡ has_end put (λ q. not (is_eq (ending_cmp e q)) && test q)) → (ends : BTreeSet Ending) (test : EndingParts → Bool)
    → ((not all && has_left more ends test) || has_end fewer test) ≡ ((not all && has_left gone ends (λ q. not (is_eq (ending_cmp e q)) && test q)) || has_end put (λ q. not (is_eq (ending_cmp e q)) && test q))
dropped all gone more put fewer e more_is fewer_is ends test =
    ap (λ b. (not all && has_left more ends test) || b) (fewer_is test)
    ∙ elim (cases_Bool all) [
      | inl h ↦ ap (λ b. (not b && has_left more ends test) || has_end put (λ q. not (is_eq (ending_cmp e q)) && test q)) h ∙ ap (λ b. (not b && has_left gone ends (λ q. not (is_eq (ending_cmp e q)) && test q)) || has_end put (λ q. not (is_eq (ending_cmp e q)) && test q)) (sym h)
      | inr h ↦
          ap (λ b. (not all && b) || has_end put (λ q. not (is_eq (ending_cmp e q)) && test q))
          (any_same (λ q. not (is_end_in more (parts_of_ending q)) && test (parts_of_ending q)) (λ q. not (is_end_in gone (parts_of_ending q)) && (not (is_eq (ending_cmp e (parts_of_ending q))) && test (parts_of_ending q))) ends.keys
          (λ q has.
          let p = parts_of_ending q in
          ap (λ b. not b && test p) (more_is h p)
          ∙ both (is_eq (ending_cmp p e)) (is_end_in gone p) (test p)
          ∙ ap (λ b. not (is_end_in gone p) && (not b && test p)) (eq_turned endings_total p e)))
    ]
  where
    both : (a b c : Bool) → (not (a || b) && c) ≡ (not b && (not a && c))
    both true true c = refl
    both true false c = refl
    both false b c = refl

pub on_ok_map : {X E : Type 0} {P Q : Type 0} (r : Result X E) → (P → Q) → OnOk r P → OnOk r Q
on_ok_map (Ok x) f p = f p
on_ok_map (Err e) f p = tt

-- one end more of a list
pub one_taken : (list : List Ending) (i : ℕ) (x : Ending) → i < length list → x ≡ get_or list i x → take i list ++ x ∷ [] ≡ take (i + 1) list
one_taken list i x within at = ap (λ q. take i list ++ q ∷ []) at ∙ sym (take_more list i x within)

pub none_taken : {X : Type 0} (test : X → Bool) (xs : List X) (n : ℕ) → list_any test xs ≡ false → list_any test (take n xs) ≡ false
none_taken test xs zero none = refl
none_taken test [] (suc n) none = refl
none_taken test (x ∷ xs) (suc n) none =
    let p = or_parts (test x) (list_any test xs) none in
    (λ i. p.0 i || none_taken test xs n p.1 i)

-- with an end more of a list put in
pub one_put : (old list : List Ending) (x : Ending) (test : EndingParts → Bool) → (test (parts_of_ending x) || (Any old test || Any list test)) ≡ (Any old test || Any (list ++ x ∷ []) test)
one_put old list x test = turned (test (parts_of_ending x)) (Any old test) (Any list test) ∙ ap (λ b. Any old test || b) (sym (any_joined (λ q. test (parts_of_ending q)) list (x ∷ [])))
  where
    turned : (a b c : Bool) → (a || (b || c)) ≡ (b || (c || (a || false)))
    turned true true c = refl
    turned true false true = refl
    turned true false false = refl
    turned false b true = refl
    turned false b false = refl

-- of those that aren't there none is there
pub none_there : (old put : List Ending) → Any put (λ p. not (is_in old p) && is_in old p) ≡ false
none_there old put =
    none_from (λ q. not (is_in old (parts_of_ending q)) && is_in old (parts_of_ending q)) put (λ q has h.
    let k = and_parts (not (is_in old (parts_of_ending q))) (is_in old (parts_of_ending q)) h in
    both_ways (is_in old (parts_of_ending q)) (not-true (is_in old (parts_of_ending q)) k.0) k.1)

pub or_none : (b : Bool) → (b || false) ≡ b
or_none true = refl
or_none false = refl
