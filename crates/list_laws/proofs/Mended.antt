-- Spans that are kept merged: in which order they go in is free, and one pass over spans in order makes the
-- same. `start` and `reach` of a join are the least start and the greatest reach.
use Rattle.std.proofs.Common.{◌≡◌, ℤ, true, false, List, [], ◌∷◌, refl, sym, ap, ◌∙◌, arith, cond, ◌++◌, ◌⊎◌, inl, inr, ◌≤ℤ◌, ◌<ℤ◌, subst, Ordering}
use Rattle.std.specs.Ordering.{match_ordering, int_cmp}
use Rattle.std.specs.declared.cmp.Ordering.TheVariants.{Less, Equal, Greater}
use Rattle.std.specs.BTreeSet.{insert_key}
use Rattle.std.specs.Prelude.{int_lt}
use Rattle.std.specs.Int.{int_max, int_min}
use Rattle.std.specs.List.{AllByRecursion}
use Rattle.std.proofs.lemmas.Int.{ints, clamps, by_lt_z}
use Rattle.list_laws.specs.Mending.{IsForward, AreSpread, mend, mended}

module _ {S : Type 0} (start reach : S → ℤ) (join : S → S → S)
    (comm : (a b : S) → join a b ≡ join b a)
    (assoc : (a b c : S) → join (join a b) c ≡ join a (join b c))
    (start_join : (a b : S) → start (join a b) ≡ int_min (start a) (start b))
    (reach_join : (a b : S) → reach (join a b) ≡ int_max (reach a) (reach b)) where
  abbrev Forward : S → Type 0
  Forward s = IsForward start reach s

  abbrev Apart : List S → Type 0
  Apart ts = AreSpread start reach ts

  abbrev put : S → List S → List S
  put s ts = mend start reach join s ts

  -- the three places of a span
  before : (s t : S) (ts : List S) → reach t <ℤ start s → put s (t ∷ ts) ≡ t ∷ put s ts
  before s t ts h =
      let e : int_lt (reach t) (start s) ≡ true = grind (arith, ints) in
      ap (λ b. cond b (t ∷ put s ts) (cond (int_lt (reach s) (start t)) (s ∷ t ∷ ts) (put (join s t) ts))) e

  after : (s t : S) (ts : List S) → Forward s → Forward t → reach s <ℤ start t → put s (t ∷ ts) ≡ s ∷ t ∷ ts
  after s t ts fs ft h =
      let e : int_lt (reach t) (start s) ≡ false = grind (arith, ints, fs, ft) in
      let f : int_lt (reach s) (start t) ≡ true = grind (arith, ints) in
      ap (λ b. cond b (t ∷ put s ts) (cond (int_lt (reach s) (start t)) (s ∷ t ∷ ts) (put (join s t) ts))) e
      ∙ ap (λ b. cond b (s ∷ t ∷ ts) (put (join s t) ts)) f

  touching : (s t : S) (ts : List S) → start s ≤ℤ reach t → start t ≤ℤ reach s → put s (t ∷ ts) ≡ put (join s t) ts
  touching s t ts h k =
      let e : int_lt (reach t) (start s) ≡ false = grind (arith, ints) in
      let f : int_lt (reach s) (start t) ≡ false = grind (arith, ints) in
      ap (λ b. cond b (t ∷ put s ts) (cond (int_lt (reach s) (start t)) (s ∷ t ∷ ts) (put (join s t) ts))) e
      ∙ ap (λ b. cond b (s ∷ t ∷ ts) (put (join s t) ts)) f

  place : {P : Type 0} (s t : S) → (reach t <ℤ start s → P) → (reach s <ℤ start t → P) → (start s ≤ℤ reach t → start t ≤ℤ reach s → P) → P
  place s t is_before is_after touches = by_lt_z (reach t) (start s) is_before (λ h. by_lt_z (reach s) (start t) is_after (λ k. touches h k))

  -- bounds of a join
  low_left : (a b : S) → start (join a b) ≤ℤ start a
  low_left a b = omega (arith, ints, clamps, start_join a b)

  low_right : (a b : S) → start (join a b) ≤ℤ start b
  low_right a b = omega (arith, ints, clamps, start_join a b)

  high_left : (a b : S) → reach a ≤ℤ reach (join a b)
  high_left a b = omega (arith, ints, clamps, reach_join a b)

  high_right : (a b : S) → reach b ≤ℤ reach (join a b)
  high_right a b = omega (arith, ints, clamps, reach_join a b)

  reach_below : (a b : S) (q : ℤ) → reach a <ℤ q → reach b <ℤ q → reach (join a b) <ℤ q
  reach_below a b q h k = omega (arith, ints, clamps, reach_join a b)

  start_above : (a b : S) (q : ℤ) → q <ℤ start a → q <ℤ start b → q <ℤ start (join a b)
  start_above a b q h k = omega (arith, ints, clamps, start_join a b)

  start_from : (a b : S) (q : ℤ) → q ≤ℤ start a → q ≤ℤ start b → q ≤ℤ start (join a b)
  start_from a b q h k = omega (arith, ints, clamps, start_join a b)

  forward_join : (a b : S) → Forward a → Forward b → Forward (join a b)
  forward_join a b fa fb = omega (arith, ints, clamps, start_join a b, reach_join a b, fa, fb)

  swapped : (a b c : S) → join (join a b) c ≡ join (join a c) b
  swapped a b c = assoc a b c ∙ ap (join a) (comm b c) ∙ sym (assoc a c b)

  -- two spans that touch go in as their join
  pub join_law : (s x : S) (ts : List S) → Forward s → Forward x → AllByRecursion Forward ts → start s ≤ℤ reach x → start x ≤ℤ reach s → put s (put x ts) ≡ put (join s x) ts
  join_law s x [] fs fx all h k = touching s x [] h k
  join_law s x (t ∷ ts) fs fx all h k =
      let ft : Forward t = all.0 in
      place x t
      (λ tx.
      ap (put s) (before x t ts tx)
      ∙ place s t
      (λ b. before s t (put x ts) b ∙ ap (λ (us : List S). t ∷ us) (join_law s x ts fs fx all.1 h k) ∙ sym (before (join s x) t ts (start_above s x (reach t) b tx)))
      (λ a. absurd (omega (arith, ints, ft)))
      (λ a b.
      touching s t (put x ts) a b
      ∙ join_law (join s t) x ts (forward_join s t fs ft) fx all.1 (omega (arith, ints, low_left s t)) (omega (arith, ints, high_left s t))
      ∙ ap (λ u. put u ts) (swapped s t x)
      ∙ sym (touching (join s x) t ts (omega (arith, ints, low_left s x)) (omega (arith, ints, high_left s x)))))
      (λ xt. ap (put s) (after x t ts fx ft xt) ∙ touching s x (t ∷ ts) h k)
      (λ a b.
      ap (put s) (touching x t ts a b)
      ∙ join_law s (join x t) ts fs (forward_join x t fx ft) all.1 (omega (arith, ints, high_left x t)) (omega (arith, ints, low_left x t))
      ∙ ap (λ u. put u ts) (sym (assoc s x t))
      ∙ sym (touching (join s x) t ts (omega (arith, ints, low_right s x)) (omega (arith, ints, high_right s x))))

  all_forward : (ts : List S) → Apart ts → AllByRecursion Forward ts
  all_forward [] apart = tt
  all_forward (t ∷ ts) apart = (apart.0, all_forward ts apart.2)

  above_mend : (q : ℤ) (s : S) (ts : List S) → q <ℤ start s → AllByRecursion (λ u. q <ℤ start u) ts → AllByRecursion (λ u. q <ℤ start u) (put s ts)
  above_mend q s [] h all = (h, tt)
  above_mend q s (t ∷ ts) h all =
      elim (int_lt (reach t) (start s)) as (λ b. AllByRecursion (λ u. q <ℤ start u) (cond b (t ∷ put s ts) (cond (int_lt (reach s) (start t)) (s ∷ t ∷ ts) (put (join s t) ts)))) [
        | true ↦ (all.0, above_mend q s ts h all.1)
        | false ↦ elim (int_lt (reach s) (start t)) as (λ b. AllByRecursion (λ u. q <ℤ start u) (cond b (s ∷ t ∷ ts) (put (join s t) ts))) [
          | true ↦ (h, all)
          | false ↦ above_mend q (join s t) ts (start_above s t q h all.0) all.1
        ]
      ]

  farther : (p q : ℤ) (ts : List S) → p ≤ℤ q → AllByRecursion (λ u. q <ℤ start u) ts → AllByRecursion (λ u. p <ℤ start u) ts
  farther p q [] h all = tt
  farther p q (t ∷ ts) h all = (let k : q <ℤ start t = all.0 in omega (arith, ints, k), farther p q ts h all.1)

  front : (s : S) (us : List S) → Forward s → AllByRecursion Forward us → AllByRecursion (λ u. reach s <ℤ start u) us → put s us ≡ s ∷ us
  front s [] fs fus all = refl
  front s (u ∷ us) fs fus all = after s u us fs fus.0 all.0

  forward_mend : (s : S) (ts : List S) → Forward s → AllByRecursion Forward ts → AllByRecursion Forward (put s ts)
  forward_mend s [] fs all = (fs, tt)
  forward_mend s (t ∷ ts) fs all =
      elim (int_lt (reach t) (start s)) as (λ b. AllByRecursion Forward (cond b (t ∷ put s ts) (cond (int_lt (reach s) (start t)) (s ∷ t ∷ ts) (put (join s t) ts)))) [
        | true ↦ (all.0, forward_mend s ts fs all.1)
        | false ↦ elim (int_lt (reach s) (start t)) as (λ b. AllByRecursion Forward (cond b (s ∷ t ∷ ts) (put (join s t) ts))) [
          | true ↦ (fs, all)
          | false ↦ forward_mend (join s t) ts (forward_join s t fs all.0) all.1
        ]
      ]

  commute : (s x : S) (ts : List S) → Forward s → Forward x → Apart ts → reach s <ℤ start x → put s (put x ts) ≡ put x (put s ts)
  commute s x [] fs fx apart h = after s x [] fs fx h ∙ sym (before x s [] h)
  commute s x (t ∷ ts) fs fx apart h =
      let ft : Forward t = apart.0 in
      let fts = all_forward ts apart.2 in
      place s t
      (λ b.
      let c : reach t <ℤ start x = omega (arith, ints, fs) in
      ap (put s) (before x t ts c) ∙ before s t (put x ts) b
      ∙ ap (λ (us : List S). t ∷ us) (commute s x ts fs fx apart.2 h)
      ∙ sym (ap (put x) (before s t ts b) ∙ before x t (put s ts) c))
      (λ a.
      let le : reach s ≤ℤ reach t = omega (arith, ints, ft) in
      front s (put x (t ∷ ts)) fs (forward_mend x (t ∷ ts) fx (ft, fts)) (above_mend (reach s) x (t ∷ ts) h (a, farther (reach s) (reach t) ts le apart.1))
      ∙ sym (ap (put x) (after s t ts fs ft a) ∙ before x s (t ∷ ts) h))
      (λ a b.
      place x t
      (λ c.
      ap (put s) (before x t ts c) ∙ touching s t (put x ts) a b
      ∙ commute (join s t) x ts (forward_join s t fs ft) fx apart.2 (reach_below s t (start x) h c)
      ∙ sym (ap (put x) (touching s t ts a b)))
      (λ c. absurd (omega (arith, ints, fx)))
      (λ c d.
      ap (put s) (touching x t ts c d)
      ∙ join_law s (join x t) ts fs (forward_join x t fx ft) fts (omega (arith, ints, high_right x t)) (omega (arith, ints, low_right x t))
      ∙ ap (λ u. put u ts) (sym (assoc s x t) ∙ ap (λ u. join u t) (comm s x) ∙ assoc x s t)
      ∙ sym (join_law x (join s t) ts fx (forward_join s t fs ft) fts (omega (arith, ints, high_right s t)) (omega (arith, ints, low_right s t)))
      ∙ sym (ap (put x) (touching s t ts a b))))

  -- the order in which two spans go in is free
  pub mend_swap : (s x : S) (ts : List S) → Forward s → Forward x → Apart ts → put s (put x ts) ≡ put x (put s ts)
  mend_swap s x ts fs fx apart =
      place s x
      (λ h. sym (commute x s ts fx fs apart h))
      (λ h. commute s x ts fs fx apart h)
      (λ h k. join_law s x ts fs fx (all_forward ts apart) h k ∙ ap (λ u. put u ts) (comm s x) ∙ sym (join_law x s ts fx fs (all_forward ts apart) k h))

  pub apart_mend : (s : S) (ts : List S) → Forward s → Apart ts → Apart (put s ts)
  apart_mend s [] fs apart = (fs, tt, tt)
  apart_mend s (t ∷ ts) fs apart =
      let ft : Forward t = apart.0 in
      place s t
      (λ h. subst Apart (sym (before s t ts h)) (ft, above_mend (reach t) s ts h apart.1, apart_mend s ts fs apart.2))
      (λ h. let le : reach s ≤ℤ reach t = omega (arith, ints, ft) in subst Apart (sym (after s t ts fs ft h)) (fs, (h, farther (reach s) (reach t) ts le apart.1), apart))
      (λ h k. subst Apart (sym (touching s t ts h k)) (apart_mend (join s t) ts (forward_join s t fs ft) apart.2))

  module _ {X : Type 0} (one : X → S) (ahead : (x : X) → Forward (one x)) where
    abbrev gone_in : List X → List S
    gone_in xs = mended start reach join one xs

    pub apart_mended : (xs : List X) → Apart (gone_in xs)
    apart_mended [] = tt
    apart_mended (x ∷ xs) = apart_mend (one x) (gone_in xs) (ahead x) (apart_mended xs)

    -- one more row, wherever the order puts it
    pub mended_inserted : (cmp : X → X → Ordering) (xs : List X) (k : X) → AllByRecursion (λ x. (cmp k x ≡ Equal) → ⊥) xs → gone_in (insert_key cmp xs k) ≡ put (one k) (gone_in xs)
    mended_inserted cmp [] k new = refl
    mended_inserted cmp (x ∷ xs) k new =
        elim (cmp k x) as (λ o. cmp k x ≡ o → gone_in (match_ordering o (k ∷ x ∷ xs) (x ∷ xs) (x ∷ insert_key cmp xs k)) ≡ put (one k) (put (one x) (gone_in xs))) [
          | Less ↦ λ _. refl
          | Equal ↦ λ e. absurd (new.0 e)
          | Greater ↦ λ _. ap (put (one x)) (mended_inserted cmp xs k new.1) ∙ mend_swap (one x) (one k) (gone_in xs) (ahead x) (ahead k) (apart_mended xs)
        ] refl

    -- one pass over rows in order
    abbrev pub swept_from : S → List X → List S
    swept_from s [] = s ∷ []
    swept_from s (x ∷ xs) = cond (int_lt (reach s) (start (one x))) (s ∷ swept_from (one x) xs) (swept_from (join s (one x)) xs)

    abbrev pub InOrder : List X → Type 0
    InOrder [] = Unit {0}
    InOrder (x ∷ xs) = AllByRecursion (λ y. start (one x) ≤ℤ start (one y)) xs × InOrder xs

    above_mended : (q : ℤ) (xs : List X) → AllByRecursion (λ y. q <ℤ start (one y)) xs → AllByRecursion (λ u. q <ℤ start u) (gone_in xs)
    above_mended q [] all = tt
    above_mended q (x ∷ xs) all = above_mend q (one x) (gone_in xs) all.0 (above_mended q xs all.1)

    all_later : (p q : ℤ) (xs : List X) → p <ℤ q → AllByRecursion (λ y. q ≤ℤ start (one y)) xs → AllByRecursion (λ y. p <ℤ start (one y)) xs
    all_later p q [] h all = tt
    all_later p q (x ∷ xs) h all = (let k : q ≤ℤ start (one x) = all.0 in omega (arith, ints, k), all_later p q xs h all.1)

    all_from : (p q : ℤ) (xs : List X) → p ≤ℤ q → AllByRecursion (λ y. q ≤ℤ start (one y)) xs → AllByRecursion (λ y. p ≤ℤ start (one y)) xs
    all_from p q [] h all = tt
    all_from p q (x ∷ xs) h all = (let k : q ≤ℤ start (one x) = all.0 in omega (arith, ints, k), all_from p q xs h all.1)

    forward_mended : (xs : List X) → AllByRecursion Forward (gone_in xs)
    forward_mended xs = all_forward (gone_in xs) (apart_mended xs)

    pub swept_mended : (s : S) (xs : List X) → Forward s → AllByRecursion (λ y. start s ≤ℤ start (one y)) xs → InOrder xs → swept_from s xs ≡ put s (gone_in xs)
    swept_mended s [] fs all up = refl
    swept_mended s (x ∷ xs) fs all up =
        let h : start s ≤ℤ start (one x) = all.0 in
        by_lt_z (reach s) (start (one x))
        (λ lt.
        let e : int_lt (reach s) (start (one x)) ≡ true = grind (arith, ints) in
        ap (λ b. cond b (s ∷ swept_from (one x) xs) (swept_from (join s (one x)) xs)) e
        ∙ ap (λ (us : List S). s ∷ us) (swept_mended (one x) xs (ahead x) up.0 up.1)
        ∙ sym (front s (put (one x) (gone_in xs)) fs (forward_mend (one x) (gone_in xs) (ahead x) (forward_mended xs)) (above_mend (reach s) (one x) (gone_in xs) lt (above_mended (reach s) xs (all_later (reach s) (start (one x)) xs lt up.0)))))
        (λ ge.
        let e : int_lt (reach s) (start (one x)) ≡ false = grind (arith, ints) in
        ap (λ b. cond b (s ∷ swept_from (one x) xs) (swept_from (join s (one x)) xs)) e
        ∙ swept_mended (join s (one x)) xs (forward_join s (one x) fs (ahead x)) (all_from (start (join s (one x))) (start (one x)) xs (low_right s (one x)) up.0) up.1
        ∙ sym (join_law s (one x) (gone_in xs) fs (ahead x) (forward_mended xs) (omega (arith, ints, ahead x, h)) ge))

  -- a kept span that a new one touches may be taken out and joined first
  pub absorbed : (s t : S) (us vs : List S) → Forward s → Forward t → AllByRecursion Forward us → AllByRecursion (λ u. reach u <ℤ start t) us → start s ≤ℤ reach t → start t ≤ℤ reach s
      → put s (us ++ t ∷ vs) ≡ put (join s t) (us ++ vs)
  absorbed s t [] vs fs ft fus below h k = touching s t vs h k
  absorbed s t (u ∷ us) vs fs ft fus below h k =
      let fu : Forward u = fus.0 in
      let bu : reach u <ℤ start t = below.0 in
      place s u
      (λ b. before s u (us ++ t ∷ vs) b ∙ ap (λ (ts : List S). u ∷ ts) (absorbed s t us vs fs ft fus.1 below.1 h k) ∙ sym (before (join s t) u (us ++ vs) (start_above s t (reach u) b bu)))
      (λ a. absurd (omega (arith, ints, fu, bu)))
      (λ a b.
      touching s u (us ++ t ∷ vs) a b
      ∙ absorbed (join s u) t us vs (forward_join s u fs fu) ft fus.1 below.1 (omega (arith, ints, low_left s u)) (omega (arith, ints, high_left s u))
      ∙ ap (λ x. put x (us ++ vs)) (swapped s u t)
      ∙ sym (touching (join s t) u (us ++ vs) (omega (arith, ints, low_left s t)) (omega (arith, ints, high_left s t))))

  abbrev pub start_cmp : S → S → Ordering
  start_cmp a b = int_cmp (start a) (start b)

  -- where it touches none, it goes in by its start
  pub untouched : (s : S) (ts : List S) → Forward s → AllByRecursion Forward ts → AllByRecursion (λ t. (reach t <ℤ start s) ⊎ (reach s <ℤ start t)) ts → put s ts ≡ insert_key start_cmp ts s
  untouched s [] fs fts clear = refl
  untouched s (t ∷ ts) fs fts clear =
      let ft : Forward t = fts.0 in
      place s t
      (λ h. let e : int_cmp (start s) (start t) ≡ Greater = grind (arith, ints) in before s t ts h ∙ ap (λ (us : List S). t ∷ us) (untouched s ts fs fts.1 clear.1) ∙ ap (λ o. match_ordering o (s ∷ t ∷ ts) (t ∷ ts) (t ∷ insert_key start_cmp ts s)) (sym e))
      (λ h. let e : int_cmp (start s) (start t) ≡ Less = grind (arith, ints) in after s t ts fs ft h ∙ ap (λ o. match_ordering o (s ∷ t ∷ ts) (t ∷ ts) (t ∷ insert_key start_cmp ts s)) (sym e))
      (λ h k. elim clear.0 as (λ _. put s (t ∷ ts) ≡ insert_key start_cmp (t ∷ ts) s) [ inl b ↦ absurd (omega (arith, ints, b)) | inr a ↦ absurd (omega (arith, ints, a)) ])
