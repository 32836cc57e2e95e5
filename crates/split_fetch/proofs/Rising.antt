-- Items put in order rise, and a filter keeps their order.
use Rattle.std.proofs.Common.{◌≡◌, Bool, true, false, List, [], ◌∷◌, filter, cond, refl, sym, ap, ◌∙◌, Ordering}
use Rattle.std.specs.List.{AllByRecursion}
use Rattle.std.specs.Ordering.{is_lt, ordering_reverse}
use Rattle.std.specs.declared.cmp.Ordering.TheVariants.{Less, Equal, Greater}
use Rattle.std.specs.Cmp.{IsTotalOrder}
use Rattle.split_fetch.specs.Gathered.{put_behind, put_all_behind}
use Rattle.split_fetch.proofs.Woven.{Rises, put_passes, goes_first}

module _ {X : Type 0} (cmp : X → X → Ordering) where
  pub all_put : (P : X → Type 0) (ys : List X) (x : X) → AllByRecursion P ys → P x → AllByRecursion P (put_behind cmp ys x)
  all_put P [] x all one = (one, tt)
  all_put P (y ∷ ys) x all one =
      let rest = all_put P ys x all.1 one in
      elim (is_lt (cmp x y)) as (λ b. AllByRecursion P (cond b (x ∷ y ∷ ys) (y ∷ put_behind cmp ys x))) [
        | true ↦ (one, all)
        | false ↦
            (all.0, rest)
      ]

  pub all_put_all : (P : X → Type 0) (done xs : List X) → AllByRecursion P done → AllByRecursion P xs
      → AllByRecursion P (put_all_behind cmp done xs)
  all_put_all P done [] all more = all
  all_put_all P done (x ∷ xs) all more = all_put_all P (put_behind cmp done x) xs (all_put P done x all more.0) more.1

module _ {X : Type 0} {cmp : X → X → Ordering} (o : IsTotalOrder cmp) where
  is_less : (c : Ordering) → is_lt c ≡ true → c ≡ Less
  is_less Less h = refl
  is_less Equal h = (cc)
  is_less Greater h = (cc)

  not_back : (x y : X) → is_lt (cmp x y) ≡ true → is_lt (cmp y x) ≡ false
  not_back x y h = ap is_lt (o.antisymm y x ∙ ap ordering_reverse (is_less (cmp x y) h))

  -- what is less than the one is less than what isn't less than the one
  pub less_through : (x y z : X) → is_lt (cmp x y) ≡ true → is_lt (cmp z y) ≡ false → is_lt (cmp x z) ≡ true
  less_through x y z h k =
      elim (cmp z y) as (λ c. cmp z y ≡ c → is_lt c ≡ false → is_lt (cmp x z) ≡ true) [
        | Less ↦ λ e f. absurd (let g = f in (cc))
        | Equal ↦ λ e f. ap is_lt (o.antisymm x z ∙ ap ordering_reverse (o.congr z y x e) ∙ sym (o.antisymm x y)) ∙ h
        | Greater ↦ λ e f. ap is_lt (o.trans x y z (is_less (cmp x y) h) (o.antisymm y z ∙ ap ordering_reverse e))
      ] refl k

  all_less : (x y : X) (ys : List X) → is_lt (cmp x y) ≡ true → AllByRecursion (λ z. is_lt (cmp z y) ≡ false) ys
      → AllByRecursion (λ z. is_lt (cmp x z) ≡ true) ys
  all_less x y [] h all = tt
  all_less x y (z ∷ zs) h all = (less_through x y z h all.0, all_less x y zs h all.1)

  all_not_back : (x : X) (ys : List X) → AllByRecursion (λ z. is_lt (cmp x z) ≡ true) ys → AllByRecursion (λ z. is_lt (cmp z x) ≡ false) ys
  all_not_back x [] all = tt
  all_not_back x (z ∷ zs) all = (not_back x z all.0, all_not_back x zs all.1)

  rises_put : (done : List X) (x : X) → Rises cmp done → Rises cmp (put_behind cmp done x)
  rises_put [] x up = (tt, tt)
  rises_put (y ∷ ys) x up =
      elim (is_lt (cmp x y)) as (λ b. is_lt (cmp x y) ≡ b → Rises cmp (cond b (x ∷ y ∷ ys) (y ∷ put_behind cmp ys x))) [
        | true ↦ λ e. ((not_back x y e, all_not_back x ys (all_less x y ys e up.0)), up)
        | false ↦ λ e. (all_put cmp (λ z. is_lt (cmp z y) ≡ false) ys x up.0 e, rises_put ys x up.1)
      ] refl

  pub rises_all : (done xs : List X) → Rises cmp done → Rises cmp (put_all_behind cmp done xs)
  rises_all done [] up = up
  rises_all done (x ∷ xs) up = rises_all (put_behind cmp done x) xs (rises_put done x up)

  module _ (p : X → Bool) where
    all_kept : (P : X → Type 0) (xs : List X) → AllByRecursion P xs → AllByRecursion P (filter p xs)
    all_kept P [] all = tt
    all_kept P (x ∷ xs) all =
        let rest = all_kept P xs all.1 in
        elim (p x) as (λ b. AllByRecursion P (cond b (x ∷ filter p xs) (filter p xs))) [ true ↦ (all.0, rest) | false ↦ rest ]

    filter_put : (done : List X) (x : X) → Rises cmp done → filter p (put_behind cmp done x)
        ≡ cond (p x) (put_behind cmp (filter p done) x) (filter p done)
    filter_put [] x up = refl
    filter_put (y ∷ ys) x up =
        let rest = filter_put ys x up.1 in
        elim (is_lt (cmp x y)) as (λ b. is_lt (cmp x y) ≡ b → filter p (cond b (x ∷ y ∷ ys) (y ∷ put_behind cmp ys x))
        ≡ cond (p x) (put_behind cmp (filter p (y ∷ ys)) x) (filter p (y ∷ ys))) [
          | true ↦ λ e.
              let front : put_behind cmp (filter p (y ∷ ys)) x ≡ x ∷ filter p (y ∷ ys) =
              goes_first cmp x (filter p (y ∷ ys)) (all_kept (λ z. is_lt (cmp x z) ≡ true) (y ∷ ys) (e, all_less x y ys e up.0)) in
              ap (λ (l : List X). cond (p x) l (filter p (y ∷ ys))) (sym front)
          | false ↦ λ e.
              elim (p y) as (λ c. cond c (y ∷ filter p (put_behind cmp ys x)) (filter p (put_behind cmp ys x))
              ≡ cond (p x) (put_behind cmp (cond c (y ∷ filter p ys) (filter p ys)) x) (cond c (y ∷ filter p ys) (filter p ys))) [
                | true ↦ ap (λ (l : List X). y ∷ l) rest
                    ∙ elim (p x) as (λ d. y ∷ cond d (put_behind cmp (filter p ys) x) (filter p ys)
                    ≡ cond d (put_behind cmp (y ∷ filter p ys) x) (y ∷ filter p ys)) [
                      | true ↦ sym (put_passes cmp y (filter p ys) x e)
                      | false ↦ refl
                    ]
                | false ↦ rest
              ]
        ] refl

    -- what passes of items put in order is what passes of them, put in order
    pub filter_all : (done xs : List X) → Rises cmp done → filter p (put_all_behind cmp done xs)
        ≡ put_all_behind cmp (filter p done) (filter p xs)
    filter_all done [] up = refl
    filter_all done (x ∷ xs) up =
        filter_all (put_behind cmp done x) xs (rises_put done x up)
        ∙ ap (λ (l : List X). put_all_behind cmp l (filter p xs)) (filter_put done x up)
        ∙ elim (p x) as (λ d. put_all_behind cmp (cond d (put_behind cmp (filter p done) x) (filter p done)) (filter p xs)
        ≡ put_all_behind cmp (filter p done) (cond d (x ∷ filter p xs) (filter p xs))) [
          | true ↦ refl
          | false ↦ refl
        ]

-- what rises by an order rises by a coarser one
pub rises_coarser : {X : Type 0} (cmp key : X → X → Ordering) → ((x y : X) → is_lt (cmp x y) ≡ false → is_lt (key x y) ≡ false)
    → (xs : List X) → Rises cmp xs → Rises key xs
rises_coarser cmp key coarser [] up = tt
rises_coarser {X} cmp key coarser (x ∷ xs) up = (each xs up.0, rises_coarser cmp key coarser xs up.1)
  where
    each : (ys : List X) → AllByRecursion (λ y. is_lt (cmp y x) ≡ false) ys → AllByRecursion (λ y. is_lt (key y x) ≡ false) ys
    each [] all = tt
    each (y ∷ ys) all = (coarser y x all.0, each ys all.1)
