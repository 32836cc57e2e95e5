-- The first refused element decides, and what each step keeps holds in the end.
use Rattle.std.proofs.Common.{◌≡◌, ◌⊎◌, inl, inr, ℕ, ◌+◌, suc, map, List, [], ◌∷◌, ◌++◌, Result, Ok, Err, length, refl, sym, ap, subst, ◌∙◌, arith}
use Rattle.std.proofs.lemmas.List.{append-nil, append_assoc}
use Rattle.std.specs.List.{AllByRecursion}
use Rattle.list_laws.specs.Faults.{IsFirstFault, IsFirstWithout}
use Rattle.list_laws.specs.Runs.{and_then, run_from, IsFirstRefused}

behind : {S A E : Type 0} (step : ℕ → S → A → Result S E) (n : ℕ) (s t : S) (x : A) (xs : List A) (e : E) → step n s x ≡ Ok t → IsFirstRefused step (n + 1) t xs e → IsFirstRefused step n s (x ∷ xs) e
behind step n s t x xs e taken h = record {
  before = x ∷ h.before;
  here = h.here;
  after = h.after;
  split = ap (λ r. x ∷ r) h.split;
  state = h.state;
  clean = ap (λ r. and_then r (λ u. run_from step (n + 1) u h.before)) taken ∙ h.clean;
  refused = let same : n + suc (length h.before) ≡ (n + 1) + length h.before = omega arith in ap (λ k. step k h.state h.here) same ∙ h.refused;
}

at : {S A E : Type 0} (step : ℕ → S → A → Result S E) (n : ℕ) (s : S) (x : A) (xs : List A) (e : E) (r : Result S E) → step n s x ≡ r → and_then r (λ t. run_from step (n + 1) t xs) ≡ Err e → ((t : S) → run_from step (n + 1) t xs ≡ Err e → IsFirstRefused step (n + 1) t xs e) → IsFirstRefused step n s (x ∷ xs) e
at step n s x xs e (Ok t) is h next = behind step n s t x xs e is (next t h)
at step n s x xs e (Err d) is h next = record { before = []; here = x; after = xs; split = refl; state = s; clean = refl; refused = let same : n + 0 ≡ n = omega arith in ap (λ k. step k s x) same ∙ is ∙ h }

pub first_refused : {S A E : Type 0} (step : ℕ → S → A → Result S E) (n : ℕ) (s : S) (xs : List A) (e : E) → run_from step n s xs ≡ Err e → IsFirstRefused step n s xs e
first_refused step n s [] e h = let f : Ok s ≡ Err e = h in cc
first_refused step n s (x ∷ xs) e h = at step n s x xs e (step n s x) refl h (λ t k. first_refused step (n + 1) t xs e k)

kept : {S A E : Type 0} (step : ℕ → S → A → Result S E) (P : List A → S → Type 0) (n : ℕ) (before : List A) (x : A) (s t : S) (xs : List A) (r : Result S E) → ((u : S) → step n s x ≡ Ok u → P (before ++ x ∷ []) u) → ((u : S) → P (before ++ x ∷ []) u → run_from step (n + 1) u xs ≡ Ok t → P (before ++ x ∷ [] ++ xs) t) → step n s x ≡ r → and_then r (λ u. run_from step (n + 1) u xs) ≡ Ok t → P (before ++ x ∷ xs) t
kept step P n before x s t xs (Ok u) keeps next is k = subst (λ bs. P bs t) (append_assoc before (x ∷ []) xs) (next u (keeps u is) k)
kept step P n before x s t xs (Err d) keeps next is k = cc

pub run_keeps : {S A E : Type 0} (step : ℕ → S → A → Result S E) (P : List A → S → Type 0) (keeps : (n : ℕ) (before : List A) (x : A) (s t : S) → P before s → step n s x ≡ Ok t → P (before ++ x ∷ []) t) (n : ℕ) (before : List A) (s t : S) (xs : List A) → P before s → run_from step n s xs ≡ Ok t → P (before ++ xs) t
run_keeps step P keeps n before s t [] p h = let same : s ≡ t = cc in subst (λ u. P (before ++ []) u) same (subst (λ bs. P bs s) (sym (append-nil before)) p)
run_keeps step P keeps n before s t (x ∷ xs) p h = kept step P n before x s t xs (step n s x) (λ u is. keeps n before x s u p is) (λ u q k. run_keeps step P keeps (n + 1) (before ++ x ∷ []) u t xs q k) refl h

no_values_at : {A B E : Type 0} (f : A → Result B E) (fault : E) (before : List A) (here : A) (after : List A) (values : List B) → f here ≡ Err fault → map f (before ++ here ∷ after) ≡ map Ok values → ⊥
no_values_at f fault [] here after [] refused e = cc
no_values_at f fault [] here after (v ∷ vs) refused e = let taken : f here ≡ Ok v = cc in let both : Err fault ≡ Ok v = sym refused ∙ taken in cc
no_values_at f fault (b ∷ before) here after [] refused e = cc
no_values_at f fault (b ∷ before) here after (v ∷ vs) refused e = no_values_at f fault before here after vs refused (cc)

-- a list with a refused element has no list of values
pub no_values : {A B E : Type 0} (f : A → Result B E) (xs : List A) (fault : E) (values : List B) → IsFirstFault f xs fault → map f xs ≡ map Ok values → ⊥
no_values f xs fault values h e = no_values_at f fault h.before h.here h.after values h.refused (ap (map f) (sym h.split) ∙ e)

-- a list of values is one alone
pub one_values : {A B E : Type 0} (f : A → Result B E) (xs : List A) (vs ws : List B) → map f xs ≡ map Ok vs → map f xs ≡ map Ok ws → vs ≡ ws
one_values f [] [] [] e k = refl
one_values f [] [] (w ∷ ws) e k = cc
one_values f [] (v ∷ vs) ws e k = cc
one_values f (x ∷ xs) [] ws e k = cc
one_values f (x ∷ xs) (v ∷ vs) [] e k = cc
one_values f (x ∷ xs) (v ∷ vs) (w ∷ ws) e k =
    let taken : f x ≡ Ok v = cc in
    let again : f x ≡ Ok w = cc in
    let both = sym taken ∙ again in
    let first : v ≡ w = cc in
    let rest : vs ≡ ws = one_values f xs vs ws (cc) (cc) in
    cc

one_fault_at : {A B E : Type 0} (f : A → Result B E) (before later : List A) (x y : A) (after rest : List A) (vs ws : List B) (d e : E) → map f before ≡ map Ok vs → map f later ≡ map Ok ws
    → f x ≡ Err d → f y ≡ Err e → before ++ x ∷ after ≡ later ++ y ∷ rest → d ≡ e
one_fault_at f [] [] x y after rest vs ws d e clean pure h k same =
    let here : x ≡ y = cc in
    let both = sym h ∙ ap f here ∙ k in
    cc
one_fault_at f [] (l ∷ later) x y after rest vs [] d e clean pure h k same = cc
one_fault_at f [] (l ∷ later) x y after rest vs (w ∷ ws) d e clean pure h k same =
    let here : x ≡ l = cc in
    let taken : f l ≡ Ok w = cc in
    let both : Err d ≡ Ok w = sym h ∙ ap f here ∙ taken in
    cc
one_fault_at f (b ∷ before) [] x y after rest [] ws d e clean pure h k same = cc
one_fault_at f (b ∷ before) [] x y after rest (v ∷ vs) ws d e clean pure h k same =
    let here : y ≡ b = cc in
    let taken : f b ≡ Ok v = cc in
    let both : Err e ≡ Ok v = sym k ∙ ap f here ∙ taken in
    cc
one_fault_at f (b ∷ before) (l ∷ later) x y after rest [] ws d e clean pure h k same = cc
one_fault_at f (b ∷ before) (l ∷ later) x y after rest (v ∷ vs) [] d e clean pure h k same = cc
one_fault_at f (b ∷ before) (l ∷ later) x y after rest (v ∷ vs) (w ∷ ws) d e clean pure h k same =
    one_fault_at f before later x y after rest vs ws d e (cc) (cc) h k (cc)

-- a first fault is one alone
pub one_first_fault : {A B E : Type 0} (f : A → Result B E) (xs : List A) (d e : E) → IsFirstFault f xs d → IsFirstFault f xs e → d ≡ e
one_first_fault f xs d e h k =
    one_fault_at f h.before k.before h.here k.here h.after k.after h.values k.values d e h.clean k.clean h.refused k.refused (sym h.split ∙ k.split)

values_or_fault_at : {A B E : Type 0} (f : A → Result B E) (x : A) (xs : List A) (r : Result B E) → f x ≡ r
    → ((vs : List B) × (map f xs ≡ map Ok vs)) ⊎ ((e : E) × IsFirstFault f xs e) → ((vs : List B) × (map f (x ∷ xs) ≡ map Ok vs)) ⊎ ((e : E) × IsFirstFault f (x ∷ xs) e)
values_or_fault_at f x xs (Err e) is rest = inr (e, record { before = []; here = x; after = xs; split = refl; values = []; clean = refl; refused = is })
values_or_fault_at f x xs (Ok v) is (inl taken) = inl (v ∷ taken.0, (let all = taken.1 in cc))
values_or_fault_at f x xs (Ok v) is (inr late) = inr (
  late.0,
  record {
    before = x ∷ late.1.before;
    here = late.1.here;
    after = late.1.after;
    split = ap (λ r. x ∷ r) late.1.split;
    values = v ∷ late.1.values;
    clean = (let all = late.1.clean in cc);
    refused = late.1.refused;
  },
)

-- a list has values or a first fault
pub values_or_fault : {A B E : Type 0} (f : A → Result B E) (xs : List A) → ((vs : List B) × (map f xs ≡ map Ok vs)) ⊎ ((e : E) × IsFirstFault f xs e)
values_or_fault f [] = inl ([], refl)
values_or_fault f (x ∷ xs) = values_or_fault_at f x xs (f x) refl (values_or_fault f xs)

all_or_first : {A : Type 0} (P : A → Type 0) (before : List A) (here : A) (after : List A) → AllByRecursion P (before ++ here ∷ after) → P here
all_or_first P [] here after all = all.0
all_or_first P (b ∷ before) here after all = all_or_first P before here after all.1

-- where all have a property, none lacks it
pub none_without : {A : Type 0} (P : A → Type 0) (xs : List A) (x : A) → AllByRecursion P xs → IsFirstWithout P xs x → ⊥
none_without P xs x all h = h.lacks (all_or_first P h.before x h.after (subst (λ ys. AllByRecursion P ys) h.split all))

one_without_at : {A : Type 0} (P : A → Type 0) (before later : List A) (x y : A) (after rest : List A) → AllByRecursion P before → AllByRecursion P later → (P x → ⊥) → (P y → ⊥)
    → before ++ x ∷ after ≡ later ++ y ∷ rest → x ≡ y
one_without_at P [] [] x y after rest all each x_lacks y_lacks same = cc
one_without_at P [] (l ∷ later) x y after rest all each x_lacks y_lacks same = let here : l ≡ x = cc in absurd (x_lacks (subst P here each.0))
one_without_at P (b ∷ before) [] x y after rest all each x_lacks y_lacks same = let here : b ≡ y = cc in absurd (y_lacks (subst P here all.0))
one_without_at P (b ∷ before) (l ∷ later) x y after rest all each x_lacks y_lacks same = one_without_at P before later x y after rest all.1 each.1 x_lacks y_lacks (cc)

-- the first that lacks it is one alone
pub one_without : {A : Type 0} (P : A → Type 0) (xs : List A) (x y : A) → IsFirstWithout P xs x → IsFirstWithout P xs y → x ≡ y
one_without P xs x y h k = one_without_at P h.before k.before x y h.after k.after h.all k.all h.lacks k.lacks (sym h.split ∙ k.split)
