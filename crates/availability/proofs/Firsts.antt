-- Texts that were seen.
use Rattle.std.proofs.Common.{◌≡◌, ℕ, Bool, true, false, ◌||◌, cond, List, [], ◌∷◌, ◌++◌, refl, sym, ap, ◌∙◌, arith, Ordering, nat_cmp, Vec, append_assoc}
use Rattle.std.specs.List.{list_any}
use Rattle.std.specs.Ordering.{match_ordering, is_eq}
use Rattle.std.specs.declared.cmp.Ordering.TheVariants.{Less, Equal, Greater}
use Rattle.std.specs.BTreeSet.{insert_key}
use Rattle.std.specs.Str.{bytes_eq}
use Rattle.std.specs.Cmp.Lexicographic.{slice_cmp}
use Rattle.std.proofs.lemmas.Cmp.{same_from_slice_cmp}
use Rattle.std.proofs.lemmas.Bool.Decides.{nat_tests}
use Rattle.std.proofs.lemmas.List.Folds.{list_any-append}
use Rattle.std.proofs.lemmas.Map.Lookups.{exact_bytes}
use Rattle.availability.specs.Texts.{firsts_after}

or_left : (a b c : Bool) → (a || (b || c)) ≡ (b || (a || c))
or_left true true c = refl
or_left true false c = refl
or_left false b c = refl

or_same : (a b : Bool) → (a || b) ≡ (a || (a || b))
or_same true b = refl
or_same false b = refl

or_turned : (a b : Bool) → (a || b) ≡ (b || (a || false))
or_turned true true = refl
or_turned true false = refl
or_turned false true = refl
or_turned false false = refl

-- an inserted key is found besides
any_inserted : {K : Type 0} (cmp : K → K → Ordering) (test : K → Bool) (ks : List K) (k : K) → ((x : K) → cmp k x ≡ Equal → test x ≡ test k) → list_any test (insert_key cmp ks k) ≡ (test k || list_any test ks)
any_inserted cmp test [] k same = refl
any_inserted {K} cmp test (x ∷ xs) k same =
    elim (cmp k x) as (λ o. cmp k x ≡ o → list_any test (match_ordering o (k ∷ x ∷ xs) (x ∷ xs) (x ∷ insert_key cmp xs k)) ≡ (test k || (test x || list_any test xs))) [
      | Less ↦ λ _. refl
      | Equal ↦ λ e. ap (λ b. b || list_any test xs) (same x e) ∙ or_same (test k) (list_any test xs) ∙ ap (λ b. test k || (b || list_any test xs)) (sym (same x e))
      | Greater ↦ λ _. ap (λ b. test x || b) (any_inserted cmp test xs k same) ∙ or_left (test x) (test k) (list_any test xs)
    ] refl

-- the two tests on bytes agree
same_bytes : (xs ys : List ℕ) → is_eq (slice_cmp nat_cmp xs ys) ≡ bytes_eq xs ys
same_bytes xs ys = same_from_slice_cmp nat_cmp is_eq bytes_eq refl (λ _ _. refl) (λ _ _. refl) (λ x y us vs o h. grind (arith, nat_tests)) xs ys (slice_cmp nat_cmp xs ys) refl

abbrev pub vec_cmp : {A : Type 0} → Vec ℕ A → Vec ℕ A → Ordering
vec_cmp a b = slice_cmp nat_cmp a.items b.items

-- the set holds the bytes of the texts and no others
abbrev pub AreSeen : {A : Type 0} → List (List ℕ) → List (Vec ℕ A) → Type 0
AreSeen {A} texts keys = (bytes : List ℕ) → list_any (λ (v : Vec ℕ A). is_eq (slice_cmp nat_cmp bytes v.items)) keys ≡ list_any (bytes_eq bytes) texts

pub seen_more : {A : Type 0} (texts : List (List ℕ)) (keys more : List (Vec ℕ A)) (copy : Vec ℕ A) (text : List ℕ) → copy.items ≡ text → more ≡ insert_key vec_cmp keys copy
    → AreSeen texts keys → AreSeen (texts ++ text ∷ []) more
seen_more {A} texts keys more copy text e grown seen bytes =
    ap (list_any (λ (v : Vec ℕ A). is_eq (slice_cmp nat_cmp bytes v.items))) grown
    ∙ any_inserted vec_cmp (λ (v : Vec ℕ A). is_eq (slice_cmp nat_cmp bytes v.items)) keys copy (λ x h. ap (λ (b : List ℕ). is_eq (slice_cmp nat_cmp bytes b)) (sym (exact_bytes copy.items x.items h)))
    ∙ ap (λ b. is_eq (slice_cmp nat_cmp bytes copy.items) || b) (seen bytes)
    ∙ ap (λ b. b || list_any (bytes_eq bytes) texts) (ap (λ (b : List ℕ). is_eq (slice_cmp nat_cmp bytes b)) e ∙ same_bytes bytes text)
    ∙ or_turned (bytes_eq bytes text) (list_any (bytes_eq bytes) texts)
    ∙ sym (list_any-append (bytes_eq bytes) texts (text ∷ []))

-- a text that is new, and one that was seen
pub first_one : (text : List ℕ) (texts rest : List (List ℕ)) → list_any (bytes_eq text) texts ≡ false
    → (texts ++ text ∷ []) ++ firsts_after (texts ++ text ∷ []) rest ≡ texts ++ firsts_after texts (text ∷ rest)
first_one text texts rest new =
    append_assoc texts (text ∷ []) (firsts_after (texts ++ text ∷ []) rest)
    ∙ sym (ap (λ b. texts ++ cond b (firsts_after texts rest) (text ∷ firsts_after (texts ++ text ∷ []) rest)) new)

pub again : (text : List ℕ) (texts rest : List (List ℕ)) → list_any (bytes_eq text) texts ≡ true
    → texts ++ firsts_after texts rest ≡ texts ++ firsts_after texts (text ∷ rest)
again text texts rest old = sym (ap (λ b. texts ++ cond b (firsts_after texts rest) (text ∷ firsts_after (texts ++ text ∷ []) rest)) old)
