-- One channel is new or changed: what all of them hold.
use Rattle.std.proofs.Common.{◌≡◌, ℕ, Bool, true, false, ◌||◌, ◌&&◌, cond, Option, Some, None, refl, sym, ap, ◌∙◌, max, true≢false}
use Rattle.std.specs.Option.{is_some}
use Rattle.std.proofs.lemmas.Cmp.{eq_by_cmp_equiv}
use Rattle.std.specs.Ordering.{eq_by_cmp}
use Rattle.std.specs.BTreeMap.{BTreeMap, get}
use Rattle.std.proofs.lemmas.Map.Views.{tells_apart}
use Rattle.channel_globs.specs.declared.nslc.Nslc.{Nslc}
use Rattle.channel_globs.specs.Names.{name_cmp}
use Rattle.channel_globs.proofs.Names.{exact_names}
use Rattle.time_index.specs.declared.spot.Spot.{Spot}
use Rattle.time_index.specs.declared.channels.Channel.{Channel}
use Rattle.time_index.specs.Spots.{spot_cmp, is_same, has, longest_in, has_spot, longest_of}
use Rattle.time_index.proofs.Sets.{spots_total}

pub same_name : (a b : Nslc) → is_same a b ≡ true → a ≡ b
same_name a b h = tells_apart exact_names a b h

module _ (m n : BTreeMap Nslc Channel) (name : Nslc) (old : Option Channel) (new : Channel) (was : get name_cmp m name ≡ old)
    (updates : (p : Nslc) → get name_cmp n p ≡ cond (is_same name p) (Some new) (get name_cmp m p)) where
  at_name : (p : Nslc) → is_same name p ≡ true → get name_cmp m p ≡ old
  at_name p t = ap (get name_cmp m) (sym (same_name name p t)) ∙ was

  pub spots_grown : (spot : Spot) → ((q : Spot) → has (Some new) q ≡ (eq_by_cmp spot_cmp q spot || has old q)) → (p : Nslc) (q : Spot) → has_spot n p q ≡ ((is_same name p && eq_by_cmp spot_cmp q spot) || has_spot m p q)
  spots_grown spot e p q =
      ap (λ o. has o q) (updates p)
      ∙ elim (is_same name p) as (λ b. is_same name p ≡ b → has (cond b (Some new) (get name_cmp m p)) q ≡ ((b && eq_by_cmp spot_cmp q spot) || has_spot m p q)) [
        | true ↦ λ t. e q ∙ sym (ap (λ o. eq_by_cmp spot_cmp q spot || has o q) (at_name p t))
        | false ↦ λ _. refl
      ] refl

  pub longest_grown : (longest : ℕ) → longest_in (Some new) ≡ max (longest_in old) longest → (p : Nslc) → longest_of n p ≡ cond (is_same name p) (max (longest_of m p) longest) (longest_of m p)
  longest_grown longest e p =
      ap longest_in (updates p)
      ∙ elim (is_same name p) as (λ b. is_same name p ≡ b → longest_in (cond b (Some new) (get name_cmp m p)) ≡ cond b (max (longest_of m p) longest) (longest_of m p)) [
        | true ↦ λ t. e ∙ sym (ap (λ o. max (longest_in o) longest) (at_name p t))
        | false ↦ λ _. refl
      ] refl

  pub spots_kept : ((q : Spot) → has (Some new) q ≡ has old q) → (p : Nslc) (q : Spot) → has_spot n p q ≡ has_spot m p q
  spots_kept e p q =
      ap (λ o. has o q) (updates p)
      ∙ elim (is_same name p) as (λ b. is_same name p ≡ b → has (cond b (Some new) (get name_cmp m p)) q ≡ has_spot m p q) [
        | true ↦ λ t. e q ∙ sym (ap (λ o. has o q) (at_name p t))
        | false ↦ λ _. refl
      ] refl

  pub longest_kept : longest_in (Some new) ≡ longest_in old → (p : Nslc) → longest_of n p ≡ longest_of m p
  longest_kept e p =
      ap longest_in (updates p)
      ∙ elim (is_same name p) as (λ b. is_same name p ≡ b → longest_in (cond b (Some new) (get name_cmp m p)) ≡ longest_of m p) [
        | true ↦ λ t. e ∙ sym (ap longest_in (at_name p t))
        | false ↦ λ _. refl
      ] refl

  -- one spot is taken out
  pub spots_shrunk : (spot : Spot) → ((q : Spot) → has (Some new) q ≡ cond (eq_by_cmp spot_cmp spot q) false (has old q)) → (p : Nslc) (q : Spot)
      → has_spot n p q ≡ cond (is_same name p && eq_by_cmp spot_cmp q spot) false (has_spot m p q)
  spots_shrunk spot e p q =
      ap (λ o. has o q) (updates p)
      ∙ elim (is_same name p) as (λ b. is_same name p ≡ b → has (cond b (Some new) (get name_cmp m p)) q ≡ cond (b && eq_by_cmp spot_cmp q spot) false (has_spot m p q)) [
        | true ↦ λ t. e q ∙ (λ i. cond ((eq_by_cmp_equiv spots_total).symm spot q i) false (has (sym (at_name p t) i) q))
        | false ↦ λ _. refl
      ] refl

-- where there is no channel, there is no spot to take out
pub none_shrunk : (m : BTreeMap Nslc Channel) (name : Nslc) (spot : Spot) → is_some (get name_cmp m name) ≡ false → (p : Nslc) (q : Spot) → has_spot m p q ≡ cond (is_same name p && eq_by_cmp spot_cmp q spot) false (has_spot m p q)
none_shrunk m name spot none p q =
    elim (is_same name p) as (λ b. is_same name p ≡ b → has_spot m p q ≡ cond (b && eq_by_cmp spot_cmp q spot) false (has_spot m p q)) [
      | true ↦ λ t. shut (eq_by_cmp spot_cmp q spot) (empty (get name_cmp m p) (ap (λ n. is_some (get name_cmp m n)) (sym (same_name name p t)) ∙ none))
      | false ↦ λ _. refl
    ] refl
  where
    empty : (o : Option Channel) → is_some o ≡ false → has o q ≡ false
    empty None h = refl
    empty (Some c) h = let e : true ≡ false = h in absurd (true≢false e)

    shut : (b : Bool) → has_spot m p q ≡ false → has_spot m p q ≡ cond b false (has_spot m p q)
    shut true h = h
    shut false h = refl
