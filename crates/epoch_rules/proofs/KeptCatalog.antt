-- Lines that are kept make of a catalog a catalog.
use Rattle.std.proofs.Common.{◌≡◌, ℕ, ◌==◌, Bool, true, false, not, ◌&&◌, ◌||◌, List, [], ◌∷◌, ◌++◌, Option, Some, None, refl, sym, ap, subst, ◌∙◌, if◌then◌else◌, Ordering}
use Rattle.std.specs.List.{list_any, AllByRecursion}
use Rattle.std.specs.Ordering.{is_eq, nat_cmp, ordering_then, ordering_reverse}
use Rattle.std.specs.declared.cmp.Ordering.TheVariants.{Less, Equal, Greater}
use Rattle.std.specs.Cmp.{IsTotalOrder}
use Rattle.std.proofs.lemmas.Cmp.{tied_itself}
use Rattle.std.proofs.lemmas.List.{append_assoc, append-nil}
use Rattle.std.proofs.lemmas.Map.Lookups.{exact_unsigned}
use Rattle.epochs.specs.declared.kinds.LineKind.{LineKind}
use Rattle.epochs.specs.declared.kinds.LineKind.TheVariants.{Net, Sta, Cha}
use Rattle.epochs.specs.declared.kinds.Head.{Head}
use Rattle.epochs.specs.declared.kinds.Head.TheVariants.{Says, Deletes}
use Rattle.epochs.specs.Fields.{Value}
use Rattle.epochs.specs.Lines.{LineValues, line_values, end_of}
use Rattle.epoch_rules.specs.declared.rule.Rule.{Rule}
use Rattle.epoch_rules.specs.Catalog.{IsCatalog}
use Rattle.epoch_rules.specs.Kept.{AreKept}
use Rattle.epoch_rules.specs.KeyOrder.{family_cmp, have_one_key, key_parts_of, rank_of}
use Rattle.epoch_rules.specs.LiveLines.{is_said, is_statement, live_lines}
use Rattle.epoch_rules.specs.Rules.{broken_rule, common_rule, has_rival, have_one_family, epoch_start, is_before_end, is_epoch, is_of_kind, is_orphan, is_rival, or_else, overlap, own_rule, with_line}
use Rattle.epoch_rules.proofs.LiveByKey.{live_again, live_lines_go_on, live_says, live_sorted}
use Rattle.epoch_rules.proofs.Lookups.{empty_sorted, is_equal}
use Rattle.epoch_rules.proofs.Orders.{lines_total, family_total}
use Rattle.epoch_rules.proofs.WithLine.{any_with_line}
use Rattle.epoch_rules.proofs.Members.{and_no}
use Rattle.std.proofs.lemmas.Bool.{false_from_ne_true, or_from, or_parts}

pub then_equal : (a b : Ordering) → ordering_then a b ≡ Equal → (a ≡ Equal) × (b ≡ Equal)
then_equal Less b h = (cc)
then_equal Equal b h = (refl, h)
then_equal Greater b h = (cc)

eq_reversed : (o : Ordering) → is_eq (ordering_reverse o) ≡ is_eq o
eq_reversed Less = refl
eq_reversed Equal = refl
eq_reversed Greater = refl

pub eq_turned : {K : Type 0} {R : K → K → Ordering} (o : IsTotalOrder R) (a b : K) → is_eq (R a b) ≡ is_eq (R b a)
eq_turned {K} {R} o a b = ap is_eq (o.antisymm a b) ∙ eq_reversed (R b a)

and_turned : (a b : Bool) → (a && b) ≡ (b && a)
and_turned true true = refl
and_turned true false = refl
and_turned false true = refl
and_turned false false = refl

-- two epochs are rivals of each other
pub rival_turned : (a b : LineValues) → is_rival a b ≡ is_rival b a
rival_turned a b =
    let family = eq_turned family_total (key_parts_of a) (key_parts_of b) in
    let key = eq_turned lines_total a b in
    let over : overlap a b ≡ overlap b a = and_turned (is_before_end (epoch_start a) (end_of b.values)) (is_before_end (epoch_start b) (end_of a.values)) in
    ap (λ f. (f && not (have_one_key a b)) && overlap a b) family ∙ ap (λ k. (have_one_family b a && not k) && overlap a b) key ∙ ap (λ v. (have_one_family b a && not (have_one_key b a)) && v) over

not_own_rival : (e : LineValues) → is_rival e e ≡ false
not_own_rival e =
    let same : have_one_key e e ≡ true = ap is_eq (tied_itself lines_total e) in
    let closed : (f v : Bool) → ((f && false) && v) ≡ false = λ f v. elim f as (λ f. ((f && false) && v) ≡ false) [ true ↦ refl | false ↦ refl ] in
    ap (λ k. (have_one_family e e && not k) && overlap e e) same ∙ closed (have_one_family e e) (overlap e e)

-- a line that states something is of the kind that its key has
pub kind_by_rank : (kind : LineKind) (head : Head) (values : List Value) → is_statement head ≡ true → is_of_kind kind head ≡ ((key_parts_of (line_values head values)).rank == rank_of kind)
kind_by_rank kind (Says k) values h = refl
kind_by_rank kind (Deletes k) values h = (cc)

pub epoch_by_rank : (e : LineValues) → is_said e ≡ true → is_epoch e ≡ (((key_parts_of e).rank == 0) || ((key_parts_of e).rank == 1) || ((key_parts_of e).rank == 2))
epoch_by_rank e h =
    let net = kind_by_rank Net e.head e.values h in
    let sta = kind_by_rank Sta e.head e.values h in
    let cha = kind_by_rank Cha e.head e.values h in
    ap (λ b. (b || is_of_kind Sta e.head) || is_of_kind Cha e.head) net
    ∙ ap (λ b. (((key_parts_of e).rank == 0) || b) || is_of_kind Cha e.head) sta
    ∙ ap (λ b. (((key_parts_of e).rank == 0) || ((key_parts_of e).rank == 1)) || b) cha

epoch_says_at : (head : Head) → is_statement head ≡ false → ((is_of_kind Net head || is_of_kind Sta head) || is_of_kind Cha head) ≡ false
epoch_says_at (Says k) h = (cc)
epoch_says_at (Deletes k) h = refl

pub same_rank : (a b : LineValues) → have_one_family a b ≡ true → (key_parts_of a).rank ≡ (key_parts_of b).rank
same_rank a b h =
    let all = is_equal (family_cmp (key_parts_of a) (key_parts_of b)) h in
    exact_unsigned (key_parts_of a).rank (key_parts_of b).rank (then_equal (nat_cmp (key_parts_of a).rank (key_parts_of b).rank) _ all).0

and_both : (a b : Bool) → (a && b) ≡ true → (a ≡ true) × (b ≡ true)
and_both true b h = (refl, h)
and_both false b h = (cc)

rival_is_epoch : (l e : LineValues) → is_said l ≡ true → is_said e ≡ true → is_rival l e ≡ true → is_epoch l ≡ is_epoch e
rival_is_epoch l e l_says e_says h =
    let family = (and_both (have_one_family l e) (not (have_one_key l e)) (and_both (have_one_family l e && not (have_one_key l e)) (overlap l e) h).0).0 in
    epoch_by_rank l l_says
    ∙ ap (λ (r : ℕ). (r == 0) || (r == 1) || (r == 2)) (same_rank l e family)
    ∙ sym (epoch_by_rank e e_says)

pub all_not : {X : Type 0} (p : X → Bool) (xs : List X) → list_any p xs ≡ false → AllByRecursion (λ x. p x ≡ false) xs
all_not p [] h = tt
all_not p (x ∷ xs) h = let parts = or_parts (p x) (list_any p xs) h in (parts.0, all_not p xs parts.1)

pub none_of : {X : Type 0} (p : X → Bool) (xs : List X) → AllByRecursion (λ x. p x ≡ false) xs → list_any p xs ≡ false
none_of p [] all = refl
none_of p (x ∷ xs) all = ap (λ b. b || list_any p xs) all.0 ∙ none_of p xs all.1

all_three : {X : Type 0} (P Q S T : X → Type 0) → ((x : X) → P x → Q x → S x → T x) → (xs : List X) → AllByRecursion P xs → AllByRecursion Q xs → AllByRecursion S xs → AllByRecursion T xs
all_three P Q S T f [] p q s = tt
all_three P Q S T f (x ∷ xs) p q s = (f x p.0 q.0 s.0, all_three P Q S T f xs p.1 q.1 s.1)

fewer : {X : Type 0} (n p : X → Bool) (xs : List X) → list_any p xs ≡ false → list_any (λ x. n x && p x) xs ≡ false
fewer n p [] h = refl
fewer n p (x ∷ xs) h =
    let parts = or_parts (p x) (list_any p xs) h in
    let here : (n x && p x) ≡ false = ap (λ b. n x && b) parts.0 ∙ and_turned (n x) false in
    ap (λ b. b || list_any (λ x. n x && p x) xs) here ∙ fewer n p xs parts.1

and_false : (a b : Bool) → (a ≡ true → b ≡ false) → (a && b) ≡ false
and_false true b f = f refl
and_false false b f = refl

module _ (live : List LineValues) (e : LineValues) (h : IsCatalog live) (clear : has_rival live e ≡ false) where
  after : List LineValues
  after = with_line live e

  others_clear : (l : LineValues) → is_epoch l ≡ true → list_any (is_rival l) live ≡ false → (is_said e && is_rival l e) ≡ false → list_any (is_rival l) after ≡ false
  unfolding after
  others_clear l epoch none here =
      any_with_line (is_rival l) live e h.rises h.states ∙ or_from _ _ here (fewer (λ m. not (have_one_key e m)) (is_rival l) live none)

  -- a line that was there has no rival
  old_clear : (l : LineValues) → is_said l ≡ true → has_rival live l ≡ false → (is_epoch e && is_rival e l) ≡ false → (not (have_one_key e l) && has_rival after l) ≡ false
  old_clear l stated none fresh =
      and_false (not (have_one_key e l)) (has_rival after l)
      (λ _.
      and_false (is_epoch l) (list_any (is_rival l) after)
      (λ epoch.
      others_clear l epoch (and_no (is_epoch l) (list_any (is_rival l) live) none epoch)
      (and_false (is_said e) (is_rival l e)
      (λ e_says.
      false_from_ne_true (is_rival l e)
      (λ rival.
      let turned : is_rival e l ≡ true = rival_turned e l ∙ rival in
      let e_epoch : is_epoch e ≡ true = sym (rival_is_epoch l e stated e_says rival) ∙ epoch in
      let no : is_rival e l ≡ false = and_no (is_epoch e) (is_rival e l) fresh e_epoch in
      let both : false ≡ true = sym no ∙ turned in
      (cc))))))

  new_clear : has_rival after e ≡ false
  new_clear =
      and_false (is_epoch e) (list_any (is_rival e) after)
      (λ epoch.
      others_clear e epoch (and_no (is_epoch e) (list_any (is_rival e) live) clear epoch)
      (and_false (is_said e) (is_rival e e) (λ _. not_own_rival e)))

  each_fresh : AllByRecursion (λ l. (is_epoch e && is_rival e l) ≡ false) live
  each_fresh =
      elim (is_epoch e) as (λ b. (b && list_any (is_rival e) live) ≡ false → AllByRecursion (λ l. (b && is_rival e l) ≡ false) live) [
        | true ↦ λ k. all_not (is_rival e) live k
        | false ↦ λ _. all_not (λ (l : LineValues). false) live (never live)
      ] clear
    where
      never : (xs : List LineValues) → list_any (λ l. false) xs ≡ false
      never [] = refl
      never (x ∷ xs) = never xs

  pub still_apart : list_any (has_rival (with_line live e)) (with_line live e) ≡ false
  unfolding after
  still_apart =
      any_with_line (has_rival after) live e h.rises h.states
      ∙ or_from _ _ (and_false (is_said e) (has_rival after e) (λ _. new_clear))
      (none_of (λ l. not (have_one_key e l) && has_rival after l) live
      (all_three (λ l. is_said l ≡ true) (λ l. has_rival live l ≡ false) (λ l. (is_epoch e && is_rival e l) ≡ false) (λ l. (not (have_one_key e l) && has_rival after l) ≡ false)
      old_clear live h.states (all_not (has_rival live) live h.apart) each_fresh))

or_else_none : (a b : Option Rule) → or_else a b ≡ None → (a ≡ None) × (b ≡ None)
or_else_none None b h = (refl, h)
or_else_none (Some r) b h = (cc)

first_none : (b : Bool) (r : Rule) (rest : Option Rule) → (if b then Some r else rest) ≡ None → b ≡ false
first_none true r rest h = (cc)
first_none false r rest h = refl

-- a line that breaks no rule
pub kept_line : (live : List LineValues) (e : LineValues) → IsCatalog live → broken_rule live e ≡ None → IsCatalog (with_line live e)
kept_line live e h kept =
    let none = or_else_none (own_rule live e) (common_rule (with_line live e)) kept in
    record {
      rises = live_sorted (live ++ e ∷ []);
      states = live_says (live ++ e ∷ []);
      apart = still_apart live e h (first_none (has_rival live e) _ _ none.0);
      rests = first_none (list_any (is_orphan (with_line live e)) (with_line live e)) _ _ none.1;
    }

pub kept_lines : (live lines : List LineValues) → IsCatalog live → AreKept live lines → IsCatalog (live_lines (live ++ lines))
kept_lines live [] h kept = subst IsCatalog (sym (ap live_lines (append-nil live) ∙ live_again live h.rises h.states)) h
kept_lines live (e ∷ lines) h kept =
    let over = live_lines_go_on (live ++ e ∷ []) lines ∙ ap live_lines (append_assoc live (e ∷ []) lines) in
    subst IsCatalog over (kept_lines (with_line live e) lines (kept_line live e h kept.0) kept.1)

-- no lines are a catalog
pub no_lines : IsCatalog []
no_lines = record { rises = empty_sorted lines_total; states = tt; apart = refl; rests = refl }
