-- Steps of lines laid over others.
use Rattle.std.proofs.Common.{◌≡◌, ◌∙◌, ◌+◌, ◌≤◌, Bool, true, false, not, cond, ◌||◌, ◌&&◌, List, [], ◌∷◌, ◌++◌, filter, map, length, Option, refl, sym, ap, subst, arith, Ordering}
use Rattle.std.specs.Borrow.{Bor}
use Rattle.std.specs.BTreeSet.{BTreeSet, insert_key}
use Rattle.std.specs.List.{list_any, AllByRecursion}
use Rattle.std.specs.List.Sorted.{IsStrictlySortedBy}
use Rattle.std.specs.Ordering.{is_eq, match_ordering}
use Rattle.std.specs.declared.cmp.Ordering.TheVariants.{Less, Equal, Greater}
use Rattle.std.proofs.lemmas.Bool.{or_parts}
use Rattle.std.proofs.lemmas.Cmp.{alike_right}
use Rattle.std.proofs.lemmas.List.{map-append}
use Rattle.std.proofs.lemmas.List.Kept.{IsStrictlySortedBy-filter}
use Rattle.list_laws.specs.InOrder.{in_order}
use Rattle.list_laws.proofs.Keys.{all_in_order, length_in_order}
use Rattle.epochs.specs.Lines.{LineValues}
use Rattle.epochs.specs.Views.{values_of_line}
use Rattle.epochs.specs.declared.line.Line.{Line}
use Rattle.epoch_rules.specs.declared.key_order.KeyView.{KeyView}
use Rattle.epoch_rules.specs.declared.overlay.Overlay.{Overlay}
use Rattle.epoch_rules.specs.KeyOrder.{KeyParts, key_parts_of, parts_cmp, line_cmp, have_one_key}
use Rattle.epoch_rules.specs.KeyViews.{parts_of_view}
use Rattle.epoch_rules.specs.MapLines.{AreKeyed, lines_in}
use Rattle.epoch_rules.specs.Neighbours.{IsFirstOf, IsLastOf, earlier_of, later_of}
use Rattle.epoch_rules.specs.Overlays.{IsOverlay, has_key, left_below, left_of, overlaid}
use Rattle.epoch_rules.proofs.Cuts.{filter_joined, filter_whole}
use Rattle.epoch_rules.proofs.KeptCatalog.{eq_turned}
use Rattle.epoch_rules.proofs.Members.{or_same, or_swap}
use Rattle.epoch_rules.proofs.NextTo.{first_of_both, last_of_both}
use Rattle.epoch_rules.proofs.Orders.{lines_total, parts_total}
use Rattle.epoch_rules.proofs.OutlineSteps.{as_long, few_pass}
use Rattle.epoch_rules.proofs.Overlaid.{Apart, all_filter, any_order, apart_cut, cut_order, filter_both, filter_swap, has_done, has_keys, order_has, sorted_order}
use Rattle.epoch_rules.proofs.Tidy.{Tidy, all_tidy, all_tidy_lines}
use Rattle.epoch_rules.proofs.WithLine.{others, others_sorted}

-- the keys hold that of a line
pub contained : (keys : BTreeSet KeyView) (r : Bool) (k : KeyView) (e : LineValues) → r ≡ list_any (λ v. is_eq (parts_cmp (parts_of_view k) (parts_of_view v))) keys.keys → parts_of_view k ≡ key_parts_of e → r ≡ has_key keys e
contained keys r k e is here = is ∙ ap (λ p. list_any (λ v. is_eq (parts_cmp p (parts_of_view v))) keys.keys) here

-- of lines one after another, those that are left
pub left_last : (gone : BTreeSet KeyView) (rest before : List Line) (line : Line) → rest ≡ before ++ line ∷ []
    → left_of gone (map values_of_line rest) ≡ left_of gone (map values_of_line before) ++ cond (not (has_key gone (values_of_line line))) (values_of_line line ∷ []) []
left_last gone rest before line is =
    ap (λ l. left_of gone (map values_of_line l)) is
    ∙ ap (left_of gone) (map-append values_of_line before (line ∷ []))
    ∙ filter_joined (λ e. not (has_key gone e)) (map values_of_line before) (values_of_line line ∷ [])

pub left_first : (gone : BTreeSet KeyView) (rest behind : List Line) (line : Line) → rest ≡ line ∷ behind
    → left_of gone (map values_of_line rest) ≡ cond (not (has_key gone (values_of_line line))) (values_of_line line ∷ left_of gone (map values_of_line behind)) (left_of gone (map values_of_line behind))
left_first gone rest behind line is = ap (λ l. left_of gone (map values_of_line l)) is

abbrev pub is_view_of : KeyParts → KeyView → Bool
is_view_of p v = is_eq (parts_cmp p (parts_of_view v))

-- a key put into a set is found besides
pub key_inserted : (cmp : KeyView → KeyView → Ordering) → ((a b : KeyView) → cmp a b ≡ parts_cmp (parts_of_view a) (parts_of_view b)) → (p : KeyParts) (keys : List KeyView) (k : KeyView)
    → list_any (is_view_of p) (insert_key cmp keys k) ≡ (is_view_of p k || list_any (is_view_of p) keys)
key_inserted cmp is p [] k = refl
key_inserted cmp is p (x ∷ keys) k =
    let test = is_view_of p in
    elim (cmp k x) as (λ o. cmp k x ≡ o → list_any test (match_ordering o (k ∷ x ∷ keys) (x ∷ keys) (x ∷ insert_key cmp keys k)) ≡ (test k || (test x || list_any test keys))) [
      | Less ↦ λ _. refl
      | Equal ↦ λ e.
          (let same : test x ≡ test k = ap is_eq (sym (alike_right parts_total (parts_of_view k) (parts_of_view x) p (sym (is k x) ∙ e))) in
          ap (λ b. b || list_any test keys) same ∙ or_same (test k) (list_any test keys) ∙ ap (λ b. test k || (b || list_any test keys)) (sym same))
      | Greater ↦ λ _. ap (λ b. test x || b) (key_inserted cmp is p keys k) ∙ or_swap (test x) (test k) (list_any test keys)
    ] refl

all_of : {X : Type 0} (P : X → Type 0) → ((x : X) → P x) → (xs : List X) → AllByRecursion P xs
all_of P h [] = tt
all_of P h (x ∷ xs) = (h x, all_of P h xs)

-- where no key was taken out, all lines are left
pub all_left : (gone : BTreeSet KeyView) → gone.keys ≡ [] → (lines : List LineValues) → left_of gone lines ≡ lines
all_left gone none lines =
    filter_whole (λ e. not (has_key gone e)) lines (all_of (λ e. not (has_key gone e) ≡ true) (λ e. ap (λ ks. not (list_any (is_view_of (key_parts_of e)) ks)) none) lines)

-- with a key more that was taken out
pub left_more : (gone more : BTreeSet KeyView) (e : LineValues) → ((x : LineValues) → has_key more x ≡ (have_one_key x e || has_key gone x)) → (lines : List LineValues) → left_of more lines ≡ others e (left_of gone lines)
left_more gone more e is lines =
    filter_both (λ l. not (have_one_key e l)) (λ l. not (has_key gone l)) (λ l. not (has_key more l)) (λ x. ap not (is x) ∙ not_both (have_one_key x e) (has_key gone x) ∙ ap (λ b. not (has_key gone x) && not b) (eq_turned lines_total x e)) lines
  where
    not_both : (a b : Bool) → not (a || b) ≡ (not b && not a)
    not_both true true = refl
    not_both true false = refl
    not_both false true = refl
    not_both false false = refl

pub mapped_long : (lines : List Line) → length (map values_of_line lines) ≡ length lines
mapped_long [] = refl
mapped_long (l ∷ lines) = let more = mapped_long lines in omega (arith, more)

module _ (o : Overlay) (is : IsOverlay o) where
  pub below_up : IsStrictlySortedBy line_cmp (left_below o)
  below_up = IsStrictlySortedBy-filter line_cmp (λ e. not (has_key o.gone e)) (map values_of_line o.base.now) is.based

  pub laid_up : IsStrictlySortedBy line_cmp (overlaid o)
  laid_up = sorted_order (left_below o) (lines_in o.put) below_up

  -- a key that isn't there is in neither part
  pub absent_parts : (e : LineValues) → list_any (have_one_key e) (overlaid o) ≡ false → (list_any (have_one_key e) (left_below o) ≡ false) × (list_any (have_one_key e) (lines_in o.put) ≡ false)
  absent_parts e absent =
      let parts = or_parts (list_any (have_one_key e) (left_below o)) (list_any (have_one_key e) (lines_in o.put)) (sym (any_order (have_one_key e) (left_below o) (lines_in o.put) is.listed is.apart) ∙ absent) in
      (parts.0, parts.1)

  -- next to a key
  pub last_laid : (test : LineValues → Bool) (a b : Option (Bor Line)) → IsLastOf (filter test (left_below o)) a → IsLastOf (filter test (lines_in o.put)) b → IsLastOf (filter test (overlaid o)) (later_of a b)
  last_laid test = last_of_both (overlaid o) (left_below o) (lines_in o.put) laid_up below_up is.listed (order_has (left_below o) (lines_in o.put)) (has_done (left_below o) (lines_in o.put)) (has_keys (left_below o) (lines_in o.put) is.listed is.apart) test

  pub first_laid : (test : LineValues → Bool) (a b : Option (Bor Line)) → IsFirstOf (filter test (left_below o)) a → IsFirstOf (filter test (lines_in o.put)) b → IsFirstOf (filter test (overlaid o)) (earlier_of a b)
  first_laid test = first_of_both (overlaid o) (left_below o) (lines_in o.put) laid_up below_up is.listed (order_has (left_below o) (lines_in o.put)) (has_done (left_below o) (lines_in o.put)) (has_keys (left_below o) (lines_in o.put) is.listed is.apart) test

  -- no more than both parts have
  pub few_laid : length (overlaid o) ≤ length o.base.now + length o.put.entries
  few_laid =
      let most = length_in_order line_cmp (left_below o) (lines_in o.put) in
      let left = few_pass (λ e. not (has_key o.gone e)) (map values_of_line o.base.now) in
      let base = mapped_long o.base.now in
      let put = as_long o.put.entries in
      omega (arith, most, left, base, put)

-- no lines are left of none
pub none_left : (gone : BTreeSet KeyView) (lines : List Line) (e : LineValues) → length lines ≡ 0 → left_of gone (map values_of_line lines) ≡ others e (left_of gone (map values_of_line lines))
none_left gone [] e none = refl
none_left gone (l ∷ lines) e none = absurd (omega (arith, none))

-- of lines that are left, those that pass a test
pub left_swapped : (gone : BTreeSet KeyView) (test : LineValues → Bool) (part base : List LineValues) → part ≡ filter test base → left_of gone part ≡ filter test (left_of gone base)
left_swapped gone test part base is = ap (left_of gone) is ∙ filter_swap (λ e. not (has_key gone e)) test base

pub apart_none : (lines : List LineValues) → Apart [] lines
apart_none lines = all_of (λ k. list_any (have_one_key k) [] ≡ false) (λ k. refl) lines

-- with a key less in both parts
module _ (o n : Overlay) (is : IsOverlay o) (e : LineValues) (left : left_below n ≡ others e (left_below o)) (put : lines_in n.put ≡ others e (lines_in o.put)) where
  pub cut_laid : overlaid n ≡ others e (overlaid o)
  cut_laid = (λ i. in_order line_cmp (left i) (put i)) ∙ cut_order (left_below o) (lines_in o.put) (below_up o is) is.listed e

  pub cut_is : AreKeyed n.put → n.base ≡ o.base → n.count ≡ length (overlaid n) → IsOverlay n
  cut_is keyed base counted = record {
    keyed = keyed;
    listed = subst (IsStrictlySortedBy line_cmp) (sym put) (others_sorted e (lines_in o.put) is.listed);
    based = subst (λ (b : Bor (List Line)). IsStrictlySortedBy line_cmp (map values_of_line b.now)) (sym base) is.based;
    apart = subst (λ l. Apart l (lines_in n.put)) (sym left) (subst (Apart (others e (left_below o))) (sym put) (apart_cut (left_below o) (lines_in o.put) e is.apart));
    counted = counted;
  }

-- all lines are tidy
pub laid_tidy : (o : Overlay) → AllByRecursion Tidy (overlaid o)
laid_tidy o = all_in_order line_cmp Tidy (left_below o) (lines_in o.put) (all_filter Tidy (λ e. not (has_key o.gone e)) (map values_of_line o.base.now) (all_tidy_lines o.base.now)) (all_tidy o.put.entries)
