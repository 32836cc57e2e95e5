-- Lines in order, put into a map by their keys.
use Rattle.std.proofs.Common.{◌≡◌, ◌∙◌, cond, List, [], ◌∷◌, map, Option, Some, None, refl, sym, ap, subst, Ordering}
use Rattle.std.specs.Borrow.{Bor}
use Rattle.std.specs.BTreeMap.{BTreeMap, IsFromIterResult}
use Rattle.std.specs.Cmp.{IsTotalOrder}
use Rattle.std.specs.List.{AllByRecursion}
use Rattle.std.specs.List.Sorted.{IsStrictlySortedBy}
use Rattle.std.specs.Map.{keys_of, lookup}
use Rattle.std.specs.Ordering.{is_eq, ordering_reverse, eq_by_cmp}
use Rattle.std.specs.declared.cmp.Ordering.TheVariants.{Less, Equal, Greater}
use Rattle.std.proofs.lemmas.Cmp.{tied_itself, eq_by_cmp_equiv}
use Rattle.std.proofs.lemmas.Map.Keys.{IsDistinct-from_sorted}
use Rattle.std.proofs.lemmas.Map.Made.{update_all_none}
use Rattle.epochs.specs.Lines.{LineValues}
use Rattle.epochs.specs.Views.{values_of_line}
use Rattle.epochs.specs.declared.line.Line.{Line}
use Rattle.epoch_rules.specs.declared.key_order.KeyView.{KeyView}
use Rattle.epoch_rules.specs.KeyOrder.{KeyParts, key_parts_of, parts_cmp, line_cmp}
use Rattle.epoch_rules.specs.KeyViews.{parts_of_view}
use Rattle.epoch_rules.specs.MapLines.{lines_in, AreKeyed}
use Rattle.epoch_rules.proofs.Exact.{exact_parts}
use Rattle.epoch_rules.proofs.LinesOfMap.{Pair, line_at, IsKeyed}
use Rattle.epoch_rules.proofs.Orders.{total_on, parts_total}
use Rattle.epoch_rules.proofs.Replaced.{all_above, all_level, sorted_head, sorted_tail}

abbrev pub view_cmp : KeyView → KeyView → Ordering
view_cmp a b = parts_cmp (parts_of_view a) (parts_of_view b)

views_total : IsTotalOrder view_cmp
views_total = total_on parts_of_view parts_total

-- a pair without memory, and that of a line
abbrev pub shown : Pair → KeyParts × LineValues
shown e = (parts_of_view e.0, line_at e)

abbrev pub own : Line → KeyParts × LineValues
own l = (key_parts_of (values_of_line l), values_of_line l)

abbrev found : KeyView → List Pair → Option (Bor Line)
found q es = lookup (λ k. is_eq (view_cmp q k)) es

none_before : (q : KeyView) (es : List Pair) → AllByRecursion (λ k. view_cmp q k ≡ Less) (keys_of es) → found q es ≡ None
none_before q [] all = refl
none_before q (e ∷ es) all = ap (λ o. cond (is_eq o) (Some e.1) (found q es)) all.0 ∙ none_before q es all.1

here : (e : Pair) (es : List Pair) → found e.0 (e ∷ es) ≡ Some e.1
here e es = ap (λ o. cond (is_eq o) (Some e.1) (found e.0 es)) (tied_itself views_total e.0)

nothing_before : (e x : Pair) (xs : List Pair) → IsStrictlySortedBy view_cmp (keys_of (x ∷ xs)) → view_cmp e.0 x.0 ≡ Less → found e.0 (x ∷ xs) ≡ None
nothing_before e x xs up less = none_before e.0 (x ∷ xs) (less, all_above views_total e.0 x.0 (keys_of xs) less (sorted_head view_cmp x.0 (keys_of xs) up))

tails : (e x : Pair) (es xs : List Pair) → IsStrictlySortedBy view_cmp (keys_of (e ∷ es)) → IsStrictlySortedBy view_cmp (keys_of (x ∷ xs)) → parts_of_view e.0 ≡ parts_of_view x.0
    → ((q : KeyView) → found q (e ∷ es) ≡ found q (x ∷ xs)) → (q : KeyView) → found q es ≡ found q xs
tails e x es xs up vp keys same q =
    let turn : view_cmp q x.0 ≡ view_cmp q e.0 = ap (parts_cmp (parts_of_view q)) (sym keys) in
    let left = λ (o : Ordering). cond (is_eq o) (Some e.1) (found q es) in
    let right = λ (o : Ordering). cond (is_eq o) (Some x.1) (found q xs) in
    elim (view_cmp q e.0) as (λ o. view_cmp q e.0 ≡ o → found q es ≡ found q xs) [
      | Less ↦ λ h. sym (ap left h) ∙ same q ∙ ap right (turn ∙ h)
      | Equal ↦ λ h.
          none_before q es (all_level views_total q e.0 (keys_of es) h (sorted_head view_cmp e.0 (keys_of es) up))
          ∙ sym (none_before q xs (all_level views_total q x.0 (keys_of xs) (turn ∙ h) (sorted_head view_cmp x.0 (keys_of xs) vp)))
      | Greater ↦ λ h. sym (ap left h) ∙ same q ∙ ap right (turn ∙ h)
    ] refl

-- pairs in order of which each key finds the same are the same
pub same_pairs : (es xs : List Pair) → IsStrictlySortedBy view_cmp (keys_of es) → IsStrictlySortedBy view_cmp (keys_of xs) → ((q : KeyView) → found q es ≡ found q xs) → map shown es ≡ map shown xs
same_pairs [] [] up vp same = refl
same_pairs [] (x ∷ xs) up vp same = let both = same x.0 ∙ here x xs in cc
same_pairs (e ∷ es) [] up vp same = let both = sym (here e es) ∙ same e.0 in cc
same_pairs (e ∷ es) (x ∷ xs) up vp same =
    elim (view_cmp e.0 x.0) as (λ o. view_cmp e.0 x.0 ≡ o → map shown (e ∷ es) ≡ map shown (x ∷ xs)) [
      | Less ↦ λ h. (let both = sym (here e es) ∙ same e.0 ∙ nothing_before e x xs vp h in cc)
      | Equal ↦ λ h.
          (let keys : parts_of_view e.0 ≡ parts_of_view x.0 = exact_parts (parts_of_view e.0) (parts_of_view x.0) h in
          let both = sym (here e es) ∙ same e.0 ∙ ap (λ o. cond (is_eq o) (Some x.1) (found e.0 xs)) h in
          let one : e.1 ≡ x.1 = cc in
          let rest = same_pairs es xs (sorted_tail view_cmp e.0 (keys_of es) up) (sorted_tail view_cmp x.0 (keys_of xs) vp) (tails e x es xs up vp keys same) in
          (λ i. (keys i, values_of_line (one i).now) ∷ rest i))
      | Greater ↦ λ h.
          (let less : view_cmp x.0 e.0 ≡ Less = views_total.antisymm x.0 e.0 ∙ ap ordering_reverse h in
          let both = sym (here x xs) ∙ sym (same x.0) ∙ nothing_before x e es up less in
          cc)
    ] refl

-- what is known of the pairs without memory
lines_shown : (es : List Pair) → map line_at es ≡ map (λ (p : KeyParts × LineValues). p.1) (map shown es)
lines_shown [] = refl
lines_shown (e ∷ es) = ap (λ l. line_at e ∷ l) (lines_shown es)

lines_own : (ls : List Line) → map (λ (p : KeyParts × LineValues). p.1) (map own ls) ≡ map values_of_line ls
lines_own [] = refl
lines_own (l ∷ ls) = ap (λ r. values_of_line l ∷ r) (lines_own ls)

own_keyed : (ls : List Line) → AllByRecursion (λ (p : KeyParts × LineValues). p.0 ≡ key_parts_of p.1) (map own ls)
own_keyed [] = tt
own_keyed (l ∷ ls) = (refl, own_keyed ls)

shown_keyed : (es : List Pair) → AllByRecursion (λ (p : KeyParts × LineValues). p.0 ≡ key_parts_of p.1) (map shown es) → AllByRecursion IsKeyed es
shown_keyed [] all = tt
shown_keyed (e ∷ es) all = (all.0, shown_keyed es all.1)

all_below : (k : KeyView) (l : LineValues) (es : List Pair) → parts_of_view k ≡ key_parts_of l → AllByRecursion IsKeyed es → AllByRecursion (λ y. line_cmp l y ≡ Less) (map line_at es)
    → AllByRecursion (λ z. view_cmp k z ≡ Less) (keys_of es)
all_below k l [] at keyed all = tt
all_below k l (e ∷ es) at keyed all = ((λ i. parts_cmp (at i) (keyed.0 i)) ∙ all.0, all_below k l es at keyed.1 all.1)

keys_sorted : (es : List Pair) → AllByRecursion IsKeyed es → IsStrictlySortedBy line_cmp (map line_at es) → IsStrictlySortedBy view_cmp (keys_of es)
unfolding IsStrictlySortedBy
keys_sorted [] keyed up = tt
keys_sorted (e ∷ es) keyed up = (all_below e.0 (line_at e) es keyed.0 keyed.1 up.0, keys_sorted es keyed.1 up.1)

-- the pairs of lines in order, in a map
pub mapped : (xs : List Pair) (m : BTreeMap KeyView (Bor Line)) (ls : List Line) → IsFromIterResult view_cmp xs m → map shown xs ≡ map own ls → IsStrictlySortedBy line_cmp (map values_of_line ls) → map shown m.entries ≡ map own ls
mapped xs m ls made are up =
    let keyed : AllByRecursion IsKeyed xs = shown_keyed xs (subst (AllByRecursion (λ p. p.0 ≡ key_parts_of p.1)) (sym are) (own_keyed ls)) in
    let lines : map line_at xs ≡ map values_of_line ls = lines_shown xs ∙ ap (map (λ p. p.1)) are ∙ lines_own ls in
    let keys = keys_sorted xs keyed (subst (IsStrictlySortedBy line_cmp) (sym lines) up) in
    same_pairs m.entries xs made.1 keys (λ q. made.0 q ∙ update_all_none (eq_by_cmp_equiv views_total) (eq_by_cmp view_cmp) (λ x y. refl) xs q (IsDistinct-from_sorted view_cmp (keys_of xs) keys)) ∙ are

pub mapped_lines : (m : BTreeMap KeyView (Bor Line)) (ls : List Line) → map shown m.entries ≡ map own ls → lines_in m ≡ map values_of_line ls
mapped_lines m ls are = lines_shown m.entries ∙ ap (map (λ p. p.1)) are ∙ lines_own ls

pub mapped_keyed : (m : BTreeMap KeyView (Bor Line)) (ls : List Line) → map shown m.entries ≡ map own ls → AreKeyed m
mapped_keyed m ls are = shown_keyed m.entries (subst (AllByRecursion (λ p. p.0 ≡ key_parts_of p.1)) (sym are) (own_keyed ls))
