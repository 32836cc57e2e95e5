-- The steps of an outline, over the lists that it stands for.
use Rattle.std.proofs.Common.{◌≡◌, ◌∙◌, ◌+◌, ◌≤◌, Bool, true, false, cond, List, [], ◌∷◌, filter, map, length, drop, get_or, ℕ, ◌<◌, Result, Ok, Err, OnOk, refl, sym, ap, arith, add-one, drop-cons, Ordering}
use Rattle.std.specs.Borrow.{Bor}
use Rattle.std.specs.List.{list_any, AllByRecursion}
use Rattle.std.specs.List.Sorted.{IsStrictlySortedBy}
use Rattle.std.specs.Ordering.{is_eq}
use Rattle.std.specs.BTreeMap.{insert_entry}
use Rattle.std.specs.BTreeSet.{insert_key}
use Rattle.std.specs.Map.{remove_entry}
use Rattle.epochs.specs.Lines.{LineValues}
use Rattle.epochs.specs.Views.{values_of_line}
use Rattle.epochs.specs.declared.line.Line.{Line}
use Rattle.epoch_rules.specs.declared.key_order.KeyView.{KeyView}
use Rattle.epoch_rules.specs.KeyOrder.{key_parts_of, parts_cmp, line_cmp, have_one_key}
use Rattle.epoch_rules.specs.KeyViews.{parts_of_view}
use Rattle.epoch_rules.specs.LiveLines.{is_said}
use Rattle.epoch_rules.specs.Rules.{with_line}
use Rattle.epoch_rules.proofs.LinesOfMap.{Pair, line_at, IsKeyed, put_line, cut_line}
use Rattle.epoch_rules.proofs.Orders.{lines_total}
use Rattle.epoch_rules.proofs.Replaced.{replace_absent, taken_out}
use Rattle.epoch_rules.proofs.WithLine.{others, with_line_is}

pub on_ok : {X E : Type 0} {P : Type 0} (r : Result X E) → P → OnOk r P
on_ok (Ok x) p = p
on_ok (Err e) p = tt

pub on_ok_both : {X E : Type 0} {P Q S : Type 0} (r : Result X E) → OnOk r P → OnOk r Q → (P → Q → S) → OnOk r S
on_ok_both (Ok x) p q f = f p q
on_ok_both (Err e) p q f = tt

pub few_pass : (p : LineValues → Bool) (xs : List LineValues) → length (filter p xs) ≤ length xs
few_pass p [] = omega arith
few_pass p (x ∷ xs) =
    let more = few_pass p xs in
    elim (p x) as (λ b. length (cond b (x ∷ filter p xs) (filter p xs)) ≤ length (x ∷ xs)) [
      | true ↦ omega (arith, more)
      | false ↦ omega (arith, more)
    ]

pub as_long : (es : List Pair) → length (map line_at es) ≡ length es
as_long [] = refl
as_long (e ∷ es) = let more = as_long es in omega (arith, more)

module _ (cmp : KeyView → KeyView → Ordering) (is : (a b : KeyView) → cmp a b ≡ parts_cmp (parts_of_view a) (parts_of_view b)) (es : List Pair) (all : AllByRecursion IsKeyed es) (k : KeyView) where
  pub put_lines : (v : Bor Line) → parts_of_view k ≡ key_parts_of (values_of_line v.now) → list_any (have_one_key (values_of_line v.now)) (map line_at es) ≡ false
      → map line_at (insert_entry cmp es k v) ≡ insert_key line_cmp (map line_at es) (values_of_line v.now)
  put_lines v here absent = put_line cmp is es k v all here ∙ replace_absent line_cmp (values_of_line v.now) (map line_at es) absent

  pub cut_lines : (e : LineValues) → parts_of_view k ≡ key_parts_of e → IsStrictlySortedBy line_cmp (map line_at es) → map line_at (remove_entry (λ q. is_eq (cmp k q)) es) ≡ others e (map line_at es)
  cut_lines e here up = cut_line cmp is es k e all here ∙ sym (taken_out lines_total e (map line_at es) up)

-- a line at its place in a list
pub line_here : (lines : List Line) (i : ℕ) (line : Line) → i < length lines → line ≡ get_or lines i line → map values_of_line (drop i lines) ≡ values_of_line line ∷ map values_of_line (drop (i + 1) lines)
line_here lines i line within at = rw (drop-cons lines i line within, ← at, add-one i) refl

-- with a line, by whether it is a deletion
pub taken : (live : List LineValues) (e : LineValues) (b : Bool) → IsStrictlySortedBy line_cmp live → AllByRecursion (λ l. is_said l ≡ true) live → is_said e ≡ b
    → with_line live e ≡ cond b (insert_key line_cmp (others e live) e) (others e live)
taken live e b up all h = with_line_is live e up all ∙ ap (λ c. cond c (insert_key line_cmp (others e live) e) (others e live)) h
