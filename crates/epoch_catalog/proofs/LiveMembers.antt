-- Which lines are among the live ones.
use Rattle.std.proofs.Common.{◌≡◌, ◌↔◌, ℕ, zero, suc, ◌<◌, Bool, true, false, cond, List, [], ◌∷◌, ◌++◌, length, get_or, Option, Some, None, refl, sym, ap, ◌∙◌, arith}
use Rattle.std.specs.Prelude.{Contains}
use Rattle.std.specs.Option.{option_or, is_some}
use Rattle.std.specs.List.Sorted.{IsStrictlySortedBy}
use Rattle.std.specs.Ordering.{is_eq}
use Rattle.std.proofs.lemmas.Cmp.{tied_itself}
use Rattle.std.proofs.lemmas.Map.Entries.{option_filter}
use Rattle.epochs.specs.Lines.{LineValues}
use Rattle.epoch_rules.specs.KeyOrder.{line_cmp}
use Rattle.epoch_catalog.specs.LiveLaw.{IsLive}
use Rattle.epoch_rules.specs.LiveLines.{is_said, is_replaced, live_lines}
use Rattle.epoch_rules.proofs.Lookups.{any_last, first_hit, first_of, is_equal, last_append, last_of, none_behind, sorted_rest}
use Rattle.epoch_rules.proofs.LiveByKey.{live_first, live_sorted, none_there}
use Rattle.epoch_rules.proofs.Orders.{lines_total}

behind_first : {X : Type 0} (y x : X) (ys : List X) → Contains ys x → Contains (y ∷ ys) x
behind_first y x ys h = (suc h.0, (let lt = h.1 in omega arith), h.2)

pub contains_found : (q x : LineValues) (xs : List LineValues) → first_of line_cmp q xs ≡ Some x → Contains xs x
contains_found q x [] h = (cc)
contains_found q x (y ∷ ys) h =
    elim (is_eq (line_cmp q y)) as (λ b. cond b (Some y) (first_of line_cmp q ys) ≡ Some x → Contains (y ∷ ys) x) [
      | true ↦ λ e. (zero, omega arith, (cc))
      | false ↦ λ e. behind_first y x ys (contains_found q x ys e)
    ] h

found_at : (e : LineValues) (xs : List LineValues) (k : ℕ) → IsStrictlySortedBy line_cmp xs → k < length xs → get_or xs k e ≡ e → first_of line_cmp e xs ≡ Some e
found_at e [] k up lt is = absurd (omega arith)
found_at e (y ∷ ys) zero up lt is =
    let here : y ≡ e = is in
    first_hit line_cmp e y ys (ap (line_cmp e) here ∙ tied_itself lines_total e) ∙ ap (λ (x : LineValues). Some x) here
found_at e (y ∷ ys) (suc k) up lt is =
    let rest = found_at e ys k (sorted_rest lines_total y ys up) (omega arith) is in
    elim (is_eq (line_cmp e y)) as (λ b. is_eq (line_cmp e y) ≡ b → cond b (Some y) (first_of line_cmp e ys) ≡ Some e) [
      | true ↦ λ t.
          (let none = none_behind lines_total e y ys up (is_equal (line_cmp e y) t) in
          let both = sym none ∙ rest in
          (cc))
      | false ↦ λ _. rest
    ] refl

pub found_contained : (e : LineValues) (xs : List LineValues) → IsStrictlySortedBy line_cmp xs → Contains xs e → first_of line_cmp e xs ≡ Some e
found_contained e xs up h = found_at e xs h.0 up h.1 h.2

filtered_some : (p : LineValues → Bool) (a : Option LineValues) (e : LineValues) → option_filter p a ≡ Some e → (a ≡ Some e) × (p e ≡ true)
filtered_some p None e h = (cc)
filtered_some p (Some x) e h =
    elim (p x) as (λ b. p x ≡ b → cond b (Some x) None ≡ Some e → (Some x ≡ Some e) × (p e ≡ true)) [
      | true ↦ λ t k. (k, (let one : x ≡ e = cc in ap p (sym one) ∙ t))
      | false ↦ λ _ k. (cc)
    ] refl h

-- a line that is the last of its key
pub record IsLast (lines : List LineValues) (e : LineValues) : Type 0 where
  pub before : List LineValues
  pub after : List LineValues
  pub split : lines ≡ before ++ e ∷ after
  pub last : is_replaced after e ≡ false

later_last : (x e : LineValues) (xs : List LineValues) → IsLast xs e → IsLast (x ∷ xs) e
later_last x e xs h = record { before = x ∷ h.before; after = h.after; split = ap (λ ys. x ∷ ys) h.split; last = h.last }

last_at : (e x : LineValues) (xs : List LineValues) (a : Option LineValues) → last_of line_cmp e xs ≡ a → (a ≡ Some e → IsLast xs e) → option_or a (cond (is_eq (line_cmp e x)) (Some x) None) ≡ Some e → IsLast (x ∷ xs) e
last_at e x xs (Some y) is rest h = later_last x e xs (rest h)
last_at e x xs None is rest h =
    elim (is_eq (line_cmp e x)) as (λ b. cond b (Some x) None ≡ Some e → IsLast (x ∷ xs) e) [
      | true ↦ λ k. record { before = []; after = xs; split = (let one : x ≡ e = cc in ap (λ y. y ∷ xs) one); last = any_last line_cmp e xs ∙ ap is_some is }
      | false ↦ λ k. (cc)
    ] h

split_last : (e : LineValues) (xs : List LineValues) → last_of line_cmp e xs ≡ Some e → IsLast xs e
split_last e [] h = (cc)
split_last e (x ∷ xs) h = last_at e x xs (last_of line_cmp e xs) refl (λ k. split_last e xs k) h

last_split : (e : LineValues) (xs : List LineValues) → IsLast xs e → last_of line_cmp e xs ≡ Some e
last_split e xs h =
    let none = none_there (last_of line_cmp e h.after) (sym (any_last line_cmp e h.after) ∙ h.last) in
    let here = ap (λ a. option_or a (cond (is_eq (line_cmp e e)) (Some e) None)) none ∙ ap (λ r. cond (is_eq r) (Some e) None) (tied_itself lines_total e) in
    ap (last_of line_cmp e) h.split ∙ last_append line_cmp e h.before (e ∷ h.after) ∙ ap (λ a. option_or a (last_of line_cmp e h.before)) here

pub live_members : (lines : List LineValues) (e : LineValues) → Contains (live_lines lines) e ↔ IsLive lines e
live_members lines e = (
  λ h.
      (let found = sym (live_first e lines) ∙ found_contained e (live_lines lines) (live_sorted lines) h in
      let parts = filtered_some is_said (last_of line_cmp e lines) e found in
      let l = split_last e lines parts.0 in
      record { before = l.before; after = l.after; split = l.split; stated = parts.1; last = l.last }),
  λ h.
      (let last = last_split e lines (record { before = h.before; after = h.after; split = h.split; last = h.last }) in
      contains_found e e (live_lines lines) (live_first e lines ∙ ap (option_filter is_said) last ∙ ap (λ b. cond b (Some e) None) h.stated)),
)
