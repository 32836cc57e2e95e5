-- The lines of the events that are given.
use Rattle.std.proofs.Common.{◌≡◌, ℕ, suc, ◌<◌, ◌≤◌, ◌==◌, ◌-◌, Bool, true, false, cond, List, [], ◌∷◌, Option, Some, None, Result, Ok, Err, length, map, drop, refl, sym, ap, ◌∙◌, arith}
use Rattle.std.specs.Prelude.{nat_lt}
use Rattle.std.specs.Result.{IfOk}
use Rattle.std.proofs.lemmas.Bool.Decides.{nat_tests}
use Rattle.std.proofs.lemmas.List.{take-map, drop-map, length-map}
use Rattle.exact_time.specs.declared.error.TextRefusal.{TextRefusal}
use Rattle.exact_time.specs.declared.error.TextRefusal.TheVariants.{Empty, TooLarge}
use Rattle.epochs.specs.Kinds.{Text}
use Rattle.line_columns.specs.Answers.{text_or_empty}
use Rattle.query_words.specs.declared.event.EventQuery.{EventQuery}
use Rattle.event_text.specs.Orders.{limited, given_events}

pub if_ok : {A E : Type 0} {P Q : A → Type 0} (r : Result A E) → ((a : A) → P a → Q a) → IfOk r P → IfOk r Q
if_ok (Ok a) f h = f a h
if_ok (Err e) f h = tt

some_items : (n : ℕ) → (suc n == 0) ≡ true → ⊥
some_items n h = grind (arith, nat_tests)

module _ {X E : Type 0} (f : X → E) where
  limited_seen : (limit : Option ℕ) (xs : List X) → map f (limited limit xs) ≡ limited limit (map f xs)
  limited_seen None xs = refl
  limited_seen (Some n) xs = sym (take-map f n xs)

  pub given_seen : (q : EventQuery) (xs : List X) → map f (given_events q xs) ≡ given_events q (map f xs)
  given_seen q xs = limited_seen q.limit (drop (q.offset - 1) xs) ∙ ap (limited q.limit) (sym (drop-map f (q.offset - 1) xs))

  module _ (text : List E → Text) (most : ℕ) where
    pub no_lines : (xs : List X) (lines : List E) → map f xs ≡ lines → (length xs == 0) ≡ true → text_or_empty text most lines ≡ Err Empty
    no_lines [] lines is h = ap (text_or_empty text most) (sym is)
    no_lines (x ∷ xs) lines is h = absurd (some_items (length xs) h)

    within : (x : X) (xs : List X) (b : Bool) → nat_lt most (length (x ∷ xs)) ≡ b
        → text_or_empty text most (map f (x ∷ xs)) ≡ cond b (Err (TooLarge (length (x ∷ xs)))) (Ok (text (map f (x ∷ xs))))
    within x xs b is =
        ap (λ n. cond {A = Result Text TextRefusal} (nat_lt most n) (Err (TooLarge n)) (Ok (text (map f (x ∷ xs))))) (length-map (x ∷ xs) f)
        ∙ ap (λ b. cond {A = Result Text TextRefusal} b (Err (TooLarge (length (x ∷ xs)))) (Ok (text (map f (x ∷ xs))))) is

    pub many_lines : (xs : List X) (lines : List E) → map f xs ≡ lines → (length xs == 0) ≡ false → most < length xs → text_or_empty text most lines ≡ Err (TooLarge (length xs))
    many_lines [] lines is h more = cc
    many_lines (x ∷ xs) lines is h more = ap (text_or_empty text most) (sym is) ∙ within x xs true (grind (arith, nat_tests))

    pub some_lines : (xs : List X) (lines : List E) → map f xs ≡ lines → (length xs == 0) ≡ false → length xs ≤ most → text_or_empty text most lines ≡ Ok (text (map f xs))
    some_lines [] lines is h few = cc
    some_lines (x ∷ xs) lines is h few = ap (text_or_empty text most) (sym is) ∙ within x xs false (grind (arith, nat_tests))
