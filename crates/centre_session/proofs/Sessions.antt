-- A session goes on by one item.
use Rattle.std.proofs.Common.{◌≡◌, ◌∙◌, refl, sym, ap, subst, arith, ℕ, ◌+◌, ◌-◌, ◌^◌, List, [], ◌∷◌, ◌++◌, length, append_assoc}
use Rattle.std.proofs.Math.Nat.{min-le_left}
use Rattle.std.proofs.lemmas.List.{append-nil}
use Rattle.std.proofs.lemmas.List.Sums.{sum_by-append}
use Rattle.std.specs.List.{sum_by}
use Rattle.archive_entry.specs.declared.entry.Entry.{Entry}
use Rattle.desk_words.specs.Counts.{RoseAtLeast, RoseWithin}
use Rattle.desk_words.specs.Setting.{Setting}
use Rattle.desk_words.specs.Stand.{Stand}
use Rattle.centre_desk.proofs.Asks.{goes_then}
use Rattle.centre_desk.specs.Turns.{behind_of}
use Rattle.exact_time.specs.declared.moment.Moment.{Moment}
use Rattle.http_replies.specs.declared.reply.Reply.{Reply}
use Rattle.http_wire.specs.declared.turn.Turn.{Turn}
use Rattle.centre_session.specs.Items.{Item, output_of, item_output}
use Rattle.centre_session.specs.Turns.{IsSession, Serves, TurnStep, stops_of, made_least, made_most}
use Rattle.centre_session.proofs.Fronts.{prefix_length, extends, goes_on, front_within}
use Rattle.centre_session.proofs.Sources.{sourced_more, sourced_none}

module _ (s : Setting) where
  -- what is written of one item more
  pub output_more : (h : List Entry) (k : ℕ) (is : List Item) (ts : List Turn) (rs : List Reply) (i : Item) (r : Reply) → IsSession h k s is ts rs
      → output_of (is ++ i ∷ []) (rs ++ r ∷ []) ≡ output_of is rs ++ item_output i r
  output_more h k [] [] [] i r v = append-nil (item_output i r)
  output_more h k [] [] (q ∷ rs) i r v = absurd v
  output_more h k [] (t ∷ ts) rs i r v = absurd v
  output_more h k (j ∷ is) [] rs i r v = absurd v
  output_more h k (j ∷ is) (t ∷ ts) [] i r v = absurd v
  output_more h k (j ∷ is) (t ∷ ts) (q ∷ rs) i r v =
      ap (λ (w : List ℕ). item_output j q ++ w) (output_more h t.front is ts rs i r v.1) ∙ sym (append_assoc (item_output j q) (output_of is rs) (item_output i r))

-- one count that rose behind another
pub rose_then : (m n x y z : ℕ) → RoseAtLeast m x y → RoseAtLeast n y z → RoseAtLeast (m + n) x z
rose_then m n x y z p q = let a = p.later in let b = p.at_least in let c = q.later in let d = q.at_least in record { later = omega arith; at_least = omega arith }

pub within_then : (a b m n x y z : ℕ) → RoseWithin a b x y → RoseWithin m n y z → RoseWithin (a + m) (b + n) x z
within_then a b m n x y z p q =
    let e = p.later in let f = p.at_least in let g = p.at_most in let k = q.later in let l = q.at_least in let o = q.at_most in
    record { later = omega arith; at_least = omega arith; at_most = omega arith }

-- the sum of one more
pub sum_push : {X : Type 0} (f : X → ℕ) (xs : List X) (x : X) → sum_by f (xs ++ x ∷ []) ≡ sum_by f xs + f x
sum_push f xs x = let e = sum_by-append f xs (x ∷ []) in let one : sum_by f (x ∷ []) ≡ f x = omega arith in omega arith

pub serves_more : (a b c : Stand) (s : Setting) (items : List Item) (turns : List Turn) (replies : List Reply) (i : Item) (moment : Moment) (t : Turn) (r : Reply)
    → Serves a b s items turns replies → TurnStep b c s i moment t r → Serves a c s (items ++ i ∷ []) (turns ++ t ∷ []) (replies ++ r ∷ [])
serves_more a b c s items turns replies i moment t r v step =
    let k = length a.seen in
    let first = prefix_length a.seen b.seen v.goes_on.grows in
    let after = prefix_length b.seen c.seen step.goes_on.grows in
    record {
      goes_on = goes_then a b c v.goes_on step.goes_on;
      session = goes_on s c.seen k (length b.seen) items turns replies i t r (extends s b.seen c.seen k items turns replies step.goes_on.grows after v.session) (front_within s b.seen k items turns replies v.session first) step.served;
      stops = subst (λ (n : ℕ). RoseAtLeast n a.stops c.stops) (sym (sum_push stops_of replies r)) (rose_then _ _ a.stops b.stops c.stops v.stops step.counted.stops);
      caught = subst (λ (n : ℕ). RoseAtLeast n a.caught c.caught) (sym (sum_push behind_of replies r)) (rose_then _ _ a.caught b.caught c.caught v.caught step.counted.caught);
      made = subst (λ (n : ℕ). RoseWithin n (sum_by made_most (turns ++ t ∷ [])) a.made c.made) (sym (sum_push made_least turns t))
          (subst (λ (n : ℕ). RoseWithin (sum_by made_least turns + made_least t) n a.made c.made) (sym (sum_push made_most turns t)) (within_then _ _ _ _ a.made b.made c.made v.made step.counted.made));
      alone = λ is none. sourced_more a b c s items turns replies i t r v.session step.goes_on.grows step.front (v.alone is none) (step.alone (v.goes_on.alone ∙ is));
    }

-- nothing is served yet
pub serves_none : (a : Stand) (s : Setting) → Serves a a s [] [] []
serves_none a s = record {
  goes_on = record { grows = ([], append-nil a.seen); alone = refl; footing = refl; stops = omega arith };
  session = tt;
  stops = record { later = omega arith; at_least = omega (arith, min-le_left (a.stops + 0) (2 ^ 64 - 1)) };
  caught = record { later = omega arith; at_least = omega (arith, min-le_left (a.caught + 0) (2 ^ 64 - 1)) };
  made = record { later = omega arith; at_least = omega (arith, min-le_left (a.made + 0) (2 ^ 64 - 1)); at_most = omega arith };
  alone = λ is none. sourced_none a s none;
}
