-- Histories that grow, and what was served over them.
use Rattle.std.proofs.Common.{◌≡◌, ◌∙◌, sym, ap, subst, arith, ℕ, suc, ◌≤◌, List, [], ◌∷◌, ◌++◌, length, length-append, take, refl}
use Rattle.std.proofs.lemmas.List.{append-nil, take-append-le}
use mathlib.Core.List.{IsPrefix}
use Rattle.archive_entry.specs.declared.entry.Entry.{Entry}
use Rattle.desk_words.specs.Setting.{Setting}
use Rattle.http_replies.specs.declared.reply.Reply.{Reply}
use Rattle.http_wire.specs.declared.turn.Turn.{Turn}
use Rattle.centre_session.specs.Items.{Item}
use Rattle.centre_session.specs.Turns.{ServedAs, Served, IsSession, last_front}

-- the part of a history up to a front stays as it grows
pub same_front : (h g : List Entry) (n : ℕ) → IsPrefix h g → n ≤ length h → take n h ≡ take n g
same_front h g n p le = sym (take-append-le n h p.0 le) ∙ ap (take n) p.1

pub prefix_length : (xs ys : List Entry) → IsPrefix xs ys → length xs ≤ length ys
prefix_length xs ys p = omega (arith, sym (ap length p.1) ∙ length-append xs p.0)

-- the front after turns one behind another
pub last_front-append : (k : ℕ) (ts us : List Turn) → last_front k (ts ++ us) ≡ last_front (last_front k ts) us
last_front-append k [] us = refl
last_front-append k (t ∷ ts) us = last_front-append t.front ts us

module _ (s : Setting) where
  pub served_extends : (h g : List Entry) (k j : ℕ) (i : Item) (t : Turn) (r : Reply) → IsPrefix h g → length h ≤ length g → j ≤ k → Served h k s i t r → Served g j s i t r
  served_extends h g k j i t r p le below v = record {
    rises = (let a = v.rises in omega arith);
    within = (let a = v.within in omega arith);
    served = subst (λ (f : List Entry). ServedAs f s i t r) (same_front h g t.front p v.within) v.served;
  }

  -- a longer history keeps a session
  pub extends : (h g : List Entry) (k : ℕ) (is : List Item) (ts : List Turn) (rs : List Reply) → IsPrefix h g → length h ≤ length g → IsSession h k s is ts rs → IsSession g k s is ts rs
  extends h g k [] [] [] p le v = tt
  extends h g k [] [] (r ∷ rs) p le v = absurd v
  extends h g k [] (t ∷ ts) rs p le v = absurd v
  extends h g k (i ∷ is) [] rs p le v = absurd v
  extends h g k (i ∷ is) (t ∷ ts) [] p le v = absurd v
  extends h g k (i ∷ is) (t ∷ ts) (r ∷ rs) p le v = (served_extends h g k k i t r p le (omega arith) v.0, extends h g t.front is ts rs p le v.1)

  -- a session from a front on is one from each front below it
  pub session_from : (h : List Entry) (k j : ℕ) (is : List Item) (ts : List Turn) (rs : List Reply) → j ≤ k → IsSession h k s is ts rs → IsSession h j s is ts rs
  session_from h k j [] [] [] below v = tt
  session_from h k j [] [] (r ∷ rs) below v = absurd v
  session_from h k j [] (t ∷ ts) rs below v = absurd v
  session_from h k j (i ∷ is) [] rs below v = absurd v
  session_from h k j (i ∷ is) (t ∷ ts) [] below v = absurd v
  session_from h k j (i ∷ is) (t ∷ ts) (r ∷ rs) below v = (served_extends h h k j i t r ([], (append-nil h)) (omega arith) below v.0, v.1)

  -- one item more
  pub goes_on : (h : List Entry) (k n : ℕ) (is : List Item) (ts : List Turn) (rs : List Reply) (i : Item) (t : Turn) (r : Reply)
      → IsSession h k s is ts rs → last_front k ts ≤ n → Served h n s i t r → IsSession h k s (is ++ i ∷ []) (ts ++ t ∷ []) (rs ++ r ∷ [])
  goes_on h k n [] [] [] i t r v le one = (served_extends h h n k i t r ([], (append-nil h)) (omega arith) le one, tt)
  goes_on h k n [] [] (q ∷ rs) i t r v le one = absurd v
  goes_on h k n [] (u ∷ ts) rs i t r v le one = absurd v
  goes_on h k n (j ∷ is) [] rs i t r v le one = absurd v
  goes_on h k n (j ∷ is) (u ∷ ts) [] i t r v le one = absurd v
  goes_on h k n (j ∷ is) (u ∷ ts) (q ∷ rs) i t r v le one = (v.0, goes_on h u.front n is ts rs i t r v.1 le one)

  -- the last front is within the history
  pub front_within : (h : List Entry) (k : ℕ) (is : List Item) (ts : List Turn) (rs : List Reply) → IsSession h k s is ts rs → k ≤ length h → last_front k ts ≤ length h
  front_within h k [] [] [] v le = le
  front_within h k [] [] (r ∷ rs) v le = absurd v
  front_within h k [] (t ∷ ts) rs v le = absurd v
  front_within h k (i ∷ is) [] rs v le = absurd v
  front_within h k (i ∷ is) (t ∷ ts) [] v le = absurd v
  front_within h k (i ∷ is) (t ∷ ts) (r ∷ rs) v le = front_within h t.front is ts rs v.1 v.0.within

  -- each item has one turn
  pub same_count : (h : List Entry) (k : ℕ) (is : List Item) (ts : List Turn) (rs : List Reply) → IsSession h k s is ts rs → length is ≡ length ts
  same_count h k [] [] [] v = refl
  same_count h k [] [] (r ∷ rs) v = absurd v
  same_count h k [] (t ∷ ts) rs v = absurd v
  same_count h k (i ∷ is) [] rs v = absurd v
  same_count h k (i ∷ is) (t ∷ ts) [] v = absurd v
  same_count h k (i ∷ is) (t ∷ ts) (r ∷ rs) v = ap suc (same_count h t.front is ts rs v.1)
