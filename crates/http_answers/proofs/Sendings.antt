-- Pieces, one behind the other.
use Rattle.std.proofs.Common.{◌≡◌, ℕ, ◌+◌, ◌<◌, List, [], ◌∷◌, ◌++◌, length, take, drop, get_or, Ok, Err, Result, IsErr, refl, sym, ◌∙◌, ap, subst, arith, true≢false, append_assoc, append-nil, drop-cons, add-one}
use Rattle.std.specs.List.{flat_map}
use Rattle.std.proofs.lemmas.List.{take-append-drop, take_more}
use Rattle.std.proofs.lemmas.List.Concat.{flat_map-append}
use Rattle.streams.specs.Effects.{Grew, PutsAll}
use Rattle.streams.specs.View.{StreamView}
use Rattle.streams.proofs.Grows.{Grew-then}
use Rattle.http_answers.specs.Sending.{Sent, Broke, Pushes}

-- two pieces that were sent
pub sent_then : (a b c : StreamView) (h k l x y : List ℕ) → Sent a b h k x → Sent b c k l y → Sent a c h l (x ++ y)
sent_then a b c h k l x y s t = record {
  sent = s.sent ++ t.sent;
  output = Grew-then a.written b.written c.written s.sent t.sent s.output t.output;
  split =
      sym (append_assoc h x y) ∙ ap (λ (z : List ℕ). z ++ y) s.split ∙ append_assoc s.sent k y
      ∙ ap (λ (z : List ℕ). s.sent ++ z) t.split ∙ sym (append_assoc s.sent t.sent l);
  left = t.left ∙ s.left;
  later = (let p = s.later in let q = t.later in omega (arith, p, q));
}

-- one that was sent, and one that broke
pub broke_then : (a b c : StreamView) (h k x y : List ℕ) → Sent a b h k x → Broke b c (k ++ y) → Broke a c (h ++ (x ++ y))
broke_then a b c h k x y s t = record {
  part = record {
    part = s.sent ++ t.part.part;
    rest = t.part.rest;
    split =
        sym (append_assoc h x y) ∙ ap (λ (z : List ℕ). z ++ y) s.split ∙ append_assoc s.sent k y
        ∙ ap (λ (z : List ℕ). s.sent ++ z) t.part.split ∙ sym (append_assoc s.sent t.part.part t.part.rest);
    output = Grew-then a.written b.written c.written s.sent t.part.part s.output t.part.output;
  };
  left = t.left ∙ s.left;
  later = (let p = s.later in let q = t.later in omega (arith, p, q));
  rose = (let p = s.later in let q = t.rose in omega (arith, p, q));
}

-- one that broke, whatever was to follow
pub broke_before : (a b : StreamView) (h x y : List ℕ) → Broke a b (h ++ x) → Broke a b (h ++ (x ++ y))
broke_before a b h x y t = record {
  part = record {
    part = t.part.part;
    rest = t.part.rest ++ y;
    split = sym (append_assoc h x y) ∙ ap (λ (z : List ℕ). z ++ y) t.part.split ∙ append_assoc t.part.part t.part.rest y;
    output = t.part.output;
  };
  left = t.left;
  later = t.later;
  rose = t.rose;
}

-- nothing was pushed
pub sent_none : (a : StreamView) (h : List ℕ) → Grew a.written a.written [] → Sent a a h h []
sent_none a h grew = record { sent = []; output = grew; split = append-nil h; left = refl; later = omega arith }

-- a piece for which there was room
pub sent_added : (a : StreamView) (h x : List ℕ) → Grew a.written a.written [] → Sent a a h (h ++ x) x
sent_added a h x grew = record { sent = []; output = grew; split = refl; left = refl; later = omega arith }

-- what was held was written, and then the piece
pub sent_both : {T E F : Type 0} (a b c : StreamView) (h x : List ℕ) {one two : T} → PutsAll {E = E} a b (Ok one) h → PutsAll {E = F} b c (Ok two) x → Sent a c h [] x
sent_both a b c h x p q = record {
  sent = h ++ x;
  output = Grew-then a.written b.written c.written h x p.ok q.ok;
  split = sym (append-nil (h ++ x));
  left = q.kept ∙ p.kept;
  later = (let u = p.cause.later in let v = q.cause.later in omega (arith, u, v));
}

-- what was held was written in part
pub broke_held : {T E : Type 0} (a b : StreamView) (h x : List ℕ) {error : E} → PutsAll {T = T} a b (Err error) h → Broke a b (h ++ x)
broke_held a b h x p = record {
  part = record {
    part = p.part.part;
    rest = p.part.rest ++ x;
    split = ap (λ (z : List ℕ). z ++ x) p.part.split ∙ append_assoc p.part.part p.part.rest x;
    output = p.part.output;
  };
  left = p.kept;
  later = p.cause.later;
  rose = p.cause.failed;
}

-- what was held was written, and the piece in part
pub broke_piece : {T E F : Type 0} (a b c : StreamView) (h x : List ℕ) {one : T} {error : F} → PutsAll {E = E} a b (Ok one) h → PutsAll {T = T} b c (Err error) x → Broke a c (h ++ x)
broke_piece a b c h x p q = record {
  part = record {
    part = h ++ q.part.part;
    rest = q.part.rest;
    split = ap (λ (z : List ℕ). h ++ z) q.part.split ∙ sym (append_assoc h q.part.part q.part.rest);
    output = Grew-then a.written b.written c.written h q.part.part p.ok q.part.output;
  };
  left = q.kept ∙ p.kept;
  later = (let u = p.cause.later in let v = q.cause.later in omega (arith, u, v));
  rose = (let u = p.cause.later in let v = q.cause.failed in omega (arith, u, v));
}

-- all was pushed, and then written
pub all_put : {T E F : Type 0} (a b c : StreamView) (h k x : List ℕ) {one end : T} → h ≡ [] → Sent a b h k x → PutsAll {E = E} b c (Ok one) k → PutsAll {E = F} a c (Ok end) x
all_put a b c h k x none s p = record {
  ok = subst (Grew a.written c.written) (sym s.split ∙ ap (λ (l : List ℕ). l ++ x) none) (Grew-then a.written b.written c.written s.sent k s.output p.ok);
  part = tt;
  kept = p.kept ∙ s.left;
  cause = record { later = (let u = s.later in let v = p.cause.later in omega (arith, u, v)); failed = tt };
}

-- all was pushed, and what was held then written in part
pub last_put : {T E : Type 0} (a b c : StreamView) (h k x : List ℕ) {error : E} → h ≡ [] → Sent a b h k x → PutsAll {T = T} b c (Err error) k → Broke a c x
last_put a b c h k x none s p = record {
  part = record {
    part = s.sent ++ p.part.part;
    rest = p.part.rest;
    split = ap (λ (l : List ℕ). l ++ x) (sym none) ∙ s.split ∙ ap (λ (z : List ℕ). s.sent ++ z) p.part.split ∙ sym (append_assoc s.sent p.part.part p.part.rest);
    output = Grew-then a.written b.written c.written s.sent p.part.part s.output p.part.output;
  };
  left = p.kept ∙ s.left;
  later = (let u = s.later in let v = p.cause.later in omega (arith, u, v));
  rose = (let u = s.later in let v = p.cause.failed in omega (arith, u, v));
}

-- the link failed
pub not_put : {T E : Type 0} (a b : StreamView) (x : List ℕ) (result : Result T E) → IsErr result → Broke a b x → PutsAll a b result x
not_put a b x (Ok end) is t = absurd (true≢false (sym is))
not_put a b x (Err e) is t = record { ok = tt; part = t.part; kept = t.left; cause = record { later = t.later; failed = t.rose } }

pub none_put : {T E : Type 0} (a b : StreamView) (h x : List ℕ) (result : Result T E) → h ≡ [] → IsErr result → Broke a b (h ++ x) → PutsAll a b result x
none_put a b h x result none is t = not_put a b x result is (subst (λ (l : List ℕ). Broke a b (l ++ x)) none t)

pub not_pushed : {T E : Type 0} (a b : StreamView) (h k x : List ℕ) (result : Result T E) → IsErr result → Broke a b (h ++ x) → Pushes a b h k result x
not_pushed a b h k x (Ok end) is t = absurd (true≢false (sym is))
not_pushed a b h k x (Err e) is t = record { done = tt; failed = t }

-- what was held was written, and then the piece
pub pushed_both : {T E F : Type 0} (a b c : StreamView) (h k x : List ℕ) (result : Result T F) {one : T} → k ≡ [] → PutsAll {E = E} a b (Ok one) h → PutsAll b c result x → Pushes a c h k result x
pushed_both a b c h k x (Ok two) empty p q = record { done = subst (λ (l : List ℕ). Sent a c h l x) (sym empty) (sent_both a b c h x p q); failed = tt }
pushed_both a b c h k x (Err e) empty p q = record { done = tt; failed = broke_piece a b c h x p q }

-- other words for the same bytes
pub same_bytes : {T E : Type 0} (a b : StreamView) (h k : List ℕ) (result : Result T E) {x y : List ℕ} → x ≡ y → Pushes a b h k result x → Pushes a b h k result y
same_bytes a b h k result same p = subst (Pushes a b h k result) same p

-- two pieces, the first of which broke
pub first_broke : {T E F : Type 0} (a b : StreamView) (h k x y : List ℕ) (result : Result T F) → IsErr result → {error : E}
    → Pushes {T = T} a b h k (Err error) x → Pushes a b h k result (x ++ y)
first_broke a b h k x y result is p = not_pushed a b h k (x ++ y) result is (broke_before a b h x y p.failed)

-- two, the first of which was pushed
pub pushed_then : {T E F : Type 0} (a b c : StreamView) (h k l x y : List ℕ) (result : Result T F) → {one : T}
    → Pushes {E = E} a b h k (Ok one) x → Pushes b c k l result y → Pushes a c h l result (x ++ y)
pushed_then a b c h k l x y (Ok two) p q = record { done = sent_then a b c h k l x y p.done q.done; failed = tt }
pushed_then a b c h k l x y (Err e) p q = record { done = tt; failed = broke_then a b c h k x y p.done q.failed }

-- ---- a list of pieces

module _ {A : Type 0} (f : A → List ℕ) where
  pub so_far : (xs : List A) (i : ℕ) (d : A) → i < length xs → flat_map f (take (i + 1) xs) ≡ flat_map f (take i xs) ++ f (get_or xs i d)
  so_far xs i d lt = ap (flat_map f) (take_more xs i d lt) ∙ flat_map-append f (take i xs) (get_or xs i d ∷ []) ∙ ap (λ (l : List ℕ). flat_map f (take i xs) ++ l) (append-nil (f (get_or xs i d)))

  pub all_pieces : (xs : List A) (i : ℕ) (d : A) → i < length xs → flat_map f xs ≡ flat_map f (take i xs) ++ (f (get_or xs i d) ++ flat_map f (drop (i + 1) xs))
  all_pieces xs i d lt =
      ap (flat_map f) (sym (take-append-drop i xs)) ∙ flat_map-append f (take i xs) (drop i xs)
      ∙ ap (λ (l : List A). flat_map f (take i xs) ++ flat_map f l) (drop-cons xs i d lt ∙ ap (λ (k : ℕ). get_or xs i d ∷ drop k xs) (sym (add-one i)))

  -- one more was pushed
  pub one_more : (a b c : StreamView) (h k l : List ℕ) (xs : List A) (i : ℕ) (x d : A) → i < length xs → x ≡ get_or xs i d
      → Sent a b h k (flat_map f (take i xs)) → Sent b c k l (f x) → Sent a c h l (flat_map f (take (i + 1) xs))
  one_more a b c h k l xs i x d lt is s t =
      subst (Sent a c h l) (ap (λ (y : A). flat_map f (take i xs) ++ f y) is ∙ sym (so_far xs i d lt)) (sent_then a b c h k l (flat_map f (take i xs)) (f x) s t)

  -- it broke, whatever was to follow
  pub one_broke : {T E : Type 0} (a b c : StreamView) (h k l : List ℕ) (xs : List A) (i : ℕ) (x d : A) (result : Result T E) → IsErr result → i < length xs
      → x ≡ get_or xs i d → Sent a b h k (flat_map f (take i xs)) → Broke b c (k ++ f x) → Pushes a c h l result (flat_map f xs)
  one_broke a b c h k l xs i x d result not_ok lt is s t =
      let more = flat_map f (drop (i + 1) xs) in
      let all : flat_map f (take i xs) ++ (f x ++ more) ≡ flat_map f xs =
      ap (λ (y : A). flat_map f (take i xs) ++ (f y ++ more)) is ∙ sym (all_pieces xs i d lt) in
      not_pushed a c h l (flat_map f xs) result not_ok
      (subst (λ (bytes : List ℕ). Broke a c (h ++ bytes)) all (broke_then a b c h k (flat_map f (take i xs)) (f x ++ more) s (broke_before b c k (f x) more t)))
