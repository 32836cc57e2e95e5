-- A session over a desk that is alone goes on by one turn.
use Rattle.std.proofs.Common.{◌≡◌, ◌∙◌, ◌⊎◌, refl, sym, ap, subst, inl, inr, ⊎_elim, arith, ℕ, ◌==◌, ◌||◌, Bool, true, false, List, [], ◌∷◌, ◌++◌, length, append_assoc, take, Option, None, Some, is_some}
use Rattle.std.proofs.lemmas.List.{append-nil, take_all}
use mathlib.Core.List.{IsPrefix}
use Rattle.archive_entry.specs.declared.entry.Entry.{Entry}
use Rattle.desk_words.specs.Setting.{Setting}
use Rattle.desk_words.specs.Stand.{Stand, Left, nothing, short, stopped, as_short, as_stopped, MayFlush, NothingShort}
use Rattle.centre_desk.specs.Sources.{own_entry, IsOwn, KeepsLeft, IsOwnLeft, AloneTurn}
use Rattle.http_replies.specs.declared.reply.Reply.{Reply}
use Rattle.http_wire.specs.declared.turn.Turn.{Turn}
use Rattle.centre_session.specs.Items.{Item}
use Rattle.centre_session.specs.Sources.{posted_in, TurnAdds, Sourced, LeftByTurn, LeftByOne, IsLeftBy, IsNextLeft, SourcedSession}
use Rattle.centre_session.specs.Turns.{IsSession}
use Rattle.centre_session.proofs.Fronts.{same_front}

-- ---- what was added

-- one turn more adds its own behind the others
source_more : (s : Setting) (h : List Entry) (is : List Item) (ts : List Turn) (es : List Entry) (i : Item) (t : Turn) (mine : List Entry)
    → Sourced s h is ts es → TurnAdds (h ++ es) s i t mine → Sourced s h (is ++ i ∷ []) (ts ++ t ∷ []) (es ++ mine)
source_more s h [] [] es i t mine none add = (
  mine,
  [],
  subst (λ (g : List Entry). TurnAdds g s i t mine) (ap (λ (w : List Entry). h ++ w) none ∙ append-nil h) add,
  ap (λ (w : List Entry). w ++ mine) none ∙ sym (append-nil mine),
  refl,
)
source_more s h [] (u ∷ ts) es i t mine v add = absurd v
source_more s h (j ∷ is) [] es i t mine v add = absurd v
source_more s h (j ∷ is) (u ∷ ts) es i t mine v add =
    let first = v.0 in
    let rest = v.1 in
    let split = v.3 in
    let behind : h ++ es ≡ (h ++ first) ++ rest = ap (λ (w : List Entry). h ++ w) split ∙ sym (append_assoc h first rest) in (
      first,
      rest ++ mine,
      v.2,
      ap (λ (w : List Entry). w ++ mine) split ∙ append_assoc first rest mine,
      source_more s (h ++ first) is ts rest i t mine v.4 (subst (λ (g : List Entry). TurnAdds g s i t mine) behind add),
    )

-- what was left short may come in
flush_source : (s : Setting) (h : List Entry) (is : List Item) (ts : List Turn) (added flushed : List Entry) (left : Left) → MayFlush left flushed → Sourced s h is ts added
    → IsNextLeft s h is ts added left → Sourced s h is ts (added ++ flushed)
flush_source s h is ts added flushed nothing may v next = subst (λ (w : List Entry). Sourced s h is ts w) (sym (append-nil added) ∙ ap (λ (w : List Entry). added ++ w) (sym may)) v
flush_source s h is ts added flushed (stopped e) may v next = subst (λ (w : List Entry). Sourced s h is ts w) (sym (append-nil added) ∙ ap (λ (w : List Entry). added ++ w) (sym may)) v
flush_source s h is ts added flushed (short e) may v next =
    ⊎_elim (λ (none : flushed ≡ []). subst (λ (w : List Entry). Sourced s h is ts w) (sym (append-nil added) ∙ ap (λ (w : List Entry). added ++ w) (sym none)) v)
    (λ (one : flushed ≡ e ∷ []). subst (λ (w : List Entry). Sourced s h is ts (added ++ w)) (sym one) next) may

next_none : (s : Setting) (h : List Entry) (is : List Item) (ts : List Turn) (added : List Entry) (left : Left) → NothingShort left → IsNextLeft s h is ts added left
next_none s h is ts added nothing none = tt
next_none s h is ts added (short e) none = absurd none
next_none s h is ts added (stopped e) none = tt

-- a turn that added nothing adds nothing elsewhere
adds_none : (s : Setting) (h g : List Entry) (i : Item) (t : Turn) (mine : List Entry) → mine ≡ [] → TurnAdds h s i t mine → TurnAdds g s i t []
adds_none s h g i t mine none add =
    ⊎_elim (λ (w : (mine ≡ []) × (is_some t.entry ≡ false)). inl (refl, w.1))
    (λ (w : IsOwn h (posted_in i) t.moment s (is_some t.entry) t.short mine). absurd (let one = w.mine_is in (cc (none, one)))) add

-- what is left short stays behind a turn that adds nothing
next_stays : (s : Setting) (h : List Entry) (is : List Item) (ts : List Turn) (added : List Entry) (left : Left) (i : Item) (t : Turn) → ((g : List Entry) → TurnAdds g s i t [])
    → IsNextLeft s h is ts added left → IsNextLeft s h (is ++ i ∷ []) (ts ++ t ∷ []) added left
next_stays s h is ts added nothing i t none next = tt
next_stays s h is ts added (stopped e) i t none next = tt
next_stays s h is ts added (short e) i t none next =
    subst (λ (w : List Entry). Sourced s h (is ++ i ∷ []) (ts ++ t ∷ []) w) (append-nil (added ++ e ∷ [])) (source_more s h is ts (added ++ e ∷ []) i t [] next (none _))

-- ---- what is left

-- an entry that one of the turns left is left by one of them and one more
left_more : (s : Setting) (h g : List Entry) (k : ℕ) (is : List Item) (ts : List Turn) (rs : List Reply) (i : Item) (t : Turn) (r : Reply) (e : Entry) → IsPrefix h g
    → IsSession h k s is ts rs → LeftByOne h s is ts rs e → LeftByOne g s (is ++ i ∷ []) (ts ++ t ∷ []) (rs ++ r ∷ []) e
left_more s h g k [] ts rs i t r e p v one = absurd one
left_more s h g k (j ∷ is) [] rs i t r e p v one = absurd one
left_more s h g k (j ∷ is) (u ∷ ts) [] i t r e p v one = absurd one
left_more s h g k (j ∷ is) (u ∷ ts) (q ∷ rs) i t r e p v one =
    ⊎_elim
    (λ (w : LeftByTurn h s j u q e).
    inl (record { entry_is = subst (λ (f : List Entry). own_entry f (posted_in j) u.moment s ≡ Some e) (same_front h g u.front p v.0.within) w.entry_is; cause = w.cause }))
    (λ (w : LeftByOne h s is ts rs e). inr (left_more s h g u.front is ts rs i t r e p v.1 w)) one

-- or the last one left it
left_last : (s : Setting) (h g : List Entry) (k : ℕ) (is : List Item) (ts : List Turn) (rs : List Reply) (i : Item) (t : Turn) (r : Reply) (e : Entry)
    → IsSession h k s is ts rs → LeftByTurn g s i t r e → LeftByOne g s (is ++ i ∷ []) (ts ++ t ∷ []) (rs ++ r ∷ []) e
left_last s h g k [] [] [] i t r e v one = inl one
left_last s h g k [] [] (q ∷ rs) i t r e v one = absurd v
left_last s h g k [] (u ∷ ts) rs i t r e v one = absurd v
left_last s h g k (j ∷ is) [] rs i t r e v one = absurd v
left_last s h g k (j ∷ is) (u ∷ ts) [] i t r e v one = absurd v
left_last s h g k (j ∷ is) (u ∷ ts) (q ∷ rs) i t r e v one = inr (left_last s h g u.front is ts rs i t r e v.1 one)

kept_left : (s : Setting) (h g : List Entry) (k : ℕ) (is : List Item) (ts : List Turn) (rs : List Reply) (i : Item) (t : Turn) (r : Reply) (left : Left) → IsPrefix h g
    → IsSession h k s is ts rs → IsLeftBy h s is ts rs left → IsLeftBy g s (is ++ i ∷ []) (ts ++ t ∷ []) (rs ++ r ∷ []) left
kept_left s h g k is ts rs i t r nothing p v one = tt
kept_left s h g k is ts rs i t r (short e) p v one = left_more s h g k is ts rs i t r e p v one
kept_left s h g k is ts rs i t r (stopped e) p v one = left_more s h g k is ts rs i t r e p v one

either_short : (b c : Bool) → b ≡ true → (b || c) ≡ true
either_short true c is = refl
either_short false c is = absurd cc

-- ---- one turn more

module _ (a b c : Stand) (s : Setting) (is : List Item) (ts : List Turn) (rs : List Reply) (i : Item) (t : Turn) (r : Reply)
    (session : IsSession b.seen (length a.seen) s is ts rs) (grown : IsPrefix b.seen c.seen) (front : t.front ≡ length c.seen)
    (v : SourcedSession a b s is ts rs) (u : AloneTurn b c (posted_in i) t.moment s (is_some t.entry) t.short (r.status == 503)) where
  -- what was added before, and what came in of what was left
  abbrev base : List Entry
  base = v.added ++ u.flushed

  base_source : Sourced s a.seen is ts base
  base_source = flush_source s a.seen is ts v.added u.flushed b.left u.may v.sourced v.next

  base_seen : b.seen ++ u.flushed ≡ a.seen ++ base
  base_seen = ap (λ (w : List Entry). w ++ u.flushed) v.seen ∙ append_assoc a.seen v.added u.flushed

  own_adds : TurnAdds (a.seen ++ base) s i t u.mine
  own_adds = subst (λ (g : List Entry). TurnAdds g s i t u.mine) base_seen u.adds

  seen_all : c.seen ≡ a.seen ++ (base ++ u.mine)
  seen_all = u.seen ∙ (ap (λ (w : List Entry). w ++ u.mine) base_seen ∙ append_assoc a.seen base u.mine)

  sourced_all : Sourced s a.seen (is ++ i ∷ []) (ts ++ t ∷ []) (base ++ u.mine)
  sourced_all = source_more s a.seen is ts base i t u.mine base_source own_adds

  -- the turn's own entry, over what is seen after it
  whole_front : take t.front c.seen ≡ c.seen
  whole_front = take_all t.front c.seen (omega (arith, front))

  abbrev own : Option Entry
  own = own_entry c.seen (posted_in i) t.moment s

  own_left_by : (e : Entry) → own ≡ Some e → (t.short || r.status == 503) ≡ true → LeftByOne c.seen s (is ++ i ∷ []) (ts ++ t ∷ []) (rs ++ r ∷ []) e
  own_left_by e some cause =
      left_last s b.seen c.seen (length a.seen) is ts rs i t r e session
      (record { entry_is = ap (λ (f : List Entry). own_entry f (posted_in i) t.moment s) whole_front ∙ some; cause = cause })

  -- nothing of its own was added
  module _ (none : u.mine ≡ []) where
    flat : base ++ u.mine ≡ base
    flat = ap (λ (w : List Entry). base ++ w) none ∙ append-nil base

    seen_base : c.seen ≡ a.seen ++ base
    seen_base = seen_all ∙ ap (λ (w : List Entry). a.seen ++ w) flat

    own_next : (e : Entry) → own ≡ Some e → t.short ≡ true → Sourced s a.seen (is ++ i ∷ []) (ts ++ t ∷ []) ((base ++ u.mine) ++ e ∷ [])
    own_next e some ran_out =
        let mine : IsOwn (a.seen ++ base) (posted_in i) t.moment s (is_some t.entry) t.short (e ∷ []) =
        record { entry = e; entry_is = ap (λ (g : List Entry). own_entry g (posted_in i) t.moment s) (sym seen_base) ∙ some; cause = short_counts (is_some t.entry) t.short ran_out; mine_is = refl } in
        subst (λ (w : List Entry). Sourced s a.seen (is ++ i ∷ []) (ts ++ t ∷ []) (w ++ e ∷ [])) (sym flat) (source_more s a.seen is ts base i t (e ∷ []) base_source (inr mine))
      where
        short_counts : (x y : Bool) → y ≡ true → (x || y) ≡ true
        short_counts true y is_true = refl
        short_counts false y is_true = is_true

    -- its own is left short
    abbrev Both : Left → Type 0
    Both left = IsLeftBy c.seen s (is ++ i ∷ []) (ts ++ t ∷ []) (rs ++ r ∷ []) left × IsNextLeft s a.seen (is ++ i ∷ []) (ts ++ t ∷ []) (base ++ u.mine) left

    left_short : (o : Option Entry) → own ≡ o → t.short ≡ true → Both (as_short o)
    left_short None at ran_out = (tt, tt)
    left_short (Some e) at ran_out = (own_left_by e at (either_short t.short (r.status == 503) ran_out), own_next e at ran_out)

    left_stopped : (o : Option Entry) → own ≡ o → (t.short || r.status == 503) ≡ true → Both (as_stopped o)
    left_stopped None at cause = (tt, tt)
    left_stopped (Some e) at cause = (own_left_by e at cause, tt)

    own_left : IsOwnLeft own t.short (r.status == 503) c.left → Both c.left
    own_left is_own =
        ⊎_elim (λ (w : (t.short ≡ true) × (c.left ≡ as_short own)). subst Both (sym w.1) (left_short own refl w.0))
        (λ (w : ((t.short || r.status == 503) ≡ true) × (c.left ≡ as_stopped own)). subst Both (sym w.1) (left_stopped own refl w.0)) is_own

  abbrev After : Left → Type 0
  After left = IsLeftBy c.seen s (is ++ i ∷ []) (ts ++ t ∷ []) (rs ++ r ∷ []) left × IsNextLeft s a.seen (is ++ i ∷ []) (ts ++ t ∷ []) (base ++ u.mine) left

  -- what was left before is left still
  module _ (keeps : KeepsLeft b.left c.left u.flushed u.mine) where
    still_left : IsLeftBy c.seen s (is ++ i ∷ []) (ts ++ t ∷ []) (rs ++ r ∷ []) c.left
    still_left =
        subst (λ (l : Left). IsLeftBy c.seen s (is ++ i ∷ []) (ts ++ t ∷ []) (rs ++ r ∷ []) l) (sym keeps.same)
        (kept_left s b.seen c.seen (length a.seen) is ts rs i t r b.left grown session v.left)

    still_next : u.mine ≡ [] → IsNextLeft s a.seen (is ++ i ∷ []) (ts ++ t ∷ []) (base ++ u.mine) c.left
    still_next none =
        let same : v.added ≡ base ++ u.mine = sym (ap (λ (w : List Entry). base ++ w) none ∙ (append-nil base ∙ (ap (λ (w : List Entry). v.added ++ w) keeps.unflushed ∙ append-nil v.added))) in
        subst (λ (w : List Entry). IsNextLeft s a.seen (is ++ i ∷ []) (ts ++ t ∷ []) w c.left) same
        (subst (λ (l : Left). IsNextLeft s a.seen (is ++ i ∷ []) (ts ++ t ∷ []) v.added l) (sym keeps.same)
        (next_stays s a.seen is ts v.added b.left i t (λ g. adds_none s (a.seen ++ base) g i t u.mine none own_adds) v.next))

    still : After c.left
    still = (
      still_left,
      ⊎_elim (λ (none : u.mine ≡ []). still_next none) (λ (none : NothingShort c.left). next_none s a.seen (is ++ i ∷ []) (ts ++ t ∷ []) (base ++ u.mine) c.left none) keeps.in_order,
    )

  after : After c.left
  after =
      ⊎_elim (λ (none : c.left ≡ nothing). subst After (sym none) (tt, tt))
      (λ (rest : KeepsLeft b.left c.left u.flushed u.mine ⊎ ((u.mine ≡ []) × IsOwnLeft own t.short (r.status == 503) c.left)).
      ⊎_elim (λ (w : KeepsLeft b.left c.left u.flushed u.mine). still w) (λ (w : (u.mine ≡ []) × IsOwnLeft own t.short (r.status == 503) c.left). own_left w.0 w.1) rest)
      u.left

  pub sourced_more : SourcedSession a c s (is ++ i ∷ []) (ts ++ t ∷ []) (rs ++ r ∷ [])
  sourced_more = record { added = base ++ u.mine; seen = seen_all; sourced = sourced_all; left = after.0; next = after.1 }

-- nothing was added and nothing is left
pub sourced_none : (a : Stand) (s : Setting) → a.left ≡ nothing → SourcedSession a a s [] [] []
sourced_none a s none = record {
  added = [];
  seen = sym (append-nil a.seen);
  sourced = refl;
  left = subst (λ (l : Left). IsLeftBy a.seen s [] [] [] l) (sym none) tt;
  next = subst (λ (l : Left). IsNextLeft s a.seen [] [] [] l) (sym none) tt;
}
