-- In a round each window comes after the one before it, so that none is asked twice.
use Rattle.std.proofs.Common.{◌≡◌, ℕ, ◌+◌, ◌<◌, ◌≤◌, ◌==◌, ℤ, pos, ◌+ℤ◌, ◌≤ℤ◌, ◌<ℤ◌, Bool, true, false, cond, List, [], ◌∷◌, ◌++◌, None, Some, refl, sym, ◌∙◌, subst, arith, inl, inr}
use Rattle.std.specs.Prelude.{nat_lt, if◌then◌else◌}
use Rattle.std.specs.List.{AllByRecursion}
use Rattle.std.proofs.lemmas.Bool.Decides.{nat_tests}
use Rattle.std.proofs.lemmas.Int.{ints}
use Rattle.split_fetch.specs.Once.{ComesBefore, FirstComesAfter, Follows, InOrder, asked_in}
use Rattle.split_fetch.specs.Halves.{left_of, right_of, can_split}
use Rattle.split_fetch.specs.Windows.{Make, windows_of}
use Rattle.split_fetch.specs.Fronts.{fronts_of, first_move}
use Rattle.split_fetch.specs.Rounds.{Stage, Way, Goes, Ends, begun, next_round, answered, going, heard_for, after_on, after, way_after, first_of_todo}
use Rattle.split_fetch.specs.declared.window.Window.{Window}
use Rattle.split_fetch.specs.declared.heard.Heard.{Heard}
use Rattle.split_fetch.specs.declared.heard.Heard.TheVariants.{Lost, Peer, BadReply, TooMuch, Got}
use Rattle.split_fetch.specs.declared.answer.WindowAnswer.{WindowAnswer}
use Rattle.split_fetch.specs.declared.heard.Outcome.{Outcome}
use Rattle.split_fetch.specs.declared.heard.Outcome.TheVariants.{Lost as LostAtLast, Moved, Requests, Peer as PeerSaid}
use Rattle.split_fetch.proofs.RoundsSound.{IsSound, GoodWay, middle_inside, begun_sound, way_good, after_good}

pub transitive : (u v w : Window) → ComesBefore u v → ComesBefore v w → ComesBefore u w
transitive u v w (inl a) (inl b) = inl (omega (arith, ints, a, b))
transitive u v w (inl a) (inr b) = inl (let e = b.0 in omega (arith, ints, a, e))
transitive u v w (inr a) (inl b) = inl (let e = a.0 in omega (arith, ints, b, e))
transitive u v w (inr a) (inr b) = inr (a.0 ∙ b.0, let e = a.1 in let f = b.1 in omega (arith, ints, e, f))

next_to : (from to : ℤ) (us : List Window) (w v : Window) (vs : List Window) → Make from to (us ++ w ∷ v ∷ vs) → w.start.micros <ℤ v.start.micros
next_to from to [] w v vs make = let a = make.0 in let b = make.1 in let d = make.2.0 in omega (arith, ints, a, b, d)
next_to from to (u ∷ us) w v vs make = next_to (u.end.micros +ℤ pos 1) to us w v vs make.2

module _ (s : Stage) (w : Window) where
  next_follows : (o : Outcome) → Follows s w (next_round s o)
  next_follows o = elim (nat_lt s.round 8) as (λ b. Follows s w (cond b (Goes (begun s.whole (s.round + 1))) (Ends o))) [ true ↦ inl refl | false ↦ tt ]

  going_follows : (taken : List WindowAnswer) (todo : List Window) → FirstComesAfter w todo → Follows s w (going s taken todo)
  going_follows taken [] h = elim (first_move (fronts_of taken)) as (λ m. Follows s w (answered s taken m)) [ None ↦ tt | Some fronts ↦ next_follows (Moved fronts.0 fronts.1) ]
  going_follows taken (v ∷ todo) h = elim (nat_lt (s.asked + 1) 10_000) as (λ b. Follows s w (cond b (Goes (record { whole = s.whole; round = s.round; asked = s.asked + 1; todo = v ∷ todo; taken = taken })) (Ends Requests))) [
    | true ↦ inr h
    | false ↦ tt
  ]

  first_after : (from to : ℤ) (us todo : List Window) → Make from to (us ++ w ∷ todo) → FirstComesAfter w todo
  first_after from to us [] make = tt
  first_after from to us (v ∷ vs) make = inl (next_to from to us w v vs make)

  heard_follows : (from to : ℤ) (todo : List Window) (h : Heard) → Make from to (windows_of s.taken ++ w ∷ todo) → Follows s w (heard_for s w todo h)
  heard_follows from to todo Lost make = next_follows LostAtLast
  heard_follows from to todo (Peer status) make = tt
  heard_follows from to todo BadReply make = tt
  heard_follows from to todo TooMuch make = elim (can_split w) as (λ b. can_split w ≡ b → Follows s w (cond b (going s s.taken (left_of w ∷ right_of w ∷ todo)) (Ends (PeerSaid 413)))) [
    | true ↦ λ e. going_follows s.taken (left_of w ∷ right_of w ∷ todo) (inr (refl, (middle_inside w (grind (arith, ints, e))).1))
    | false ↦ λ _. tt
  ] refl
  heard_follows from to todo (Got front rows) make = going_follows (s.taken ++ record { window = w; front = front; rows = rows } ∷ []) todo (first_after from to (windows_of s.taken) todo make)

-- whatever was heard before
pub in_a_row : (whole : Window) → whole.start.micros ≤ℤ whole.end.micros → (hs : List Heard) (s : Stage) (w : Window) (todo : List Window) (h : Heard)
    → way_after (Goes (begun whole 1)) hs ≡ Goes s → s.todo ≡ w ∷ todo → Follows s w (after s h)
in_a_row whole forward hs s w todo h is first =
    let good : IsSound whole s = subst (GoodWay whole) is (way_good whole forward (Goes (begun whole 1)) hs (begun_sound whole forward whole 1 refl)) in
    let make : Make whole.start.micros whole.end.micros (windows_of s.taken ++ w ∷ todo) = subst (λ (l : List Window). Make whole.start.micros whole.end.micros (windows_of s.taken ++ l)) first good.1 in
    subst (λ (l : List Window). Follows s w (after_on s l h)) (sym first) (heard_follows s w whole.start.micros whole.end.micros todo h make)

-- ---- all that are asked in a round

abbrev Grows : Stage → Way → Type 0
Grows s (Goes t) = s.round ≤ t.round
Grows s (Ends outcome) = Unit {0}

module _ (s : Stage) where
  next_grows : (o : Outcome) → Grows s (next_round s o)
  next_grows o = elim (nat_lt s.round 8) as (λ b. Grows s (cond b (Goes (begun s.whole (s.round + 1))) (Ends o))) [ true ↦ omega arith | false ↦ tt ]

  going_grows : (taken : List WindowAnswer) (todo : List Window) → Grows s (going s taken todo)
  going_grows taken [] = elim (first_move (fronts_of taken)) as (λ m. Grows s (answered s taken m)) [
    | None ↦ tt
    | Some fronts ↦ next_grows (Moved fronts.0 fronts.1)
  ]
  going_grows taken (w ∷ todo) = elim (nat_lt (s.asked + 1) 10_000) as (λ b. Grows s (cond b (Goes (record { whole = s.whole; round = s.round; asked = s.asked + 1; todo = w ∷ todo; taken = taken })) (Ends Requests))) [
    | true ↦ omega arith
    | false ↦ tt
  ]

  heard_grows : (w : Window) (todo : List Window) (h : Heard) → Grows s (heard_for s w todo h)
  heard_grows w todo Lost = next_grows LostAtLast
  heard_grows w todo (Peer status) = tt
  heard_grows w todo BadReply = tt
  heard_grows w todo TooMuch = elim (can_split w) as (λ b. Grows s (cond b (going s s.taken (left_of w ∷ right_of w ∷ todo)) (Ends (PeerSaid 413)))) [
    | true ↦ going_grows s.taken (left_of w ∷ right_of w ∷ todo)
    | false ↦ tt
  ]
  heard_grows w todo (Got front rows) = going_grows (s.taken ++ record { window = w; front = front; rows = rows } ∷ []) todo

-- what is asked next in this round, if anything is, comes after the window
abbrev Behind : ℕ → Window → Way → Type 0
Behind round w (Goes t) = (round ≤ t.round) × (t.round ≡ round → FirstComesAfter w t.todo)
Behind round w (Ends outcome) = Unit {0}

first_then : (u v : Window) (todo : List Window) → ComesBefore u v → FirstComesAfter v todo → FirstComesAfter u todo
first_then u v [] before after = tt
first_then u v (w ∷ todo) before after = transitive u v w before after

-- after a window of this round
on_behind : (s : Stage) (u w : Window) (round : ℕ) (way : Way) → s.round ≡ round → ComesBefore u w → Follows s w way → Grows s way → Behind round u way
on_behind s u w round (Ends outcome) same before follows grows = tt
on_behind s u w round (Goes t) same before (inl later) grows = (omega (arith, same, later), λ e. absurd (omega (arith, same, later, e)))
on_behind s u w round (Goes t) same before (inr after) grows = (omega (arith, same, grows), λ e. first_then u w t.todo before after)

-- what follows a window of this round comes after it
now_behind : (s : Stage) (w : Window) (round : ℕ) (way : Way) → s.round ≡ round → Follows s w way → Grows s way → Behind round w way
now_behind s w round (Ends outcome) same follows grows = tt
now_behind s w round (Goes t) same (inl later) grows = (omega (arith, same, later), λ e. absurd (omega (arith, same, later, e)))
now_behind s w round (Goes t) same (inr after) grows = (omega (arith, same, grows), λ e. after)

-- after one of a later round
past_behind : (s : Stage) (u : Window) (round : ℕ) (way : Way) → round < s.round → Grows s way → Behind round u way
past_behind s u round (Ends outcome) later grows = tt
past_behind s u round (Goes t) later grows = (omega (arith, later, grows), λ e. absurd (omega (arith, later, grows, e)))

module _ (whole : Window) (forward : whole.start.micros ≤ℤ whole.end.micros) (round : ℕ) where
  good_next : (s : Stage) (h : Heard) → IsSound whole s → GoodWay whole (after s h)
  good_next s h sound = after_good whole forward s sound h

  follows_now : (s : Stage) (w : Window) (todo : List Window) (h : Heard) → IsSound whole s → s.todo ≡ w ∷ todo → Follows s w (heard_for s w todo h)
  follows_now s w todo h sound first =
      heard_follows s w whole.start.micros whole.end.micros todo h
      (subst (λ (l : List Window). Make whole.start.micros whole.end.micros (windows_of s.taken ++ l)) first sound.1)

  -- all that are asked from here on in the round come after the window
  all_behind : (u : Window) (way : Way) (hs : List Heard) → GoodWay whole way → Behind round u way → AllByRecursion (ComesBefore u) (asked_in round way hs)
  unfolding asked_in
  all_behind u way [] good behind = tt
  all_behind u (Ends outcome) (h ∷ hs) good behind = tt
  all_behind u (Goes s) (h ∷ hs) good behind = by s.todo refl (s.round == round) refl (λ next. all_behind u (after s h) hs (good_next s h good) next)
    where
      by : (todo : List Window) → s.todo ≡ todo → (t : Bool) → (s.round == round) ≡ t → (Behind round u (after s h) → AllByRecursion (ComesBefore u) (asked_in round (after s h) hs))
          → AllByRecursion (ComesBefore u) ((if t then first_of_todo s.todo else []) ++ asked_in round (after s h) hs)
      by [] none true same again = subst (λ (l : List Window). AllByRecursion (ComesBefore u) (first_of_todo l ++ asked_in round (after s h) hs)) (sym none) (again (subst (λ (l : List Window). Behind round u (after_on s l h)) (sym none) behind))
      by [] none false other again = again (subst (λ (l : List Window). Behind round u (after_on s l h)) (sym none) behind)
      by (w ∷ todo) first true same again =
          let here : s.round ≡ round = grind (arith, nat_tests) in
          let before : ComesBefore u w = subst (FirstComesAfter u) first (behind.1 here) in
          let next = on_behind s u w round (heard_for s w todo h) here before (follows_now s w todo h good first) (heard_grows s w todo h) in
          subst (λ (l : List Window). AllByRecursion (ComesBefore u) (first_of_todo l ++ asked_in round (after s h) hs)) (sym first)
          (before, again (subst (λ (l : List Window). Behind round u (after_on s l h)) (sym first) next))
      by (w ∷ todo) first false other again =
          let le = behind.0 in
          let later : round < s.round = grind (arith, nat_tests, le) in
          again (subst (λ (l : List Window). Behind round u (after_on s l h)) (sym first) (past_behind s u round (heard_for s w todo h) later (heard_grows s w todo h)))

  in_order : (way : Way) (hs : List Heard) → GoodWay whole way → InOrder (asked_in round way hs)
  unfolding asked_in
  in_order way [] good = tt
  in_order (Ends outcome) (h ∷ hs) good = tt
  in_order (Goes s) (h ∷ hs) good = by s.todo refl (s.round == round) refl (in_order (after s h) hs (good_next s h good))
    where
      by : (todo : List Window) → s.todo ≡ todo → (t : Bool) → (s.round == round) ≡ t → InOrder (asked_in round (after s h) hs)
          → InOrder ((if t then first_of_todo s.todo else []) ++ asked_in round (after s h) hs)
      by todo is false other again = again
      by [] none true same again = subst (λ (l : List Window). InOrder (first_of_todo l ++ asked_in round (after s h) hs)) (sym none) again
      by (w ∷ todo) first true same again =
          let here : s.round ≡ round = grind (arith, nat_tests) in
          let next = now_behind s w round (heard_for s w todo h) here (follows_now s w todo h good first) (heard_grows s w todo h) in
          subst (λ (l : List Window). InOrder (first_of_todo l ++ asked_in round (after s h) hs)) (sym first)
          (all_behind w (after s h) hs (good_next s h good) (subst (λ (l : List Window). Behind round w (after_on s l h)) (sym first) next), again)

pub each_once : (whole : Window) (heard : List Heard) (round : ℕ) → whole.start.micros ≤ℤ whole.end.micros → InOrder (asked_in round (Goes (begun whole 1)) heard)
each_once whole heard round forward = in_order whole forward round (Goes (begun whole 1)) heard (begun_sound whole forward whole 1 refl)
