-- One more request, and what was heard: where it leads, which window it is for, and that less is to come.
use Rattle.std.proofs.Common.{◌≡◌, ◌+◌, ◌-◌, ◌*◌, ◌<◌, ℕ, true, false, cond, List, [], ◌∷◌, ◌++◌, None, Some, refl, sym, ap, ◌∙◌, subst, arith, append_assoc, append-nil}
use Rattle.std.specs.Prelude.{nat_lt}
use Rattle.std.proofs.lemmas.Bool.Decides.{nat_tests}
use Rattle.split_fetch.specs.Halves.{left_of, right_of, can_split}
use Rattle.split_fetch.specs.Fronts.{fronts_of, first_move}
use Rattle.split_fetch.specs.Rounds.{Stage, Way, Goes, Ends, begun, next_round, answered, going, heard_for, after_on, after, way_after, first_of_todo, windows_asked}
use Rattle.split_fetch.specs.declared.window.Window.{Window}
use Rattle.split_fetch.specs.declared.heard.Heard.{Heard}
use Rattle.split_fetch.specs.declared.heard.Heard.TheVariants.{Lost, Peer, BadReply, TooMuch, Got}
use Rattle.split_fetch.specs.declared.answer.WindowAnswer.{WindowAnswer}
use Rattle.split_fetch.specs.declared.heard.Outcome.{Outcome}
use Rattle.split_fetch.specs.declared.heard.Outcome.TheVariants.{Lost as LostAtLast, Moved, Requests, Peer as PeerSaid}

same_stage : (t s : Stage) → Goes t ≡ Goes s → t ≡ s
same_stage t s h = (cc)

no_end : (o : Outcome) (s : Stage) → Ends o ≡ Goes s → ⊥
no_end o s h = absurd cc

pub way_more : (way : Way) (hs : List Heard) (h : Heard) (s : Stage) → way_after way hs ≡ Goes s → way_after way (hs ++ h ∷ []) ≡ after s h
unfolding way_after
way_more (Goes t) [] h s e = ap (λ (u : Stage). after u h) (same_stage t s e)
way_more (Goes t) (k ∷ ks) h s e = way_more (after t k) ks h s e
way_more (Ends o) [] h s e = absurd (no_end o s e)
way_more (Ends o) (k ∷ ks) h s e = absurd (no_end o s e)

pub windows_more : (way : Way) (hs : List Heard) (h : Heard) (s : Stage) → way_after way hs ≡ Goes s → windows_asked way (hs ++ h ∷ []) ≡ windows_asked way hs ++ first_of_todo s.todo
unfolding way_after windows_asked
windows_more (Goes t) [] h s e = append-nil (first_of_todo t.todo) ∙ ap (λ (u : Stage). first_of_todo u.todo) (same_stage t s e)
windows_more (Goes t) (k ∷ ks) h s e =
    ap (λ (l : List Window). first_of_todo t.todo ++ l) (windows_more (after t k) ks h s e)
    ∙ sym (append_assoc (first_of_todo t.todo) (windows_asked (after t k) ks) (first_of_todo s.todo))
windows_more (Ends o) [] h s e = absurd (no_end o s e)
windows_more (Ends o) (k ∷ ks) h s e = absurd (no_end o s e)

-- each request leaves less to come
abbrev pub room : Stage → ℕ
room s = (8 - s.round) * 10_000 + (10_000 - s.asked)

abbrev Less : Stage → Way → Type 0
Less s (Goes t) = room t < room s
Less s (Ends o) = Unit {0}

module _ (s : Stage) (few : s.asked < 10_000) where
  next_less : (o : Outcome) → Less s (next_round s o)
  next_less o = elim (nat_lt s.round 8) as (λ b. nat_lt s.round 8 ≡ b → Less s (cond b (Goes (begun s.whole (s.round + 1))) (Ends o))) [
    | true ↦ λ e. (let h : s.round < 8 = grind (arith, nat_tests) in omega (arith, h, few))
    | false ↦ λ _. tt
  ] refl

  going_less : (taken : List WindowAnswer) (todo : List Window) → Less s (going s taken todo)
  going_less taken [] = elim (first_move (fronts_of taken)) as (λ m. Less s (answered s taken m)) [
    | None ↦ tt
    | Some fronts ↦ next_less (Moved fronts.0 fronts.1)
  ]
  going_less taken (w ∷ todo) = elim (nat_lt (s.asked + 1) 10_000) as (λ b. nat_lt (s.asked + 1) 10_000 ≡ b → Less s (cond b (Goes (record { whole = s.whole; round = s.round; asked = s.asked + 1; todo = w ∷ todo; taken = taken })) (Ends Requests))) [
    | true ↦ λ e. (let h : s.asked + 1 < 10_000 = grind (arith, nat_tests) in omega (arith, h))
    | false ↦ λ _. tt
  ] refl

  heard_less : (w : Window) (todo : List Window) (h : Heard) → Less s (heard_for s w todo h)
  heard_less w todo Lost = next_less LostAtLast
  heard_less w todo (Peer status) = tt
  heard_less w todo BadReply = tt
  heard_less w todo TooMuch = elim (can_split w) as (λ b. Less s (cond b (going s s.taken (left_of w ∷ right_of w ∷ todo)) (Ends (PeerSaid 413)))) [
    | true ↦ going_less s.taken (left_of w ∷ right_of w ∷ todo)
    | false ↦ tt
  ]
  heard_less w todo (Got front rows) = going_less (s.taken ++ record { window = w; front = front; rows = rows } ∷ []) todo

  after_less_on : (todo : List Window) (w : Window) (h : Heard) → first_of_todo todo ≡ w ∷ [] → Less s (after_on s todo h)
  after_less_on [] w h e = absurd cc
  after_less_on (v ∷ todo) w h e = heard_less v todo h

  pub after_less : (t : Stage) (w : Window) (h : Heard) → first_of_todo s.todo ≡ w ∷ [] → after s h ≡ Goes t → room t < room s
  after_less t w h e is = subst (Less s) is (after_less_on s.todo w h e)

-- a stage that goes on has a window to ask
abbrev pub HasTodo : Way → Type 0
HasTodo (Goes s) = s.todo ≡ [] → ⊥
HasTodo (Ends o) = Unit {0}

no_window : (w : Window) (todo : List Window) → w ∷ todo ≡ [] → ⊥
no_window w todo e = absurd cc

module _ (s : Stage) where
  next_has : (o : Outcome) → HasTodo (next_round s o)
  next_has o = elim (nat_lt s.round 8) as (λ b. HasTodo (cond b (Goes (begun s.whole (s.round + 1))) (Ends o))) [ true ↦ no_window s.whole [] | false ↦ tt ]

  going_has : (taken : List WindowAnswer) (todo : List Window) → HasTodo (going s taken todo)
  going_has taken [] = elim (first_move (fronts_of taken)) as (λ m. HasTodo (answered s taken m)) [ None ↦ tt | Some fronts ↦ next_has (Moved fronts.0 fronts.1) ]
  going_has taken (w ∷ todo) = elim (nat_lt (s.asked + 1) 10_000) as (λ b. HasTodo (cond b (Goes (record { whole = s.whole; round = s.round; asked = s.asked + 1; todo = w ∷ todo; taken = taken })) (Ends Requests))) [
    | true ↦ no_window w todo
    | false ↦ tt
  ]

  heard_has : (w : Window) (todo : List Window) (h : Heard) → HasTodo (heard_for s w todo h)
  heard_has w todo Lost = next_has LostAtLast
  heard_has w todo (Peer status) = tt
  heard_has w todo BadReply = tt
  heard_has w todo TooMuch = elim (can_split w) as (λ b. HasTodo (cond b (going s s.taken (left_of w ∷ right_of w ∷ todo)) (Ends (PeerSaid 413)))) [
    | true ↦ going_has s.taken (left_of w ∷ right_of w ∷ todo)
    | false ↦ tt
  ]
  heard_has w todo (Got front rows) = going_has (s.taken ++ record { window = w; front = front; rows = rows } ∷ []) todo

  after_has_on : (todo : List Window) (h : Heard) → (todo ≡ [] → ⊥) → HasTodo (after_on s todo h)
  after_has_on [] h has = absurd (has refl)
  after_has_on (w ∷ todo) h has = heard_has w todo h

pub way_has : (way : Way) (hs : List Heard) → HasTodo way → HasTodo (way_after way hs)
unfolding way_after
way_has (Goes s) [] has = has
way_has (Ends o) [] has = has
way_has (Goes s) (h ∷ hs) has = way_has (after s h) hs (after_has_on s s.todo h has)
way_has (Ends o) (h ∷ hs) has = tt

pub begun_has : (w : Window) (n : ℕ) → HasTodo (Goes (begun w n))
begun_has w n = no_window w []
