-- The windows of a round make the whole at each moment.
use Rattle.std.proofs.Common.{◌≡◌, ◌+◌, ◌/◌, ◌<◌, ℕ, ℤ, pos, ◌+ℤ◌, ◌-ℤ◌, ◌≤ℤ◌, ◌<ℤ◌, negsuc, true, false, cond, List, [], ◌∷◌, ◌++◌, None, Some, refl, sym, ap, ◌∙◌, subst, arith, append_assoc, append-nil}
use Rattle.std.specs.Prelude.{nat_lt}
use Rattle.std.specs.Int.{int_gap}
use Rattle.std.proofs.lemmas.Int.{ints}
use Rattle.std.proofs.lemmas.List.{map-append}
use Rattle.split_fetch.specs.Halves.{middle_of, left_of, right_of, can_split}
use Rattle.split_fetch.specs.Windows.{Make, windows_of}
use Rattle.split_fetch.specs.Fronts.{fronts_of, first_move}
use Rattle.split_fetch.specs.Rounds.{Stage, Way, Goes, Ends, begun, next_round, answered, going, heard_for, after_on, after, way_after}
use Rattle.split_fetch.specs.declared.window.Window.{Window}
use Rattle.split_fetch.specs.declared.heard.Heard.{Heard}
use Rattle.split_fetch.specs.declared.heard.Heard.TheVariants.{Lost, Peer, BadReply, TooMuch, Got}
use Rattle.split_fetch.specs.declared.answer.WindowAnswer.{WindowAnswer}
use Rattle.split_fetch.specs.declared.heard.Outcome.{Outcome}
use Rattle.split_fetch.specs.declared.heard.Outcome.TheVariants.{Done, Lost as LostAtLast, Moved, Requests, Peer as PeerSaid, BadReply as BadAtLast}

gap_is : (a b : ℤ) → a ≤ℤ b → pos (int_gap a b) ≡ b -ℤ a
gap_is (pos a) (pos b) h = omega (arith, ints)
gap_is (pos a) (negsuc b) h = absurd (omega (arith, ints, h))
gap_is (negsuc a) (pos b) h = omega (arith, ints)
gap_is (negsuc a) (negsuc b) h = omega (arith, ints)

half_less : (n : ℕ) → 0 < n → n / 2 < n
half_less n h = omega (arith, h)

inside : (a b : ℤ) (n : ℕ) → pos n ≡ b -ℤ a → a <ℤ b → (a ≤ℤ (a +ℤ pos (n / 2))) × ((a +ℤ pos (n / 2)) <ℤ b)
inside a b n e h =
    let some : 0 < n = omega (arith, ints, e, h) in
    let less = half_less n some in
    (omega (arith, ints), omega (arith, ints, e, less))

pub middle_inside : (w : Window) → w.start.micros <ℤ w.end.micros → (w.start.micros ≤ℤ middle_of w) × (middle_of w <ℤ w.end.micros)
middle_inside w h = inside w.start.micros w.end.micros (int_gap w.start.micros w.end.micros) (gap_is w.start.micros w.end.micros (omega (arith, ints, h))) h

-- a window in its halves
halves : (from to : ℤ) (us : List Window) (w : Window) (vs : List Window) → w.start.micros <ℤ w.end.micros → Make from to (us ++ w ∷ vs) → Make from to (us ++ left_of w ∷ right_of w ∷ vs)
halves from to [] w vs some make =
    let m = middle_inside w some in
    let begins = make.0 in
    let low = m.0 in
    let high = m.1 in
    (begins, omega (arith, ints, begins, low), (refl, omega (arith, ints, high), make.2))
halves from to (u ∷ us) w vs some make = (make.0, make.1, halves (u.end.micros +ℤ pos 1) to us w vs some make.2)

abbrev pub IsSound : Window → Stage → Type 0
IsSound w s = (s.whole ≡ w) × Make w.start.micros w.end.micros (windows_of s.taken ++ s.todo)

abbrev pub GoodEnd : Window → Outcome → Type 0
GoodEnd w (Done taken) = Make w.start.micros w.end.micros (windows_of taken) × (first_move (fronts_of taken) ≡ None)
GoodEnd w LostAtLast = Unit {0}
GoodEnd w (Moved a b) = Unit {0}
GoodEnd w Requests = Unit {0}
GoodEnd w (PeerSaid status) = Unit {0}
GoodEnd w BadAtLast = Unit {0}

abbrev pub GoodWay : Window → Way → Type 0
GoodWay w (Goes s) = IsSound w s
GoodWay w (Ends o) = GoodEnd w o

module _ (whole : Window) (forward : whole.start.micros ≤ℤ whole.end.micros) where
  pub begun_sound : (w : Window) (round : ℕ) → w ≡ whole → IsSound whole (begun w round)
  begun_sound w round same = (same, (ap (λ (v : Window). v.start.micros) same, subst (λ (v : Window). whole.start.micros ≤ℤ v.end.micros) (sym same) forward, ap (λ (v : Window). v.end.micros +ℤ pos 1) same))

  module _ (s : Stage) (sound : IsSound whole s) where
    next_good : (o : Outcome) → GoodEnd whole o → GoodWay whole (next_round s o)
    next_good o good = elim (nat_lt s.round 8) as (λ b. GoodWay whole (cond b (Goes (begun s.whole (s.round + 1))) (Ends o))) [
      | true ↦ begun_sound s.whole (s.round + 1) sound.0
      | false ↦ good
    ]

    going_good : (taken : List WindowAnswer) (todo : List Window) → Make whole.start.micros whole.end.micros (windows_of taken ++ todo) → GoodWay whole (going s taken todo)
    going_good taken [] make = elim (first_move (fronts_of taken)) as (λ m. first_move (fronts_of taken) ≡ m → GoodWay whole (answered s taken m)) [
      | None ↦ λ e. (subst (Make whole.start.micros whole.end.micros) (append-nil (windows_of taken)) make, e)
      | Some fronts ↦ λ _. next_good (Moved fronts.0 fronts.1) tt
    ] refl
    going_good taken (w ∷ todo) make = elim (nat_lt (s.asked + 1) 10_000) as (λ b. GoodWay whole (cond b (Goes (record { whole = s.whole; round = s.round; asked = s.asked + 1; todo = w ∷ todo; taken = taken })) (Ends Requests))) [
      | true ↦ (sound.0, make)
      | false ↦ tt
    ]

    heard_good : (w : Window) (todo : List Window) (h : Heard) → Make whole.start.micros whole.end.micros (windows_of s.taken ++ w ∷ todo) → GoodWay whole (heard_for s w todo h)
    heard_good w todo Lost make = next_good LostAtLast tt
    heard_good w todo (Peer status) make = tt
    heard_good w todo BadReply make = tt
    heard_good w todo TooMuch make = elim (can_split w) as (λ b. can_split w ≡ b → GoodWay whole (cond b (going s s.taken (left_of w ∷ right_of w ∷ todo)) (Ends (PeerSaid 413)))) [
      | true ↦ λ e. going_good s.taken (left_of w ∷ right_of w ∷ todo) (halves whole.start.micros whole.end.micros (windows_of s.taken) w todo (grind (arith, ints, e)) make)
      | false ↦ λ _. tt
    ] refl
    heard_good w todo (Got front rows) make =
        let one : List WindowAnswer = record { window = w; front = front; rows = rows } ∷ [] in
        let same : windows_of (s.taken ++ one) ++ todo ≡ windows_of s.taken ++ w ∷ todo =
        ap (λ (l : List Window). l ++ todo) (map-append (λ (t : WindowAnswer). t.window) s.taken one) ∙ append_assoc (windows_of s.taken) (w ∷ []) todo in
        going_good (s.taken ++ one) todo (subst (Make whole.start.micros whole.end.micros) (sym same) make)

    after_good_on : (todo : List Window) (h : Heard) → s.todo ≡ todo → GoodWay whole (after_on s todo h)
    after_good_on [] h e = sound
    after_good_on (w ∷ todo) h e = heard_good w todo h (subst (λ (l : List Window). Make whole.start.micros whole.end.micros (windows_of s.taken ++ l)) e sound.1)

    pub after_good : (h : Heard) → GoodWay whole (after s h)
    after_good h = after_good_on s.todo h refl

  pub way_good : (way : Way) (hs : List Heard) → GoodWay whole way → GoodWay whole (way_after way hs)
  unfolding way_after
  way_good (Goes s) [] good = good
  way_good (Ends o) [] good = good
  way_good (Goes s) (h ∷ hs) good = way_good (after s h) hs (after_good s good h)
  way_good (Ends o) (h ∷ hs) good = good

  -- the accepted windows make the whole, and their fronts are equal
  pub accepted : (hs : List Heard) (taken : List WindowAnswer) → way_after (Goes (begun whole 1)) hs ≡ Ends (Done taken) → Make whole.start.micros whole.end.micros (windows_of taken) × (first_move (fronts_of taken) ≡ None)
  accepted hs taken is = subst (GoodWay whole) is (way_good (Goes (begun whole 1)) hs (begun_sound whole 1 refl))
