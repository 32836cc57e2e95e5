-- Items one behind another.
use Rattle.std.proofs.Common.{◌≡◌, ◌∙◌, refl, sym, ap, subst, arith, ℕ, ◌+◌, Bool, true, false, MatchBool, List, [], ◌∷◌, ◌++◌, length, append_assoc}
use Rattle.std.proofs.lemmas.List.{append-nil}
use Rattle.http_wire.specs.Fronts.{front_limit}
use Rattle.http_wire.specs.Heads.{HeadView}
use Rattle.http_wire.specs.Items.{IsRequest, EndsAtFront, body_limit}
use Rattle.http_wire.specs.declared.ending.HeadFault.{HeadFault}
use Rattle.http_wire.specs.declared.ending.StreamEnd.TheVariants as end
use Rattle.http_wire.specs.declared.request.Request.{Request}
use Rattle.centre_session.specs.Items.{Item, asked, refused, Ending, closing, Says, EndsSo, AreItems, AreFirst, AreOpen}

assoc4 : (a b c d : List ℕ) → a ≡ b ++ c → a ++ d ≡ b ++ (c ++ d)
assoc4 a b c d is = ap (λ (w : List ℕ). w ++ d) is ∙ append_assoc b c d

when_open : (A : Type 0) {B : Type 0} (b : Bool) → b ≡ false → B → MatchBool b A B
when_open A {B} b is h = subst (λ (x : Bool). MatchBool x A B) (sym is) h

when_closed : {A : Type 0} (B : Type 0) (b : Bool) → b ≡ true → A → MatchBool b A B
when_closed {A} B b is h = subst (λ (x : Bool). MatchBool x A B) (sym is) h

-- the stream ends behind open requests
pub items_end : (before : ℕ) (used v : List ℕ) (items : List Item) (interim : List ℕ) (ending : Ending) → AreOpen before used items → EndsSo v interim ending
    → AreItems before (used ++ v) items interim ending
items_end before used v [] interim ending none e = subst (λ (w : List ℕ). EndsSo (w ++ v) interim ending) (sym none) e
items_end before used v (refused f ∷ items) interim ending none e = absurd none
items_end before used v (asked head r ∷ items) interim ending o e =
    (o.0, o.1 ++ v, assoc4 used o.0 o.1 v o.2, o.3, o.4, when_open _ r.close o.5 (items_end (before + 1) o.1 v items interim ending o.6 e))

-- the bytes behind open requests
pub first_open : (before : ℕ) (used v : List ℕ) (items : List Item) → AreOpen before used items → AreFirst before (used ++ v) items v
first_open before used v [] none = ap (λ (w : List ℕ). w ++ v) none
first_open before used v (refused f ∷ items) none = absurd none
first_open before used v (asked head r ∷ items) o =
    (o.0, o.1 ++ v, assoc4 used o.0 o.1 v o.2, o.3, o.4, when_open _ r.close o.5 (first_open (before + 1) o.1 v items o.6))

-- an open request more
pub open_more : (before : ℕ) (used mine : List ℕ) (items : List Item) (head : HeadView) (r : Request) → AreOpen before used items
    → IsRequest front_limit body_limit mine head r.body → Says (before + length items) head r → r.close ≡ false → AreOpen before (used ++ mine) (items ++ asked head r ∷ [])
open_more before used mine [] head r none is says open_is =
    (mine, [], ap (λ (w : List ℕ). w ++ mine) none ∙ sym (append-nil mine), is, subst (λ (n : ℕ). Says n head r) (omega arith) says, open_is, refl)
open_more before used mine (refused f ∷ items) head r none is says open_is = absurd none
open_more before used mine (asked view q ∷ items) head r o is says open_is =
    (o.0, o.1 ++ mine, assoc4 used o.0 o.1 mine o.2, o.3, o.4, o.5, open_more (before + 1) o.1 mine items head r o.6 is (subst (λ (n : ℕ). Says n head r) (omega arith) says) open_is)

-- a request more that closes
pub items_closing : (before : ℕ) (used mine rest : List ℕ) (items : List Item) (head : HeadView) (r : Request) → AreOpen before used items
    → IsRequest front_limit body_limit mine head r.body → Says (before + length items) head r → r.close ≡ true
    → AreItems before (used ++ (mine ++ rest)) (items ++ asked head r ∷ []) [] closing
items_closing before used mine rest [] head r none is says closes_is =
    (mine, rest, ap (λ (w : List ℕ). w ++ (mine ++ rest)) none, is, subst (λ (n : ℕ). Says n head r) (omega arith) says, when_closed _ r.close closes_is (refl, refl, refl))
items_closing before used mine rest (refused f ∷ items) head r none is says closes_is = absurd none
items_closing before used mine rest (asked view q ∷ items) head r o is says closes_is = (
  o.0,
  o.1 ++ (mine ++ rest),
  assoc4 used o.0 o.1 (mine ++ rest) o.2,
  o.3,
  o.4,
  when_open _ q.close o.5 (items_closing (before + 1) o.1 mine rest items head r o.6 is (subst (λ (n : ℕ). Says n head r) (omega arith) says) closes_is),
)

abbrev no_items : List Item
no_items = []

first_by : (b : Bool) (rest : List ℕ) (before : ℕ) → MatchBool b ((no_items ≡ []) × (rest ≡ rest)) (AreFirst before rest [] rest)
first_by true rest before = (refl, refl)
first_by false rest before = refl

-- a request more, whether it closes or not
pub first_more : (before : ℕ) (used mine rest : List ℕ) (items : List Item) (head : HeadView) (r : Request) → AreOpen before used items
    → IsRequest front_limit body_limit mine head r.body → Says (before + length items) head r
    → AreFirst before (used ++ (mine ++ rest)) (items ++ asked head r ∷ []) rest
first_more before used mine rest [] head r none is says =
    (mine, rest, ap (λ (w : List ℕ). w ++ (mine ++ rest)) none, is, subst (λ (n : ℕ). Says n head r) (omega arith) says, first_by r.close rest (before + 1))
first_more before used mine rest (refused f ∷ items) head r none is says = absurd none
first_more before used mine rest (asked view q ∷ items) head r o is says = (
  o.0,
  o.1 ++ (mine ++ rest),
  assoc4 used o.0 o.1 (mine ++ rest) o.2,
  o.3,
  o.4,
  when_open _ q.close o.5 (first_more (before + 1) o.1 mine rest items head r o.6 is (subst (λ (n : ℕ). Says n head r) (omega arith) says)),
)

-- a head more that is refused
pub items_refused : (before : ℕ) (used v : List ℕ) (items : List Item) (f : HeadFault) → AreOpen before used items → EndsAtFront front_limit body_limit v (end.Head f)
    → AreItems before (used ++ v) (items ++ refused f ∷ []) [] closing
items_refused before used v [] f none e = (refl, refl, refl, subst (λ (w : List ℕ). EndsAtFront front_limit body_limit (w ++ v) (end.Head f)) (sym none) e)
items_refused before used v (refused g ∷ items) f none e = absurd none
items_refused before used v (asked view q ∷ items) f o e =
    (o.0, o.1 ++ v, assoc4 used o.0 o.1 v o.2, o.3, o.4, when_open _ q.close o.5 (items_refused (before + 1) o.1 v items f o.6 e))

pub first_refused : (before : ℕ) (used v : List ℕ) (items : List Item) (f : HeadFault) → AreOpen before used items → EndsAtFront front_limit body_limit v (end.Head f)
    → AreFirst before (used ++ v) (items ++ refused f ∷ []) []
first_refused before used v [] f none e = (refl, refl, subst (λ (w : List ℕ). EndsAtFront front_limit body_limit (w ++ v) (end.Head f)) (sym none) e)
first_refused before used v (refused g ∷ items) f none e = absurd none
first_refused before used v (asked view q ∷ items) f o e =
    (o.0, o.1 ++ v, assoc4 used o.0 o.1 v o.2, o.3, o.4, when_open _ q.close o.5 (first_refused (before + 1) o.1 v items f o.6 e))
