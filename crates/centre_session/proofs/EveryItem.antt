-- Whatever the bytes, they are the items of a session.
use Rattle.std.proofs.Common.{◌≡◌, ◌∙◌, inl, inr, ℕ, zero, suc, ◌+◌, ◌≤◌, Bool, true, false, List, [], ◌∷◌, ◌++◌, length, take, drop, append_assoc, true≢false, refl, sym, ap, subst, arith, Result, Ok, Err}
use Rattle.std.specs.Prelude.{◌||◌, ◌==◌, MatchBool}
use Rattle.std.proofs.lemmas.Bool.{cases_lt, eq-eqb}
use Rattle.std.proofs.lemmas.List.{take-append-drop, length-take-le}
use Rattle.http_wire.specs.Fronts.{front_limit, IsFront}
use Rattle.http_wire.specs.Heads.{HeadView, FrontSays, body_length, closes, interim_of}
use Rattle.http_wire.specs.Items.{IsRequest, body_limit, request_limit}
use Rattle.http_wire.specs.declared.block.BlockEnd.{BlockEnd}
use Rattle.http_wire.specs.declared.block.BlockEnd.TheVariants.{Block}
use Rattle.http_wire.specs.declared.ending.StreamEnd.{StreamEnd}
use Rattle.http_wire.specs.declared.ending.StreamEnd.TheVariants as end
use Rattle.http_wire.specs.declared.request.Request.{Request}
use Rattle.http_wire.proofs.EveryFront.{every_front, every_front_says, parts_of}
use Rattle.http_wire.proofs.ItemSteps.{says_block, front_with}
use Rattle.centre_session.specs.Items.{Item, asked, refused, Ending, closing, over, cut, Says, AreItems}
use Rattle.centre_session.specs.Laws.{SomeListOfItems}

abbrev SomeItems : ℕ → List ℕ → Type 0
SomeItems n bytes = (items : List Item) × (interim : List ℕ) × (ending : Ending) × AreItems n bytes items interim ending

-- a request with this head and this body, behind so many items
abbrev SomeRequest : ℕ → HeadView → List ℕ → Type 0
SomeRequest n head body = (r : Request) × (r.body ≡ body) × Says n head r

some_request : (n : ℕ) (front : List ℕ) (kind : BlockEnd) (head : HeadView) (body : List ℕ) → FrontSays body_limit front kind (Ok head) → SomeRequest n head body
some_request n front kind head body says =
    let parts = parts_of body_limit front head kind says in
    let request : Request = record {
      method = head.method;
      target = head.target;
      headers = parts.fields;
      body = body;
      close = closes head || n + 1 == request_limit;
      method_is = parts.method_is;
      target_is = parts.target_is;
    } in
    (request, refl, record { method_is = refl; target_is = refl; fields_are = parts.fields_are; close_is = refl })

-- a front that says a head, and the body behind it, are a request, and what follows is the rest
whole_request : (bytes : List ℕ) (kind : BlockEnd) (front rest : List ℕ) (head : HeadView) → IsFront front_limit bytes kind front rest → FrontSays body_limit front kind (Ok head)
    → body_length head.fields ≤ length rest
    → (used : List ℕ) × (bytes ≡ used ++ drop (body_length head.fields) rest) × IsRequest front_limit body_limit used head (take (body_length head.fields) rest)
whole_request bytes kind front rest head is says le =
    let size = body_length head.fields in
    let block = says_block body_limit front head kind says in
    let one : IsFront front_limit bytes (Block block.0) front rest = subst (λ (k : BlockEnd). IsFront front_limit bytes k front rest) block.1 is in
    let same : bytes ≡ (one.blanks ++ (front ++ take size rest)) ++ drop size rest =
    one.split ∙ ap (λ (t : List ℕ). one.blanks ++ (front ++ t)) (sym (take-append-drop size rest)) ∙ ap (λ (t : List ℕ). one.blanks ++ t) (sym (append_assoc front (take size rest) (drop size rest)))
    ∙ sym (append_assoc one.blanks (front ++ take size rest) (drop size rest)) in (
      one.blanks ++ (front ++ take size rest),
      same,
      record {
        kind = Block block.0;
        front = front;
        is_front = front_with front_limit bytes front rest (take size rest) block.0 one;
        says = subst (λ (k : BlockEnd). FrontSays body_limit front k (Ok head)) block.1 says;
        size = length-take-le size rest le;
      },
    )

-- the stream ends at its front
at_front : (n : ℕ) (bytes : List ℕ) (kind : BlockEnd) (front rest : List ℕ) (why : StreamEnd) → IsFront front_limit bytes kind front rest → FrontSays body_limit front kind (Err why) → SomeItems n bytes
at_front n bytes kind front rest end.End is says = ([], [], over, (refl, record { kind = kind; front = front; rest = rest; is_front = is; says = says }))
at_front n bytes kind front rest end.Cut is says = ([], [], cut, inl (refl, record { kind = kind; front = front; rest = rest; is_front = is; says = says }))
at_front n bytes kind front rest (end.Head f) is says = (refused f ∷ [], [], closing, (refl, refl, refl, record { kind = kind; front = front; rest = rest; is_front = is; says = says }))

-- a request goes on with the items behind it, unless it closes
goes_on : (n : ℕ) (bytes used rest : List ℕ) (head : HeadView) (r : Request) → bytes ≡ used ++ rest → IsRequest front_limit body_limit used head r.body → Says n head r
    → (b : Bool) → r.close ≡ b → (b ≡ false → SomeItems (n + 1) rest) → SomeItems n bytes
goes_on n bytes used rest head r split is says true closed more =
    let behind : MatchBool r.close (([] ≡ []) × (closing ≡ closing) × ([] ≡ [])) (AreItems (n + 1) rest [] [] closing) =
    subst (λ (b : Bool). MatchBool b (◌≡◌ {A = List Item} [] [] × (closing ≡ closing) × (◌≡◌ {A = List ℕ} [] [])) (AreItems (n + 1) rest [] [] closing)) (sym closed) (refl, refl, refl) in
    (asked head r ∷ [], [], closing, (used, rest, split, is, says, behind))
goes_on n bytes used rest head r split is says false is_open more =
    let found = more refl in
    let behind = subst (λ (b : Bool). MatchBool b ((found.0 ≡ []) × (found.2 ≡ closing) × (found.1 ≡ [])) (AreItems (n + 1) rest found.0 found.1 found.2)) (sym is_open) found.3 in
    (asked head r ∷ found.0, found.1, found.2, (used, rest, split, is, says, behind))

-- what may follow a request that doesn't close
abbrev Behind : ℕ → Type 0
Behind n = (t : Bool) → (t || n + 1 == request_limit) ≡ false → (text : List ℕ) → SomeItems (n + 1) text

one_item : (n : ℕ) (bytes : List ℕ) → Behind n → SomeItems n bytes
one_item n bytes more =
    let f = every_front front_limit bytes in
    let said = every_front_says body_limit f.1 f.0 in
    by f.0 f.1 f.2 f.3 said.0 said.1
  where
    by : (kind : BlockEnd) (front rest : List ℕ) → IsFront front_limit bytes kind front rest → (says : Result HeadView StreamEnd) → FrontSays body_limit front kind says → SomeItems n bytes
    by kind front rest is (Err why) says = at_front n bytes kind front rest why is says
    by kind front rest is (Ok head) says = elim (cases_lt (length rest) (body_length head.fields)) [
      | inl short ↦ ([], interim_of head, cut, inr (record { kind = kind; front = front; part = rest; head = head; is_front = is; says = says; short = short }, refl))
      | inr le ↦
          let whole = whole_request bytes kind front rest head is says le in
          let request = some_request n front kind head (take (body_length head.fields) rest) says in
          let r = request.0 in
          let item = subst (λ (b : List ℕ). IsRequest front_limit body_limit whole.0 head b) (sym request.1) whole.2 in
          goes_on n bytes whole.0 (drop (body_length head.fields) rest) head r whole.1 item request.2 r.close refl
          (λ is_open. more (closes head) (sym request.2.close_is ∙ is_open) (drop (body_length head.fields) rest))
    ]

last_closes : (n : ℕ) (t : Bool) → n + 1 ≡ request_limit → (t || n + 1 == request_limit) ≡ false → ⊥
last_closes n true e is_open = true≢false is_open
last_closes n false e is_open = true≢false (sym (eq-eqb (n + 1) request_limit e) ∙ is_open)

-- behind n items there are at most k + 1 more
items_from : (k n : ℕ) → n + k + 1 ≡ request_limit → (bytes : List ℕ) → SomeItems n bytes
items_from zero n e bytes = one_item n bytes (λ t is_open text. absurd (last_closes n t (omega (arith, e)) is_open))
items_from (suc k) n e bytes = one_item n bytes (λ t is_open text. items_from k (n + 1) (omega (arith, e)) text)

pub some_list : SomeListOfItems
some_list bytes = items_from 999 0 refl bytes
