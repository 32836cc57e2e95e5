-- Bytes are the items of a session in one way, with one ending.
use Rattle.std.proofs.Common.{◌≡◌, ℕ, ◌+◌, ◌⊎◌, inl, inr, Bool, true, false, List, [], ◌∷◌, refl, sym, ◌∙◌, ap, subst}
use Rattle.std.specs.Prelude.{◌||◌, ◌==◌, MatchBool}
use Rattle.http_wire.specs.Fronts.{front_limit}
use Rattle.http_wire.specs.Heads.{HeadView, closes, interim_of}
use Rattle.http_wire.specs.Items.{EndsAtFront, EndsInBody, body_limit, request_limit}
use Rattle.http_wire.specs.declared.ending.HeadFault.{HeadFault}
use Rattle.http_wire.specs.declared.ending.StreamEnd.{StreamEnd}
use Rattle.http_wire.specs.declared.ending.StreamEnd.TheVariants as end
use Rattle.http_wire.specs.declared.request.Request.{Request}
use Rattle.http_wire.proofs.SameRequest.{same_fields, same_request}
use Rattle.http_wire.proofs.Unique.{one_request, no_request, no_whole_body, not_both, one_end, one_body}
use Rattle.centre_session.specs.Items.{Item, asked, refused, Ending, closing, over, cut, Says, EndsSo, AreItems}

-- ---- requests that say the same are one

says_same : (n : ℕ) (h k : HeadView) (r s : Request) → h ≡ k → r.body ≡ s.body → Says n h r → Says n k s → r ≡ s
says_same n h k r s same body p q =
    same_request r s
    (p.method_is ∙ ap (λ (v : HeadView). v.method) same ∙ sym q.method_is)
    (p.target_is ∙ ap (λ (v : HeadView). v.target) same ∙ sym q.target_is)
    (same_fields r.headers s.headers (p.fields_are ∙ ap (λ (v : HeadView). v.fields) same ∙ sym q.fields_are))
    body
    (p.close_is ∙ ap (λ (v : HeadView). closes v || n + 1 == request_limit) same ∙ sym q.close_is)

-- ---- the ends of a stream

-- the stream ends at its front for this reason, or inside a body, and this is written of it
data Stops (bytes interim : List ℕ) (ending : Ending) : Type 0 where
  at_front : (why : StreamEnd) → EndsAtFront front_limit body_limit bytes why → (why ≡ end.End) × (ending ≡ over) ⊎ (why ≡ end.Cut) × (ending ≡ cut) → interim ≡ [] → Stops bytes interim ending
  in_body : (inside : EndsInBody front_limit body_limit bytes) → ending ≡ cut → interim ≡ interim_of inside.head → Stops bytes interim ending

stops : (bytes interim : List ℕ) (ending : Ending) → EndsSo bytes interim ending → Stops bytes interim ending
stops bytes interim closing so = absurd so
stops bytes interim over so = at_front end.End so.1 (inl (refl, refl)) so.0
stops bytes interim cut (inl so) = at_front end.Cut so.1 (inr (refl, refl)) so.0
stops bytes interim cut (inr so) = in_body so.0 refl so.1

one_stop : (bytes a b : List ℕ) (d e : Ending) → Stops bytes a d → Stops bytes b e → (a ≡ b) × (d ≡ e)
one_stop bytes a b d e (at_front why p (inl x) n) (at_front other q (inl y) m) = (n ∙ sym m, x.1 ∙ sym y.1)
one_stop bytes a b d e (at_front why p (inr x) n) (at_front other q (inr y) m) = (n ∙ sym m, x.1 ∙ sym y.1)
one_stop bytes a b d e (at_front why p (inl x) n) (at_front other q (inr y) m) =
    let bad : (let one : StreamEnd = end.End in one) ≡ end.Cut = sym x.0 ∙ one_end front_limit body_limit bytes why other p q ∙ y.0 in absurd cc
one_stop bytes a b d e (at_front why p (inr x) n) (at_front other q (inl y) m) =
    let bad : (let one : StreamEnd = end.Cut in one) ≡ end.End = sym x.0 ∙ one_end front_limit body_limit bytes why other p q ∙ y.0 in absurd cc
one_stop bytes a b d e (at_front why p x n) (in_body q y m) = absurd (not_both front_limit body_limit bytes why p q)
one_stop bytes a b d e (in_body p x n) (at_front why q y m) = absurd (not_both front_limit body_limit bytes why q p)
one_stop bytes a b d e (in_body p x n) (in_body q y m) = (n ∙ ap interim_of (one_body front_limit body_limit bytes p q) ∙ sym m, x ∙ sym y)

-- a stream that stops has no head that is refused, and no request
no_head : (bytes a : List ℕ) (d : Ending) (f : HeadFault) → Stops bytes a d → EndsAtFront front_limit body_limit bytes (end.Head f) → ⊥
no_head bytes a d f (at_front why p (inl x) n) q = let bad : (let one : StreamEnd = end.End in one) ≡ end.Head f = sym x.0 ∙ one_end front_limit body_limit bytes why (end.Head f) p q in absurd cc
no_head bytes a d f (at_front why p (inr x) n) q = let bad : (let one : StreamEnd = end.Cut in one) ≡ end.Head f = sym x.0 ∙ one_end front_limit body_limit bytes why (end.Head f) p q in absurd cc
no_head bytes a d f (in_body p x n) q = not_both front_limit body_limit bytes (end.Head f) q p

one_fault : (bytes : List ℕ) (f g : HeadFault) → EndsAtFront front_limit body_limit bytes (end.Head f) → EndsAtFront front_limit body_limit bytes (end.Head g) → f ≡ g
one_fault bytes f g p q = let same : (let one : StreamEnd = end.Head f in one) ≡ end.Head g = one_end front_limit body_limit bytes (end.Head f) (end.Head g) p q in cc

-- ---- the items

abbrev Same : List Item → List Item → List ℕ → List ℕ → Ending → Ending → Type 0
Same is js a b d e = (is ≡ js) × (a ≡ b) × (d ≡ e)

-- where two lists have gone on alike, either both close or both go on
goes_on : (t : Bool) (n : ℕ) (x y : List ℕ) (is js : List Item) (a b : List ℕ) (d e : Ending)
    → MatchBool t ((is ≡ []) × (d ≡ closing) × (a ≡ [])) (AreItems n x is a d) → MatchBool t ((js ≡ []) × (e ≡ closing) × (b ≡ [])) (AreItems n y js b e) → x ≡ y
    → (AreItems n x is a d → AreItems n x js b e → Same is js a b d e) → Same is js a b d e
goes_on true n x y is js a b d e p q same step = (p.0 ∙ sym q.0, p.2 ∙ sym q.2, p.1 ∙ sym q.1)
goes_on false n x y is js a b d e p q same step = let P : List ℕ → Type 0 = λ t. AreItems n t js b e in step p (subst P (sym same) q)

-- behind so many items
pub one_list : (n : ℕ) (bytes : List ℕ) (is js : List Item) (a b : List ℕ) (d e : Ending) → AreItems n bytes is a d → AreItems n bytes js b e → Same is js a b d e
one_list n bytes [] [] a b d e p q = let one = one_stop bytes a b d e (stops bytes a d p) (stops bytes b e q) in (refl, one.0, one.1)
one_list n bytes [] (refused f ∷ js) a b d e p (none, closed, quiet, q) = absurd (no_head bytes a d f (stops bytes a d p) q)
one_list n bytes [] (asked h r ∷ js) a b d e p (v, y, split, q, says, more) = absurd (no_more (stops bytes a d p))
  where
    no_more : Stops bytes a d → ⊥
    no_more (at_front why p x m) = no_request front_limit body_limit bytes v y why h r.body p q split
    no_more (in_body p x m) = no_whole_body front_limit body_limit bytes v y h r.body p q split
one_list n bytes (refused f ∷ is) [] a b d e (none, closed, quiet, p) q = absurd (no_head bytes b e f (stops bytes b e q) p)
one_list n bytes (refused f ∷ is) (refused g ∷ js) a b d e (none, closed, quiet, p) (none', closed', quiet', q) =
    let fault : f ≡ g = one_fault bytes f g p q in
    let rest : is ≡ js = none ∙ sym none' in
    (cc, quiet ∙ sym quiet', closed ∙ sym closed')
one_list n bytes (refused f ∷ is) (asked h r ∷ js) a b d e (none, closed, quiet, p) (v, y, split, q, says, more) =
    absurd (no_request front_limit body_limit bytes v y (end.Head f) h r.body p q split)
one_list n bytes (asked h r ∷ is) [] a b d e (u, x, split, p, says, more) q = absurd (no_more (stops bytes b e q))
  where
    no_more : Stops bytes b e → ⊥
    no_more (at_front why q y m) = no_request front_limit body_limit bytes u x why h r.body q p split
    no_more (in_body q y m) = no_whole_body front_limit body_limit bytes u x h r.body q p split
one_list n bytes (asked h r ∷ is) (refused f ∷ js) a b d e (u, x, split, p, says, more) (none, closed, quiet, q) =
    absurd (no_request front_limit body_limit bytes u x (end.Head f) h r.body q p split)
one_list n bytes (asked h r ∷ is) (asked k s ∷ js) a b d e (u, x, split, p, says, more) (v, y, split', q, says', more') =
    let same = one_request front_limit body_limit u v x y h k r.body s.body p q (sym split ∙ split') in
    let request : r ≡ s = says_same n h k r s same.0 same.1 says says' in
    let P : Bool → Type 0 = λ t. MatchBool t ((js ≡ []) × (e ≡ closing) × (b ≡ [])) (AreItems (n + 1) y js b e) in
    let more = goes_on r.close (n + 1) x y is js a b d e more (subst P (sym (ap (λ (t : Request). t.close) request)) more') same.2 (one_list (n + 1) x is js a b d e) in
    let head : h ≡ k = same.0 in
    let rest : is ≡ js = more.0 in
    (cc, more.1, more.2)
