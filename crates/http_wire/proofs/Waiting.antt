-- Bytes are taken only where no whole item is in hand.
use Rattle.std.proofs.Common.{◌≡◌, ℕ, ◌+◌, ◌-◌, ◌<◌, ◌≤◌, inl, inr, List, [], ◌∷◌, ◌++◌, length, take, drop, refl, sym, ◌∙◌, ap, subst, arith, length-append, length-drop, append-nil, Ok, Result}
use Rattle.std.specs.Prelude.{None, Some}
use Rattle.std.specs.declared.option.Option.{Option}
use Rattle.std.specs.Io.KnownBytes.{Consumes}
use Rattle.http_wire.specs.Blocks.{NoBlock}
use Rattle.http_wire.specs.Fronts.{front_limit, IsFront}
use Rattle.http_wire.specs.Heads.{HeadView, FrontSays, body_length}
use Rattle.http_wire.specs.Items.{IsRequest}
use Rattle.http_wire.specs.Requests.{HoldsItem}
use Rattle.http_wire.specs.Taking.{TookMore, Stays, TakesOnlyIf, IsCutFront, StopsAs, LetGo, Skipped, FrontRead}
use Rattle.http_wire.specs.declared.block.BlockEnd.{BlockEnd}
use Rattle.http_wire.specs.declared.block.BlockEnd.TheVariants.{Block, Ended}
use Rattle.http_wire.specs.declared.ending.StreamEnd.{StreamEnd}
use Rattle.http_wire.specs.declared.front.Front.{Front}
use Rattle.http_wire.proofs.BlockSteps.{no_bytes}
use Rattle.http_wire.proofs.ItemSteps.{says_block}
use Rattle.http_wire.proofs.Unique.{the_front, rests, request_front, one_says}

no_length : (bytes : List ℕ) → length bytes ≡ 0 → bytes ≡ []
no_length [] e = refl
no_length (b ∷ bytes) e = absurd (omega (arith, e))

-- a link that tells has what it had left, so it gave nothing
pub nothing_taken : (left taken : List ℕ) (after : Option (List ℕ)) → Consumes (Some left) after taken → after ≡ Some left → taken ≡ []
nothing_taken left taken after lost is =
    let same : left ≡ taken ++ left = subst (λ (o : Option (List ℕ)). Consumes (Some left) o taken) is lost in
    no_length taken (omega (arith, ap length same, length-append taken left))

pub stays_still : (o : Option (List ℕ)) → Stays o o
stays_still None = tt
stays_still (Some left) = refl

pub stays_then : (a b c : Option (List ℕ)) → Stays a b → Stays b c → Stays a c
stays_then None b c h k = tt
stays_then (Some left) b c h k = subst (λ (o : Option (List ℕ)). Stays o c) h k

-- what was taken so far, and what is held since, were it taken for this lack alone
abbrev Since : (List ℕ → Type 0) → Option (List ℕ) → Option (List ℕ) → List ℕ → Type 0
Since Lack before after old = TakesOnlyIf (Lack old) before after

-- where something is taken behind what was taken so far, the lack is one of what was held at first
pub lacked : (Lack : List ℕ → Type 0) (a b c : Option (List ℕ)) (old mid : List ℕ) → TookMore a b old mid → Since Lack a b old → Lack mid → Since Lack a c old
lacked Lack None b c old mid t w lack = inl tt
lacked Lack (Some left) b c old mid t w lack = elim w [
  | inr before ↦ inr before
  | inl same ↦
      let is : mid ≡ old = t.held ∙ ap (λ (x : List ℕ). old ++ x) (nothing_taken left t.taken b t.lost same) ∙ append-nil old in
      inr (subst Lack is lack)
]

-- a text in which no block ends, with room behind it
pub goes_on : (limit : ℕ) (text : List ℕ) → length text < limit → NoBlock text (length text) → StopsAs limit text Ended
goes_on limit text short none = (short, none)

-- blank bytes alone, with room behind them, are no whole front; nor are they where a text follows in which no block ends
cut_behind : (limit n : ℕ) (left : List ℕ) (b : Option (List ℕ)) (old mid : List ℕ) (g : LetGo (Some left) b old n mid) → b ≡ Some left → old ≡ g.blanks ++ mid
cut_behind limit n left b old mid g same =
    let gone = nothing_taken left g.moved.taken b g.moved.lost same in
    sym (append-nil old) ∙ ap (λ (x : List ℕ). old ++ x) (sym gone) ∙ g.moved.split

-- blank bytes were let go, and where then nothing is held a piece is taken
pub blanks_wait : (limit : ℕ) (a b c : Option (List ℕ)) (old mid : List ℕ) (n : ℕ) → LetGo a b old n mid → n < limit → TakesOnlyIf (IsCutFront limit old) a b
    → TakesOnlyIf (mid ≡ []) b c → TakesOnlyIf (IsCutFront limit old) a c
blanks_wait limit None b c old mid n g lt w v = inl tt
blanks_wait limit (Some left) b c old mid n g lt w v = elim w [
  | inr cut ↦ inr cut
  | inl same ↦ elim v [
    | inl still ↦ inl (stays_then (Some left) b c same still)
    | inr none ↦
        let split : old ≡ g.blanks ++ [] = cut_behind limit n left b old mid g same ∙ ap (λ (x : List ℕ). g.blanks ++ x) none in
        inr ([], record { blanks = g.blanks; split = split; skipped = g.blank; starts = refl; stops = (omega (arith, g.count, lt), no_bytes [], refl) })
  ]
]

-- behind them a block is looked for
pub front_waits : (limit : ℕ) (a b c : Option (List ℕ)) (old mid : List ℕ) (n : ℕ) → Skipped limit a b old n mid → n < limit → TakesOnlyIf (IsCutFront limit old) a b
    → TakesOnlyIf (StopsAs (limit - n) mid Ended) b c → TakesOnlyIf (IsCutFront limit old) a c
front_waits limit None b c old mid n s lt w v = inl tt
front_waits limit (Some left) b c old mid n s lt w v = elim w [
  | inr cut ↦ inr cut
  | inl same ↦ elim v [
    | inl still ↦ inl (stays_then (Some left) b c same still)
    | inr ends ↦
        let g = s.gone in
        let split : old ≡ g.blanks ++ (mid ++ []) = cut_behind limit n left b old mid g same ∙ ap (λ (x : List ℕ). g.blanks ++ x) (sym (append-nil mid)) in
        inr (mid, record { blanks = g.blanks; split = split; skipped = g.blank; starts = s.starts; stops = (omega (arith, g.count, ends.0), ends.1, refl) })
  ]
]

-- a whole item's front isn't cut
not_cut : (most : ℕ) (held : List ℕ) (h : HoldsItem most held) → IsCutFront front_limit held → ⊥
not_cut most held h cut = h.ends_before (the_front front_limit held h.kind Ended h.front cut.0 h.rest [] h.is_front cut.1).0

-- with a whole item in hand the front takes nothing
pub front_stays : (most : ℕ) (a b : Option (List ℕ)) (old : List ℕ) → HoldsItem most old → TakesOnlyIf (IsCutFront front_limit old) a b → Stays a b
front_stays most a b old h w = elim w [ inl same ↦ same | inr cut ↦ absurd (not_cut most old h cut) ]

-- nor does its body
module _ (most : ℕ) (left : List ℕ) (b : Option (List ℕ)) (old mid : List ℕ) (h : HoldsItem most old) (front : Front) (head : HeadView)
    (fr : FrontRead front_limit (Some left) b old mid front) (says : FrontSays most (take front.size mid) front.kind (Ok head)) (same : b ≡ Some left) where
  abbrev f : List ℕ
  f = take front.size mid

  abbrev rest : List ℕ
  rest = drop front.size mid

  is_front : IsFront front_limit old front.kind f rest
  is_front =
      let all : old ++ fr.taken ≡ old = ap (λ (x : List ℕ). old ++ x) (nothing_taken left fr.taken b fr.lost same) ∙ append-nil old in
      subst (λ (x : List ℕ). IsFront front_limit x front.kind f rest) all fr.is_front

  alike : (front.kind ≡ h.kind) × (f ≡ h.front)
  alike = the_front front_limit old front.kind h.kind f h.front rest h.rest is_front h.is_front

  says_there : FrontSays most h.front h.kind (Ok head)
  says_there =
      subst (λ (x : List ℕ). FrontSays most x h.kind (Ok head)) alike.1 (subst (λ (k : BlockEnd). FrontSays most f k (Ok head)) alike.0 says)

  rests_alike : rest ≡ h.rest
  rests_alike =
      let one = says_block most f head front.kind says in
      let other = says_block most h.front head h.kind says_there in
      rests front_limit old one.0 other.0 f h.front rest h.rest
      (subst (λ (k : BlockEnd). IsFront front_limit old k f rest) one.1 is_front)
      (subst (λ (k : BlockEnd). IsFront front_limit old k h.front h.rest) other.1 h.is_front) alike.1

  pub body_is_held : front.size + body_length head.fields ≤ length mid
  body_is_held =
      let body = h.body head says_there in
      omega (arith, body, ap length rests_alike, length-drop front.size mid, fr.within)

pub body_stays : (most : ℕ) (a b c d : Option (List ℕ)) (old mid : List ℕ) (size : ℕ) (h : HoldsItem most old) (front : Front) (head : HeadView)
    → FrontRead front_limit a b old mid front → FrontSays most (take front.size mid) front.kind (Ok head) → TakesOnlyIf (IsCutFront front_limit old) a b → c ≡ b
    → size ≡ front.size + body_length head.fields → TakesOnlyIf (length mid < size) c d → Stays a d
body_stays most None b c d old mid size h front head fr says w kept is v = tt
body_stays most (Some left) b c d old mid size h front head fr says w kept is v =
    let same = front_stays most (Some left) b old h w in
    elim v [
      | inl still ↦ stays_then (Some left) b d same (subst (λ (o : Option (List ℕ)). Stays o d) kept still)
      | inr short ↦ absurd (let held = body_is_held most left b old mid h front head fr says same in omega (arith, held, is, short))
    ]

-- a whole request in hand is a whole item
pub held_request : (most : ℕ) (used behind : List ℕ) (head : HeadView) (body : List ℕ) → IsRequest front_limit most used head body → HoldsItem most (used ++ behind)
held_request most used behind head body p =
    let one = says_block most p.front head p.kind p.says in
    record {
      kind = p.kind;
      front = p.front;
      rest = body ++ behind;
      is_front = request_front front_limit most used behind body head p;
      ends_before = λ is. (let bad : Block one.0 ≡ Ended = sym one.1 ∙ is in absurd cc);
      body = λ other says.
          (let said : (let it : Result HeadView StreamEnd = Ok head in it) ≡ Ok other = one_says most p.front p.kind (Ok head) (Ok other) p.says says in
          let heads : head ≡ other = cc in
          omega (arith, p.size, ap (λ (x : HeadView). body_length x.fields) heads, length-append body behind));
    }
