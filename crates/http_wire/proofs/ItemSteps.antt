-- A front that was read and judged, and the bytes behind it, are the next item.
use Rattle.std.proofs.Common.{◌≡◌, ℕ, ◌+◌, ◌<◌, ◌≤◌, ◌⊎◌, inl, inr, Bool, true, false, List, [], ◌++◌, length, take, drop, refl, sym, ◌∙◌, ap, subst, arith, append_assoc, length-append, length-drop, take-add, append-nil, Result, Ok, Err}
use Rattle.std.specs.declared.option.Option.{Option}
use Rattle.std.specs.Io.KnownBytes.{IsAtEnd}
use Rattle.std.proofs.lemmas.List.{take-append-le, length-take-le, take-append-drop}
use Rattle.streams.specs.Effects.{Grew, WritesPart}
use Rattle.http_wire.specs.Blocks.{IsBlock}
use Rattle.http_wire.specs.Fronts.{front_limit, has_long_target, FrontStops, IsFront}
use Rattle.http_wire.specs.Heads.{HeadView, FrontSays, KindSays, or_ends, body_length, interim_of}
use Rattle.http_wire.specs.HeadReading.{IsWholeBlock, StopsBySaying}
use Rattle.http_wire.specs.Requests.{TellsHead, GivesRequest, IsSpent, StopsAtFront, StopsInBody, ReadsHead, StopsSo, stop_of, EndsSo, told_stop}
use Rattle.http_wire.specs.Taking.{TookMore, AtEndIf, FrontRead}
use Rattle.http_wire.specs.declared.block.BlockEnd.{BlockEnd}
use Rattle.http_wire.specs.declared.block.BlockEnd.TheVariants.{Block, Long, Ended}
use Rattle.http_wire.specs.declared.ending.HeadFault.{HeadFault}
use Rattle.http_wire.specs.declared.ending.StreamEnd.{StreamEnd}
use Rattle.http_wire.specs.declared.ending.StreamEnd.TheVariants as end
use Rattle.http_wire.specs.declared.ending.Stop.{Stop}
use Rattle.http_wire.specs.declared.ending.Stop.TheVariants as stop
use Rattle.http_wire.specs.declared.front.Front.{Front}
use Rattle.http_wire.specs.declared.request.Request.{Request}
use Rattle.http_wire.specs.declared.taking.TakeStop.{TakeStop}
use Rattle.http_wire.specs.declared.taking.TakeStop.TheVariants as from
use Rattle.streams.proofs.Grows.{Consumes-then}

pub two_ways : (b : Bool) → (b ≡ true) ⊎ (b ≡ false)
two_ways true = inl refl
two_ways false = inr refl

abbrev IsOneBlock : BlockEnd → Type 0
IsOneBlock kind = (n : ℕ) × (kind ≡ Block n)

by_kind : (most : ℕ) (front : List ℕ) (head : HeadView) (kind : BlockEnd) → KindSays most front kind (Ok head) → IsOneBlock kind
by_kind most front head (Block n) says = (n, refl)
by_kind most front head Long says = absurd cc
by_kind most front head Ended says = absurd cc

-- only a front that is a block says a head
pub says_block : (most : ℕ) (front : List ℕ) (head : HeadView) (kind : BlockEnd) → FrontSays most front kind (Ok head) → IsOneBlock kind
says_block most front head kind says = elim (two_ways (has_long_target front)) [
  | inl long ↦ (let bad = says.long long in absurd cc)
  | inr other ↦ by_kind most front head kind (says.other other)
]

-- a front that is a block is one from its first byte to its last
pub whole_front : (limit n : ℕ) (front rest : List ℕ) (kind : BlockEnd) → FrontStops limit n front rest kind → IsWholeBlock kind front
whole_front limit n front rest (Block m) (block, size, within) = subst (λ (k : ℕ). IsBlock front k) size block
whole_front limit n front rest Long stops = tt
whole_front limit n front rest Ended stops = tt

abbrev IsFault : StreamEnd → Type 0
IsFault (end.Head fault) = Unit {0}
IsFault _ = ⊥

fault_said : (why : StreamEnd) (said : Result HeadView HeadFault) → Err why ≡ or_ends said → IsFault why
fault_said (end.Head fault) said e = tt
fault_said end.End (Ok head) e = absurd cc
fault_said end.End (Err fault) e = absurd cc
fault_said end.Cut (Ok head) e = absurd cc
fault_said end.Cut (Err fault) e = absurd cc

spent_fault : (after : Option (List ℕ)) (why : StreamEnd) → IsFault why → IsSpent after why
spent_fault after (end.Head fault) is = tt
spent_fault after end.End is = absurd is
spent_fault after end.Cut is = absurd is

fault_is : (why : StreamEnd) (fault : HeadFault) → (let one : Result HeadView StreamEnd = Err why in one) ≡ Err (end.Head fault) → IsFault why
fault_is (end.Head other) fault e = tt
fault_is end.End fault e = absurd cc
fault_is end.Cut fault e = absurd cc

at_end : (after : Option (List ℕ)) (why : StreamEnd) → IsAtEnd after → IsSpent after why
at_end after (end.Head fault) done = tt
at_end after end.End done = done
at_end after end.Cut done = done

spent_kind : (most : ℕ) (front : List ℕ) (after : Option (List ℕ)) (why : StreamEnd) (kind : BlockEnd) → KindSays most front kind (Err why) → AtEndIf after kind → IsSpent after why
spent_kind most front after why (Block n) (said, block, is) done = spent_fault after why (fault_said why said is)
spent_kind most front after why Long is done = spent_fault after why (fault_is why _ is)
spent_kind most front after why Ended is done = at_end after why done

-- where the input's end is the answer, nothing is left
spent : (most : ℕ) (front : List ℕ) (after : Option (List ℕ)) (why : StreamEnd) (kind : BlockEnd) → FrontSays most front kind (Err why) → AtEndIf after kind → IsSpent after why
spent most front after why kind says done = elim (two_ways (has_long_target front)) [
  | inl long ↦ spent_fault after why (fault_is why _ (says.long long))
  | inr other ↦ spent_kind most front after why kind (says.other other) done
]

-- what follows a block changes nothing of it
pub front_with : (limit : ℕ) (bytes front rest body : List ℕ) (n : ℕ) (f : IsFront limit bytes (Block n) front rest) → IsFront limit (f.blanks ++ (front ++ body)) (Block n) front body
front_with limit bytes front rest body n f = record { blanks = f.blanks; split = refl; skipped = f.skipped; starts = f.starts; stops = f.stops }

-- what is held after a front and more
rest_on : (mid more new : List ℕ) (n : ℕ) → n ≤ length mid → new ≡ mid ++ more → take n mid ++ (drop n mid ++ more) ≡ new
rest_on mid more new n le e = sym (append_assoc (take n mid) (drop n mid) more) ∙ ap (λ x. x ++ more) (take-append-drop n mid) ∙ sym e

-- the next item is a request
pub gives : (most : ℕ) (a b c : Option (List ℕ)) (old mid held new : List ℕ) (o p : Option (List ℕ)) (front : Front) (head : HeadView) (request : Request)
    → FrontRead front_limit a b old mid front → FrontSays most (take front.size mid) front.kind (Ok head) → TookMore b c mid held
    → front.size + body_length head.fields ≤ length held → request.body ≡ take (body_length head.fields) (drop front.size held)
    → new ≡ drop (front.size + body_length head.fields) held → TellsHead request head → Grew o p (interim_of head)
    → GivesRequest most a c old new o p request
gives most a b c old mid held new o p front head request fr says t le is rest tells wrote =
    let k = says_block most (take front.size mid) head front.kind says in
    let n = k.0 in
    let size = body_length head.fields in
    let f = take front.size mid in
    let body = request.body in
    let P : BlockEnd → Type 0 = λ x. IsFront front_limit (old ++ fr.taken) x f (drop front.size mid) in
    let Q : BlockEnd → Type 0 = λ x. FrontSays most f x (Ok head) in
    let isf : IsFront front_limit (old ++ fr.taken) (Block n) f (drop front.size mid) = subst P k.1 fr.is_front in
    let at : take front.size held ≡ f = ap (take front.size) t.held ∙ take-append-le front.size mid t.taken fr.within in
    let joined : f ++ body ≡ take (front.size + size) held = ap (λ x. x ++ body) (sym at) ∙ ap (λ x. take front.size held ++ x) is ∙ sym (take-add front.size size held) in
    let whole : (f ++ body) ++ new ≡ held = ap (λ x. x ++ new) joined ∙ ap (λ x. take (front.size + size) held ++ x) rest ∙ take-append-drop (front.size + size) held in
    record {
      used = isf.blanks ++ (f ++ body);
      moved = record {
        taken = fr.taken ++ t.taken;
        lost = Consumes-then a b c fr.taken t.taken fr.lost t.lost;
        split = sym (append_assoc old fr.taken t.taken) ∙ ap (λ x. x ++ t.taken) isf.split ∙ append_assoc isf.blanks (f ++ drop front.size mid) t.taken
            ∙ ap (λ x. isf.blanks ++ x) (append_assoc f (drop front.size mid) t.taken ∙ rest_on mid t.taken held front.size fr.within t.held ∙ sym whole)
            ∙ sym (append_assoc isf.blanks (f ++ body) new);
      };
      head = head;
      item = record {
        kind = Block n;
        front = f;
        is_front = front_with front_limit (old ++ fr.taken) f (drop front.size mid) body n isf;
        says = subst Q k.1 says;
        size = ap length is ∙ length-take-le size (drop front.size held) (omega (arith, length-drop front.size held));
      };
      tells = tells;
      wrote = wrote;
    }

-- the input ends in a body
pub cuts : (most : ℕ) (a b c : Option (List ℕ)) (old mid held : List ℕ) (o p : Option (List ℕ)) (front : Front) (head : HeadView)
    → FrontRead front_limit a b old mid front → FrontSays most (take front.size mid) front.kind (Ok head) → TookMore b c mid held
    → length held < front.size + body_length head.fields → IsAtEnd c → Grew o p (interim_of head) → StopsInBody most a c old o p
cuts most a b c old mid held o p front head fr says t short done wrote =
    let k = says_block most (take front.size mid) head front.kind says in
    let f = take front.size mid in
    let part = drop front.size mid ++ t.taken in
    let P : BlockEnd → Type 0 = λ x. IsFront front_limit (old ++ fr.taken) x f (drop front.size mid) in
    let Q : BlockEnd → Type 0 = λ x. FrontSays most f x (Ok head) in
    let isf : IsFront front_limit (old ++ fr.taken) (Block k.0) f (drop front.size mid) = subst P k.1 fr.is_front in
    let whole = ap length (rest_on mid t.taken held front.size fr.within t.held) in
    record {
      taken = fr.taken ++ t.taken;
      lost = Consumes-then a b c fr.taken t.taken fr.lost t.lost;
      item = record {
        kind = Block k.0;
        front = f;
        part = part;
        head = head;
        is_front = record {
          blanks = isf.blanks;
          split = sym (append_assoc old fr.taken t.taken) ∙ ap (λ x. x ++ t.taken) isf.split ∙ append_assoc isf.blanks (f ++ drop front.size mid) t.taken
              ∙ ap (λ x. isf.blanks ++ x) (append_assoc f (drop front.size mid) t.taken);
          skipped = isf.skipped;
          starts = isf.starts;
          stops = isf.stops;
        };
        says = subst Q k.1 says;
        short = omega (arith, whole, length-append f part, length-take-le front.size mid fr.within, short);
      };
      spent = done;
      wrote = wrote;
    }

-- the stream ends at a front
refuses : (most : ℕ) (a b : Option (List ℕ)) (old mid : List ℕ) (o p : Option (List ℕ)) (front : Front) (why : StreamEnd) → FrontRead front_limit a b old mid front
    → FrontSays most (take front.size mid) front.kind (Err why) → AtEndIf b front.kind → p ≡ o → StopsAtFront most a b old o p why
refuses most a b old mid o p front why fr says done quiet = record {
  taken = fr.taken;
  lost = fr.lost;
  item = record { kind = front.kind; front = take front.size mid; rest = drop front.size mid; is_front = fr.is_front; says = says };
  at_end = done;
  spent = spent most (take front.size mid) b why front.kind says done;
  quiet = quiet;
}

-- reading stops as a front says
pub stops : (most : ℕ) (a b : Option (List ℕ)) (old mid : List ℕ) (o p : Option (List ℕ)) (front : Front) (why : Stop) → FrontRead front_limit a b old mid front
    → StopsBySaying most (take front.size mid) front.kind why → AtEndIf b front.kind → p ≡ o → StopsSo most a b old o p why
stops most a b old mid o p front (stop.Ended why) fr says done quiet = refuses most a b old mid o p front why fr says done quiet
stops most a b old mid o p front stop.BodyCut fr says done quiet = absurd says
stops most a b old mid o p front stop.LinkFault fr says done quiet = absurd says
stops most a b old mid o p front stop.OutOfMemory fr says done quiet = inl quiet

-- reading stops before a head was read
pub stops_early : (most : ℕ) (a b : Option (List ℕ)) (old : List ℕ) (o p : Option (List ℕ)) (why : TakeStop) → p ≡ o → StopsSo most a b old o p (stop_of why)
stops_early most a b old o p from.LinkFault quiet = inl quiet
stops_early most a b old o p from.OutOfMemory quiet = inl quiet

-- a head was read
pub reads_head : (most : ℕ) (a b : Option (List ℕ)) (old mid : List ℕ) (front : Front) (head : HeadView) → FrontRead front_limit a b old mid front
    → FrontSays most (take front.size mid) front.kind (Ok head) → ReadsHead most a old head
reads_head most a b old mid front head fr says = record {
  taken = fr.taken;
  later = b;
  lost = fr.lost;
  kind = front.kind;
  front = take front.size mid;
  rest = drop front.size mid;
  is_front = fr.is_front;
  says = says;
}

whole_part : (o p : Option (List ℕ)) (text : List ℕ) → Grew o p text → WritesPart o p text
whole_part o p text wrote = record { part = text; rest = []; split = sym (append-nil text); output = wrote }

-- reading stops after one, and what it asks for was written
pub stops_late : (most : ℕ) (a c : Option (List ℕ)) (old : List ℕ) (o p : Option (List ℕ)) (head : HeadView) (why : TakeStop) → ReadsHead most a old head
    → Grew o p (interim_of head) → StopsSo most a c old o p (stop_of why)
stops_late most a c old o p head from.LinkFault reads wrote = inr (head, reads, whole_part o p (interim_of head) wrote)
stops_late most a c old o p head from.OutOfMemory reads wrote = inr (head, reads, wrote)

-- no front says that the link failed
pub no_fault_said : (most : ℕ) (front : List ℕ) (kind : BlockEnd) (why : Stop) → StopsBySaying most front kind why → why ≡ stop.LinkFault → ⊥
no_fault_said most front kind why says e = let P : Stop → Type 0 = λ s. StopsBySaying most front kind s in subst P e says

-- the same, as it is told
pub told : (most : ℕ) (a b : Option (List ℕ)) (old : List ℕ) (o p : Option (List ℕ)) (why : Stop) → StopsSo most a b old o p why → EndsSo most a b old o p (told_stop why)
told most a b old o p (stop.Ended end.End) s = s
told most a b old o p (stop.Ended end.Cut) s = inl s
told most a b old o p (stop.Ended (end.Head fault)) s = s
told most a b old o p stop.BodyCut s = inr s
told most a b old o p stop.LinkFault s = s
told most a b old o p stop.OutOfMemory s = s
