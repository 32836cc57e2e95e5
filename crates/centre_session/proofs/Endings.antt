-- A session so far, and how it ends.
use Rattle.std.proofs.Common.{◌≡◌, ◌∙◌, refl, sym, ap, subst, arith, inl, inr, ⊎_elim, ℕ, ◌+◌, ◌≤◌, true, false, List, [], ◌∷◌, ◌++◌, length, append_assoc, Option, None, Some, Result, Ok, Err}
use Rattle.std.proofs.lemmas.List.{append-nil, map-append}
use Rattle.std.specs.Io.KnownBytes.{Consumes}
use Rattle.exact_time.specs.Causes.{Rose}
use Rattle.exact_time.specs.declared.moment.Moment.{Moment}
use Rattle.desk_words.specs.Setting.{Setting}
use Rattle.desk_words.specs.Stand.{Stand}
use Rattle.http_replies.specs.Replies.{reply_bytes}
use Rattle.http_replies.specs.declared.reply.Reply.{Reply}
use Rattle.http_replies.specs.declared.writing.LinkFault.{LinkFault as WriteFault}
use Rattle.http_wire.specs.Fronts.{front_limit}
use Rattle.http_wire.specs.Heads.{HeadView, interim_of}
use Rattle.http_wire.specs.Items.{IsRequest, body_limit}
use Rattle.http_wire.specs.Requests.{GivesRequest, StopsAtFront, StopsInBody, ReadsHead, BreaksOff, RunsOut, EndsSo as ReadEndsSo}
use Rattle.http_wire.specs.declared.ending.HeadFault.{HeadFault}
use Rattle.http_wire.specs.declared.ending.ReadEnd.{ReadEnd}
use Rattle.http_wire.specs.declared.ending.ReadEnd.TheVariants as read
use Rattle.http_wire.specs.declared.ending.StreamEnd.TheVariants as end
use Rattle.http_wire.specs.declared.request.Request.{Request}
use Rattle.http_wire.specs.declared.turn.Turn.{Turn}
use Rattle.streams.proofs.Grows.{Consumes-then, Grew-then}
use Rattle.streams.specs.Effects.{Grew, WritesPart, PutsAll}
use Rattle.streams.specs.View.{StreamView}
use Rattle.centre_session.specs.Clocks.{GaveAll}
use Rattle.centre_session.specs.Items.{Item, asked, refused, closing, over, cut, Says, AreItems, AreFirst, AreOpen, BeginsHead, IsInterim, output_of, memory_reply}
use Rattle.centre_session.specs.Session.{Scene, scene, moments_of, Session, Ended, Broken, RanOut, WritesLast, SessionRow}
use Rattle.centre_session.specs.Steps.{ItemRow, ShortRow, EndRow, end_by}
use Rattle.centre_session.specs.Turns.{Serves}
use Rattle.centre_session.specs.declared.ending.SessionEnd.{SessionEnd}
use Rattle.centre_session.specs.declared.ending.SessionEnd.TheVariants.{Closed, Cut, LinkFault, Memory}
use Rattle.centre_session.proofs.Items.{items_end, first_open, open_more, items_closing, first_more, items_refused, first_refused}
use Rattle.centre_session.proofs.Fronts.{same_count}
use Rattle.centre_session.proofs.Sessions.{serves_more, serves_none, output_more}

-- what was served so far of a session that goes on; `held` is what was taken and isn't used yet
pub record SoFar (x y : Scene) (s : Setting) (turns : List Turn) (held : List ℕ) : Type 0 where
  pub items : List Item
  pub replies : List Reply
  pub taken : List ℕ
  pub used : List ℕ
  pub lost : Consumes x.link.left y.link.left taken
  pub split : taken ≡ used ++ held
  pub open_are : AreOpen 0 used items
  pub serves : Serves x.stand y.stand s items turns replies
  pub later : x.link.faults ≤ y.link.faults
  pub moments : GaveAll x.given y.given (moments_of turns)
  pub wrote : Grew x.link.written y.link.written (output_of items replies)

pub consumes_none : (o : Option (List ℕ)) → Consumes o o []
consumes_none None = tt
consumes_none (Some bytes) = refl

pub grew_none : (o : Option (List ℕ)) → Grew o o []
grew_none None = tt
grew_none (Some bytes) = sym (append-nil bytes)

pub gave_none : (o : Option (List Moment)) → GaveAll o o []
gave_none None = tt
gave_none (Some moments) = sym (append-nil moments)

-- moments given behind others
pub gave_then : (a b c : Option (List Moment)) (p q : List Moment) → GaveAll a b p → GaveAll b c q → GaveAll a c (p ++ q)
gave_then a b None p q f g = tt
gave_then None None (Some z) p q f g = absurd g
gave_then None (Some y) (Some z) p q f g = absurd f
gave_then (Some x) None (Some z) p q f g = absurd g
gave_then (Some x) (Some y) (Some z) p q f g = g ∙ (ap (λ (w : List Moment). w ++ q) f ∙ append_assoc x p q)

grew_same : (a b c : Option (List ℕ)) (bytes : List ℕ) → Grew a b bytes → c ≡ b → Grew a c bytes
grew_same a b c bytes g is = subst (λ (o : Option (List ℕ)). Grew a o bytes) (sym is) g

pub moments_more : (turns : List Turn) (t : Turn) → moments_of (turns ++ t ∷ []) ≡ moments_of turns ++ t.moment ∷ []
moments_more turns t = map-append (λ u. u.moment) turns (t ∷ [])

pub begins : (x : Scene) (s : Setting) (turns : List Turn) (held : List ℕ) → turns ≡ [] → held ≡ [] → SoFar x x s turns held
begins x s turns held none empty =
    subst (λ (ts : List Turn). SoFar x x s ts held) (sym none) (subst (λ (h : List ℕ). SoFar x x s [] h) (sym empty) (record {
      items = [];
      replies = [];
      taken = [];
      used = [];
      lost = consumes_none x.link.left;
      split = refl;
      open_are = refl;
      serves = serves_none x.stand s;
      later = omega arith;
      moments = gave_none x.given;
      wrote = grew_none x.link.written;
    }))

-- ---- a request was read and served

module _ (x y : Scene) (s : Setting) (turns : List Turn) (held : List ℕ) (so : SoFar x y s turns held)
    (link : StreamView) (kept : List ℕ) (request : Request) (gives : GivesRequest body_limit y.link.left link.left held kept y.link.written link.written request) (later : y.link.faults ≤ link.faults)
    (r : Request) (says : Says (length turns) gives.head r) (body : r.body ≡ request.body)
    (z : Scene) (new : List Turn) (result : Result (Unit {0}) WriteFault) (row : ItemRow (scene y.stand link y.given) z s (asked gives.head r) turns new result) where
  is_request : IsRequest front_limit body_limit gives.used gives.head r.body
  is_request = subst (λ (b : List ℕ). IsRequest front_limit body_limit gives.used gives.head b) (sym body) gives.item

  says_here : Says (0 + length so.items) gives.head r
  says_here =
      let here : length turns ≡ 0 + length so.items = omega (arith, same_count s y.stand.seen (length x.stand.seen) so.items turns so.replies so.serves.session) in
      subst (λ (n : ℕ). Says n gives.head r) here says

  lost : Consumes x.link.left z.link.left (so.taken ++ gives.moved.taken)
  lost = subst (λ (o : Option (List ℕ)). Consumes x.link.left o (so.taken ++ gives.moved.taken)) (sym row.puts.kept) (Consumes-then x.link.left y.link.left link.left so.taken gives.moved.taken so.lost gives.moved.lost)

  split : so.taken ++ gives.moved.taken ≡ so.used ++ (gives.used ++ kept)
  split = ap (λ (w : List ℕ). w ++ gives.moved.taken) so.split ∙ (append_assoc so.used held gives.moved.taken ∙ ap (λ (w : List ℕ). so.used ++ w) gives.moved.split)

  serves : Serves x.stand z.stand s (so.items ++ asked gives.head r ∷ []) (turns ++ row.turn ∷ []) (so.replies ++ row.reply ∷ [])
  serves = serves_more x.stand y.stand z.stand s so.items turns so.replies (asked gives.head r) row.turn.moment row.turn row.reply so.serves row.step

  moments : GaveAll x.given z.given (moments_of (turns ++ row.turn ∷ []))
  moments = subst (λ (l : List Moment). GaveAll x.given z.given l) (sym (moments_more turns row.turn)) (gave_then x.given y.given z.given (moments_of turns) (row.turn.moment ∷ []) so.moments row.gave)

  later_all : x.link.faults ≤ z.link.faults
  later_all = omega (arith, so.later, later, row.puts.cause.later)

  before_reply : Grew x.link.written link.written (output_of so.items so.replies ++ interim_of gives.head)
  before_reply = Grew-then x.link.written y.link.written link.written (output_of so.items so.replies) (interim_of gives.head) so.wrote gives.wrote

  all_output : (output_of so.items so.replies ++ interim_of gives.head) ++ reply_bytes row.reply ≡ output_of (so.items ++ asked gives.head r ∷ []) (so.replies ++ row.reply ∷ [])
  all_output =
      append_assoc (output_of so.items so.replies) (interim_of gives.head) (reply_bytes row.reply)
      ∙ sym (output_more s y.stand.seen (length x.stand.seen) so.items turns so.replies (asked gives.head r) row.reply so.serves.session)

  wrote_all : Grew link.written z.link.written (reply_bytes row.reply) → Grew x.link.written z.link.written (output_of (so.items ++ asked gives.head r ∷ []) (so.replies ++ row.reply ∷ []))
  wrote_all g = subst (λ (w : List ℕ). Grew x.link.written z.link.written w) all_output (Grew-then x.link.written link.written z.link.written (output_of so.items so.replies ++ interim_of gives.head) (reply_bytes row.reply) before_reply g)

  -- it goes on
  pub going : r.close ≡ false → Grew link.written z.link.written (reply_bytes row.reply) → SoFar x z s new kept
  going open_is g = subst (λ (ts : List Turn). SoFar x z s ts kept) (sym row.turns) (record {
    items = so.items ++ asked gives.head r ∷ [];
    replies = so.replies ++ row.reply ∷ [];
    taken = so.taken ++ gives.moved.taken;
    used = so.used ++ gives.used;
    lost = lost;
    split = split ∙ sym (append_assoc so.used gives.used kept);
    open_are = open_more 0 so.used gives.used so.items gives.head r so.open_are is_request says_here open_is;
    serves = serves;
    later = later_all;
    moments = moments;
    wrote = wrote_all g;
  })

  -- it closes
  pub closed : r.close ≡ true → Grew link.written z.link.written (reply_bytes row.reply) → Ended x z s new closing
  closed closes_is g = subst (λ (ts : List Turn). Ended x z s ts closing) (sym row.turns) (record {
    items = so.items ++ asked gives.head r ∷ [];
    replies = so.replies ++ row.reply ∷ [];
    taken = so.taken ++ gives.moved.taken;
    lost = lost;
    interim = [];
    all = subst (λ (w : List ℕ). AreItems 0 w (so.items ++ asked gives.head r ∷ []) [] closing) (sym split) (items_closing 0 so.used gives.used kept so.items gives.head r so.open_are is_request says_here closes_is);
    spent = tt;
    serves = serves;
    later = later_all;
    moments = moments;
    wrote = subst (λ (w : List ℕ). Grew x.link.written z.link.written w) (sym (append-nil _)) (wrote_all g);
  })

  -- its reply couldn't be written whole
  pub broken : Rose link.faults z.link.faults → WritesPart link.written z.link.written (reply_bytes row.reply) → Broken x z s new
  broken rose part = subst (λ (ts : List Turn). Broken x z s ts) (sym row.turns) (record {
    items = so.items ++ asked gives.head r ∷ [];
    replies = so.replies ++ row.reply ∷ [];
    behind = kept;
    session = record {
      taken = so.taken ++ gives.moved.taken;
      then_left = z.link.left;
      lost = lost;
      first = subst (λ (w : List ℕ). AreFirst 0 w (so.items ++ asked gives.head r ∷ []) kept) (sym split) (first_more 0 so.used gives.used kept so.items gives.head r so.open_are is_request says_here);
      serves = serves;
      later = later_all;
    };
    moments = moments;
    rose = omega (arith, so.later, later, rose);
    broke = inr (record {
      others = so.items;
      item = asked gives.head r;
      items_are = refl;
      earlier = so.replies;
      reply = row.reply;
      replies_are = refl;
      part = part.part;
      rest = part.rest;
      split = part.split;
      wrote = Grew-then x.link.written link.written z.link.written (output_of so.items so.replies ++ interim_of gives.head) part.part before_reply part.output;
    });
  })

-- ---- no request was read

module _ (x y : Scene) (s : Setting) (turns : List Turn) (held : List ℕ) (so : SoFar x y s turns held) (link : StreamView) (later : y.link.faults ≤ link.faults) where
  -- a clock and a desk as before, and a link that was read
  abbrev here : Scene
  here = scene y.stand link y.given

  split_more : (taken : List ℕ) → so.taken ++ taken ≡ so.used ++ (held ++ taken)
  split_more taken = ap (λ (w : List ℕ). w ++ taken) so.split ∙ append_assoc so.used held taken

  -- the input ended between requests
  pub over_at : StopsAtFront body_limit y.link.left link.left held y.link.written link.written end.End → Ended x (scene y.stand link y.given) s turns over
  over_at stops = record {
    items = so.items;
    replies = so.replies;
    taken = so.taken ++ stops.taken;
    lost = Consumes-then x.link.left y.link.left link.left so.taken stops.taken so.lost stops.lost;
    interim = [];
    all = subst (λ (w : List ℕ). AreItems 0 w so.items [] over) (sym (split_more stops.taken)) (items_end 0 so.used (held ++ stops.taken) so.items [] over so.open_are (refl, stops.item));
    spent = stops.spent;
    serves = so.serves;
    later = omega (arith, so.later, later);
    moments = so.moments;
    wrote = subst (λ (w : List ℕ). Grew x.link.written link.written w) (sym (append-nil _)) (grew_same x.link.written y.link.written link.written (output_of so.items so.replies) so.wrote stops.quiet);
  }

  -- it ended inside the head of a request
  pub cut_at : StopsAtFront body_limit y.link.left link.left held y.link.written link.written end.Cut → Ended x (scene y.stand link y.given) s turns cut
  cut_at stops = record {
    items = so.items;
    replies = so.replies;
    taken = so.taken ++ stops.taken;
    lost = Consumes-then x.link.left y.link.left link.left so.taken stops.taken so.lost stops.lost;
    interim = [];
    all = subst (λ (w : List ℕ). AreItems 0 w so.items [] cut) (sym (split_more stops.taken)) (items_end 0 so.used (held ++ stops.taken) so.items [] cut so.open_are (inl (refl, stops.item)));
    spent = stops.spent;
    serves = so.serves;
    later = omega (arith, so.later, later);
    moments = so.moments;
    wrote = subst (λ (w : List ℕ). Grew x.link.written link.written w) (sym (append-nil _)) (grew_same x.link.written y.link.written link.written (output_of so.items so.replies) so.wrote stops.quiet);
  }

  -- it ended inside the body of a request
  pub cut_in : StopsInBody body_limit y.link.left link.left held y.link.written link.written → Ended x (scene y.stand link y.given) s turns cut
  cut_in stops = record {
    items = so.items;
    replies = so.replies;
    taken = so.taken ++ stops.taken;
    lost = Consumes-then x.link.left y.link.left link.left so.taken stops.taken so.lost stops.lost;
    interim = interim_of stops.item.head;
    all = subst (λ (w : List ℕ). AreItems 0 w so.items (interim_of stops.item.head) cut) (sym (split_more stops.taken)) (items_end 0 so.used (held ++ stops.taken) so.items (interim_of stops.item.head) cut so.open_are (inr (stops.item, refl)));
    spent = stops.spent;
    serves = so.serves;
    later = omega (arith, so.later, later);
    moments = so.moments;
    wrote = Grew-then x.link.written y.link.written link.written (output_of so.items so.replies) (interim_of stops.item.head) so.wrote stops.wrote;
  }

  -- the session as it stands, with what was taken of a request that wasn't read whole
  stands : (taken : List ℕ) (left : Option (List ℕ)) → Consumes y.link.left left taken → Session x (scene y.stand link y.given) s so.items turns so.replies (held ++ taken)
  stands taken left lost = record {
    taken = so.taken ++ taken;
    then_left = left;
    lost = Consumes-then x.link.left y.link.left left so.taken taken so.lost lost;
    first = subst (λ (w : List ℕ). AreFirst 0 w so.items (held ++ taken)) (sym (split_more taken)) (first_open 0 so.used (held ++ taken) so.items so.open_are);
    serves = so.serves;
    later = omega (arith, so.later, later);
  }

  abbrev begun : {head : HeadView} → (reads : ReadsHead body_limit y.link.left held head) → BeginsHead (held ++ reads.taken)
  begun {head} reads = record { kind = reads.kind; front = reads.front; rest = reads.rest; head = head; is_front = reads.is_front; says = reads.says }

  -- the link failed before anything was written
  broken_quiet : Rose y.link.faults link.faults → link.written ≡ y.link.written → Broken x (scene y.stand link y.given) s turns
  unfolding stands
  broken_quiet rose quiet = record {
    items = so.items;
    replies = so.replies;
    behind = held ++ [];
    session = stands [] y.link.left (consumes_none y.link.left);
    moments = so.moments;
    rose = omega (arith, so.later, rose);
    broke = inl (record {
      none_closes = record { used = so.used; split = split_more []; open_are = so.open_are };
      interim = [];
      interim_is = inl refl;
      part = [];
      rest = [];
      split = refl;
      wrote = subst (λ (w : List ℕ). Grew x.link.written link.written w) (sym (append-nil _)) (grew_same x.link.written y.link.written link.written (output_of so.items so.replies) so.wrote quiet);
    });
  }

  -- the link failed while the interim reply was written
  broken_part : {head : HeadView} → Rose y.link.faults link.faults → ReadsHead body_limit y.link.left held head → WritesPart y.link.written link.written (interim_of head)
      → Broken x (scene y.stand link y.given) s turns
  unfolding stands
  broken_part {head} rose reads part = record {
    items = so.items;
    replies = so.replies;
    behind = held ++ reads.taken;
    session = stands reads.taken reads.later reads.lost;
    moments = so.moments;
    rose = omega (arith, so.later, rose);
    broke = inl (record {
      none_closes = record { used = so.used; split = split_more reads.taken; open_are = so.open_are };
      interim = interim_of head;
      interim_is = inr (begun reads, refl);
      part = part.part;
      rest = part.rest;
      split = part.split;
      wrote = Grew-then x.link.written y.link.written link.written (output_of so.items so.replies) part.part so.wrote part.output;
    });
  }

  pub broken_at : Rose y.link.faults link.faults → BreaksOff body_limit y.link.left held y.link.written link.written → Broken x (scene y.stand link y.given) s turns
  broken_at rose breaks =
      ⊎_elim (λ (quiet : link.written ≡ y.link.written). broken_quiet rose quiet)
      (λ (w : (head : HeadView) × ReadsHead body_limit y.link.left held head × WritesPart y.link.written link.written (interim_of head)). broken_part rose w.1 w.2) breaks

  module _ (z : Scene) (new : List Turn) (result : Result (Unit {0}) WriteFault) (row : ShortRow (scene y.stand link y.given) z turns new result) where
    -- what was written before the last reply
    ran_out_by : (interim behind : List ℕ) (session : Session x (scene y.stand link y.given) s so.items turns so.replies behind) → session.taken ≡ so.used ++ behind → IsInterim behind interim → Grew y.link.written link.written interim
        → RanOut x z s new
    ran_out_by interim behind session split is grew = record {
      items = so.items;
      replies = so.replies;
      done = turns;
      last = row.turn;
      turns_are = row.turns;
      behind = behind;
      session = record {
        taken = session.taken;
        then_left = session.then_left;
        lost = session.lost;
        first = session.first;
        serves = subst (λ (st : Stand). Serves x.stand st s so.items turns so.replies) (sym row.stand) so.serves;
        later = omega (arith, so.later, later, row.puts.cause.later);
      };
      none_closes = record { used = so.used; split = split; open_are = so.open_are };
      short = row.short;
      no_entry = row.no_entry;
      front = row.front ∙ ap (λ (st : Stand). length st.seen) (sym row.stand);
      moments = subst (λ (ts : List Turn). GaveAll x.given z.given (moments_of ts)) (sym row.turns)
          (subst (λ (l : List Moment). GaveAll x.given z.given l) (sym (moments_more turns row.turn)) (gave_then x.given y.given z.given (moments_of turns) (row.turn.moment ∷ []) so.moments row.gave));
      interim = interim;
      interim_is = is;
      wrote = by_result result row.puts;
    }
      where
        before : Grew x.link.written link.written (output_of so.items so.replies ++ interim)
        before = Grew-then x.link.written y.link.written link.written (output_of so.items so.replies) interim so.wrote grew

        by_result : (res : Result (Unit {0}) WriteFault) → PutsAll link z.link res (reply_bytes (memory_reply row.turn.front true false))
            → WritesLast x.link z.link (output_of so.items so.replies ++ interim) (reply_bytes (memory_reply row.turn.front true false))
        by_result (Ok done) puts = inl (Grew-then x.link.written link.written z.link.written (output_of so.items so.replies ++ interim) (reply_bytes (memory_reply row.turn.front true false)) before puts.ok)
        by_result (Err fault) puts = inr (record {
          rose = omega (arith, so.later, later, puts.cause.failed);
          part = puts.part.part;
          rest = puts.part.rest;
          split = puts.part.split;
          output = Grew-then x.link.written link.written z.link.written (output_of so.items so.replies ++ interim) puts.part.part before puts.part.output;
        })

    pub ran_out : RunsOut body_limit y.link.left held y.link.written link.written → RanOut x z s new
    unfolding stands
    ran_out runs =
        ⊎_elim (λ (quiet : link.written ≡ y.link.written). ran_out_by [] (held ++ []) (stands [] y.link.left (consumes_none y.link.left)) (split_more []) (inl refl) (grew_same y.link.written y.link.written link.written [] (grew_none y.link.written) quiet))
        (λ (w : (head : HeadView) × ReadsHead body_limit y.link.left held head × Grew y.link.written link.written (interim_of head)).
        ran_out_by (interim_of w.0) (held ++ w.1.taken) (stands w.1.taken w.1.later w.1.lost) (split_more w.1.taken) (inr (begun w.1, refl)) w.2) runs

  -- ---- a head is refused

  module _ (f : HeadFault) (stops : StopsAtFront body_limit y.link.left link.left held y.link.written link.written (end.Head f))
      (z : Scene) (new : List Turn) (result : Result (Unit {0}) WriteFault) (row : ItemRow (scene y.stand link y.given) z s (refused f) turns new result) where
    lost_all : Consumes x.link.left z.link.left (so.taken ++ stops.taken)
    lost_all = subst (λ (o : Option (List ℕ)). Consumes x.link.left o (so.taken ++ stops.taken)) (sym row.puts.kept) (Consumes-then x.link.left y.link.left link.left so.taken stops.taken so.lost stops.lost)

    serves_all : Serves x.stand z.stand s (so.items ++ refused f ∷ []) (turns ++ row.turn ∷ []) (so.replies ++ row.reply ∷ [])
    serves_all = serves_more x.stand y.stand z.stand s so.items turns so.replies (refused f) row.turn.moment row.turn row.reply so.serves row.step

    moments_all : GaveAll x.given z.given (moments_of (turns ++ row.turn ∷ []))
    moments_all = subst (λ (l : List Moment). GaveAll x.given z.given l) (sym (moments_more turns row.turn)) (gave_then x.given y.given z.given (moments_of turns) (row.turn.moment ∷ []) so.moments row.gave)

    later_of : x.link.faults ≤ z.link.faults
    later_of = omega (arith, so.later, later, row.puts.cause.later)

    before_it : Grew x.link.written link.written (output_of so.items so.replies)
    before_it = grew_same x.link.written y.link.written link.written (output_of so.items so.replies) so.wrote stops.quiet

    output_all : output_of so.items so.replies ++ reply_bytes row.reply ≡ output_of (so.items ++ refused f ∷ []) (so.replies ++ row.reply ∷ [])
    output_all = sym (output_more s y.stand.seen (length x.stand.seen) so.items turns so.replies (refused f) row.reply so.serves.session)

    refused_whole : Grew link.written z.link.written (reply_bytes row.reply) → Ended x z s new closing
    refused_whole g = subst (λ (ts : List Turn). Ended x z s ts closing) (sym row.turns) (record {
      items = so.items ++ refused f ∷ [];
      replies = so.replies ++ row.reply ∷ [];
      taken = so.taken ++ stops.taken;
      lost = lost_all;
      interim = [];
      all = subst (λ (w : List ℕ). AreItems 0 w (so.items ++ refused f ∷ []) [] closing) (sym (split_more stops.taken)) (items_refused 0 so.used (held ++ stops.taken) so.items f so.open_are stops.item);
      spent = tt;
      serves = serves_all;
      later = later_of;
      moments = moments_all;
      wrote = subst (λ (w : List ℕ). Grew x.link.written z.link.written w) (output_all ∙ sym (append-nil _)) (Grew-then x.link.written link.written z.link.written (output_of so.items so.replies) (reply_bytes row.reply) before_it g);
    })

    refused_part : Rose link.faults z.link.faults → WritesPart link.written z.link.written (reply_bytes row.reply) → Broken x z s new
    refused_part rose part = subst (λ (ts : List Turn). Broken x z s ts) (sym row.turns) (record {
      items = so.items ++ refused f ∷ [];
      replies = so.replies ++ row.reply ∷ [];
      behind = [];
      session = record {
        taken = so.taken ++ stops.taken;
        then_left = z.link.left;
        lost = lost_all;
        first = subst (λ (w : List ℕ). AreFirst 0 w (so.items ++ refused f ∷ []) []) (sym (split_more stops.taken)) (first_refused 0 so.used (held ++ stops.taken) so.items f so.open_are stops.item);
        serves = serves_all;
        later = later_of;
      };
      moments = moments_all;
      rose = omega (arith, so.later, later, rose);
      broke = inr (record {
        others = so.items;
        item = refused f;
        items_are = refl;
        earlier = so.replies;
        reply = row.reply;
        replies_are = refl;
        part = part.part;
        rest = part.rest;
        split = part.split;
        wrote = subst (λ (w : List ℕ). Grew x.link.written z.link.written (w ++ part.part)) (sym (append-nil _)) (Grew-then x.link.written link.written z.link.written (output_of so.items so.replies) part.part before_it part.output);
      });
    })

  refused_at : (f : HeadFault) → StopsAtFront body_limit y.link.left link.left held y.link.written link.written (end.Head f) → (z : Scene) (new : List Turn)
      (result : Result (Unit {0}) WriteFault) (row : ItemRow (scene y.stand link y.given) z s (refused f) turns new result) → SessionRow x z s new (end_by result)
  refused_at f stops z new (Ok done) row = inl (refused_whole f stops z new (Ok done) row row.puts.ok)
  refused_at f stops z new (Err fault) row = refused_part f stops z new (Err fault) row row.puts.cause.failed row.puts.part

  as_row : (z : Scene) (new : List Turn) (ending one : SessionEnd) → ending ≡ one → SessionRow x z s new one → SessionRow x z s new ending
  as_row z new ending one is row = subst (λ (e : SessionEnd). SessionRow x z s new e) (sym is) row

  same_scene : (z : Scene) (new : List Turn) (one : SessionEnd) → z ≡ scene y.stand link y.given → new ≡ turns → SessionRow x (scene y.stand link y.given) s turns one → SessionRow x z s new one
  same_scene z new one scene_is turns_are row =
      subst (λ (w : Scene). SessionRow x w s new one) (sym scene_is) (subst (λ (ts : List Turn). SessionRow x (scene y.stand link y.given) s ts one) (sym turns_are) row)

  -- how a session ends where no request was read
  pub ended : (e : ReadEnd) (ending : SessionEnd) (z : Scene) (new : List Turn) → ReadEndsSo body_limit y.link.left link.left held y.link.written link.written e
      → (e ≡ read.LinkFault → Rose y.link.faults link.faults) → EndRow (scene y.stand link y.given) z turns new e ending → SessionRow x z s new ending
  ended read.End ending z new ends rose row = as_row z new ending Closed row.0 (same_scene z new Closed row.1 row.2 (inr (over_at ends)))
  ended read.Cut ending z new ends rose row =
      as_row z new ending Cut row.0 (same_scene z new Cut row.1 row.2
      (⊎_elim (λ (w : StopsAtFront body_limit y.link.left link.left held y.link.written link.written end.Cut). cut_at w)
      (λ (w : StopsInBody body_limit y.link.left link.left held y.link.written link.written). cut_in w) ends))
  ended (read.Head f) ending z new ends rose row = as_row z new ending (end_by row.0) row.1 (refused_at f ends z new row.0 (row.2 s))
  ended read.LinkFault ending z new ends rose row = as_row z new ending LinkFault row.0 (same_scene z new LinkFault row.1 row.2 (broken_at (rose refl) ends))
  ended read.OutOfMemory ending z new ends rose row = as_row z new ending Memory row.0 (ran_out z new row.1.0 row.1.1 ends)
