-- Visits of links over one history: they stay as it grows, and go on by one.
use Rattle.std.proofs.Common.{◌≡◌, ◌∙◌, refl, sym, ap, subst, arith, inl, inr, ℕ, ◌+◌, ◌-◌, ◌^◌, ◌≤◌, List, [], ◌∷◌, ◌++◌, length, map, append_assoc, Option, None, Some}
use Rattle.std.proofs.Math.Nat.{min-le_left}
use Rattle.std.proofs.lemmas.Grind.{flat_map-append}
use Rattle.std.proofs.lemmas.List.{append-nil, map-append}
use Rattle.std.proofs.lemmas.List.Sums.{sum_by-append}
use Rattle.std.specs.List.{flat_map, sum_by}
use mathlib.Core.List.{IsPrefix}
use Rattle.exact_time.specs.declared.moment.Moment.{Moment}
use Rattle.archive_entry.specs.declared.entry.Entry.{Entry}
use Rattle.desk_words.specs.Counts.{RoseAtLeast, RoseWithin}
use Rattle.desk_words.specs.Setting.{Setting}
use Rattle.desk_words.specs.Stand.{Stand}
use Rattle.http_replies.specs.declared.reply.Reply.{Reply}
use Rattle.http_wire.specs.declared.turn.Turn.{Turn}
use Rattle.link_ports.specs.Ports.{Visitor, visitor, Took, Came}
use Rattle.streams.specs.View.{StreamView}
use Rattle.centre_desk.proofs.Asks.{goes_then}
use Rattle.centre_desk.specs.Turns.{added_by}
use Rattle.centre_session.specs.Clocks.{GaveAll}
use Rattle.centre_session.proofs.Endings.{gave_then, gave_none}
use Rattle.centre_session.proofs.Fronts.{prefix_length, last_front-append, extends, session_from, front_within}
use Rattle.centre_session.proofs.Says.{session_says}
use Rattle.centre_session.proofs.Sessions.{rose_then, within_then, sum_push}
use Rattle.centre_session.specs.Session.{Scene, scene, moments_of, SessionRow, SessionSays, AreMore}
use Rattle.centre_session.specs.Turns.{IsSession, last_front, made_least, made_most}
use Rattle.centre_session.specs.declared.ending.SessionEnd.{SessionEnd}
use Rattle.centre_session.specs.declared.ending.SessionEnd.TheVariants.{Closed, Cut, LinkFault, Memory}
use Rattle.centre_port.specs.Visits.{replies_in, IsVisit, IsVisits, turns_of, halts_in, behind_in, PortScene, ServesPort, OneShortMore, SessionOver}

pub prefix_then : (xs ys zs : List Entry) → IsPrefix xs ys → IsPrefix ys zs → IsPrefix xs zs
prefix_then xs ys zs p q = (p.0 ++ q.0, sym (append_assoc xs p.0 q.0) ∙ (ap (λ (w : List Entry). w ++ q.0) p.1 ∙ q.1))

-- ---- what a port gave, and what came back

pub took_then : {A : Type 0} (o m n : Option (List A)) (xs ys : List A) → Took o m xs → Took m n ys → Took o n (xs ++ ys)
took_then None None None xs ys p q = tt
took_then None None (Some c) xs ys p q = absurd q
took_then None (Some b) n xs ys p q = absurd p
took_then (Some a) None n xs ys p q = absurd p
took_then (Some a) (Some b) None xs ys p q = absurd q
took_then (Some a) (Some b) (Some c) xs ys p q = p ∙ (ap (λ w. xs ++ w) q ∙ sym (append_assoc xs ys c))

pub came_then : {A : Type 0} (o m n : Option (List A)) (xs ys : List A) → Came o m xs → Came m n ys → Came o n (xs ++ ys)
came_then o m None xs ys p q = tt
came_then o None (Some c) xs ys p q = absurd q
came_then None (Some b) (Some c) xs ys p q = absurd p
came_then (Some a) (Some b) (Some c) xs ys p q = q ∙ (ap (λ w. w ++ ys) p ∙ append_assoc a xs ys)

took_none : {A : Type 0} (o : Option (List A)) → Took o o []
took_none None = tt
took_none (Some xs) = refl

came_none : {A : Type 0} (o : Option (List A)) → Came o o []
came_none None = tt
came_none (Some xs) = sym (append-nil xs)

-- ---- one visit

-- what a session says of its replies is what they are
same_replies : (x z : Scene) (s : Setting) (turns : List Turn) (ending : SessionEnd) (row : SessionRow x z s turns ending)
    → (session_says x z s turns ending row).replies ≡ replies_in x z s turns ending row
same_replies x z s turns Closed (inl e) = refl
same_replies x z s turns Closed (inr e) = refl
same_replies x z s turns Cut row = refl
same_replies x z s turns LinkFault row = refl
same_replies x z s turns Memory row = refl

visit_from : (h : List Entry) (k j : ℕ) (s : Setting) (l m : StreamView) (turns : List Turn) (replies : List Reply) → j ≤ k → IsVisit h k s l m turns replies → IsVisit h j s l m turns replies
visit_from h k j s l m turns replies le v = record {
  first = v.first;
  last = v.last;
  given = v.given;
  given_then = v.given_then;
  ending = v.ending;
  row = v.row;
  from = (let a = v.from in omega arith);
  within = v.within;
  replies_are = v.replies_are;
}

visit_extends : (h g : List Entry) (k : ℕ) (s : Setting) (l m : StreamView) (turns : List Turn) (replies : List Reply) → IsPrefix h g → IsVisit h k s l m turns replies → IsVisit g k s l m turns replies
visit_extends h g k s l m turns replies p v = record {
  first = v.first;
  last = v.last;
  given = v.given;
  given_then = v.given_then;
  ending = v.ending;
  row = v.row;
  from = v.from;
  within = prefix_then v.last.seen h g v.within p;
  replies_are = v.replies_are;
}

-- what the last short turn says of the front
more_front : (after : Stand) (n : ℕ) (more : List Turn) → AreMore after more → n ≤ length after.seen → last_front n more ≤ length after.seen
more_front after n [] m le = le
more_front after n (t ∷ []) m le = (let e = m.front in omega arith)
more_front after n (t ∷ u ∷ ts) m le = absurd m

-- the front behind a visit is within its history
says_front : (x z : Scene) (s : Setting) (turns : List Turn) (k : ℕ) → SessionSays x z s turns → k ≤ length x.stand.seen → last_front k turns ≤ length z.stand.seen
says_front x z s turns k v le =
    let grows = prefix_length x.stand.seen z.stand.seen v.serves.goes_on.grows in
    let session = session_from s z.stand.seen (length x.stand.seen) k v.items v.done v.replies le v.serves.session in
    let done = front_within s z.stand.seen k v.items v.done v.replies session (omega arith) in
    subst (λ (ts : List Turn). last_front k ts ≤ length z.stand.seen) (sym v.turns_are)
    (subst (λ (n : ℕ). n ≤ length z.stand.seen) (sym (last_front-append k v.done v.more)) (more_front z.stand (last_front k v.done) v.more v.are_more done))

visit_front : (h : List Entry) (k : ℕ) (s : Setting) (l m : StreamView) (turns : List Turn) (replies : List Reply) → IsVisit h k s l m turns replies → last_front k turns ≤ length h
visit_front h k s l m turns replies v =
    let says = session_says (scene v.first l v.given) (scene v.last m v.given_then) s turns v.ending v.row in
    let a = says_front (scene v.first l v.given) (scene v.last m v.given_then) s turns k says v.from in
    let b = prefix_length v.last.seen h v.within in
    omega arith

-- ---- all visits

pub visits_extend : (h g : List Entry) (k : ℕ) (s : Setting) (gave : List StreamView) (came : List Visitor) (replies : List (List Reply)) → IsPrefix h g
    → IsVisits h k s gave came replies → IsVisits g k s gave came replies
visits_extend h g k s [] [] [] p v = tt
visits_extend h g k s [] [] (rs ∷ rss) p v = absurd v
visits_extend h g k s [] (b ∷ bs) rss p v = absurd v
visits_extend h g k s (l ∷ ls) [] rss p v = absurd v
visits_extend h g k s (l ∷ ls) (b ∷ bs) [] p v = absurd v
visits_extend h g k s (l ∷ ls) (b ∷ bs) (rs ∷ rss) p v = (visit_extends h g k s l b.link b.turns rs p v.0, visits_extend h g (last_front k b.turns) s ls bs rss p v.1)

visits_push : (h : List Entry) (k n : ℕ) (s : Setting) (gave : List StreamView) (came : List Visitor) (replies : List (List Reply)) (l : StreamView) (b : Visitor) (rs : List Reply)
    → IsVisits h k s gave came replies → last_front k (turns_of came) ≤ n → IsVisit h n s l b.link b.turns rs → IsVisits h k s (gave ++ l ∷ []) (came ++ b ∷ []) (replies ++ rs ∷ [])
visits_push h k n s [] [] [] l b rs v le one = (visit_from h n k s l b.link b.turns rs le one, tt)
visits_push h k n s [] [] (qs ∷ rss) l b rs v le one = absurd v
visits_push h k n s [] (c ∷ bs) rss l b rs v le one = absurd v
visits_push h k n s (m ∷ ls) [] rss l b rs v le one = absurd v
visits_push h k n s (m ∷ ls) (c ∷ bs) [] l b rs v le one = absurd v
visits_push h k n s (m ∷ ls) (c ∷ bs) (qs ∷ rss) l b rs v le one =
    (v.0, visits_push h (last_front k c.turns) n s ls bs rss l b rs v.1 (subst (λ (x : ℕ). x ≤ n) (last_front-append k c.turns (turns_of bs)) le) one)

visits_within : (h : List Entry) (k : ℕ) (s : Setting) (gave : List StreamView) (came : List Visitor) (replies : List (List Reply)) → IsVisits h k s gave came replies → k ≤ length h
    → last_front k (turns_of came) ≤ length h
visits_within h k s [] [] [] v le = le
visits_within h k s [] [] (rs ∷ rss) v le = absurd v
visits_within h k s [] (b ∷ bs) rss v le = absurd v
visits_within h k s (l ∷ ls) [] rss v le = absurd v
visits_within h k s (l ∷ ls) (b ∷ bs) [] v le = absurd v
visits_within h k s (l ∷ ls) (b ∷ bs) (rs ∷ rss) v le =
    subst (λ (x : ℕ). x ≤ length h) (sym (last_front-append k b.turns (turns_of bs)))
    (visits_within h (last_front k b.turns) s ls bs rss v.1 (visit_front h k s l b.link b.turns rs v.0))

-- ---- counts of turns

more_least : (after : Stand) (more : List Turn) → AreMore after more → sum_by made_least more ≡ 0
more_least after [] m = refl
more_least after (t ∷ []) m = let e : made_least t ≡ 0 = ap added_by m.no_entry in let one : sum_by made_least (t ∷ []) ≡ made_least t = omega arith in omega arith
more_least after (t ∷ u ∷ ts) m = absurd m

-- what the turns made, with the short one behind them
within_more : (after : Stand) (turns done more : List Turn) (x y : ℕ) → turns ≡ done ++ more → AreMore after more → RoseWithin (sum_by made_least done) (sum_by made_most done) x y
    → RoseWithin (sum_by made_least turns) (sum_by made_most turns) x y
within_more after turns done more x y is m r =
    let least = ap (sum_by made_least) is ∙ sum_by-append made_least done more in
    let most = ap (sum_by made_most) is ∙ sum_by-append made_most done more in
    let none = more_least after more m in
    let a = r.later in let b = r.at_least in let c = r.at_most in
    record { later = a; at_least = omega arith; at_most = omega arith }

turns_push : (came : List Visitor) (b : Visitor) → turns_of (came ++ b ∷ []) ≡ turns_of came ++ b.turns
turns_push came b = flat_map-append (λ (c : Visitor). c.turns) came (b ∷ []) ∙ ap (λ (w : List Turn). turns_of came ++ w) (append-nil b.turns)

-- ---- the links of a port

-- no link was given yet
pub serves_none : (x : PortScene) (s : Setting) → ServesPort x x s
serves_none x s = record {
  gave = [];
  came = [];
  replies = [];
  left = took_none x.port.left;
  back = came_none x.port.back;
  goes_on = record { grows = ([], append-nil x.stand.seen); alone = refl; footing = refl; stops = omega arith };
  visits = tt;
  moments = gave_none x.given;
  stops = record { later = omega arith; at_least = omega (arith, min-le_left (x.stand.stops + 0) (2 ^ 64 - 1)) };
  caught = record { later = omega arith; at_least = omega (arith, min-le_left (x.stand.caught + 0) (2 ^ 64 - 1)) };
  made = record { later = omega arith; at_least = omega (arith, min-le_left (x.stand.made + 0) (2 ^ 64 - 1)); at_most = omega arith };
  later = omega arith;
}

-- a call of the port that gave no link leaves what was served
pub serves_still : (x y z : PortScene) (s : Setting) → ServesPort x y s → z.stand ≡ y.stand → z.given ≡ y.given → z.port.left ≡ y.port.left → z.port.back ≡ y.port.back
    → y.port.faults ≤ z.port.faults → ServesPort x z s
serves_still x y z s v stand given left back le = record {
  gave = v.gave;
  came = v.came;
  replies = v.replies;
  left = subst (λ (o : Option (List StreamView)). Took x.port.left o v.gave) (sym left) v.left;
  back = subst (λ (o : Option (List Visitor)). Came x.port.back o v.came) (sym back) v.back;
  goes_on = rw stand v.goes_on;
  visits = rw stand v.visits;
  moments = rw given v.moments;
  stops = rw stand v.stops;
  caught = rw stand v.caught;
  made = rw stand v.made;
  later = (let a = v.later in omega arith);
}

-- one more link was given, served and taken back
module _ (x y z : PortScene) (s : Setting) (l m : StreamView) (left1 : Option (List StreamView)) (back1 : Option (List Visitor)) (faults1 : ℕ) (turns : List Turn) (ending : SessionEnd)
    (v : ServesPort x y s) (took : Took y.port.left left1 (l ∷ [])) (stays : z.port.left ≡ left1) (kept : back1 ≡ y.port.back) (came : Came back1 z.port.back (visitor m turns ∷ []))
    (le : y.port.faults ≤ faults1) (same : z.port.faults ≡ faults1) (row : SessionRow (scene y.stand l y.given) (scene z.stand m z.given) s turns ending) where
  abbrev says : SessionSays (scene y.stand l y.given) (scene z.stand m z.given) s turns
  says = session_says (scene y.stand l y.given) (scene z.stand m z.given) s turns ending row

  abbrev b : Visitor
  b = visitor m turns

  one_visit : IsVisit z.stand.seen (length y.stand.seen) s l m turns says.replies
  one_visit = record {
    first = y.stand;
    last = z.stand;
    given = y.given;
    given_then = z.given;
    ending = ending;
    row = row;
    from = omega arith;
    within = ([], append-nil z.stand.seen);
    replies_are = sym (same_replies (scene y.stand l y.given) (scene z.stand m z.given) s turns ending row);
  }

  visits : IsVisits z.stand.seen (length x.stand.seen) s (v.gave ++ l ∷ []) (v.came ++ b ∷ []) (v.replies ++ says.replies ∷ [])
  visits =
      visits_push z.stand.seen (length x.stand.seen) (length y.stand.seen) s v.gave v.came v.replies l b says.replies
      (visits_extend y.stand.seen z.stand.seen (length x.stand.seen) s v.gave v.came v.replies says.serves.goes_on.grows v.visits)
      (visits_within y.stand.seen (length x.stand.seen) s v.gave v.came v.replies v.visits (prefix_length x.stand.seen y.stand.seen v.goes_on.grows))
      one_visit

  moments : GaveAll x.given z.given (moments_of (turns_of (v.came ++ b ∷ [])))
  moments =
      subst (λ (ts : List Turn). GaveAll x.given z.given (moments_of ts)) (sym (turns_push v.came b))
      (subst (λ (l : List Moment). GaveAll x.given z.given l) (sym (map-append (λ t. t.moment) (turns_of v.came) turns))
      (gave_then x.given y.given z.given (moments_of (turns_of v.came)) (moments_of turns) v.moments says.moments))

  made : RoseWithin (sum_by made_least (turns_of (v.came ++ b ∷ []))) (sum_by made_most (turns_of (v.came ++ b ∷ []))) x.stand.made z.stand.made
  made =
      subst (λ (ts : List Turn). RoseWithin (sum_by made_least ts) (sum_by made_most ts) x.stand.made z.stand.made) (sym (turns_push v.came b))
      (subst (λ (n : ℕ). RoseWithin n (sum_by made_most (turns_of v.came ++ turns)) x.stand.made z.stand.made) (sym (sum_by-append made_least (turns_of v.came) turns))
      (subst (λ (n : ℕ). RoseWithin (sum_by made_least (turns_of v.came) + sum_by made_least turns) n x.stand.made z.stand.made) (sym (sum_by-append made_most (turns_of v.came) turns))
      (within_then _ _ _ _ x.stand.made y.stand.made z.stand.made v.made (within_more z.stand turns says.done says.more y.stand.made z.stand.made says.turns_are says.are_more says.serves.made))))

  pub link_done : ServesPort x z s
  link_done = record {
    gave = v.gave ++ l ∷ [];
    came = v.came ++ b ∷ [];
    replies = v.replies ++ says.replies ∷ [];
    left = subst (λ (o : Option (List StreamView)). Took x.port.left o (v.gave ++ l ∷ [])) (sym stays) (took_then x.port.left y.port.left left1 v.gave (l ∷ []) v.left took);
    back = came_then x.port.back y.port.back z.port.back v.came (b ∷ []) v.back (subst (λ (o : Option (List Visitor)). Came o z.port.back (b ∷ [])) kept came);
    goes_on = goes_then x.stand y.stand z.stand v.goes_on says.serves.goes_on;
    visits = visits;
    moments = moments;
    stops = subst (λ (n : ℕ). RoseAtLeast n x.stand.stops z.stand.stops) (sym (sum_push halts_in v.replies says.replies)) (rose_then _ _ x.stand.stops y.stand.stops z.stand.stops v.stops says.serves.stops);
    caught = subst (λ (n : ℕ). RoseAtLeast n x.stand.caught z.stand.caught) (sym (sum_push behind_in v.replies says.replies)) (rose_then _ _ x.stand.caught y.stand.caught z.stand.caught v.caught says.serves.caught);
    made = made;
    later = (let a = v.later in omega arith);
  }

-- ---- a visit is a session over the whole history

one_short : (after : Stand) (h : List Entry) (more : List Turn) → IsPrefix after.seen h → AreMore after more → OneShortMore h more
one_short after h [] p m = tt
one_short after h (t ∷ []) p m = (m.short, m.no_entry, (let e = m.front in omega (arith, prefix_length after.seen h p)))
one_short after h (t ∷ u ∷ ts) p m = absurd m

pub visit_session : (h : List Entry) (k : ℕ) (s : Setting) (before after : StreamView) (turns : List Turn) (replies : List Reply) → IsVisit h k s before after turns replies
    → SessionOver h k s turns replies
visit_session h k s before after turns replies v =
    let x = scene v.first before v.given in
    let z = scene v.last after v.given_then in
    let says = session_says x z s turns v.ending v.row in
    let long = extends s v.last.seen h (length v.first.seen) says.items says.done says.replies v.within (prefix_length v.last.seen h v.within) says.serves.session in
    record {
      items = says.items;
      done = says.done;
      more = says.more;
      turns_are = says.turns_are;
      session = subst (λ (rs : List Reply). IsSession h k s says.items says.done rs) (same_replies x z s turns v.ending v.row ∙ v.replies_are)
          (session_from s h (length v.first.seen) k says.items says.done says.replies v.from long);
      short = one_short v.last h says.more v.within says.are_more;
    }
