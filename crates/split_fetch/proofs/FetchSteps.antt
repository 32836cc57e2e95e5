-- A link more was asked on.
use Rattle.std.proofs.Common.{◌≡◌, ◌∙◌, refl, sym, ap, subst, arith, ℕ, ◌≤◌, ℤ, pos, ◌+ℤ◌, ◌≤ℤ◌, List, [], ◌∷◌, ◌++◌, append_assoc, append-nil, Option, None, Some, Result, Ok, Err}
use Rattle.std.proofs.lemmas.Int.{ints}
use Rattle.link_ports.specs.Ports.{PortView, Visitor, visitor, Took, Came}
use Rattle.streams.specs.View.{StreamView}
use Rattle.std.specs.Prelude.{MatchResult}
use Rattle.split_fetch.specs.Fetching.{AreHeard, Fetches, AreAccepted, GivesBytes, EndsAs, IsFetched, FetchRefuses}
use Rattle.split_fetch.specs.declared.fetching.FetchFault.{FetchFault}
use Rattle.split_fetch.specs.declared.fetching.FetchFault.TheVariants as fault
use Rattle.split_fetch.specs.declared.heard.Outcome.{Outcome}
use Rattle.split_fetch.specs.declared.heard.Outcome.TheVariants.{Done, Lost as LostAtLast, Moved, Requests, Peer as PeerSaid, BadReply as BadAtLast}
use Rattle.split_fetch.specs.Peers.{HeardOn}
use Rattle.split_fetch.specs.Rounds.{Stage, Way, Goes, Ends, begun, after, way_after, first_of_todo, windows_asked}
use Rattle.split_fetch.specs.Windows.{Make, windows_of}
use Rattle.split_fetch.specs.declared.asked.Codes.{Codes}
use Rattle.split_fetch.specs.declared.heard.Heard.{Heard}
use Rattle.split_fetch.specs.declared.window.Window.{Window}
use Rattle.split_fetch.proofs.Whole.{make_adjoin}
use Rattle.split_fetch.proofs.NextAsked.{way_more, windows_more, HasTodo, way_has, begun_has}
use Rattle.split_fetch.proofs.RoundsSound.{IsSound, GoodEnd, GoodWay, begun_sound, way_good}

took_then : {A : Type 0} (o m n : Option (List A)) (xs ys : List A) → Took o m xs → Took m n ys → Took o n (xs ++ ys)
took_then None None None xs ys p q = tt
took_then None None (Some c) xs ys p q = absurd q
took_then None (Some b) n xs ys p q = absurd p
took_then (Some a) None n xs ys p q = absurd p
took_then (Some a) (Some b) None xs ys p q = absurd q
took_then (Some a) (Some b) (Some c) xs ys p q = p ∙ (ap (λ w. xs ++ w) q ∙ sym (append_assoc xs ys c))

came_then : {A : Type 0} (o m n : Option (List A)) (xs ys : List A) → Came o m xs → Came m n ys → Came o n (xs ++ ys)
came_then o m None xs ys p q = tt
came_then o None (Some c) xs ys p q = absurd q
came_then None (Some b) (Some c) xs ys p q = absurd p
came_then (Some a) (Some b) (Some c) xs ys p q = q ∙ (ap (λ w. w ++ ys) p ∙ append_assoc a xs ys)

took_none : {A : Type 0} (o : Option (List A)) → Took o o []
took_none None = tt
took_none (Some xs) = refl

came_none : {A : Type 0} (o : Option (List A)) → Came o o []
came_none None = tt
came_none (Some xs) = sym (append-nil xs)

-- one more was heard
heard_more : (c : Codes) (ws : List Window) (gave : List StreamView) (came : List Visitor) (hs : List Heard) (w : Window) (link : StreamView) (back : Visitor) (h : Heard)
    → AreHeard c ws gave came hs → HeardOn c w link back.link h → back.turns ≡ [] → AreHeard c (ws ++ w ∷ []) (gave ++ link ∷ []) (came ++ back ∷ []) (hs ++ h ∷ [])
heard_more c [] [] [] [] w link back h all on none = (on, none, tt)
heard_more c (v ∷ ws) (l ∷ gave) (b ∷ came) (k ∷ hs) w link back h all on none = (all.0, all.1, heard_more c ws gave came hs w link back h all.2 on none)
heard_more c [] [] [] (k ∷ hs) w link back h all on none = absurd all
heard_more c [] [] (b ∷ came) hs w link back h all on none = absurd all
heard_more c [] (l ∷ gave) came hs w link back h all on none = absurd all
heard_more c (v ∷ ws) [] came hs w link back h all on none = absurd all
heard_more c (v ∷ ws) (l ∷ gave) [] hs w link back h all on none = absurd all
heard_more c (v ∷ ws) (l ∷ gave) (b ∷ came) [] w link back h all on none = absurd all

-- windows that make a whole end no earlier than they begin, but for one microsecond
ends : (from to : ℤ) (ws : List Window) → Make from to ws → from ≤ℤ (to +ℤ pos 1)
ends from to [] make = let e : from ≡ to +ℤ pos 1 = make in omega (arith, ints, e)
ends from to (w ∷ ws) make =
    let forward = make.1 in
    let rest = ends (w.end.micros +ℤ pos 1) to ws make.2 in
    omega (arith, ints, forward, rest)

inside : (from to : ℤ) (us : List Window) (v : Window) (vs : List Window) → Make from to (us ++ v ∷ vs) → (from ≤ℤ v.start.micros) × (v.start.micros ≤ℤ v.end.micros) × (v.end.micros ≤ℤ to)
inside from to [] v vs make =
    let start = make.0 in
    let forward = make.1 in
    let rest = ends (v.end.micros +ℤ pos 1) to vs make.2 in
    (omega (arith, ints, start), omega (arith, ints, start, forward), omega (arith, ints, rest))
inside from to (u ∷ us) v vs make =
    let start = make.0 in
    let forward = make.1 in
    let rest = inside (u.end.micros +ℤ pos 1) to us v vs make.2 in
    let low = rest.0 in
    (omega (arith, ints, start, forward, low), rest.1, rest.2)

module _ (c : Codes) (whole : Window) where
  pub fetches_none : (p : PortView) → Fetches c whole p p (Goes (begun whole 1))
  unfolding way_after windows_asked
  fetches_none p = record {
    gave = [];
    came = [];
    heard = [];
    more = [];
    unheard = [];
    left = took_none p.left;
    back = came_none p.back;
    asked = tt;
    leads = refl;
    spare = tt;
    later = omega arith;
  }

  -- what was known before a link was taken, of which all were heard
  pub record SoFar (a b : PortView) (s : Stage) : Type 0 where
    pub gave : List StreamView
    pub came : List Visitor
    pub heard : List Heard
    pub left : Took a.left b.left gave
    pub back : Came a.back b.back came
    pub asked : AreHeard c (windows_asked (Goes (begun whole 1)) heard) gave came heard
    pub leads : way_after (Goes (begun whole 1)) heard ≡ Goes s
    pub later : a.faults ≤ b.faults

  -- something was heard on every link
  abbrev pub FetchesAll : PortView → PortView → Way → Type 0
  FetchesAll a d way = (fetches : Fetches c whole a d way) × (fetches.more ≡ [])

  pub so_far_none : (p : PortView) (s : Stage) → s ≡ begun whole 1 → SoFar p p s
  unfolding way_after windows_asked
  so_far_none p s is = record { gave = []; came = []; heard = []; left = took_none p.left; back = came_none p.back; asked = tt; leads = ap Goes (sym is); later = omega arith }

  module _ (a b : PortView) (s : Stage) (so : SoFar a b s) where
    -- the port failed, or gave nothing more
    pub still : (d : PortView) → d.left ≡ b.left → d.back ≡ b.back → b.faults ≤ d.faults → FetchesAll a d (Goes s)
    still d left back later = (
      record {
        gave = so.gave;
        came = so.came;
        heard = so.heard;
        more = [];
        unheard = [];
        left = subst (Took a.left d.left) (sym (append-nil so.gave)) (subst (λ o. Took a.left o so.gave) (sym left) so.left);
        back = subst (Came a.back d.back) (sym (append-nil so.came)) (subst (λ o. Came a.back o so.came) (sym back) so.back);
        asked = so.asked;
        leads = so.leads;
        spare = tt;
        later = (let before = so.later in omega (arith, before, later));
      },
      refl,
    )

    module _ (m d : PortView) (link after_link : StreamView) (took : Took b.left m.left (link ∷ [])) (kept : m.back ≡ b.back) (grew : b.faults ≤ m.faults)
        (left : d.left ≡ m.left) (came : Came m.back d.back (visitor after_link [] ∷ [])) (same : d.faults ≡ m.faults) where
      all_left : Took a.left d.left (so.gave ++ link ∷ [])
      all_left = took_then a.left b.left d.left so.gave (link ∷ []) so.left (subst (λ o. Took b.left o (link ∷ [])) (sym left) took)

      all_back : Came a.back d.back (so.came ++ visitor after_link [] ∷ [])
      all_back = came_then a.back b.back d.back so.came (visitor after_link [] ∷ []) so.back (subst (λ o. Came o d.back (visitor after_link [] ∷ [])) kept came)

      all_later : a.faults ≤ d.faults
      all_later = let before = so.later in omega (arith, before, grew, same)

      -- memory ran out on a link: it came back unheard
      pub unheard : Fetches c whole a d (Goes s)
      unheard = record {
        gave = so.gave;
        came = so.came;
        heard = so.heard;
        more = link ∷ [];
        unheard = visitor after_link [] ∷ [];
        left = all_left;
        back = all_back;
        asked = so.asked;
        leads = so.leads;
        spare = refl;
        later = all_later;
      }

      module _ (w : Window) (h : Heard) (first : first_of_todo s.todo ≡ w ∷ []) (on : HeardOn c w link after_link h) where
        abbrev begin : Way
        begin = Goes (begun whole 1)

        now_asked : AreHeard c (windows_asked begin (so.heard ++ h ∷ [])) (so.gave ++ link ∷ []) (so.came ++ visitor after_link [] ∷ []) (so.heard ++ h ∷ [])
        now_asked =
            let windows : windows_asked begin (so.heard ++ h ∷ []) ≡ windows_asked begin so.heard ++ w ∷ [] =
            windows_more begin so.heard h s so.leads ∙ ap (λ (l : List Window). windows_asked begin so.heard ++ l) first in
            subst (λ (l : List Window). AreHeard c l (so.gave ++ link ∷ []) (so.came ++ visitor after_link [] ∷ []) (so.heard ++ h ∷ [])) (sym windows)
            (heard_more c (windows_asked begin so.heard) so.gave so.came so.heard w link (visitor after_link []) h so.asked on refl)

        -- it goes on
        pub on_again : (t : Stage) → after s h ≡ Goes t → SoFar a d t
        on_again t is = record {
          gave = so.gave ++ link ∷ [];
          came = so.came ++ visitor after_link [] ∷ [];
          heard = so.heard ++ h ∷ [];
          left = all_left;
          back = all_back;
          asked = now_asked;
          leads = way_more begin so.heard h s so.leads ∙ is;
          later = all_later;
        }

        -- where it leads
        pub led : (way : Way) → after s h ≡ way → FetchesAll a d way
        led way is = (
          record {
            gave = so.gave ++ link ∷ [];
            came = so.came ++ visitor after_link [] ∷ [];
            heard = so.heard ++ h ∷ [];
            more = [];
            unheard = [];
            left = subst (Took a.left d.left) (sym (append-nil (so.gave ++ link ∷ []))) all_left;
            back = subst (Came a.back d.back) (sym (append-nil (so.came ++ visitor after_link [] ∷ []))) all_back;
            asked = now_asked;
            leads = way_more begin so.heard h s so.leads ∙ is;
            spare = tt;
            later = all_later;
          },
          refl,
        )

    -- there is a window to ask
    pub some_todo : s.todo ≡ [] → ⊥
    some_todo = subst HasTodo so.leads (way_has (Goes (begun whole 1)) so.heard (begun_has whole 1))

    -- and it lies within the whole
    pub within : whole.start.micros ≤ℤ whole.end.micros → (w : Window) → first_of_todo s.todo ≡ w ∷ []
        → (whole.start.micros ≤ℤ w.start.micros) × (w.start.micros ≤ℤ w.end.micros) × (w.end.micros ≤ℤ whole.end.micros)
    within forward w first =
        let good : IsSound whole s = subst (GoodWay whole) so.leads (way_good whole forward (Goes (begun whole 1)) so.heard (begun_sound whole forward whole 1 refl)) in
        by s.todo first good.1
      where
        by : (todo : List Window) → first_of_todo todo ≡ w ∷ [] → Make whole.start.micros whole.end.micros (windows_of s.taken ++ todo)
            → (whole.start.micros ≤ℤ w.start.micros) × (w.start.micros ≤ℤ w.end.micros) × (w.end.micros ≤ℤ whole.end.micros)
        by [] e make = absurd cc
        by (v ∷ vs) e make = let same : v ≡ w = cc in subst (λ (u : Window). (whole.start.micros ≤ℤ u.start.micros) × (u.start.micros ≤ℤ u.end.micros) × (u.end.micros ≤ℤ whole.end.micros)) same (inside whole.start.micros whole.end.micros (windows_of s.taken) v vs make)

-- ---- how it ends

accepted_so : (whole : Window) (o : Outcome) → GoodEnd whole o → AreAccepted o
accepted_so whole (Done taken) good = (make_adjoin whole.start.micros whole.end.micros (windows_of taken) good.0, good.1)
accepted_so whole LostAtLast good = tt
accepted_so whole (Moved a b) good = tt
accepted_so whole Requests good = tt
accepted_so whole (PeerSaid status) good = tt
accepted_so whole BadAtLast good = tt

module _ (c : Codes) (whole : Window) (a d : PortView) (o : Outcome) (all : Fetches c whole a d (Ends o)) where
  pub accepted : whole.start.micros ≤ℤ whole.end.micros → AreAccepted o
  accepted forward = accepted_so whole o (subst (GoodWay whole) all.leads (way_good whole forward (Goes (begun whole 1)) all.heard (begun_sound whole forward whole 1 refl)))

  pub finished : all.more ≡ [] → (result : Result (List ℕ) FetchFault) → MatchResult result (GivesBytes o) (EndsAs o) → MatchResult result (IsFetched c whole a d) (FetchRefuses c whole a d)
  finished none (Ok bytes) gives = by o all none gives
    where
      by : (p : Outcome) (fetches : Fetches c whole a d (Ends p)) → fetches.more ≡ [] → GivesBytes p bytes → IsFetched c whole a d bytes
      by (Done taken) fetches heard is = (taken, fetches, heard, is)
      by LostAtLast fetches heard is = absurd is
      by (Moved x y) fetches heard is = absurd is
      by Requests fetches heard is = absurd is
      by (PeerSaid status) fetches heard is = absurd is
      by BadAtLast fetches heard is = absurd is
  finished none (Err fault.Lost) why = (Ends o, all, none, (o, refl, why))
  finished none (Err (fault.Moved x y)) why = (Ends o, all, none, (o, refl, why))
  finished none (Err fault.Requests) why = (Ends o, all, none, (o, refl, why))
  finished none (Err (fault.Peer status)) why = (Ends o, all, none, (o, refl, why))
  finished none (Err fault.BadReply) why = (Ends o, all, none, (o, refl, why))
  finished none (Err (fault.TooLarge n)) why = (Ends o, all, none, (o, refl, why))
  finished none (Err fault.NoLink) why = absurd why
  finished none (Err fault.PortFault) why = absurd why
  finished none (Err fault.OutOfMemory) why = (Ends o, all, tt, tt)
