-- One round more.
use Rattle.std.proofs.Common.{◌≡◌, ◌⊎◌, inl, inr, ◌∙◌, refl, sym, ap, subst, arith, ℕ, ◌+◌, ◌<◌, ◌≤◌, ◌==◌, Bool, true, false, List, [], ◌∷◌, ◌++◌, length, append_assoc, append-nil, length-append, Option, None, Some, Result, Ok, Err}
use Rattle.std.specs.List.{AllByRecursion}
use Rattle.std.proofs.lemmas.Bool.{cases_lt}
use Rattle.std.proofs.lemmas.Bool.Decides.{nat_tests}
use Rattle.exact_time.specs.Causes.{Rose}
use Rattle.streams.specs.View.{StreamView}
use Rattle.link_ports.specs.Ports.{PortView, Visitor, visitor, Took, Came, IsSpent}
use Rattle.disk_model.specs.View.{DiskView, WhereTold, IsHonest}
use Rattle.archive_entry.specs.declared.entry.Entry.{Entry}
use Rattle.archive_log.specs.Archive.{Archived, Stands}
use Rattle.follow_replica.specs.Numbers.{coming_from}
use Rattle.follow_replica.specs.Takes.{Adds}
use Rattle.follow_replica.specs.declared.fault.TakeFault.{TakeFault}
use Rattle.follow_replica.specs.declared.fault.TakeFault.TheVariants as take
use Rattle.follow_replica.proofs.AddSteps.{adds_none, adds_both}
use Rattle.follow_round.specs.Hearing.{HeardOn}
use Rattle.follow_round.specs.Rounds.{answer_of, TakesHeard, IsRound, IsCutShort, RoundRow}
use Rattle.follow_round.specs.Following.{RunsBy, Turned, next_of, GoesOn, AreRounds, Brings, AreBrought, coming_in, Follows, EndsBy, GoAll, FollowsRow}
use Rattle.follow_round.specs.declared.following.FollowFault.{FollowFault}
use Rattle.follow_round.specs.declared.following.FollowFault.TheVariants as fault
use Rattle.follow_round.specs.declared.following.Next.{Next}
use Rattle.follow_round.specs.declared.following.Next.TheVariants.{Again, CaughtUp, Ends}
use Rattle.follow_round.specs.declared.heard.Heard.{Heard}
use Rattle.follow_round.specs.declared.heard.Heard.TheVariants as heard
use Rattle.follow_round.specs.declared.outcome.Round.{Round}
use Rattle.follow_round.specs.declared.outcome.Round.TheVariants as round
use Rattle.follow_round.specs.declared.outcome.RoundFault.{RoundFault}
use Rattle.follow_round.specs.declared.outcome.RoundFault.TheVariants as failed

took_then : {A : Type 0} (o m n : Option (List A)) (xs ys : List A) → Took o m xs → Took m n ys → Took o n (xs ++ ys)
took_then None None None xs ys p q = tt
took_then None None (Some c) xs ys p q = absurd q
took_then None (Some b) n xs ys p q = absurd p
took_then (Some a) None n xs ys p q = absurd p
took_then (Some a) (Some b) None xs ys p q = absurd q
took_then (Some a) (Some b) (Some c) xs ys p q = p ∙ (ap (λ w. xs ++ w) q ∙ sym (append_assoc xs ys c))

came_then : {A : Type 0} (o m n : Option (List A)) (xs ys : List A) → Came o m xs → Came m n ys → Came o n (xs ++ ys)
came_then o m None xs ys p q = tt
came_then o None (Some c) xs ys p q = absurd q
came_then None (Some b) (Some c) xs ys p q = absurd p
came_then (Some a) (Some b) (Some c) xs ys p q = q ∙ (ap (λ w. w ++ ys) p ∙ append_assoc a xs ys)

took_none : {A : Type 0} (o : Option (List A)) → Took o o []
took_none None = tt
took_none (Some xs) = refl

came_none : {A : Type 0} (o : Option (List A)) → Came o o []
came_none None = tt
came_none (Some xs) = sym (append-nil xs)

-- ---- lists with one more

all_more : (ts : List Turned) (t : Turned) → AllByRecursion GoesOn ts → GoesOn t → AllByRecursion GoesOn (ts ++ t ∷ [])
all_more [] t all one = (one, tt)
all_more (u ∷ ts) t all one = (all.0, all_more ts t all.1 one)

brought_more : (ts : List Turned) (bodies : List (List Entry)) (t : Turned) (es : List Entry) → AreBrought ts bodies → Brings t.heard t.taken es → AreBrought (ts ++ t ∷ []) (bodies ++ es ∷ [])
brought_more [] [] t es all one = (one, tt)
brought_more (u ∷ ts) (b ∷ bodies) t es all one = (all.0, brought_more ts bodies t es all.1 one)
brought_more [] (b ∷ bodies) t es all one = absurd all
brought_more (u ∷ ts) [] t es all one = absurd all

coming_more : (n : ℕ) (bodies : List (List Entry)) (es : List Entry) → coming_in n (bodies ++ es ∷ []) ≡ coming_in n bodies ++ coming_from (n + length (coming_in n bodies) + 1) es
coming_more n [] es =
    let at : n + 1 ≡ n + 0 + 1 = omega arith in
    append-nil (coming_from (n + 1) es) ∙ ap (λ (m : ℕ). coming_from m es) at
coming_more n (b ∷ bodies) es =
    let c = coming_from (n + 1) b in
    let x = coming_in (n + length c) bodies in
    let at : n + length c + length x + 1 ≡ n + length (c ++ x) + 1 = (let both = length-append c x in omega (arith, both)) in
    ap (λ (l : List Entry). c ++ l) (coming_more (n + length c) bodies es ∙ ap (λ (m : ℕ). x ++ coming_from m es) at)
    ∙ sym (append_assoc c x (coming_from (n + length (c ++ x) + 1) es))

differs : (m n : ℕ) → (m == n) ≡ false → m ≤ n → m < n
differs m n other le = grind (arith, nat_tests, other, le)

length_more : (ts : List Turned) (t : Turned) → length (ts ++ t ∷ []) ≡ length ts + 1
length_more ts t = length-append ts (t ∷ [])

-- ---- one round

not_again : {P : Type 0} (why : FollowFault) → Ends why ≡ Again → P
not_again why is = absurd (apart is)
  where
    apart : Ends why ≡ Again → ⊥
    apart h = cc

ends_caught : {P : Type 0} (why : FollowFault) → Ends why ≡ CaughtUp → P
ends_caught why is = absurd (apart is)
  where
    apart : Ends why ≡ CaughtUp → ⊥
    apart h = cc

caught_again : {P : Type 0} → CaughtUp ≡ Again → P
caught_again is = absurd (apart is)
  where
    apart : CaughtUp ≡ Again → ⊥
    apart h = cc

-- whether the disk stopped the replica in a round that answered so
abbrev StaysOn : {D : Type 0} → (D → DiskView) → Result Round RoundFault → Archived D → Archived D → Type 0
StaysOn view (Err (failed.Take why)) a b = RunsBy view why a b
StaysOn view _ a b = b.stopped ≡ a.stopped

-- a fault that was counted in a part of a time was counted in the whole
rose_so : (opening a b c : ℕ) → a ≤ b → b ≤ c → Rose b c ⊎ Rose opening b → Rose a c ⊎ Rose opening a
rose_so opening a b c ab bc (inl rose) = inl (omega (arith, rose, ab, bc))
rose_so opening a b c ab bc (inr rose) = elim (cases_lt a (opening + 1)) [
  | inl low ↦ inl (omega (arith, low, rose, ab, bc))
  | inr high ↦ inr (omega (arith, high))
]

runs_then : {D : Type 0} (view : D → DiskView) (why : TakeFault) (a b c : Archived D) → b.stopped ≡ a.stopped → b.faults ≡ a.faults → (view a.disk).faults ≤ (view b.disk).faults
    → (view b.disk).faults ≤ (view c.disk).faults → RunsBy view why b c → RunsBy view why a c
runs_then view (take.Form at) a b c same opening ab bc runs = runs ∙ same
runs_then view (take.Gap n) a b c same opening ab bc runs = runs ∙ same
runs_then view (take.Unlawful n) a b c same opening ab bc runs = runs ∙ same
runs_then view take.DiskFault a b c same opening ab bc runs =
    rose_so a.faults (view a.disk).faults (view b.disk).faults (view c.disk).faults ab bc
    (subst (λ (n : ℕ). Rose (view b.disk).faults (view c.disk).faults ⊎ Rose n (view b.disk).faults) opening runs)
runs_then view take.OutOfMemory a b c same opening ab bc runs = runs ∙ same

module _ {D : Type 0} (view : D → DiskView) where
  -- what a round brings and adds
  pub record RoundAdds (a b : Archived D) (h : Heard) (taken : Result ℕ TakeFault) : Type 0 where
    pub es : List Entry
    pub brings : Brings h taken es
    pub rest : List Entry
    pub adds : Adds view a b (coming_from (a.count + 1) es) rest
    pub goes : next_of (answer_of h taken) false ≡ Again → (rest ≡ []) × (b.stopped ≡ a.stopped)
    pub runs : StaysOn view (answer_of h taken) a b

  module _ (a b : Archived D) (honest : WhereTold (view a.disk) (IsHonest (view a.disk))) (stands : WhereTold (view a.disk) (Stands view a)) where
    unchanged : b ≡ a → Adds view a b [] []
    unchanged same = subst (λ (x : Archived D). Adds view a x [] []) (sym same) (adds_none view a [] honest stands)

    halts : b ≡ a → b.stopped ≡ a.stopped
    halts same = ap (λ (x : Archived D). x.stopped) same

    round_adds : (h : Heard) (taken : Result ℕ TakeFault) → TakesHeard view h a b taken → RoundAdds a b h taken
    round_adds (heard.Brought body) (Ok n) (es, is, none, (adds, counted, same)) = record { es = es; brings = is; rest = []; adds = adds; goes = λ again. (refl, same); runs = same }
    round_adds (heard.Brought body) (Err (take.Form at)) (bad, same) =
        record { es = []; brings = refl; rest = []; adds = unchanged same; goes = not_again (fault.Take (take.Form at)); runs = halts same }
    round_adds (heard.Brought body) (Err (take.Gap n)) (es, is, gap, same) =
        record { es = []; brings = refl; rest = []; adds = unchanged same; goes = not_again (fault.Take (take.Gap n)); runs = halts same }
    round_adds (heard.Brought body) (Err (take.Unlawful n)) (es, is, none, (e, rest, adds, refused)) =
        record { es = es; brings = is; rest = e ∷ rest; adds = adds; goes = not_again (fault.Take (take.Unlawful n)); runs = refused.stopped }
    round_adds (heard.Brought body) (Err take.DiskFault) (es, is, none, (e, rest, adds, stopped)) =
        record { es = es; brings = is; rest = e ∷ rest; adds = adds; goes = not_again (fault.Take take.DiskFault); runs = stopped.cause }
    round_adds (heard.Brought body) (Err take.OutOfMemory) (inl same) =
        record { es = []; brings = inl refl; rest = []; adds = unchanged same; goes = not_again (fault.Take take.OutOfMemory); runs = halts same }
    round_adds (heard.Brought body) (Err take.OutOfMemory) (inr (es, is, none, (rest, adds, same))) =
        record { es = es; brings = inr is; rest = rest; adds = adds; goes = not_again (fault.Take take.OutOfMemory); runs = same }
    round_adds heard.CaughtUp taken same = record { es = []; brings = refl; rest = []; adds = unchanged same; goes = caught_again; runs = halts same }
    round_adds (heard.Peer status) taken same = record { es = []; brings = refl; rest = []; adds = unchanged same; goes = not_again (fault.Peer status); runs = halts same }
    round_adds heard.BadReply taken same = record { es = []; brings = refl; rest = []; adds = unchanged same; goes = not_again fault.BadReply; runs = halts same }
    round_adds heard.Lost taken same = record { es = []; brings = refl; rest = []; adds = unchanged same; goes = λ again. (refl, halts same); runs = halts same }

  module _ (user ha1 : List ℕ) where
    round_more : (old mid new : Archived D) (gave : List StreamView) (came : List Visitor) (ts : List Turned) (link : StreamView) (back : Visitor) (t : Turned)
        → AreRounds view user ha1 old gave came ts mid → HeardOn user ha1 (mid.count + 1) link back.link t.heard → TakesHeard view t.heard mid new t.taken → back.turns ≡ []
        → AreRounds view user ha1 old (gave ++ link ∷ []) (came ++ back ∷ []) (ts ++ t ∷ []) new
    round_more old mid new [] [] [] link back t same on takes none = (
      new,
      subst (λ (x : Archived D). HeardOn user ha1 (x.count + 1) link back.link t.heard) same on,
      subst (λ (x : Archived D). TakesHeard view t.heard x new t.taken) same takes,
      none,
      refl,
    )
    round_more old mid new (l ∷ gave) (b ∷ came) (u ∷ ts) link back t (x, heard_on, taken, came_so, all) on takes none =
        (x, heard_on, taken, came_so, round_more x mid new gave came ts link back t all on takes none)
    round_more old mid new [] [] (u ∷ ts) link back t all on takes none = absurd all
    round_more old mid new [] (b ∷ came) ts link back t all on takes none = absurd all
    round_more old mid new (l ∷ gave) [] ts link back t all on takes none = absurd all
    round_more old mid new (l ∷ gave) (b ∷ came) [] link back t all on takes none = absurd all

    -- what was known before a link was taken: `a` and `p` are told of the start, `b` and `q` of now
    pub record SoFar (a b : Archived D) (p q : PortView) (done : ℕ) : Type 0 where
      pub gave : List StreamView
      pub came : List Visitor
      pub rounds : List Turned
      pub bodies : List (List Entry)
      pub left : Took p.left q.left gave
      pub back : Came p.back q.back came
      pub later : p.faults ≤ q.faults
      pub on : AreRounds view user ha1 a gave came rounds b
      pub went : AllByRecursion GoesOn rounds
      pub counted : length rounds ≡ done
      pub brought : AreBrought rounds bodies
      pub adds : Adds view a b (coming_in a.count bodies) []
      pub stopped : b.stopped ≡ a.stopped

    pub so_far_none : (a : Archived D) (p : PortView) → WhereTold (view a.disk) (IsHonest (view a.disk)) → WhereTold (view a.disk) (Stands view a) → SoFar a a p p 0
    so_far_none a p honest stands = record {
      gave = [];
      came = [];
      rounds = [];
      bodies = [];
      left = took_none p.left;
      back = came_none p.back;
      later = omega arith;
      on = refl;
      went = tt;
      counted = refl;
      brought = tt;
      adds = adds_none view a [] honest stands;
      stopped = refl;
    }

    module _ (a b : Archived D) (p q : PortView) (done most : ℕ) (so : SoFar a b p q done) (few : done < most) where
      go_all : GoAll most so.rounds
      go_all = record { went = so.went; few = (let n = so.counted in omega (arith, n, few)) }

      -- the port failed, or gave nothing more
      abbrev still : (d : PortView) → d.left ≡ q.left → d.back ≡ q.back → q.faults ≤ d.faults → Follows view user ha1 p d a b so.rounds
      still d left back later = record {
        gave = so.gave;
        came = so.came;
        more = [];
        short = [];
        left = subst (Took p.left d.left) (sym (append-nil so.gave)) (subst (λ o. Took p.left o so.gave) (sym left) so.left);
        back = subst (Came p.back d.back) (sym (append-nil so.came)) (subst (λ o. Came p.back o so.came) (sym back) so.back);
        later = (let before = so.later in omega (arith, before, later));
        on = so.on;
        cut = tt;
        bodies = so.bodies;
        brought = so.brought;
        rest = [];
        adds = so.adds;
      }

      pub spent : (d : PortView) → IsSpent q.left → d.left ≡ q.left → d.back ≡ q.back → q.faults ≤ d.faults → FollowsRow view user ha1 most p d a b (Err fault.NoLink)
      spent d none left back later = (so.rounds, still d left back later, (go_all, refl, subst (λ o. IsSpent o) (sym left) none), so.stopped)

      pub port_failed : (d : PortView) → d.left ≡ q.left → d.back ≡ q.back → q.faults ≤ d.faults → Rose q.faults d.faults → FollowsRow view user ha1 most p d a b (Err fault.PortFault)
      port_failed d left back later rose = (so.rounds, still d left back later, (go_all, refl, (let before = so.later in omega (arith, before, rose))), so.stopped)

      module _ (new : Archived D) (m d : PortView) (link after_link : StreamView) (took : Took q.left m.left (link ∷ [])) (kept : m.back ≡ q.back) (grew : q.faults ≤ m.faults)
          (left : d.left ≡ m.left) (came : Came m.back d.back (visitor after_link [] ∷ [])) (same : d.faults ≡ m.faults)
          (honest : WhereTold (view b.disk) (IsHonest (view b.disk))) (stands : WhereTold (view b.disk) (Stands view b)) where
        all_left : Took p.left d.left (so.gave ++ link ∷ [])
        all_left = took_then p.left q.left d.left so.gave (link ∷ []) so.left (subst (λ o. Took q.left o (link ∷ [])) (sym left) took)

        all_back : Came p.back d.back (so.came ++ visitor after_link [] ∷ [])
        all_back = came_then p.back q.back d.back so.came (visitor after_link [] ∷ []) so.back (subst (λ o. Came o d.back (visitor after_link [] ∷ [])) kept came)

        all_later : p.faults ≤ d.faults
        all_later = let before = so.later in omega (arith, before, grew, same)

        -- there was no memory to ask
        pub cut_short : IsCutShort user ha1 link after_link b new → FollowsRow view user ha1 most p d a new (Err fault.OutOfMemory)
        cut_short cut =
            let wrote = cut.wrote in
            subst (λ (x : Archived D). FollowsRow view user ha1 most p d a x (Err fault.OutOfMemory)) (sym cut.same) (
              so.rounds,
              record {
                gave = so.gave;
                came = so.came;
                more = link ∷ [];
                short = visitor after_link [] ∷ [];
                left = all_left;
                back = all_back;
                later = all_later;
                on = so.on;
                cut = (wrote, refl);
                bodies = so.bodies;
                brought = so.brought;
                rest = [];
                adds = so.adds;
              },
              (go_all, link, refl),
              so.stopped,
            )

        module _ (answer : Result Round RoundFault) (is : IsRound view user ha1 link after_link b new answer) where
          abbrev turned : Turned
          turned = record { heard = is.heard; taken = is.taken }

          abbrev all : List Turned
          all = so.rounds ++ turned ∷ []

          added : RoundAdds b new is.heard is.taken
          added = round_adds b new honest stands is.heard is.taken is.takes

          all_on : AreRounds view user ha1 a (so.gave ++ link ∷ []) (so.came ++ visitor after_link [] ∷ []) all new
          all_on = round_more a b new so.gave so.came so.rounds link (visitor after_link []) turned so.on is.on is.takes refl

          all_adds : Adds view a new (coming_in a.count (so.bodies ++ added.es ∷ [])) added.rest
          all_adds =
              let coming = coming_in a.count so.bodies in
              let counted = so.adds.counted in
              let split = ap length (so.adds.split ∙ append-nil so.adds.added) in
              let at : b.count + 1 ≡ a.count + length coming + 1 = omega (arith, counted, split) in
              let means : coming_in a.count (so.bodies ++ added.es ∷ []) ≡ coming ++ coming_from (b.count + 1) added.es =
              coming_more a.count so.bodies added.es ∙ ap (λ (n : ℕ). coming ++ coming_from n added.es) (sym at) in
              subst (λ (l : List Entry). Adds view a new l added.rest) (sym means) (adds_both view a b new coming (coming_from (b.count + 1) added.es) added.rest so.stopped so.adds added.adds)

          abbrev follows_one : Follows view user ha1 p d a new all
          follows_one = record {
            gave = so.gave ++ link ∷ [];
            came = so.came ++ visitor after_link [] ∷ [];
            more = [];
            short = [];
            left = subst (Took p.left d.left) (sym (append-nil (so.gave ++ link ∷ []))) all_left;
            back = subst (Came p.back d.back) (sym (append-nil (so.came ++ visitor after_link [] ∷ []))) all_back;
            later = all_later;
            on = all_on;
            cut = tt;
            bodies = so.bodies ++ added.es ∷ [];
            brought = brought_more so.rounds so.bodies turned added.es so.brought added.brings;
            rest = added.rest;
            adds = all_adds;
          }

          how_many : length all ≡ done + 1
          how_many = length_more so.rounds turned ∙ ap (λ (n : ℕ). n + 1) so.counted

          ends_by : (next : Next) → next_of answer (done + 1 == most) ≡ next → EndsBy most all next
          ends_by next says = record {
            others = so.rounds;
            last = turned;
            split = refl;
            went = so.went;
            few = (let n = how_many in omega (arith, n, few));
            says = ap (λ (r : Result Round RoundFault). next_of r (length all == most)) (sym is.answer) ∙ ap (λ (n : ℕ). next_of answer (n == most)) how_many ∙ says;
          }

          pub caught_up : (n : ℕ) → n ≡ new.count → new.stopped ≡ b.stopped → next_of answer (done + 1 == most) ≡ CaughtUp → FollowsRow view user ha1 most p d a new (Ok n)
          caught_up n count on says = (all, follows_one, (ends_by CaughtUp says, refl, count), on ∙ so.stopped)

          pub runs_on : StaysOn view answer b new
          runs_on = subst (λ (r : Result Round RoundFault). StaysOn view r b new) (sym is.answer) added.runs

          goes : next_of answer (done + 1 == most) ≡ Again → next_of answer false ≡ Again
          goes says = by answer (done + 1 == most) says
            where
              by : (r : Result Round RoundFault) (last : Bool) → next_of r last ≡ Again → next_of r false ≡ Again
              by (Ok (round.Added n)) last h = refl
              by (Ok round.CaughtUp) last h = h
              by (Err failed.Lost) last h = refl
              by (Err (failed.Peer status)) last h = h
              by (Err failed.BadReply) last h = h
              by (Err (failed.Take why)) last h = h
              by (Err failed.OutOfMemory) last h = h

          pub goes_on : next_of answer (done + 1 == most) ≡ Again → SoFar a new p d (done + 1)
          goes_on says =
              let again : next_of (answer_of is.heard is.taken) false ≡ Again = ap (λ (r : Result Round RoundFault). next_of r false) (sym is.answer) ∙ goes says in
              let quiet = added.goes again in
              record {
                gave = so.gave ++ link ∷ [];
                came = so.came ++ visitor after_link [] ∷ [];
                rounds = all;
                bodies = so.bodies ++ added.es ∷ [];
                left = all_left;
                back = all_back;
                later = all_later;
                on = all_on;
                went = all_more so.rounds turned so.went again;
                counted = how_many;
                brought = brought_more so.rounds so.bodies turned added.es so.brought added.brings;
                adds = subst (Adds view a new (coming_in a.count (so.bodies ++ added.es ∷ []))) quiet.0 all_adds;
                stopped = quiet.1 ∙ so.stopped;
              }

        -- ---- by the row of a round

        abbrev is_last : Bool
        is_last = done + 1 == most

        pub row_caught : (answer : Result Round RoundFault) (n : ℕ) → n ≡ new.count → RoundRow view user ha1 link after_link b new answer → next_of answer is_last ≡ CaughtUp
            → FollowsRow view user ha1 most p d a new (Ok n)
        row_caught (Ok (round.Added k)) n count row says = caught_up (Ok (round.Added k)) row n count (runs_on (Ok (round.Added k)) row) says
        row_caught (Ok round.CaughtUp) n count row says = caught_up (Ok round.CaughtUp) row n count (runs_on (Ok round.CaughtUp) row) says
        row_caught (Err failed.Lost) n count row says = caught_up (Err failed.Lost) row n count (runs_on (Err failed.Lost) row) says
        row_caught (Err (failed.Peer status)) n count row says = caught_up (Err (failed.Peer status)) row n count (runs_on (Err (failed.Peer status)) row) says
        row_caught (Err failed.BadReply) n count row says = caught_up (Err failed.BadReply) row n count (runs_on (Err failed.BadReply) row) says
        row_caught (Err (failed.Take why)) n count row says = ends_caught (fault.Take why) says
        row_caught (Err failed.OutOfMemory) n count row says = absurd (apart says)
          where
            apart : Ends fault.OutOfMemory ≡ CaughtUp → ⊥
            apart h = cc

        pub row_again : (answer : Result Round RoundFault) → RoundRow view user ha1 link after_link b new answer → next_of answer is_last ≡ Again → SoFar a new p d (done + 1)
        row_again (Ok (round.Added k)) row says = goes_on (Ok (round.Added k)) row says
        row_again (Ok round.CaughtUp) row says = goes_on (Ok round.CaughtUp) row says
        row_again (Err failed.Lost) row says = goes_on (Err failed.Lost) row says
        row_again (Err (failed.Peer status)) row says = goes_on (Err (failed.Peer status)) row says
        row_again (Err failed.BadReply) row says = goes_on (Err failed.BadReply) row says
        row_again (Err (failed.Take why)) row says = goes_on (Err (failed.Take why)) row says
        row_again (Err failed.OutOfMemory) row says = not_again fault.OutOfMemory says

        pub not_last : (answer : Result Round RoundFault) → next_of answer is_last ≡ Again → done + 1 < most
        not_last answer says = by is_last refl says
          where
            ends : (r : Result Round RoundFault) → next_of r true ≡ Again → ⊥
            ends (Ok (round.Added n)) h = not_again fault.Used h
            ends (Ok round.CaughtUp) h = caught_again h
            ends (Err failed.Lost) h = not_again fault.Lost h
            ends (Err (failed.Peer status)) h = not_again (fault.Peer status) h
            ends (Err failed.BadReply) h = not_again fault.BadReply h
            ends (Err (failed.Take why)) h = not_again (fault.Take why) h
            ends (Err failed.OutOfMemory) h = not_again fault.OutOfMemory h

            by : (t : Bool) → is_last ≡ t → next_of answer t ≡ Again → done + 1 < most
            by true at h = absurd (ends answer h)
            by false at h = differs (done + 1) most at (omega (arith, few))

        abbrev Row : FollowFault → Type 0
        Row why = FollowsRow view user ha1 most p d a new (Err why)

        told : (x why : FollowFault) → Ends x ≡ Ends why → Row x → Row why
        told x why same row = let e : x ≡ why = cc in subst Row e row

        pub row_ends : (answer : Result Round RoundFault) (why : FollowFault) → RoundRow view user ha1 link after_link b new answer → next_of answer is_last ≡ Ends why → Row why
        row_ends (Ok (round.Added k)) why row says = by is_last refl says
          where
            by : (t : Bool) → is_last ≡ t → next_of (Ok (round.Added k)) t ≡ Ends why → Row why
            by true at h = told fault.Used why h
                (all (Ok (round.Added k)) row, follows_one (Ok (round.Added k)) row, (ends_by (Ok (round.Added k)) row (Ends fault.Used) (ap (next_of (Ok (round.Added k))) at), refl), runs_on (Ok (round.Added k)) row ∙ so.stopped)
            by false at h = not_again why (sym h)
        row_ends (Ok round.CaughtUp) why row says = absurd (apart says)
          where
            apart : CaughtUp ≡ Ends why → ⊥
            apart h = cc
        row_ends (Err failed.Lost) why row says = by is_last refl says
          where
            by : (t : Bool) → is_last ≡ t → next_of (Err failed.Lost) t ≡ Ends why → Row why
            by true at h = told fault.Lost why h
                (all (Err failed.Lost) row, follows_one (Err failed.Lost) row, (ends_by (Err failed.Lost) row (Ends fault.Lost) (ap (next_of (Err failed.Lost)) at), refl), runs_on (Err failed.Lost) row ∙ so.stopped)
            by false at h = not_again why (sym h)
        row_ends (Err (failed.Peer status)) why row says = told (fault.Peer status) why says
            (all (Err (failed.Peer status)) row, follows_one (Err (failed.Peer status)) row, (ends_by (Err (failed.Peer status)) row (Ends (fault.Peer status)) refl, refl), runs_on (Err (failed.Peer status)) row ∙ so.stopped)
        row_ends (Err failed.BadReply) why row says = told fault.BadReply why says
            (all (Err failed.BadReply) row, follows_one (Err failed.BadReply) row, (ends_by (Err failed.BadReply) row (Ends fault.BadReply) refl, refl), runs_on (Err failed.BadReply) row ∙ so.stopped)
        row_ends (Err (failed.Take f)) why row says = told (fault.Take f) why says
            (all (Err (failed.Take f)) row, follows_one (Err (failed.Take f)) row, (ends_by (Err (failed.Take f)) row (Ends (fault.Take f)) refl, refl), runs_then view f a b new so.stopped so.adds.opening so.adds.later (added (Err (failed.Take f)) row).adds.later (runs_on (Err (failed.Take f)) row))
        row_ends (Err failed.OutOfMemory) why row says = told fault.OutOfMemory why says (cut_short row)
