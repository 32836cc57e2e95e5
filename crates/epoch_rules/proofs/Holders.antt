-- Which lines lose what they rest on with one line more: containers.
use Rattle.std.proofs.Common.{◌≡◌, ◌∙◌, ◌==◌, Bool, true, false, not, ◌&&◌, inl, inr, List, Some, if◌then◌else◌, sym, ap, eq-eqb}
use Rattle.std.specs.Prelude.{int_le}
use Rattle.std.specs.List.{list_any, AllByRecursion}
use Rattle.std.proofs.lemmas.Bool.{and_from, and_parts, both_ways, cases_Bool, eqb-true, false_from_ne_true, not-false, not-true, not_from_false, or_cases, or_left, or_right}
use Rattle.epochs.specs.declared.kinds.LineKind.{LineKind}
use Rattle.epochs.specs.Lines.{LineValues, end_of}
use Rattle.epoch_rules.specs.Catalog.{IsCatalog}
use Rattle.std.specs.Ordering.{is_eq}
use Rattle.epoch_rules.specs.KeyOrder.{KeyParts, key_parts_of, parts_cmp, have_one_key, rank_of}
use Rattle.epoch_rules.specs.LiveLines.{is_said}
use Rattle.epoch_rules.specs.Losses.{new_end, is_cut, loses}
use Rattle.epoch_rules.specs.Rules.{is_line_of, is_epoch, epoch_start, is_before_end, ends_by, overlap, contains, have_one_family, with_line}
use Rattle.epoch_rules.proofs.Ends.{before_ends, earlier_before, ends_at, ends_before, ends_itself, ends_trans, moment_ends}
use Rattle.epoch_rules.proofs.FamilyKeys.{has_one_key, kind_rank, one_key, rank_kind}
use Rattle.epoch_rules.proofs.Members.{Has, all_has, and_first, and_no, any_has, has_any, none_has, same_bool}
use Rattle.epoch_rules.proofs.NearRivals.{lie_apart}
use Rattle.epoch_rules.proofs.Tidy.{Tidy}
use Rattle.epoch_rules.proofs.WithLine.{any_with_line}

module _ (outer inner : LineKind) (codes : KeyParts → KeyParts → Bool) where
  -- a line is of the outer kind, has the codes and contains the other
  abbrev pub holds : LineValues → LineValues → Bool
  holds x l = is_line_of outer l && codes (key_parts_of l) (key_parts_of x) && contains l x

  -- a line of the inner kind has no such container
  abbrev pub lacks : List LineValues → LineValues → Bool
  lacks live x = is_line_of inner x && not (list_any (holds x) live)

module _ (outer inner : LineKind) (codes : KeyParts → KeyParts → Bool)
    (outer_epoch : (x : LineValues) → is_line_of outer x ≡ true → is_epoch x ≡ true)
    (inner_epoch : (x : LineValues) → is_line_of inner x ≡ true → is_epoch x ≡ true)
    (kinds_differ : rank_of outer ≡ rank_of inner → ⊥)
    (family : (a b x : LineValues) → Tidy a → Tidy b → is_line_of outer a ≡ true → is_line_of outer b ≡ true → codes (key_parts_of a) (key_parts_of x) ≡ true → codes (key_parts_of b) (key_parts_of x) ≡ true → have_one_family a b ≡ true)
    (live : List LineValues) (e : LineValues) (is : IsCatalog live) (neat : AllByRecursion Tidy live) (tidy_e : Tidy e)
    (rests : list_any (lacks outer inner codes live) live ≡ false) (held : lacks outer inner codes live e ≡ false) where
  Held : LineValues → LineValues → Type 0
  Held x c = (is_line_of outer c ≡ true) × (codes (key_parts_of c) (key_parts_of x) ≡ true) × (int_le (epoch_start c) (epoch_start x) ≡ true) × (ends_by (end_of x.values) (end_of c.values) ≡ true)

  opened : (x c : LineValues) → holds outer inner codes x c ≡ true → Held x c
  unfolding Held
  opened x c h =
      let p = and_parts (is_line_of outer c && codes (key_parts_of c) (key_parts_of x)) (contains c x) h in
      let q = and_parts (is_line_of outer c) (codes (key_parts_of c) (key_parts_of x)) p.0 in
      let r = and_parts (int_le (epoch_start c) (epoch_start x)) (ends_by (end_of x.values) (end_of c.values)) p.1 in
      (q.0, q.1, r.0, r.1)

  closed : (x c : LineValues) → is_line_of outer c ≡ true → codes (key_parts_of c) (key_parts_of x) ≡ true → int_le (epoch_start c) (epoch_start x) ≡ true → ends_by (end_of x.values) (end_of c.values) ≡ true → holds outer inner codes x c ≡ true
  closed x c kind same start stop =
      and_from (is_line_of outer c && codes (key_parts_of c) (key_parts_of x)) (contains c x) (and_from (is_line_of outer c) (codes (key_parts_of c) (key_parts_of x)) kind same) (and_from (int_le (epoch_start c) (epoch_start x)) (ends_by (end_of x.values) (end_of c.values)) start stop)

  -- lines of the two kinds have different keys
  other_key : (c : LineValues) → is_line_of outer c ≡ true → (x : LineValues) → is_line_of inner x ≡ true → have_one_key x c ≡ false
  other_key c c_is x x_is =
      false_from_ne_true (have_one_key x c) (λ same. kinds_differ (sym (kind_rank outer c c_is) ∙ sym (ap (λ p. p.rank) (one_key x c same)) ∙ kind_rank inner x x_is))

  -- a live line of the inner kind has one live container alone
  one_holder : (x a b : LineValues) → Has live x → Has live a → Has live b → is_line_of inner x ≡ true → Held x a → Held x b → have_one_key a b ≡ true
  unfolding Held
  one_holder x a b x_in a_in b_in kind h k =
      elim (cases_Bool (have_one_key a b)) [
        | inl same ↦ same
        | inr apart ↦
            (let forward = (all_has Tidy live x neat x_in).forward (inner_epoch x kind) in
            let over : overlap a b ≡ true =
            and_from (is_before_end (epoch_start a) (end_of b.values)) (is_before_end (epoch_start b) (end_of a.values))
            (before_ends (epoch_start a) (end_of x.values) (end_of b.values) (earlier_before (epoch_start a) (epoch_start x) (end_of x.values) h.2 forward) k.3)
            (before_ends (epoch_start b) (end_of x.values) (end_of a.values) (earlier_before (epoch_start b) (epoch_start x) (end_of x.values) k.2 forward) h.3) in
            absurd (both_ways (overlap a b)
            (lie_apart live is neat a b a_in b_in (outer_epoch a h.0) (family a b x (all_has Tidy live a neat a_in) (all_has Tidy live b neat b_in) h.0 k.0 h.1 k.1) apart) over))
      ]

  -- each live line of the inner kind has a live container
  holder : (x : LineValues) → Has live x → is_line_of inner x ≡ true → (c : LineValues) × Has live c × Held x c
  holder x x_in kind =
      let none = and_no (is_line_of inner x) (not (list_any (holds outer inner codes x) live)) (none_has (lacks outer inner codes live) live x rests x_in) kind in
      let some : list_any (holds outer inner codes x) live ≡ true = not-false (list_any (holds outer inner codes x) live) none in
      let found = has_any (holds outer inner codes x) live some in
      (found.0, found.1, opened x found.0 found.2)

  after : List LineValues
  after = with_line live e

  -- a container that isn't replaced stays
  stays : (x c : LineValues) → Has live c → Held x c → have_one_key e c ≡ false → list_any (holds outer inner codes x) after ≡ true
  unfolding Held after
  stays x c c_in h apart =
      any_with_line (holds outer inner codes x) live e is.rises is.states
      ∙ or_right (is_said e && holds outer inner codes x e) _
      (any_has (λ l. not (have_one_key e l) && holds outer inner codes x l) live c c_in
      (and_from (not (have_one_key e c)) (holds outer inner codes x c) (not_from_false (have_one_key e c) apart) (closed x c h.0 h.1 h.2 h.3)))

  new_holds : (x : LineValues) → is_said e ≡ true → holds outer inner codes x e ≡ true → list_any (holds outer inner codes x) after ≡ true
  unfolding after
  new_holds x said h =
      any_with_line (holds outer inner codes x) live e is.rises is.states
      ∙ or_left (is_said e && holds outer inner codes x e) _ (and_from (is_said e) (holds outer inner codes x e) said h)

  -- what isn't held any more
  Lost : LineValues → Type 0
  Lost x = (is_line_of inner x ≡ true) × (list_any (holds outer inner codes x) after ≡ false)

  -- the line itself isn't lost
  not_itself : is_said e ≡ true → Lost e → ⊥
  unfolding Lost Held
  not_itself said lost =
      let none = and_no (is_line_of inner e) (not (list_any (holds outer inner codes e) live)) held lost.0 in
      let some = has_any (holds outer inner codes e) live (not-false (list_any (holds outer inner codes e) live) none) in
      let h = opened e some.0 some.2 in
      both_ways (list_any (holds outer inner codes e) after) lost.1 (stays e some.0 some.1 h (other_key some.0 h.0 e lost.0))

  start_key : (c : LineValues) → Tidy c → is_line_of outer c ≡ true → have_one_key e c ≡ true → epoch_start c ≡ (key_parts_of e).start
  start_key c neat_c kind same = neat_c.starts (outer_epoch c kind) ∙ sym (ap (λ p. p.start) (one_key e c same))

  -- the line's new end isn't before its start
  start_first : (key_parts_of e).rank ≡ rank_of outer → ends_by (Some (key_parts_of e).start) (new_end e) ≡ true
  start_first rank =
      elim (cases_Bool (is_said e)) [
        | inl said ↦
            (let epoch = outer_epoch e (rank_kind outer e said rank) in
            ap (λ b. ends_by (Some (key_parts_of e).start) (if b then end_of e.values else Some (key_parts_of e).start)) said
            ∙ ap (λ s. ends_by (Some s) (end_of e.values)) (sym (tidy_e.starts epoch))
            ∙ moment_ends (epoch_start e) (end_of e.values) (tidy_e.forward epoch))
        | inr gone ↦
            ap (λ b. ends_by (Some (key_parts_of e).start) (if b then end_of e.values else Some (key_parts_of e).start)) gone ∙ ends_itself (Some (key_parts_of e).start)
      ]

  module _ (x : LineValues) (x_in : Has live x) (kind : is_line_of inner x ≡ true) where
    forward : is_before_end (epoch_start x) (end_of x.values) ≡ true
    forward = (all_has Tidy live x neat x_in).forward (inner_epoch x kind)

    -- the container of a line that is cut has the key
    cut_holder : (c o : LineValues) → Has live c → Has live o → Held x c → (key_parts_of e).rank ≡ rank_of outer → codes (key_parts_of e) (key_parts_of x) ≡ true → ends_by (end_of x.values) (new_end e) ≡ false
        → have_one_key e o ≡ true → ends_by (end_of x.values) (end_of o.values) ≡ true → have_one_key e c ≡ true
    unfolding Held
    cut_holder c o c_in o_in h rank same behind key within =
        elim (cases_Bool (have_one_key e c)) [
          | inl here ↦ here
          | inr apart ↦
              (let keys = one_key e o key in
              let o_apart : have_one_key o c ≡ false = sym (ap (λ p. is_eq (parts_cmp p (key_parts_of c))) keys) ∙ apart in
              let o_is : is_line_of outer o ≡ true = rank_kind outer o (all_has (λ l. is_said l ≡ true) live o is.states o_in) (sym (ap (λ p. p.rank) keys) ∙ rank) in
              let o_codes : codes (key_parts_of o) (key_parts_of x) ≡ true = sym (ap (λ p. codes p (key_parts_of x)) keys) ∙ same in
              let o_neat = all_has Tidy live o neat o_in in
              let c_neat = all_has Tidy live c neat c_in in
              let none = lie_apart live is neat o c o_in c_in (outer_epoch o o_is) (family o c x o_neat c_neat o_is h.0 o_codes h.1) o_apart in
              let later = before_ends (epoch_start c) (end_of x.values) (end_of o.values) (earlier_before (epoch_start c) (epoch_start x) (end_of x.values) h.2 forward) within in
              let stop = ends_at (epoch_start o) (end_of c.values) (and_first (is_before_end (epoch_start o) (end_of c.values)) (is_before_end (epoch_start c) (end_of o.values)) none later) in
              let at_start : ends_by (end_of x.values) (Some (key_parts_of e).start) ≡ true =
              ap (λ s. ends_by (end_of x.values) (Some s)) (sym (start_key o o_neat o_is key)) ∙ ends_trans (end_of x.values) (end_of c.values) (Some (epoch_start o)) h.3 stop in
              absurd (both_ways (ends_by (end_of x.values) (new_end e)) behind (ends_trans (end_of x.values) (Some (key_parts_of e).start) (new_end e) at_start (start_first rank))))
        ]

    cut_lost : (key_parts_of e).rank ≡ rank_of outer → is_cut inner codes live e x ≡ true → Lost x
    unfolding Lost Held after
    cut_lost rank cut =
        let p = and_parts (is_line_of inner x && codes (key_parts_of e) (key_parts_of x) && not (ends_by (end_of x.values) (new_end e))) _ cut in
        let q = and_parts (is_line_of inner x && codes (key_parts_of e) (key_parts_of x)) (not (ends_by (end_of x.values) (new_end e))) p.0 in
        let same = (and_parts (is_line_of inner x) (codes (key_parts_of e) (key_parts_of x)) q.0).1 in
        let behind = not-true (ends_by (end_of x.values) (new_end e)) q.1 in
        let o = has_any (λ l. have_one_key e l && ends_by (end_of x.values) (end_of l.values)) live p.1 in
        let o_is = and_parts (have_one_key e o.0) (ends_by (end_of x.values) (end_of o.0.values)) o.2 in
        let c = holder x x_in kind in
        let key = cut_holder c.0 o.0 c.1 o.1 c.2 rank same behind o_is.0 o_is.1 in (
          kind,
          false_from_ne_true (list_any (holds outer inner codes x) after)
              (λ some.
              elim (or_cases (is_said e && holds outer inner codes x e) (list_any (λ l. not (have_one_key e l) && holds outer inner codes x l) live) (sym (any_with_line (holds outer inner codes x) live e is.rises is.states) ∙ some)) [
                | inl here ↦
                    (let r = and_parts (is_said e) (holds outer inner codes x e) here in
                    let h = opened x e r.1 in
                    both_ways (ends_by (end_of x.values) (end_of e.values)) (sym (ap (λ b. ends_by (end_of x.values) (if b then end_of e.values else Some (key_parts_of e).start)) r.0) ∙ behind) h.3)
                | inr there ↦
                    (let d = has_any (λ l. not (have_one_key e l) && holds outer inner codes x l) live there in
                    let r = and_parts (not (have_one_key e d.0)) (holds outer inner codes x d.0) d.2 in
                    let alike = one_holder x c.0 d.0 x_in c.1 d.1 kind c.2 (opened x d.0 r.1) in
                    both_ways (have_one_key e d.0) (not-true (have_one_key e d.0) r.0) (has_one_key e d.0 (one_key e c.0 key ∙ one_key c.0 d.0 alike)))
              ]),
        )

    lost_cut : Lost x → ((key_parts_of e).rank ≡ rank_of outer) × (is_cut inner codes live e x ≡ true)
    unfolding Lost Held
    lost_cut lost =
        let c = holder x x_in kind in
        let h = c.2 in
        let key : have_one_key e c.0 ≡ true =
        elim (cases_Bool (have_one_key e c.0)) [
          | inl here ↦ here
          | inr apart ↦ absurd (both_ways (list_any (holds outer inner codes x) after) lost.1 (stays x c.0 c.1 c.2 apart))
        ] in
        let keys = one_key e c.0 key in
        let rank : (key_parts_of e).rank ≡ rank_of outer = ap (λ p. p.rank) keys ∙ kind_rank outer c.0 h.0 in
        let same : codes (key_parts_of e) (key_parts_of x) ≡ true = ap (λ p. codes p (key_parts_of x)) keys ∙ h.1 in
        let start : epoch_start c.0 ≡ (key_parts_of e).start = start_key c.0 (all_has Tidy live c.0 neat c.1) h.0 key in
        let behind : ends_by (end_of x.values) (new_end e) ≡ false =
        false_from_ne_true (ends_by (end_of x.values) (new_end e))
        (λ within.
        elim (cases_Bool (is_said e)) [
          | inl said ↦
              (let e_is = rank_kind outer e said rank in
              let first : int_le (epoch_start e) (epoch_start x) ≡ true = ap (λ s. int_le s (epoch_start x)) (tidy_e.starts (outer_epoch e e_is) ∙ sym start) ∙ h.2 in
              let stop : ends_by (end_of x.values) (end_of e.values) ≡ true = sym (ap (λ b. ends_by (end_of x.values) (if b then end_of e.values else Some (key_parts_of e).start)) said) ∙ within in
              both_ways (list_any (holds outer inner codes x) after) lost.1 (new_holds x said (closed x e e_is same first stop)))
          | inr gone ↦
              (let stop : ends_by (end_of x.values) (Some (epoch_start c.0)) ≡ true =
              ap (λ s. ends_by (end_of x.values) (Some s)) start ∙ sym (ap (λ b. ends_by (end_of x.values) (if b then end_of e.values else Some (key_parts_of e).start)) gone) ∙ within in
              both_ways (ends_by (end_of x.values) (Some (epoch_start c.0))) (ends_before (epoch_start c.0) (end_of x.values) (earlier_before (epoch_start c.0) (epoch_start x) (end_of x.values) h.2 forward)) stop)
        ]) in (
          rank,
          and_from (is_line_of inner x && codes (key_parts_of e) (key_parts_of x) && not (ends_by (end_of x.values) (new_end e))) _
              (and_from (is_line_of inner x && codes (key_parts_of e) (key_parts_of x)) (not (ends_by (end_of x.values) (new_end e))) (and_from (is_line_of inner x) (codes (key_parts_of e) (key_parts_of x)) kind same) (not_from_false (ends_by (end_of x.values) (new_end e)) behind))
              (any_has (λ o. have_one_key e o && ends_by (end_of x.values) (end_of o.values)) live c.0 c.1 (and_from (have_one_key e c.0) (ends_by (end_of x.values) (end_of c.0.values)) key h.3)),
        )

  lost_from : (x : LineValues) → lacks outer inner codes after x ≡ true → Lost x
  unfolding Lost
  lost_from x h =
      let p = and_parts (is_line_of inner x) (not (list_any (holds outer inner codes x) after)) h in
      (p.0, not-true (list_any (holds outer inner codes x) after) p.1)

  from_lost : (x : LineValues) → Lost x → lacks outer inner codes after x ≡ true
  unfolding Lost
  from_lost x lost = and_from (is_line_of inner x) (not (list_any (holds outer inner codes x) after)) lost.0 (not_from_false (list_any (holds outer inner codes x) after) lost.1)

  -- with the line, a line lacks its container exactly if it is cut
  pub loses_containers : list_any (lacks outer inner codes (with_line live e)) (with_line live e) ≡ loses outer inner codes live e
  unfolding after Lost
  loses_containers =
      same_bool (list_any (lacks outer inner codes after) after) (loses outer inner codes live e)
      (λ some.
      elim (or_cases (is_said e && lacks outer inner codes after e) (list_any (λ l. not (have_one_key e l) && lacks outer inner codes after l) live) (sym (any_with_line (lacks outer inner codes after) live e is.rises is.states) ∙ some)) [
        | inl here ↦ (let r = and_parts (is_said e) (lacks outer inner codes after e) here in absurd (not_itself r.0 (lost_from e r.1)))
        | inr there ↦
            (let x = has_any (λ l. not (have_one_key e l) && lacks outer inner codes after l) live there in
            let lost = lost_from x.0 (and_parts (not (have_one_key e x.0)) (lacks outer inner codes after x.0) x.2).1 in
            let cut = lost_cut x.0 x.1 lost.0 lost in
            and_from ((key_parts_of e).rank == rank_of outer) (list_any (is_cut inner codes live e) live) (eq-eqb (key_parts_of e).rank (rank_of outer) cut.0) (any_has (is_cut inner codes live e) live x.0 x.1 cut.1))
      ])
      (λ some.
      let p = and_parts ((key_parts_of e).rank == rank_of outer) (list_any (is_cut inner codes live e) live) some in
      let rank = eqb-true (key_parts_of e).rank (rank_of outer) p.0 in
      let x = has_any (is_cut inner codes live e) live p.1 in
      let kind = (and_parts (is_line_of inner x.0) (codes (key_parts_of e) (key_parts_of x.0)) (and_parts (is_line_of inner x.0 && codes (key_parts_of e) (key_parts_of x.0)) (not (ends_by (end_of x.0.values) (new_end e))) (and_parts (is_line_of inner x.0 && codes (key_parts_of e) (key_parts_of x.0) && not (ends_by (end_of x.0.values) (new_end e))) _ x.2).0).0).0 in
      let apart = false_from_ne_true (have_one_key e x.0) (λ same. kinds_differ (sym rank ∙ ap (λ q. q.rank) (one_key e x.0 same) ∙ kind_rank inner x.0 kind)) in
      any_with_line (lacks outer inner codes after) live e is.rises is.states
      ∙ or_right (is_said e && lacks outer inner codes after e) _
      (any_has (λ l. not (have_one_key e l) && lacks outer inner codes after l) live x.0 x.1
      (and_from (not (have_one_key e x.0)) (lacks outer inner codes after x.0) (not_from_false (have_one_key e x.0) apart) (from_lost x.0 (cut_lost x.0 x.1 kind rank x.2)))))
