-- Which grants lose their user with one line more.
use Rattle.std.proofs.Common.{◌≡◌, ◌∙◌, ◌==◌, Bool, true, false, not, ◌&&◌, inl, inr, List, sym, ap, eq-eqb, arith}
use Rattle.std.specs.List.{list_any, AllByRecursion}
use Rattle.std.specs.Str.{bytes_eq}
use Rattle.std.specs.Ordering.{is_eq}
use Rattle.std.specs.Cmp.Lexicographic.{nat_list_cmp_total}
use Rattle.std.proofs.lemmas.Cmp.{tied_itself}
use Rattle.std.proofs.lemmas.Bool.{and_from, and_parts, both_ways, cases_Bool, eqb-true, false_from_ne_true, not-false, not-true, not_from_false, or_cases, or_left, or_right}
use Rattle.std.proofs.lemmas.Map.Lookups.{exact_bytes}
use Rattle.std.proofs.lemmas.Map.Text.{is_eq-slice_cmp}
use Rattle.epochs.specs.declared.kinds.LineKind.TheVariants.{Grt, Usr}
use Rattle.epochs.specs.Kinds.{Text}
use Rattle.epochs.specs.Lines.{LineValues}
use Rattle.epoch_rules.specs.Catalog.{IsCatalog}
use Rattle.epoch_rules.specs.KeyOrder.{key_parts_of, text_cmp, have_one_key, rank_of}
use Rattle.epoch_rules.specs.LiveLines.{is_said}
use Rattle.epoch_rules.specs.Losses.{loses_grants}
use Rattle.epoch_rules.specs.Rules.{is_line_of, is_grantee, lacks_user, with_line}
use Rattle.epoch_rules.proofs.FamilyKeys.{has_one_key, kind_rank, one_key, rank_kind}
use Rattle.epoch_rules.proofs.Lookups.{is_equal}
use Rattle.epoch_rules.proofs.Members.{Has, all_has, and_no, any_has, has_any, none_has, same_bool}
use Rattle.epoch_rules.proofs.Tidy.{Tidy}
use Rattle.epoch_rules.proofs.WithLine.{any_with_line}

pub same_text : (a b : Text) → bytes_eq a b ≡ true → a ≡ b
same_text a b h = exact_bytes a b (is_equal (text_cmp a b) (is_eq-slice_cmp a b ∙ h))

pub text_itself : (a : Text) → bytes_eq a a ≡ true
text_itself a = sym (is_eq-slice_cmp a a) ∙ ap is_eq (tied_itself nat_list_cmp_total a)

five_six : rank_of Grt ≡ rank_of Usr → ⊥
five_six h = omega (arith, h)

-- users of one name have one key
one_user : (a b : LineValues) → Tidy a → Tidy b → (key_parts_of a).rank ≡ rank_of Usr → (key_parts_of b).rank ≡ rank_of Usr → (key_parts_of a).first ≡ (key_parts_of b).first → key_parts_of a ≡ key_parts_of b
one_user a b neat_a neat_b a_is b_is first =
    let p = neat_a.user a_is in
    let q = neat_b.user b_is in
    let rank = a_is ∙ sym b_is in
    (λ i. record {
      rank = rank i;
      first = first i;
      second = (p.0 ∙ sym q.0) i;
      third = (p.1 ∙ sym q.1) i;
      fourth = (p.2 ∙ sym q.2) i;
      fifth = (p.3 ∙ sym q.3) i;
      start = (p.4 ∙ sym q.4) i;
    })

module _ (live : List LineValues) (e : LineValues) (is : IsCatalog live) (neat : AllByRecursion Tidy live) (tidy_e : Tidy e)
    (rests : list_any (lacks_user live) live ≡ false) (held : lacks_user live e ≡ false) where
  after : List LineValues
  after = with_line live e

  stays : (x u : LineValues) → Has live u → is_grantee x u ≡ true → have_one_key e u ≡ false → list_any (is_grantee x) after ≡ true
  unfolding after
  stays x u u_in h apart =
      any_with_line (is_grantee x) live e is.rises is.states
      ∙ or_right (is_said e && is_grantee x e) _
      (any_has (λ l. not (have_one_key e l) && is_grantee x l) live u u_in (and_from (not (have_one_key e u)) (is_grantee x u) (not_from_false (have_one_key e u) apart) h))

  user_of : (x : LineValues) → lacks_user live x ≡ false → is_line_of Grt x ≡ true → (u : LineValues) × Has live u × (is_grantee x u ≡ true)
  user_of x none kind = has_any (is_grantee x) live (not-false (list_any (is_grantee x) live) (and_no (is_line_of Grt x) (not (list_any (is_grantee x) live)) none kind))

  other_key : (x u : LineValues) → is_line_of Grt x ≡ true → is_line_of Usr u ≡ true → have_one_key x u ≡ true → ⊥
  other_key x u x_is u_is same =
      let ranks : rank_of Grt ≡ rank_of Usr = sym (kind_rank Grt x x_is) ∙ ap (λ p. p.rank) (one_key x u same) ∙ kind_rank Usr u u_is in
      five_six ranks

  not_itself : lacks_user after e ≡ true → ⊥
  not_itself lost =
      let p = and_parts (is_line_of Grt e) (not (list_any (is_grantee e) after)) lost in
      let u = user_of e held p.0 in
      let u_is = (and_parts (is_line_of Usr u.0) (bytes_eq (key_parts_of u.0).first (key_parts_of e).first) u.2).0 in
      both_ways (list_any (is_grantee e) after) (not-true (list_any (is_grantee e) after) p.1) (stays e u.0 u.1 u.2 (false_from_ne_true (have_one_key e u.0) (other_key e u.0 p.0 u_is)))

  granted : LineValues → Bool
  granted x = is_line_of Grt x && bytes_eq (key_parts_of e).first (key_parts_of x).first

  -- a grant that lost its user is one of a deleted user
  lost_granted : (x : LineValues) → Has live x → lacks_user after x ≡ true → ((key_parts_of e).rank ≡ rank_of Usr) × (is_said e ≡ false) × (granted x ≡ true)
  unfolding after granted
  lost_granted x x_in lost =
      let p = and_parts (is_line_of Grt x) (not (list_any (is_grantee x) after)) lost in
      let none = not-true (list_any (is_grantee x) after) p.1 in
      let u = user_of x (none_has (lacks_user live) live x rests x_in) p.0 in
      let u_is = and_parts (is_line_of Usr u.0) (bytes_eq (key_parts_of u.0).first (key_parts_of x).first) u.2 in
      let key : have_one_key e u.0 ≡ true =
      elim (cases_Bool (have_one_key e u.0)) [
        | inl here ↦ here
        | inr apart ↦ absurd (both_ways (list_any (is_grantee x) after) none (stays x u.0 u.1 u.2 apart))
      ] in
      let keys = one_key e u.0 key in
      let rank : (key_parts_of e).rank ≡ rank_of Usr = ap (λ p. p.rank) keys ∙ kind_rank Usr u.0 u_is.0 in
      let first : bytes_eq (key_parts_of e).first (key_parts_of x).first ≡ true = ap (λ p. bytes_eq p.first (key_parts_of x).first) keys ∙ u_is.1 in (
        rank,
        false_from_ne_true (is_said e)
            (λ said.
            both_ways (list_any (is_grantee x) after) none
            (any_with_line (is_grantee x) live e is.rises is.states
            ∙ or_left (is_said e && is_grantee x e) _ (and_from (is_said e) (is_grantee x e) said (and_from (is_line_of Usr e) (bytes_eq (key_parts_of e).first (key_parts_of x).first) (rank_kind Usr e said rank) first)))),
        and_from (is_line_of Grt x) (bytes_eq (key_parts_of e).first (key_parts_of x).first) p.0 first,
      )

  granted_lost : (x : LineValues) → Has live x → (key_parts_of e).rank ≡ rank_of Usr → is_said e ≡ false → granted x ≡ true → lacks_user after x ≡ true
  unfolding after granted
  granted_lost x x_in rank gone h =
      let p = and_parts (is_line_of Grt x) (bytes_eq (key_parts_of e).first (key_parts_of x).first) h in
      let u = user_of x (none_has (lacks_user live) live x rests x_in) p.0 in
      and_from (is_line_of Grt x) (not (list_any (is_grantee x) after)) p.0
      (not_from_false (list_any (is_grantee x) after)
      (false_from_ne_true (list_any (is_grantee x) after)
      (λ some.
      elim (or_cases (is_said e && is_grantee x e) (list_any (λ l. not (have_one_key e l) && is_grantee x l) live) (sym (any_with_line (is_grantee x) live e is.rises is.states) ∙ some)) [
        | inl here ↦ both_ways (is_said e) gone (and_parts (is_said e) (is_grantee x e) here).0
        | inr there ↦
            (let v = has_any (λ l. not (have_one_key e l) && is_grantee x l) live there in
            let r = and_parts (not (have_one_key e v.0)) (is_grantee x v.0) v.2 in
            let v_is = and_parts (is_line_of Usr v.0) (bytes_eq (key_parts_of v.0).first (key_parts_of x).first) r.1 in
            let first = same_text (key_parts_of e).first (key_parts_of x).first p.1 ∙ sym (same_text (key_parts_of v.0).first (key_parts_of x).first v_is.1) in
            let keys = one_user e v.0 tidy_e (all_has Tidy live v.0 neat v.1) rank (kind_rank Usr v.0 v_is.0) first in
            both_ways (have_one_key e v.0) (not-true (have_one_key e v.0) r.0) (has_one_key e v.0 keys))
      ])))

  -- with the line, a grant lacks its user exactly if the line deletes that
  pub loses_users : list_any (lacks_user (with_line live e)) (with_line live e) ≡ loses_grants live e
  unfolding after granted
  loses_users =
      same_bool (list_any (lacks_user after) after) (loses_grants live e)
      (λ some.
      elim (or_cases (is_said e && lacks_user after e) (list_any (λ l. not (have_one_key e l) && lacks_user after l) live) (sym (any_with_line (lacks_user after) live e is.rises is.states) ∙ some)) [
        | inl here ↦ absurd (not_itself (and_parts (is_said e) (lacks_user after e) here).1)
        | inr there ↦
            (let x = has_any (λ l. not (have_one_key e l) && lacks_user after l) live there in
            let h = lost_granted x.0 x.1 (and_parts (not (have_one_key e x.0)) (lacks_user after x.0) x.2).1 in
            and_from ((key_parts_of e).rank == rank_of Usr && not (is_said e)) (list_any granted live)
            (and_from ((key_parts_of e).rank == rank_of Usr) (not (is_said e)) (eq-eqb (key_parts_of e).rank (rank_of Usr) h.0) (not_from_false (is_said e) h.1)) (any_has granted live x.0 x.1 h.2))
      ])
      (λ some.
      let p = and_parts ((key_parts_of e).rank == rank_of Usr && not (is_said e)) (list_any granted live) some in
      let q = and_parts ((key_parts_of e).rank == rank_of Usr) (not (is_said e)) p.0 in
      let rank = eqb-true (key_parts_of e).rank (rank_of Usr) q.0 in
      let x = has_any granted live p.1 in
      let kind = (and_parts (is_line_of Grt x.0) (bytes_eq (key_parts_of e).first (key_parts_of x.0).first) x.2).0 in
      let apart = false_from_ne_true (have_one_key e x.0) (λ same. five_six (sym (kind_rank Grt x.0 kind) ∙ sym (ap (λ p. p.rank) (one_key e x.0 same)) ∙ rank)) in
      any_with_line (lacks_user after) live e is.rises is.states
      ∙ or_right (is_said e && lacks_user after e) _
      (any_has (λ l. not (have_one_key e l) && lacks_user after l) live x.0 x.1
      (and_from (not (have_one_key e x.0)) (lacks_user after x.0) (not_from_false (have_one_key e x.0) apart) (granted_lost x.0 x.1 rank (not-true (is_said e) q.1) x.2))))
