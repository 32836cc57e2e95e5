-- What contains an epoch, if anything does among epochs that lie apart, is the last of its family that
-- starts no later.
use Rattle.std.proofs.Common.{◌≡◌, ◌∙◌, Bool, true, ◌&&◌, inl, inr, List, filter, Option, Some, None, sym, ap}
use Rattle.std.specs.Prelude.{int_le}
use Rattle.std.specs.Borrow.{Bor}
use Rattle.std.specs.List.{list_any, AllByRecursion}
use Rattle.std.specs.Ordering.{is_eq}
use Rattle.std.specs.declared.cmp.Ordering.TheVariants.{Less, Equal}
use Rattle.std.proofs.lemmas.Bool.{both_ways, and_parts}
use Rattle.epochs.specs.declared.kinds.LineKind.{LineKind}
use Rattle.epochs.specs.declared.line.Line.{Line}
use Rattle.epochs.specs.Lines.{LineValues, end_of}
use Rattle.epochs.specs.Views.{values_of_line}
use Rattle.epoch_rules.specs.Catalog.{IsCatalog}
use Rattle.epoch_rules.specs.KeyOrder.{KeyParts, key_parts_of, family_cmp, line_cmp}
use Rattle.epoch_rules.specs.Neighbours.{is_up_to_key, IsLastOf, passes_there}
use Rattle.epoch_rules.specs.Rules.{is_line_of, is_epoch, epoch_start, is_before_end, ends_by, contains}
use Rattle.epoch_rules.proofs.Ends.{earlier_before, ends_before, ends_trans}
use Rattle.epoch_rules.proofs.FamilyKeys.{kind_rank, rank_kind}
use Rattle.epoch_rules.proofs.Holders.{holds}
use Rattle.epoch_rules.proofs.KeptCatalog.{same_rank}
use Rattle.epoch_rules.proofs.Members.{Has, any_has, has_any, same_bool}
use Rattle.epoch_rules.proofs.Nearest.{between, less_or_level, level_start, not_after, last_there, none_there, up_to_last}
use Rattle.epoch_rules.proofs.NearRivals.{ends_first, neat_at, states}
use Rattle.epoch_rules.proofs.Orders.{family_total}
use Rattle.epoch_rules.proofs.Tidy.{Tidy}

module _ (outer inner : LineKind) (codes : KeyParts → KeyParts → Bool)
    (outer_epoch : (x : LineValues) → is_line_of outer x ≡ true → is_epoch x ≡ true)
    (live : List LineValues) (is : IsCatalog live) (neat : AllByRecursion Tidy live)
    (x : LineValues) (forward : is_before_end (epoch_start x) (end_of x.values) ≡ true) (key : KeyParts) (start_is : key.start ≡ epoch_start x)
    (family : (c : LineValues) → Tidy c → is_line_of outer c ≡ true → codes (key_parts_of c) (key_parts_of x) ≡ true → family_cmp (key_parts_of c) key ≡ Equal) where
  held_parts : (c : LineValues) → holds outer inner codes x c ≡ true → (is_line_of outer c ≡ true) × (codes (key_parts_of c) (key_parts_of x) ≡ true) × (int_le (epoch_start c) (epoch_start x) ≡ true) × (ends_by (end_of x.values) (end_of c.values) ≡ true)
  held_parts c h =
      let p = and_parts (is_line_of outer c && codes (key_parts_of c) (key_parts_of x)) (contains c x) h in
      let q = and_parts (is_line_of outer c) (codes (key_parts_of c) (key_parts_of x)) p.0 in
      let r = and_parts (int_le (epoch_start c) (epoch_start x)) (ends_by (end_of x.values) (end_of c.values)) p.1 in
      (q.0, q.1, r.0, r.1)

  -- what contains the epoch has a key that isn't after the asked one
  up_to : (c : LineValues) → Has live c → holds outer inner codes x c ≡ true → is_up_to_key key c ≡ true
  up_to c c_in h =
      let p = held_parts c h in
      let neat_c = neat_at live is neat c c_in in
      let f = family c neat_c p.0 p.1 in
      let rises : int_le (key_parts_of c).start key.start ≡ true = (λ i. int_le (sym (neat_c.starts (outer_epoch c p.0)) i) (start_is i)) ∙ p.2 in
      less_or_level (key_parts_of c) key f rises

  -- a live line between them would lie in the container
  no_other : (c p : LineValues) → Has live c → Has live p → holds outer inner codes x c ≡ true → line_cmp c p ≡ Less → is_up_to_key key p ≡ true → ⊥
  no_other c p c_in p_in h less low =
      let q = held_parts c h in
      let neat_c = neat_at live is neat c c_in in
      let f = family c neat_c q.0 q.1 in
      let level = not_after key (key_parts_of p) low in
      let here = between (key_parts_of c) (key_parts_of p) key f less level in
      let stop = ends_first live is neat c p c_in p_in (outer_epoch c q.0) here.0 less here.1 in
      let p_is : is_line_of outer p ≡ true = rank_kind outer p (states live is neat p p_in) (sym (same_rank c p (ap is_eq here.0)) ∙ kind_rank outer c q.0) in
      let p_start = (neat_at live is neat p p_in).starts (outer_epoch p p_is) in
      let p_family : family_cmp (key_parts_of p) key ≡ Equal = sym (family_total.congr (key_parts_of c) (key_parts_of p) key here.0) ∙ f in
      let rises : int_le (epoch_start p) (epoch_start x) ≡ true = (λ i. int_le (p_start i) (sym start_is i)) ∙ level_start (key_parts_of p) key p_family level in
      let early = earlier_before (epoch_start p) (epoch_start x) (end_of x.values) rises forward in
      both_ways (ends_by (end_of x.values) (Some (epoch_start p))) (ends_before (epoch_start p) (end_of x.values) early)
      (ends_trans (end_of x.values) (end_of c.values) (Some (epoch_start p)) q.3 stop)

  -- the last line up to the key is the container, if there is one
  pub near_holder : (last : Option (Bor Line)) → IsLastOf (filter (is_up_to_key key) live) last → passes_there (holds outer inner codes x) last ≡ list_any (holds outer inner codes x) live
  near_holder last ends =
      same_bool (passes_there (holds outer inner codes x) last) (list_any (holds outer inner codes x) live) (there last ends)
      (λ h. let c = has_any (holds outer inner codes x) live h in found c.0 c.1 c.2 last ends)
    where
      there : (last : Option (Bor Line)) → IsLastOf (filter (is_up_to_key key) live) last → passes_there (holds outer inner codes x) last ≡ true → list_any (holds outer inner codes x) live ≡ true
      there None ends h = cc
      there (Some l) ends h = any_has (holds outer inner codes x) live (values_of_line l.now) (last_there live is.rises (is_up_to_key key) ends.0 (values_of_line l.now) ends.1).0 h

      found : (c : LineValues) → Has live c → holds outer inner codes x c ≡ true → (last : Option (Bor Line)) → IsLastOf (filter (is_up_to_key key) live) last → passes_there (holds outer inner codes x) last ≡ true
      found c c_in h None ends = absurd (none_there live is.rises (is_up_to_key key) c ends c_in (up_to c c_in h))
      found c c_in h (Some l) ends =
          elim (up_to_last live is.rises (is_up_to_key key) ends.0 (values_of_line l.now) c ends.1 c_in (up_to c c_in h)) [
            | inl here ↦ ap (holds outer inner codes x) (sym here) ∙ h
            | inr later ↦
                (let p = last_there live is.rises (is_up_to_key key) ends.0 (values_of_line l.now) ends.1 in
                absurd (no_other c (values_of_line l.now) c_in p.0 h later p.1))
          ]
