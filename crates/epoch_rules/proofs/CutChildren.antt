-- The epochs that a line cuts, by the ends of all.
use Rattle.std.proofs.Common.{◌≡◌, ◌∙◌, ℕ, ◌==◌, ◌<◌, Bool, true, false, not, ◌&&◌, ◌||◌, List, [], filter, if◌then◌else◌, refl, sym, ap, arith, eq-eqb}
use Rattle.std.specs.List.{list_any}
use Rattle.std.specs.Str.{bytes_eq}
use Rattle.std.proofs.lemmas.Bool.{and_parts, both_ways, eqb-true, false_from_ne_true}
use Rattle.epochs.specs.declared.kinds.LineKind.{LineKind}
use Rattle.epochs.specs.declared.kinds.LineKind.TheVariants.{Net, Sta, Cha, Evt, Rst, Grt, Usr, Wdr}
use Rattle.epochs.specs.declared.kinds.Head.{Head}
use Rattle.epochs.specs.declared.kinds.Head.TheVariants.{Says, Deletes}
use Rattle.epochs.specs.Fields.{Value}
use Rattle.epochs.specs.Kinds.{Text}
use Rattle.epochs.specs.Lines.{LineValues, line_values, end_of}
use Rattle.epoch_rules.specs.Catalog.{IsCatalog}
use Rattle.epoch_rules.specs.Endings.{AreEndsOf, EndingParts, cut, ending_of, is_between, is_child}
use Rattle.epoch_rules.specs.KeyOrder.{key_parts_of, rank_of, have_one_key}
use Rattle.epoch_rules.specs.LiveLines.{is_said}
use Rattle.epoch_rules.specs.Losses.{is_cut, is_cut_in, is_grant_of, loses_grants, makes_orphans, new_end, of_network, of_station}
use Rattle.epoch_rules.specs.Neighbours.{is_at_key}
use Rattle.epoch_rules.specs.Rules.{ends_by, is_line_of}
use Rattle.epoch_rules.proofs.CutEnds.{between_cuts}
use Rattle.epoch_rules.proofs.Ended.{any_same, one_at_key}
use Rattle.epoch_rules.proofs.KeptCatalog.{kind_by_rank}
use Rattle.epoch_rules.proofs.Members.{Has, all_has, none_from, same_bool}
use Rattle.epoch_rules.proofs.Nearest.{none_there}
use Rattle.epoch_rules.proofs.Orphans.{one_two}

kind_small : (k : LineKind) → rank_of k < 255
kind_small Net = omega arith
kind_small Sta = omega arith
kind_small Cha = omega arith
kind_small Evt = omega arith
kind_small Rst = omega arith
kind_small Grt = omega arith
kind_small Usr = omega arith
kind_small Wdr = omega arith

rank_small : (x : LineValues) → (key_parts_of x).rank < 255
rank_small x = of_head x.head x.values
  where
    of_head : (head : Head) (values : List Value) → (key_parts_of (line_values head values)).rank < 255
    of_head (Says k) values = kind_small k
    of_head (Deletes k) values = kind_small k

module _ (live : List LineValues) (is : IsCatalog live) (e : LineValues) (rank : ℕ) (first second : Text) where
  -- no line has the key: nothing is cut
  pub none_cut : filter (is_at_key (key_parts_of e)) live ≡ [] → false ≡ list_any (λ x. is_child x && is_cut_in rank first second live e x) live
  none_cut none =
      sym
      (none_from (λ x. is_child x && is_cut_in rank first second live e x) live
      (λ x x_in h.
      let p = and_parts (is_child x) (is_cut_in rank first second live e x) h in
      let q = (and_parts (not (ends_by (end_of x.values) (new_end e))) (list_any (λ o. have_one_key e o && ends_by (end_of x.values) (end_of o.values)) live) (and_parts (rank == (ending_of x).rank && (bytes_eq first (ending_of x).first && bytes_eq second (ending_of x).second)) _ p.1).1).1 in
      both_ways (list_any (λ o. have_one_key e o && ends_by (end_of x.values) (end_of o.values)) live)
      (none_from (λ o. have_one_key e o && ends_by (end_of x.values) (end_of o.values)) live
      (λ o o_in same. none_there live is.rises (is_at_key (key_parts_of e)) o none o_in (and_parts (have_one_key e o) (ends_by (end_of x.values) (end_of o.values)) same).0)) q))

  -- the ends between the new and the old one are those that are cut
  pub ends_cut : (held : (EndingParts → Bool) → Bool) (o : LineValues) → AreEndsOf held live → Has live o → have_one_key e o ≡ true
      → held (is_between (cut rank first second (new_end e)) (cut rank first second (end_of o.values)))
      ≡ list_any (λ x. is_child x && is_cut_in rank first second live e x) live
  ends_cut held o are o_in same =
      are (is_between (cut rank first second (new_end e)) (cut rank first second (end_of o.values)))
      ∙ any_same (λ x. is_child x && is_between (cut rank first second (new_end e)) (cut rank first second (end_of o.values)) (ending_of x)) (λ x. is_child x && is_cut_in rank first second live e x) live
      (λ x x_in.
      let b = rank == (ending_of x).rank && (bytes_eq first (ending_of x).first && bytes_eq second (ending_of x).second) in
      ap (λ c. is_child x && c)
      (between_cuts rank first second (new_end e) (end_of o.values) (end_of x.values) (ending_of x).rank (ending_of x).first (ending_of x).second (key_parts_of x) (rank_small x)
      ∙ ap (λ c. b && (not (ends_by (end_of x.values) (new_end e)) && c)) (sym (one_at_key (λ l. ends_by (end_of x.values) (end_of l.values)) live is.rises e o o_in same))))

rank_turned : (a b : ℕ) → (a == b) ≡ (b == a)
rank_turned a b = same_bool (a == b) (b == a) (λ h. eq-eqb b a (sym (eqb-true a b h))) (λ h. eq-eqb a b (sym (eqb-true b a h)))

-- a line's kind by its rank
by_rank : (kind : LineKind) (x : LineValues) → is_said x ≡ true → (rank_of kind == (key_parts_of x).rank) ≡ is_line_of kind x
by_rank kind x h = rank_turned (rank_of kind) (key_parts_of x).rank ∙ sym (kind_by_rank kind x.head x.values h)

-- a station isn't a channel
not_channel : (x : LineValues) → is_said x ≡ true → is_line_of Sta x ≡ true → is_line_of Cha x ≡ false
not_channel x h sta =
    false_from_ne_true (is_line_of Cha x)
    (λ cha.
    let one : rank_of Sta ≡ (key_parts_of x).rank = eqb-true (rank_of Sta) (key_parts_of x).rank (by_rank Sta x h ∙ sta) in
    let two : rank_of Cha ≡ (key_parts_of x).rank = eqb-true (rank_of Cha) (key_parts_of x).rank (by_rank Cha x h ∙ cha) in
    one_two (one ∙ sym two))

station_tests : (s c b n a : Bool) (t : Text) → (s ≡ true → c ≡ false) → ((s || c) && ((s && (b && bytes_eq [] (if c then t else []))) && (n && a))) ≡ (((s && b) && n) && a)
station_tests true true b n a t h = absurd (both_ways true (h refl) refl)
station_tests true false true n a t h = refl
station_tests true false false n a t h = refl
station_tests false true b n a t h = refl
station_tests false false b n a t h = refl

assoc : (x y z : Bool) → (x && (y && z)) ≡ ((x && y) && z)
assoc true y z = refl
assoc false y z = refl

channel_tests : (s c b n a : Bool) (second t : Text) → ((s || c) && ((c && (b && bytes_eq second (if c then t else []))) && (n && a))) ≡ (((c && (b && bytes_eq second t)) && n) && a)
channel_tests true true b n a second t = assoc (b && bytes_eq second t) n a
channel_tests true false b n a second t = refl
channel_tests false true b n a second t = assoc (b && bytes_eq second t) n a
channel_tests false false b n a second t = refl

module _ (live : List LineValues) (is : IsCatalog live) (e : LineValues) where
  said : (x : LineValues) → Has live x → is_said x ≡ true
  said x x_in = all_has (λ l. is_said l ≡ true) live x is.states x_in

  pub cut_stations : list_any (λ x. is_child x && is_cut_in 1 (key_parts_of e).first [] live e x) live ≡ list_any (is_cut Sta of_network live e) live
  cut_stations =
      any_same (λ x. is_child x && is_cut_in 1 (key_parts_of e).first [] live e x) (is_cut Sta of_network live e) live
      (λ x x_in.
      let b = bytes_eq (key_parts_of e).first (key_parts_of x).first in
      let n = not (ends_by (end_of x.values) (new_end e)) in
      let a = list_any (λ o. have_one_key e o && ends_by (end_of x.values) (end_of o.values)) live in
      ap (λ r. is_child x && ((r && (b && bytes_eq [] (ending_of x).second)) && (n && a))) (by_rank Sta x (said x x_in))
      ∙ station_tests (is_line_of Sta x) (is_line_of Cha x) b n a (key_parts_of x).second (not_channel x (said x x_in)))

  pub cut_channels : list_any (λ x. is_child x && is_cut_in 2 (key_parts_of e).first (key_parts_of e).second live e x) live ≡ list_any (is_cut Cha of_station live e) live
  cut_channels =
      any_same (λ x. is_child x && is_cut_in 2 (key_parts_of e).first (key_parts_of e).second live e x) (is_cut Cha of_station live e) live
      (λ x x_in.
      let b = bytes_eq (key_parts_of e).first (key_parts_of x).first in
      let n = not (ends_by (end_of x.values) (new_end e)) in
      let a = list_any (λ o. have_one_key e o && ends_by (end_of x.values) (end_of o.values)) live in
      ap (λ r. is_child x && ((r && (b && bytes_eq (key_parts_of e).second (ending_of x).second)) && (n && a))) (by_rank Cha x (said x x_in))
      ∙ channel_tests (is_line_of Sta x) (is_line_of Cha x) b n a (key_parts_of e).second (key_parts_of x).second)

or_none : (b : Bool) → (b || false) ≡ b
or_none true = refl
or_none false = refl

module _ (live : List LineValues) (e : LineValues) where
  by_key_rank : ℕ → Bool → Bool
  by_key_rank r s = (r == 1 && list_any (is_cut Cha of_station live e) live || r == 0 && list_any (is_cut Sta of_network live e) live) || (r == 6 && not s && list_any (is_grant_of (key_parts_of e).first) live)

  pub at_network : (key_parts_of e).rank ≡ 0 → list_any (is_cut Sta of_network live e) live ≡ makes_orphans live e
  unfolding by_key_rank
  at_network rank = sym (ap (λ r. by_key_rank r (is_said e)) rank ∙ or_none (list_any (is_cut Sta of_network live e) live))

  pub at_station : (key_parts_of e).rank ≡ 1 → list_any (is_cut Cha of_station live e) live ≡ makes_orphans live e
  unfolding by_key_rank
  at_station rank = sym (ap (λ r. by_key_rank r (is_said e)) rank ∙ or_none (list_any (is_cut Cha of_station live e) live || false) ∙ or_none (list_any (is_cut Cha of_station live e) live))

  pub at_other : ((key_parts_of e).rank == 0) ≡ false → ((key_parts_of e).rank == 1) ≡ false → loses_grants live e ≡ makes_orphans live e
  at_other net sta = sym (λ i. (sta i && list_any (is_cut Cha of_station live e) live || net i && list_any (is_cut Sta of_network live e) live) || loses_grants live e)
