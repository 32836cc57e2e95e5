-- Where the containers of stations and channels stand, and the users of grants.
use Rattle.std.proofs.Common.{◌≡◌, ◌∙◌, Bool, true, ◌&&◌, List, filter, Option, Some, None, refl, sym, ap}
use Rattle.std.specs.Borrow.{Bor}
use Rattle.std.specs.List.{list_any, AllByRecursion}
use Rattle.std.specs.Str.{bytes_eq}
use Rattle.std.specs.declared.cmp.Ordering.TheVariants.{Equal}
use Rattle.std.proofs.lemmas.Bool.{and_from, and_parts}
use Rattle.epochs.specs.declared.kinds.LineKind.TheVariants.{Net, Sta, Cha, Usr}
use Rattle.epochs.specs.declared.line.Line.{Line}
use Rattle.epochs.specs.Lines.{LineValues}
use Rattle.epoch_rules.specs.Catalog.{IsCatalog}
use Rattle.epoch_rules.specs.KeyOrder.{key_parts_of, family_cmp, parts_cmp, line_cmp, have_one_key}
use Rattle.epoch_rules.specs.Losses.{of_network, of_station, network_key, station_key, user_key}
use Rattle.epoch_rules.specs.Neighbours.{is_up_to_key, is_at_key, IsFirstOf, IsLastOf, passes_there}
use Rattle.epoch_rules.specs.Rules.{is_line_of, holds_channel, holds_station, is_grantee}
use Rattle.std.specs.List.Sorted.{IsStrictlySortedBy}
use Rattle.std.specs.Ordering.{is_eq}
use Rattle.std.proofs.lemmas.Cmp.{tied_itself}
use Rattle.epochs.specs.Views.{values_of_line}
use Rattle.epoch_rules.specs.LiveLines.{is_said}
use Rattle.epoch_rules.proofs.Ended.{any_same, one_at_key}
use Rattle.epoch_rules.proofs.Exact.{exact_parts}
use Rattle.epoch_rules.proofs.FamilyKeys.{kind_rank, rank_kind, one_family}
use Rattle.epoch_rules.proofs.Members.{Has, all_has, none_from, same_bool}
use Rattle.epoch_rules.proofs.Nearest.{first_there, none_there}
use Rattle.epoch_rules.proofs.Orders.{parts_total}
use Rattle.epoch_rules.proofs.Grants.{same_text, text_itself}
use Rattle.epoch_rules.proofs.Lookups.{is_equal}
use Rattle.epoch_rules.proofs.NearHolders.{near_holder}
use Rattle.epoch_rules.proofs.Orphans.{holds_channel_is, net_epoch, sta_epoch, cha_epoch}
use Rattle.epoch_rules.proofs.Tidy.{Tidy}

network_of : (x c : LineValues) → Tidy c → is_line_of Net c ≡ true → of_network (key_parts_of c) (key_parts_of x) ≡ true → family_cmp (key_parts_of c) (network_key x) ≡ Equal
network_of x c neat c_is same =
    let p = neat.network c_is in
    is_equal (family_cmp (key_parts_of c) (network_key x))
    (one_family (key_parts_of c) (network_key x) (kind_rank Net c c_is) (same_text (key_parts_of c).first (key_parts_of x).first same) p.0 p.1 p.2 p.3)

station_of : (x c : LineValues) → Tidy c → is_line_of Sta c ≡ true → of_station (key_parts_of c) (key_parts_of x) ≡ true → family_cmp (key_parts_of c) (station_key x) ≡ Equal
station_of x c neat c_is same =
    let p = neat.station c_is in
    let codes = and_parts (bytes_eq (key_parts_of c).first (key_parts_of x).first) (bytes_eq (key_parts_of c).second (key_parts_of x).second) same in
    is_equal (family_cmp (key_parts_of c) (station_key x))
    (one_family (key_parts_of c) (station_key x) (kind_rank Sta c c_is) (same_text (key_parts_of c).first (key_parts_of x).first codes.0) (same_text (key_parts_of c).second (key_parts_of x).second codes.1) p.0 p.1 p.2)

module _ (live : List LineValues) (is : IsCatalog live) (neat : AllByRecursion Tidy live) (x : LineValues) (tidy_x : Tidy x) where
  pub near_network : is_line_of Sta x ≡ true → (last : Option (Bor Line)) → IsLastOf (filter (is_up_to_key (network_key x)) live) last → passes_there (holds_station x) last ≡ list_any (holds_station x) live
  near_network kind last ends = near_holder Net Sta of_network net_epoch live is neat x (tidy_x.forward (sta_epoch x kind)) (network_key x) refl (network_of x) last ends

  pub near_station : is_line_of Cha x ≡ true → (last : Option (Bor Line)) → IsLastOf (filter (is_up_to_key (station_key x)) live) last → passes_there (holds_channel x) last ≡ list_any (holds_channel x) live
  near_station kind last ends =
      ap (λ f. passes_there (f x) last) holds_channel_is
      ∙ near_holder Sta Cha of_station sta_epoch live is neat x (tidy_x.forward (cha_epoch x kind)) (station_key x) refl (station_of x) last ends
      ∙ sym (ap (λ f. list_any (f x) live) holds_channel_is)

  -- the user of a grant stands at one key
  user_at : (l : LineValues) → Has live l → is_at_key (user_key x) l ≡ is_grantee x l
  user_at l l_in =
      same_bool (is_at_key (user_key x) l) (is_grantee x l)
      (λ h.
      let keys = exact_parts (user_key x) (key_parts_of l) (is_equal (parts_cmp (user_key x) (key_parts_of l)) h) in
      and_from (is_line_of Usr l) (bytes_eq (key_parts_of l).first (key_parts_of x).first)
      (rank_kind Usr l (all_has (λ m. is_said m ≡ true) live l is.states l_in) (sym (ap (λ p. p.rank) keys)))
      (ap (λ p. bytes_eq p.first (key_parts_of x).first) (sym keys) ∙ text_itself (key_parts_of x).first))
      (λ h.
      let p = and_parts (is_line_of Usr l) (bytes_eq (key_parts_of l).first (key_parts_of x).first) h in
      let rank = kind_rank Usr l p.0 in
      let q = (all_has Tidy live l neat l_in).user rank in
      let first = same_text (key_parts_of l).first (key_parts_of x).first p.1 in
      let keys : key_parts_of l ≡ user_key x = λ i. record { rank = rank i; first = first i; second = q.0 i; third = q.1 i; fourth = q.2 i; fifth = q.3 i; start = q.4 i } in
      ap (λ k. is_eq (parts_cmp (user_key x) k)) keys ∙ ap is_eq (tied_itself parts_total (user_key x)))

  pub user_there : list_any (is_at_key (user_key x)) live ≡ list_any (is_grantee x) live
  user_there = any_same (is_at_key (user_key x)) (is_grantee x) live user_at

-- the line of a key, where there is one, is the one that has the key
pub passes_at_key : (p : LineValues → Bool) (live : List LineValues) (up : IsStrictlySortedBy line_cmp live) (e : LineValues) (there : Option (Bor Line)) → IsFirstOf (filter (is_at_key (key_parts_of e)) live) there
    → passes_there p there ≡ list_any (λ l. have_one_key e l && p l) live
passes_at_key p live up e None first =
    sym (none_from (λ l. have_one_key e l && p l) live (λ x x_in h. none_there live up (is_at_key (key_parts_of e)) x first x_in (and_parts (have_one_key e x) (p x) h).0))
passes_at_key p live up e (Some l) first =
    let o = first_there live up (is_at_key (key_parts_of e)) first.0 (values_of_line l.now) first.1 in
    sym (one_at_key p live up e (values_of_line l.now) o.0 o.1)
