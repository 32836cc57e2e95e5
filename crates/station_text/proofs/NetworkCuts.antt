-- The lines of a network are those between two places of the lines in order; and where each selection names that
-- network alone, each line that is asked for is among them.
use Rattle.std.proofs.Common.{◌≡◌, ℕ, ◌≤◌, Bool, true, false, ◌&&◌, ◌||◌, ◌==◌, List, [], ◌∷◌, Option, Some, None, length, take, drop, map, filter, refl, ap, sym, ◌∙◌, nat_cmp}
use Rattle.std.specs.declared.cmp.Ordering.{Ordering}
use Rattle.std.specs.declared.cmp.Ordering.TheVariants.{Less}
use Rattle.std.specs.Ordering.{is_lt, is_le}
use Rattle.std.specs.List.{AllByRecursion, list_any, list_all}
use Rattle.std.specs.List.Sorted.{IsStrictlySortedBy, IsPartitionedBy, IsPartitionPoint}
use Rattle.std.specs.Str.{bytes_eq}
use Rattle.std.proofs.lemmas.Bool.{false≢true, and_parts, eq-eqb}
use Rattle.std.proofs.lemmas.Cmp.{upto}
use Rattle.std.proofs.lemmas.Slice.Eq.{bytes_eq-Decides}
use Rattle.channel_globs.specs.Matching.{is_match_any, single_code}
use Rattle.dataselect.specs.declared.query.Selection.{Selection}
use Rattle.query_parameters.specs.declared.level.Level.{Level}
use Rattle.query_parameters.specs.declared.level.Level.TheVariants as level
use Rattle.query_words.specs.declared.station.StationQuery.{StationQuery}
use Rattle.epochs.specs.declared.kinds.LineKind.TheVariants.{Sta, Cha}
use Rattle.epochs.specs.declared.line.Line.{Line}
use Rattle.epochs.specs.Lines.{LineValues}
use Rattle.epochs.specs.Views.{values_of_line}
use Rattle.epoch_catalog.specs.declared.families.Family.TheVariants as family
use Rattle.epoch_rules.proofs.Cuts.{IsPlaced, filter_mapped, cut_between}
use Rattle.epoch_rules.proofs.Halves.{parted}
use Rattle.epoch_catalog.proofs.FamilyPlaces.{front_total, front_rises, with_front, same_rank, same_text, both_eq}
use Rattle.epoch_rules.specs.KeyOrder.{KeyParts, key_parts_of, parts_cmp, line_cmp, text_cmp}
use Rattle.epoch_rules.specs.Rules.{is_line_of}
use Rattle.station_text.specs.Asked.{is_line_asked, is_asked_at, asked_lines, names_network, names_station, names_channel, matches_channel, has_channel, is_eligible, selects_station, selects_channel}
use Rattle.station_text.specs.Windows.{line_meets}
use Rattle.station_text.specs.Found.{level_rank, is_of_stations, is_network, names_only, network_order, stands_on}
use Rattle.station_text.proofs.Levels.{filter_within}
use Rattle.station_text.proofs.PlaceCuts.{IsLess, rises_mapped, rises_dropped, lt_apart, gt_apart, between}
use Rattle.station_text.proofs.Places.{lt_stays, le_not_gt, not_gt_le, rank_is}
use Rattle.station_text.proofs.PlacesFound.{single_matches, both_or_one}

-- where a line stands to a network's
abbrev pub order_on : ℕ → List ℕ → Line → Ordering
order_on rank network line = network_order rank network (key_parts_of (values_of_line line))

abbrev pub is_before : ℕ → List ℕ → Line → Bool
is_before rank network line = is_lt (order_on rank network line)

abbrev pub is_not_behind : ℕ → List ℕ → Line → Bool
is_not_behind rank network line = is_le (order_on rank network line)

abbrev target : ℕ → List ℕ → KeyParts → KeyParts
target rank network p = with_front p rank network p.second

before_stays : (rank : ℕ) (network : List ℕ) (p q : KeyParts) → parts_cmp p q ≡ Less → is_lt (network_order rank network q) ≡ true → is_lt (network_order rank network p) ≡ true
before_stays rank network p q h k = lt_stays (front_total (family.StationsOf network)) p q (target rank network p) (front_rises (family.StationsOf network) p q h) k

within_stays : (rank : ℕ) (network : List ℕ) (p q : KeyParts) → parts_cmp p q ≡ Less → is_le (network_order rank network q) ≡ true → is_le (network_order rank network p) ≡ true
within_stays rank network p q h k =
    not_gt_le _ (upto (front_total (family.StationsOf network)) p q (target rank network p) (front_rises (family.StationsOf network) p q h) (le_not_gt _ k))

-- the lines before it, and of the others those not behind it, come first
pub first_parted : (rank : ℕ) (network : List ℕ) (lines : List Line) → IsStrictlySortedBy line_cmp (map values_of_line lines) → IsPartitionedBy (is_before rank network) lines
first_parted rank network lines h =
    parted IsLess (is_before rank network) (λ x y le k. before_stays rank network (key_parts_of (values_of_line x)) (key_parts_of (values_of_line y)) le k) lines (rises_mapped lines h)

pub rest_parted : (rank : ℕ) (network : List ℕ) (lines : List Line) (n : ℕ) → IsStrictlySortedBy line_cmp (map values_of_line lines) → IsPartitionedBy (is_not_behind rank network) (drop n lines)
rest_parted rank network lines n h =
    parted IsLess (is_not_behind rank network) (λ x y le k. within_stays rank network (key_parts_of (values_of_line x)) (key_parts_of (values_of_line y)) le k) (drop n lines)
    (rises_dropped IsLess n lines (rises_mapped lines h))

all_placed : (rank : ℕ) (network : List ℕ) (lines : List Line) → AllByRecursion (IsPlaced (λ l. stands_on rank network (values_of_line l)) (is_before rank network) (is_not_behind rank network)) lines
all_placed rank network [] = tt
all_placed rank network (x ∷ lines) = (
  record {
    early = lt_apart (order_on rank network x);
    within = between (order_on rank network x);
    late = gt_apart (order_on rank network x);
  },
  all_placed rank network lines,
)

pub network_cut : (rank : ℕ) (network : List ℕ) (lines : List Line) (i j : ℕ) → i ≤ length lines → j ≤ length (drop i lines)
    → IsPartitionPoint (λ x. is_before rank network x ≡ true) (λ x. is_before rank network x ≡ false) lines i
    → IsPartitionPoint (λ x. is_not_behind rank network x ≡ true) (λ x. is_not_behind rank network x ≡ false) (drop i lines) j
    → map values_of_line (take j (drop i lines)) ≡ filter (stands_on rank network) (map values_of_line lines)
network_cut rank network lines i j fits fits2 first rest =
    let p : Line → Bool = λ x. stands_on rank network (values_of_line x) in
    ap (map values_of_line) (cut_between p (is_before rank network) (is_not_behind rank network) lines i j (all_placed rank network lines) fits fits2 first rest) ∙ filter_mapped values_of_line (stands_on rank network) lines

-- a line stands there exactly where its rank and its network are those
stands_by_codes : (rank : ℕ) (network : List ℕ) (e : LineValues) → stands_on rank network e ≡ (((key_parts_of e).rank == rank) && bytes_eq (key_parts_of e).first network)
stands_by_codes rank network e =
    let p : KeyParts = key_parts_of e in
    both_eq (nat_cmp p.rank rank) (text_cmp p.first network) ∙ (λ i. same_rank p.rank rank i && same_text p.first network i)

-- a selection that names that network alone names lines of that network
named_on : (network : List ℕ) (s : Selection) (e : LineValues) → names_only network s ≡ true → names_network s e ≡ true → bytes_eq (key_parts_of e).first network ≡ true
named_on network s e only named = by_code (single_code s.network) refl only
  where
    by_code : (o : Option (List ℕ)) → single_code s.network ≡ o → is_network network o ≡ true → bytes_eq (key_parts_of e).first network ≡ true
    by_code None is h = absurd (false≢true h)
    by_code (Some code) is h =
        let first : List ℕ = (key_parts_of e).first in
        let matches = (and_parts (is_match_any s.network first) (line_meets s e) named).0 in
        let same : code ≡ first = (bytes_eq-Decides code first).0 (sym (single_matches s.network code first is) ∙ matches) in
        let other : code ≡ network = (bytes_eq-Decides code network).0 h in
        (bytes_eq-Decides first network).1 (sym same ∙ other)

-- so a line that some selection names stands there
stands_named : (network : List ℕ) (e : LineValues) (names : Selection → Bool) → ((s : Selection) → names s ≡ true → names_network s e ≡ true)
    → (ss : List Selection) → list_all (names_only network) ss ≡ true → list_any names ss ≡ true → bytes_eq (key_parts_of e).first network ≡ true
stands_named network e names means [] all some = absurd (false≢true some)
stands_named network e names means (s ∷ ss) all some =
    let parts = and_parts (names_only network s) (list_all (names_only network) ss) all in
    elim (names s) as (λ b. names s ≡ b → (b || list_any names ss) ≡ true → bytes_eq (key_parts_of e).first network ≡ true) [
      | true ↦ λ named h. named_on network s e parts.0 (means s named)
      | false ↦ λ other h. stands_named network e names means ss parts.1 h
    ] refl some

both_true : (a b : Bool) → a ≡ true → b ≡ true → (a && b) ≡ true
both_true a b h k = ap (λ x. x && b) h ∙ k

asked_stands : (level : Level) (live : List LineValues) (q : StationQuery) (network : List ℕ) (e : LineValues) → is_of_stations level ≡ true → list_all (names_only network) q.selections ≡ true → is_asked_at level live q e ≡ true
    → stands_on (level_rank level) network e ≡ true
asked_stands level.Network live q network e below all asked = absurd (false≢true below)
asked_stands level.Station live q network e below all asked =
    let parts = and_parts (is_line_of Sta e && is_eligible q e) (selects_station live q e) asked in
    let named = stands_named network e (λ s. names_station s e && has_channel live s e)
    (λ s h. (and_parts (is_match_any s.station (key_parts_of e).second) (names_network s e) (and_parts (names_station s e) (has_channel live s e) h).0).1) q.selections all parts.1 in
    stands_by_codes 1 network e ∙ both_true ((key_parts_of e).rank == 1) _ (eq-eqb (key_parts_of e).rank 1 (rank_is Sta e (and_parts (is_line_of Sta e) (is_eligible q e) parts.0).0)) named
asked_stands level.Channel live q network e below all asked =
    let parts = and_parts (is_line_of Cha e && is_eligible q e) (selects_channel q e) asked in
    let named = stands_named network e (λ s. names_channel s e)
    (λ s h. (and_parts (is_match_any s.station (key_parts_of e).second) (names_network s e) (and_parts (matches_channel s e) (names_station s e) h).1).1) q.selections all parts.1 in
    stands_by_codes 2 network e ∙ both_true ((key_parts_of e).rank == 2) _ (eq-eqb (key_parts_of e).rank 2 (rank_is Cha e (and_parts (is_line_of Cha e) (is_eligible q e) parts.0).0)) named

pub among_network : (live : List LineValues) (q : StationQuery) (network : List ℕ) → is_of_stations q.level ≡ true → list_all (names_only network) q.selections ≡ true
    → filter (is_line_asked live q) (filter (stands_on (level_rank q.level) network) live) ≡ asked_lines live q
among_network live q network below all =
    filter_within (is_line_asked live q) (stands_on (level_rank q.level) network) (λ e. both_or_one (stands_on (level_rank q.level) network e) (is_line_asked live q e) (asked_stands q.level live q network e below all)) live
