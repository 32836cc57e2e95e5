-- The channels of a station at one location stand together; and a selection of that location asks for no other.
use Rattle.std.proofs.Common.{◌≡◌, ℕ, Bool, true, false, ◌&&◌, ◌==◌, List, Option, Some, None, filter, refl, ap, sym, ◌∙◌, nat_cmp}
use Rattle.std.specs.declared.cmp.Ordering.{Ordering}
use Rattle.std.specs.declared.cmp.Ordering.TheVariants.{Less, Equal, Greater}
use Rattle.std.specs.Ordering.{int_cmp, ordering_then, is_lt, is_eq, is_gt, is_le}
use Rattle.std.specs.Cmp.{IsTotalOrder}
use Rattle.std.specs.Cmp.Derive.{point_total}
use Rattle.std.specs.Cmp.Lexicographic.{nat_list_cmp_total}
use Rattle.std.specs.List.{list_any}
use Rattle.std.specs.Str.{bytes_eq}
use Rattle.std.proofs.lemmas.Bool.{true≢false, and_parts, eq-eqb}
use Rattle.std.proofs.lemmas.Cmp.{on_total, then_total, nat_cmp_total, upto}
use Rattle.std.proofs.lemmas.Slice.Eq.{bytes_eq-Decides}
use Rattle.channel_globs.specs.Matching.{is_match_any, single_code}
use Rattle.dataselect.specs.declared.query.Selection.{Selection}
use Rattle.dataselect.proofs.Winners.{any_filtered}
use Rattle.epochs.specs.declared.kinds.LineKind.TheVariants.{Cha}
use Rattle.epochs.specs.Lines.{LineValues}
use Rattle.epoch_catalog.proofs.FamilyPlaces.{same_rank, same_text, both_eq}
use Rattle.epoch_rules.specs.KeyOrder.{KeyParts, key_parts_of, parts_cmp, text_cmp}
use Rattle.epoch_rules.specs.Rules.{is_line_of, contains}
use Rattle.station_text.specs.Asked.{channels_of, is_inner_channel, matches_channel}
use Rattle.station_text.specs.Sections.{code_order, section_order, stands_in}
use Rattle.station_text.specs.declared.sections.Section.{Section}
use Rattle.station_text.proofs.Decided.{any_same}
use Rattle.station_text.proofs.Places.{lt_stays, le_not_gt, not_gt_le, rank_is}
use Rattle.station_text.proofs.PlacesFound.{single_matches}

-- the order of keys up to the location, or up to the channel
abbrev codes_cmp : Option (List ℕ) → KeyParts → KeyParts → Ordering
codes_cmp None p q = Equal
codes_cmp (Some code) p q = text_cmp p.fourth q.fourth

codes_total : (code : Option (List ℕ)) → IsTotalOrder (codes_cmp code)
codes_total None = point_total
codes_total (Some code) = on_total (λ (p : KeyParts). p.fourth) nat_list_cmp_total

abbrev front_cmp : Section → KeyParts → KeyParts → Ordering
front_cmp section p q =
    ordering_then (nat_cmp p.rank q.rank)
    (ordering_then (text_cmp p.first q.first) (ordering_then (text_cmp p.second q.second) (ordering_then (text_cmp p.third q.third) (codes_cmp section.channel p q))))

front_total : (section : Section) → IsTotalOrder (front_cmp section)
front_total section =
    then_total (on_total (λ (p : KeyParts). p.rank) nat_cmp_total)
    (then_total (on_total (λ (p : KeyParts). p.first) nat_list_cmp_total)
    (then_total (on_total (λ (p : KeyParts). p.second) nat_list_cmp_total) (then_total (on_total (λ (p : KeyParts). p.third) nat_list_cmp_total) (codes_total section.channel))))

-- what is less as a whole isn't greater in front
less_then : (a b c : Ordering) → (b ≡ Less → is_gt c ≡ false) → ordering_then a b ≡ Less → is_gt (ordering_then a c) ≡ false
less_then Less b c step h = refl
less_then Equal b c step h = step h
less_then Greater b c step h = ap is_gt h

less_alone : (a b : Ordering) → ordering_then a b ≡ Less → is_gt a ≡ false
less_alone Less b h = refl
less_alone Equal b h = refl
less_alone Greater b h = ap is_gt h

last_rises : (code : Option (List ℕ)) (p q : KeyParts) (rest : Ordering) → ordering_then (text_cmp p.fourth q.fourth) rest ≡ Less → is_gt (codes_cmp code p q) ≡ false
last_rises None p q rest h = refl
last_rises (Some code) p q rest h = less_alone (text_cmp p.fourth q.fourth) rest h

front_rises : (section : Section) (p q : KeyParts) → parts_cmp p q ≡ Less → is_gt (front_cmp section p q) ≡ false
front_rises section p q =
    less_then (nat_cmp p.rank q.rank) _ _
    (less_then (text_cmp p.first q.first) _ _
    (less_then (text_cmp p.second q.second) _ _
    (less_then (text_cmp p.third q.third) _ _ (last_rises section.channel p q (ordering_then (text_cmp p.fifth q.fifth) (int_cmp p.start q.start))))))

or_fourth : Option (List ℕ) → List ℕ → List ℕ
or_fourth None text = text
or_fourth (Some code) text = code

target : Section → KeyParts → KeyParts
target section p = record {
  rank = 2;
  first = section.place.network;
  second = section.place.station;
  third = section.location;
  fourth = or_fourth section.channel p.fourth;
  fifth = p.fifth;
  start = p.start;
}

last_is : (code : Option (List ℕ)) (p q z : KeyParts) → z.fourth ≡ or_fourth code q.fourth → code_order code p.fourth ≡ codes_cmp code p z
unfolding or_fourth
last_is None p q z h = refl
last_is (Some code) p q z h = ap (text_cmp p.fourth) (sym h)

order_is : (section : Section) (p q : KeyParts) → section_order section p ≡ front_cmp section p (target section q)
unfolding target
order_is section p q =
    ap (λ (o : Ordering). ordering_then (nat_cmp p.rank 2) (ordering_then (text_cmp p.first section.place.network) (ordering_then (text_cmp p.second section.place.station) (ordering_then (text_cmp p.third section.location) o))))
    (last_is section.channel p q (target section q) refl)

-- a key before a section's lines stands before each key that isn't
pub before_stays : (section : Section) (p q : KeyParts) → parts_cmp p q ≡ Less → is_lt (section_order section q) ≡ true → is_lt (section_order section p) ≡ true
before_stays section p q h k =
    ap is_lt (order_is section p p) ∙ lt_stays (front_total section) p q (target section p) (front_rises section p q h) (ap is_lt (sym (order_is section q p)) ∙ k)

-- a key that isn't behind them stands before each key that is
pub within_stays : (section : Section) (p q : KeyParts) → parts_cmp p q ≡ Less → is_le (section_order section q) ≡ true → is_le (section_order section p) ≡ true
within_stays section p q h k =
    ap is_le (order_is section p p)
    ∙ not_gt_le _ (upto (front_total section) p q (target section p) (front_rises section p q h) (le_not_gt _ (ap is_le (sym (order_is section q p)) ∙ k)))

is_code : Option (List ℕ) → List ℕ → Bool
is_code None text = true
is_code (Some code) text = bytes_eq text code

code_is : (code : Option (List ℕ)) (text : List ℕ) → is_eq (code_order code text) ≡ is_code code text
unfolding is_code
code_is None text = refl
code_is (Some code) text = same_text text code

-- a line stands there exactly where its codes are those
stands_by_codes : (section : Section) (c : LineValues) → stands_in section c
    ≡ (((key_parts_of c).rank == 2)
    && (bytes_eq (key_parts_of c).first section.place.network
    && (bytes_eq (key_parts_of c).second section.place.station
    && (bytes_eq (key_parts_of c).third section.location && is_code section.channel (key_parts_of c).fourth))))
stands_by_codes section c =
    let p : KeyParts = key_parts_of c in
    both_eq (nat_cmp p.rank 2) _
    ∙ (λ i. same_rank p.rank 2 i && both_eq (text_cmp p.first section.place.network) (ordering_then (text_cmp p.second section.place.station) (ordering_then (text_cmp p.third section.location) (code_order section.channel p.fourth))) i)
    ∙ (λ i. (p.rank == 2) && (same_text p.first section.place.network i && both_eq (text_cmp p.second section.place.station) (ordering_then (text_cmp p.third section.location) (code_order section.channel p.fourth)) i))
    ∙ (λ i. (p.rank == 2) && (bytes_eq p.first section.place.network && (same_text p.second section.place.station i && both_eq (text_cmp p.third section.location) (code_order section.channel p.fourth) i)))
    ∙ (λ i. (p.rank == 2) && (bytes_eq p.first section.place.network && (bytes_eq p.second section.place.station && (same_text p.third section.location i && code_is section.channel p.fourth i))))

-- where a selection asks for the codes of a section, each channel that it matches has them
code_there : (list : List (List ℕ)) (text : List ℕ) → is_match_any list text ≡ true → is_code (single_code list) text ≡ true
unfolding is_code
code_there list text h = by_code (single_code list) refl
  where
    by_code : (o : Option (List ℕ)) → single_code list ≡ o → is_code o text ≡ true
    by_code None is = refl
    by_code (Some code) is = (bytes_eq-Decides text code).1 (sym ((bytes_eq-Decides code text).0 (sym (single_matches list code text is) ∙ h)))

pub code_at : (list : List (List ℕ)) (code text : List ℕ) → single_code list ≡ Some code → is_match_any list text ≡ true → bytes_eq text code ≡ true
code_at list code text is h = (bytes_eq-Decides text code).1 (sym ((bytes_eq-Decides code text).0 (sym (single_matches list code text is) ∙ h)))

pub both_same : (a b c : Bool) → (c ≡ true → a ≡ b) → (a && c) ≡ (b && c)
both_same a b true h = ap (λ x. x && true) (h refl)
both_same true true false h = refl
both_same true false false h = refl
both_same false true false h = refl
both_same false false false h = refl

and_again : (a b : Bool) → (a && (a && b)) ≡ (a && b)
and_again true b = refl
and_again false b = refl

-- at such a channel, to be of the section is to be of the station
five : (rank first second third fourth kind : Bool) → rank ≡ true → kind ≡ true → third ≡ true → fourth ≡ true → (rank && (first && (second && (third && fourth)))) ≡ (kind && first && second)
five true first true true true true a b c d = by_first first
  where
    by_first : (first : Bool) → (first && true) ≡ (first && true)
    by_first first = refl
five true true false true true true a b c d = refl
five true false false true true true a b c d = refl
five false first second third fourth kind a b c d = absurd (true≢false (sym a))
five true first second false fourth kind a b c d = absurd (true≢false (sym c))
five true first second true false kind a b c d = absurd (true≢false (sym d))
five true first second true true false a b c d = absurd (true≢false (sym b))

module _ (s : Selection) (e : LineValues) (section : Section) (network_is : section.place.network ≡ (key_parts_of e).first) (station_is : section.place.station ≡ (key_parts_of e).second)
    (location_is : single_code s.location ≡ Some section.location) (channel_is : section.channel ≡ single_code s.channel) where
  abbrev is_there : LineValues → Bool
  is_there c = is_line_of Cha c && bytes_eq (key_parts_of c).first (key_parts_of e).first && bytes_eq (key_parts_of c).second (key_parts_of e).second

  there : (c : LineValues) → is_inner_channel s e c ≡ true → stands_in section c ≡ is_there c
  there c h =
      let p : KeyParts = key_parts_of c in
      let outer = and_parts (is_line_of Cha c && contains e c) (matches_channel s c) h in
      let kind = (and_parts (is_line_of Cha c) (contains e c) outer.0).0 in
      let codes = and_parts (is_match_any s.location p.third) (is_match_any s.channel p.fourth) outer.1 in
      stands_by_codes section c
      ∙ five (p.rank == 2) (bytes_eq p.first section.place.network) (bytes_eq p.second section.place.station) (bytes_eq p.third section.location) (is_code section.channel p.fourth) (is_line_of Cha c)
      (eq-eqb p.rank 2 (rank_is Cha c kind)) kind (code_at s.location section.location p.third location_is codes.0)
      (ap (λ (o : Option (List ℕ)). is_code o p.fourth) channel_is ∙ code_there s.channel p.fourth codes.1)
      ∙ (λ i. is_line_of Cha c && bytes_eq p.first (network_is i) && bytes_eq p.second (station_is i))

  -- the channels that are asked for are those of the section that are
  pub section_decides : (live : List LineValues) → list_any (is_inner_channel s e) (filter (stands_in section) (channels_of e live)) ≡ list_any (is_inner_channel s e) (channels_of e live)
  section_decides live =
      any_filtered (is_inner_channel s e) (stands_in section) (channels_of e live)
      ∙ any_filtered (λ c. stands_in section c && is_inner_channel s e c) is_there live
      ∙ any_same (λ c. is_there c && (stands_in section c && is_inner_channel s e c)) (λ c. is_there c && is_inner_channel s e c)
      (λ c. ap (λ b. is_there c && b) (both_same (stands_in section c) (is_there c) (is_inner_channel s e c) (there c)) ∙ and_again (is_there c) (is_inner_channel s e c)) live
      ∙ sym (any_filtered (is_inner_channel s e) is_there live)
