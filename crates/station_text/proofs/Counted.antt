-- How many stations a network has, counted in one walk over their lines in order.
use Rattle.std.proofs.Common.{◌≡◌, ℕ, ◌+◌, ◌≤◌, Bool, true, false, ◌||◌, ◌&&◌, List, [], ◌∷◌, ◌++◌, length, filter, cond, Option, Some, None, refl, sym, ap, subst, ◌∙◌, arith}
use Rattle.std.specs.declared.cmp.Ordering.{Ordering}
use Rattle.std.specs.declared.cmp.Ordering.TheVariants.{Less, Equal, Greater}
use Rattle.std.specs.Ordering.{is_eq, is_gt, eq_by_cmp}
use Rattle.std.specs.Cmp.Lexicographic.{nat_list_cmp_total}
use Rattle.std.specs.Str.{bytes_eq}
use Rattle.std.specs.List.{AllByRecursion, list_any, filter_map, cons_option, last_or}
use Rattle.std.specs.Option.{option_to_list}
use Rattle.std.specs.List.Sorted.{IsStrictlySortedBy}
use Rattle.std.proofs.lemmas.Bool.{true≢false, and_parts}
use Rattle.std.proofs.lemmas.List.Elements.{filter_map-append}
use Rattle.std.proofs.lemmas.List.Kept.{IsStrictlySortedBy-filter}
use Rattle.std.proofs.lemmas.Map.Lookups.{exact_bytes, btree_set_from_contains}
use Rattle.std.proofs.lemmas.Slice.Eq.{bytes_eq-Decides}
use Rattle.list_laws.specs.InOrder.{in_order}
use Rattle.list_laws.proofs.Keys.{sorted_in_order, any_in_order}
use Rattle.epochs.specs.declared.kinds.LineKind.TheVariants.{Sta}
use Rattle.epochs.specs.Lines.{LineValues}
use Rattle.epoch_rules.proofs.Halves.{Rises}
use Rattle.epoch_catalog.proofs.FamilyPlaces.{same_text}
use Rattle.epoch_catalog.specs.Families.{is_in}
use Rattle.epoch_catalog.specs.declared.families.Family.TheVariants.{StationsOf}
use Rattle.epoch_rules.specs.Catalog.{IsCatalog}
use Rattle.epoch_rules.specs.KeyOrder.{key_parts_of, line_cmp, text_cmp}
use Rattle.epoch_rules.specs.Rules.{is_line_of, contains}
use Rattle.station_text.specs.Asked.{stations_of, station_within, total_stations}
use Rattle.station_text.specs.Counts.{is_last, each_once}
use Rattle.station_text.specs.declared.lines.Counted.{Counted}
use Rattle.station_text.specs.declared.place.Place.{Place}
use Rattle.station_text.proofs.Places.{HasCodes, rank_is, stations_rise, then_second, same_code}
use Rattle.station_text.proofs.PlacesFound.{rises, IsLess}

-- what is counted of some codes: how many there are, each once where equal ones stand together, and the last of them
pub record AreCounted (counted : Counted) (codes : List (List ℕ)) : Type 0 where
  pub many : counted.codes ≡ length (each_once None codes)
  pub last : counted.last ≡ last_or None codes

last_is : (last : Option (List ℕ)) (code : List ℕ) → is_last last code ≡ true → last ≡ Some code
last_is None code h = absurd (true≢false (sym h))
last_is (Some last) code h = ap Some ((bytes_eq-Decides last code).0 h)

-- more codes count on from the last of those before
once_more : (last : Option (List ℕ)) (codes more : List (List ℕ)) → length (each_once last (codes ++ more)) ≡ length (each_once last codes) + length (each_once (last_or last codes) more)
once_more last [] more = omega arith
once_more last (code ∷ codes) more =
    elim (is_last last code) as (λ b. is_last last code ≡ b → length (cond b (each_once last (codes ++ more)) (code ∷ each_once (Some code) (codes ++ more)))
    ≡ length (cond b (each_once last codes) (code ∷ each_once (Some code) codes)) + length (each_once (last_or (Some code) codes) more)) [
      | true ↦ λ h.
          subst (λ o. length (each_once o (codes ++ more)) ≡ length (each_once o codes) + length (each_once (last_or (Some code) codes) more)) (sym (last_is last code h)) (once_more (Some code) codes more)
      | false ↦ λ h. let rest = once_more (Some code) codes more in omega (arith, rest)
    ] refl

last_more : (last : Option (List ℕ)) (codes more : List (List ℕ)) → last_or last (codes ++ more) ≡ last_or (last_or last codes) more
last_more last [] more = refl
last_more last (code ∷ codes) more = last_more (Some code) codes more

-- one line more, which has a code or none
pub counted_more : (h : LineValues → Option (List ℕ)) (es : List LineValues) (e : LineValues) (code : Option (List ℕ)) (before after : Counted) → code ≡ h e → AreCounted before (filter_map h es)
    → after.codes ≡ before.codes + length (each_once before.last (option_to_list code)) → after.last ≡ last_or before.last (option_to_list code) → AreCounted after (filter_map h (es ++ e ∷ []))
counted_more h es e code before after code_is counted many last =
    let codes : List (List ℕ) = filter_map h es in
    let more : List (List ℕ) = option_to_list code in
    let is : filter_map h (es ++ e ∷ []) ≡ codes ++ more = filter_map-append h es (e ∷ []) ∙ ap (λ cs. codes ++ cs) (at_most_one (h e) ∙ ap option_to_list (sym code_is)) in
    subst (AreCounted after) (sym is)
    (record {
      many =
          many
          ∙ ap (λ (o : Option (List ℕ)). before.codes + length (each_once o more)) counted.last
          ∙ ap (λ n. n + length (each_once (last_or None codes) more)) counted.many
          ∙ sym (once_more None codes more);
      last = last ∙ ap (λ (o : Option (List ℕ)). last_or o more) counted.last ∙ sym (last_more None codes more);
    })
  where
    at_most_one : (o : Option (List ℕ)) → cons_option o [] ≡ option_to_list o
    at_most_one None = refl
    at_most_one (Some code) = refl

-- one more at most
pub few_more : (last code : Option (List ℕ)) → length (each_once last (option_to_list code)) ≤ 1
few_more last None = omega arith
few_more last (Some code) =
    elim (is_last last code) as (λ b. length (cond b [] (code ∷ [])) ≤ 1) [
      | true ↦ omega arith
      | false ↦ omega arith
    ]

-- one code isn't behind another
abbrev pub NotBehind : List ℕ → List ℕ → Type 0
NotBehind x y = is_gt (text_cmp x y) ≡ false

less_by : (o : Ordering) → is_gt o ≡ false → is_eq o ≡ false → o ≡ Less
less_by Less h k = refl
less_by Equal h k = absurd (true≢false k)
less_by Greater h k = absurd (true≢false h)

above_all : (x y : List ℕ) (zs : List (List ℕ)) → text_cmp x y ≡ Less → AllByRecursion (λ z. text_cmp y z ≡ Less) zs → AllByRecursion (λ z. text_cmp x z ≡ Less) zs
above_all x y [] h all = tt
above_all x y (z ∷ zs) h all = (nat_list_cmp_total.trans x y z h all.0, above_all x y zs h all.1)

-- of codes in order, each once is strictly in order
record AreStrict (last : List ℕ) (codes : List (List ℕ)) : Type 0 where
  above : AllByRecursion (λ y. text_cmp last y ≡ Less) codes
  sorted : IsStrictlySortedBy text_cmp codes

strictly : (last : List ℕ) (codes : List (List ℕ)) → AllByRecursion (NotBehind last) codes → Rises NotBehind codes → AreStrict last (each_once (Some last) codes)
unfolding IsStrictlySortedBy
strictly last [] all up = record { above = tt; sorted = tt }
strictly last (code ∷ codes) all up =
    elim (bytes_eq last code) as (λ b. bytes_eq last code ≡ b → AreStrict last (cond b (each_once (Some last) codes) (code ∷ each_once (Some code) codes))) [
      | true ↦ λ h. strictly last codes all.1 up.1
      | false ↦ λ h.
          let less : text_cmp last code ≡ Less = less_by (text_cmp last code) all.0 (same_text last code ∙ h) in
          let more = strictly code codes up.0 up.1 in record {
            above = (less, above_all last code (each_once (Some code) codes) less more.above);
            sorted = (more.above, more.sorted);
          }
    ] refl

or_same : (a b : Bool) → (a || b) ≡ (a || (a || b))
or_same true b = refl
or_same false b = refl

-- and they are the codes
any_once : (test : List ℕ → Bool) (last : List ℕ) (codes : List (List ℕ)) → (test last || list_any test (each_once (Some last) codes)) ≡ (test last || list_any test codes)
any_once test last [] = refl
any_once test last (code ∷ codes) =
    elim (bytes_eq last code) as (λ b. bytes_eq last code ≡ b → (test last || list_any test (cond b (each_once (Some last) codes) (code ∷ each_once (Some code) codes))) ≡ (test last || (test code || list_any test codes))) [
      | true ↦ λ h.
          any_once test last codes
          ∙ or_same (test last) (list_any test codes)
          ∙ ap (λ (c : List ℕ). test last || (test c || list_any test codes)) ((bytes_eq-Decides last code).0 h)
      | false ↦ λ h. ap (λ b. test last || b) (any_once test code codes)
    ] refl

put_in_order : (codes : List (List ℕ)) → Rises NotBehind codes → in_order text_cmp [] codes ≡ each_once None codes
unfolding IsStrictlySortedBy
put_in_order [] up = refl
put_in_order (code ∷ codes) up =
    let strict = strictly code codes up.0 up.1 in
    btree_set_from_contains nat_list_cmp_total (record { keys = in_order text_cmp [] (code ∷ codes) }) (record { keys = code ∷ each_once (Some code) codes }) (sorted_in_order nat_list_cmp_total (code ∷ codes))
    (strict.above, strict.sorted) (λ q. any_in_order exact_bytes (eq_by_cmp text_cmp q) (code ∷ codes) ∙ sym (any_once (eq_by_cmp text_cmp q) code codes)) exact_bytes

all_pass : {X : Type 0} (p : X → Bool) (xs : List X) → AllByRecursion (λ x. p x ≡ true) (filter p xs)
all_pass p [] = tt
all_pass {X} p (x ∷ xs) =
    elim (p x) as (λ b. p x ≡ b → AllByRecursion (λ x. p x ≡ true) (cond b (x ∷ filter p xs) (filter p xs))) [
      | true ↦ λ h. (h, all_pass p xs)
      | false ↦ λ h. all_pass p xs
    ] refl

module _ (network : List ℕ) where
  abbrev IsThere : LineValues → Type 0
  IsThere e = is_in (StationsOf network) e ≡ true

  second_place : LineValues → Place
  second_place e = record { network = network; station = (key_parts_of e).second }

  stands : (e : LineValues) → IsThere e → HasCodes 1 (second_place e) (key_parts_of e)
  unfolding second_place
  stands e h =
      let parts = and_parts (is_line_of Sta e) (bytes_eq (key_parts_of e).first network) h in record {
        rank_is = rank_is Sta e parts.0;
        first_is = (bytes_eq-Decides (key_parts_of e).first network).0 parts.1;
        second_is = refl;
      }

  -- of the lines of a network's stations, the code of one before isn't behind that of another
  codes_go : (x y : LineValues) → IsThere x → IsThere y → line_cmp x y ≡ Less → NotBehind (key_parts_of x).second (key_parts_of y).second
  unfolding second_place
  codes_go x y at_x at_y less =
      sym (ap is_gt (then_second (text_cmp network network) (text_cmp (key_parts_of x).second (key_parts_of y).second) (same_code network)))
      ∙ stations_rise 1 (second_place x) (second_place y) (key_parts_of x) (key_parts_of y) less (stands x at_x) (stands y at_y)

  behind : (outer x : LineValues) (es : List LineValues) → IsThere x → AllByRecursion IsThere es → AllByRecursion (IsLess x) es → AllByRecursion (NotBehind (key_parts_of x).second) (filter_map (station_within outer) es)
  behind outer x [] at all less = tt
  behind outer x (e ∷ es) at all less =
      elim (is_line_of Sta e && contains outer e) as (λ b. AllByRecursion (NotBehind (key_parts_of x).second) (cons_option (cond b (Some (key_parts_of e).second) None) (filter_map (station_within outer) es))) [
        | true ↦ (codes_go x e at all.0 less.0, behind outer x es at all.1 less.1)
        | false ↦ behind outer x es at all.1 less.1
      ]

  codes_rise : (outer : LineValues) (es : List LineValues) → AllByRecursion IsThere es → Rises IsLess es → Rises NotBehind (filter_map (station_within outer) es)
  codes_rise outer [] all up = tt
  codes_rise outer (e ∷ es) all up =
      elim (is_line_of Sta e && contains outer e) as (λ b. Rises NotBehind (cons_option (cond b (Some (key_parts_of e).second) None) (filter_map (station_within outer) es))) [
        | true ↦ (behind outer e es all.0 all.1 up.0, codes_rise outer es all.1 up.1)
        | false ↦ codes_rise outer es all.1 up.1
      ]

-- the codes within, each once, are the stations of the network
pub counted_is : (live : List LineValues) (e : LineValues) (stations : List LineValues) → IsCatalog live → stations ≡ stations_of e live
    → length (each_once None (filter_map (station_within e) stations)) ≡ total_stations live e
counted_is live e stations catalog are =
    let network : List ℕ = (key_parts_of e).first in
    let there : List LineValues = stations_of e live in
    let codes : List (List ℕ) = filter_map (station_within e) there in
    ap (λ (es : List LineValues). length (each_once None (filter_map (station_within e) es))) are
    ∙ ap (λ (cs : List (List ℕ)). length cs)
    (sym (put_in_order codes (codes_rise network e there (all_pass (is_in (StationsOf network)) live) (rises there (IsStrictlySortedBy-filter line_cmp (is_in (StationsOf network)) live catalog.rises)))))
