-- The names of the channels that have rows are the names of the rows.
use Rattle.std.proofs.Common.{◌≡◌, ℕ, zero, suc, Bool, true, false, ◌&&◌, ◌||◌, cond, List, [], ◌∷◌, map, filter, Option, Some, None, refl, sym, ap, ◌∙◌, true≢false}
use Rattle.std.specs.List.{list_any, slice_get, AllByRecursion}
use Rattle.std.specs.Map.{lookup}
use Rattle.std.specs.Ordering.{is_eq, eq_by_cmp}
use Rattle.std.specs.BTreeMap.{BTreeMap, get, is_at}
use Rattle.std.proofs.lemmas.Bool.{and_parts, and_from, or_left, or_right}
use Rattle.std.proofs.lemmas.Cmp.{tied_itself}
use Rattle.list_laws.specs.InOrder.{in_order}
use Rattle.list_laws.proofs.Keys.{same_in_order}
use Rattle.channel_globs.specs.declared.nslc.Nslc.{Nslc}
use Rattle.channel_globs.specs.Names.{name_cmp}
use Rattle.channel_globs.proofs.Names.{names_total, exact_names}
use Rattle.mseed_header.specs.declared.row.Row.{Row}
use Rattle.dataselect.specs.HeldNames.{names_of}
use Rattle.dataselect.specs.MergedSpans.{has_name}
use Rattle.dataselect.specs.Query.{is_named}
use Rattle.dataselect.proofs.Rises.{same_name_of}
use Rattle.dataselect.proofs.Rises as rises
use Rattle.dataselect.specs.declared.query.Selection.{Selection}
use Rattle.dataselect.proofs.NamesHeld.{equal, same_names, equal_names, filtered}
use Rattle.time_index.specs.declared.spot.Spot.{Spot}
use Rattle.time_index.specs.declared.channels.Channel.{Channel}
use Rattle.time_index.specs.Index.{is_there, IsChannelIndex}
use Rattle.time_index.specs.Names.{is_some_spot, has_rows, names_in}
use Rattle.time_index.specs.Spots.{spot_cmp, spot_at, is_same, has}
use Rattle.time_index.specs.Windows.{single_name}
use Rattle.time_index.proofs.Named.{same_name}
use Rattle.time_index.proofs.Singles.{single_named, names_its_name}
use Rattle.time_index.proofs.Sets.{itself}

-- there is a channel, and it has a row
abbrev pub full : Option Channel → Bool
full None = false
full (Some channel) = has_rows channel

none_of_it : (n f : Bool) → false ≡ (n && (f && false))
none_of_it true true = refl
none_of_it true false = refl
none_of_it false f = refl

module _ (s : Selection) (m : BTreeMap Nslc Channel) (q : Nslc) where
  abbrev is_key : Nslc × Channel → Bool
  is_key e = equal q e.0

  matched : (e : Nslc × Channel) (rest : List Nslc) (n f x : Bool) → is_key e ≡ true → list_any (equal q) rest ≡ (n && (f && x)) → list_any (equal q) (cond (f && n) (e.0 ∷ rest) rest) ≡ (n && (f && (true || x)))
  matched e rest true true x here h = ap (λ b. b || list_any (equal q) rest) here
  matched e rest true false x here h = h
  matched e rest false true x here h = h
  matched e rest false false x here h = h

  other : (e : Nslc × Channel) (rest : List Nslc) (c : Bool) → is_key e ≡ false → list_any (equal q) (cond c (e.0 ∷ rest) rest) ≡ list_any (equal q) rest
  other e rest true h = ap (λ b. b || list_any (equal q) rest) h
  other e rest false h = refl

  -- a name is among them exactly where its channel has a row and it matches
  in_entries : (es : List (Nslc × Channel)) → AllByRecursion (λ e. get name_cmp m e.0 ≡ Some e.1) es → list_any (equal q) (names_in s es) ≡ (is_named s q && (full (get name_cmp m q) && list_any is_key es))
  in_entries [] all = none_of_it (is_named s q) (full (get name_cmp m q))
  in_entries (e ∷ es) all =
      let rest = in_entries es all.1 in
      elim (is_key e) as (λ b. is_key e ≡ b → list_any (equal q) (cond (has_rows e.1 && is_named s e.0) (e.0 ∷ names_in s es) (names_in s es)) ≡ (is_named s q && (full (get name_cmp m q) && (b || list_any is_key es)))) [
        | true ↦ λ k.
            let same : q ≡ e.0 = same_names q e.0 k in
            let rows : has_rows e.1 ≡ full (get name_cmp m q) = sym (ap (λ n. full (get name_cmp m n)) same ∙ ap full all.0) in
            (λ i. list_any (equal q) (cond (rows i && is_named s (sym same i)) (e.0 ∷ names_in s es) (names_in s es)))
            ∙ matched e (names_in s es) (is_named s q) (full (get name_cmp m q)) (list_any is_key es) k rest
        | false ↦ λ k. other e (names_in s es) (has_rows e.1 && is_named s e.0) k ∙ rest
      ] refl

  looked_up : (c : Channel) (es : List (Nslc × Channel)) → lookup (is_at (name_cmp q)) es ≡ Some c → list_any is_key es ≡ true
  looked_up c [] h = absurd (cc)
  looked_up c (e ∷ es) h =
      elim (is_same q e.0) as (λ b. is_same q e.0 ≡ b → cond b (Some e.1) (lookup (is_at (name_cmp q)) es) ≡ Some c → list_any is_key (e ∷ es) ≡ true) [
        | true ↦ λ k _. or_left (is_key e) (list_any is_key es) k
        | false ↦ λ _ l. or_right (is_key e) (list_any is_key es) (looked_up c es l)
      ] refl h

  full_there : (o : Option Channel) → get name_cmp m q ≡ o → (full o && list_any is_key m.entries) ≡ full o
  full_there None h = refl
  full_there (Some c) h = ap (λ b. has_rows c && b) (looked_up c m.entries h) ∙ and_true (has_rows c)
    where
      and_true : (b : Bool) → (b && true) ≡ b
      and_true true = refl
      and_true false = refl

module _ (rows : List Row) (m : BTreeMap Nslc Channel) (index : IsChannelIndex rows m) (q : Nslc) where
  abbrev is_of : Row → Bool
  is_of row = equal q row.header.name

  any_at : (xs : List Row) (p : ℕ) (row : Row) → slice_get xs p ≡ Some row → is_of row ≡ true → list_any is_of xs ≡ true
  any_at [] p row at h = (cc)
  any_at (x ∷ xs) zero row at h = let same : x ≡ row = (cc) in or_left (is_of x) (list_any is_of xs) (ap is_of same ∙ h)
  any_at (x ∷ xs) (suc p) row at h = or_right (is_of x) (list_any is_of xs) (any_at xs p row at h)

  record Place (xs : List Row) : Type 0 where
    place : ℕ
    row : Row
    at : slice_get xs place ≡ Some row
    is : is_of row ≡ true

  place_of : (xs : List Row) → list_any is_of xs ≡ true → Place xs
  place_of [] h = absurd (true≢false (sym h))
  place_of (x ∷ xs) h =
      elim (is_of x) as (λ b. is_of x ≡ b → (b || list_any is_of xs) ≡ true → Place (x ∷ xs)) [
        | true ↦ λ e _. record { place = 0; row = x; at = refl; is = e }
        | false ↦ λ _ rest. let later = place_of xs rest in record { place = suc later.place; row = later.row; at = later.at; is = later.is }
      ] refl h

  row_of : (spot : Spot) (o : Option Row) → slice_get rows spot.place ≡ o → is_there q spot o ≡ true → list_any is_of rows ≡ true
  row_of spot None at h = absurd (true≢false (sym h))
  row_of spot (Some row) at h =
      let named = (and_parts (is_same row.header.name q) (eq_by_cmp spot_cmp spot (spot_at spot.place row)) h).0 in
      any_at rows spot.place row at (equal_names q row.header.name (sym (same_name row.header.name q named)))

  first_held : (o : Option Channel) → get name_cmp m q ≡ o → full o ≡ true → list_any is_of rows ≡ true
  first_held None e h = absurd (true≢false (sym h))
  first_held (Some c) e h = of_keys c.spots.keys refl h
    where
      of_keys : (spots : List Spot) → c.spots.keys ≡ spots → is_some_spot spots ≡ true → list_any is_of rows ≡ true
      of_keys [] k f = absurd (true≢false (sym f))
      of_keys (spot ∷ spots) k f =
          let held : has (Some c) spot ≡ true = ap (list_any (eq_by_cmp spot_cmp spot)) k ∙ or_left (eq_by_cmp spot_cmp spot spot) (list_any (eq_by_cmp spot_cmp spot) spots) (itself spot spot refl) in
          row_of spot (slice_get rows spot.place) refl (sym (index.spots q spot) ∙ ap (λ o. has o spot) e ∙ held)

  some_key : (spot : Spot) (spots : List Spot) → list_any (eq_by_cmp spot_cmp spot) spots ≡ true → is_some_spot spots ≡ true
  some_key spot [] h = absurd (true≢false (sym h))
  some_key spot (k ∷ spots) h = refl

  spot_held : (o : Option Channel) (spot : Spot) → has o spot ≡ true → full o ≡ true
  spot_held None spot h = absurd (true≢false (sym h))
  spot_held (Some c) spot h = some_key spot c.spots.keys h

  row_held : Place rows → full (get name_cmp m q) ≡ true
  row_held p =
      let spot = spot_at p.place p.row in
      let named : is_same p.row.header.name q ≡ true = ap (λ n. is_same n q) (sym (same_names q p.row.header.name p.is)) ∙ ap is_eq (tied_itself names_total q) in
      spot_held (get name_cmp m q) spot
      (index.spots q spot ∙ ap (is_there q spot) p.at ∙ and_from (is_same p.row.header.name q) (eq_by_cmp spot_cmp spot spot) named (itself spot spot refl))

  same_bool : (a b : Bool) → (a ≡ true → b ≡ true) → (b ≡ true → a ≡ true) → a ≡ b
  same_bool true b f g = sym (f refl)
  same_bool false true f g = g refl
  same_bool false false f g = refl

  full_is : full (get name_cmp m q) ≡ list_any is_of rows
  full_is = same_bool (full (get name_cmp m q)) (list_any is_of rows) (first_held (get name_cmp m q) refl) (λ h. row_held (place_of rows h))

pub names_found : (s : Selection) (rows : List Row) (m : BTreeMap Nslc Channel) → AllByRecursion (λ e. get name_cmp m e.0 ≡ Some e.1) m.entries → IsChannelIndex rows m
    → in_order name_cmp [] (names_in s m.entries) ≡ names_of s rows
names_found s rows m all index =
    same_in_order names_total exact_names (names_in s m.entries) (filter (is_named s) (map (λ row. row.header.name) rows))
    (λ q.
    in_entries s m q m.entries all
    ∙ ap (λ b. is_named s q && b) (full_there s m q (get name_cmp m q) refl ∙ full_is rows m index q)
    ∙ sym (filtered (is_named s) q rows))

-- the two tests of a name are one
named_alike : (name : Nslc) (row : Row) → equal name row.header.name ≡ has_name name row
named_alike name row =
    same_bool (equal name row.header.name) (has_name name row)
    (λ h. same_name_of row.header.name name (sym (same_names name row.header.name h)))
    (λ h. equal_names name row.header.name (sym (rises.same_names row.header.name name h)))
  where
    same_bool : (a b : Bool) → (a ≡ true → b ≡ true) → (b ≡ true → a ≡ true) → a ≡ b
    same_bool true b f g = sym (f refl)
    same_bool false true f g = g refl
    same_bool false false f g = refl

-- a channel has rows exactly where some row has its name
pub name_found : (name : Nslc) (rows : List Row) (m : BTreeMap Nslc Channel) → IsChannelIndex rows m → full (get name_cmp m name) ≡ list_any (has_name name) rows
name_found name rows m index = full_is rows m index name ∙ (λ i. list_any (λ row. named_alike name row i) rows)

-- the one name that a selection can match, where some row has it
pub single_found : (s : Selection) (name : Nslc) (held : Bool) (rows : List Row) (m : BTreeMap Nslc Channel) → IsChannelIndex rows m → single_name s ≡ Some name → held ≡ list_any (has_name name) rows
    → cond held (name ∷ []) [] ≡ names_of s rows
single_found s name held rows m index single is =
    alone held ∙ same_in_order names_total exact_names (cond held (name ∷ []) []) (filter (is_named s) (map (λ row. row.header.name) rows)) (λ q.
    elim (equal q name) as (λ b. equal q name ≡ b → list_any (equal q) (cond held (name ∷ []) []) ≡ list_any (equal q) (filter (is_named s) (map (λ row. row.header.name) rows))) [
      | true ↦ λ k.
          let same : q ≡ name = same_names q name k in
          let there : held ≡ list_any (λ row. equal q row.header.name) rows = is ∙ sym (λ i. list_any (λ row. named_alike name row i) rows) ∙ ap (λ n. list_any (λ row. equal n row.header.name) rows) (sym same) in
          any_one q held k ∙ there ∙ ap (λ b. b && list_any (λ row. equal q row.header.name) rows) (sym (ap (is_named s) same ∙ names_its_name s name single)) ∙ sym (filtered (is_named s) q rows)
      | false ↦ λ k.
          any_other q held k
          ∙ elim (is_named s q) as (λ b. is_named s q ≡ b → false ≡ list_any (equal q) (filter (is_named s) (map (λ row. row.header.name) rows))) [
            | true ↦ λ n. absurd (true≢false (sym (equal_names q name (sym (single_named s name q single n))) ∙ k))
            | false ↦ λ n. ap (λ b. b && list_any (λ row. equal q row.header.name) rows) (sym n) ∙ sym (filtered (is_named s) q rows)
          ] refl
    ] refl)
  where
    alone : (b : Bool) → cond b (name ∷ []) [] ≡ in_order name_cmp [] (cond b (name ∷ []) [])
    alone true = refl
    alone false = refl

    any_one : (q : Nslc) (b : Bool) → equal q name ≡ true → list_any (equal q) (cond b (name ∷ []) []) ≡ b
    any_one q true k = ap (λ x. x || false) k
    any_one q false k = refl

    any_other : (q : Nslc) (b : Bool) → equal q name ≡ false → list_any (equal q) (cond b (name ∷ []) []) ≡ false
    any_other q true k = ap (λ x. x || false) k
    any_other q false k = refl
