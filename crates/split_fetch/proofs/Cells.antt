-- The rows of the windows, as they arrive, and put together.
use Rattle.std.proofs.Common.{◌≡◌, ◌≤ℤ◌, ◌+ℤ◌, ℤ, pos, Bool, true, false, not, ◌&&◌, ◌||◌, cond, List, [], ◌∷◌, ◌++◌, filter, Ordering, refl, sym, ap, ap₂, ◌∙◌, subst, arith, append-nil, append_assoc}
use Rattle.std.specs.Prelude.{int_le}
use Rattle.std.specs.List.{AllByRecursion, list_any, flat_map}
use Rattle.std.specs.Ordering.{nat_cmp, int_cmp, ordering_then, ordering_reverse, is_lt}
use Rattle.std.specs.declared.cmp.Ordering.TheVariants.{Less, Equal, Greater}
use Rattle.std.specs.Str.{bytes_eq}
use Rattle.std.specs.Cmp.{IsTotalOrder}
use Rattle.std.proofs.lemmas.Bool.{and_parts, and_from}
use Rattle.std.proofs.lemmas.Cmp.{nat_cmp_total, int_cmp_total, on_total, then_total}
use Rattle.std.proofs.lemmas.Int.{ints}
use Rattle.std.proofs.lemmas.List.Folds.{list_any-append}
use Rattle.std.proofs.lemmas.Grind.{flat_map-append}
use Rattle.std.proofs.lemmas.Map.Lookups.{exact_signed}
use Rattle.channel_globs.specs.Names.{name_cmp}
use Rattle.channel_globs.proofs.Names.{names_total}
use Rattle.mseed_header.specs.Quality.{quality_cmp}
use Rattle.mseed_header.proofs.Qualities.{qualities_total}
use Rattle.mseed_header.specs.declared.row.Row.{Row}
use Rattle.dataselect.specs.declared.query.DataQuery.{DataQuery}
use Rattle.dataselect.specs.Chosen.{passes}
use Rattle.dataselect.specs.Rows.{has_image, new_after, held_rows}
use Rattle.split_fetch.specs.Gathered.{put_behind, put_all_behind}
use Rattle.split_fetch.specs.Gathering.{start_cmp, gathered}
use Rattle.split_fetch.specs.Windows.{Make, in_window}
use Rattle.split_fetch.specs.declared.window.Window.{Window}
use Rattle.split_fetch.proofs.Apart.{AreApart, apart_kept, apart_sorted, held_apart, all_found, after_joined, after_kept}
use Rattle.split_fetch.proofs.Meets.{last_moment, window_meets, meets_is, not_before, is_named_by, asked_is, some_met}
use Rattle.split_fetch.proofs.Ordered.{row_cmp, ordered}
use Rattle.split_fetch.proofs.Rising.{rises_all, filter_all, rises_coarser}
use Rattle.split_fetch.proofs.Woven.{Rises, AreClasses, woven}

pub starts_total : IsTotalOrder start_cmp
starts_total =
    then_total (on_total (λ (r : Row). r.header.name) names_total)
    (then_total (on_total (λ (r : Row). r.header.quality) qualities_total) (on_total (λ (r : Row). r.header.start.micros) int_cmp_total))

rows_total : IsTotalOrder row_cmp
rows_total = then_total starts_total (then_total (on_total (λ (r : Row). r.entry) nat_cmp_total)
    (on_total (λ (r : Row). r.place) nat_cmp_total))

not_less : (a b : Ordering) → is_lt (ordering_then a b) ≡ false → is_lt a ≡ false
not_less Less b h = h
not_less Equal b h = refl
not_less Greater b h = refl

coarser : (x y : Row) → is_lt (row_cmp x y) ≡ false → is_lt (start_cmp x y) ≡ false
coarser x y h = not_less (start_cmp x y) (ordering_then (nat_cmp x.entry y.entry) (nat_cmp x.place y.place)) h

both_equal : (a b : Ordering) → ordering_then a b ≡ Equal → (a ≡ Equal) × (b ≡ Equal)
both_equal Less b h = absurd (let e : Less ≡ Equal = h in (cc))
both_equal Equal b h = (refl, h)
both_equal Greater b h = absurd (let e : Greater ≡ Equal = h in (cc))

neither : (c : Ordering) → is_lt c ≡ false → is_lt (ordering_reverse c) ≡ false → c ≡ Equal
neither Less h k = absurd (let e = h in (cc))
neither Equal h k = refl
neither Greater h k = absurd (let e = k in (cc))

same_start : (x y : Row) → is_lt (start_cmp x y) ≡ false → is_lt (start_cmp y x) ≡ false → x.header.start.micros ≡ y.header.start.micros
same_start x y h k =
    let e = neither (start_cmp x y) h (ap is_lt (sym (starts_total.antisymm y x)) ∙ k) in
    let p = both_equal (name_cmp x.header.name y.header.name)
    (ordering_then (quality_cmp x.header.quality y.header.quality) (int_cmp x.header.start.micros y.header.start.micros)) e in
    let q = both_equal (quality_cmp x.header.quality y.header.quality) (int_cmp x.header.start.micros y.header.start.micros) p.1 in
    exact_signed x.header.start.micros y.header.start.micros q.1

abbrev pub meets : Window → Row → Bool
meets w row = window_meets w row.header

abbrev pub touched : List Window → Row → Bool
touched ws row = list_any (λ w. meets w row) ws

abbrev pub fresh : List Window → Window → Row → Bool
fresh earlier w row = not (touched earlier row) && meets w row

abbrev BeginBy : ℤ → List Window → Type 0
BeginBy from ws = AllByRecursion (λ v. v.start.micros ≤ℤ from) ws

or_first : (a b : Bool) → a ≡ true → (a || b) ≡ true
or_first a b h = ap (λ (c : Bool). c || b) h

or_second : (a b : Bool) → b ≡ true → (a || b) ≡ true
or_second true b h = refl
or_second false b h = h

-- a record that meets a window meets each earlier one that a record with its start meets
touched_too : (x y : Row) (w : Window) (earlier : List Window) → BeginBy w.start.micros earlier → x.header.start.micros
    ≡ y.header.start.micros → meets w x ≡ true → touched earlier y ≡ true → touched earlier x ≡ true
touched_too x y w [] all same here h = h
touched_too x y w (v ∷ earlier) all same here h =
    elim (meets v y) as (λ b. meets v y ≡ b → (b || touched earlier y) ≡ true → (meets v x || touched earlier x) ≡ true) [
      | true ↦ λ e _.
          let there = and_parts (int_le v.start.micros (last_moment y.header)) (int_le y.header.start.micros v.end.micros)
          (sym (meets_is v y.header) ∙ e) in
          let mine = and_parts (int_le w.start.micros (last_moment x.header)) (int_le x.header.start.micros w.end.micros)
          (sym (meets_is w x.header) ∙ here) in
          let reach : int_le w.start.micros (last_moment x.header) ≡ true = mine.0 in
          let before : int_le y.header.start.micros v.end.micros ≡ true = there.1 in
          let begins = all.0 in
          let one : int_le v.start.micros (last_moment x.header) ≡ true =
          at_least v.start.micros w.start.micros (last_moment x.header) begins reach in
          let two : int_le x.header.start.micros v.end.micros ≡ true = ap (λ (z : ℤ). int_le z v.end.micros) same ∙ before in
          or_first (meets v x) (touched earlier x) (meets_is v x.header
          ∙ and_from (int_le v.start.micros (last_moment x.header)) (int_le x.header.start.micros v.end.micros) one two)
      | false ↦ λ _ k. or_second (meets v x) (touched earlier x) (touched_too x y w earlier all.1 same here k)
    ] refl h
  where
    at_least : (a b c : ℤ) → a ≤ℤ b → int_le b c ≡ true → int_le a c ≡ true
    at_least a b c h k = grind (arith, ints)

classes : (earlier : List Window) (w : Window) → BeginBy w.start.micros earlier → AreClasses start_cmp (touched earlier) (fresh earlier w)
classes earlier w all = record {
  apart = λ x h. ap (λ (b : Bool). not b && meets w x) h;
  alike = λ x y q p back.
      elim (is_lt (start_cmp x y)) as (λ b. is_lt (start_cmp x y) ≡ b → b ≡ true) [
        | true ↦ λ _. refl
        | false ↦ λ e.
            let parts = and_parts (not (touched earlier x)) (meets w x) q in
            let known : touched earlier x ≡ true = touched_too x y w earlier all (same_start x y e back) parts.1 p in
            let not_known : not (touched earlier x) ≡ true = parts.0 in
            let no : not true ≡ true = ap not (sym known) ∙ not_known in
            absurd (let k : false ≡ true = no in (cc))
      ] refl;
}

filter_and : (a b : Row → Bool) (xs : List Row) → filter (λ r. a r && b r) xs ≡ filter b (filter a xs)
filter_and a b [] = refl
filter_and a b (x ∷ xs) =
    let rest = filter_and a b xs in
    elim (a x) as (λ c. cond (c && b x) (x ∷ filter (λ r. a r && b r) xs) (filter (λ r. a r && b r) xs)
    ≡ filter b (cond c (x ∷ filter a xs) (filter a xs))) [
      | true ↦ ap (λ (l : List Row). cond (b x) (x ∷ l) l) rest
      | false ↦ rest
    ]

put_joined : (cmp : Row → Row → Ordering) (done xs ys : List Row) → put_all_behind cmp done (xs ++ ys)
    ≡ put_all_behind cmp (put_all_behind cmp done xs) ys
put_joined cmp done [] ys = refl
put_joined cmp done (x ∷ xs) ys = put_joined cmp (put_behind cmp done x) xs ys

or_new : (a b : Bool) → (a || (not a && b)) ≡ (a || (b || false))
or_new true b = refl
or_new false true = refl
or_new false false = refl

all_nothing : (xs : List Row) → filter (λ r. false) xs ≡ []
all_nothing [] = refl
all_nothing (x ∷ xs) = all_nothing xs

module _ (seen : Row → Bool) (query : DataQuery) (rows : List Row) where
  -- seen and named, whatever the window
  abbrev base : Row → Bool
  base row = seen row && is_named_by query row.header

  abbrev sorted : List Row
  sorted = put_all_behind row_cmp [] (filter base rows)

  regroup : (a b c : Bool) → (a && (b && c)) ≡ ((a && b) && c)
  regroup true b c = refl
  regroup false b c = refl

  passes_is : (w : Window) (row : Row) → passes seen (in_window w query) row ≡ (base row && meets w row)
  passes_is w row = ap (λ (b : Bool). seen row && b) (asked_is w query row.header)
      ∙ regroup (seen row) (is_named_by query row.header) (meets w row)

  -- the rows of a window are those of all that meet it
  part_is : (w : Window) → ordered seen (in_window w query) rows ≡ filter (meets w) sorted
  part_is w =
      ap (λ (test : Row → Bool). put_all_behind row_cmp [] (filter test rows)) (λ i row. passes_is w row i)
      ∙ ap (put_all_behind row_cmp []) (filter_and base (meets w) rows)
      ∙ sym (filter_all rows_total (meets w) [] (filter base rows) tt)

  rising : Rises start_cmp sorted
  rising = rises_coarser row_cmp start_cmp coarser sorted (rises_all rows_total [] (filter base rows) tt)

  abbrev cells : List Window → List Window → List Row
  cells earlier [] = []
  cells earlier (w ∷ ws) = filter (fresh earlier w) sorted ++ cells (earlier ++ w ∷ []) ws

  begin_later : (from to : ℤ) (ws : List Window) → from ≤ℤ to → BeginBy from ws → BeginBy to ws
  begin_later from to [] le all = tt
  begin_later from to (v ∷ ws) le all = (let h = all.0 in omega (arith, ints, h, le), begin_later from to ws le all.1)

  begin_more : (from : ℤ) (ws : List Window) (w : Window) → BeginBy from ws → w.start.micros ≤ℤ from → BeginBy from (ws ++ w ∷ [])
  begin_more from [] w all one = (one, tt)
  begin_more from (v ∷ ws) w all one = (all.0, begin_more from ws w all.1 one)

  cells_woven : (from to : ℤ) (earlier ws : List Window) → BeginBy from earlier → Make from to ws
      → put_all_behind start_cmp (filter (touched earlier) sorted) (cells earlier ws) ≡ filter (touched (earlier ++ ws)) sorted
  cells_woven from to earlier [] all make = ap (λ (l : List Window). filter (touched l) sorted) (sym (append-nil earlier))
  cells_woven from to earlier (w ∷ ws) all make =
      let begins : from ≤ℤ w.start.micros = (let e = make.0 in omega (arith, ints, e)) in
      let ends : from ≤ℤ (w.end.micros +ℤ pos 1) = (let e = make.1 in omega (arith, ints, e)) in
      let starts : w.start.micros ≤ℤ (w.end.micros +ℤ pos 1) = (let d = make.0 in let e = make.1 in omega (arith, ints, d, e)) in
      let both : (r : Row) → (touched earlier r || fresh earlier w r) ≡ touched (earlier ++ w ∷ []) r =
      λ r. or_new (touched earlier r) (meets w r) ∙ sym (list_any-append (λ (v : Window). meets v r) earlier (w ∷ [])) in
      put_joined start_cmp (filter (touched earlier) sorted) (filter (fresh earlier w) sorted) (cells (earlier ++ w ∷ []) ws)
      ∙ ap (λ (l : List Row). put_all_behind start_cmp l (cells (earlier ++ w ∷ []) ws))
      (woven start_cmp (touched earlier) (fresh earlier w)
      (classes earlier w (begin_later from w.start.micros earlier begins all)) sorted rising
      ∙ ap (λ (test : Row → Bool). filter test sorted) (λ i r. both r i))
      ∙ cells_woven (w.end.micros +ℤ pos 1) to (earlier ++ w ∷ []) ws
      (begin_more (w.end.micros +ℤ pos 1) earlier w (begin_later from (w.end.micros +ℤ pos 1) earlier ends all) starts) make.2
      ∙ ap (λ (l : List Window). filter (touched l) sorted) (append_assoc earlier (w ∷ []) ws)

  abbrev arrived : List Window → List Row
  arrived ws = flat_map (λ w. filter (meets w) sorted) ws

  module _ (apart : AreApart sorted) where
    known_all : (m k : Row → Bool) (before more : List Row) (xs : List Row) → AllByRecursion (λ r. has_image r.image before ≡ m r) xs
        → AllByRecursion (λ r. has_image r.image more ≡ k r) xs
        → AllByRecursion (λ r. has_image r.image (before ++ more) ≡ (m r || k r)) xs
    known_all m k before more [] one two = tt
    known_all m k before more (r ∷ rs) one two = (
      list_any-append (λ (o : Row). bytes_eq o.image r.image) before more
          ∙ ap₂ (λ a b. a || b) one.0 two.0,
      known_all m k before more rs one.1 two.1,
    )

    none_known : (xs : List Row) → AllByRecursion (λ r. has_image r.image [] ≡ false) xs
    none_known [] = tt
    none_known (x ∷ xs) = (refl, none_known xs)

    known : (ws : List Window) → AllByRecursion (λ r. has_image r.image (arrived ws) ≡ touched ws r) sorted
    known [] = none_known sorted
    known (w ∷ ws) = known_all (meets w) (touched ws) (filter (meets w) sorted) (arrived ws) sorted (all_found (meets w) sorted apart)
        (known ws)

    arrived_more : (earlier : List Window) (w : Window) → arrived (earlier ++ w ∷ []) ≡ arrived earlier ++ filter (meets w) sorted
    arrived_more earlier w = flat_map-append (λ v. filter (meets v) sorted) earlier (w ∷ [])
        ∙ ap (λ (l : List Row). arrived earlier ++ l) (append-nil (filter (meets w) sorted))

    held_cells : (earlier ws : List Window) → new_after (arrived earlier) (arrived ws) ≡ cells earlier ws
    held_cells earlier [] = refl
    held_cells earlier (w ∷ ws) =
        after_joined (arrived earlier) (filter (meets w) sorted) (arrived ws)
        ∙ ap₂ (λ (xs ys : List Row). xs ++ ys) (after_kept (touched earlier) (meets w) (arrived earlier) sorted apart (known earlier))
        (ap (λ (b : List Row). new_after b (arrived ws)) (sym (arrived_more earlier w)) ∙ held_cells (earlier ++ w ∷ []) ws)

  touched_is : (whole w : Window) (ws : List Window) → Make whole.start.micros whole.end.micros (w ∷ ws) → (r : Row) → touched (w ∷ ws) r
      ≡ meets whole r
  touched_is whole w ws make r =
      ap (λ (test : Window → Bool). list_any test (w ∷ ws)) (λ i v. meets_is v r.header i)
      ∙ some_met r.header.start.micros (last_moment r.header) whole.start.micros whole.end.micros w ws (not_before r.header) make
      ∙ sym (meets_is whole r.header)

  pub put_together : (whole w : Window) (ws : List Window) → held_rows rows ≡ rows → Make whole.start.micros whole.end.micros (w ∷ ws)
      → gathered (flat_map (λ v. ordered seen (in_window v query) rows) (w ∷ ws)) ≡ ordered seen (in_window whole query) rows
  put_together whole w ws held make =
      let apart : AreApart sorted = apart_sorted row_cmp (filter base rows)
      (apart_kept base rows (subst AreApart held (held_apart rows))) in
      ap (λ (f : Window → List Row). gathered (flat_map f (w ∷ ws))) (λ i v. part_is v i)
      ∙ ap (put_all_behind start_cmp []) (held_cells apart [] (w ∷ ws))
      ∙ ap (λ (l : List Row). put_all_behind start_cmp l (cells [] (w ∷ ws))) (sym (all_nothing sorted))
      ∙ cells_woven whole.start.micros whole.end.micros [] (w ∷ ws) tt make
      ∙ ap (λ (test : Row → Bool). filter test sorted) (λ i r. touched_is whole w ws make r i)
      ∙ sym (part_is whole)
