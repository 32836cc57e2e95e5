-- Rows in order are cut into groups: two are in one group exactly where they have the same name, and the same
-- quality and rate unless these are merged.
use Rattle.std.proofs.Common.{◌≡◌, ◌↔◌, ℕ, zero, suc, ◌+◌, ◌-◌, ◌≤◌, Bool, true, false, not, cond, List, [], ◌∷◌, ◌++◌, map, take, get_or, Some, refl, sym, ap, ◌∙◌, arith, subst, true≢false, Ordering}
use Rattle.std.specs.List.{AllByRecursion, slice_get}
use Rattle.std.specs.List.Sorted.{IsStrictlySortedBy}
use Rattle.std.specs.Cmp.{IsTotalOrder, Equal-is}
use Rattle.std.specs.Ordering.{is_eq, is_gt, is_lt, ordering_then, ordering_reverse}
use Rattle.std.specs.declared.cmp.Ordering.TheVariants.{Less, Equal, Greater}
use Rattle.std.proofs.lemmas.Cmp.{nat_cmp_total, int_cmp_total, on_total, then_total, tied_itself, tied_back}
use Rattle.std.proofs.lemmas.Option.{slice_get_within, slice_get-get_or}
use Rattle.list_laws.specs.Breaks.{put_before, runs_after, after_last}
use Rattle.list_laws.specs.InOrder.{in_order}
use Rattle.list_laws.proofs.Keys.{sorted_in_order}
use Rattle.list_laws.proofs.Passes.{after_end}
use Rattle.exact_time.specs.RateOrder.{rate_cmp, rates_total}
use Rattle.exact_time.proofs.Rates.{exact_rates}
use Rattle.channel_globs.specs.Names.{name_cmp}
use Rattle.channel_globs.proofs.Names.{names_total, exact_names}
use Rattle.mseed_header.proofs.Qualities.{qualities_total, exact_qualities}
use Rattle.mseed_header.specs.Quality.{quality_cmp}
use Rattle.mseed_header.specs.declared.header.Header.{Header}
use Rattle.mseed_header.specs.declared.row.Row.{Row}
use Rattle.dataselect.specs.Runs.{runs_by}
use Rattle.dataselect.specs.Runs as pairs
use Rattle.dataselect.specs.SpanLaw.{run_at, AreOneGroup}
use Rattle.dataselect.specs.Spans.{Merging, group_cmp, is_other_group, groups_of, placed_cmp, placed_from, rows_in_order}
use Rattle.dataselect.proofs.RunPlaces.{one_run, AreUnbroken}

-- runs from break to break are those where the item before alone counts
module _ {X : Type 0} (b : X → X → Bool) where
  put_alike : (t : X → Bool) (x : X) (runs : List (List X)) → ((y : X) → t y ≡ b x y) → put_before t x runs ≡ pairs.put_before b x runs
  put_alike t x [] same = refl
  put_alike t x ([] ∷ runs) same = refl
  put_alike t x ((y ∷ run) ∷ runs) same = ap (λ c. cond c ((x ∷ []) ∷ (y ∷ run) ∷ runs) ((x ∷ y ∷ run) ∷ runs)) (same y)

  pub runs_alike : (earlier xs : List X) → runs_after (after_last b) earlier xs ≡ runs_by b xs
  runs_alike earlier [] = refl
  runs_alike earlier (x ∷ xs) =
      ap (put_before (after_last b (earlier ++ x ∷ [])) x) (runs_alike (earlier ++ x ∷ []) xs)
      ∙ put_alike (after_last b (earlier ++ x ∷ [])) x (runs_by b xs) (after_end b earlier x)

-- all stand equal
level : {K : Type 0} → IsTotalOrder {K = K} (λ a b. Equal)
level = record { antisymm = λ x y. refl; trans = λ x y z h k. h; congr = λ x y z h. refl }

unless_merged : {K : Type 0} {cmp : K → K → Ordering} (merged : Bool) → IsTotalOrder cmp → IsTotalOrder (λ a b. cond merged Equal (cmp a b))
unless_merged true total = level
unless_merged false total = total

pub groups_total : (m : Merging) → IsTotalOrder (group_cmp m)
groups_total m =
    then_total (on_total (λ (h : Header). h.name) names_total)
    (then_total (unless_merged m.quality (on_total (λ (h : Header). h.quality) qualities_total)) (unless_merged m.rate (on_total (λ (h : Header). h.rate) rates_total)))

pub placed_total : (m : Merging) → IsTotalOrder (placed_cmp m)
placed_total m =
    then_total (on_total (λ (p : ℕ × Row). p.1.header) (groups_total m))
    (then_total (on_total (λ (p : ℕ × Row). p.1.header.start.micros) int_cmp_total)
    (then_total (on_total (λ (p : ℕ × Row). p.1.entry) nat_cmp_total)
    (then_total (on_total (λ (p : ℕ × Row). p.1.place) nat_cmp_total) (on_total (λ (p : ℕ × Row). p.0) nat_cmp_total))))

module _ (m : Merging) where
  -- no group stands behind a later one
  abbrev GroupsRise : List Row → Type 0
  GroupsRise [] = Unit {0}
  GroupsRise (row ∷ rows) = AllByRecursion (λ r. is_gt (group_cmp m row.header r.header) ≡ false) rows × GroupsRise rows

  not_behind : (o rest : Ordering) → ordering_then o rest ≡ Less → is_gt o ≡ false
  not_behind Less rest h = refl
  not_behind Equal rest h = refl
  not_behind Greater rest h = ap is_gt h

  all_rise : (p : ℕ × Row) (ps : List (ℕ × Row)) → AllByRecursion (λ q. placed_cmp m p q ≡ Less) ps → AllByRecursion (λ r. is_gt (group_cmp m p.1.header r.header) ≡ false) (map (λ q. q.1) ps)
  all_rise p [] all = tt
  all_rise p (q ∷ ps) all = (not_behind (group_cmp m p.1.header q.1.header) _ all.0, all_rise p ps all.1)

  sorted_rise : (ps : List (ℕ × Row)) → IsStrictlySortedBy (placed_cmp m) ps → GroupsRise (map (λ q. q.1) ps)
  unfolding IsStrictlySortedBy
  sorted_rise [] up = tt
  sorted_rise (p ∷ ps) up = (all_rise p ps up.0, sorted_rise ps up.1)

  pub rows_rise : (test : Row → Bool) (rows : List Row) → GroupsRise (rows_in_order m test rows)
  rows_rise test rows = sorted_rise (in_order (placed_cmp m) [] (placed_from test 0 rows)) (sorted_in_order (placed_total m) (placed_from test 0 rows))

  from_here : (row r : Row) (rows : List Row) (q : ℕ) → AllByRecursion (λ s. is_gt (group_cmp m row.header s.header) ≡ false) rows → slice_get rows q ≡ Some r → is_gt (group_cmp m row.header r.header) ≡ false
  from_here row r [] q all at = (cc)
  from_here row r (s ∷ rows) zero all at = let same : s ≡ r = (cc) in subst (λ (x : Row). is_gt (group_cmp m row.header x.header) ≡ false) same all.0
  from_here row r (s ∷ rows) (suc q) all at = from_here row r rows q all.1 at

  itself : (h : Header) → is_gt (group_cmp m h h) ≡ false
  itself h = ap is_gt (tied_itself (groups_total m) h)

  in_turn : (rows : List Row) (p q : ℕ) (a b : Row) → GroupsRise rows → p ≤ q → slice_get rows p ≡ Some a → slice_get rows q ≡ Some b → is_gt (group_cmp m a.header b.header) ≡ false
  in_turn [] p q a b up le at bt = (cc)
  in_turn (r ∷ rows) zero zero a b up le at bt = let same : a ≡ b = (cc) in subst (λ (x : Row). is_gt (group_cmp m a.header x.header) ≡ false) same (itself a.header)
  in_turn (r ∷ rows) zero (suc q) a b up le at bt = let same : r ≡ a = (cc) in subst (λ (x : Row). is_gt (group_cmp m x.header b.header) ≡ false) same (from_here r b rows q up.0 bt)
  in_turn (r ∷ rows) (suc p) zero a b up le at bt = absurd (omega arith)
  in_turn (r ∷ rows) (suc p) (suc q) a b up le at bt = in_turn rows p q a b up.1 (omega arith) at bt

  abbrev one : Header → Header → Type 0
  one a b = group_cmp m a b ≡ Equal

  middle : (o : Ordering) → is_gt o ≡ false → is_lt o ≡ false → o ≡ Equal
  middle Less h k = absurd (true≢false k)
  middle Equal h k = refl
  middle Greater h k = absurd (true≢false h)

  turned : (o : Ordering) → is_gt o ≡ false → is_lt (ordering_reverse o) ≡ false
  turned Less h = refl
  turned Equal h = refl
  turned Greater h = absurd (true≢false h)

  -- what stands between two of one group is of that group
  between : (a x b : Header) → one a b → is_gt (group_cmp m a x) ≡ false → is_gt (group_cmp m x b) ≡ false → one a x
  between a x b same first second =
      middle (group_cmp m a x) first
      (ap is_lt ((groups_total m).congr a b x same ∙ (groups_total m).antisymm b x) ∙ turned (group_cmp m x b) second)

  chain : (a b c : Header) → one a b → one b c → one a c
  chain a b c h k = (groups_total m).congr a b c h ∙ k

  joined : (a b : Header) → one a b → is_other_group m a b ≡ false
  joined a b h = ap (λ o. not (is_eq o)) h

  not_other : (a b : Header) → is_other_group m a b ≡ false → one a b
  not_other a b h = (Equal-is (group_cmp m a b)).0 (of_not (is_eq (group_cmp m a b)) h)
    where
      of_not : (c : Bool) → not c ≡ false → c ≡ true
      of_not true h = refl
      of_not false h = absurd (true≢false h)

  abbrev other : Row → Row → Bool
  other a b = is_other_group m a.header b.header

  take_more : (rows : List Row) (p : ℕ) (row : Row) → slice_get rows p ≡ Some row → take (suc p) rows ≡ take p rows ++ row ∷ []
  take_more [] p row at = (cc)
  take_more (r ∷ rows) zero row at = let same : r ≡ row = (cc) in ap (λ (x : Row). x ∷ []) same
  take_more (r ∷ rows) (suc p) row at = ap (λ (rs : List Row). r ∷ rs) (take_more rows p row at)

  last_decides : (rows : List Row) (p : ℕ) (before row : Row) → slice_get rows p ≡ Some before → after_last other (take (suc p) rows) row ≡ other before row
  last_decides rows p before row at = ap (λ rs. after_last other rs row) (take_more rows p before at) ∙ after_end other (take p rows) before row

  module _ (rows : List Row) (up : GroupsRise rows) where
    all_one : (n i j : ℕ) (a b : Row) → i + n ≡ j → slice_get rows i ≡ Some a → slice_get rows j ≡ Some b → AreUnbroken (after_last other) [] rows i j → one a.header b.header
    all_one zero i j a b e at bt h =
        let same : i ≡ j = omega (arith, e) in
        let there : Some a ≡ Some b = sym at ∙ ap (slice_get rows) same ∙ bt in
        let row : a ≡ b = (cc) in
        subst (λ (x : Row). one a.header x.header) row (tied_itself (groups_total m) a.header)
    all_one (suc n) i j a b e at bt h =
        let z = get_or rows (i + 1) a in
        let zt : slice_get rows (i + 1) ≡ Some z = slice_get-get_or rows (i + 1) a (omega (arith, e, slice_get_within rows j b bt)) in
        let next : i + 1 ≡ suc i = omega arith in
        let here = sym (last_decides rows i a z at) ∙ ap (λ k. after_last other (take k rows) z) (sym next) ∙ h (i + 1) z (omega arith) (omega (arith, e)) zt in
        chain a.header z.header b.header (not_other a.header z.header here) (all_one n (i + 1) j z b (omega (arith, e)) zt bt (λ k y more less yt. h k y (omega arith) less yt))

    one_all : (i j : ℕ) (a b : Row) → slice_get rows i ≡ Some a → slice_get rows j ≡ Some b → one a.header b.header → AreUnbroken (after_last other) [] rows i j
    one_all i j a b at bt same zero z more less zt = absurd (omega arith)
    one_all i j a b at bt same (suc p) z more less zt =
        let y = get_or rows p z in
        let yt : slice_get rows p ≡ Some y = slice_get-get_or rows p z (omega (arith, slice_get_within rows (suc p) z zt)) in
        let first = between a.header y.header b.header same (in_turn rows i p a y up (omega arith) at yt) (in_turn rows p j y b up (omega arith) yt bt) in
        let second = between a.header z.header b.header same (in_turn rows i (suc p) a z up (omega arith) at zt) (in_turn rows (suc p) j z b up less zt bt) in
        last_decides rows p y z yt ∙ joined y.header z.header (chain y.header a.header z.header (tied_back (groups_total m) a.header y.header first) second)

  -- rows in order are in one group exactly where they stand equal by group
  pub in_one_group : (rows : List Row) → GroupsRise rows → (i j : ℕ) (a b : Row) → i ≤ j → slice_get rows i ≡ Some a → slice_get rows j ≡ Some b
      → (run_at (groups_of m (λ row. row.header) rows) i ≡ run_at (groups_of m (λ row. row.header) rows) j) ↔ (group_cmp m a.header b.header ≡ Equal)
  in_one_group rows up i j a b le at bt =
      let both = one_run (after_last other) [] rows i j le (slice_get_within rows j b bt) in
      subst (λ rs. (run_at rs i ≡ run_at rs j) ↔ (group_cmp m a.header b.header ≡ Equal)) (runs_alike other [] rows)
      (λ h. all_one rows up (j - i) i j a b (omega (arith, le)) at bt (both.0 h), λ h. both.1 (one_all rows up i j a b at bt h))

then_equal : (o p : Ordering) → ordering_then o p ≡ Equal → (o ≡ Equal) × (p ≡ Equal)
then_equal Less p h = let e : is_eq Less ≡ is_eq Equal = ap is_eq h in absurd (true≢false (sym e))
then_equal Equal p h = (refl, h)
then_equal Greater p h = let e : is_eq Greater ≡ is_eq Equal = ap is_eq h in absurd (true≢false (sym e))

unmerged : {P : Type 0} (merged : Bool) (o : Ordering) → cond merged Equal o ≡ Equal → (o ≡ Equal → P) → merged ≡ false → P
unmerged true o h f e = absurd (true≢false e)
unmerged false o h f e = f h

stands_equal : (merged : Bool) (o : Ordering) → (merged ≡ false → o ≡ Equal) → cond merged Equal o ≡ Equal
stands_equal true o f = refl
stands_equal false o f = f refl

-- the order of groups tells them apart
pub one_group : (m : Merging) (a b : Header) → (group_cmp m a b ≡ Equal) ↔ AreOneGroup m a b
one_group m a b =
    let names = name_cmp a.name b.name in
    let qualities = quality_cmp a.quality b.quality in
    let rates = rate_cmp a.rate b.rate in (
      λ h.
          let outer = then_equal names (ordering_then (cond m.quality Equal qualities) (cond m.rate Equal rates)) h in
          let inner = then_equal (cond m.quality Equal qualities) (cond m.rate Equal rates) outer.1 in
          record {
            name = exact_names a.name b.name outer.0;
            quality = unmerged m.quality qualities inner.0 (exact_qualities a.quality b.quality);
            rate = unmerged m.rate rates inner.1 (exact_rates a.rate b.rate);
          },
      λ g. (λ i. ordering_then (same names_total a.name b.name g.name i)
          (ordering_then (stands_equal m.quality qualities (λ e. same qualities_total a.quality b.quality (g.quality e)) i)
          (stands_equal m.rate rates (λ e. same rates_total a.rate b.rate (g.rate e)) i))),
    )
  where
    same : {K : Type 0} {cmp : K → K → Ordering} (total : IsTotalOrder cmp) (x y : K) → x ≡ y → cmp x y ≡ Equal
    same {K} {cmp} total x y e = ap (cmp x) (sym e) ∙ tied_itself total x

pub groups_are : (m : Merging) (test : Row → Bool) (rows : List Row) (i j : ℕ) (a b : Row) → i ≤ j → slice_get (rows_in_order m test rows) i ≡ Some a → slice_get (rows_in_order m test rows) j ≡ Some b
    → (run_at (groups_of m (λ row. row.header) (rows_in_order m test rows)) i ≡ run_at (groups_of m (λ row. row.header) (rows_in_order m test rows)) j) ↔ AreOneGroup m a.header b.header
groups_are m test rows i j a b le at bt =
    let both = in_one_group m (rows_in_order m test rows) (rows_rise m test rows) i j a b le at bt in
    let told = one_group m a.header b.header in
    (λ h. told.0 (both.0 h), λ g. both.1 (told.1 g))
