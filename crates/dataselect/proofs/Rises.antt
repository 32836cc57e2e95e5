-- The chosen places are in order of their names, so the segments of one name stand together.
use Rattle.std.proofs.Common.{◌≡◌, ◌<◌, ◌⊎◌, inl, inr, ℕ, zero, suc, Bool, true, false, ◌&&◌, List, [], ◌∷◌, ◌++◌, length, take, drop, map, cond, slice_index, Option, Some, None, refl, sym, ap, ◌∙◌, arith, subst, Ordering}
use Rattle.std.specs.List.{AllByRecursion, slice_get}
use Rattle.std.specs.List.Sorted.{IsStrictlySortedBy}
use Rattle.std.specs.Ordering.{ordering_then, ordering_reverse}
use Rattle.std.specs.Str.{bytes_eq}
use Rattle.std.specs.declared.cmp.Ordering.TheVariants.{Less, Equal, Greater}
use Rattle.std.proofs.lemmas.Bool.{and_parts}
use Rattle.std.proofs.lemmas.Slice.Eq.{bytes_eq-Decides}
use Rattle.list_laws.proofs.Keys.{sorted_in_order}
use Rattle.channel_globs.specs.declared.nslc.Nslc.{Nslc}
use Rattle.mseed_header.specs.declared.row.Row.{Row}
use Rattle.dataselect.specs.declared.order.Rank.{Rank}
use Rattle.dataselect.specs.declared.query.DataQuery.{DataQuery}
use Rattle.dataselect.specs.Chosen.{ranks_from, ranks_chosen, chosen_places}
use Rattle.channel_globs.specs.Names.{name_cmp}
use Rattle.dataselect.specs.Order.{rank_cmp}
use Rattle.dataselect.specs.Picked.{IsNotAfter, NamesRise, long_segments}
use Rattle.dataselect.specs.Runs.{put_before, runs_by}
use Rattle.dataselect.specs.Segments.{is_same_name, are_same_or, have_one_name, breaks_at, is_long}
use Rattle.dataselect.proofs.Bests.{all_filtered}
use Rattle.dataselect.proofs.Cuts.{all_dropped}
use Rattle.dataselect.proofs.Members.{IsRanked, ranked}
use Rattle.channel_globs.proofs.Names.{names_total, exact_names}
use Rattle.dataselect.proofs.Ranks.{ranks_total}

then_less : (a b : Nslc) (rest : Ordering) → ordering_then (name_cmp a b) rest ≡ Less → (name_cmp a b ≡ Less) ⊎ (a ≡ b)
then_less a b rest =
    elim (name_cmp a b) as (λ o. name_cmp a b ≡ o → ordering_then o rest ≡ Less → (name_cmp a b ≡ Less) ⊎ (a ≡ b)) [
      | Less ↦ λ e h. inl e
      | Equal ↦ λ e h. inr (exact_names a b e)
      | Greater ↦ λ e h. absurd (let k : Greater ≡ Less = h in (cc))
    ] refl

not_after : (seen : Row → Bool) (query : DataQuery) (rows : List Row) (a b : Rank) → IsRanked seen query rows a → IsRanked seen query rows b → rank_cmp a b ≡ Less
    → IsNotAfter (slice_get rows a.index) (slice_get rows b.index)
not_after seen query rows a b ra rb less =
    let one : a.name ≡ ra.row.header.name = ap (λ (r : Rank). r.name) ra.rank_is in
    let two : b.name ≡ rb.row.header.name = ap (λ (r : Rank). r.name) rb.rank_is in
    let here : (name_cmp a.name b.name ≡ Less) ⊎ (a.name ≡ b.name) = then_less a.name b.name _ less in
    let P : Nslc → Nslc → Type 0 = λ m n. (name_cmp m n ≡ Less) ⊎ (m ≡ n) in
    let there : P ra.row.header.name rb.row.header.name = subst (λ (m : Nslc). P m rb.row.header.name) one (subst (λ (n : Nslc). P a.name n) two here) in
    subst (λ (o : Option Row). IsNotAfter o (slice_get rows b.index)) (sym ra.stands) (subst (λ (o : Option Row). IsNotAfter (Some ra.row) o) (sym rb.stands) there)

module _ (seen : Row → Bool) (query : DataQuery) (rows : List Row) where
  all_after : (r : Rank) (rs : List Rank) → IsRanked seen query rows r → AllByRecursion (IsRanked seen query rows) rs → AllByRecursion (λ y. rank_cmp r y ≡ Less) rs
      → AllByRecursion (λ j. IsNotAfter (slice_get rows r.index) (slice_get rows j)) (map (λ q. q.index) rs)
  all_after r [] one all less = tt
  all_after r (x ∷ rs) one all less = (not_after seen query rows r x one all.0 less.0, all_after r rs one all.1 less.1)

  rise_ranked : (rs : List Rank) → AllByRecursion (IsRanked seen query rows) rs → IsStrictlySortedBy rank_cmp rs → NamesRise rows (map (λ q. q.index) rs)
  unfolding IsStrictlySortedBy
  rise_ranked [] all up = tt
  rise_ranked (r ∷ rs) all up = (all_after r rs all.0 all.1 up.0, rise_ranked rs all.1 up.1)

  pub names_rise : (places : List ℕ) → places ≡ chosen_places seen query rows → NamesRise rows places
  names_rise places e = subst (NamesRise rows) (sym e) (rise_ranked (ranks_chosen seen query rows) (ranked seen query rows) (sorted_in_order ranks_total (ranks_from seen query 0 rows)))

rise_dropped : (rows : List Row) (n : ℕ) (xs : List ℕ) → NamesRise rows xs → NamesRise rows (drop n xs)
rise_dropped rows zero xs rise = rise
rise_dropped rows (suc n) [] rise = tt
rise_dropped rows (suc n) (x ∷ xs) rise = rise_dropped rows n xs rise.1

-- the first places of the best and of the rest are in order of names when some of the rest fall away
pub rise_skipped : (rows : List Row) (best rest after : List ℕ) (n : ℕ) → after ≡ drop n rest → NamesRise rows (take 1 best ++ rest) → NamesRise rows (take 1 best ++ after)
rise_skipped rows [] rest after n back rise = rw back (rise_dropped rows n rest rise)
rise_skipped rows (b ∷ best) rest after n back rise = rw back (all_dropped (λ j. IsNotAfter (slice_get rows b) (slice_get rows j)) n rest rise.0, rise_dropped rows n rest rise.1)

rise_rest : (rows : List Row) (best rest : List ℕ) → NamesRise rows (take 1 best ++ rest) → NamesRise rows rest
rise_rest rows [] rest rise = rise
rise_rest rows (b ∷ best) rest rise = rise.1

rise_front : (rows : List Row) (rest : List ℕ) (n : ℕ) → NamesRise rows rest → NamesRise rows (take 1 (take n rest) ++ drop n rest)
rise_front rows rest zero rise = rise
rise_front rows [] (suc n) rise = tt
rise_front rows (r ∷ rest) (suc n) rise = (all_dropped (λ j. IsNotAfter (slice_get rows r) (slice_get rows j)) n rest rise.0, rise_dropped rows n rest rise.1)

-- the same when the first segment of the rest is the best
pub rise_begun : (rows : List Row) (best segment rest after : List ℕ) (n : ℕ) → segment ≡ take n rest → after ≡ drop n rest → NamesRise rows (take 1 best ++ rest) → NamesRise rows (take 1 segment ++ after)
rise_begun rows best segment rest after n front back rise = rw (front, back) (rise_front rows rest n (rise_rest rows best rest rise))

pub same_names : (a b : Nslc) → is_same_name a b ≡ true → a ≡ b
same_names a b h =
    let p = and_parts ((bytes_eq a.network b.network && bytes_eq a.station b.station) && bytes_eq a.location b.location) (bytes_eq a.channel b.channel) h in
    let q = and_parts (bytes_eq a.network b.network && bytes_eq a.station b.station) (bytes_eq a.location b.location) p.0 in
    let r = and_parts (bytes_eq a.network b.network) (bytes_eq a.station b.station) q.0 in
    let network : a.network ≡ b.network = (bytes_eq-Decides a.network b.network).0 r.0 in
    let station : a.station ≡ b.station = (bytes_eq-Decides a.station b.station).0 r.1 in
    let location : a.location ≡ b.location = (bytes_eq-Decides a.location b.location).0 q.1 in
    let channel : a.channel ≡ b.channel = (bytes_eq-Decides a.channel b.channel).0 p.1 in
    λ i. record { network = network i; station = station i; location = location i; channel = channel i }

same_name_itself : (a : Nslc) → is_same_name a a ≡ true
same_name_itself a =
    let here : (xs : List ℕ) → bytes_eq xs xs ≡ true = λ xs. (bytes_eq-Decides xs xs).1 refl in
    ap (λ t. ((t && bytes_eq a.station a.station) && bytes_eq a.location a.location) && bytes_eq a.channel a.channel) (here a.network)
    ∙ ap (λ t. (t && bytes_eq a.location a.location) && bytes_eq a.channel a.channel) (here a.station)
    ∙ ap (λ t. t && bytes_eq a.channel a.channel) (here a.location)
    ∙ here a.channel

pub same_name_of : (a b : Nslc) → a ≡ b → is_same_name a b ≡ true
same_name_of a b e = subst (λ (n : Nslc). is_same_name a n ≡ true) e (same_name_itself a)

less_apart : (a b : Nslc) → name_cmp a b ≡ Less → is_same_name b a ≡ false
less_apart a b less =
    elim (is_same_name b a) as (λ t. is_same_name b a ≡ t → t ≡ false) [
      | true ↦ λ e. absurd (
          let same : b ≡ a = same_names b a e in
          let here : name_cmp a a ≡ Less = ap (name_cmp a) (sym same) ∙ less in
          let there : name_cmp a a ≡ Greater = names_total.antisymm a a ∙ ap ordering_reverse here in
          (cc))
      | false ↦ λ e. refl
    ] refl

behind : (h r y : Nslc) → (name_cmp h r ≡ Less) ⊎ (h ≡ r) → (name_cmp r y ≡ Less) ⊎ (r ≡ y) → is_same_name r h ≡ false → is_same_name y h ≡ false
behind h r y (inl a) (inl b) apart = less_apart h y (names_total.trans h r y a b)
behind h r y (inl a) (inr b) apart = subst (λ (n : Nslc). is_same_name n h ≡ false) b apart
behind h r y (inr a) second apart = absurd (let same : is_same_name r h ≡ true = same_name_of r h (sym a) in (cc))

rows_behind : (h r y : Option Row) → IsNotAfter h r → IsNotAfter r y → are_same_or r h ≡ false → are_same_or y h ≡ false
rows_behind (Some h) (Some r) (Some y) one two apart = behind h.header.name r.header.name y.header.name one two apart
rows_behind (Some h) (Some r) None one two apart = refl
rows_behind (Some h) None y one two apart = absurd one
rows_behind None r y one two apart = absurd one

all_behind : (rows : List Row) (h r : ℕ) (ys : List ℕ) → IsNotAfter (slice_get rows h) (slice_get rows r) → AllByRecursion (λ j. IsNotAfter (slice_get rows r) (slice_get rows j)) ys
    → are_same_or (slice_get rows r) (slice_get rows h) ≡ false → AllByRecursion (λ y. are_same_or (slice_get rows y) (slice_get rows h) ≡ false) ys
all_behind rows h r [] one all apart = tt
all_behind rows h r (y ∷ ys) one all apart = (rows_behind (slice_get rows h) (slice_get rows r) (slice_get rows y) one all.0 apart, all_behind rows h r ys one all.1 apart)

put_head : (breaks : ℕ → ℕ → Bool) (P : ℕ → Type 0) (x : ℕ) (runs : List (List ℕ)) → P x → AllByRecursion (λ run. P (slice_index run 0)) runs → AllByRecursion (λ run. P (slice_index run 0)) (put_before breaks x runs)
put_head breaks P x [] here all = (here, tt)
put_head breaks P x ([] ∷ runs) here all = (here, all.1)
put_head breaks P x ((y ∷ run) ∷ runs) here all =
    elim (breaks x y) as (λ b. AllByRecursion (λ run. P (slice_index run 0)) (cond b ((x ∷ []) ∷ (y ∷ run) ∷ runs) ((x ∷ y ∷ run) ∷ runs))) [
      | true ↦ (here, all)
      | false ↦ (here, all.1)
    ]

-- what holds of all items holds of the first of each run
heads : (breaks : ℕ → ℕ → Bool) (P : ℕ → Type 0) (xs : List ℕ) → AllByRecursion P xs → AllByRecursion (λ run. P (slice_index run 0)) (runs_by breaks xs)
heads breaks P [] all = tt
heads breaks P (x ∷ xs) all = put_head breaks P x (runs_by breaks xs) all.0 (heads breaks P xs all.1)

-- where the next segment isn't of the best's name, none behind it is
pub others_behind : (rows : List Row) (minimum h : ℕ) (best rest segment : List ℕ) (n : ℕ) → 0 < n → 0 < length rest → segment ≡ take n rest → NamesRise rows (h ∷ rest)
    → have_one_name rows segment (h ∷ best) ≡ false → AllByRecursion (λ s. have_one_name rows s (h ∷ best) ≡ false) (long_segments rows minimum rest)
unfolding have_one_name
others_behind rows minimum h best [] segment n some within front rise apart = absurd (omega arith)
others_behind rows minimum h best (r ∷ rest) segment zero some within front rise apart = absurd (omega arith)
others_behind rows minimum h best (r ∷ rest) segment (suc n) some within front rise apart =
    let here : are_same_or (slice_get rows r) (slice_get rows h) ≡ false = ap (λ (s : List ℕ). are_same_or (slice_get rows (slice_index s 0)) (slice_get rows h)) (sym front) ∙ apart in
    all_filtered (λ s. are_same_or (slice_get rows (slice_index s 0)) (slice_get rows h) ≡ false) (is_long rows minimum) (runs_by (breaks_at rows) (r ∷ rest))
    (heads (breaks_at rows) (λ y. are_same_or (slice_get rows y) (slice_get rows h) ≡ false) (r ∷ rest) (here, all_behind rows h r rest rise.0.0 rise.1.0 here))
