-- The spans of all rows that are asked for are those of one name behind those of the next.
use Rattle.std.proofs.Common.{◌≡◌, ℕ, ◌+◌, Bool, true, false, not, ◌&&◌, ◌||◌, cond, List, [], ◌∷◌, ◌++◌, map, filter, refl, sym, ap, ◌∙◌, true≢false, nat_cmp}
use Rattle.std.specs.List.{list_any, flat_map, AllByRecursion, slice_get}
use Rattle.std.specs.Option.{option_cmp}
use Rattle.std.specs.Ordering.{is_eq, int_cmp, ordering_then}
use Rattle.std.specs.declared.cmp.Ordering.TheVariants.{Less, Equal}
use Rattle.std.proofs.lemmas.Bool.{or_left, or_right, and_parts}
use Rattle.std.proofs.lemmas.Grind.{flat_map-append}
use Rattle.std.proofs.lemmas.List.Folds.{list_any-append}
use Rattle.list_laws.specs.InOrder.{in_order}
use Rattle.list_laws.proofs.Keys.{all_in_order, sorted_in_order, any_in_order}
use Rattle.exact_time.specs.RateOrder.{rate_cmp}
use Rattle.channel_globs.proofs.Names.{names_total, exact_names}
use Rattle.channel_globs.specs.Names.{name_cmp}
use Rattle.channel_globs.specs.declared.nslc.Nslc.{Nslc}
use Rattle.mseed_header.specs.Quality.{quality_cmp}
use Rattle.mseed_header.specs.declared.row.Row.{Row}
use Rattle.dataselect.specs.HeldNames.{names_of}
use Rattle.dataselect.specs.MergedSpans.{has_name}
use Rattle.dataselect.specs.Query.{is_named}
use Rattle.dataselect.specs.Segments.{is_same_name}
use Rattle.dataselect.specs.SpanOrder.{row_or_none}
use Rattle.dataselect.specs.Spans.{placed_from, rows_in_order, is_other_group}
use Rattle.dataselect.specs.declared.query.Selection.{Selection}
use Rattle.dataselect.proofs.Parts.{spans_parts, all_rows_in_order}
use Rattle.dataselect.proofs.Rises.{same_names, same_name_of}
use Rattle.dataselect.proofs.Splits.{all_append, all_weaker, split}
use Rattle.dataselect.proofs.Splits as splits
use Rattle.dataselect.proofs.GroupCuts as spans
use Rattle.query_words.specs.declared.avail.AvailQuery.{AvailQuery}
use Rattle.availability.specs.declared.rank.Rank.{Rank}
use Rattle.availability.specs.Channels.{is_asked_of, spans_named, names_asked}
use Rattle.availability.specs.Ranks.{rank_cmp, rank_placed, ranks_of, rows_ranked}
use Rattle.availability.specs.Spans.{merging_of, is_matched, passes, is_asked, span_at, longer, spans_of}
use Rattle.availability.proofs.RankOrder.{ranks_total, exact_ranks}
use Rattle.availability.proofs.Ranked.{ranked_in_order}

-- lists of lists
flat_twice : {X Y Z : Type 0} (f : X → List Y) (g : Y → List Z) (xs : List X) → flat_map g (flat_map f xs) ≡ flat_map (λ x. flat_map g (f x)) xs
flat_twice f g [] = refl
flat_twice f g (x ∷ xs) = flat_map-append g (f x) (flat_map f xs) ∙ ap (λ zs. flat_map g (f x) ++ zs) (flat_twice f g xs)

flat_alike : {X Y : Type 0} (f g : X → List Y) (P : X → Type 0) → ((x : X) → P x → f x ≡ g x) → (xs : List X) → AllByRecursion P xs → flat_map f xs ≡ flat_map g xs
flat_alike f g P same [] all = refl
flat_alike f g P same (x ∷ xs) all = λ i. same x all.0 i ++ flat_alike f g P same xs all.1 i

any_flat : {X Y : Type 0} (test : Y → Bool) (f : X → List Y) (xs : List X) → list_any test (flat_map f xs) ≡ list_any (λ x. list_any test (f x)) xs
any_flat test f [] = refl
any_flat test f (x ∷ xs) = list_any-append test (f x) (flat_map f xs) ∙ ap (λ b. list_any test (f x) || b) (any_flat test f xs)

any_weaker : {X : Type 0} (p q : X → Bool) → ((x : X) → p x ≡ true → q x ≡ true) → (xs : List X) → list_any p xs ≡ true → list_any q xs ≡ true
any_weaker p q f [] h = absurd (true≢false (sym h))
any_weaker {X} p q f (x ∷ xs) h =
    elim (p x) as (λ b. p x ≡ b → (b || list_any p xs) ≡ true → (q x || list_any q xs) ≡ true) [
      | true ↦ λ e _. or_left (q x) (list_any q xs) (f x e)
      | false ↦ λ _ rest. or_right (q x) (list_any q xs) (any_weaker p q f xs rest)
    ] refl h

-- each row is one of the rows
all_there : (rows : List Row) → AllByRecursion (λ row. list_any (λ (r : Row). is_same_name row.header.name r.header.name) rows ≡ true) rows
all_there [] = tt
all_there (row ∷ rows) = (
  or_left (is_same_name row.header.name row.header.name) (list_any (λ (r : Row). is_same_name row.header.name r.header.name) rows) (same_name_of row.header.name row.header.name refl),
  all_weaker (λ (x : Row). list_any (λ (r : Row). is_same_name x.header.name r.header.name) rows ≡ true) (λ (x : Row). list_any (λ (r : Row). is_same_name x.header.name r.header.name) (row ∷ rows) ≡ true)
      (λ x h. or_right (is_same_name x.header.name row.header.name) (list_any (λ (r : Row). is_same_name x.header.name r.header.name) rows) h) rows (all_there rows),
)

-- the name of a row that a selection names is among those of the selection
named_there : (s : Selection) (name : Nslc) (rows : List Row) → is_named s name ≡ true → list_any (λ (r : Row). is_same_name name r.header.name) rows ≡ true
    → list_any (λ n. is_same_name name n) (filter (is_named s) (map (λ (r : Row). r.header.name) rows)) ≡ true
named_there s name [] named h = absurd (true≢false (sym h))
named_there s name (row ∷ rows) named h =
    let n = row.header.name in
    let rest = filter (is_named s) (map (λ (r : Row). r.header.name) rows) in
    elim (is_same_name name n) as (λ b. is_same_name name n ≡ b → (b || list_any (λ (r : Row). is_same_name name r.header.name) rows) ≡ true → list_any (is_same_name name) (cond (is_named s n) (n ∷ rest) rest) ≡ true) [
      | true ↦ λ e _.
          ap (λ b. list_any (is_same_name name) (cond b (n ∷ rest) rest)) (ap (is_named s) (sym (same_names name n e)) ∙ named)
          ∙ or_left (is_same_name name n) (list_any (is_same_name name) rest) e
      | false ↦ λ _ k.
          let later = named_there s name rows named k in
          elim (is_named s n) as (λ b. list_any (is_same_name name) (cond b (n ∷ rest) rest) ≡ true) [
            | true ↦ or_right (is_same_name name n) (list_any (is_same_name name) rest) later
            | false ↦ later
          ]
    ] refl h

among : (sels : List Selection) (rows : List Row) (name : Nslc) → is_matched sels name ≡ true → list_any (λ (r : Row). is_same_name name r.header.name) rows ≡ true → list_any (λ n. is_same_name name n) (names_asked sels rows) ≡ true
among sels rows name matched held =
    any_in_order exact_names (is_same_name name) (flat_map (λ s. names_of s rows) sels)
    ∙ any_flat (is_same_name name) (λ s. names_of s rows) sels
    ∙ any_weaker (λ s. is_named s name) (λ s. list_any (is_same_name name) (names_of s rows))
    (λ s named. any_in_order exact_names (is_same_name name) (filter (is_named s) (map (λ (r : Row). r.header.name) rows)) ∙ named_there s name rows named held)
    sels matched

-- each name that is asked for is matched
all_kept : {X : Type 0} (test : X → Bool) (xs : List X) → AllByRecursion (λ x. test x ≡ true) (filter test xs)
all_kept = splits.all_filtered

all_named : (s : Selection) (rows : List Row) → AllByRecursion (λ n. is_named s n ≡ true) (names_of s rows)
all_named s rows = all_in_order name_cmp (λ n. is_named s n ≡ true) [] (filter (is_named s) (map (λ (r : Row). r.header.name) rows)) tt (all_kept (is_named s) (map (λ (r : Row). r.header.name) rows))

all_matched : (sels : List Selection) (rows : List Row) → AllByRecursion (λ n. is_matched sels n ≡ true) (flat_map (λ s. names_of s rows) sels)
all_matched [] rows = tt
all_matched (s ∷ sels) rows =
    all_append (λ n. is_matched (s ∷ sels) n ≡ true) (names_of s rows) (flat_map (λ s. names_of s rows) sels)
    (all_weaker (λ n. is_named s n ≡ true) (λ n. is_matched (s ∷ sels) n ≡ true) (λ n h. or_left (is_named s n) (is_matched sels n) h) (names_of s rows) (all_named s rows))
    (all_weaker (λ n. is_matched sels n ≡ true) (λ n. is_matched (s ∷ sels) n ≡ true) (λ n h. or_right (is_named s n) (is_matched sels n) h) (flat_map (λ s. names_of s rows) sels) (all_matched sels rows))

asked_matched : (sels : List Selection) (rows : List Row) → AllByRecursion (λ n. is_matched sels n ≡ true) (names_asked sels rows)
asked_matched sels rows = all_in_order name_cmp (λ n. is_matched sels n ≡ true) [] (flat_map (λ s. names_of s rows) sels) tt (all_matched sels rows)

module _ (seen touched : Row → Bool) (q : AvailQuery) where
  abbrev own : Nslc → Rank → Bool
  own n r = is_same_name r.group.name n

  below : (m n : Nslc) (a b : Rank) → name_cmp m n ≡ Less → own m a ≡ true → own n b ≡ true → rank_cmp a b ≡ Less
  below m n a b lt o p =
      let kinds = ordering_then (option_cmp quality_cmp a.group.quality b.group.quality) (option_cmp rate_cmp a.group.rate b.group.rate) in
      let rest = ordering_then (int_cmp a.start.micros b.start.micros) (ordering_then (nat_cmp a.entry b.entry) (ordering_then (nat_cmp a.place b.place) (nat_cmp a.index b.index))) in
      (λ i. ordering_then (ordering_then (name_cmp (same_names a.group.name m o i) (same_names b.group.name n p i)) kinds) rest)
      ∙ ap (λ x. ordering_then (ordering_then x kinds) rest) lt

  -- of the rows that are asked for, those of a name
  of_name : (n : Nslc) (row : Row) (i : ℕ) (l k : List (ℕ × Row)) (t p h : Bool) → (h ≡ true → t ≡ true) → own n (rank_placed q (i, row)) ≡ h
      → filter (own n) (map (rank_placed q) l) ≡ map (rank_placed q) k
      → filter (own n) (map (rank_placed q) (cond (t && p) ((i, row) ∷ l) l)) ≡ map (rank_placed q) (cond (h && p) ((i, row) ∷ k) k)
  of_name n row i l k true true true known is rest =
      ap (λ b. cond b (rank_placed q (i, row) ∷ filter (own n) (map (rank_placed q) l)) (filter (own n) (map (rank_placed q) l))) is
      ∙ ap (λ (rs : List Rank). rank_placed q (i, row) ∷ rs) rest
  of_name n row i l k true true false known is rest =
      ap (λ b. cond b (rank_placed q (i, row) ∷ filter (own n) (map (rank_placed q) l)) (filter (own n) (map (rank_placed q) l))) is ∙ rest
  of_name n row i l k true false true known is rest = rest
  of_name n row i l k true false false known is rest = rest
  of_name n row i l k false p true known is rest = absurd (true≢false (sym (known refl)))
  of_name n row i l k false p false known is rest = rest

  filtered : (n : Nslc) → is_matched q.selections n ≡ true → (i : ℕ) (rows : List Row)
      → filter (own n) (map (rank_placed q) (placed_from (is_asked seen q) i rows)) ≡ map (rank_placed q) (placed_from (is_asked_of seen q n) i rows)
  filtered n matched i [] = refl
  filtered n matched i (row ∷ rows) =
      of_name n row i (placed_from (is_asked seen q) (i + 1) rows) (placed_from (is_asked_of seen q n) (i + 1) rows) (is_matched q.selections row.header.name) (passes seen q row) (has_name n row)
      (λ h. ap (is_matched q.selections) (same_names row.header.name n h) ∙ matched) refl (filtered n matched (i + 1) rows)

  module _ (rows : List Row) where
    abbrev names : List Nslc
    names = names_asked q.selections rows

    cover_from : (i : ℕ) (some : List Row) → AllByRecursion (λ row. list_any (λ (r : Row). is_same_name row.header.name r.header.name) rows ≡ true) some
        → AllByRecursion (λ r. list_any (λ n. own n r) names ≡ true) (map (rank_placed q) (placed_from (is_asked seen q) i some))
    cover_from i [] all = tt
    cover_from i (row ∷ some) all =
        let later = cover_from (i + 1) some all.1 in
        elim (is_asked seen q row) as (λ b. is_asked seen q row ≡ b → AllByRecursion (λ (r : Rank). list_any (λ n. own n r) names ≡ true) (map (rank_placed q) (cond b ((i, row) ∷ placed_from (is_asked seen q) (i + 1) some) (placed_from (is_asked seen q) (i + 1) some)))) [
          | true ↦ λ e. (among q.selections rows row.header.name (and_parts (is_matched q.selections row.header.name) (passes seen q row) e).0 all.0, later)
          | false ↦ λ _. later
        ] refl

    ranks_by_name : ranks_of (is_asked seen q) q rows ≡ flat_map (λ n. ranks_of (is_asked_of seen q n) q rows) names
    ranks_by_name =
        let all = map (rank_placed q) (placed_from (is_asked seen q) 0 rows) in
        split ranks_total exact_ranks own below all names (sorted_in_order names_total (flat_map (λ s. names_of s rows) q.selections)) (cover_from 0 rows (all_there rows))
        ∙ flat_alike (λ n. in_order rank_cmp [] (filter (own n) all)) (λ n. ranks_of (is_asked_of seen q n) q rows) (λ n. is_matched q.selections n ≡ true)
        (λ n matched. ap (in_order rank_cmp []) (filtered n matched 0 rows)) names (asked_matched q.selections rows)

    rows_by_name : rows_in_order (merging_of q) (is_asked seen q) rows ≡ flat_map (λ n. rows_in_order (merging_of q) (is_asked_of seen q n) rows) names
    rows_by_name =
        sym (ranked_in_order (is_asked seen q) q rows)
        ∙ ap (rows_ranked rows) ranks_by_name
        ∙ flat_twice (λ n. ranks_of (is_asked_of seen q n) q rows) (λ (rank : Rank). row_or_none (slice_get rows rank.index)) names
        ∙ (λ i. flat_map (λ n. ranked_in_order (is_asked_of seen q n) q rows i) names)

    owned : (n : Nslc) → AllByRecursion (λ row. has_name n row ≡ true) (rows_in_order (merging_of q) (is_asked_of seen q n) rows)
    owned n = all_rows_in_order (λ row. has_name n row ≡ true) (is_asked_of seen q n) (λ row h. (and_parts (has_name n row) (passes seen q row) h).0) (merging_of q) rows

    apart : (k n : Nslc) (x y : Row) → name_cmp k n ≡ Less → has_name k x ≡ true → has_name n y ≡ true → is_other_group (merging_of q) x.header y.header ≡ true
    apart k n x y lt o p =
        let qualities = cond q.merge_quality Equal (quality_cmp x.header.quality y.header.quality) in
        let rates = cond q.merge_rate Equal (rate_cmp x.header.rate y.header.rate) in
        (λ i. not (is_eq (ordering_then (name_cmp (same_names x.header.name k o i) (same_names y.header.name n p i)) (ordering_then qualities rates))))
        ∙ ap (λ z. not (is_eq (ordering_then z (ordering_then qualities rates)))) lt

    -- the spans of all rows that are asked for
    pub spans_by_name : flat_map (λ n. spans_named seen touched q rows n) names ≡ spans_of seen touched q rows
    spans_by_name =
        sym (ap (spans.spans_of (merging_of q) (λ row. row.header) (span_at touched q) (longer touched)) rows_by_name
        ∙ spans_parts (merging_of q) (λ row. row.header) (span_at touched q) (longer touched) has_name (λ n. rows_in_order (merging_of q) (is_asked_of seen q n) rows) owned apart names
        (sorted_in_order names_total (flat_map (λ s. names_of s rows) q.selections)))
