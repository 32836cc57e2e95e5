-- One row more, or the last one less: what is kept of the others.
use Rattle.std.proofs.Common.{◌≡◌, ℕ, zero, suc, ◌-◌, ◌<◌, arith, length, take, length-append, Bool, true, false, ◌&&◌, ◌||◌, cond, List, [], ◌∷◌, ◌++◌, filter, Some, None, refl, sym, ap, ◌∙◌, subst, true≢false, unwrap_or}
use Rattle.std.specs.List.{list_any, slice_get}
use Rattle.std.proofs.lemmas.List.{take_all}
use Rattle.list_laws.proofs.Places.{get_last}
use Rattle.dataselect.specs.Rows.{has_image, inserted_as, with_row}
use Rattle.dataselect.specs.declared.shelf.Inserted.TheVariants.{New, Duplicate}
use Rattle.time_index.proofs.Shrunk.{take_less}
use Rattle.std.specs.BTreeMap.{BTreeMap, get, is_at}
use Rattle.std.specs.Map.{lookup}
use Rattle.std.specs.Ordering.{is_eq}
use Rattle.std.proofs.lemmas.Cmp.{tied_itself}
use Rattle.std.proofs.lemmas.List.Sums.{fold_push}
use Rattle.std.proofs.lemmas.Map.Views.{tells_apart}
use Rattle.list_laws.specs.Mending.{AreSpread}
use Rattle.exact_time.specs.declared.moment.Moment.{Moment}
use Rattle.channel_globs.proofs.Names.{names_total}
use Rattle.channel_globs.specs.Names.{name_cmp}
use Rattle.channel_globs.specs.declared.nslc.Nslc.{Nslc}
use Rattle.mseed_header.specs.declared.row.Row.{Row}
use Rattle.dataselect.specs.MergedSpans.{has_name}
use Rattle.dataselect.specs.Segments.{is_same_name}
use Rattle.dataselect.proofs.Rises.{same_names, same_name_of}
use Rattle.time_index.specs.Spots.{is_same}
use Rattle.time_index.specs.declared.kept.Kept.{Kept}
use Rattle.time_index.specs.declared.kind.Kind.{Kind}
use Rattle.time_index.specs.Kept.{kind_cmp, kind_of, is_of, from, upto, kept_mend, kept_of, kept_spans, entries_or, Kinds, spans_at, AreKept, AllKept}
use Rattle.time_index.proofs.KeptKinds.{exact_kinds}
use Rattle.time_index.proofs.KeptRows.{kept_spread}
use Rattle.time_index.proofs.Named.{same_name}

abbrev Channels : Type 0
Channels = BTreeMap Nslc Kinds

filter_more : (test : Row → Bool) (rows : List Row) (row : Row) → filter test (rows ++ row ∷ []) ≡ cond (test row) (filter test rows ++ row ∷ []) (filter test rows)
filter_more test [] row = refl
filter_more test (r ∷ rows) row =
    ap (λ rest. cond (test r) (r ∷ rest) rest) (filter_more test rows row)
    ∙ elim (test r) as (λ b. cond b (r ∷ cond (test row) (filter test rows ++ row ∷ []) (filter test rows)) (cond (test row) (filter test rows ++ row ∷ []) (filter test rows)) ≡ cond (test row) (cond b (r ∷ filter test rows) (filter test rows) ++ row ∷ []) (cond b (r ∷ filter test rows) (filter test rows))) [
      | true ↦ elim (test row) as (λ b. r ∷ cond b (filter test rows ++ row ∷ []) (filter test rows) ≡ cond b (r ∷ (filter test rows ++ row ∷ [])) (r ∷ filter test rows)) [ true ↦ refl | false ↦ refl ]
      | false ↦ refl
    ]

module _ (name : Nslc) (kind : Kind) (rows : List Row) (row : Row) where
  abbrev before : List (Moment × Kept)
  before = kept_spans kind.rate (filter (is_of name kind) rows)

  abbrev after : List (Moment × Kept)
  after = kept_spans kind.rate (filter (is_of name kind) (rows ++ row ∷ []))

  kept_one : is_of name kind row ≡ true → after ≡ kept_mend kind.rate (kept_of row) before
  kept_one h =
      ap (kept_spans kind.rate) (filter_more (is_of name kind) rows row ∙ ap (λ b. cond b (filter (is_of name kind) rows ++ row ∷ []) (filter (is_of name kind) rows)) h)
      ∙ fold_push (λ (spans : List (Moment × Kept)) (r : Row). kept_mend kind.rate (kept_of r) spans) [] (filter (is_of name kind) rows) row

  kept_none : is_of name kind row ≡ false → after ≡ before
  kept_none h = ap (kept_spans kind.rate) (filter_more (is_of name kind) rows row ∙ ap (λ b. cond b (filter (is_of name kind) rows ++ row ∷ []) (filter (is_of name kind) rows)) h)

both_hold : (a b : Bool) → a ≡ true → (a && b) ≡ b
both_hold true b h = refl
both_hold false b h = absurd (true≢false (sym h))

not_both : (a b : Bool) → a ≡ false → (a && b) ≡ false
not_both true b h = absurd (true≢false h)
not_both false b h = refl

-- the row of the channel goes in
are_more : (rows : List Row) (row : Row) (old new : Kinds) → AreKept rows row.header.name old
    → ((q : Kind) → spans_at new q ≡ cond (is_eq (kind_cmp (kind_of row) q)) (kept_mend (kind_of row).rate (kept_of row) (spans_at old q)) (spans_at old q))
    → AreKept (rows ++ row ∷ []) row.header.name new
are_more rows row old new kept puts q =
    let name = row.header.name in
    let named : has_name name row ≡ true = same_name_of name name refl in
    puts q
    ∙ elim (is_eq (kind_cmp (kind_of row) q)) as (λ b. is_eq (kind_cmp (kind_of row) q) ≡ b → cond b (kept_mend (kind_of row).rate (kept_of row) (spans_at old q)) (spans_at old q) ≡ kept_spans q.rate (filter (is_of name q) (rows ++ row ∷ []))) [
      | true ↦ λ h.
          (λ i. kept_mend (tells_apart exact_kinds (kind_of row) q h i).rate (kept_of row) (kept q i))
          ∙ sym (kept_one name q rows row (both_hold (has_name name row) (is_eq (kind_cmp (kind_of row) q)) named ∙ h))
      | false ↦ λ h. kept q ∙ sym (kept_none name q rows row (both_hold (has_name name row) (is_eq (kind_cmp (kind_of row) q)) named ∙ h))
    ] refl

-- a row of another channel changes nothing
others_more : (rows : List Row) (row : Row) (name : Nslc) (kinds : Kinds) → has_name name row ≡ false → AreKept rows name kinds → AreKept (rows ++ row ∷ []) name kinds
others_more rows row name kinds other kept q = kept q ∙ sym (kept_none name q rows row (not_both (has_name name row) (is_eq (kind_cmp (kind_of row) q)) other))

others_less : (rows : List Row) (row : Row) (name : Nslc) (kinds : Kinds) → has_name name row ≡ false → AreKept (rows ++ row ∷ []) name kinds → AreKept rows name kinds
others_less rows row name kinds other kept q = kept q ∙ kept_none name q rows row (not_both (has_name name row) (is_eq (kind_cmp (kind_of row) q)) other)

-- the tests of names agree
apart_names : (a b : Nslc) → is_same a b ≡ false → is_same_name a b ≡ false
apart_names a b h =
    elim (is_same_name a b) as (λ t. is_same_name a b ≡ t → t ≡ false) [
      | true ↦ λ e. absurd (true≢false (sym (ap (λ n. is_same n b) (same_names a b e) ∙ ap is_eq (tied_itself names_total b)) ∙ h))
      | false ↦ λ _. refl
    ] refl

none_filtered : (name : Nslc) (kind : Kind) (rows : List Row) → list_any (has_name name) rows ≡ false → filter (is_of name kind) rows ≡ []
none_filtered name kind [] h = refl
none_filtered name kind (row ∷ rows) h =
    elim (has_name name row) as (λ b. (b || list_any (has_name name) rows) ≡ false → cond (b && is_eq (kind_cmp (kind_of row) kind)) (row ∷ filter (is_of name kind) rows) (filter (is_of name kind) rows) ≡ []) [
      | true ↦ λ k. absurd (true≢false k)
      | false ↦ λ k. none_filtered name kind rows k
    ] h

-- nothing is kept of no rows
pub none_kept : (rows : List Row) (name : Nslc) (empty : Kinds) → empty.entries ≡ [] → list_any (has_name name) rows ≡ false → AreKept rows name empty
none_kept rows name empty none h q =
    ap (λ (es : List (Kind × BTreeMap Moment Kept)). entries_or (lookup (is_at (kind_cmp q)) es)) none ∙ sym (ap (kept_spans q.rate) (none_filtered name q rows h))

module _ (m n : Channels) (row : Row) (new : Kinds) (updates : (q : Nslc) → get name_cmp n q ≡ cond (is_same row.header.name q) (Some new) (get name_cmp m q)) where
  abbrev name : Nslc
  name = row.header.name

  the_new : (q : Nslc) (kinds : Kinds) → is_same name q ≡ true → get name_cmp n q ≡ Some kinds → new ≡ kinds
  the_new q kinds t at = ap (λ o. unwrap_or o new) (sym (ap (λ b. cond b (Some new) (get name_cmp m q)) t) ∙ sym (updates q) ∙ at)

  the_old : (q : Nslc) (kinds : Kinds) → is_same name q ≡ false → get name_cmp n q ≡ Some kinds → get name_cmp m q ≡ Some kinds
  the_old q kinds t at = sym (ap (λ b. cond b (Some new) (get name_cmp m q)) t) ∙ sym (updates q) ∙ at

  pub all_put : (rows : List Row) → AllKept rows m → AreKept (rows ++ row ∷ []) name new → AllKept (rows ++ row ∷ []) n
  all_put rows kept put q kinds at =
      elim (is_same name q) as (λ b. is_same name q ≡ b → AreKept (rows ++ row ∷ []) q kinds) [
        | true ↦ λ t. subst (λ (k : Kinds). AreKept (rows ++ row ∷ []) q k) (the_new q kinds t at) (subst (λ (p : Nslc). AreKept (rows ++ row ∷ []) p new) (same_name name q t) put)
        | false ↦ λ t. others_more rows row q kinds (apart_names name q t) (kept q kinds (the_old q kinds t at))
      ] refl

  pub all_same : (rows : List Row) (old : Kinds) → get name_cmp m name ≡ Some old → ((k : Kind) → spans_at new k ≡ spans_at old k) → AllKept rows m → AllKept rows n
  all_same rows old was same kept q kinds at =
      elim (is_same name q) as (λ b. is_same name q ≡ b → AreKept rows q kinds) [
        | true ↦ λ t.
            subst (λ (k : Kinds). AreKept rows q k) (the_new q kinds t at)
            (subst (λ (p : Nslc). AreKept rows p new) (same_name name q t) (λ k. same k ∙ kept name old was k))
        | false ↦ λ t. kept q kinds (the_old q kinds t at)
      ] refl

-- the row's channel is kept, or begins
pub all_grown : (m n : Channels) (row : Row) (old new : Kinds) (updates : (q : Nslc) → get name_cmp n q ≡ cond (is_same row.header.name q) (Some new) (get name_cmp m q)) (rows : List Row)
    → AllKept rows m → AreKept rows row.header.name old
    → ((q : Kind) → spans_at new q ≡ cond (is_eq (kind_cmp (kind_of row) q)) (kept_mend (kind_of row).rate (kept_of row) (spans_at old q)) (spans_at old q))
    → AllKept (rows ++ row ∷ []) n
all_grown m n row old new updates rows kept one puts = all_put m n row new updates rows kept (are_more rows row old new one puts)

-- the channel of the row isn't kept
pub all_lost : (m : Channels) (rows : List Row) (row : Row) → get name_cmp m row.header.name ≡ None → AllKept rows m → AllKept (rows ++ row ∷ []) m
all_lost m rows row none kept q kinds at =
    elim (is_same row.header.name q) as (λ b. is_same row.header.name q ≡ b → AreKept (rows ++ row ∷ []) q kinds) [
      | true ↦ λ t. absurd (let both : None ≡ Some kinds = sym none ∙ ap (get name_cmp m) (same_name row.header.name q t) ∙ at in (cc))
      | false ↦ λ t. others_more rows row q kinds (apart_names row.header.name q t) (kept q kinds at)
    ] refl

-- the last row is taken out, and its channel is kept no longer
pub all_dropped : (m n : Channels) (rows : List Row) (row : Row) → ((q : Nslc) → get name_cmp n q ≡ cond (is_same row.header.name q) None (get name_cmp m q)) → AllKept (rows ++ row ∷ []) m → AllKept rows n
all_dropped m n rows row updates kept q kinds at =
    elim (is_same row.header.name q) as (λ b. cond b None (get name_cmp m q) ≡ Some kinds → is_same row.header.name q ≡ b → AreKept rows q kinds) [
      | true ↦ λ is _. absurd (cc)
      | false ↦ λ is t. others_less rows row q kinds (apart_names row.header.name q t) (kept q kinds is)
    ] (sym (updates q) ∙ at) refl

-- what is kept is apart
pub all_spread : (m : Channels) (rows : List Row) (name : Nslc) → AllKept rows m → (kinds : Kinds) → get name_cmp m name ≡ Some kinds → (q : Kind) → AreSpread from upto (spans_at kinds q)
all_spread m rows name kept kinds at q = subst (λ (es : List (Moment × Kept)). AreSpread from upto es) (sym (kept name kinds at q)) (kept_spread name q (filter (is_of name q) rows))

-- the row's span is put where the row's kind and what is kept of it say
pub puts_row : (row : Row) (old new : Kinds) (kind : Kind) (kept : Kept) → kind ≡ kind_of row → kept ≡ (kept_of row).1
    → ((q : Kind) → spans_at new q ≡ cond (is_eq (kind_cmp kind q)) (kept_mend kind.rate (row.header.start, kept) (spans_at old q)) (spans_at old q))
    → (q : Kind) → spans_at new q ≡ cond (is_eq (kind_cmp (kind_of row) q)) (kept_mend (kind_of row).rate (kept_of row) (spans_at old q)) (spans_at old q)
puts_row row old new kind kept k e puts q = puts q ∙ (λ i. cond (is_eq (kind_cmp (k i) q)) (kept_mend (k i).rate (row.header.start, e i) (spans_at old q)) (spans_at old q))

-- a row that is new stands at the end
pub new_at_end : (rows : List Row) (row : Row) → inserted_as rows row ≡ New → with_row rows row ≡ rows ++ row ∷ []
new_at_end rows row h =
    elim (has_image row.image rows) as (λ b. cond b Duplicate New ≡ New → cond b rows (rows ++ row ∷ []) ≡ rows ++ row ∷ []) [
      | true ↦ λ e. absurd (cc)
      | false ↦ λ _. refl
    ] h

pub without_end : (rows : List Row) (row : Row) → take (length (rows ++ row ∷ []) - 1) (rows ++ row ∷ []) ≡ rows
without_end rows row =
    let n : length (rows ++ row ∷ []) - 1 ≡ length rows = omega (arith, length-append rows (row ∷ [])) in
    ap (λ k. take k (rows ++ row ∷ [])) n ∙ take_less (length rows) rows row (omega arith) ∙ take_all (length rows) rows (omega arith)

pub end_is : (rows : List Row) (row r : Row) (last : ℕ) → last ≡ length (rows ++ row ∷ []) - 1 → slice_get (rows ++ row ∷ []) last ≡ Some r → r ≡ row
end_is rows row r last e at =
    let n : last ≡ length rows = omega (arith, e, length-append rows (row ∷ [])) in
    let same : Some r ≡ Some row = sym at ∙ ap (slice_get (rows ++ row ∷ [])) n ∙ get_last rows row in
    cc

pub split_end : (rows : List Row) (r : Row) (n : ℕ) → n ≡ length rows - 1 → 0 < length rows → slice_get rows n ≡ Some r → rows ≡ take n rows ++ r ∷ []
split_end [] r n e some at = absurd (omega arith)
split_end (x ∷ []) r zero e some at = let same : x ≡ r = cc in ap (λ (y : Row). y ∷ []) same
split_end (x ∷ y ∷ rows) r zero e some at = absurd (omega (arith, e))
split_end (x ∷ rows) r (suc n) e some at = ap (λ (rs : List Row). x ∷ rs) (split_end rows r n (omega (arith, e)) (omega (arith, e)) at)
