-- A shelf of rows whose entries rise gives them in the order in which they arrived, where they stand equal.
use Rattle.std.proofs.Common.{◌≡◌, ◌<◌, ◌≤◌, ℕ, Bool, true, false, cond, List, [], ◌∷◌, ◌++◌, filter, length, Ordering, Ok, Err, refl, sym, ap, ap₂, ◌∙◌, arith}
use Rattle.std.specs.Prelude.{nat_lt}
use Rattle.std.specs.List.{AllByRecursion}
use Rattle.std.specs.Ordering.{nat_cmp, ordering_then, is_lt}
use Rattle.std.specs.declared.cmp.Ordering.TheVariants.{Less, Equal, Greater}
use Rattle.std.specs.Cmp.{nat_cmp_is}
use Rattle.std.proofs.lemmas.Bool.Decides.{nat_tests}
use Rattle.mseed_header.specs.Records.{images_of}
use Rattle.mseed_header.specs.declared.row.Row.{Row}
use Rattle.dataselect.specs.declared.query.DataQuery.{DataQuery}
use Rattle.dataselect.specs.declared.answers.DataRefusal.TheVariants.{Empty, TooLarge}
use Rattle.dataselect.specs.Chosen.{passes}
use Rattle.dataselect.specs.DataBody.{images_at, data_body, body_within, body_or_empty, answer_of}
use Rattle.dataselect.specs.Picked.{picked_places}
use Rattle.dataselect.specs.Rows.{has_image, new_after, held_rows, with_rows}
use Rattle.dataselect.proofs.Held.{held_all}
use Rattle.dataselect.proofs.Wholes.{picked_are_chosen}
use Rattle.split_fetch.specs.Gathered.{put_behind, put_all_behind}
use Rattle.split_fetch.specs.Everything.{AsksAll}
use Rattle.split_fetch.specs.Gathering.{start_cmp, gathered, EntriesRise, AreBytes, RefusesRows}
use Rattle.split_fetch.specs.declared.fault.GatherFault.TheVariants.{TooLarge as GatherTooLarge}
use Rattle.split_fetch.proofs.Ordered.{row_cmp, chosen_images}
use Rattle.split_fetch.proofs.Rising.{all_put}

abbrev Before : Row → Row → Type 0
Before x y = y.entry < x.entry

then_greater : (o : Ordering) → is_lt (ordering_then o Greater) ≡ is_lt o
then_greater Less = refl
then_greater Equal = refl
then_greater Greater = refl

same_test : (x y : Row) → Before x y → is_lt (row_cmp x y) ≡ is_lt (start_cmp x y)
same_test x y less =
    ap (λ (o : Ordering). is_lt (ordering_then (start_cmp x y) (ordering_then o (nat_cmp x.place y.place))))
    (sym (nat_cmp_is x.entry y.entry Greater less))
    ∙ then_greater (start_cmp x y)

put_alike : (done : List Row) (x : Row) → AllByRecursion (Before x) done → put_behind row_cmp done x ≡ put_behind start_cmp done x
put_alike [] x all = refl
put_alike (y ∷ ys) x all = ap₂ (λ (b : Bool) (l : List Row). cond b (x ∷ y ∷ ys) (y ∷ l)) (same_test x y all.0) (put_alike ys x all.1)

each_before : (done : List Row) (x : Row) (xs : List Row) → AllByRecursion (λ z. AllByRecursion (Before z) done) xs
    → AllByRecursion (λ z. x.entry < z.entry) xs → AllByRecursion (λ z. AllByRecursion (Before z) (put_behind start_cmp done x)) xs
each_before done x [] all one = tt
each_before done x (z ∷ zs) all one = (all_put start_cmp (Before z) done x all.0 one.0, each_before done x zs all.1 one.1)

put_all_alike : (done xs : List Row) → AllByRecursion (λ z. AllByRecursion (Before z) done) xs → EntriesRise xs
    → put_all_behind row_cmp done xs ≡ put_all_behind start_cmp done xs
put_all_alike done [] all rise = refl
put_all_alike done (x ∷ xs) all rise =
    ap (λ (l : List Row). put_all_behind row_cmp l xs) (put_alike done x all.0)
    ∙ put_all_alike (put_behind start_cmp done x) xs (each_before done x xs all.1 rise.0) rise.1

all_none : (xs : List Row) → AllByRecursion (λ z. AllByRecursion (Before z) []) xs
all_none [] = tt
all_none (x ∷ xs) = (tt, all_none xs)

all_new : (P : Row → Type 0) (before rows : List Row) → AllByRecursion P rows → AllByRecursion P (new_after before rows)
all_new P before [] all = tt
all_new P before (row ∷ rows) all =
    let rest = all_new P (before ++ row ∷ []) rows all.1 in
    elim (has_image row.image before) as (λ b. AllByRecursion P
    (cond b [] (row ∷ []) ++ new_after (before ++ row ∷ []) rows)) [ true ↦ rest | false ↦ (all.0, rest) ]

rise_new : (before rows : List Row) → EntriesRise rows → EntriesRise (new_after before rows)
rise_new before [] rise = tt
rise_new before (row ∷ rows) rise =
    let rest = rise_new (before ++ row ∷ []) rows rise.1 in
    elim (has_image row.image before) as (λ b. EntriesRise
    (cond b [] (row ∷ []) ++ new_after (before ++ row ∷ []) rows)) [
      | true ↦ rest
      | false ↦
          (all_new (λ r. row.entry < r.entry) (before ++ row ∷ []) rows rise.0, rest)
    ]

all_pass : (query : DataQuery) → AsksAll query → (xs : List Row) → filter (passes (λ _. true) query) xs ≡ xs
all_pass query asks [] = refl
all_pass query asks (x ∷ xs) =
    ap₂ (λ (b : Bool) (l : List Row). cond b (x ∷ l) l) (asks x.header) (all_pass query asks xs)

pub shelf_gathers : (query : DataQuery) (rows : List Row) → AsksAll query → query.minimum ≡ 0 → query.longest ≡ false → EntriesRise rows
    → data_body (λ _. true) query (held_rows rows) ≡ images_of (gathered rows)
shelf_gathers query rows asks none any rise =
    ap (images_at (held_rows rows)) (picked_are_chosen (λ _. true) query (held_rows rows) none any)
    ∙ chosen_images (λ _. true) query (held_rows rows)
    ∙ ap (λ (l : List Row). images_of (put_all_behind row_cmp [] l)) (all_pass query asks (held_rows rows))
    ∙ ap images_of (put_all_alike [] (held_rows rows) (all_none (held_rows rows)) (rise_new [] rows rise))

-- what an answer says of the body
within_ok : (max : ℕ) (whole body : List ℕ) → body_within max whole ≡ Ok body → (body ≡ whole) × (length whole ≤ max)
within_ok max whole body =
    elim (nat_lt max (length whole)) as (λ b. nat_lt max (length whole) ≡ b → cond b (Err (TooLarge (length whole))) (Ok whole) ≡ Ok body
    → (body ≡ whole) × (length whole ≤ max)) [
      | true ↦ λ _ h. absurd cc
      | false ↦ λ e h. (let same : whole ≡ body = (cc) in (sym same, grind (arith, nat_tests)))
    ] refl

within_large : (max : ℕ) (whole : List ℕ) (n : ℕ) → body_within max whole ≡ Err (TooLarge n) → (n ≡ length whole) × (max < n)
within_large max whole n =
    elim (nat_lt max (length whole)) as (λ b. nat_lt max (length whole) ≡ b → cond b (Err (TooLarge (length whole))) (Ok whole)
    ≡ Err (TooLarge n) → (n ≡ length whole) × (max < n)) [
      | true ↦ λ e h. (let same : length whole ≡ n = (cc) in let less : max < length whole = grind (arith, nat_tests) in
          (sym same, omega (arith, same, less)))
      | false ↦ λ _ h. absurd cc
    ] refl

within_empty : (max : ℕ) (whole : List ℕ) → body_within max whole ≡ Err Empty → ⊥
within_empty max whole =
    elim (nat_lt max (length whole)) as (λ b. cond b (Err (TooLarge (length whole))) (Ok whole) ≡ Err Empty
    → ⊥) [ true ↦ λ h. absurd cc | false ↦ λ h. absurd cc ]

places_ok : (max : ℕ) (rows : List Row) (places body : List ℕ) → body_or_empty max rows places ≡ Ok body → (body ≡ images_at rows places)
    × (length (images_at rows places) ≤ max)
places_ok max rows [] body h = absurd cc
places_ok max rows (p ∷ ps) body h = within_ok max (images_at rows (p ∷ ps)) body h

places_large : (max : ℕ) (rows : List Row) (places : List ℕ) (n : ℕ) → body_or_empty max rows places ≡ Err (TooLarge n)
    → (n ≡ length (images_at rows places)) × (max < n)
places_large max rows [] n h = absurd cc
places_large max rows (p ∷ ps) n h = within_large max (images_at rows (p ∷ ps)) n h

places_empty : (max : ℕ) (rows : List Row) (places : List ℕ) → body_or_empty max rows places ≡ Err Empty → images_at rows places ≡ []
places_empty max rows [] h = refl
places_empty max rows (p ∷ ps) h = absurd (within_empty max (images_at rows (p ∷ ps)) h)

pub record IsAsked (shelf arrived : List Row) (query : DataQuery) : Type 0 where
  pub held : shelf ≡ held_rows arrived
  pub asks : AsksAll query
  pub none : query.minimum ≡ 0
  pub any : query.longest ≡ false
  pub rise : EntriesRise arrived

pub asked_of : (before shelf rows : List Row) (query : DataQuery) → before ≡ [] → shelf ≡ with_rows before rows → AsksAll query
    → query.minimum ≡ 0 → query.longest ≡ false → EntriesRise rows → IsAsked shelf rows query
asked_of before shelf rows query empty put asks none any rise = record {
  held = put ∙ ap (λ (l : List Row). with_rows l rows) empty ∙ held_all [] rows;
  asks = asks;
  none = none;
  any = any;
  rise = rise;
}

module _ (shelf arrived : List Row) (query : DataQuery) (is : IsAsked shelf arrived query) where
  body_is : data_body (λ _. true) query shelf ≡ images_of (gathered arrived)
  body_is = ap (data_body (λ _. true) query) is.held ∙ shelf_gathers query arrived is.asks is.none is.any is.rise

  pub gathered_ok : (body : List ℕ) → answer_of (λ _. true) query 268_435_456 shelf ≡ Ok body → AreBytes arrived body
  gathered_ok body h =
      let p = places_ok 268_435_456 shelf (picked_places (λ _. true) query shelf) body h in
      let size : length body ≡ length (data_body (λ _. true) query shelf) = ap length p.0 in
      let within = p.1 in
      record { are = p.0 ∙ body_is; small = omega (arith, size, within) }

  pub gathered_none : answer_of (λ _. true) query 268_435_456 shelf ≡ Err Empty → AreBytes arrived []
  gathered_none h = record {
    are = sym (places_empty 268_435_456 shelf (picked_places (λ _. true) query shelf) h) ∙ body_is;
    small = omega arith;
  }

  pub gathered_large : (n : ℕ) → answer_of (λ _. true) query 268_435_456 shelf ≡ Err (TooLarge n) → RefusesRows arrived (GatherTooLarge n)
  gathered_large n h =
      let p = places_large 268_435_456 shelf (picked_places (λ _. true) query shelf) n h in
      (p.0 ∙ ap length body_is, p.1)
