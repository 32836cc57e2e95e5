-- What is told of all rows and lines is what is told of those that are visible.
use Rattle.std.proofs.Common.{◌≡◌, ◌∙◌, ◌&&◌, ℕ, Bool, true, false, not, cond, List, [], ◌∷◌, filter, refl, ap}
use Rattle.std.specs.List.{list_any}
use Rattle.std.specs.declared.option.Option.{Option}
use Rattle.std.specs.Str.{bytes_eq}
use Rattle.epochs.specs.Kinds.{Text}
use Rattle.epochs.specs.Lines.{LineValues}
use Rattle.mseed_header.specs.declared.header.Header.{Header}
use Rattle.mseed_header.specs.declared.row.Row.{Row}
use Rattle.dataselect.specs.DataBody.{answer_of as data_answer_of}
use Rattle.dataselect.specs.declared.query.DataQuery.{DataQuery}
use Rattle.dataselect.proofs.Fewer.{same_header}
use Rattle.query_words.specs.declared.avail.AvailMethod.{AvailMethod}
use Rattle.query_words.specs.declared.avail.AvailQuery.{AvailQuery}
use Rattle.query_words.specs.declared.station.StationQuery.{StationQuery}
use Rattle.query_words.specs.declared.event.EventQuery.{EventQuery}
use Rattle.availability.specs.Spans.{spans_of}
use Rattle.availability.specs.Texts.{answer_of as avail_answer_of}
use Rattle.availability.specs.declared.span.TimeSpan.{TimeSpan}
use Rattle.station_text.specs.Answers.{text_answer_of as station_answer_of}
use Rattle.event_text.specs.Texts.{text_answer_of as event_answer_of}
use Rattle.access_digest.specs.Access.{is_touched, is_withdrawn, is_seen, may_have, restricts, meets_times}
use Rattle.archive_entry.specs.declared.entry.Entry.{Entry}
use Rattle.archive_state.specs.History.{arrived_of, live_of}
use Rattle.desk_words.specs.Visible.{visible, is_among, all_seen}
use Rattle.desk_words.proofs.PublicLines.{events_alone, stations_alone}
use Rattle.desk_words.proofs.SeenRows.{seen_alone}
use Rattle.desk_words.proofs.SeenSpans.{spans_alone}

-- rows with the same bytes are touched alike
touched_alike : (live : List LineValues) (a b : Row) → bytes_eq a.image b.image ≡ true → is_touched live a ≡ is_touched live b
touched_alike live a b same = ap (λ (h : Header). list_any (λ e. restricts e h.name && meets_times e h) live) (same_header a b same)

-- what passes both of two tests is what passes the first among what passes the second
both_passed : {X : Type 0} (p q : X → Bool) (xs : List X) → filter (λ x. p x && q x) xs ≡ filter p (filter q xs)
both_passed p q [] = refl
both_passed p q (x ∷ xs) =
    let rest = both_passed p q xs in
    elim (q x) as (λ b. cond (p x && b) (x ∷ filter (λ y. p y && q y) xs) (filter (λ y. p y && q y) xs) ≡ filter p (cond b (x ∷ filter q xs) (filter q xs))) [
      | true ↦ elim (p x) as (λ a. cond (a && true) (x ∷ filter (λ y. p y && q y) xs) (filter (λ y. p y && q y) xs) ≡ cond a (x ∷ filter p (filter q xs)) (filter p (filter q xs))) [
        | true ↦ (λ i. x ∷ rest i)
        | false ↦ rest
      ]
      | false ↦ elim (p x) as (λ a. cond (a && false) (x ∷ filter (λ y. p y && q y) xs) (filter (λ y. p y && q y) xs) ≡ filter p (filter q xs)) [ true ↦ rest | false ↦ rest ]
    ]

-- of the rows that have arrived, a caller sees what it may have of those that are held
seen_rows : (h : List Entry) (user : Option Text) → filter (is_seen (live_of h) user) (arrived_of h) ≡ (visible h user).rows
unfolding visible
seen_rows h user = both_passed (may_have (live_of h) user) (λ row. not (is_withdrawn (live_of h) row)) (arrived_of h)

module _ (h : List Entry) (live : List LineValues) (rows : List Row) (user : Option Text) (live_is : live ≡ live_of h) (rows_are : rows ≡ arrived_of h) where
  pub waves_told : (q : DataQuery) (most : ℕ) → data_answer_of (is_seen live user) q most rows ≡ data_answer_of all_seen q most (visible h user).rows
  unfolding visible
  waves_told q most =
      (λ i. data_answer_of (is_seen (live_is i) user) q most (rows_are i))
      ∙ seen_alone (is_seen (live_of h) user) q most (arrived_of h)
      ∙ ap (λ (seen : List Row). data_answer_of all_seen q most seen) (seen_rows h user)

  pub spans_told : (way : AvailMethod) (q : AvailQuery) (most : ℕ) → avail_answer_of way q most (spans_of (is_seen live user) (is_touched live) q rows) ≡ avail_answer_of way q most (spans_of all_seen (is_among (visible h user).restricted) q (visible h user).rows)
  unfolding visible
  spans_told way q most =
      (λ i. avail_answer_of way q most (spans_of (is_seen (live_is i) user) (is_touched (live_is i)) q (rows_are i)))
      ∙ ap (λ (spans : List TimeSpan). avail_answer_of way q most spans) (spans_alone (is_touched (live_of h)) (touched_alike (live_of h)) (is_seen (live_of h) user) q (arrived_of h))
      ∙ ap (λ (seen : List Row). avail_answer_of way q most (spans_of all_seen (is_among (filter (is_touched (live_of h)) seen)) q seen)) (seen_rows h user)

  pub stations_told : (q : StationQuery) (most : ℕ) → station_answer_of q most live ≡ station_answer_of q most (visible h user).lines
  unfolding visible
  stations_told q most = ap (λ (ls : List LineValues). station_answer_of q most ls) live_is ∙ stations_alone (live_of h) q most

  pub events_told : (q : EventQuery) (most : ℕ) → event_answer_of q most live ≡ event_answer_of q most (visible h user).lines
  unfolding visible
  events_told q most = ap (λ (ls : List LineValues). event_answer_of q most ls) live_is ∙ events_alone q most (live_of h)
