-- One pass over the rows of a group makes its spans.
use Rattle.std.proofs.Common.{◌≡◌, ℕ, Bool, true, false, ◌||◌, Bor, List, [], ◌∷◌, ◌++◌, map, ap, refl, ◌∙◌, cond}
use Rattle.std.specs.Prelude.{int_lt}
use Rattle.std.specs.Int.{int_max}
use Rattle.std.specs.List.{list_all}
use Rattle.std.proofs.lemmas.List.{map-append}
use Rattle.list_laws.specs.Breaks.{after_last}
use Rattle.list_laws.proofs.Passes as passing
use Rattle.mseed_header.specs.declared.header.Header.{Header}
use Rattle.mseed_header.specs.declared.row.Row.{Row}
use Rattle.dataselect.specs.Spans.{breaks, is_too_late, is_too_early}
use Rattle.dataselect.proofs.Reaches.{far_more, far_alone}
use Rattle.dataselect.proofs.Reaches as reaches
use Rattle.query_words.specs.declared.avail.AvailQuery.{AvailQuery}
use Rattle.availability.specs.declared.span.TimeSpan.{TimeSpan}
use Rattle.availability.specs.declared.spans.Reached.{Reached}
use Rattle.availability.specs.Spans.{merging_of, span_at, longer}
use Rattle.availability.specs.Walk.{is_over, reached_by, further}

-- a record follows the one before it neither too late nor too early
abbrev pub unfollowed : ℕ → Header → Header → Bool
unfollowed gap e h = is_too_late gap e h.start.micros || is_too_early e h.start.micros

step_for : (overlap : Bool) (gap : ℕ) (earlier : List Header) (reached : Reached) (h x : Header)
    → cond overlap (list_all (λ e. is_too_late gap e x.start.micros) earlier) (after_last (unfollowed gap) earlier x) ≡ cond overlap (int_lt reached.far x.start.micros) (unfollowed gap reached.last x)
    → cond overlap (list_all (λ e. is_too_late gap e x.start.micros) (earlier ++ h ∷ [])) (after_last (unfollowed gap) (earlier ++ h ∷ []) x) ≡ cond overlap (int_lt (int_max reached.far (reaches.reach_of gap h)) x.start.micros) (unfollowed gap h x)
step_for true gap earlier reached h x known = far_more gap earlier reached.far h x.start.micros known
step_for false gap earlier reached h x known = passing.after_end (unfollowed gap) earlier h x

first_for : (overlap : Bool) (gap : ℕ) (h x : Header)
    → cond overlap (list_all (λ e. is_too_late gap e x.start.micros) (h ∷ [])) (after_last (unfollowed gap) (h ∷ []) x) ≡ cond overlap (int_lt (reaches.reach_of gap h) x.start.micros) (unfollowed gap h x)
first_for true gap h x = far_alone gap h x.start.micros
first_for false gap h x = refl

module _ (touched : Row → Bool) (q : AvailQuery) where
  abbrev pub begin : Bor Row → TimeSpan
  begin r = span_at touched q r.now

  abbrev pub grow : TimeSpan → Bor Row → TimeSpan
  grow s r = longer touched s r.now

  abbrev pub over : Reached → Bor Row → Bool
  over reached r = is_over q reached r.now.header

  abbrev pub moved : Reached → Bor Row → Reached
  moved reached r = further q reached r.now.header

  abbrev pub row_breaks : List (Bor Row) → Bor Row → Bool
  row_breaks earlier r = breaks (merging_of q) (map (λ e. e.now.header) earlier) r.now.header

  abbrev pub Knows : List (Bor Row) → Reached → Type 0
  Knows earlier reached = passing.Knows begin grow over moved row_breaks earlier reached

  pub step : (earlier : List (Bor Row)) (reached : Reached) (r : Bor Row) → Knows earlier reached → Knows (earlier ++ r ∷ []) (moved reached r)
  step earlier reached r known later =
      ap (λ (hs : List Header). breaks (merging_of q) hs later.now.header) (map-append (λ (e : Bor Row). e.now.header) earlier (r ∷ []))
      ∙ step_for q.merge_overlap q.gaps (map (λ (e : Bor Row). e.now.header) earlier) reached r.now.header later.now.header (known later)

  pub first : (r : Bor Row) → Knows (r ∷ []) (reached_by q r.now.header)
  first r later = first_for q.merge_overlap q.gaps r.now.header later.now.header
