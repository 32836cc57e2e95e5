-- One pass over the rows of a group makes its spans.
use Rattle.std.proofs.Common.{ℤ, Bool, Bor, List, [], ◌∷◌, ◌++◌, map, ap, ◌∙◌}
use Rattle.std.specs.Prelude.{int_lt}
use Rattle.std.specs.Int.{int_max}
use Rattle.std.specs.List.{list_all}
use Rattle.std.proofs.lemmas.List.{map-append}
use Rattle.list_laws.proofs.Passes as passing
use Rattle.mseed_header.specs.declared.row.Row.{Row}
use Rattle.dataselect.specs.MergedSpans.{SpanValue, by_quality_and_rate, span_at, longer}
use Rattle.dataselect.specs.Spans.{breaks, is_too_late}
use Rattle.dataselect.proofs.Reaches.{reach_of, far_more, far_alone}

abbrev pub begin : Bor Row → SpanValue
begin r = span_at r.now

abbrev pub grow : SpanValue → Bor Row → SpanValue
grow s r = longer s r.now

-- the row starts behind what was reached so far
abbrev pub is_behind : ℤ → Bor Row → Bool
is_behind far r = int_lt far r.now.header.start.micros

abbrev pub farther : ℤ → Bor Row → ℤ
farther far r = int_max far (reach_of 0 r.now.header)

abbrev pub row_breaks : List (Bor Row) → Bor Row → Bool
row_breaks earlier r = breaks by_quality_and_rate (map (λ e. e.now.header) earlier) r.now.header

abbrev pub Knows : List (Bor Row) → ℤ → Type 0
Knows earlier far = passing.Knows begin grow is_behind farther row_breaks earlier far

pub step : (earlier : List (Bor Row)) (far : ℤ) (r : Bor Row) → Knows earlier far → Knows (earlier ++ r ∷ []) (farther far r)
step earlier far r known later =
    let q = later.now.header.start.micros in
    ap (list_all (λ h. is_too_late 0 h q)) (map-append (λ (e : Bor Row). e.now.header) earlier (r ∷ []))
    ∙ far_more 0 (map (λ e. e.now.header) earlier) far r.now.header q (known later)

pub first : (r : Bor Row) → Knows (r ∷ []) (reach_of 0 r.now.header)
first r later = far_alone 0 r.now.header later.now.header.start.micros
