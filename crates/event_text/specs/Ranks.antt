-- By what the program orders events.
use Rattle.std.specs.Prelude.{◌≡◌, ℤ, neg_ℤ, Bool, false, not}
use Rattle.std.specs.Borrow.{Bor}
use Rattle.std.specs.Cmp.{IsTotalOrder, IsEquivalence, bool_cmp_total}
use Rattle.std.specs.Ordering.{int_cmp, bool_cmp, ordering_then, eq_by_cmp}
use Rattle.std.specs.declared.cmp.Ordering.{Ordering}
use Rattle.std.proofs.lemmas.Cmp.{then_total, int_cmp_total, nat_list_cmp_total, eq_by_cmp_equiv}
use Rattle.epochs.specs.declared.line.Event.{Event}
use Rattle.epochs.specs.declared.line.Line.TheVariants.{Evt}
use Rattle.epochs.specs.Lines.{LineValues}
use Rattle.epochs.specs.Views.{values_of_line}
use Rattle.epoch_rules.specs.KeyOrder.{text_cmp, or_zero}
use Rattle.epoch_rules.proofs.Orders.{total_on}
use Rattle.query_parameters.specs.Places.{is_absent}
use Rattle.query_parameters.specs.declared.order.EventOrder.{EventOrder}
use Rattle.query_parameters.specs.declared.order.EventOrder.TheVariants.{TimeDown, TimeUp, MagnitudeDown, MagnitudeUp}
use Rattle.event_text.specs.Events.{EventValues, event_of}
use Rattle.event_text.specs.declared.rank.Rank.{Rank}

-- an event that is lent, as its line
abbrev pub line_at : Bor Event → LineValues
line_at event = values_of_line (Evt event.now)

abbrev pub line_of_rank : Rank → LineValues
line_of_rank r = line_at r.event

-- whether an event stands behind those without the mark, and by what number within its part
abbrev pub is_apart : EventOrder → EventValues → Bool
is_apart MagnitudeDown v = is_absent v.magnitude
is_apart MagnitudeUp v = not (is_absent v.magnitude)
is_apart _ v = false

abbrev pub measure_of : EventOrder → EventValues → ℤ
measure_of TimeDown v = neg_ℤ v.time
measure_of TimeUp v = v.time
measure_of MagnitudeDown v = neg_ℤ (or_zero v.magnitude)
measure_of MagnitudeUp v = or_zero v.magnitude

-- the rank of an event in an order
pub record IsRank (order : EventOrder) (r : Rank) : Type 0 where
  pub apart_is : r.apart ≡ is_apart order (event_of (line_at r.event))
  pub measure_is : r.measure ≡ measure_of order (event_of (line_at r.event))

abbrev pub rank_cmp : Rank → Rank → Ordering
rank_cmp a b =
    ordering_then (bool_cmp a.apart b.apart)
    (ordering_then (int_cmp a.measure b.measure) (text_cmp a.event.now.id b.event.now.id))

abbrev pub is_same_rank : Rank → Rank → Bool
is_same_rank = eq_by_cmp rank_cmp

pub ranks_total : IsTotalOrder rank_cmp
ranks_total =
    then_total (total_on (λ (r : Rank). r.apart) bool_cmp_total)
    (then_total (total_on (λ (r : Rank). r.measure) int_cmp_total) (total_on (λ (r : Rank). r.event.now.id) nat_list_cmp_total))

pub ranks_equal : IsEquivalence is_same_rank
ranks_equal = eq_by_cmp_equiv ranks_total
