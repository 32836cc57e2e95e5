-- Every query string asks event for one query, or has one fault.
use Rattle.std.proofs.Common.{◌⊎◌, inl, inr, List, [], Result, Ok, Err, length, refl, codes}
use Rattle.std.proofs.lemmas.Bool.{cases_lt}
use Rattle.list_laws.specs.Only.{IsOnly}
use Rattle.query_parameters.specs.FirstRefusals.{AreTaken}
use Rattle.query_parameters.specs.Gets.{IsRight, IsWindowInOrder, LacksNone}
use Rattle.query_parameters.specs.Parameters.{Parameter, pairs_of, parameters_of, given, TakesParameter, RefusesParameter}
use Rattle.query_parameters.specs.Places.{AreBounds}
use Rattle.query_parameters.specs.Rows.{Text}
use Rattle.query_parameters.specs.declared.area.Area.{Area}
use Rattle.query_parameters.specs.declared.fault.QueryFault.{QueryFault}
use Rattle.query_parameters.specs.declared.fault.QueryFault.TheVariants.{TooMany, Order}
use Rattle.query_parameters.specs.declared.order.EventOrder.TheVariants.{TimeDown}
use Rattle.query_parameters.specs.declared.rows.ValueKind.TheVariants as kind
use Rattle.query_parameters.proofs.GivenFound.{given_reads, default_reads, limit_given, no_nodata, in_time_or_backwards, wrong_answer}
use Rattle.query_parameters.proofs.NumbersFound.{number_given, count_given}
use Rattle.query_parameters.proofs.OneGet.{not_backwards}
use Rattle.query_parameters.proofs.PlacesFound.{range_or_not, area_or_not, latitude_given, longitude_given}
use Rattle.query_parameters.proofs.RefusalLaws.{taken_or_refused}
use Rattle.query_parameters.proofs.ValuesFound.{parameter_found}
use Rattle.query_words.specs.EventGet.{IsEventGet, IsEventTurned, IsEventGetFault}
use Rattle.query_words.specs.EventOptions.{AreEventOptions, IsEventInOrder}
use Rattle.query_words.specs.Tables.{event_names}
use Rattle.query_words.specs.declared.event.EventQuery.{EventQuery}
use Rattle.query_words.proofs.EventSaid.{from_one}
use Rattle.query_words.proofs.OneEvent.{only_get}

in_time_or_not : (q : EventQuery) → IsWindowInOrder q.start q.end ⊎ (¬ (IsWindowInOrder q.start q.end))
in_time_or_not q = elim (in_time_or_backwards q.start q.end) [ inl forwards ↦ inl forwards | inr late ↦ inr (λ h. not_backwards q.start q.end late.0 late.1 late.2 late.3 h late.4) ]

-- limits are in order, or they aren't
in_order_or_not : (q : EventQuery) → IsEventInOrder q ⊎ (¬ (IsEventInOrder q))
in_order_or_not q =
    elim (in_time_or_not q) [
      | inr off ↦ inr (λ h. off h.in_time)
      | inl in_time ↦ elim (area_or_not q.area) [
        | inr off ↦ inr (λ h. off h.area)
        | inl area ↦ elim (range_or_not q.depth) [
          | inr off ↦ inr (λ h. off h.depth)
          | inl depth ↦ elim (range_or_not q.magnitude) [
            | inr off ↦ inr (λ h. off h.magnitude)
            | inl magnitude ↦ inl (record { in_time = in_time; area = area; depth = depth; magnitude = magnitude })
          ]
        ]
      ]
    ]

-- what right parameters say
module _ (ps : List Parameter) (taken : AreTaken (TakesParameter event_names) [] ps) where
  said_bounds : (area : Area) × AreBounds event_names ps area
  said_bounds =
      let south = latitude_given (given event_names 3 ps) (given_reads event_names 3 [] ps taken) in
      let north = latitude_given (given event_names 4 ps) (given_reads event_names 4 [] ps taken) in
      let west = longitude_given (given event_names 5 ps) (given_reads event_names 5 [] ps taken) in
      let east = longitude_given (given event_names 6 ps) (given_reads event_names 6 [] ps taken) in (
        record { latitude = record { least = south.0; most = north.0 }; longitude = record { least = west.0; most = east.0 } },
        record { south_is = south.1; north_is = north.1; west_is = west.1; east_is = east.1 },
      )

  said_options : (q : EventQuery) × AreEventOptions event_names ps q
  said_options =
      let start = limit_given (given event_names 0 ps) (given_reads event_names 0 [] ps taken) in
      let end = limit_given (given event_names 1 ps) (given_reads event_names 1 [] ps taken) in
      let nodata = default_reads kind.Nodata (codes "204") no_nodata (given event_names 2 ps) (given_reads event_names 2 [] ps taken) in
      let area = said_bounds in
      let shallow = number_given (given event_names 7 ps) (given_reads event_names 7 [] ps taken) in
      let deep = number_given (given event_names 8 ps) (given_reads event_names 8 [] ps taken) in
      let weak = number_given (given event_names 9 ps) (given_reads event_names 9 [] ps taken) in
      let strong = number_given (given event_names 10 ps) (given_reads event_names 10 [] ps taken) in
      let order = default_reads kind.EventOrder (codes "time") (TimeDown, refl) (given event_names 15 ps) (given_reads event_names 15 [] ps taken) in
      let limit = count_given (given event_names 16 ps) (given_reads event_names 16 [] ps taken) in
      let offset = default_reads kind.Count (codes "1") (1, from_one) (given event_names 17 ps) (given_reads event_names 17 [] ps taken) in (
        record {
          start = start.0;
          end = end.0;
          area = area.0;
          depth = record { least = shallow.0; most = deep.0 };
          magnitude = record { least = weak.0; most = strong.0 };
          magnitude_kind = given event_names 11 ps;
          id = given event_names 12 ps;
          catalog = given event_names 13 ps;
          contributor = given event_names 14 ps;
          order = order.0;
          limit = limit.0;
          offset = offset.0;
          nodata = nodata.0;
        },
        record {
          window = record { start_is = start.1; end_is = end.1 };
          bounds = area.1;
          depth = record { least_is = shallow.1; most_is = deep.1 };
          magnitude = record { least_is = weak.1; most_is = strong.1 };
          magnitude_kind_is = refl;
          id_is = refl;
          catalog_is = refl;
          contributor_is = refl;
          order_is = order.1;
          limit_is = limit.1;
          offset_is = offset.1;
          nodata_is = nodata.1;
        },
      )

abbrev pub Answer : Text → Type 0
Answer query = (answer : Result EventQuery QueryFault) × IsOnly (IsEventGet query) (IsEventGetFault query) answer

-- right parameters ask for a query, or their limits are in no order
right_answer : (query : Text) → IsRight event_names query → Answer query
right_answer query right =
    let q = said_options (parameters_of query) right.taken in
    elim (in_order_or_not q.0) [
      | inr off ↦ (Err Order, only_get query (Err Order) (record { right = right; q = q.0; options = q.1; turned = off }))
      | inl in_order ↦ (Ok q.0, only_get query (Ok q.0) (record { right = right; options = q.1; in_order = in_order }))
    ]

-- every query string is one query, or has one fault
pub get_or_fault : (query : Text) → Answer query
get_or_fault query =
    elim (cases_lt 1000 (length (pairs_of query))) [
      | inl many ↦ (Err TooMany, only_get query (Err TooMany) many)
      | inr few ↦ elim (taken_or_refused (TakesParameter event_names) (RefusesParameter event_names) (parameter_found event_names) (parameters_of query)) [
        | inl taken ↦ right_answer query (record { few = few; taken = taken })
        | inr first ↦ (Err first.0, only_get query (Err first.0) (wrong_answer event_names LacksNone IsEventTurned query few first.0 first.1))
      ]
    ]
