-- Answers about stations and events rest on the public lines alone.
use Rattle.std.proofs.Common.{◌≡◌, ◌∙◌, ◌&&◌, ◌||◌, ℕ, Bool, true, false, List, [], ◌∷◌, ◌++◌, filter, refl, sym, ap}
use Rattle.std.specs.Prelude.{decimal}
use Rattle.std.specs.List.{list_any, filter_map, flat_map}
use Rattle.std.specs.Prelude.{length, map}
use Rattle.list_laws.specs.InOrder.{in_order}
use Rattle.epochs.specs.declared.kinds.Head.{Head}
use Rattle.epochs.specs.declared.kinds.Head.TheVariants.{Says, Deletes}
use Rattle.epochs.specs.declared.kinds.LineKind.TheVariants.{Net, Sta, Cha, Evt, Rst, Grt, Usr, Wdr}
use Rattle.epochs.specs.Fields.{Value}
use Rattle.epochs.specs.Kinds.{Text}
use Rattle.epochs.specs.Lines.{LineValues}
use Rattle.epoch_rules.specs.KeyOrder.{key_parts_of, text_cmp}
use Rattle.epoch_rules.specs.Rules.{is_line_of, contains}
use Rattle.epoch_catalog.specs.declared.families.Family.TheVariants.{StationsOf, ChannelsOf}
use Rattle.epoch_catalog.specs.Families.{is_in}
use Rattle.dataselect.specs.declared.query.Selection.{Selection}
use Rattle.query_parameters.specs.declared.area.Area.{Area}
use Rattle.query_parameters.specs.declared.level.Level.{Level}
use Rattle.query_parameters.specs.declared.level.Level.TheVariants as level
use Rattle.query_words.specs.declared.station.StationQuery.{StationQuery}
use Rattle.query_words.specs.declared.event.EventQuery.{EventQuery}
use Rattle.line_columns.specs.Answers.{text_or_empty}
use Rattle.line_columns.specs.Texts.{barred, column_text, line_feed}
use Rattle.station_text.specs.Answers.{text_answer_of as station_answer_of}
use Rattle.station_text.specs.Asked.{stations_of, channels_of, has_channel, has_station, is_asked_at, asked_lines, total_stations, is_eligible, selects_network, selects_station, selects_channel, is_inner_channel, is_inner_station, takes_all_channels, takes_all_stations, station_within, is_wanted, names_network, names_station}
use Rattle.station_text.specs.Windows.{line_passes}
use Rattle.station_text.specs.Texts.{answer_text, line_text, further_columns, header_text}
use Rattle.event_text.specs.Events.{is_event_asked, asks_for, event_of}
use Rattle.event_text.specs.Orders.{event_cmp, given_events}
use Rattle.event_text.specs.Texts.{answer_text as events_text, text_answer_of as event_answer_of}
use Rattle.desk_words.specs.Visible.{is_public}
use Rattle.desk_words.proofs.Through.{filter_through, left_holds}

-- ---- which lines are public

or_left : (a b : Bool) → a ≡ true → (a || b) ≡ true
or_left true b h = refl
or_left false b h = absurd (let e = h in (cc))

or_right : (a b : Bool) → b ≡ true → (a || b) ≡ true
or_right true b h = refl
or_right false b h = h

net_public : (e : LineValues) → is_line_of Net e ≡ true → is_public e ≡ true
net_public e h = or_left (is_line_of Net e) (is_line_of Sta e || (is_line_of Cha e || is_line_of Evt e)) h

sta_public : (e : LineValues) → is_line_of Sta e ≡ true → is_public e ≡ true
sta_public e h = or_right (is_line_of Net e) (is_line_of Sta e || (is_line_of Cha e || is_line_of Evt e)) (or_left (is_line_of Sta e) (is_line_of Cha e || is_line_of Evt e) h)

cha_public : (e : LineValues) → is_line_of Cha e ≡ true → is_public e ≡ true
cha_public e h =
    or_right (is_line_of Net e) (is_line_of Sta e || (is_line_of Cha e || is_line_of Evt e))
    (or_right (is_line_of Sta e) (is_line_of Cha e || is_line_of Evt e) (or_left (is_line_of Cha e) (is_line_of Evt e) h))

evt_public : (e : LineValues) → is_line_of Evt e ≡ true → is_public e ≡ true
evt_public e h =
    or_right (is_line_of Net e) (is_line_of Sta e || (is_line_of Cha e || is_line_of Evt e))
    (or_right (is_line_of Sta e) (is_line_of Cha e || is_line_of Evt e) (or_right (is_line_of Cha e) (is_line_of Evt e) h))

-- ---- events

pub events_alone : (q : EventQuery) (most : ℕ) (live : List LineValues) → event_answer_of q most live ≡ event_answer_of q most (filter is_public live)
events_alone q most live =
    ap (λ (events : List LineValues). text_or_empty events_text most (given_events q (in_order (event_cmp q.order) [] events)))
    (sym (filter_through (is_event_asked q) is_public (λ e h. evt_public e (left_holds (is_line_of Evt e) (asks_for q (event_of e)) h)) live))

-- ---- stations

module _ (live : List LineValues) where
  abbrev few : List LineValues
  few = filter is_public live

  stations_same : (e : LineValues) → stations_of e few ≡ stations_of e live
  stations_same e =
      filter_through (is_in (StationsOf (key_parts_of e).first)) is_public
      (λ l h. sta_public l (left_holds (is_line_of Sta l) _ h)) live

  channels_same : (e : LineValues) → channels_of e few ≡ channels_of e live
  channels_same e =
      filter_through (is_in (ChannelsOf (key_parts_of e).first (key_parts_of e).second)) is_public
      (λ l h. cha_public l (left_holds (is_line_of Cha l) _ (left_holds (is_line_of Cha l && _) _ h))) live

  channel_same : (s : Selection) (e : LineValues) → has_channel few s e ≡ has_channel live s e
  channel_same s e = ap (λ (ls : List LineValues). takes_all_channels s || list_any (is_inner_channel s e) ls) (channels_same e)

  inner_same : (area : Area) (s : Selection) (e : LineValues) → is_inner_station few area s e ≡ is_inner_station live area s e
  inner_same area s e = λ i t. is_line_of Sta t && contains e t && (is_wanted area s t && channel_same s t i)

  station_same : (area : Area) (s : Selection) (e : LineValues) → has_station few area s e ≡ has_station live area s e
  station_same area s e = λ i. takes_all_stations area s || list_any (inner_same area s e i) (stations_same e i)

  abbrev asked_in : List LineValues → Level → StationQuery → LineValues → Bool
  asked_in lines at q e = is_asked_at at lines q e

  asked_at_same : (at : Level) (q : StationQuery) → asked_in few at q ≡ asked_in live at q
  asked_at_same level.Network q = λ i e. is_line_of Net e && line_passes q e && list_any (λ s. names_network s e && station_same q.area s e i) q.selections
  asked_at_same level.Station q = λ i e. is_line_of Sta e && is_eligible q e && list_any (λ s. names_station s e && channel_same s e i) q.selections
  asked_at_same level.Channel q = refl

  asked_public : (at : Level) (q : StationQuery) (e : LineValues) → is_asked_at at live q e ≡ true → is_public e ≡ true
  asked_public level.Network q e h = net_public e (left_holds (is_line_of Net e) (line_passes q e) (left_holds (is_line_of Net e && line_passes q e) (selects_network live q e) h))
  asked_public level.Station q e h = sta_public e (left_holds (is_line_of Sta e) (is_eligible q e) (left_holds (is_line_of Sta e && is_eligible q e) (selects_station live q e) h))
  asked_public level.Channel q e h = cha_public e (left_holds (is_line_of Cha e) (is_eligible q e) (left_holds (is_line_of Cha e && is_eligible q e) (selects_channel q e) h))

  asked_same : (q : StationQuery) → asked_lines few q ≡ asked_lines live q
  asked_same q = ap (λ (f : LineValues → Bool). filter f few) (asked_at_same q.level q) ∙ filter_through (λ e. is_asked_at q.level live q e) is_public (asked_public q.level q) live

  total_same : (e : LineValues) → total_stations few e ≡ total_stations live e
  total_same e = ap (λ (ls : List LineValues). length (in_order text_cmp [] (filter_map (station_within e) ls))) (stations_same e)

  columns_by : (h : Head) (vs : List Value) → further_columns few (record { head = h; values = vs }) ≡ further_columns live (record { head = h; values = vs })
  columns_by (Says Net) vs = ap (λ (n : ℕ). decimal n ∷ []) (total_same (record { head = Says Net; values = vs }))
  columns_by (Says Sta) vs = refl
  columns_by (Says Cha) vs = refl
  columns_by (Says Evt) vs = refl
  columns_by (Says Rst) vs = refl
  columns_by (Says Grt) vs = refl
  columns_by (Says Usr) vs = refl
  columns_by (Says Wdr) vs = refl
  columns_by (Deletes kind) vs = refl

  line_same : (e : LineValues) → line_text few e ≡ line_text live e
  line_same e = ap (λ (more : List Text). barred (map column_text e.values ++ more) ++ line_feed ∷ []) (columns_by e.head e.values)

  pub stations_alone : (q : StationQuery) (most : ℕ) → station_answer_of q most live ≡ station_answer_of q most few
  stations_alone q most =
      sym (ap (text_or_empty (answer_text q.level few) most) (asked_same q)
      ∙ ap (λ (text : LineValues → Text). text_or_empty (λ lines. header_text q.level ++ flat_map text lines) most (asked_lines live q)) (λ i e. line_same e i))
