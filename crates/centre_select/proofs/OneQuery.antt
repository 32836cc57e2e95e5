-- The words of `select` spell one query, or are refused in one way.
use Rattle.std.proofs.Common.{◌≡◌, ℕ, Bool, List, [], ◌∷◌, ◌++◌, Option, Some, refl, sym, ap, ◌∙◌, arith}
use Rattle.std.proofs.lemmas.Int.{ints}
use Rattle.list_laws.proofs.Refusals.{none_without, one_without}
use Rattle.exact_time.specs.MomentText.{IsMoment}
use Rattle.exact_time.specs.declared.moment.Moment.{Moment}
use Rattle.exact_time.proofs.Spellings.{one_moment}
use Rattle.channel_globs.proofs.OneList.{one_list}
use Rattle.channel_globs.specs.declared.nslc.Part.TheVariants.{Network, Station, Location, Channel}
use Rattle.mseed_header.specs.declared.quality.Quality.{Quality}
use Rattle.dataselect.specs.declared.query.DataQuery.{DataQuery}
use Rattle.dataselect.specs.declared.query.Selection.{Selection}
use Rattle.centre_select.specs.declared.ending.SelectRefusal.{SelectRefusal}
use Rattle.centre_select.specs.declared.ending.SelectRefusal.TheVariants.{Value, Order, Record, NoData, TooLarge, InputTooLong}
use Rattle.command_words.specs.Commands.{SelectWords}
use Rattle.query_parameters.specs.Values.{quality_of, flag_of}
use Rattle.query_parameters.proofs.Minimums.{one_minimum}
use Rattle.centre_select.specs.Words.{CanReadWord, CanReadWords, time_words, option_words, tested_words, IsNamed, IsSelectWindow, AreSelectOptions, IsSelectQuery, HasTimesTurned, RefusesSelectWords}

one_time : (text : List ℕ) (a b : Moment) → IsMoment text a.micros → IsMoment text b.micros → a ≡ b
one_time text a b h k = let e = one_moment text a.micros b.micros h k in λ i. record { micros = e i }

one_selection : (w : SelectWords) (s t : Selection) → IsNamed w s → IsSelectWindow w s → IsNamed w t → IsSelectWindow w t → s ≡ t
one_selection w s t h p k q =
    let network = one_list Network w.network s.network t.network h.network_is k.network_is in
    let station = one_list Station w.station s.station t.station h.station_is k.station_is in
    let location = one_list Location w.location s.location t.location h.location_is k.location_is in
    let channel = one_list Channel w.channel s.channel t.channel h.channel_is k.channel_is in
    let start : s.start ≡ t.start = p.start_is ∙ ap Some (one_time w.start p.from q.from p.from_is q.from_is) ∙ sym q.start_is in
    let end : s.end ≡ t.end = p.end_is ∙ ap Some (one_time w.end p.to q.to p.to_is q.to_is) ∙ sym q.end_is in
    λ i. record { network = network i; station = station i; location = location i; channel = channel i; start = start i; end = end i }

one_some : {X : Type 0} (o : Option X) (x y : X) → o ≡ Some x → o ≡ Some y → x ≡ y
one_some o x y h k = cc

pub one_query : (w : SelectWords) (q r : DataQuery) → IsSelectQuery w q → IsSelectQuery w r → q ≡ r
one_query w q r h k =
    let selection = one_selection w h.selection k.selection h.named h.window k.named k.window in
    let selections : q.selections ≡ r.selections = h.only ∙ ap (λ (s : Selection). s ∷ []) selection ∙ sym k.only in
    let quality : q.quality ≡ r.quality = one_some (quality_of w.quality) q.quality r.quality h.options.quality_is k.options.quality_is in
    let minimum : q.minimum ≡ r.minimum = one_minimum w.minimum q.minimum r.minimum h.options.minimum_is k.options.minimum_is in
    let longest : q.longest ≡ r.longest = one_some (flag_of w.longest) q.longest r.longest h.options.longest_is k.options.longest_is in
    let nodata : q.nodata ≡ r.nodata = h.nodata ∙ sym k.nodata in
    λ i. record { selections = selections i; quality = quality i; minimum = minimum i; longest = longest i; nodata = nodata i }

-- every word can be read where there are its values
pub all_read : (w : SelectWords) (s : Selection) (from to : Moment) (quality : Option Quality) (minimum : ℕ) (longest : Bool) → IsNamed w s → IsMoment w.start from.micros → IsMoment w.end to.micros
    → AreSelectOptions w quality minimum longest → CanReadWords w tested_words
all_read w s from to quality minimum longest h from_is to_is o =
    let options : CanReadWords w option_words = ((quality, o.quality_is), ((minimum, o.minimum_is), ((longest, o.longest_is), tt))) in
    let times : CanReadWords w (time_words ++ option_words) = ((from.micros, from_is), ((to.micros, to_is), options)) in
    ((s.network, h.network_is), ((s.station, h.station_is), ((s.location, h.location_is), ((s.channel, h.channel_is), times))))

query_reads : (w : SelectWords) (q : DataQuery) → IsSelectQuery w q → CanReadWords w tested_words
query_reads w q h =
    all_read w h.selection h.window.from h.window.to q.quality q.minimum q.longest h.named h.window.from_is h.window.to_is h.options

not_backwards : (w : SelectWords) (q : DataQuery) → IsSelectQuery w q → HasTimesTurned w → ⊥
not_backwards w q h k =
    let from : h.window.from.micros ≡ k.from = one_moment w.start h.window.from.micros k.from h.window.from_is k.from_is in
    let to : h.window.to.micros ≡ k.to = one_moment w.end h.window.to.micros k.to h.window.to_is k.to_is in
    omega (arith, ints, from, to, h.window.order, k.order)

-- words that spell a query aren't refused
pub no_refusal : (w : SelectWords) (q : DataQuery) (r : SelectRefusal) → IsSelectQuery w q → RefusesSelectWords w r → ⊥
no_refusal w q (Value word) h k = none_without (CanReadWord w) tested_words word (query_reads w q h) k
no_refusal w q Order h k = not_backwards w q h k
no_refusal w q (Record at fault) h k = k
no_refusal w q NoData h k = k
no_refusal w q (TooLarge bytes limit) h k = k
no_refusal w q InputTooLong h k = k

pub one_refusal : (w : SelectWords) (r s : SelectRefusal) → RefusesSelectWords w r → RefusesSelectWords w s → r ≡ s
one_refusal w (Value a) (Value b) h k = ap Value (one_without (CanReadWord w) tested_words a b h k)
one_refusal w (Value a) Order h k = absurd (none_without (CanReadWord w) tested_words a k.all h)
one_refusal w Order (Value b) h k = absurd (none_without (CanReadWord w) tested_words b h.all k)
one_refusal w Order Order h k = refl
one_refusal w r (Record at fault) h k = absurd k
one_refusal w r NoData h k = absurd k
one_refusal w r (TooLarge bytes limit) h k = absurd k
one_refusal w r InputTooLong h k = absurd k
one_refusal w (Record at fault) s h k = absurd h
one_refusal w NoData s h k = absurd h
one_refusal w (TooLarge bytes limit) s h k = absurd h
one_refusal w InputTooLong s h k = absurd h
