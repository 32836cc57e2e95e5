-- Worked examples of the definitions.
use Rattle.std.proofs.Common.{◌≡◌, ◌+◌, ◌==◌, not, ℕ, List, true, false, refl, codes, [], ◌∷◌, pos, None, Err, arith}
use Rattle.std.specs.Prelude.{nat_lt}
use Rattle.std.proofs.Math.Nat.{one-dvd}
use Rattle.std.specs.declared.cmp.Ordering.TheVariants.{Less, Greater}
use Rattle.mseed_header.specs.declared.quality.Quality.TheVariants.{D, M}
use Rattle.channel_globs.specs.Names.{name_cmp}
use Rattle.dataselect.specs.Order.{rank_cmp}
use Rattle.mseed_header.proofs.Examples.{anmo_row, anmo_image}
use Rattle.dataselect.specs.Chosen.{chosen_places}
use Rattle.dataselect.specs.DataBody.{data_body, answer_of}
use Rattle.dataselect.specs.Law.{IsAskedBy, AreChosen}
use Rattle.dataselect.proofs.Asked.{asked_decides}
use Rattle.dataselect.proofs.Kept.{are_picked}
use Rattle.dataselect.proofs.Members.{are_chosen}
use Rattle.mseed_header.proofs.Examples.{anmo_header}
use Rattle.dataselect.specs.Query.{is_named, is_selected, is_asked}
use Rattle.dataselect.specs.Longest.{longest_by}
use Rattle.dataselect.specs.Picked.{picked_places}
use Rattle.dataselect.specs.PickedLaw.{ArePicked}
use Rattle.dataselect.specs.Runs.{runs_by}
use Rattle.dataselect.specs.Segments.{is_break, length_between, lasts, exceeds, segment_length, segments_of, have_one_name}
use Rattle.dataselect.specs.HeldNames.{names_of}
use Rattle.dataselect.specs.MergedSpans.{by_quality_and_rate, at_cmp, next_at, span_at, merged_spans_of}
use Rattle.dataselect.specs.Spans.{Merging, span_runs}
use Rattle.list_laws.specs.Greater.{greater}
use Rattle.dataselect.specs.Rows.{held_rows, with_row, with_rows}
use Rattle.dataselect.specs.declared.answers.DataRefusal.TheVariants.{Empty, TooLarge}
use Rattle.dataselect.specs.declared.query.DataQuery.{DataQuery}
use Rattle.dataselect.specs.declared.query.Nodata.TheVariants.{Quiet}
use Rattle.exact_time.specs.declared.ratio.Ratio.{Ratio}
use Rattle.mseed_header.specs.declared.header.Header.{Header}
use Rattle.channel_globs.specs.declared.nslc.Nslc.{Nslc}
use Rattle.dataselect.specs.declared.order.Rank.{Rank}
use Rattle.dataselect.specs.declared.query.Selection.{Selection}

abbrev anmo : Nslc
anmo = record { network = codes "IU"; station = codes "ANMO"; location = codes "00"; channel = codes "BHZ" }

abbrev blank_anmo : Nslc
blank_anmo = record anmo { location = codes "  " }

abbrev rank : Rank
rank = record { name = anmo; quality = D; start = record { micros = pos 5 }; entry = 0; place = 7; index = 7 }

-- the blank location stands first
blank_first : name_cmp blank_anmo anmo ≡ Less
blank_first = refl

-- the quality letter decides before the start, and the start before the place
quality_first : rank_cmp rank (record rank { quality = M; start = record { micros = pos 0 } }) ≡ Less
quality_first = refl

start_first : rank_cmp rank (record rank { start = record { micros = pos 0 }; place = 9 }) ≡ Greater
start_first = refl

abbrev broadband : Selection
broadband = record {
  network = codes "IU" ∷ [];
  station = codes "*" ∷ [];
  location = codes "--" ∷ codes "00" ∷ [];
  channel = codes "LH?" ∷ codes "BH?" ∷ [];
  start = None;
  end = None;
}

named : is_named broadband anmo ≡ true
named = refl

not_named : is_named broadband blank_anmo ≡ false
not_named = refl

abbrev all_of_it : DataQuery
all_of_it = record { selections = broadband ∷ []; quality = None; minimum = 0; longest = false; nodata = Quiet }

-- the record of IU ANMO 00 BHZ is chosen, and is the body
chosen : chosen_places (λ _. true) all_of_it (anmo_row ∷ []) ≡ 0 ∷ []
unfolding is_selected is_asked
chosen = refl

body : data_body (λ _. true) all_of_it (anmo_row ∷ []) ≡ anmo_image
unfolding is_selected is_asked segment_length
body = refl

-- nothing is chosen where nothing is seen
unseen : answer_of (λ _. false) all_of_it 512 (anmo_row ∷ []) ≡ Err Empty
unseen = refl

too_large : answer_of (λ _. true) all_of_it 511 (anmo_row ∷ []) ≡ Err (TooLarge 512)
unfolding is_selected is_asked segment_length
too_large = refl

-- a double is left out
held : held_rows (anmo_row ∷ anmo_row ∷ []) ≡ anmo_row ∷ []
held = refl

kept : with_row (anmo_row ∷ []) anmo_row ≡ anmo_row ∷ []
kept = refl

-- the same in the subject's words
asked : IsAskedBy all_of_it anmo_header
unfolding is_selected is_asked
asked = (asked_decides all_of_it anmo_header).0 refl

the_chosen : AreChosen (λ _. true) all_of_it (anmo_row ∷ []) (0 ∷ [])
unfolding is_selected is_asked
the_chosen = are_chosen (λ _. true) all_of_it (anmo_row ∷ [])

-- numbers that don't rise by one break
runs : runs_by (λ (a b : ℕ). not (a + 1 == b)) (1 ∷ 2 ∷ 5 ∷ 6 ∷ 8 ∷ []) ≡ (1 ∷ 2 ∷ []) ∷ (5 ∷ 6 ∷ []) ∷ (8 ∷ []) ∷ []
runs = refl

-- of pairs of a kind and a length the longest of each kind, on a tie the first: here the second number of
-- a pair tells its length, and the third which it is
longest : longest_by (λ (a b : ℕ × ℕ × ℕ). a.0 == b.0) (λ a b. nat_lt b.1 a.1) ((1, 4, 0) ∷ (1, 6, 1) ∷ (1, 6, 2) ∷ (2, 3, 3) ∷ (2, 3, 4) ∷ []) ≡ (1, 6, 1) ∷ (2, 3, 3) ∷ []
longest = refl

-- a header that starts so many microseconds after 1970: that of IU ANMO 00 BHZ has 100 samples at 20 Hz,
-- which are 5 seconds, and half a period is 25,000 microseconds
abbrev starting : ℕ → Header
starting micros = record anmo_header { start = record { micros = pos micros } }

follows : is_break anmo_header (starting 1_706_745_605_000_000) ≡ false
unfolding is_break
follows = refl

late : is_break anmo_header (starting 1_706_745_605_025_000) ≡ false
unfolding is_break
late = refl

too_late : is_break anmo_header (starting 1_706_745_605_025_001) ≡ true
unfolding is_break
too_late = refl

too_early : is_break anmo_header (starting 1_706_745_604_974_999) ≡ true
unfolding is_break
too_early = refl

modified : is_break anmo_header (record (starting 1_706_745_605_000_000) { quality = M }) ≡ true
unfolding is_break
modified = refl

elsewhere : is_break anmo_header (record (starting 1_706_745_605_000_000) { name = blank_anmo }) ≡ true
unfolding is_break
elsewhere = refl

-- what has no rate breaks from what has none and starts where that ends
abbrev no_rate : Ratio
no_rate = record {
  num = 0;
  den = 1;
  num_in = omega arith;
  den_in = omega arith;
  above = omega arith;
  lowest = (one-dvd 0, one-dvd 1, λ d p q. q);
}

without_rate : is_break (record anmo_header { rate = no_rate }) (record anmo_header { rate = no_rate }) ≡ true
unfolding is_break
without_rate = refl

-- two such records that follow one another last 10 seconds, in twentieths of a microsecond
ten_seconds : length_between anmo_header (starting 1_706_745_605_000_000) ≡ record { micros = 200_000_000; parts = 20 }
ten_seconds = refl

long_enough : lasts 10_000_000 (length_between anmo_header (starting 1_706_745_605_000_000)) ≡ true
long_enough = refl

too_short : lasts 10_000_001 (length_between anmo_header (starting 1_706_745_605_000_000)) ≡ false
too_short = refl

-- a third of a microsecond is longer than a quarter
longer : exceeds (record { micros = 1; parts = 3 }) (record { micros = 1; parts = 4 }) ≡ true
longer = refl

-- two records that start together are two segments, and the first is the longest
two : segments_of (anmo_row ∷ anmo_row ∷ []) (0 ∷ 1 ∷ []) ≡ (0 ∷ []) ∷ (1 ∷ []) ∷ []
unfolding is_break
two = refl

tie : picked_places (λ _. true) (record all_of_it { longest = true }) (anmo_row ∷ anmo_row ∷ []) ≡ 0 ∷ []
unfolding is_selected is_asked is_break segment_length have_one_name
tie = refl

-- no record lasts longer than 5 seconds
none_so_long : picked_places (λ _. true) (record all_of_it { minimum = 5_000_001 }) (anmo_row ∷ anmo_row ∷ []) ≡ []
unfolding is_selected is_asked is_break segment_length
none_so_long = refl

the_picked : ArePicked (record all_of_it { longest = true }) (anmo_row ∷ anmo_row ∷ []) (0 ∷ 1 ∷ []) (0 ∷ [])
unfolding is_break segment_length have_one_name
the_picked = are_picked (record all_of_it { longest = true }) (anmo_row ∷ anmo_row ∷ []) (0 ∷ 1 ∷ [])

-- one sample in a second
abbrev one_hertz : Ratio
one_hertz = record {
  num = 1;
  den = 1;
  num_in = omega arith;
  den_in = omega arith;
  above = omega arith;
  lowest = (one-dvd 1, one-dvd 1, λ d p q. p);
}

-- so many samples, from so many microseconds after midnight
abbrev seconds : ℕ → ℕ → Header
seconds samples micros = record (starting (1_706_745_600_000_000 + micros)) { samples = samples; rate = one_hertz }

-- an hour, ten seconds within it, and ten seconds that follow the hour
abbrev hour : Header
hour = seconds 3600 0

abbrev inner : Header
inner = seconds 10 600_000_000

abbrev following : Header
following = seconds 10 3_600_000_000

abbrev runs_by_way : Merging → List Header → List (List Header)
runs_by_way m hs = span_runs m (λ h. h) hs

-- what follows the hour joins it, also behind the ten seconds within it
merged : runs_by_way by_quality_and_rate (hour ∷ inner ∷ following ∷ []) ≡ (hour ∷ inner ∷ following ∷ []) ∷ []
merged = refl

-- where overlaps aren't merged, the row before alone counts
unmerged : runs_by_way (record by_quality_and_rate { overlap = false }) (hour ∷ inner ∷ following ∷ []) ≡ (hour ∷ []) ∷ (inner ∷ []) ∷ (following ∷ []) ∷ []
unmerged = refl

-- half a period is half a second
half_late : runs_by_way by_quality_and_rate (hour ∷ seconds 10 3_600_500_000 ∷ []) ≡ (hour ∷ seconds 10 3_600_500_000 ∷ []) ∷ []
half_late = refl

later_still : runs_by_way by_quality_and_rate (hour ∷ seconds 10 3_600_500_001 ∷ []) ≡ (hour ∷ []) ∷ (seconds 10 3_600_500_001 ∷ []) ∷ []
later_still = refl

-- a gap of a second is allowed
gap_allowed : runs_by_way (record by_quality_and_rate { gap = 1_000_000 }) (hour ∷ seconds 10 3_601_000_000 ∷ []) ≡ (hour ∷ seconds 10 3_601_000_000 ∷ []) ∷ []
gap_allowed = refl

-- rows of two rates, and of two qualities, join where these are merged
abbrev at_rate_0 : Header
at_rate_0 = record (seconds 0 600_000_000) { rate = no_rate }

two_rates : runs_by_way by_quality_and_rate (hour ∷ at_rate_0 ∷ following ∷ []) ≡ (hour ∷ []) ∷ (at_rate_0 ∷ []) ∷ (following ∷ []) ∷ []
two_rates = refl

rates_merged : runs_by_way (record by_quality_and_rate { rate = true }) (hour ∷ at_rate_0 ∷ following ∷ []) ≡ (hour ∷ at_rate_0 ∷ following ∷ []) ∷ []
rates_merged = refl

qualities_merged : runs_by_way (record by_quality_and_rate { quality = true }) (hour ∷ record inner { quality = M } ∷ []) ≡ (hour ∷ record inner { quality = M } ∷ []) ∷ []
qualities_merged = refl

-- of two equal times the one with more samples is the greater
same_time : greater at_cmp (next_at (seconds 10 600_000_000)) (next_at (seconds 9 601_000_000)) ≡ next_at (seconds 10 600_000_000)
same_time = refl

later_time : greater at_cmp (next_at (seconds 10 600_000_000)) (next_at (seconds 10 601_000_000)) ≡ next_at (seconds 10 601_000_000)
later_time = refl

-- the one span of a record
one_span : merged_spans_of anmo (anmo_row ∷ []) ≡ span_at anmo_row ∷ []
one_span = refl

no_span : merged_spans_of blank_anmo (anmo_row ∷ []) ≡ []
no_span = refl

-- the names that are held
one_name : names_of broadband (anmo_row ∷ anmo_row ∷ []) ≡ anmo ∷ []
one_name = refl

-- rows put in together, one of them twice
together : with_rows [] (anmo_row ∷ anmo_row ∷ []) ≡ anmo_row ∷ []
together = refl
