-- Worked examples of the definitions.
use Rattle.std.proofs.Common.{◌≡◌, false, refl, sym, subst, codes, [], ◌∷◌, ◌++◌, List, None, Some, pos, arith, Ok, Err, Result, inl, inr, ℕ}
use Rattle.std.proofs.lemmas.Int.{ints}
use Rattle.exact_time.proofs.Examples.{new_year, next_year}
use Rattle.exact_time.specs.Decimals.{Unsigned}
use Rattle.exact_time.specs.MomentText.{IsMoment}
use Rattle.exact_time.specs.declared.moment.Moment.{Moment}
use Rattle.channel_globs.proofs.OneList.{no_list}
use Rattle.channel_globs.specs.declared.nslc.Part.TheVariants.{Station}
use Rattle.channel_globs.specs.declared.patterns.GlobFault.TheVariants.{Character}
use Rattle.mseed_header.proofs.Batches.{some_left}
use Rattle.mseed_header.proofs.Examples.{anmo_image, anmo_row, row, second}
use Rattle.mseed_header.specs.declared.header.RecordFault.TheVariants.{Short}
use Rattle.dataselect.specs.declared.query.Nodata.TheVariants.{Quiet}
use Rattle.dataselect.specs.declared.query.DataQuery.{DataQuery}
use Rattle.dataselect.specs.declared.query.Selection.{Selection}
use Rattle.dataselect.specs.Query.{is_selected, is_asked}
use Rattle.dataselect.specs.Segments.{segment_length}
use Rattle.centre_select.specs.Answers.{IsBodyOf, IsSelectAnswer, RefusesInput}
use Rattle.centre_select.specs.Status.{Tells}
use Rattle.centre_select.specs.Table.{Streams, IsSelected}
use Rattle.centre_select.specs.declared.ending.SelectRefusal.TheVariants as select_refusal
use Rattle.centre.specs.Answers.{IsAnswer}
use Rattle.command_words.specs.Commands.{SelectWords, InitWords, select, init, show}
use Rattle.http_digest.specs.declared.secret.Secret.{Secret}
use Rattle.centre.specs.Given.{World, Given}
use Rattle.centre.specs.Settled.{EndsAs, IsSettled, ComesWhere, HasWritten}
use Rattle.centre.specs.Status.{status_of, error_text_of}
use Rattle.streams.specs.View.{StreamView}
use Rattle.centre.specs.Table.{IsRun}
use Rattle.disk_model.specs.View.{DiskView}
use Rattle.disk_model.specs.Untold.{untold_view}
use Rattle.centre_select.specs.Had.{Had}
use Rattle.centre_select.specs.Words.{AreSelectOptions, IsSelectQuery, RefusesSelectWords, time_words, option_words}
use Rattle.centre_select.proofs.OneQuery.{all_read}
use Rattle.command_words.specs.declared.name.Shown.TheVariants.{Version}
use Rattle.centre_select.specs.declared.ending.Word.TheVariants.{Network as NetworkWord, Station as StationWord, Location as LocationWord, Channel as ChannelWord}
use Rattle.centre.specs.declared.ending.Refusal.{Refusal}
use Rattle.centre.specs.declared.ending.Refusal.TheVariants.{UnknownCommand, Order, NotEmpty, Lost}
use Rattle.centre.specs.declared.ending.Stop.TheVariants.{Refused, ReadFault}

out_of_order : status_of (Refused Order) ≡ 2
out_of_order = refl

lost : (status_of (Refused Lost) ≡ 15) × (error_text_of (Refused Lost) ≡ codes "centre: connection lost\n")
lost = (refl, refl)

-- what `init` is asked for
abbrev op_words : InitWords
op_words = record { journal = codes "a.journal"; operator = codes "op"; ha1 = codes "939e7578ed9e3c518a452acee763bce9" }

-- it makes an archive in an empty file alone
made : IsAnswer (Some (init op_words)) (record { input = anmo_image; file = []; heard = [] }) (Ok [])
made = inl (refl, refl)

not_made : IsAnswer (Some (init op_words)) (record { input = []; file = codes "abc"; heard = [] }) (Err NotEmpty)
not_made = inr (λ e. cc, refl)

version_asked : IsAnswer (Some (show Version)) (record { input = []; file = []; heard = [] }) (Ok (codes "velkatsa 0.1.0\n"))
version_asked = refl

-- what `select` is asked for
abbrev six_words : SelectWords
six_words = record {
  network = codes "IU";
  station = codes "AN*";
  location = codes ",00";
  channel = codes "BH?";
  start = codes "2024-01-01";
  end = codes "2024-01-01";
  quality = codes "B";
  minimum = codes "0";
  longest = codes "false";
  limit = 67_108_864;
}

-- the query of some words
any_options : (w : SelectWords) → w.quality ≡ codes "B" → w.minimum ≡ codes "0" → w.longest ≡ codes "false" → AreSelectOptions w None 0 false
any_options w quality minimum longest = record {
  quality_is = rw quality refl;
  minimum_is = rw minimum (record {
    decimal = record {
      sign = Unsigned;
      whole = codes "0";
      decimals = [];
      form = record { text_is = refl; some = omega arith; whole_digits = refl; decimal_digits = refl; few = omega arith };
      short = omega arith;
      value = refl;
    };
    small = omega arith;
  });
  longest_is = rw longest refl;
}

new_year_day : IsMoment (codes "2024-01-01") (pos 1_704_067_200_000_000)
new_year_day = (
  record { year = 2024; month = 1; day = 1; hour = 0; minute = 0; second = 0; micros = 0 },
  record {
    date = record { year_in = omega arith; month_in = omega arith; day_in = omega arith; text_is = refl };
    time = (refl, refl, refl, refl);
  },
  record {
    date = record { year_in = (omega arith, omega arith); month_in = (omega arith, omega arith); day_in = (omega arith, omega arith) };
    hour = omega arith;
    minute = omega arith;
    second = omega arith;
  },
  rw new_year refl,
)

abbrev day : Moment
day = record { micros = pos 1_704_067_200_000_000 }

abbrev broadband : Selection
broadband = record {
  network = codes "IU" ∷ [];
  station = codes "AN*" ∷ [];
  location = codes "  " ∷ codes "00" ∷ [];
  channel = codes "BH?" ∷ [];
  start = Some day;
  end = Some day;
}

asked : IsSelectQuery six_words
    (record { selections = broadband ∷ []; quality = None; minimum = 0; longest = false; nodata = Quiet })
asked = record {
  selection = broadband;
  named = record {
    network_is = record { few = omega arith; each = refl };
    station_is = record { few = omega arith; each = refl };
    location_is = record { few = omega arith; each = refl };
    channel_is = record { few = omega arith; each = refl };
  };
  window = record { from = day; to = day; start_is = refl; end_is = refl; from_is = new_year_day; to_is = new_year_day; order = omega (arith, ints) };
  only = refl;
  options = any_options _ refl refl refl;
  nodata = refl;
}

read_fault : error_text_of ReadFault ≡ codes "centre: read fault\n"
read_fault = refl

had : Had (Some (codes "IU")) (codes "IU")
had = refl

-- the body of one record for the query of some words
abbrev new_year_2025 : Moment
new_year_2025 = record { micros = pos 1_735_689_600_000_000 }

next_year_day : IsMoment (codes "2025-01-01") (pos 1_735_689_600_000_000)
next_year_day = (
  record { year = 2025; month = 1; day = 1; hour = 0; minute = 0; second = 0; micros = 0 },
  record {
    date = record { year_in = omega arith; month_in = omega arith; day_in = omega arith; text_is = refl };
    time = (refl, refl, refl, refl);
  },
  record {
    date = record { year_in = (omega arith, omega arith); month_in = (omega arith, omega arith); day_in = (omega arith, omega arith) };
    hour = omega arith;
    minute = omega arith;
    second = omega arith;
  },
  rw next_year refl,
)

abbrev all_year : DataQuery
all_year = record { selections = record broadband { end = Some new_year_2025 } ∷ []; quality = None; minimum = 0; longest = false; nodata = Quiet }

abbrev words : SelectWords
words = record six_words { end = codes "2025-01-01" }

asked_all : IsSelectQuery words all_year
asked_all = record {
  selection = record broadband { end = Some new_year_2025 };
  named = record {
    network_is = record { few = omega arith; each = refl };
    station_is = record { few = omega arith; each = refl };
    location_is = record { few = omega arith; each = refl };
    channel_is = record { few = omega arith; each = refl };
  };
  window = record { from = day; to = new_year_2025; start_is = refl; end_is = refl; from_is = new_year_day; to_is = next_year_day; order = omega (arith, ints) };
  only = refl;
  options = any_options _ refl refl refl;
  nodata = refl;
}

-- the first word that can't be read, and times in the wrong order
bad_station : RefusesSelectWords (record six_words { station = codes "A-N" }) (select_refusal.Value StationWord)
bad_station = record {
  before = NetworkWord ∷ [];
  after = LocationWord ∷ ChannelWord ∷ time_words ++ option_words;
  split = refl;
  all = ((codes "IU" ∷ [], record { few = omega arith; each = refl }), tt);
  lacks = λ h.
      no_list Station (codes "A-N") h.0 Character h.1
      (omega arith, record { before = []; here = codes "A-N"; after = []; split = refl; values = []; clean = refl; refused = refl });
}

backwards : RefusesSelectWords (record six_words { start = codes "2025-01-01" }) select_refusal.Order
backwards = record {
  all = all_read (record six_words { start = codes "2025-01-01" }) broadband new_year_2025 day None 0 false
      (record {
        network_is = record { few = omega arith; each = refl };
        station_is = record { few = omega arith; each = refl };
        location_is = record { few = omega arith; each = refl };
        channel_is = record { few = omega arith; each = refl };
      }) next_year_day new_year_day (any_options _ refl refl refl);
  from = pos 1_735_689_600_000_000;
  to = pos 1_704_067_200_000_000;
  from_is = next_year_day;
  to_is = new_year_day;
  order = omega (arith, ints);
}

body : IsBodyOf all_year 67_108_864 anmo_image anmo_image
unfolding is_selected is_asked segment_length
body = record { within = omega arith; rows = anmo_row ∷ []; records = row; some = some_left (0 ∷ []) refl; body_is = refl; fits = omega arith }

refused : RefusesInput all_year 67_108_864 (anmo_image ++ codes "000002") (select_refusal.Record 512 Short)
refused = record { within = omega arith; first = second }

abbrev anmo_given : Given
anmo_given = record { input = anmo_image; file = []; heard = [] }

chosen : IsSelectAnswer words anmo_image (Ok anmo_image)
chosen = (all_year, asked_all, body)

answer : IsAnswer (Some (select words)) anmo_given (Ok anmo_image)
answer = record { own = Ok anmo_image; is = chosen; same = refl }

-- a run that wrote it, and one that told why it didn't begin
abbrev no_disk : Unit {0} → DiskView
no_disk disk = untold_view 0

abbrev streams_before : Streams
streams_before = record {
  source = record { left = Some anmo_image; written = None; faults = 0 };
  sink = record { left = None; written = Some []; faults = 0 };
}

abbrev before : World (Unit {0})
before = record { streams = streams_before; disk = tt; given = None; trail = None; ports = [] }

abbrev streams_after : Streams
streams_after = record {
  source = record { left = Some []; written = None; faults = 0 };
  sink = record { left = None; written = Some anmo_image; faults = 0 };
}

abbrev after : World (Unit {0})
after = record { streams = streams_after; disk = tt; given = None; trail = None; ports = [] }

selected : IsSelected words streams_before streams_after
selected = record { input = anmo_image; body = anmo_image; had = refl; answer = chosen; end = refl; output = refl }

written : HasWritten no_disk (Some (select words)) before after
written = record { given = anmo_given; body = anmo_image; had = refl; answer = answer; output = refl }

abbrev silent : StreamView
silent = record { left = None; written = Some []; faults = 0 }

abbrev told : StreamView
told = record { left = None; written = Some (codes "centre: unknown command line\n"); faults = 0 }

told_unknown : Tells silent told (codes "centre: unknown command line\n")
told_unknown = record { part = record { part = codes "centre: unknown command line\n"; rest = []; split = refl; output = refl }; whole = inl refl }

run : (secret : Secret) → IsRun no_disk secret None before before silent told 1
run secret = record { ending = Err (Refused UnknownCommand); row = inr (refl, refl); status_is = refl; text = told_unknown }

-- what words that are no command determine, whatever the input
ends : EndsAs (Err UnknownCommand) silent told 1
ends = record { status_is = refl; text = told_unknown }

settled : IsSettled None anmo_given silent told 1
settled = λ answer is. inr (subst (λ (a : Result (List ℕ) Refusal). EndsAs a silent told 1) (sym is) ends)

-- a status that comes exactly where its cause holds
unknown_comes : ComesWhere 1 1 (IsAnswer None anmo_given (Err UnknownCommand))
unknown_comes = record { only = λ e. refl; always = λ cause. inr refl }
