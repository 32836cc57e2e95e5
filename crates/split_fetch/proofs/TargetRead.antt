-- What a target asks for, as its query string is read.
use Rattle.std.proofs.Common.{◌≡◌, ℕ, ℤ, take, suc, ◌<◌, ◌≤◌, Bool, true, false, ◌||◌, ◌==◌, List, [], ◌∷◌, ◌++◌, map, length, codes, All, Some, None, Ok, refl, sym, ap, ap₂, ◌∙◌, subst, arith}
use Rattle.std.specs.Prelude.{nat_lt}
use Rattle.std.specs.List.{list_any, list_all, AllByRecursion}
use Rattle.std.specs.Str.{IsAscii}
use Rattle.std.specs.Str.Lossy.{utf8_lossy}
use Rattle.std.proofs.lemmas.Bool.{ne_eqb, and_parts}
use Rattle.std.proofs.lemmas.Bool.Decides.{nat_tests}
use Rattle.std.proofs.lemmas.List.Elements.{All-weaker, All-from_recursion}
use Rattle.std.proofs.lemmas.Str.{IsUtf8-from_ascii, chars-IsAscii, utf8_lossy-IsUtf8}
use Rattle.std.proofs.lemmas.Str.Ascii.{IsAscii-nil, IsAscii-cons, All-from_ascii}
use Rattle.form_urlencoded.specs.Form.{raw_pairs, decode, extend_pairs}
use Rattle.form_urlencoded.proofs.FormLemmas.{IsBytePair, round_trip}
use Rattle.exact_time.specs.Decimals.{Unsigned}
use Rattle.exact_time.specs.Written.{IsNameable, moment_text}
use Rattle.channel_globs.specs.PatternText.{IsPatternList}
use Rattle.channel_globs.specs.declared.nslc.Part.{Part}
use Rattle.channel_globs.specs.declared.nslc.Part.TheVariants.{Network, Station, Location, Channel}
use Rattle.dataselect.specs.declared.query.Selection.{Selection}
use Rattle.query_parameters.specs.FirstRefusals.{AreTaken}
use Rattle.query_parameters.specs.Gets.{AreCodes, AreLimits}
use Rattle.query_parameters.specs.Parameters.{decoded, pairs_of, Parameter, parameter, given, numbered_from, parameters_of, TakesParameter}
use Rattle.query_parameters.specs.Rows.{Text, place_of_name, kind_of}
use Rattle.query_parameters.specs.Values.{is_garbled, IsMinimum, Reads}
use Rattle.query_parameters.specs.declared.rows.ValueKind.TheVariants.{Patterns, Time}
use Rattle.query_words.specs.DataGet.{AreOptions, IsDataGet, IsGetFault}
use Rattle.query_words.specs.Tables.{data_names}
use Rattle.query_words.proofs.OneDataGet.{only_read}
use Rattle.list_laws.specs.Only.{IsOnly}
use Rattle.split_fetch.specs.Targets.{code_pairs, time_pairs, target_bytes, query_in, AreSpelt, CanBeAsked, window_query}
use Rattle.split_fetch.specs.Windows.{selection_in}
use Rattle.split_fetch.specs.declared.asked.Codes.{Codes}
use Rattle.split_fetch.specs.declared.window.Window.{Window}
use Rattle.split_fetch.proofs.MomentDays.{written_ascii, written_reads}
use Rattle.split_fetch.proofs.PatternBytes.{list_ascii}

-- the query string stands behind the first question mark
pub query_is : (c : Codes) (w : Window) → query_in (target_bytes c w) ≡ extend_pairs [] (code_pairs c ++ time_pairs w)
query_is c w = refl

-- ASCII text is read as it stands
none_garbled : (text : List ℕ) → IsAscii text → list_any (λ c. c == 0xFFFD) text ≡ false
none_garbled [] low = refl
none_garbled (c ∷ cs) low =
    let first : c < 128 = low 0 in
    ap₂ (λ (a b : Bool). a || b) (ne_eqb c 0xFFFD (λ e. omega (arith, first, e))) (none_garbled cs (λ i. low (suc i)))

plain : (text : List ℕ) → IsAscii text → is_garbled text ≡ false
plain text low = ap (λ (cs : List ℕ). list_any (λ c. c == 0xFFFD) cs) (chars-IsAscii text low) ∙ none_garbled text low

abbrev IsAsciiPair : Text × Text → Type 0
IsAsciiPair pair = IsAscii pair.0 × IsAscii pair.1

bytes : (text : List ℕ) → IsAscii text → All (λ b. b < 256) text
bytes text low = All-weaker (λ b. b < 128) (λ b. b < 256) (λ b h. omega (arith, h)) text (All-from_ascii text low)

byte_pairs : (pairs : List (Text × Text)) → AllByRecursion IsAsciiPair pairs → AllByRecursion IsBytePair pairs
byte_pairs [] low = tt
byte_pairs (p ∷ pairs) low = ((bytes p.0 low.0.0, bytes p.1 low.0.1), byte_pairs pairs low.1)

abbrev as_text : Text × Text → Text × Text
as_text pair = (utf8_lossy pair.0, utf8_lossy pair.1)

same_texts : (pairs : List (Text × Text)) → AllByRecursion IsAsciiPair pairs → map as_text pairs ≡ pairs
same_texts [] low = refl
same_texts (p ∷ pairs) low =
    let name = utf8_lossy-IsUtf8 p.0 (IsUtf8-from_ascii p.0 low.0.0) in
    let value = utf8_lossy-IsUtf8 p.1 (IsUtf8-from_ascii p.1 low.0.1) in
    λ i. (name i, value i) ∷ same_texts pairs low.1 i

each_decoded : (raw : List (Text × Text)) → map decoded raw ≡ map as_text (map (λ (name, value). (decode name, decode value)) raw)
each_decoded [] = refl
each_decoded (p ∷ raw) = ap (λ (l : List (Text × Text)). decoded p ∷ l) (each_decoded raw)

-- ASCII names and values that are written are read again
pub pairs_read : (pairs : List (Text × Text)) → AllByRecursion IsAsciiPair pairs → pairs_of (extend_pairs [] pairs) ≡ pairs
pairs_read pairs low =
    each_decoded (raw_pairs (extend_pairs [] pairs))
    ∙ ap (map as_text) (round_trip pairs (All-from_recursion IsBytePair pairs (byte_pairs pairs low)))
    ∙ same_texts pairs low

default_minimum : IsMinimum (codes "0") 0
default_minimum = record {
  decimal = record {
    sign = Unsigned;
    whole = codes "0";
    decimals = [];
    form = record { text_is = refl; some = omega arith; whole_digits = refl; decimal_digits = refl; few = omega arith };
    short = omega arith;
    value = refl;
  };
  small = omega arith;
}

name_low : (name : List ℕ) → list_all (λ c. nat_lt c 128) name ≡ true → IsAscii name
name_low [] h = IsAscii-nil
name_low (c ∷ cs) h =
    let parts = and_parts (nat_lt c 128) (list_all (λ b. nat_lt b 128) cs) h in
    IsAscii-cons c cs (low c parts.0) (name_low cs parts.1)
  where
    low : (c : ℕ) → nat_lt c 128 ≡ true → c < 128
    low c e = grind (arith, nat_tests)

-- a name that is new, with a value of its kind, is taken
takes : (before : List Parameter) (p : Parameter) (row : ℕ) → place_of_name data_names p.name ≡ Some row
    → given data_names row before ≡ None → Reads (kind_of data_names row) p.value → TakesParameter data_names before p
takes before p row names free reads = record { row = row; is_new = record { names = names; free = free }; reads = reads }

list_read : (part : Part) (text : Text) (patterns : List (List ℕ)) → IsPatternList part text patterns → Reads (Patterns part) text
list_read part text patterns is = record { plain = plain text (list_ascii part text patterns is); can = (patterns, is) }

time_read : (micros : ℤ) → IsNameable micros → Reads Time (moment_text micros)
time_read micros h = record { plain = plain (moment_text micros) (written_ascii micros h); can = (micros, written_reads micros h) }

module _ (c : Codes) (w : Window) (s : Selection) (spelt : AreSpelt c s) (can : CanBeAsked w) where
  abbrev pairs : List (Text × Text)
  pairs = code_pairs c ++ time_pairs w

  all_low : AllByRecursion IsAsciiPair pairs
  all_low =
      let network : IsAsciiPair (codes "net", c.network) =
      (name_low (codes "net") refl, list_ascii Network c.network s.network spelt.network_is) in
      let station : IsAsciiPair (codes "sta", c.station) =
      (name_low (codes "sta") refl, list_ascii Station c.station s.station spelt.station_is) in
      let location : IsAsciiPair (codes "loc", c.location) =
      (name_low (codes "loc") refl, list_ascii Location c.location s.location spelt.location_is) in
      let channel : IsAsciiPair (codes "cha", c.channel) =
      (name_low (codes "cha") refl, list_ascii Channel c.channel s.channel spelt.channel_is) in
      let start : IsAsciiPair (codes "start", moment_text w.start.micros) =
      (name_low (codes "start") refl, written_ascii w.start.micros can.start) in
      let end : IsAsciiPair (codes "end", moment_text w.end.micros) = (name_low (codes "end") refl, written_ascii w.end.micros can.end) in
      (network, (station, (location, (channel, (start, (end, tt))))))

  are_read : pairs_of (extend_pairs [] pairs) ≡ pairs
  are_read = pairs_read pairs all_low

  abbrev before : ℕ → List Parameter
  before n = numbered_from 1 (take n pairs)

  taken : AreTaken (TakesParameter data_names) [] (numbered_from 1 pairs)
  taken =
      let network = takes (before 0) (parameter 1 (codes "net", c.network)) 2 refl refl
      (list_read Network c.network s.network spelt.network_is) in
      let station = takes (before 1) (parameter 2 (codes "sta", c.station)) 3 refl refl
      (list_read Station c.station s.station spelt.station_is) in
      let location = takes (before 2) (parameter 3 (codes "loc", c.location)) 4 refl refl
      (list_read Location c.location s.location spelt.location_is) in
      let channel = takes (before 3) (parameter 4 (codes "cha", c.channel)) 5 refl refl
      (list_read Channel c.channel s.channel spelt.channel_is) in
      let start = takes (before 4) (parameter 5 (codes "start", moment_text w.start.micros)) 0 refl refl
      (time_read w.start.micros can.start) in
      let end = takes (before 5) (parameter 6 (codes "end", moment_text w.end.micros)) 1 refl refl (time_read w.end.micros can.end) in
      (network, (station, (location, (channel, (start, (end, tt))))))

  codes_said : AreCodes data_names (numbered_from 1 pairs) (selection_in w s)
  codes_said = record {
    network_is = spelt.network_is;
    station_is = spelt.station_is;
    location_is = spelt.location_is;
    channel_is = spelt.channel_is;
  }

  limits_said : AreLimits data_names (numbered_from 1 pairs) (Some w.start) (Some w.end)
  limits_said = record {
    start_is = (w.start, refl, written_reads w.start.micros can.start);
    end_is = (w.end, refl, written_reads w.end.micros can.end);
  }

  options_said : AreOptions data_names (numbered_from 1 pairs) (window_query s w)
  options_said = record { nodata_is = refl; quality_is = refl; minimum_is = default_minimum; longest_is = refl }

  abbrev OfPairs : (List Parameter → Type 0) → List (Text × Text) → Type 0
  OfPairs P read = P (numbered_from 1 read)

  -- what holds of the parameters that were written holds of those that are read
  of_read : (P : List Parameter → Type 0) → P (numbered_from 1 pairs) → P (parameters_of (extend_pairs [] pairs))
  of_read P h = subst (OfPairs P) (sym are_read) h

  few : length (pairs_of (extend_pairs [] pairs)) ≤ 1000
  few = subst (λ (read : List (Text × Text)). length read ≤ 1000) (sym are_read) (omega arith)

  form_reads : IsDataGet (extend_pairs [] pairs) (window_query s w)
  form_reads = record {
    right = record { few = few; taken = of_read (AreTaken (TakesParameter data_names) []) taken };
    selection = selection_in w s;
    only = refl;
    names = of_read (λ ps. AreCodes data_names ps (selection_in w s)) codes_said;
    window = of_read (λ ps. AreLimits data_names ps (Some w.start) (Some w.end)) limits_said;
    in_time = can.forward;
    options = of_read (λ ps. AreOptions data_names ps (window_query s w)) options_said;
  }

  pub target_reads : IsOnly (IsDataGet (query_in (target_bytes c w))) (IsGetFault (query_in (target_bytes c w))) (Ok (window_query s w))
  target_reads =
      only_read (query_in (target_bytes c w)) (window_query s w)
      (subst (λ (query : Text). IsDataGet query (window_query s w)) (sym (query_is c w)) form_reads)
