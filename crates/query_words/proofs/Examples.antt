-- Worked examples of the definitions.
use Rattle.std.proofs.Common.{◌≡◌, true, false, [], ◌∷◌, ◌++◌, Some, None, refl, codes, arith}
use Rattle.form_urlencoded.proofs.OnLiterals.{form_urlencoded_on_literals}
use Rattle.form_urlencoded.specs.Form.{parse}
use Rattle.mseed_header.specs.declared.quality.Quality.TheVariants.{M}
use Rattle.dataselect.specs.declared.query.Nodata.TheVariants.{NotFound}
use Rattle.exact_time.specs.Decimals.{Unsigned}
use Rattle.query_parameters.specs.declared.fault.QueryFault.TheVariants.{Unknown, Repeated}
use Rattle.query_parameters.specs.declared.rows.ValueKind.TheVariants.{Level, Seconds}
use Rattle.query_parameters.specs.Bodies.{numbered, is_blank_line, lines_of, parameter_lines, selection_lines, parameter_of, selection_fields, limit_text}
use Rattle.query_parameters.specs.Gets.{said, said_or}
use Rattle.query_parameters.specs.Parameters.{parameter, numbered_from, RefusesParameter}
use Rattle.query_parameters.specs.Rows.{Text, place_of_name, kind_of}
use Rattle.query_words.specs.Tables.{data_names, data_options, station_names}
use Rattle.query_parameters.specs.Values.{quality_of, nodata_of, flag_of, IsMinimum, IsLeftOut}

-- a name and its alias are one name, whatever their case
network : place_of_name data_names (codes "NetWork") ≡ place_of_name data_names (codes "net")
network = refl

no_name : place_of_name data_names (codes "foo") ≡ None
no_name = refl

-- a body has no names for codes
no_codes : place_of_name data_options (codes "network") ≡ None
no_codes = refl

seconds : kind_of data_names 8 ≡ Seconds
seconds = refl

any_quality : quality_of (codes "B") ≡ Some None
any_quality = refl

one_quality : quality_of (codes "M") ≡ Some (Some M)
one_quality = refl

no_quality : quality_of (codes "b") ≡ None
no_quality = refl

not_found : nodata_of (codes "404") ≡ Some NotFound
not_found = refl

longest : flag_of (codes "TRUE") ≡ Some true
longest = refl

shortest : flag_of (codes "0") ≡ Some false
shortest = refl

half_second : IsMinimum (codes "0.5") 500_000
half_second = record {
  decimal = record {
    sign = Unsigned;
    whole = codes "0";
    decimals = codes "5";
    form = record { text_is = refl; some = omega arith; whole_digits = refl; decimal_digits = refl; few = omega arith };
    short = omega arith;
    value = refl;
  };
  small = omega arith;
}

-- the pairs of a query string, before their names and values are texts: a `+` and an escape are decoded
escaped : parse (codes "cha=BH%3F&&sta=A+B&x") ≡ (codes "cha", codes "BH?") ∷ (codes "sta", codes "A B") ∷ (codes "x", []) ∷ []
unfolding form_urlencoded_on_literals
escaped = refl

-- of two parameters of one name the first is what is said, and the second is repeated
first_said : said data_names (codes "network") (numbered_from 1 ((codes "net", codes "IU") ∷ (codes "sta", codes "ANMO") ∷ [])) ≡ Some (codes "IU")
first_said = refl

default_said : said_or (codes "*") data_names (codes "channel") (numbered_from 1 ((codes "net", codes "IU") ∷ [])) ≡ codes "*"
default_said = refl

repeated : RefusesParameter data_names (numbered_from 1 ((codes "net", codes "IU") ∷ [])) (parameter 2 (codes "network", codes "IU")) (Repeated 2)
repeated = (refl, record { row = 2; names = refl; earlier = codes "IU"; taken = refl })

unknown : RefusesParameter data_names [] (parameter 1 (codes "foo", codes "1")) (Unknown 1)
unknown = (refl, refl)

blank : is_blank_line (32 ∷ 9 ∷ []) ≡ true
blank = refl

-- a blank line has a number, and isn't among the lines; one CR before a line feed is dropped
body : Text
body = codes "quality=B" ++ 13 ∷ 10 ∷ 10 ∷ codes "IU ANMO 00 BHZ * *"

body_lines : lines_of body ≡ numbered 1 (codes "quality=B") ∷ numbered 3 (codes "IU ANMO 00 BHZ * *") ∷ []
unfolding body
body_lines = refl

parameter_line : parameter_lines body ≡ numbered 1 (codes "quality=B") ∷ []
unfolding body
parameter_line = refl

selection_line : selection_lines body ≡ numbered 3 (codes "IU ANMO 00 BHZ * *") ∷ []
unfolding body
selection_line = refl

spaced : parameter_of (numbered 4 (codes " nodata = 404 ")) ≡ parameter 4 (codes "nodata", codes "404")
spaced = refl

six : selection_fields (codes " IU  ANMO 00 BH? 2024-02-01 * ") ≡ codes "IU" ∷ codes "ANMO" ∷ codes "00" ∷ codes "BH?" ∷ codes "2024-02-01" ∷ codes "*" ∷ []
six = refl

no_limit : limit_text (codes "*") ≡ None
no_limit = refl

-- the names of station: one of them has an alias, one value is left out, and so is one name with every value
least_latitude : place_of_name station_names (codes "MinLat") ≡ Some 11
least_latitude = refl

response : IsLeftOut Level (codes "response")
response = refl

radius : IsLeftOut (kind_of station_names 22) (codes "1")
radius = tt
