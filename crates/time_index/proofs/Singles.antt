-- A selection without wildcards names one name alone.
use Rattle.std.proofs.Common.{◌≡◌, ℕ, true, false, ◌&&◌, nat_eq, List, [], ◌∷◌, Option, Some, None, refl, sym, ap, ◌∙◌, cond}
use Rattle.std.proofs.lemmas.Bool.{and_parts, and_from}
use Rattle.std.proofs.lemmas.Bool.Decides.{Decides-eqb}
use Rattle.std.proofs.lemmas.Slice.Eq.{slice_eq-Decides}
use Rattle.std.specs.List.{list_all}
use Rattle.std.specs.Cmp.Lexicographic.{pointwise}
use Rattle.channel_globs.specs.Matching.{is_match_any, is_plain, single_code}
use Rattle.channel_globs.specs.declared.nslc.Nslc.{Nslc}
use Rattle.channel_globs.proofs.Plain.{single_matches}
use Rattle.dataselect.specs.declared.query.Selection.{Selection}
use Rattle.dataselect.specs.Query.{is_named}
use Rattle.time_index.specs.Windows.{name_of_codes, single_name}

same_code : (xs ys : List ℕ) → pointwise nat_eq xs ys ≡ true → xs ≡ ys
same_code xs ys h = (slice_eq-Decides {E = nat_eq} Decides-eqb xs ys (pointwise nat_eq xs ys) refl).0 h

-- a list that matches one code alone matches no other
single_is : (items : List (List ℕ)) (code other : List ℕ) → single_code items ≡ Some code → is_match_any items other ≡ true → code ≡ other
single_is [] code other single matched = (cc)
single_is (x ∷ []) code other single matched =
    elim (list_all is_plain x) as (λ b. list_all is_plain x ≡ b → cond b (Some x) None ≡ Some code → code ≡ other) [
      | true ↦ λ plain same.
          let is : x ≡ code = (cc) in
          sym is ∙ same_code x other (sym (single_matches (x ∷ []) x other refl refl plain) ∙ matched)
      | false ↦ λ _ same. (cc)
    ] refl single
single_is (x ∷ y ∷ xs) code other single matched = (cc)

-- where there are four codes, they are those of the name
record AreCodes (a b c d : Option (List ℕ)) (name : Nslc) : Type 0 where
  network : a ≡ Some name.network
  station : b ≡ Some name.station
  location : c ≡ Some name.location
  channel : d ≡ Some name.channel

codes_of : (a b c d : Option (List ℕ)) (name : Nslc) → name_of_codes a b c d ≡ Some name → AreCodes a b c d name
codes_of None station location channel name h = (cc)
codes_of (Some a) None location channel name h = (cc)
codes_of (Some a) (Some b) None channel name h = (cc)
codes_of (Some a) (Some b) (Some c) None name h = (cc)
codes_of (Some a) (Some b) (Some c) (Some d) name h =
    let is : record { network = a; station = b; location = c; channel = d } ≡ name = (cc) in
    record {
      network = ap (λ (n : Nslc). Some n.network) is;
      station = ap (λ (n : Nslc). Some n.station) is;
      location = ap (λ (n : Nslc). Some n.location) is;
      channel = ap (λ (n : Nslc). Some n.channel) is;
    }

pub single_named : (s : Selection) (name other : Nslc) → single_name s ≡ Some name → is_named s other ≡ true → name ≡ other
single_named s name other single named =
    let codes = codes_of (single_code s.network) (single_code s.station) (single_code s.location) (single_code s.channel) name single in
    let three = and_parts (is_match_any s.network other.network && is_match_any s.station other.station && is_match_any s.location other.location) (is_match_any s.channel other.channel) named in
    let two = and_parts (is_match_any s.network other.network && is_match_any s.station other.station) (is_match_any s.location other.location) three.0 in
    let one = and_parts (is_match_any s.network other.network) (is_match_any s.station other.station) two.0 in
    λ i. record {
      network = single_is s.network name.network other.network codes.network one.0 i;
      station = single_is s.station name.station other.station codes.station one.1 i;
      location = single_is s.location name.location other.location codes.location two.1 i;
      channel = single_is s.channel name.channel other.channel codes.channel three.1 i;
    }

itself_matched : (items : List (List ℕ)) (code : List ℕ) → single_code items ≡ Some code → is_match_any items code ≡ true
itself_matched [] code single = (cc)
itself_matched (x ∷ []) code single =
    elim (list_all is_plain x) as (λ b. list_all is_plain x ≡ b → cond b (Some x) None ≡ Some code → is_match_any (x ∷ []) code ≡ true) [
      | true ↦ λ plain same.
          let is : x ≡ code = (cc) in
          single_matches (x ∷ []) x code refl refl plain ∙ (slice_eq-Decides {E = nat_eq} Decides-eqb x code (pointwise nat_eq x code) refl).1 is
      | false ↦ λ _ same. (cc)
    ] refl single
itself_matched (x ∷ y ∷ xs) code single = (cc)

-- and it does name that one
pub names_its_name : (s : Selection) (name : Nslc) → single_name s ≡ Some name → is_named s name ≡ true
names_its_name s name single =
    let codes = codes_of (single_code s.network) (single_code s.station) (single_code s.location) (single_code s.channel) name single in
    and_from (is_match_any s.network name.network && is_match_any s.station name.station && is_match_any s.location name.location) (is_match_any s.channel name.channel)
    (and_from (is_match_any s.network name.network && is_match_any s.station name.station) (is_match_any s.location name.location)
    (and_from (is_match_any s.network name.network) (is_match_any s.station name.station) (itself_matched s.network name.network codes.network) (itself_matched s.station name.station codes.station))
    (itself_matched s.location name.location codes.location))
    (itself_matched s.channel name.channel codes.channel)
