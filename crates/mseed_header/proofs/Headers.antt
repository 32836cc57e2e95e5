-- Bytes begin with the record of one header at most; they have that header or one fault.
use Rattle.std.proofs.Common.{◌≡◌, ℕ, ◌==◌, ◌≤◌, List, length, Bool, true, false, Some, Result, Ok, Err, MatchResult, refl, sym, ap, ◌∙◌, subst, arith, inl, inr, ℤ, pos}
use Rattle.std.specs.Prelude.{IsErrOf, slice_index, ◌↔◌}
use Rattle.std.proofs.lemmas.Bool.Decides.{nat_tests}
use Rattle.list_laws.specs.Only.{IsOnly}
use Rattle.list_laws.proofs.Answers.{only_from}
use Rattle.channel_globs.specs.declared.nslc.Nslc.{Nslc}
use Rattle.exact_time.specs.declared.ratio.Ratio.{Ratio}
use Rattle.exact_time.proofs.Rates.{one_rate}
use Rattle.mseed_header.proofs.Chains.{one_chain_fault, no_chain_fault}
use Rattle.mseed_header.proofs.Fronts.{size_bounds}
use Rattle.mseed_header.proofs.Qualities.{letters_apart}
use Rattle.mseed_header.proofs.Steps.{IsOne, IsNone, one_step, none_step, one_unless, none_unless, one_of_none, none_of_none}
use Rattle.exact_time.specs.BTime.{IsBTime}
use Rattle.mseed_header.specs.Blockettes.{HasChain, EndWithin, offsets_of, record_size}
use Rattle.mseed_header.specs.Fields.{i16_at, time_at}
use Rattle.mseed_header.specs.Header.{IsYear, IsName, IsRate, EndsInTime, HasHeader, HasSize, HoldsBlockettes, IsWhole, IsInTime, RefusesBody, RefusesFields, RefusesRecord, little_of, start_micros, samples_of}
use Rattle.mseed_header.specs.Quality.{quality_letter}
use Rattle.mseed_header.specs.declared.header.Header.{Header}
use Rattle.mseed_header.specs.declared.header.RecordFault.{RecordFault}
use Rattle.mseed_header.specs.declared.header.RecordFault.TheVariants.{Short, Year, Time, Quality, Code, Chain, NoBlockette1000, Reach}
use Rattle.mseed_header.specs.declared.quality.Quality as letter

-- each code is a function of its field
one_name : (bytes : List ℕ) (n m : Nslc) → IsName bytes n → IsName bytes m → n ≡ m
one_name bytes n m h k =
    let network : n.network ≡ m.network = h.network.code_is ∙ sym k.network.code_is in
    let station : n.station ≡ m.station = h.station.code_is ∙ sym k.station.code_is in
    let location : n.location ≡ m.location = h.location.code_is ∙ sym k.location.code_is in
    let channel : n.channel ≡ m.channel = h.channel.code_is ∙ sym k.channel.code_is in
    λ i. record { network = network i; station = station i; location = location i; channel = channel i }

-- a record has one rate
rate_once : (little : Bool) (bytes : List ℕ) (r s : Ratio) (still : Bool) → samples_of little bytes == 0 ≡ still → IsRate little bytes r → IsRate little bytes s → r ≡ s
rate_once little bytes r s true e h k = one_rate (pos 0) (pos 0) r s (rw e at h) (rw e at k)
rate_once little bytes r s false e h k = one_rate (i16_at little bytes 32) (i16_at little bytes 34) r s (rw e at h) (rw e at k)

pub same_rate : (little : Bool) (bytes : List ℕ) (r s : Ratio) → IsRate little bytes r → IsRate little bytes s → r ≡ s
same_rate little bytes r s h k = rate_once little bytes r s (samples_of little bytes == 0) refl h k

-- no year is 1900 to 2055 both ways
one_order : (bytes : List ℕ) → IsYear false bytes → IsYear true bytes → ⊥
one_order bytes big little = omega (arith, big, little)

same_order : (bytes : List ℕ) (a b : Bool) → IsYear a bytes → IsYear b bytes → a ≡ b
same_order bytes false false h k = refl
same_order bytes false true h k = absurd (one_order bytes h k)
same_order bytes true false h k = absurd (one_order bytes k h)
same_order bytes true true h k = refl

-- so the byte order of a year is that of the bytes
pub the_order : (bytes : List ℕ) (little : Bool) → IsYear little bytes → little ≡ little_of bytes
the_order bytes false h = grind (arith, nat_tests)
the_order bytes true h =
    let other : IsYear false bytes → ⊥ = λ k. one_order bytes k h in
    grind (arith, nat_tests)

-- bytes begin with the record of one header
same_fields : (bytes : List ℕ) (h g : Header) → h.little ≡ g.little → HasHeader bytes h → HasHeader bytes g → h ≡ g
same_fields bytes h g little is also =
    let name : h.name ≡ g.name = one_name bytes h.name g.name is.name also.name in
    let quality : h.quality ≡ g.quality = letters_apart h.quality g.quality (is.quality ∙ sym also.quality) in
    let micros : h.start.micros ≡ g.start.micros = is.start ∙ ap (λ (b : Bool). start_micros b bytes) little ∙ sym also.start in
    let samples : h.samples ≡ g.samples = is.samples ∙ ap (λ (b : Bool). samples_of b bytes) little ∙ sym also.samples in
    let rate : h.rate ≡ g.rate = same_rate g.little bytes h.rate g.rate (subst (λ (b : Bool). IsRate b bytes h.rate) little is.rate) also.rate in
    let sizes : Some h.length ≡ Some g.length = sym is.size ∙ ap (λ (b : Bool). record_size b bytes (offsets_of b bytes)) little ∙ also.size in
    let size : h.length ≡ g.length = (cc) in
    λ i. record { name = name i; quality = quality i; start = record { micros = micros i }; samples = samples i; rate = rate i; length = size i; little = little i }

pub one_header : (bytes : List ℕ) (h g : Header) → HasHeader bytes h → HasHeader bytes g → h ≡ g
one_header bytes h g is also = same_fields bytes h g (same_order bytes h.little g.little is.year also.year) is also

-- they are refused for one reason
one_in_body : (little : Bool) (bytes : List ℕ) → IsOne (RefusesBody little bytes)
one_in_body little bytes =
    one_step _ _ _ (one_chain_fault little bytes) (no_chain_fault little bytes) (one_unless _ NoBlockette1000 _ (one_unless _ Chain _ (one_unless _ Short _ (one_unless _ Reach _ one_of_none))))

one_in_fields : (little : Bool) (bytes : List ℕ) → IsOne (RefusesFields little bytes)
one_in_fields little bytes = one_unless _ Time _ (one_unless _ Quality _ (one_unless _ Code _ (one_in_body little bytes)))

pub one_fault : (bytes : List ℕ) → IsOne (RefusesRecord bytes)
one_fault bytes = one_unless _ Short _ (one_unless _ Year _ (one_in_fields (little_of bytes) bytes))

-- and not where they have a header
none_in_body : (bytes : List ℕ) (h : Header) → HasHeader bytes h → IsNone (RefusesBody h.little bytes)
none_in_body bytes h is =
    let some : HasSize h.little bytes = rw is.size refl in
    let within : HoldsBlockettes h.little bytes = rw is.size is.within in
    let whole : IsWhole h.little bytes = rw is.size is.whole in
    let in_time : IsInTime h.little bytes =
    λ rate k. subst (λ (r : Ratio). EndsInTime (start_micros h.little bytes) (samples_of h.little bytes) r) (same_rate h.little bytes h.rate rate is.rate k)
    (subst (λ (n : ℕ). EndsInTime (start_micros h.little bytes) n h.rate) is.samples (subst (λ (m : ℤ). EndsInTime m h.samples h.rate) is.start is.reach)) in
    none_step _ _ _ is.chain (no_chain_fault h.little bytes) (none_unless _ NoBlockette1000 _ some (none_unless _ Chain _ within (none_unless _ Short _ whole (none_unless _ Reach _ in_time none_of_none))))

none_in_fields : (bytes : List ℕ) (h : Header) → HasHeader bytes h → IsNone (RefusesFields h.little bytes)
none_in_fields bytes h is = none_unless _ Time _ is.time (none_unless _ Quality _ (h.quality, is.quality) (none_unless _ Code _ (h.name, is.name) (none_in_body bytes h is)))

pub no_header : (bytes : List ℕ) (h : Header) (f : RecordFault) → HasHeader bytes h → RefusesRecord bytes f → ⊥
no_header bytes h f is =
    let order : h.little ≡ little_of bytes = the_order bytes h.little is.year in
    let long : 48 ≤ length bytes = omega (arith, size_bounds bytes h is, is.whole) in
    let year : IsYear (little_of bytes) bytes = subst (λ (b : Bool). IsYear b bytes) order is.year in
    let later : IsNone (RefusesFields (little_of bytes) bytes) = subst (λ (b : Bool). IsNone (RefusesFields b bytes)) order (none_in_fields bytes h is) in
    none_unless _ Short _ long (none_unless _ Year _ year later) f

-- so a right answer about the bytes is the only one
pub only_header : (bytes : List ℕ) (answer : Result Header RecordFault) → MatchResult answer (HasHeader bytes) (RefusesRecord bytes) → IsOnly (HasHeader bytes) (RefusesRecord bytes) answer
only_header bytes answer right = only_from (HasHeader bytes) (RefusesRecord bytes) (one_header bytes) (one_fault bytes) (no_header bytes) answer right

-- and it tells each fault exactly
pub each_fault : (bytes : List ℕ) (answer : Result Header RecordFault) → MatchResult answer (HasHeader bytes) (RefusesRecord bytes) → (fault : RecordFault) → IsErrOf answer fault ↔ RefusesRecord bytes fault
each_fault bytes (Ok h) is fault = (λ e. absurd (cc), λ refused. absurd (no_header bytes h fault is refused))
each_fault bytes (Err f) is fault = (λ e. (let same : f ≡ fault = (cc) in subst (λ (g : RecordFault). RefusesRecord bytes g) same is), λ refused. ap Err (one_fault bytes f fault is refused))

-- a fault of a later step, behind the steps that are passed
pub refused_fields : (little : Bool) (bytes : List ℕ) (f : RecordFault) → 48 ≤ length bytes → little ≡ little_of bytes → IsYear little bytes → RefusesFields little bytes f → RefusesRecord bytes f
refused_fields little bytes f long order year refused =
    inr (long, inr (subst (λ (b : Bool). IsYear b bytes) order year, subst (λ (b : Bool). RefusesFields b bytes f) order refused))

pub refused_body : (little : Bool) (bytes : List ℕ) (f : RecordFault) (q : letter.Quality) (name : Nslc) → IsBTime (time_at little bytes) → quality_letter q ≡ slice_index bytes 6 → IsName bytes name → RefusesBody little bytes f
    → RefusesFields little bytes f
refused_body little bytes f q name time quality is refused = inr (time, inr ((q, quality), inr ((name, is), refused)))

pub refused_reach : (little : Bool) (bytes : List ℕ) (size : ℕ) (rate : Ratio) → HasChain little bytes → record_size little bytes (offsets_of little bytes) ≡ Some size → EndWithin little bytes size (offsets_of little bytes) → size ≤ length bytes
    → IsRate little bytes rate → (EndsInTime (start_micros little bytes) (samples_of little bytes) rate → ⊥) → RefusesBody little bytes Reach
refused_reach little bytes size rate chain size_is within whole is late =
    inr (chain, inr (rw size_is refl, inr (rw size_is within, inr (rw size_is whole, inl ((λ h. late (h rate is)), refl)))))
