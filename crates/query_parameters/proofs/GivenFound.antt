-- What right parameters give.
use Rattle.std.proofs.Common.{◌≡◌, ◌⊎◌, inl, inr, ℕ, ◌≤◌, ◌<ℤ◌, Bool, true, false, cond, List, [], ◌∷◌, ◌++◌, Option, Some, None, length, refl, sym, ap, subst, ◌∙◌, codes, arith}
use Rattle.std.proofs.lemmas.Bool.{cases_Bool, eqb-true}
use Rattle.exact_time.specs.declared.moment.Moment.{Moment}
use Rattle.channel_globs.specs.declared.nslc.Part.{Part}
use Rattle.channel_globs.specs.declared.nslc.Part.TheVariants.{Network, Station, Location, Channel}
use Rattle.dataselect.specs.declared.query.Nodata.TheVariants.{Quiet}
use Rattle.query_parameters.specs.Gets.{text_or, IsLimit, IsWindowInOrder, IsFaultBy}
use Rattle.query_parameters.specs.FirstRefusals.{AreTaken, IsFirstRefusal}
use Rattle.query_parameters.specs.Parameters.{Parameter, pairs_of, parameters_of, given, is_name, TakesParameter, RefusesParameter}
use Rattle.query_parameters.specs.Rows.{Text, Named, place_of_name, kind_of}
use Rattle.query_parameters.specs.Values.{CanRead}
use Rattle.query_parameters.specs.declared.fault.QueryFault.{QueryFault}
use Rattle.query_parameters.specs.declared.fault.QueryFault.TheVariants.{TooMany, Unknown, Repeated, OutOfScope, Value, Line, Order, NoLine, OutOfMemory}
use Rattle.query_parameters.specs.declared.rows.ValueKind.{ValueKind}
use Rattle.query_parameters.specs.declared.rows.ValueKind.TheVariants as kind
use Rattle.query_parameters.specs.Extracts.{is_backwards}
use Rattle.query_parameters.proofs.Said.{no_minimum, in_time, backwards}

same_row : (row : ℕ) (o : Option ℕ) (found : ℕ) → o ≡ Some found → is_name row o ≡ true → found ≡ row
same_row row o found e is = eqb-true found row (ap (λ (o : Option ℕ). is_name row o) (sym e) ∙ is)

by_place : (rows : List Named) (row : ℕ) (p : Parameter) (before : List Parameter) (rest : Option Text) (b : Bool) → is_name row (place_of_name rows p.name) ≡ b → TakesParameter rows before p
    → ((text : Text) → rest ≡ Some text → CanRead (kind_of rows row) text) → (text : Text) → cond b (Some p.value) rest ≡ Some text → CanRead (kind_of rows row) text
by_place rows row p before rest true here takes others text is =
    let value : p.value ≡ text = cc in
    let same = same_row row (place_of_name rows p.name) takes.row takes.is_new.names here in
    subst (λ (t : Text). CanRead (kind_of rows row) t) value (subst (λ r. CanRead (kind_of rows r) p.value) same takes.reads.can)
by_place rows row p before rest false elsewhere takes others text is = others text is

-- what taken parameters give under a row is a value of its kind
pub given_reads : (rows : List Named) (row : ℕ) (before ps : List Parameter) → AreTaken (TakesParameter rows) before ps → (text : Text) → given rows row ps ≡ Some text → CanRead (kind_of rows row) text
given_reads rows row before [] taken text e = cc
given_reads rows row before (p ∷ ps) taken text e =
    by_place rows row p before (given rows row ps) (is_name row (place_of_name rows p.name)) refl taken.0 (given_reads rows row (before ++ p ∷ []) ps taken.1) text e

-- and so is the default, where nothing is given
pub default_reads : (k : ValueKind) (default : Text) → CanRead k default → (given : Option Text) → ((text : Text) → given ≡ Some text → CanRead k text) → CanRead k (text_or default given)
default_reads k default can None h = can
default_reads k default can (Some text) h = h text refl

pub any_list : (part : Part) → CanRead (kind.Patterns part) (codes "*")
any_list Network = (codes "*" ∷ [], record { few = omega arith; each = refl })
any_list Station = (codes "*" ∷ [], record { few = omega arith; each = refl })
any_list Location = (codes "*" ∷ [], record { few = omega arith; each = refl })
any_list Channel = (codes "*" ∷ [], record { few = omega arith; each = refl })

pub limit_given : (given : Option Text) → ((text : Text) → given ≡ Some text → CanRead kind.Time text) → (limit : Option Moment) × IsLimit given limit
limit_given None h = (None, refl)
limit_given (Some text) h = let is = h text refl in (Some (record { micros = is.0 }), (record { micros = is.0 }, refl, is.1))

-- the defaults of the options
pub no_nodata : CanRead kind.Nodata (codes "204")
no_nodata = (Quiet, refl)

pub no_quality : CanRead kind.Quality (codes "B")
no_quality = (None, refl)

pub no_seconds : CanRead kind.Seconds (codes "0")
no_seconds = (0, no_minimum)

pub no_flag : CanRead kind.Flag (codes "false")
no_flag = (false, refl)

-- a window is in time, or it is backwards
pub in_time_or_backwards : (start end : Option Moment) → IsWindowInOrder start end ⊎ ((from : Moment) × (to : Moment) × (start ≡ Some from) × (end ≡ Some to) × (to.micros <ℤ from.micros))
in_time_or_backwards start end = elim (cases_Bool (is_backwards start end)) [ inl turned ↦ inr (backwards start end turned) | inr forwards ↦ inl (in_time start end forwards) ]

pub wrong_answer : (rows : List Named) (Lacks Turned : Text → Type 0) (query : Text) → length (pairs_of query) ≤ 1000 → (fault : QueryFault) → IsFirstRefusal (TakesParameter rows) (RefusesParameter rows) (parameters_of query) fault → IsFaultBy rows Lacks Turned query fault
wrong_answer rows Lacks Turned query few (Unknown n) h = record { few = few; first = h }
wrong_answer rows Lacks Turned query few (Repeated n) h = record { few = few; first = h }
wrong_answer rows Lacks Turned query few (OutOfScope n) h = record { few = few; first = h }
wrong_answer rows Lacks Turned query few (Value n) h = inl (record { few = few; first = h })
wrong_answer rows Lacks Turned query few TooMany h = absurd h.refused
wrong_answer rows Lacks Turned query few (Line n) h = h.refused
wrong_answer rows Lacks Turned query few Order h = absurd h.refused
wrong_answer rows Lacks Turned query few NoLine h = h.refused
wrong_answer rows Lacks Turned query few OutOfMemory h = h.refused
