-- A query string is right or has one fault, whatever its method makes of it.
use Rattle.std.proofs.Common.{◌≡◌, ◌⊎◌, inl, inr, ◌≤ℤ◌, ◌<ℤ◌, ◌<◌, ◌≤◌, length, ℕ, true, false, codes, List, [], Option, Some, None, Result, Err, MatchResult, refl, sym, ap, subst, ◌∙◌, arith}
use Rattle.std.proofs.lemmas.Int.{ints}
use Rattle.list_laws.specs.Only.{IsOnly}
use Rattle.exact_time.specs.declared.moment.Moment.{Moment}
use Rattle.exact_time.specs.MomentText.{IsMoment}
use Rattle.exact_time.proofs.Spellings.{one_moment}
use Rattle.channel_globs.specs.declared.nslc.Part.TheVariants.{Network, Station, Location, Channel}
use Rattle.channel_globs.proofs.OneList.{one_list}
use Rattle.dataselect.specs.declared.query.Selection.{Selection}
use Rattle.query_parameters.specs.FirstRefusals.{AreTaken, IsFirstRefusal}
use Rattle.query_parameters.specs.Gets.{IsLimit, IsWindowInOrder, AreCodes, AreLimits, IsRight, IsFirstWrong, IsFaultBy, RefusesBy}
use Rattle.std.specs.Prelude.{IsTrue, ◌||◌}
use Rattle.std.specs.Str.{bytes_eq}
use Rattle.std.proofs.lemmas.Bool.{or_cases, true≢false}
use Rattle.std.proofs.lemmas.Slice.Eq.{bytes_eq-Decides}
use Rattle.query_parameters.specs.Listed.{avail_form_of, is_form_left_out}
use Rattle.query_parameters.specs.declared.avail.AvailForm.{AvailForm}
use Rattle.query_parameters.specs.Rows.{Text, Named, place_of_name, kind_of}
use Rattle.query_parameters.specs.Parameters.{Parameter, pairs_of, parameters_of, given, IsNew, TakesParameter, IsRepeated, RefusesParameter}
use Rattle.query_parameters.specs.Values.{level_of, CanRead, Reads, IsLeftOut}
use Rattle.query_parameters.specs.declared.rows.ValueKind.{ValueKind}
use Rattle.query_parameters.specs.declared.rows.ValueKind.TheVariants as kind
use Rattle.query_parameters.specs.Words.{RefusesParameters}
use Rattle.query_parameters.specs.declared.fault.QueryFault.{QueryFault}
use Rattle.query_parameters.specs.declared.fault.QueryFault.TheVariants.{TooMany, Unknown, Repeated, OutOfScope, Value, Line, Order, NoLine, OutOfMemory}
use Rattle.query_parameters.proofs.RefusalLaws.{none_refused, one_refused}

-- a form that is left out is none of those that are read
form_apart : (text : Text) (form : AvailForm) → avail_form_of text ≡ Some form → IsTrue (is_form_left_out text) → ⊥
form_apart text form h out =
    elim (or_cases (bytes_eq text (codes "geocsv")) (bytes_eq text (codes "json") || (bytes_eq text (codes "zip") || false)) out) [
      | inl is ↦ is_not (codes "geocsv") ((bytes_eq-Decides text (codes "geocsv")).0 is) refl
      | inr more ↦ elim (or_cases (bytes_eq text (codes "json")) (bytes_eq text (codes "zip") || false) more) [
        | inl is ↦ is_not (codes "json") ((bytes_eq-Decides text (codes "json")).0 is) refl
        | inr last ↦ elim (or_cases (bytes_eq text (codes "zip")) false last) [
          | inl is ↦ is_not (codes "zip") ((bytes_eq-Decides text (codes "zip")).0 is) refl
          | inr none ↦ absurd (true≢false (sym none))
        ]
      ]
    ]
  where
    is_not : (other : Text) → text ≡ other → avail_form_of other ≡ None → ⊥
    is_not other same none = let e : Some form ≡ None = sym h ∙ ap avail_form_of same ∙ none in cc

-- what can be read isn't left out
not_left_out : (k : ValueKind) (text : Text) → CanRead k text → IsLeftOut k text → ⊥
not_left_out kind.Level text h out = let e : level_of (codes "response") ≡ Some h.0 = ap level_of (sym out) ∙ h.1 in cc
not_left_out kind.TextForm text h out = let e : codes "text" ≡ codes "xml" = sym h ∙ out in cc
not_left_out kind.Always text h out = let e : Some true ≡ Some false = sym h ∙ out in cc
not_left_out kind.Never text h out = let e : Some false ≡ Some true = sym h ∙ out in cc
not_left_out kind.LeftOut text h out = h
not_left_out kind.Time text h out = out
not_left_out (kind.Patterns part) text h out = out
not_left_out kind.Nodata text h out = out
not_left_out kind.Quality text h out = out
not_left_out kind.Seconds text h out = out
not_left_out kind.Flag text h out = out
not_left_out kind.Format text h out = out
not_left_out kind.Decimal text h out = out
not_left_out kind.Count text h out = out
not_left_out kind.EntryNumber text h out = out
not_left_out kind.Text text h out = out
not_left_out kind.EventOrder text h out = out
not_left_out kind.Qualities text h out = out
not_left_out kind.Merges text h out = out
not_left_out kind.SpansOrder text h out = out
not_left_out kind.ExtentOrder text h out = out
not_left_out kind.AvailForm text h out = form_apart text h.0 h.1 out
not_left_out kind.Latitude text h out = out
not_left_out kind.Longitude text h out = out

-- one parameter behind others
module _ (rows : List Named) (before : List Parameter) (p : Parameter) where
  same_row : (r s : ℕ) → place_of_name rows p.name ≡ Some r → place_of_name rows p.name ≡ Some s → r ≡ s
  same_row r s h k = let e : Some r ≡ Some s = sym h ∙ k in cc

  known : (r : ℕ) → place_of_name rows p.name ≡ Some r → place_of_name rows p.name ≡ None → ⊥
  known r h k = let e : Some r ≡ None = sym h ∙ k in cc

  not_repeated : (r : ℕ) → IsNew rows before p r → IsRepeated rows before p → ⊥
  not_repeated r h k =
      let same = same_row k.row r k.names h.names in
      let taken : given rows r before ≡ Some k.earlier = subst (λ n. given rows n before ≡ Some k.earlier) same k.taken in
      let e : Some k.earlier ≡ None = sym taken ∙ h.free in
      cc

  reads_at : (r s : ℕ) → IsNew rows before p r → IsNew rows before p s → Reads (kind_of rows r) p.value → Reads (kind_of rows s) p.value
  reads_at r s h k reads = subst (λ n. Reads (kind_of rows n) p.value) (same_row r s h.names k.names) reads

  out_at : (r s : ℕ) → IsNew rows before p r → IsNew rows before p s → IsLeftOut (kind_of rows r) p.value → IsLeftOut (kind_of rows s) p.value
  out_at r s h k out = subst (λ n. IsLeftOut (kind_of rows n) p.value) (same_row r s h.names k.names) out

  -- what is taken isn't refused
  pub taken_apart : (fault : QueryFault) → TakesParameter rows before p → RefusesParameter rows before p fault → ⊥
  taken_apart (Unknown n) h k = known h.row h.is_new.names k.1
  taken_apart (Repeated n) h k = not_repeated h.row h.is_new k.1
  taken_apart (OutOfScope n) h k = not_left_out (kind_of rows k.1.row) p.value (reads_at h.row k.1.row h.is_new k.1.is_new h.reads).can k.1.out
  taken_apart (Value n) h k = k.1.bad (reads_at h.row k.1.row h.is_new k.1.is_new h.reads)
  taken_apart TooMany h k = k
  taken_apart (Line n) h k = k
  taken_apart Order h k = k
  taken_apart NoLine h k = k
  taken_apart OutOfMemory h k = k

  -- and what is refused has one fault
  pub one_wrong : (f g : QueryFault) → RefusesParameter rows before p f → RefusesParameter rows before p g → f ≡ g
  one_wrong (Unknown n) (Unknown m) h k = ap Unknown (h.0 ∙ sym k.0)
  one_wrong (Unknown n) (Repeated m) h k = absurd (known k.1.row k.1.names h.1)
  one_wrong (Unknown n) (OutOfScope m) h k = absurd (known k.1.row k.1.is_new.names h.1)
  one_wrong (Unknown n) (Value m) h k = absurd (known k.1.row k.1.is_new.names h.1)
  one_wrong (Repeated n) (Unknown m) h k = absurd (known h.1.row h.1.names k.1)
  one_wrong (Repeated n) (Repeated m) h k = ap Repeated (h.0 ∙ sym k.0)
  one_wrong (Repeated n) (OutOfScope m) h k = absurd (not_repeated k.1.row k.1.is_new h.1)
  one_wrong (Repeated n) (Value m) h k = absurd (not_repeated k.1.row k.1.is_new h.1)
  one_wrong (OutOfScope n) (Unknown m) h k = absurd (known h.1.row h.1.is_new.names k.1)
  one_wrong (OutOfScope n) (Repeated m) h k = absurd (not_repeated h.1.row h.1.is_new k.1)
  one_wrong (OutOfScope n) (OutOfScope m) h k = ap OutOfScope (h.0 ∙ sym k.0)
  one_wrong (OutOfScope n) (Value m) h k = absurd (k.1.inside (out_at h.1.row k.1.row h.1.is_new k.1.is_new h.1.out))
  one_wrong (Value n) (Unknown m) h k = absurd (known h.1.row h.1.is_new.names k.1)
  one_wrong (Value n) (Repeated m) h k = absurd (not_repeated h.1.row h.1.is_new k.1)
  one_wrong (Value n) (OutOfScope m) h k = absurd (h.1.inside (out_at k.1.row h.1.row k.1.is_new h.1.is_new k.1.out))
  one_wrong (Value n) (Value m) h k = ap Value (h.0 ∙ sym k.0)
  one_wrong TooMany g h k = absurd h
  one_wrong (Line n) g h k = absurd h
  one_wrong Order g h k = absurd h
  one_wrong NoLine g h k = absurd h
  one_wrong OutOfMemory g h k = absurd h
  one_wrong f TooMany h k = absurd k
  one_wrong f (Line n) h k = absurd k
  one_wrong f Order h k = absurd k
  one_wrong f NoLine h k = absurd k
  one_wrong f OutOfMemory h k = absurd k

-- the first wrong parameter is one alone, and there is none where all are right
pub one_first : (rows : List Named) (ps : List Parameter) (f g : QueryFault) → IsFirstRefusal (TakesParameter rows) (RefusesParameter rows) ps f
    → IsFirstRefusal (TakesParameter rows) (RefusesParameter rows) ps g → f ≡ g
one_first rows ps f g h k = one_refused (TakesParameter rows) (RefusesParameter rows) (λ before p fault t r. taken_apart rows before p fault t r) (λ before p a b x y. one_wrong rows before p a b x y) ps f g h k

pub no_first : (rows : List Named) (ps : List Parameter) (f : QueryFault) → AreTaken (TakesParameter rows) [] ps → IsFirstRefusal (TakesParameter rows) (RefusesParameter rows) ps f → ⊥
no_first rows ps f all h = none_refused (TakesParameter rows) (RefusesParameter rows) (λ before p fault t r. taken_apart rows before p fault t r) (λ before p a b x y. one_wrong rows before p a b x y) ps f all h

one_time : (text : List ℕ) (a b : Moment) → IsMoment text a.micros → IsMoment text b.micros → a ≡ b
one_time text a b h k = let e = one_moment text a.micros b.micros h k in λ i. record { micros = e i }

pub one_limit : (given : Option Text) (a b : Option Moment) → IsLimit given a → IsLimit given b → a ≡ b
one_limit None a b h k = h ∙ sym k
one_limit (Some text) a b h k = h.1 ∙ ap Some (one_time text h.0 k.0 h.2 k.2) ∙ sym k.1

pub one_selection : (rows : List Named) (ps : List Parameter) (s t : Selection) → AreCodes rows ps s → AreLimits rows ps s.start s.end → AreCodes rows ps t → AreLimits rows ps t.start t.end → s ≡ t
one_selection rows ps s t h p k q =
    let network = one_list Network _ s.network t.network h.network_is k.network_is in
    let station = one_list Station _ s.station t.station h.station_is k.station_is in
    let location = one_list Location _ s.location t.location h.location_is k.location_is in
    let channel = one_list Channel _ s.channel t.channel h.channel_is k.channel_is in
    let start = one_limit _ s.start t.start p.start_is q.start_is in
    let end = one_limit _ s.end t.end p.end_is q.end_is in
    λ i. record { network = network i; station = station i; location = location i; channel = channel i; start = start i; end = end i }

pub some_one : {A : Type 0} (a b : A) (o : Option A) → o ≡ Some a → o ≡ Some b → a ≡ b
some_one a b o h k = let e : Some a ≡ Some b = sym h ∙ k in cc

pub not_backwards : (start end : Option Moment) (from to : Moment) → start ≡ Some from → end ≡ Some to → IsWindowInOrder start end → to.micros <ℤ from.micros → ⊥
not_backwards start end from to a b forwards order =
    let both : from.micros ≤ℤ to.micros = subst (λ (e : Option Moment). IsWindowInOrder (Some from) e) b (subst (λ (s : Option Moment). IsWindowInOrder s end) a forwards) in
    omega (arith, ints, both, order)

-- a method, and what it says is lacking, or calls limits in no order
module _ (rows : List Named) (Lacks Turned : Text → Type 0) where
  -- a right query string that lacks nothing, and whose limits are in order, has no fault
  pub no_fault : (query : Text) (fault : QueryFault) → IsRight rows query → ¬ (Lacks query) → ¬ (Turned query) → IsFaultBy rows Lacks Turned query fault → ⊥
  no_fault query TooMany right whole ordered k = omega (arith, right.few, k)
  no_fault query (Unknown n) right whole ordered k = no_first rows (parameters_of query) (Unknown n) right.taken k.first
  no_fault query (Repeated n) right whole ordered k = no_first rows (parameters_of query) (Repeated n) right.taken k.first
  no_fault query (OutOfScope n) right whole ordered k = no_first rows (parameters_of query) (OutOfScope n) right.taken k.first
  no_fault query (Value n) right whole ordered (inl k) = no_first rows (parameters_of query) (Value n) right.taken k.first
  no_fault query (Value n) right whole ordered (inr k) = whole k.1
  no_fault query Order right whole ordered k = ordered k
  no_fault query (Line n) right whole ordered k = k
  no_fault query NoLine right whole ordered k = k
  no_fault query OutOfMemory right whole ordered k = k

  -- a fault is too many parameters, the first wrong one, what is lacking, or the order
  data Why (query : Text) (fault : QueryFault) : Type 0 where
    many : fault ≡ TooMany → 1000 < length (pairs_of query) → Why query fault
    wrong : IsFirstWrong rows query fault → Why query fault
    lacking : fault ≡ Value 0 → Lacks query → Why query fault
    order : fault ≡ Order → Turned query → Why query fault

  why : (query : Text) (fault : QueryFault) → IsFaultBy rows Lacks Turned query fault → Why query fault
  why query TooMany h = many refl h
  why query (Unknown n) h = wrong h
  why query (Repeated n) h = wrong h
  why query (OutOfScope n) h = wrong h
  why query (Value n) (inl h) = wrong h
  why query (Value n) (inr h) = lacking (ap Value h.0) h.1
  why query Order h = order refl h
  why query (Line n) h = absurd h
  why query NoLine h = absurd h
  why query OutOfMemory h = absurd h

  module _ (right_of : (query : Text) → Turned query → IsRight rows query) (lacks_of : (query : Text) → Lacks query → IsRight rows query) (apart : (query : Text) → Lacks query → Turned query → ⊥) where
    one_why : (query : Text) (f g : QueryFault) → Why query f → Why query g → f ≡ g
    one_why query f g (many a h) (many b k) = a ∙ sym b
    one_why query f g (many a h) (wrong k) = absurd (omega (arith, h, k.few))
    one_why query f g (many a h) (lacking b k) = absurd (let right = lacks_of query k in omega (arith, h, right.few))
    one_why query f g (many a h) (order b k) = absurd (let right = right_of query k in omega (arith, h, right.few))
    one_why query f g (wrong h) (many b k) = absurd (omega (arith, k, h.few))
    one_why query f g (wrong h) (wrong k) = one_first rows (parameters_of query) f g h.first k.first
    one_why query f g (wrong h) (lacking b k) = absurd (no_first rows (parameters_of query) f (lacks_of query k).taken h.first)
    one_why query f g (wrong h) (order b k) = absurd (no_first rows (parameters_of query) f (right_of query k).taken h.first)
    one_why query f g (lacking a h) (many b k) = absurd (let right = lacks_of query h in omega (arith, k, right.few))
    one_why query f g (lacking a h) (wrong k) = absurd (no_first rows (parameters_of query) g (lacks_of query h).taken k.first)
    one_why query f g (lacking a h) (lacking b k) = a ∙ sym b
    one_why query f g (lacking a h) (order b k) = absurd (apart query h k)
    one_why query f g (order a h) (lacking b k) = absurd (apart query k h)
    one_why query f g (order a h) (many b k) = absurd (let right = right_of query h in omega (arith, k, right.few))
    one_why query f g (order a h) (wrong k) = absurd (no_first rows (parameters_of query) g (right_of query h).taken k.first)
    one_why query f g (order a h) (order b k) = a ∙ sym b

    pub one_fault : (query : Text) (f g : QueryFault) → IsFaultBy rows Lacks Turned query f → IsFaultBy rows Lacks Turned query g → f ≡ g
    one_fault query f g h k = one_why query f g (why query f h) (why query g k)

  -- what a reader that may want memory refuses, the definition does
  pub refused_or_starved : {Q : Type 0} (Is : Q → Type 0) (query : Text)
      → ((answer : Result Q QueryFault) → MatchResult answer Is (IsFaultBy rows Lacks Turned query) → IsOnly Is (IsFaultBy rows Lacks Turned query) answer) → (fault : QueryFault) → RefusesBy rows Lacks Turned query fault
      → (fault ≡ OutOfMemory) ⊎ IsOnly Is (IsFaultBy rows Lacks Turned query) (Err fault)
  refused_or_starved Is query only TooMany h = inr (only (Err TooMany) h)
  refused_or_starved Is query only (Unknown n) h = inr (only (Err (Unknown n)) h)
  refused_or_starved Is query only (Repeated n) h = inr (only (Err (Repeated n)) h)
  refused_or_starved Is query only (OutOfScope n) h = inr (only (Err (OutOfScope n)) h)
  refused_or_starved Is query only (Value n) h = inr (only (Err (Value n)) h)
  refused_or_starved Is query only (Line n) h = inr (only (Err (Line n)) h)
  refused_or_starved Is query only Order h = inr (only (Err Order) h)
  refused_or_starved Is query only NoLine h = inr (only (Err NoLine) h)
  refused_or_starved Is query only OutOfMemory h = inl refl

  -- what the words are refused for, the query string is
  pub words_refused : (query : Text) → length (pairs_of query) ≤ 1000 → (fault : QueryFault) → RefusesParameters rows (parameters_of query) fault → RefusesBy rows Lacks Turned query fault
  words_refused query few TooMany h = absurd h.refused
  words_refused query few (Unknown n) h = record { few = few; first = h }
  words_refused query few (Repeated n) h = record { few = few; first = h }
  words_refused query few (OutOfScope n) h = record { few = few; first = h }
  words_refused query few (Value n) h = inl (record { few = few; first = h })
  words_refused query few (Line n) h = h.refused
  words_refused query few Order h = absurd h.refused
  words_refused query few NoLine h = h.refused
  words_refused query few OutOfMemory h = tt
