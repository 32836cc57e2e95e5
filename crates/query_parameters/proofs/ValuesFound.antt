-- Every text is a value of a kind, or none is; so every parameter is taken or refused.
use Rattle.std.proofs.Common.{◌≡◌, ◌⊎◌, inl, inr, ℕ, ℤ, pos, negsuc, Bool, true, false, List, Option, Some, None, Result, Ok, Err, refl, ap, sym, ◌∙◌, codes, arith, unsigned_abs}
use Rattle.std.specs.Str.{bytes_eq}
use Rattle.std.proofs.lemmas.Bool.{cases_Bool, cases_lt, both_ways}
use Rattle.std.proofs.lemmas.Int.{ints}
use Rattle.std.proofs.lemmas.Slice.Eq.{bytes_eq-Decides}
use Rattle.list_laws.specs.Only.{IsOnly}
use Rattle.exact_time.specs.Decimals.{IsDecimal, RefusesDecimal, whole_of}
use Rattle.exact_time.specs.MomentText.{IsMoment, RefusesMoment}
use Rattle.exact_time.specs.declared.moment.Moment.{Moment}
use Rattle.exact_time.specs.declared.moment.TimeFault.{TimeFault}
use Rattle.exact_time.proofs.DecimalTexts.{number_or_fault}
use Rattle.exact_time.proofs.MomentFound.{moment_or_fault}
use Rattle.channel_globs.specs.PatternText.{IsPatternList, IsListFault}
use Rattle.channel_globs.specs.declared.nslc.Part.{Part}
use Rattle.channel_globs.specs.declared.patterns.GlobFault.{GlobFault}
use Rattle.channel_globs.proofs.OneList.{list_or_fault}
use Rattle.query_parameters.specs.Listed.{qualities_of, merges_of, spans_order_of, extent_order_of, avail_form_of, is_form_left_out}
use Rattle.query_parameters.specs.Parameters.{Parameter, given, TakesParameter, RefusesParameter}
use Rattle.query_parameters.specs.Rows.{Text, Named, place_of_name, kind_of}
use Rattle.query_parameters.specs.Values.{nodata_of, quality_of, flag_of, level_of, event_order_of, is_garbled, IsMinimum, IsDegrees, IsCount, IsEntryNumber, most_latitude, most_longitude, CanRead, Reads, IsLeftOut}
use Rattle.query_parameters.specs.declared.fault.QueryFault.{QueryFault}
use Rattle.query_parameters.specs.declared.fault.QueryFault.TheVariants.{Unknown, Repeated, OutOfScope, Value}
use Rattle.query_parameters.specs.declared.rows.ValueKind.{ValueKind}
use Rattle.query_parameters.specs.declared.rows.ValueKind.TheVariants as kind

-- something has the property, or nothing has
abbrev pub Found : {V : Type 0} → (V → Type 0) → Type 0
Found {V} P = ((v : V) × P v) ⊎ ((v : V) → ¬ (P v))

pub some_or_none : {A : Type 0} (o : Option A) → ((a : A) × (o ≡ Some a)) ⊎ (o ≡ None)
some_or_none (Some a) = inl (a, refl)
some_or_none None = inr refl

option_found : {A : Type 0} (o : Option A) → Found (λ (a : A). o ≡ Some a)
option_found (Some a) = inl (a, refl)
option_found None = inr (λ a e. cc)

moment_by : (text : Text) (answer : Result Moment TimeFault) → IsOnly (λ (m : Moment). IsMoment text m.micros) (RefusesMoment text) answer → Found (λ (micros : ℤ). IsMoment text micros)
moment_by text (Ok m) h = inl (m.micros, h.right)
moment_by text (Err fault) h = inr (λ micros k. let e : Ok (record { micros = micros }) ≡ Err fault = h.only (Ok (record { micros = micros })) k in cc)

pub moment_found : (text : Text) → Found (λ (micros : ℤ). IsMoment text micros)
moment_found text = let a = moment_or_fault text in moment_by text a.0 a.1

list_by : (part : Part) (text : Text) (answer : Result (List Text) GlobFault) → IsOnly (IsPatternList part text) (IsListFault part text) answer → Found (λ (list : List Text). IsPatternList part text list)
list_by part text (Ok list) h = inl (list, h.right)
list_by part text (Err fault) h = inr (λ list k. let e : Ok list ≡ Err fault = h.only (Ok list) k in cc)

pub list_found : (part : Part) (text : Text) → Found (λ (list : List Text). IsPatternList part text list)
list_found part text = let a = list_or_fault part text in list_by part text a.0 a.1

minimum_by : (text : Text) (answer : Result ℤ TimeFault) → IsOnly (IsDecimal text) (RefusesDecimal text) answer → Found (λ (micros : ℕ). IsMinimum text micros)
minimum_by text (Ok (pos n)) h =
    elim (cases_lt 10_000_000_000_000_000 n) [
      | inr small ↦ inl (n, record { decimal = h.right; small = small })
      | inl great ↦ inr (λ micros k.
          let e : Ok (pos micros) ≡ Ok (pos n) = h.only (Ok (pos micros)) k.decimal in
          let same : pos micros ≡ pos n = cc in
          omega (arith, ints, same, k.small, great))
    ]
minimum_by text (Ok (negsuc n)) h =
    inr (λ micros k.
    let e : Ok (pos micros) ≡ Ok (negsuc n) = h.only (Ok (pos micros)) k.decimal in
    let same : pos micros ≡ negsuc n = cc in
    omega (arith, ints, same))
minimum_by text (Err fault) h = inr (λ micros k. let e : Ok (pos micros) ≡ Err fault = h.only (Ok (pos micros)) k.decimal in cc)

minimum_found : (text : Text) → Found (λ (micros : ℕ). IsMinimum text micros)
minimum_found text = let a = number_or_fault text in minimum_by text a.0 a.1

same_text : (a b : Text) → (a ≡ b) ⊎ (¬ (a ≡ b))
same_text a b =
    elim (cases_Bool (bytes_eq a b)) [
      | inl same ↦ inl ((bytes_eq-Decides a b).0 same)
      | inr other ↦ inr (λ e. both_ways (bytes_eq a b) other ((bytes_eq-Decides a b).1 e))
    ]

pair_found : {V : Type 0} (P : V → Type 0) → Found P → ((v : V) × P v) ⊎ (¬ ((v : V) × P v))
pair_found P (inl found) = inl found
pair_found P (inr none) = inr (λ h. none h.0 h.1)

same_flag : (o : Option Bool) (b : Bool) → (o ≡ Some b) ⊎ (¬ (o ≡ Some b))
same_flag None b = inr (λ e. cc)
same_flag (Some true) true = inl refl
same_flag (Some true) false = inr (λ e. cc)
same_flag (Some false) true = inr (λ e. cc)
same_flag (Some false) false = inl refl

degrees_by : (most : ℕ) (text : Text) (answer : Result ℤ TimeFault) → IsOnly (IsDecimal text) (RefusesDecimal text) answer → Found (λ (n : ℤ). IsDegrees most text n)
degrees_by most text (Ok n) h =
    elim (cases_lt most (unsigned_abs n)) [
      | inr small ↦ inl (n, record { decimal = h.right; within = small })
      | inl great ↦ inr (λ m k.
          let e : Ok m ≡ Ok n = h.only (Ok m) k.decimal in
          let same : m ≡ n = cc in
          let size : unsigned_abs m ≡ unsigned_abs n = ap unsigned_abs same in
          omega (arith, size, k.within, great))
    ]
degrees_by most text (Err fault) h = inr (λ m k. let e : Ok m ≡ Err fault = h.only (Ok m) k.decimal in cc)

degrees_found : (most : ℕ) (text : Text) → Found (λ (n : ℤ). IsDegrees most text n)
degrees_found most text = let a = number_or_fault text in degrees_by most text a.0 a.1

decimal_by : (text : Text) (answer : Result ℤ TimeFault) → IsOnly (IsDecimal text) (RefusesDecimal text) answer → Found (λ (n : ℤ). IsDecimal text n)
decimal_by text (Ok n) h = inl (n, h.right)
decimal_by text (Err fault) h = inr (λ m k. let e : Ok m ≡ Err fault = h.only (Ok m) k in cc)

decimal_found : (text : Text) → Found (λ (n : ℤ). IsDecimal text n)
decimal_found text = let a = number_or_fault text in decimal_by text a.0 a.1

count_by : (text : Text) (o : Option ℕ) → whole_of text ≡ o → Found (λ (n : ℕ). IsCount text n)
count_by text None e = inr (λ n h. let same : Some n ≡ None = sym h.whole ∙ e in cc)
count_by text (Some n) e =
    elim (cases_lt 0 n) [
      | inl some ↦ inl (n, record { whole = e; some = omega (arith, some) })
      | inr none ↦ inr (λ m h.
          let same : Some m ≡ Some n = sym h.whole ∙ e in
          let equal : m ≡ n = cc in
          omega (arith, equal, none, h.some))
    ]

count_found : (text : Text) → Found (λ (n : ℕ). IsCount text n)
count_found text = count_by text (whole_of text) refl

entry_number_found : (text : Text) → Found (λ (n : ℕ). IsEntryNumber text n)
entry_number_found text =
    elim (count_found text) [
      | inr none ↦ inr (λ n h. none n h.count)
      | inl count ↦ elim (cases_lt 1_000_000_000_000_000_000 count.0) [
        | inr small ↦ inl (count.0, record { count = count.1; small = small })
        | inl great ↦ inr (λ m h.
            let same : Some m ≡ Some count.0 = sym h.count.whole ∙ count.1.whole in
            let equal : m ≡ count.0 = cc in
            omega (arith, equal, great, h.small))
      ]
    ]

-- a text is a value of a kind, or it isn't
can_or_cannot : (k : ValueKind) (text : Text) → CanRead k text ⊎ (¬ (CanRead k text))
can_or_cannot kind.Time text = pair_found (λ (micros : ℤ). IsMoment text micros) (moment_found text)
can_or_cannot (kind.Patterns part) text = pair_found (λ (list : List Text). IsPatternList part text list) (list_found part text)
can_or_cannot kind.Nodata text = pair_found (λ nodata. nodata_of text ≡ Some nodata) (option_found (nodata_of text))
can_or_cannot kind.Quality text = pair_found (λ quality. quality_of text ≡ Some quality) (option_found (quality_of text))
can_or_cannot kind.Seconds text = pair_found (λ (micros : ℕ). IsMinimum text micros) (minimum_found text)
can_or_cannot kind.Flag text = pair_found (λ flag. flag_of text ≡ Some flag) (option_found (flag_of text))
can_or_cannot kind.Format text = same_text text (codes "miniseed")
can_or_cannot kind.Decimal text = pair_found (λ (n : ℤ). IsDecimal text n) (decimal_found text)
can_or_cannot kind.Count text = pair_found (λ (n : ℕ). IsCount text n) (count_found text)
can_or_cannot kind.EntryNumber text = pair_found (λ (n : ℕ). IsEntryNumber text n) (entry_number_found text)
can_or_cannot kind.Text text = inl tt
can_or_cannot kind.EventOrder text = pair_found (λ order. event_order_of text ≡ Some order) (option_found (event_order_of text))
can_or_cannot kind.Qualities text = pair_found (λ set. qualities_of text ≡ Some set) (option_found (qualities_of text))
can_or_cannot kind.Merges text = pair_found (λ merges. merges_of text ≡ Some merges) (option_found (merges_of text))
can_or_cannot kind.SpansOrder text = pair_found (λ order. spans_order_of text ≡ Some order) (option_found (spans_order_of text))
can_or_cannot kind.ExtentOrder text = pair_found (λ order. extent_order_of text ≡ Some order) (option_found (extent_order_of text))
can_or_cannot kind.AvailForm text = pair_found (λ form. avail_form_of text ≡ Some form) (option_found (avail_form_of text))
can_or_cannot kind.Latitude text = pair_found (λ (n : ℤ). IsDegrees most_latitude text n) (degrees_found most_latitude text)
can_or_cannot kind.Longitude text = pair_found (λ (n : ℤ). IsDegrees most_longitude text n) (degrees_found most_longitude text)
can_or_cannot kind.Level text = pair_found (λ level. level_of text ≡ Some level) (option_found (level_of text))
can_or_cannot kind.TextForm text = same_text text (codes "text")
can_or_cannot kind.Always text = same_flag (flag_of text) true
can_or_cannot kind.Never text = same_flag (flag_of text) false
can_or_cannot kind.LeftOut text = inr (λ h. h)

reads_or_not : (k : ValueKind) (text : Text) → Reads k text ⊎ (¬ (Reads k text))
reads_or_not k text =
    elim (cases_Bool (is_garbled text)) [
      | inl garbled ↦ inr (λ h. both_ways (is_garbled text) h.plain garbled)
      | inr plain ↦ elim (can_or_cannot k text) [ inl can ↦ inl (record { plain = plain; can = can }) | inr cannot ↦ inr (λ h. cannot h.can) ]
    ]

-- a value is left out, or it isn't
left_out_or_not : (k : ValueKind) (text : Text) → IsLeftOut k text ⊎ (¬ (IsLeftOut k text))
left_out_or_not kind.Level text = same_text text (codes "response")
left_out_or_not kind.TextForm text = same_text text (codes "xml")
left_out_or_not kind.Always text = same_flag (flag_of text) false
left_out_or_not kind.Never text = same_flag (flag_of text) true
left_out_or_not kind.LeftOut text = inl tt
left_out_or_not kind.Time text = inr (λ h. h)
left_out_or_not (kind.Patterns part) text = inr (λ h. h)
left_out_or_not kind.Nodata text = inr (λ h. h)
left_out_or_not kind.Quality text = inr (λ h. h)
left_out_or_not kind.Seconds text = inr (λ h. h)
left_out_or_not kind.Flag text = inr (λ h. h)
left_out_or_not kind.Format text = inr (λ h. h)
left_out_or_not kind.Decimal text = inr (λ h. h)
left_out_or_not kind.Count text = inr (λ h. h)
left_out_or_not kind.EntryNumber text = inr (λ h. h)
left_out_or_not kind.Text text = inr (λ h. h)
left_out_or_not kind.EventOrder text = inr (λ h. h)
left_out_or_not kind.Qualities text = inr (λ h. h)
left_out_or_not kind.Merges text = inr (λ h. h)
left_out_or_not kind.SpansOrder text = inr (λ h. h)
left_out_or_not kind.ExtentOrder text = inr (λ h. h)
left_out_or_not kind.AvailForm text = elim (cases_Bool (is_form_left_out text)) [ inl is ↦ inl is | inr not ↦ inr (λ h. both_ways (is_form_left_out text) not h) ]
left_out_or_not kind.Latitude text = inr (λ h. h)
left_out_or_not kind.Longitude text = inr (λ h. h)

-- a parameter is taken behind those before it, or refused
pub parameter_found : (rows : List Named) (before : List Parameter) (p : Parameter) → TakesParameter rows before p ⊎ ((fault : QueryFault) × RefusesParameter rows before p fault)
parameter_found rows before p =
    elim (some_or_none (place_of_name rows p.name)) [
      | inr unknown ↦ inr (Unknown p.number, (refl, unknown))
      | inl row ↦ elim (some_or_none (given rows row.0 before)) [
        | inl earlier ↦ inr (Repeated p.number, (refl, record { row = row.0; names = row.1; earlier = earlier.0; taken = earlier.1 }))
        | inr free ↦ elim (reads_or_not (kind_of rows row.0) p.value) [
          | inl reads ↦ inl (record { row = row.0; is_new = record { names = row.1; free = free }; reads = reads })
          | inr bad ↦ elim (left_out_or_not (kind_of rows row.0) p.value) [
            | inl out ↦ inr (OutOfScope p.number, (refl, record { row = row.0; is_new = record { names = row.1; free = free }; out = out }))
            | inr inside ↦ inr (Value p.number, (refl, record { row = row.0; is_new = record { names = row.1; free = free }; inside = inside; bad = bad }))
          ]
        ]
      ]
    ]
