-- A body is right or has one fault, whatever its method makes of it.
use Rattle.std.proofs.Common.{◌≡◌, ◌⊎◌, inl, inr, ℕ, ◌<◌, List, [], ◌∷◌, Result, Err, MatchResult, length, refl, sym, ap, subst, ◌∙◌, arith}
use Rattle.std.specs.Str.{IsAscii, IsNotAscii}
use Rattle.list_laws.specs.Only.{IsOnly}
use Rattle.channel_globs.specs.declared.nslc.Part.TheVariants.{Network, Station, Location, Channel}
use Rattle.channel_globs.proofs.OneList.{one_list}
use Rattle.dataselect.specs.declared.query.Selection.{Selection}
use Rattle.query_parameters.specs.Bodies.{Numbered, Fields, AreSix, AreFields, IsSelection, AreSelections, TakesLine, RefusesLine, TakesSelection, RefusesSelection, parameters_in, parameter_of, parameter_lines, selection_lines, limit_text}
use Rattle.query_parameters.specs.FirstRefusals.{AreTaken, IsFirstRefusal}
use Rattle.query_parameters.specs.Parameters.{RefusesParameter}
use Rattle.query_parameters.specs.Posts.{AreFew, IsRightBody, IsWrongFront, IsWrongRest, IsFirstWrongLine, IsBodyFaultBy, RefusesBodyBy}
use Rattle.query_parameters.specs.Rows.{Text, Named}
use Rattle.query_parameters.specs.declared.fault.QueryFault.{QueryFault}
use Rattle.query_parameters.specs.declared.fault.QueryFault.TheVariants.{TooMany, Unknown, Repeated, OutOfScope, Value, Line, Order, NoLine, OutOfMemory}
use Rattle.query_parameters.proofs.OneGet.{taken_apart, one_wrong, one_limit}
use Rattle.query_parameters.proofs.RefusalLaws.{none_refused, one_refused}

pub not_both : (text : Text) → IsAscii text → IsNotAscii text → ⊥
not_both text h k = let low = h k.0 in omega (arith, low, k.1)

module _ (rows : List Named) (before : List Numbered) (l : Numbered) where
  line_apart : (fault : QueryFault) → TakesLine rows before l → RefusesLine rows before l fault → ⊥
  line_apart (Line n) h k = not_both l.text h.ascii k.1
  line_apart (Unknown n) h k = taken_apart rows (parameters_in before) (parameter_of l) (Unknown n) h.takes k.1
  line_apart (Repeated n) h k = taken_apart rows (parameters_in before) (parameter_of l) (Repeated n) h.takes k.1
  line_apart (OutOfScope n) h k = taken_apart rows (parameters_in before) (parameter_of l) (OutOfScope n) h.takes k.1
  line_apart (Value n) h k = taken_apart rows (parameters_in before) (parameter_of l) (Value n) h.takes k.1
  line_apart TooMany h k = k
  line_apart Order h k = k
  line_apart NoLine h k = k
  line_apart OutOfMemory h k = k

  -- a wrong line has a byte outside ASCII, or a wrong parameter
  data Wrong (fault : QueryFault) : Type 0 where
    bytes : (n : ℕ) → fault ≡ Line n → n ≡ l.number → IsNotAscii l.text → Wrong fault
    words : IsAscii l.text → RefusesParameter rows (parameters_in before) (parameter_of l) fault → Wrong fault

  wrong : (fault : QueryFault) → RefusesLine rows before l fault → Wrong fault
  wrong (Line n) h = bytes n refl h.0 h.1
  wrong (Unknown n) h = words h.0 h.1
  wrong (Repeated n) h = words h.0 h.1
  wrong (OutOfScope n) h = words h.0 h.1
  wrong (Value n) h = words h.0 h.1
  wrong TooMany h = absurd h
  wrong Order h = absurd h
  wrong NoLine h = absurd h
  wrong OutOfMemory h = absurd h

  one_of_wrong : (f g : QueryFault) → Wrong f → Wrong g → f ≡ g
  one_of_wrong f g (bytes n a h x) (bytes m b k y) = a ∙ ap Line (h ∙ sym k) ∙ sym b
  one_of_wrong f g (bytes n a h x) (words y k) = absurd (not_both l.text y x)
  one_of_wrong f g (words x h) (bytes m b k y) = absurd (not_both l.text x y)
  one_of_wrong f g (words x h) (words y k) = one_wrong rows (parameters_in before) (parameter_of l) f g h k

  line_one : (f g : QueryFault) → RefusesLine rows before l f → RefusesLine rows before l g → f ≡ g
  line_one f g h k = one_of_wrong f g (wrong f h) (wrong g k)

selection_apart : (before : List Numbered) (l : Numbered) (fault : QueryFault) → TakesSelection before l → RefusesSelection before l fault → ⊥
selection_apart before l (Line n) h k = k.1 h.0 h.1
selection_apart before l (Unknown n) h k = k
selection_apart before l (Repeated n) h k = k
selection_apart before l (OutOfScope n) h k = k
selection_apart before l (Value n) h k = k
selection_apart before l TooMany h k = k
selection_apart before l Order h k = k
selection_apart before l NoLine h k = k
selection_apart before l OutOfMemory h k = k

line_number : (before : List Numbered) (l : Numbered) (fault : QueryFault) → RefusesSelection before l fault → fault ≡ Line l.number
line_number before l (Line n) h = ap Line h.0
line_number before l (Unknown n) h = absurd h
line_number before l (Repeated n) h = absurd h
line_number before l (OutOfScope n) h = absurd h
line_number before l (Value n) h = absurd h
line_number before l TooMany h = absurd h
line_number before l Order h = absurd h
line_number before l NoLine h = absurd h
line_number before l OutOfMemory h = absurd h

selection_one : (before : List Numbered) (l : Numbered) (f g : QueryFault) → RefusesSelection before l f → RefusesSelection before l g → f ≡ g
selection_one before l f g h k = line_number before l f h ∙ sym (line_number before l g k)

no_front_fault : (options : List Named) (ls : List Numbered) (f : QueryFault) → AreTaken (TakesLine options) [] ls → IsFirstRefusal (TakesLine options) (RefusesLine options) ls f → ⊥
no_front_fault options ls f all h =
    none_refused (TakesLine options) (RefusesLine options) (λ before l fault t r. line_apart options before l fault t r) (λ before l a b x y. line_one options before l a b x y) ls f all h

one_front_fault : (options : List Named) (ls : List Numbered) (f g : QueryFault) → IsFirstRefusal (TakesLine options) (RefusesLine options) ls f
    → IsFirstRefusal (TakesLine options) (RefusesLine options) ls g → f ≡ g
one_front_fault options ls f g h k =
    one_refused (TakesLine options) (RefusesLine options) (λ before l fault t r. line_apart options before l fault t r) (λ before l a b x y. line_one options before l a b x y) ls f g h k

no_rest_fault : (ls : List Numbered) (f : QueryFault) → AreTaken TakesSelection [] ls → IsFirstRefusal TakesSelection RefusesSelection ls f → ⊥
no_rest_fault ls f all h = none_refused TakesSelection RefusesSelection selection_apart selection_one ls f all h

one_rest_fault : (ls : List Numbered) (f g : QueryFault) → IsFirstRefusal TakesSelection RefusesSelection ls f → IsFirstRefusal TakesSelection RefusesSelection ls g → f ≡ g
one_rest_fault ls f g h k = one_refused TakesSelection RefusesSelection selection_apart selection_one ls f g h k

pub one_fields : (fields : List Text) (f g : Fields) → AreSix fields f → AreSix fields g → f ≡ g
one_fields fields f g h k =
    let e : f.network ∷ f.station ∷ f.location ∷ f.channel ∷ f.start ∷ f.end ∷ [] ≡ g.network ∷ g.station ∷ g.location ∷ g.channel ∷ g.start ∷ g.end ∷ [] = sym h ∙ k in
    let network : f.network ≡ g.network = cc in
    let station : f.station ≡ g.station = cc in
    let location : f.location ≡ g.location = cc in
    let channel : f.channel ≡ g.channel = cc in
    let start : f.start ≡ g.start = cc in
    let end : f.end ≡ g.end = cc in
    λ i. record { network = network i; station = station i; location = location i; channel = channel i; start = start i; end = end i }

of_fields : (f : Fields) (s t : Selection) → AreFields f s → AreFields f t → s ≡ t
of_fields f s t h k =
    let network = one_list Network f.network s.network t.network h.code_fields.network_is k.code_fields.network_is in
    let station = one_list Station f.station s.station t.station h.code_fields.station_is k.code_fields.station_is in
    let location = one_list Location f.location s.location t.location h.code_fields.location_is k.code_fields.location_is in
    let channel = one_list Channel f.channel s.channel t.channel h.code_fields.channel_is k.code_fields.channel_is in
    let start = one_limit (limit_text f.start) s.start t.start h.window.start_is k.window.start_is in
    let end = one_limit (limit_text f.end) s.end t.end h.window.end_is k.window.end_is in
    λ i. record { network = network i; station = station i; location = location i; channel = channel i; start = start i; end = end i }

one_selection : (text : Text) (s t : Selection) → IsSelection text s → IsSelection text t → s ≡ t
one_selection text s t h k =
    let same = one_fields _ k.fields h.fields k.fields_are h.fields_are in
    of_fields h.fields s t h.spells (subst (λ (f : Fields). AreFields f t) same k.spells)

pub one_selections : (ls : List Numbered) (ss ts : List Selection) → AreSelections ls ss → AreSelections ls ts → ss ≡ ts
one_selections [] [] [] h k = refl
one_selections [] [] (t ∷ ts) h k = absurd k
one_selections [] (s ∷ ss) ts h k = absurd h
one_selections (l ∷ ls) [] ts h k = absurd h
one_selections (l ∷ ls) (s ∷ ss) [] h k = absurd k
one_selections (l ∷ ls) (s ∷ ss) (t ∷ ts) h k =
    let first = one_selection l.text s t h.0 k.0 in
    let others = one_selections ls ss ts h.1 k.1 in
    λ i. first i ∷ others i

-- a method, and what it calls limits in no order
module _ (options : List Named) (Turned : Text → Type 0) where
  -- a fault is too many lines, the first wrong one, the order, or that none selects
  data Why (body : Text) (fault : QueryFault) : Type 0 where
    many : fault ≡ TooMany → (1000 < length (parameter_lines body)) ⊎ (10_000 < length (selection_lines body)) → Why body fault
    line : IsFirstWrongLine options body fault → Why body fault
    order : fault ≡ Order → IsRightBody options body → Turned body → Why body fault
    none : fault ≡ NoLine → IsRightBody options body → ¬ (Turned body) → selection_lines body ≡ [] → Why body fault

  why : (body : Text) (fault : QueryFault) → IsBodyFaultBy options Turned body fault → Why body fault
  why body TooMany h = many refl h
  why body (Unknown n) h = line h
  why body (Repeated n) h = line h
  why body (OutOfScope n) h = line h
  why body (Value n) h = line h
  why body (Line n) h = line h
  why body Order h = order refl h.0 h.1
  why body NoLine h = none refl h.0 h.1 h.2
  why body OutOfMemory h = absurd h

  not_many : (body : Text) → AreFew body → (1000 < length (parameter_lines body)) ⊎ (10_000 < length (selection_lines body)) → ⊥
  not_many body few (inl more) = omega (arith, few.parameters, more)
  not_many body few (inr more) = omega (arith, few.selections, more)

  not_wrong : (body : Text) (fault : QueryFault) → IsRightBody options body → IsWrongFront options body fault ⊎ IsWrongRest options body fault → ⊥
  not_wrong body fault right (inl h) = no_front_fault options (parameter_lines body) fault right.right.taken h
  not_wrong body fault right (inr h) = no_rest_fault (selection_lines body) fault right.rest h.first

  one_line : (body : Text) (f g : QueryFault) → IsWrongFront options body f ⊎ IsWrongRest options body f → IsWrongFront options body g ⊎ IsWrongRest options body g → f ≡ g
  one_line body f g (inl h) (inl k) = one_front_fault options (parameter_lines body) f g h k
  one_line body f g (inl h) (inr k) = absurd (no_front_fault options (parameter_lines body) f k.taken h)
  one_line body f g (inr h) (inl k) = absurd (no_front_fault options (parameter_lines body) g h.taken k)
  one_line body f g (inr h) (inr k) = one_rest_fault (selection_lines body) f g h.first k.first

  one_why : (body : Text) (f g : QueryFault) → Why body f → Why body g → f ≡ g
  one_why body f g (many a h) (many b k) = a ∙ sym b
  one_why body f g (many a h) (line k) = absurd (not_many body k.few h)
  one_why body f g (many a h) (order b k t) = absurd (not_many body k.right.few h)
  one_why body f g (many a h) (none b k t e) = absurd (not_many body k.right.few h)
  one_why body f g (line h) (many b k) = absurd (not_many body h.few k)
  one_why body f g (line h) (line k) = one_line body f g h.first k.first
  one_why body f g (line h) (order b k t) = absurd (not_wrong body f k h.first)
  one_why body f g (line h) (none b k t e) = absurd (not_wrong body f k h.first)
  one_why body f g (order a h t) (many b k) = absurd (not_many body h.right.few k)
  one_why body f g (order a h t) (line k) = absurd (not_wrong body g h k.first)
  one_why body f g (order a h t) (order b k u) = a ∙ sym b
  one_why body f g (order a h t) (none b k u e) = absurd (u t)
  one_why body f g (none a h t e) (many b k) = absurd (not_many body h.right.few k)
  one_why body f g (none a h t e) (line k) = absurd (not_wrong body g h k.first)
  one_why body f g (none a h t e) (order b k u) = absurd (t u)
  one_why body f g (none a h t e) (none b k u d) = a ∙ sym b

  pub one_fault : (body : Text) (f g : QueryFault) → IsBodyFaultBy options Turned body f → IsBodyFaultBy options Turned body g → f ≡ g
  one_fault body f g h k = one_why body f g (why body f h) (why body g k)

  no_why : (body : Text) (fault : QueryFault) → IsRightBody options body → ¬ (Turned body) → 0 < length (selection_lines body) → Why body fault → ⊥
  no_why body fault right ordered some (many a k) = not_many body right.right.few k
  no_why body fault right ordered some (line k) = not_wrong body fault right k.first
  no_why body fault right ordered some (order a k t) = ordered t
  no_why body fault right ordered some (none a k t e) = let empty = ap length e in omega (arith, some, empty)

  -- a right body whose limits are in order and that selects has no fault
  pub no_fault : (body : Text) (fault : QueryFault) → IsRightBody options body → ¬ (Turned body) → 0 < length (selection_lines body) → IsBodyFaultBy options Turned body fault → ⊥
  no_fault body fault right ordered some k = no_why body fault right ordered some (why body fault k)

  -- what a reader that may want memory refuses, the definition does
  pub refused_or_starved : {Q : Type 0} (Is : Q → Type 0) (body : Text)
      → ((answer : Result Q QueryFault) → MatchResult answer Is (IsBodyFaultBy options Turned body) → IsOnly Is (IsBodyFaultBy options Turned body) answer) → (fault : QueryFault) → RefusesBodyBy options Turned body fault
      → (fault ≡ OutOfMemory) ⊎ IsOnly Is (IsBodyFaultBy options Turned body) (Err fault)
  refused_or_starved Is body only TooMany h = inr (only (Err TooMany) h)
  refused_or_starved Is body only (Unknown n) h = inr (only (Err (Unknown n)) h)
  refused_or_starved Is body only (Repeated n) h = inr (only (Err (Repeated n)) h)
  refused_or_starved Is body only (OutOfScope n) h = inr (only (Err (OutOfScope n)) h)
  refused_or_starved Is body only (Value n) h = inr (only (Err (Value n)) h)
  refused_or_starved Is body only (Line n) h = inr (only (Err (Line n)) h)
  refused_or_starved Is body only Order h = inr (only (Err Order) h)
  refused_or_starved Is body only NoLine h = inr (only (Err NoLine) h)
  refused_or_starved Is body only OutOfMemory h = inl refl
