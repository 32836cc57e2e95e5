-- A line spells one set of values or has one fault.
use Rattle.std.proofs.Common.{◌≡◌, ◌⊎◌, inl, inr, ℕ, zero, suc, ◌+◌, Bool, true, false, cond, ℤ, ◌<ℤ◌, ◌≤ℤ◌, int_lt, List, [], ◌∷◌, ◌++◌, length, Option, Some, None, Result, Ok, Err, MatchResult, refl, sym, ap, subst, ◌∙◌, codes, arith}
use Rattle.std.specs.Str.{is_utf8, bytes_eq}
use Rattle.std.proofs.lemmas.Bool.{cases_Bool, cases_lt, cases_eq, both_ways}
use Rattle.std.proofs.lemmas.Int.{ints}
use Rattle.std.proofs.lemmas.Str.{IsUtf8-from_is_utf8, is_utf8-from_IsUtf8}
use Rattle.std.proofs.lemmas.Slice.Eq.{bytes_eq-Decides}
use Rattle.epochs.specs.declared.fault.LineFault.{LineFault}
use Rattle.epochs.specs.declared.fault.LineFault.TheVariants as fault
use Rattle.epochs.specs.declared.kinds.LineKind.{LineKind}
use Rattle.epochs.specs.declared.kinds.LineKind.TheVariants.{Net, Sta, Cha, Evt, Rst, Grt, Usr, Wdr}
use Rattle.epochs.specs.declared.kinds.Head.{Head}
use Rattle.epochs.specs.declared.kinds.Head.TheVariants.{Says, Deletes}
use Rattle.epochs.specs.Kinds.{Text, FieldKind, name_of, head_texts, fields_behind}
use Rattle.epochs.specs.Fields.{Value, has_control}
use Rattle.epochs.specs.Lines.{LineValues, line_values, IsPlain, texts_of, HasHead, AreValues, start_of, end_of, IsAfter, IsInOrder, IsLine, IsFirstBadField, HasNoKind, IsLineFault}
use Rattle.epochs.proofs.OneField.{one_value, field_found}

-- the kind that a text names, and the head that texts begin with
abbrev kind_of : Text → Option LineKind
kind_of text =
    cond (bytes_eq text (codes "NET")) (Some Net) (
    cond (bytes_eq text (codes "STA")) (Some Sta) (
    cond (bytes_eq text (codes "CHA")) (Some Cha) (
    cond (bytes_eq text (codes "EVT")) (Some Evt) (
    cond (bytes_eq text (codes "RST")) (Some Rst) (
    cond (bytes_eq text (codes "GRT")) (Some Grt) (
    cond (bytes_eq text (codes "USR")) (Some Usr) (
    cond (bytes_eq text (codes "WDR")) (Some Wdr) None)))))))

kind_is : (kind : LineKind) → kind_of (name_of kind) ≡ Some kind
kind_is Net = refl
kind_is Sta = refl
kind_is Cha = refl
kind_is Evt = refl
kind_is Rst = refl
kind_is Grt = refl
kind_is Usr = refl
kind_is Wdr = refl

named : (text : Text) (name : Text) (kind : LineKind) (rest : Option LineKind) → name ≡ name_of kind → ((k : LineKind) → rest ≡ Some k → text ≡ name_of k) → (k : LineKind) → cond (bytes_eq text name) (Some kind) rest ≡ Some k → text ≡ name_of k
named text name kind rest is later k e = by_test (bytes_eq text name) refl e
  where
    by_test : (b : Bool) → bytes_eq text name ≡ b → cond b (Some kind) rest ≡ Some k → text ≡ name_of k
    by_test true same e = let here : kind ≡ k = cc in (bytes_eq-Decides text name).0 same ∙ is ∙ ap name_of here
    by_test false other e = later k e

kind_named : (text : Text) (kind : LineKind) → kind_of text ≡ Some kind → text ≡ name_of kind
kind_named text =
    named text (codes "NET") Net _ refl (
    named text (codes "STA") Sta _ refl (
    named text (codes "CHA") Cha _ refl (
    named text (codes "EVT") Evt _ refl (
    named text (codes "RST") Rst _ refl (
    named text (codes "GRT") Grt _ refl (
    named text (codes "USR") Usr _ refl (
    named text (codes "WDR") Wdr None refl (λ k e. absurd (let f : None ≡ Some k = e in cc)))))))))

abbrev with_head : (LineKind → Head) → List Text → Option LineKind → Option (Head × List Text)
with_head head rest None = None
with_head head rest (Some kind) = Some (head kind, rest)

abbrev behind_del : List Text → Option (Head × List Text)
behind_del [] = None
behind_del (text ∷ rest) = with_head Deletes rest (kind_of text)

abbrev pub head_of : List Text → Option (Head × List Text)
head_of [] = None
head_of (text ∷ rest) = cond (bytes_eq text (codes "DEL")) (behind_del rest) (with_head Says rest (kind_of text))

head_is : (head : Head) (rest : List Text) → head_of (head_texts head ++ rest) ≡ Some (head, rest)
head_is (Says Net) rest = refl
head_is (Says Sta) rest = refl
head_is (Says Cha) rest = refl
head_is (Says Evt) rest = refl
head_is (Says Rst) rest = refl
head_is (Says Grt) rest = refl
head_is (Says Usr) rest = refl
head_is (Says Wdr) rest = refl
head_is (Deletes kind) rest = ap (with_head Deletes rest) (kind_is kind)

said_by : (text : Text) (texts : List Text) (o : Option LineKind) → kind_of text ≡ o → (h : Head × List Text) → with_head Says texts o ≡ Some h → text ∷ texts ≡ head_texts h.0 ++ h.1
said_by text texts None is h e = absurd (let f : None ≡ Some h = e in cc)
said_by text texts (Some kind) is h e =
    let same : ◌≡◌ {A = Head × List Text} (Says kind, texts) h = cc in
    ap (λ (t : Text). t ∷ texts) (kind_named text kind is) ∙ ap (λ (g : Head × List Text). head_texts g.0 ++ g.1) same

deleted_by : (text : Text) (texts : List Text) (o : Option LineKind) → kind_of text ≡ o → (h : Head × List Text) → with_head Deletes texts o ≡ Some h → codes "DEL" ∷ text ∷ texts ≡ head_texts h.0 ++ h.1
deleted_by text texts None is h e = absurd (let f : None ≡ Some h = e in cc)
deleted_by text texts (Some kind) is h e =
    let same : ◌≡◌ {A = Head × List Text} (Deletes kind, texts) h = cc in
    ap (λ (t : Text). codes "DEL" ∷ t ∷ texts) (kind_named text kind is) ∙ ap (λ (g : Head × List Text). head_texts g.0 ++ g.1) same

deleted : (texts : List Text) (h : Head × List Text) → behind_del texts ≡ Some h → codes "DEL" ∷ texts ≡ head_texts h.0 ++ h.1
deleted [] h e = absurd (let f : None ≡ Some h = e in cc)
deleted (text ∷ texts) h e = deleted_by text texts (kind_of text) refl h e

split_by : (text : Text) (texts : List Text) (b : Bool) → bytes_eq text (codes "DEL") ≡ b → (h : Head × List Text) → cond b (behind_del texts) (with_head Says texts (kind_of text)) ≡ Some h → text ∷ texts ≡ head_texts h.0 ++ h.1
split_by text texts true is h e = ap (λ (t : Text). t ∷ texts) ((bytes_eq-Decides text (codes "DEL")).0 is) ∙ deleted texts h e
split_by text texts false is h e = said_by text texts (kind_of text) refl h e

head_split : (texts : List Text) (h : Head × List Text) → head_of texts ≡ Some h → texts ≡ head_texts h.0 ++ h.1
head_split [] h e = absurd (let f : None ≡ Some h = e in cc)
head_split (text ∷ texts) h e = split_by text texts (bytes_eq text (codes "DEL")) refl h e

-- texts begin with one head at most
one_head : (texts : List Text) (g h : Head) (rest other : List Text) → texts ≡ head_texts g ++ rest → texts ≡ head_texts h ++ other → ◌≡◌ {A = Head × List Text} (g, rest) (h, other)
one_head texts g h rest other e f =
    let same : ◌≡◌ {A = Option (Head × List Text)} (Some (g, rest)) (Some (h, other)) = sym (head_is g rest) ∙ ap head_of (sym e ∙ f) ∙ head_is h other in
    cc

pub no_head : (texts : List Text) → head_of texts ≡ None → (head : Head) (rest : List Text) → ¬ (texts ≡ head_texts head ++ rest)
no_head texts is head rest e = let none : ◌≡◌ {A = Option (Head × List Text)} None (Some (head, rest)) = sym is ∙ ap head_of e ∙ head_is head rest in cc

head_found : (texts : List Text) → ((h : Head × List Text) × (texts ≡ head_texts h.0 ++ h.1)) ⊎ ((head : Head) (rest : List Text) → ¬ (texts ≡ head_texts head ++ rest))
head_found texts = by_head (head_of texts) refl
  where
    by_head : (o : Option (Head × List Text)) → head_of texts ≡ o → ((h : Head × List Text) × (texts ≡ head_texts h.0 ++ h.1)) ⊎ ((head : Head) (rest : List Text) → ¬ (texts ≡ head_texts head ++ rest))
    by_head (Some h) is = inl (h, head_split texts h is)
    by_head None is = inr (no_head texts is)

plain_or_not : (text : Text) → IsPlain text ⊎ (¬ (IsPlain text))
plain_or_not text =
    elim (cases_lt 4000 (length text)) [
      | inl long ↦ inr (λ h. omega (arith, h.short, long))
      | inr short ↦ elim (cases_Bool (is_utf8 text)) [
        | inr broken ↦ inr (λ h. both_ways (is_utf8 text) broken (is_utf8-from_IsUtf8 text h.utf8))
        | inl utf8 ↦ elim (cases_Bool (has_control text)) [
          | inl control ↦ inr (λ h. both_ways (has_control text) h.printable control)
          | inr printable ↦ inl (record { short = short; utf8 = IsUtf8-from_is_utf8 text utf8; printable = printable })
        ]
      ]
    ]

one_values : (kinds : List FieldKind) (texts : List Text) (vs ws : List Value) → AreValues kinds texts vs → AreValues kinds texts ws → vs ≡ ws
one_values [] [] [] [] h k = refl
one_values (kind ∷ kinds) (text ∷ texts) (v ∷ vs) (w ∷ ws) h k =
    let first = one_value kind text v w h.0 k.0 in
    let others = one_values kinds texts vs ws h.1 k.1 in
    λ i. first i ∷ others i
one_values (kind ∷ kinds) (text ∷ texts) (v ∷ vs) [] h k = absurd k
one_values [] [] [] (w ∷ ws) h k = absurd k
one_values _ _ _ ws h k = absurd h

values_count : (kinds : List FieldKind) (texts : List Text) (values : List Value) → AreValues kinds texts values → length texts ≡ length kinds
values_count [] [] [] h = refl
values_count (kind ∷ kinds) (text ∷ texts) (v ∷ values) h = omega (arith, values_count kinds texts values h.1)
values_count _ _ _ h = absurd h

-- not all of them spell values where one is the first bad
values_or_bad : (kinds : List FieldKind) (texts : List Text) (values : List Value) (count : ℕ) → AreValues kinds texts values → IsFirstBadField kinds texts count → ⊥
values_or_bad (kind ∷ kinds) (text ∷ texts) (v ∷ values) zero h k = k v h.0
values_or_bad (kind ∷ kinds) (text ∷ texts) (v ∷ values) (suc count) h k = values_or_bad kinds texts values count h.1 k.1
values_or_bad [] [] [] count h k = k
values_or_bad _ _ _ count h k = h

one_bad : (kinds : List FieldKind) (texts : List Text) (m n : ℕ) → IsFirstBadField kinds texts m → IsFirstBadField kinds texts n → m ≡ n
one_bad (kind ∷ kinds) (text ∷ texts) zero zero h k = refl
one_bad (kind ∷ kinds) (text ∷ texts) zero (suc n) h k = absurd (h k.0.0 k.0.1)
one_bad (kind ∷ kinds) (text ∷ texts) (suc m) zero h k = absurd (k h.0.0 h.0.1)
one_bad (kind ∷ kinds) (text ∷ texts) (suc m) (suc n) h k = ap suc (one_bad kinds texts m n h.1 k.1)
one_bad [] texts m n h k = absurd h
one_bad (kind ∷ kinds) [] m n h k = absurd h

values_found : (kinds : List FieldKind) (texts : List Text) → length texts ≡ length kinds → ((values : List Value) × AreValues kinds texts values) ⊎ ((count : ℕ) × IsFirstBadField kinds texts count)
values_found [] [] e = inl ([], tt)
values_found (kind ∷ kinds) (text ∷ texts) e =
    elim (field_found kind text) [
      | inr none ↦ inr (0, none)
      | inl can ↦ elim (values_found kinds texts (omega (arith, e))) [
        | inl found ↦ inl (can.0 ∷ found.0, (can.1, found.1))
        | inr bad ↦ inr (suc bad.0, (can, bad.1))
      ]
    ]
values_found [] (text ∷ texts) e = absurd (omega (arith, e))
values_found (kind ∷ kinds) [] e = absurd (omega (arith, e))

before_or_not : (a b : ℤ) → (a <ℤ b) ⊎ (¬ (a <ℤ b))
before_or_not a b =
    elim (cases_Bool (int_lt a b)) [
      | inl before ↦ inl (before_by before)
      | inr after ↦ inr (λ h. let other = after_by after in omega (arith, ints, h, other))
    ]
  where
    before_by : int_lt a b ≡ true → a <ℤ b
    before_by h = grind (arith, ints)

    after_by : int_lt a b ≡ false → b ≤ℤ a
    after_by h = grind (arith, ints)

order_found : (start stop : Option ℤ) → IsAfter start stop ⊎ (¬ (IsAfter start stop))
order_found (Some start) (Some stop) = before_or_not start stop
order_found (Some start) None = inl tt
order_found None stop = inl tt

-- what stands behind a head, and the answer that it gives
data Behind (head : Head) (rest : List Text) (answer : Result LineValues LineFault) : Type 0 where
  fields : answer ≡ Err fault.Fields → ¬ (length rest ≡ length (fields_behind head)) → Behind head rest answer
  value : (count : ℕ) → answer ≡ Err (fault.Value (length (head_texts head) + count + 1)) → length rest ≡ length (fields_behind head) → IsFirstBadField (fields_behind head) rest count → Behind head rest answer
  order : answer ≡ Err fault.Order → (values : List Value) → AreValues (fields_behind head) rest values → ¬ (IsInOrder values) → Behind head rest answer
  line : (values : List Value) → answer ≡ Ok (line_values head values) → AreValues (fields_behind head) rest values → IsInOrder values → Behind head rest answer

module _ (head : Head) (rest : List Text) (a b : Result LineValues LineFault) where
  one_behind : Behind head rest a → Behind head rest b → a ≡ b
  one_behind (fields e h) (fields f k) = e ∙ sym f
  one_behind (fields e h) (value n f k l) = absurd (h k)
  one_behind (fields e h) (order f vs k l) = absurd (h (values_count (fields_behind head) rest vs k))
  one_behind (fields e h) (line vs f k l) = absurd (h (values_count (fields_behind head) rest vs k))
  one_behind (value m e h i) (fields f k) = absurd (k h)
  one_behind (value m e h i) (value n f k l) = e ∙ ap (λ (c : ℕ). Err (fault.Value (length (head_texts head) + c + 1))) (one_bad (fields_behind head) rest m n i l) ∙ sym f
  one_behind (value m e h i) (order f vs k l) = absurd (values_or_bad (fields_behind head) rest vs m k i)
  one_behind (value m e h i) (line vs f k l) = absurd (values_or_bad (fields_behind head) rest vs m k i)
  one_behind (order e vs h i) (fields f k) = absurd (k (values_count (fields_behind head) rest vs h))
  one_behind (order e vs h i) (value n f k l) = absurd (values_or_bad (fields_behind head) rest vs n h l)
  one_behind (order e vs h i) (order f ws k l) = e ∙ sym f
  one_behind (order e vs h i) (line ws f k l) = absurd (i (subst IsInOrder (one_values (fields_behind head) rest ws vs k h) l))
  one_behind (line vs e h i) (fields f k) = absurd (k (values_count (fields_behind head) rest vs h))
  one_behind (line vs e h i) (value n f k l) = absurd (values_or_bad (fields_behind head) rest vs n h l)
  one_behind (line vs e h i) (order f ws k l) = absurd (l (subst IsInOrder (one_values (fields_behind head) rest vs ws h k) i))
  one_behind (line vs e h i) (line ws f k l) = e ∙ ap (λ (xs : List Value). Ok (line_values head xs)) (one_values (fields_behind head) rest vs ws h k) ∙ sym f

-- how far a line is right, and the answer that this gives
data Reach (text : Text) (answer : Result LineValues LineFault) : Type 0 where
  form : answer ≡ Err fault.Form → ¬ (IsPlain text) → Reach text answer
  kind : answer ≡ Err fault.LineKind → HasNoKind text → Reach text answer
  behind : (head : Head) (rest : List Text) → HasHead text head rest → Behind head rest answer → Reach text answer

reach : (text : Text) (answer : Result LineValues LineFault) → MatchResult answer (IsLine text) (IsLineFault text) → Reach text answer
reach text (Ok e) h = behind e.head h.rest h.has_head (line e.values refl h.spells h.in_order)
reach text (Err fault.NoLine) h = absurd h
reach text (Err fault.Form) h = form refl h
reach text (Err fault.LineKind) h = kind refl h
reach text (Err fault.Fields) h = behind h.head h.rest h.has_head (fields refl h.other)
reach text (Err (fault.Value n)) h = behind h.head h.rest h.has_head (value h.count (ap (λ (m : ℕ). Err (fault.Value m)) h.number_is) h.as_many h.first)
reach text (Err fault.Order) h = behind h.head h.rest h.has_head (order refl h.values h.spells h.backward)

one_reach : (text : Text) (a b : Result LineValues LineFault) → Reach text a → Reach text b → a ≡ b
one_reach text a b (form e h) (form f k) = e ∙ sym f
one_reach text a b (form e h) (kind f k) = absurd (h k.is_plain)
one_reach text a b (form e h) (behind head rest k l) = absurd (h k.is_plain)
one_reach text a b (kind e h) (form f k) = absurd (k h.is_plain)
one_reach text a b (kind e h) (kind f k) = e ∙ sym f
one_reach text a b (kind e h) (behind head rest k l) = absurd (h.none head rest k.split)
one_reach text a b (behind head rest h i) (form f k) = absurd (k h.is_plain)
one_reach text a b (behind head rest h i) (kind f k) = absurd (k.none head rest h.split)
one_reach text a b (behind head rest h i) (behind other ends k l) =
    one_behind other ends a b (subst (λ (g : Head × List Text). Behind g.0 g.1 a) (one_head (texts_of text) head other rest ends h.split k.split) i) l

-- a line has one right answer
pub one_line_answer : (text : Text) (a b : Result LineValues LineFault) → MatchResult a (IsLine text) (IsLineFault text) → MatchResult b (IsLine text) (IsLineFault text) → a ≡ b
one_line_answer text a b h k = one_reach text a b (reach text a h) (reach text b k)

abbrev Answer : Text → Type 0
Answer text = (answer : Result LineValues LineFault) × MatchResult answer (IsLine text) (IsLineFault text)

behind_found : (text : Text) (head : Head) (rest : List Text) → HasHead text head rest → Answer text
behind_found text head rest h =
    elim (cases_eq (length rest) (length (fields_behind head))) [
      | inr other ↦ (Err fault.Fields, record { head = head; rest = rest; has_head = h; other = other })
      | inl as_many ↦ elim (values_found (fields_behind head) rest as_many) [
        | inr bad ↦ (Err (fault.Value (length (head_texts head) + bad.0 + 1)), record { head = head; rest = rest; has_head = h; as_many = as_many; count = bad.0; first = bad.1; number_is = refl })
        | inl found ↦ elim (order_found (start_of found.0) (end_of found.0)) [
          | inl in_order ↦ (Ok (line_values head found.0), record { rest = rest; has_head = h; spells = found.1; in_order = in_order })
          | inr backward ↦ (Err fault.Order, record { head = head; rest = rest; has_head = h; values = found.0; spells = found.1; backward = backward })
        ]
      ]
    ]

-- and it has one
pub line_answer : (text : Text) → Answer text
line_answer text =
    elim (plain_or_not text) [
      | inr other ↦ (Err fault.Form, other)
      | inl plain ↦ elim (head_found (texts_of text)) [
        | inr none ↦ (Err fault.LineKind, record { is_plain = plain; none = none })
        | inl found ↦ behind_found text found.0.0 found.0.1 (record { is_plain = plain; split = found.1 })
      ]
    ]
