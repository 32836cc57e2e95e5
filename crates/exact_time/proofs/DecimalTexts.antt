-- A text is a decimal in one way at most, and the reader's steps find it.
use Rattle.std.proofs.Common.{◌≡◌, ℕ, suc, ◌+◌, ◌<◌, ◌≤◌, ◌==◌, ◌||◌, not, Bool, true, false, cond, if◌then◌else◌, nat_lt, List, [], ◌∷◌, ◌++◌, length, take, drop, get_or, position, Option, Some, None, Result, Ok, Err, MatchResult, ℤ, pos, neg_ℤ, refl, sym, ap, subst, ◌∙◌, arith, add-one, drop-cons, length-take, length-drop, length-append, unsigned_abs}
use Rattle.std.specs.List.{list_all, position_or_len}
use Rattle.std.specs.Char.{is_ascii_digit}
use Rattle.std.proofs.lemmas.Bool.{and_parts, or_parts}
use Rattle.std.proofs.lemmas.Bool.Decides.{nat_tests}
use Rattle.std.proofs.lemmas.List.Quantifiers.{position-Some}
use Rattle.std.proofs.lemmas.List.{append-nil, append_assoc, take-append-drop, get_or-take}
use Rattle.std.proofs.lemmas.List.Sums.{fails_before_first, passes_at_first}
use Rattle.std.specs.Coded.{le_prop}
use mathlib.Core.HLevel.{is_prop→PathP}
use Rattle.list_laws.specs.Only.{IsOnly}
use Rattle.list_laws.proofs.Answers.{only_from}
use Rattle.exact_time.specs.declared.decimal.Decimal.{Decimal}
use Rattle.exact_time.specs.MomentText.{point, hyphen}
use Rattle.exact_time.specs.Decimals.{plus, Sign, Unsigned, Plus, Minus, sign_text, with_sign, behind_whole, IsDecimalForm, IsDecimal, RefusesDecimal, millionths_of}
use Rattle.exact_time.specs.DecimalSteps.{are_digits, parts_of, cut_at, unsigned_of, signed, decimal_of}
use Rattle.exact_time.specs.declared.moment.TimeFault.{TimeFault}
use Rattle.exact_time.specs.declared.moment.TimeFault.TheVariants.{Form, Range}
use Rattle.exact_time.proofs.Digits.{in_range, digit_at}

abbrev is_point : ℕ → Bool
is_point c = c == point

abbrev NoPoint : List ℕ → Type 0
NoPoint text = (k : ℕ) → k < length text → is_point (get_or text k 0) ≡ false

-- nothing, or what begins with a point
abbrev IsTail : List ℕ → Type 0
IsTail [] = Unit {0}
IsTail (c ∷ cs) = c ≡ point

not_point : (c : ℕ) → is_point c ≡ false → c ≡ point → ⊥
not_point c h e = let same : is_point c ≡ true = ap is_point e in cc

-- of two cuts before the first point, one is the other
one_cut : (a b s t : List ℕ) → NoPoint a → NoPoint b → IsTail s → IsTail t → a ++ s ≡ b ++ t → (a ≡ b) × (s ≡ t)
one_cut [] [] s t a_has b_has s_is t_is e = (refl, e)
one_cut [] (c ∷ b) [] t a_has b_has s_is t_is e = cc
one_cut [] (c ∷ b) (d ∷ s) t a_has b_has s_is t_is e = absurd (not_point c (b_has 0 (omega arith)) (let same : d ≡ c = cc in sym same ∙ s_is))
one_cut (c ∷ a) [] s [] a_has b_has s_is t_is e = cc
one_cut (c ∷ a) [] s (d ∷ t) a_has b_has s_is t_is e = absurd (not_point c (a_has 0 (omega arith)) (let same : c ≡ d = cc in same ∙ t_is))
one_cut (c ∷ a) (d ∷ b) s t a_has b_has s_is t_is e =
    let first : c ≡ d = cc in
    let rest : a ++ s ≡ b ++ t = cc in
    let p = one_cut a b s t (λ k h. a_has (suc k) (omega arith)) (λ k h. b_has (suc k) (omega arith)) s_is t_is rest in
    (cc (p.0, first), p.1)

digits_no_point : (text : List ℕ) → list_all is_ascii_digit text ≡ true → NoPoint text
digits_no_point text h k lt = let r = digit_at text k h lt in grind (arith, nat_tests)

behind_is_tail : (decimals : List ℕ) → IsTail (behind_whole decimals)
behind_is_tail [] = tt
behind_is_tail (c ∷ cs) = refl

same_behind : (a b : List ℕ) → behind_whole a ≡ behind_whole b → a ≡ b
same_behind [] [] e = refl
same_behind [] (d ∷ b) e = cc
same_behind (c ∷ a) [] e = cc
same_behind (c ∷ a) (d ∷ b) e = cc

-- where the first point is
abbrev IsPlace : List ℕ → Option ℕ → Type 0
IsPlace text None = NoPoint text
IsPlace text (Some i) = NoPoint (take i text) × (text ≡ take i text ++ point ∷ drop (i + 1) text)

split_at : (text : List ℕ) (i : ℕ) → i < length text → text ≡ take i text ++ get_or text i 0 ∷ drop (i + 1) text
split_at text i lt = sym (rw (add-one, ← drop-cons text i 0) (take-append-drop i text))

front_no_point : (text : List ℕ) (i : ℕ) → ((k : ℕ) → k < i → is_point (get_or text k 0) ≡ false) → NoPoint (take i text)
front_no_point text i none k lt =
    let short : k < i = omega (arith, length-take i text) in
    rw (get_or-take i text k 0 short) (none k short)

a_point : (c : ℕ) → is_point c ≡ true → c ≡ point
a_point c h = grind (arith, nat_tests)

place_at : (text : List ℕ) → IsPlace text (position is_point text)
place_at text =
    let i : ℕ = position_or_len is_point text in
    let before = λ (k : ℕ) (h : k < i). fails_before_first is_point text k 0 h in
    elim (nat_lt i (length text)) as (λ b. nat_lt i (length text) ≡ b → IsPlace text (cond b (Some i) None)) [
      | true ↦ λ e.
          let lt : i < length text = grind (arith, nat_tests) in
          let here = a_point (get_or text i 0) (passes_at_first is_point text 0 lt) in
          (front_no_point text i before, subst (λ (c : ℕ). text ≡ take i text ++ c ∷ drop (i + 1) text) here (split_at text i lt))
      | false ↦ λ e k h. before k (let ge : length text ≤ i = grind (arith, nat_tests) in omega arith)
    ] refl

-- the forms of a text without a sign
abbrev IsUnsigned : List ℕ → ℕ → Type 0
IsUnsigned text n =
    (whole : List ℕ) × (decimals : List ℕ) × IsDecimalForm text Unsigned whole decimals × (length whole ≤ 18)
    × (n ≡ millionths_of whole decimals)

abbrev RefusesUnsigned : List ℕ → TimeFault → Type 0
RefusesUnsigned text Form = (whole decimals : List ℕ) → IsDecimalForm text Unsigned whole decimals → ⊥
RefusesUnsigned text Range = (whole : List ℕ) × (decimals : List ℕ) × IsDecimalForm text Unsigned whole decimals × (18 < length whole)

-- a text that is cut before its first point has no other parts
same_parts : (text front tail whole decimals : List ℕ) → NoPoint front → IsTail tail → text ≡ front ++ tail → IsDecimalForm text Unsigned whole decimals → (whole ≡ front) × (behind_whole decimals ≡ tail)
same_parts text front tail whole decimals none tail_is e form =
    one_cut whole front (behind_whole decimals) tail (digits_no_point whole form.whole_digits) none (behind_is_tail decimals) tail_is (sym form.text_is ∙ e)

abbrev fails : List ℕ → List ℕ → Bool
fails whole decimals = length whole == 0 || nat_lt 6 (length decimals) || not (are_digits whole) || not (are_digits decimals)

fails_not : (whole decimals : List ℕ) → 1 ≤ length whole → are_digits whole ≡ true → are_digits decimals ≡ true → length decimals ≤ 6 → fails whole decimals ≡ false
fails_not whole decimals some whole_in decimals_in few = rw (whole_in, decimals_in) (grind (arith, nat_tests))

not_false : (b : Bool) → not b ≡ false → b ≡ true
not_false true h = refl
not_false false h = sym h

passes : (text whole decimals : List ℕ) → text ≡ whole ++ behind_whole decimals → fails whole decimals ≡ false → IsDecimalForm text Unsigned whole decimals
passes text whole decimals e h =
    let p = or_parts (length whole == 0 || nat_lt 6 (length decimals) || not (are_digits whole)) (not (are_digits decimals)) h in
    let q = or_parts (length whole == 0 || nat_lt 6 (length decimals)) (not (are_digits whole)) p.0 in
    let r = or_parts (length whole == 0) (nat_lt 6 (length decimals)) q.0 in
    let none = r.0 in
    let few = r.1 in
    record {
      text_is = e;
      some = grind (arith, nat_tests, none);
      whole_digits = not_false _ q.1;
      decimal_digits = not_false _ p.1;
      few = grind (arith, nat_tests, few);
    }

parts_right : (text whole decimals : List ℕ) → NoPoint whole → text ≡ whole ++ behind_whole decimals → MatchResult (parts_of whole decimals) (IsUnsigned text) (RefusesUnsigned text)
parts_right text whole decimals none e =
    elim (fails whole decimals) as (λ b. fails whole decimals ≡ b → MatchResult (if b then Err Form else (if nat_lt 18 (length whole) then Err Range else Ok (millionths_of whole decimals))) (IsUnsigned text) (RefusesUnsigned text)) [
      | true ↦ λ h w d form.
          let same = same_parts text whole (behind_whole decimals) w d none (behind_is_tail decimals) e form in
          let d_is = same_behind d decimals same.1 in
          let passed : fails whole decimals ≡ false = subst (λ (x : List ℕ). fails x decimals ≡ false) same.0 (subst (λ (x : List ℕ). fails w x ≡ false) d_is (fails_not w d form.some form.whole_digits form.decimal_digits form.few)) in
          let bad : true ≡ false = sym h ∙ passed in
          cc
      | false ↦ λ h.
          let form = passes text whole decimals e h in
          elim (nat_lt 18 (length whole)) as (λ b. nat_lt 18 (length whole) ≡ b → MatchResult (if b then Err Range else Ok (millionths_of whole decimals)) (IsUnsigned text) (RefusesUnsigned text)) [
            | true ↦ λ long. (whole, decimals, form, (let lt : 18 < length whole = grind (arith, nat_tests) in lt))
            | false ↦ λ short. (whole, decimals, form, (let le : length whole ≤ 18 = grind (arith, nat_tests) in le), refl)
          ] refl
    ] refl

pointed : (c : ℕ) (cs : List ℕ) → point ∷ c ∷ cs ≡ behind_whole (c ∷ cs)
pointed c cs = refl

-- a point without a digit behind it is in no form
bare_point : (text front whole decimals : List ℕ) → NoPoint front → text ≡ front ++ point ∷ [] → IsDecimalForm text Unsigned whole decimals → ⊥
bare_point text front whole [] none e form = let same = (same_parts text front (point ∷ []) whole [] none refl e form).1 in cc
bare_point text front whole (d ∷ ds) none e form = let same = (same_parts text front (point ∷ []) whole (d ∷ ds) none refl e form).1 in cc

at_point : (text front back : List ℕ) → NoPoint front → text ≡ front ++ point ∷ back → 0 < length back → MatchResult (parts_of front back) (IsUnsigned text) (RefusesUnsigned text)
at_point text front [] none e some = absurd (omega arith)
at_point text front (c ∷ cs) none e some = parts_right text front (c ∷ cs) none e

no_bytes : (xs : List ℕ) → length xs ≡ 0 → xs ≡ []
no_bytes [] h = refl
no_bytes (x ∷ xs) h = absurd (omega arith)

append_nothing : (xs : List ℕ) → xs ≡ xs ++ []
append_nothing xs = sym (append-nil xs)

cut_right : (text : List ℕ) (o : Option ℕ) → IsPlace text o → ((i : ℕ) → o ≡ Some i → i < length text) → MatchResult (cut_at text o) (IsUnsigned text) (RefusesUnsigned text)
cut_right text None place within = parts_right text text [] place (append_nothing text)
cut_right text (Some i) place within =
    elim ((i + 1) == length text) as (λ b. ((i + 1) == length text) ≡ b → MatchResult (if b then Err Form else parts_of (take i text) (drop (i + 1) text)) (IsUnsigned text) (RefusesUnsigned text)) [
      | true ↦ λ last w d form.
          let end : i + 1 ≡ length text = grind (arith, nat_tests) in
          let empty = no_bytes (drop (i + 1) text) (omega (arith, length-drop (i + 1) text)) in
          bare_point text (take i text) w d place.0 (place.1 ∙ ap (λ (back : List ℕ). take i text ++ point ∷ back) empty) form
      | false ↦ λ more.
          let end : (i + 1 ≡ length text) → ⊥ = λ e. grind (arith, nat_tests) in
          let lt = within i refl in
          at_point text (take i text) (drop (i + 1) text) place.0 place.1 (omega (arith, length-drop (i + 1) text))
    ] refl

place_within : (text : List ℕ) (i : ℕ) → position is_point text ≡ Some i → i < length text
place_within text i h = (position-Some is_point text i 0 h).0

unsigned_right : (text : List ℕ) → MatchResult (unsigned_of text) (IsUnsigned text) (RefusesUnsigned text)
unsigned_right text = cut_right text (position is_point text) (place_at text) (place_within text)

-- the same behind a sign
first_digit : (c : ℕ) (cs whole tail : List ℕ) → 1 ≤ length whole → are_digits whole ≡ true → c ∷ cs ≡ whole ++ tail → (48 ≤ c) × (c ≤ 57)
first_digit c cs [] tail some digits e = absurd (omega arith)
first_digit c cs (w ∷ ws) tail some digits e =
    let same : w ≡ c = cc in
    let r = in_range w (and_parts (is_ascii_digit w) (are_digits ws) digits).0 in
    (omega arith, omega arith)

pub with_form : (sign : Sign) (cs whole decimals : List ℕ) → IsDecimalForm cs Unsigned whole decimals → IsDecimalForm (sign_text sign ++ cs) sign whole decimals
with_form Unsigned cs whole decimals form = form
with_form Plus cs whole decimals form = record { text_is = ap (λ (x : List ℕ). plus ∷ x) form.text_is; some = form.some; whole_digits = form.whole_digits; decimal_digits = form.decimal_digits; few = form.few }
with_form Minus cs whole decimals form = record { text_is = ap (λ (x : List ℕ). hyphen ∷ x) form.text_is; some = form.some; whole_digits = form.whole_digits; decimal_digits = form.decimal_digits; few = form.few }

without_form : (cs whole decimals : List ℕ) (sign : Sign) → IsDecimalForm (sign_text sign ++ cs) sign whole decimals → IsDecimalForm cs Unsigned whole decimals
without_form cs whole decimals Unsigned form = form
without_form cs whole decimals Plus form = record { text_is = (let e = form.text_is in cc); some = form.some; whole_digits = form.whole_digits; decimal_digits = form.decimal_digits; few = form.few }
without_form cs whole decimals Minus form = record { text_is = (let e = form.text_is in cc); some = form.some; whole_digits = form.whole_digits; decimal_digits = form.decimal_digits; few = form.few }

-- the first byte tells the sign
abbrev Begins : Sign → ℕ → Type 0
Begins Unsigned c = (48 ≤ c) × (c ≤ 57)
Begins Plus c = c ≡ plus
Begins Minus c = c ≡ hyphen

begins : (c : ℕ) (cs : List ℕ) (sign : Sign) (whole decimals : List ℕ) → IsDecimalForm (c ∷ cs) sign whole decimals → Begins sign c
begins c cs Unsigned whole decimals form = first_digit c cs whole (behind_whole decimals) form.some form.whole_digits form.text_is
begins c cs Plus whole decimals form = let e = form.text_is in cc
begins c cs Minus whole decimals form = let e = form.text_is in cc

one_sign : (c : ℕ) (s t : Sign) → Begins s c → Begins t c → s ≡ t
one_sign c Unsigned Unsigned h k = refl
one_sign c Unsigned Plus h k = absurd (omega (arith, h, k))
one_sign c Unsigned Minus h k = absurd (omega (arith, h, k))
one_sign c Plus Unsigned h k = absurd (omega (arith, h, k))
one_sign c Plus Plus h k = refl
one_sign c Plus Minus h k = absurd (omega (arith, h, k))
one_sign c Minus Unsigned h k = absurd (omega (arith, h, k))
one_sign c Minus Plus h k = absurd (omega (arith, h, k))
one_sign c Minus Minus h k = refl

no_form_of_nothing : (sign : Sign) (whole decimals : List ℕ) → IsDecimalForm [] sign whole decimals → ⊥
no_form_of_nothing sign whole decimals form =
    absurd (omega (arith, form.some, length-append (sign_text sign ++ whole) (behind_whole decimals), length-append (sign_text sign) whole, ap length form.text_is))

-- where a text has this sign alone, its forms are those of what is behind the sign
signed_right : (sign : Sign) (cs : List ℕ) (r : Result ℕ TimeFault)
    → ((s : Sign) (w d : List ℕ) → IsDecimalForm (sign_text sign ++ cs) s w d → s ≡ sign)
    → MatchResult r (IsUnsigned cs) (RefusesUnsigned cs)
    → MatchResult (signed (with_sign sign) r) (IsDecimal (sign_text sign ++ cs)) (RefusesDecimal (sign_text sign ++ cs))
signed_right sign cs (Ok n) alone h = record {
  sign = sign;
  whole = h.0;
  decimals = h.1;
  form = with_form sign cs h.0 h.1 h.2;
  short = h.3;
  value = ap (with_sign sign) h.4;
}
signed_right sign cs (Err Form) alone h =
    λ s w d form. h w d (without_form cs w d sign (subst (λ (x : Sign). IsDecimalForm (sign_text sign ++ cs) x w d) (alone s w d form) form))
signed_right sign cs (Err Range) alone h = (sign, h.0, h.1, with_form sign cs h.0 h.1 h.2, h.3)

bare : (c : ℕ) (s : Sign) → (c == hyphen) ≡ false → (c == plus) ≡ false → Begins s c → s ≡ Unsigned
bare c Unsigned not_hyphen not_plus h = refl
bare c Plus not_hyphen not_plus h = absurd (grind (arith, nat_tests, h))
bare c Minus not_hyphen not_plus h = absurd (grind (arith, nat_tests, h))

pub decimal_right : (text : List ℕ) → MatchResult (decimal_of text) (IsDecimal text) (RefusesDecimal text)
decimal_right [] = no_form_of_nothing
decimal_right (c ∷ cs) =
    elim (c == hyphen) as (λ b. (c == hyphen) ≡ b → MatchResult (if b then signed (λ n. neg_ℤ (pos n)) (unsigned_of cs) else (if c == plus then signed pos (unsigned_of cs) else signed pos (unsigned_of (c ∷ cs)))) (IsDecimal (c ∷ cs)) (RefusesDecimal (c ∷ cs))) [
      | true ↦ λ e.
          let is : hyphen ≡ c = grind (arith, nat_tests) in
          subst (λ (x : ℕ). MatchResult (signed (λ n. neg_ℤ (pos n)) (unsigned_of cs)) (IsDecimal (x ∷ cs)) (RefusesDecimal (x ∷ cs))) is
          (signed_right Minus cs (unsigned_of cs) (λ s w d form. one_sign hyphen s Minus (begins hyphen cs s w d form) refl) (unsigned_right cs))
      | false ↦ λ not_hyphen.
          elim (c == plus) as (λ b. (c == plus) ≡ b → MatchResult (if b then signed pos (unsigned_of cs) else signed pos (unsigned_of (c ∷ cs))) (IsDecimal (c ∷ cs)) (RefusesDecimal (c ∷ cs))) [
            | true ↦ λ e.
                let is : plus ≡ c = grind (arith, nat_tests) in
                subst (λ (x : ℕ). MatchResult (signed pos (unsigned_of cs)) (IsDecimal (x ∷ cs)) (RefusesDecimal (x ∷ cs))) is
                (signed_right Plus cs (unsigned_of cs) (λ s w d form. one_sign plus s Plus (begins plus cs s w d form) refl) (unsigned_right cs))
            | false ↦ λ not_plus. signed_right Unsigned (c ∷ cs) (unsigned_of (c ∷ cs)) (λ s w d form. bare c s not_hyphen not_plus (begins c cs s w d form)) (unsigned_right (c ∷ cs))
          ] refl
    ] refl

-- a text has one form at most
rest_of : (sign : Sign) (a b : List ℕ) → sign_text sign ++ a ≡ sign_text sign ++ b → a ≡ b
rest_of Unsigned a b e = e
rest_of Plus a b e = cc
rest_of Minus a b e = cc

one_form : (text : List ℕ) (s t : Sign) (w d v f : List ℕ) → IsDecimalForm text s w d → IsDecimalForm text t v f → (s ≡ t) × (w ≡ v) × (d ≡ f)
one_form [] s t w d v f h k = absurd (no_form_of_nothing s w d h)
one_form (c ∷ cs) s t w d v f h k =
    let sign : s ≡ t = one_sign c s t (begins c cs s w d h) (begins c cs t v f k) in
    let other = subst (λ (x : Sign). IsDecimalForm (c ∷ cs) x v f) (sym sign) k in
    let e : sign_text s ++ (w ++ behind_whole d) ≡ sign_text s ++ (v ++ behind_whole f) =
    sym (append_assoc (sign_text s) w (behind_whole d)) ∙ sym h.text_is ∙ other.text_is ∙ append_assoc (sign_text s) v (behind_whole f) in
    let p = one_cut w v (behind_whole d) (behind_whole f) (digits_no_point w h.whole_digits) (digits_no_point v k.whole_digits) (behind_is_tail d) (behind_is_tail f) (rest_of s _ _ e) in
    (sign, p.0, same_behind d f p.1)

one_decimal : (text : List ℕ) (a b : ℤ) → IsDecimal text a → IsDecimal text b → a ≡ b
one_decimal text a b h k =
    let p = one_form text h.sign k.sign h.whole h.decimals k.whole k.decimals h.form k.form in
    h.value ∙ ap (λ (s : Sign). with_sign s (millionths_of h.whole h.decimals)) p.0 ∙ ap (λ (w : List ℕ). with_sign k.sign (millionths_of w h.decimals)) p.1 ∙ ap (λ (d : List ℕ). with_sign k.sign (millionths_of k.whole d)) p.2 ∙ sym k.value

same_decimal : (text : List ℕ) (a b : Decimal) → IsDecimal text a.millionths → IsDecimal text b.millionths → a ≡ b
same_decimal text a b h k =
    let e = one_decimal text a.millionths b.millionths h k in
    λ i. record { millionths = e i; millionths_in = is_prop→PathP (λ j. unsigned_abs (e j) < 1_000_000_000_000_000_000_000_000) (λ j. le_prop) a.millionths_in b.millionths_in i }

too_long : (text : List ℕ) (s : Sign) (w d : List ℕ) (micros : ℤ) → IsDecimalForm text s w d → 18 < length w → IsDecimal text micros → ⊥
too_long text s w d micros form long h =
    let p = one_form text s h.sign w d h.whole h.decimals form h.form in
    absurd (omega (arith, ap length p.1, h.short))

no_decimal : (text : List ℕ) (micros : ℤ) (fault : TimeFault) → IsDecimal text micros → RefusesDecimal text fault → ⊥
no_decimal text micros Form h k = k h.sign h.whole h.decimals h.form
no_decimal text micros Range h k = too_long text k.0 k.1 k.2 micros k.3 k.4 h

one_refusal : (text : List ℕ) (f g : TimeFault) → RefusesDecimal text f → RefusesDecimal text g → f ≡ g
one_refusal text Form Form h k = refl
one_refusal text Form Range h k = absurd (h k.0 k.1 k.2 k.3)
one_refusal text Range Form h k = absurd (k h.0 h.1 h.2 h.3)
one_refusal text Range Range h k = refl

pub only_decimal : (text : List ℕ) (answer : Result Decimal TimeFault) → MatchResult answer (λ d. IsDecimal text d.millionths) (RefusesDecimal text)
    → IsOnly (λ (d : Decimal). IsDecimal text d.millionths) (RefusesDecimal text) answer
only_decimal text answer right =
    only_from (λ (d : Decimal). IsDecimal text d.millionths) (RefusesDecimal text) (same_decimal text) (one_refusal text) (λ d f h k. no_decimal text d.millionths f h k) answer right

-- a text is one number or has one fault
pub number_or_fault : (text : List ℕ) → (answer : Result ℤ TimeFault) × IsOnly (IsDecimal text) (RefusesDecimal text) answer
number_or_fault text =
    (decimal_of text, only_from (IsDecimal text) (RefusesDecimal text) (one_decimal text) (one_refusal text) (no_decimal text) (decimal_of text) (decimal_right text))
