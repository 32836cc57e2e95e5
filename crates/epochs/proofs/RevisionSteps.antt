-- Steps of the reader of a revision.
use Rattle.std.proofs.Common.{◌≡◌, ℕ, ◌+◌, ◌<◌, Bool, true, false, not, cond, List, [], ◌∷◌, ◌++◌, length, map, refl, sym, ap, subst, ◌∙◌, arith}
use Rattle.std.specs.Str.Lines.{lines}
use Rattle.std.proofs.lemmas.List.{append_assoc, append-nil, length-append}
use Rattle.epochs.specs.declared.fault.LineFault.{LineFault}
use Rattle.epochs.specs.declared.fault.LineFault.TheVariants as fault
use Rattle.epochs.specs.declared.values.FieldFault.{FieldFault}
use Rattle.epochs.specs.declared.values.FieldFault.TheVariants.{Bad, OutOfMemory}
use Rattle.epochs.specs.declared.line.Line.{Line}
use Rattle.epochs.specs.Views.{values_of_line}
use Rattle.epochs.specs.Kinds.{Text}
use Rattle.epochs.specs.Lines.{LineValues, IsLine, IsLineFault, is_skipped}
use Rattle.epochs.specs.Revisions.{said_in, AreLines, IsRevision, IsFirstBadLine, IsSilent, RefusesRevision}
use Rattle.epochs.specs.Reading.{RefusesRevisionLine, HasReadLines, raised}

pub said_in-append : (xs ys : List Text) → said_in (xs ++ ys) ≡ said_in xs ++ said_in ys
said_in-append [] ys = refl
said_in-append (x ∷ xs) ys = by_test (not (is_skipped x)) (said_in-append xs ys)
  where
    by_test : (said : Bool) → said_in (xs ++ ys) ≡ said_in xs ++ said_in ys → cond said (x ∷ said_in (xs ++ ys)) (said_in (xs ++ ys)) ≡ cond said (x ∷ said_in xs) (said_in xs) ++ said_in ys
    by_test true e = ap (λ (ts : List Text). x ∷ ts) e
    by_test false e = e

said_alone : (x : Text) → is_skipped x ≡ false → said_in (x ∷ []) ≡ x ∷ []
said_alone x e = ap (λ (b : Bool). cond (not b) (x ∷ []) []) e

skipped_alone : (x : Text) → is_skipped x ≡ true → said_in (x ∷ []) ≡ []
skipped_alone x e = ap (λ (b : Bool). cond (not b) (x ∷ []) []) e

lines_more : (texts : List Text) (spelled : List LineValues) (text : Text) (e : LineValues) → AreLines texts spelled → IsLine text e → AreLines (texts ++ text ∷ []) (spelled ++ e ∷ [])
lines_more [] [] text e h k = (k, tt)
lines_more (t ∷ texts) (d ∷ spelled) text e h k = (h.0, lines_more texts spelled text e h.1 k)
lines_more [] (d ∷ spelled) text e h k = absurd h
lines_more (t ∷ texts) [] text e h k = absurd h

pub start : (body : Text) → HasReadLines body body 0 []
start body = record { before = []; split = refl; number_is = refl; room = omega arith; clean = tt }

module _ (body left : Text) (number : ℕ) (spelled : List LineValues) (line rest : Text) (h : HasReadLines body left number spelled) (cut : lines left ≡ line ∷ lines rest) where
  split_on : lines body ≡ (h.before ++ line ∷ []) ++ lines rest
  split_on = h.split ∙ ap (λ (ts : List Text). h.before ++ ts) cut ∙ sym (append_assoc h.before (line ∷ []) (lines rest))

  one_more : number + 1 ≡ length (h.before ++ line ∷ [])
  one_more = omega (arith, h.number_is, length-append h.before (line ∷ []))

  pub skip : length rest < length left → is_skipped line ≡ true → HasReadLines body rest (number + 1) spelled
  skip shorter skipped =
      let same : said_in (h.before ++ line ∷ []) ≡ said_in h.before = said_in-append h.before (line ∷ []) ∙ ap (λ (ts : List Text). said_in h.before ++ ts) (skipped_alone line skipped) ∙ append-nil (said_in h.before) in
      record { before = h.before ++ line ∷ []; split = split_on; number_is = one_more; room = omega (arith, h.room); clean = subst (λ (ts : List Text). AreLines ts spelled) (sym same) h.clean }

  pub take_line : (e : LineValues) → length rest < length left → is_skipped line ≡ false → IsLine line e → HasReadLines body rest (number + 1) (spelled ++ e ∷ [])
  take_line e shorter said spells =
      let same : said_in (h.before ++ line ∷ []) ≡ said_in h.before ++ line ∷ [] = said_in-append h.before (line ∷ []) ∙ ap (λ (ts : List Text). said_in h.before ++ ts) (said_alone line said) in
      record {
        before = h.before ++ line ∷ [];
        split = split_on;
        number_is = one_more;
        room = omega (arith, h.room);
        clean = subst (λ (ts : List Text). AreLines ts (spelled ++ e ∷ [])) (sym same) (lines_more (said_in h.before) spelled line e h.clean spells);
      }

  first_bad_line : (why : LineFault) → is_skipped line ≡ false → IsLineFault line why → IsFirstBadLine body (number + 1) why
  first_bad_line why said bad = record {
    before = h.before;
    here = line;
    after = lines rest;
    split = h.split ∙ ap (λ (ts : List Text). h.before ++ ts) cut;
    number_is = omega (arith, h.number_is);
    spelled = spelled;
    clean = h.clean;
    said = said;
    bad = bad;
  }

  pub refuse : (why : FieldFault) → is_skipped line ≡ false → RefusesRevisionLine line why → RefusesRevision body (raised (number + 1) why)
  refuse (Bad fault.NoLine) said bad = absurd bad
  refuse (Bad fault.Form) said bad = first_bad_line fault.Form said bad
  refuse (Bad fault.LineKind) said bad = first_bad_line fault.LineKind said bad
  refuse (Bad fault.Fields) said bad = first_bad_line fault.Fields said bad
  refuse (Bad (fault.Value n)) said bad = first_bad_line (fault.Value n) said bad
  refuse (Bad fault.Order) said bad = first_bad_line fault.Order said bad
  refuse OutOfMemory said bad = tt

no_lines : (texts : List Text) → AreLines texts [] → texts ≡ []
no_lines [] h = refl
no_lines (t ∷ texts) h = absurd h

-- at the end of a body that says nothing
pub silent : (body left : Text) (number : ℕ) (spelled : List LineValues) → HasReadLines body left number spelled → length left ≡ 0 → spelled ≡ [] → IsSilent body
silent body [] number spelled h over none =
    let each = subst (λ (ts : List Text). AreLines (said_in ts) spelled) (sym (h.split ∙ append-nil h.before)) h.clean in
    no_lines (said_in (lines body)) (subst (λ (es : List LineValues). AreLines (said_in (lines body)) es) none each)
silent body (c ∷ left) number spelled h over none = absurd (omega (arith, over))

no_elements : {A B : Type 0} (f : A → B) (xs : List A) → map f xs ≡ [] → xs ≡ []
no_elements f [] e = refl
no_elements f (x ∷ xs) e = absurd (let none : f x ∷ map f xs ≡ [] = e in cc)

-- and at the end of one that says something
pub whole : (body left : Text) (number : ℕ) (read : List Line) → HasReadLines body left number (map values_of_line read) → length left ≡ 0 → ¬ (read ≡ []) → IsRevision body (map values_of_line read)
whole body [] number read h over some = record {
  each = subst (λ (ts : List Text). AreLines (said_in ts) (map values_of_line read)) (sym (h.split ∙ append-nil h.before)) h.clean;
  some = λ none. some (no_elements values_of_line read none);
}
whole body (c ∷ left) number read h over some = absurd (omega (arith, over))
