-- A body is one revision, or has one fault.
use Rattle.std.proofs.Common.{◌≡◌, ◌⊎◌, inl, inr, ℕ, zero, suc, ◌+◌, Bool, true, false, not, cond, List, [], ◌∷◌, ◌++◌, length, Result, Ok, Err, MatchResult, refl, sym, ap, subst, ◌∙◌}
use Rattle.std.specs.Str.Lines.{lines}
use Rattle.std.proofs.lemmas.Bool.{cases_Bool, both_ways}
use Rattle.list_laws.specs.Only.{IsOnly}
use Rattle.list_laws.proofs.Answers.{only_from}
use Rattle.epochs.specs.declared.fault.LineFault.{LineFault}
use Rattle.epochs.specs.declared.fault.LineFault.TheVariants as fault
use Rattle.epochs.specs.declared.fault.RevisionFault.{RevisionFault}
use Rattle.epochs.specs.declared.fault.RevisionFault.TheVariants as revision
use Rattle.epochs.specs.Kinds.{Text}
use Rattle.epochs.specs.Lines.{LineValues, IsLine, IsLineFault, is_skipped}
use Rattle.epochs.specs.Revisions.{said_in, AreLines, IsRevision, IsFirstBadLine, IsSilent, IsRevisionFault, RefusesRevision}
use Rattle.epochs.proofs.OneLine.{one_line_answer, line_answer}

one_line_said : (text : Text) (a b : LineValues) → IsLine text a → IsLine text b → a ≡ b
one_line_said text a b h k = let e : Ok a ≡ Ok b = one_line_answer text (Ok a) (Ok b) h k in cc

one_fault_of_line : (text : Text) (f g : LineFault) → IsLineFault text f → IsLineFault text g → f ≡ g
one_fault_of_line text f g h k = let e : Err f ≡ Err g = one_line_answer text (Err f) (Err g) h k in cc

line_or_fault : (text : Text) (e : LineValues) (f : LineFault) → IsLine text e → IsLineFault text f → ⊥
line_or_fault text e f h k = let same : Ok e ≡ Err f = one_line_answer text (Ok e) (Err f) h k in cc

one_lines : (texts : List Text) (es ds : List LineValues) → AreLines texts es → AreLines texts ds → es ≡ ds
one_lines [] [] [] h k = refl
one_lines [] [] (d ∷ ds) h k = absurd k
one_lines [] (e ∷ es) ds h k = absurd h
one_lines (t ∷ texts) [] ds h k = absurd h
one_lines (t ∷ texts) (e ∷ es) [] h k = absurd k
one_lines (t ∷ texts) (e ∷ es) (d ∷ ds) h k =
    let first = one_line_said t e d h.0 k.0 in
    let others = one_lines texts es ds h.1 k.1 in
    λ i. first i ∷ others i

-- what the lines of a front that says something spell ends with those behind its first line
behind_first : (text : Text) (texts : List Text) (b : Bool) → is_skipped text ≡ b → (spelled : List LineValues) → AreLines (cond (not b) (text ∷ said_in texts) (said_in texts)) spelled → (es : List LineValues) × AreLines (said_in texts) es
behind_first text texts true is spelled h = (spelled, h)
behind_first text texts false is [] h = absurd h
behind_first text texts false is (e ∷ spelled) h = (spelled, h.1)

rest_said : (text : Text) (texts : List Text) (spelled : List LineValues) → AreLines (said_in (text ∷ texts)) spelled → (es : List LineValues) × AreLines (said_in texts) es
rest_said text texts spelled h = behind_first text texts (is_skipped text) refl spelled h

first_by : (text : Text) (texts : List Text) (b : Bool) → b ≡ false → (spelled : List LineValues) → AreLines (cond (not b) (text ∷ said_in texts) (said_in texts)) spelled → (e : LineValues) × IsLine text e
first_by text texts true e spelled h = absurd (both_ways true e refl)
first_by text texts false e [] h = absurd h
first_by text texts false e (d ∷ spelled) h = (d, h.0)

-- the first line of a front, if it isn't skipped, spells values
first_said : (text : Text) (texts : List Text) (spelled : List LineValues) → is_skipped text ≡ false → AreLines (said_in (text ∷ texts)) spelled → (e : LineValues) × IsLine text e
first_said text texts spelled said h = first_by text texts (is_skipped text) said spelled h

-- all lines spell values, and one has a fault
all_and_bad : (before : List Text) (here : Text) (after : List Text) (spelled : List LineValues) (f : LineFault) → AreLines (said_in (before ++ here ∷ after)) spelled → is_skipped here ≡ false → IsLineFault here f → ⊥
all_and_bad [] here after spelled f h said bad = let first = first_said here after spelled said h in line_or_fault here first.0 f first.1 bad
all_and_bad (b ∷ before) here after spelled f h said bad = let rest = rest_said b (before ++ here ∷ after) spelled h in all_and_bad before here after rest.0 f rest.1 said bad

-- two first faults are one
one_place : (before later : List Text) (x y : Text) (after rest : List Text) (es ds : List LineValues) (f g : LineFault) → AreLines (said_in before) es → AreLines (said_in later) ds → is_skipped x ≡ false → is_skipped y ≡ false → IsLineFault x f → IsLineFault y g
    → before ++ x ∷ after ≡ later ++ y ∷ rest → ◌≡◌ {A = ℕ × LineFault} (length before, f) (length later, g)
one_place [] [] x y after rest es ds f g h k said other bad worse same =
    let here : x ≡ y = cc in
    let fault = one_fault_of_line y f g (subst (λ (t : Text). IsLineFault t f) here bad) worse in
    ap (λ (e : LineFault). (zero, e)) fault
one_place [] (l ∷ later) x y after rest es ds f g h k said other bad worse same =
    let here : x ≡ l = cc in
    let first = first_said l later ds (subst (λ (t : Text). is_skipped t ≡ false) here said) k in
    absurd (line_or_fault l first.0 f first.1 (subst (λ (t : Text). IsLineFault t f) here bad))
one_place (b ∷ before) [] x y after rest es ds f g h k said other bad worse same =
    let here : y ≡ b = cc in
    let first = first_said b before es (subst (λ (t : Text). is_skipped t ≡ false) here other) h in
    absurd (line_or_fault b first.0 g first.1 (subst (λ (t : Text). IsLineFault t g) here worse))
one_place (b ∷ before) (l ∷ later) x y after rest es ds f g h k said other bad worse same =
    let others : before ++ x ∷ after ≡ later ++ y ∷ rest = cc in
    let more = rest_said b before es h in
    let less = rest_said l later ds k in
    ap (λ (p : ℕ × LineFault). (suc p.0, p.1)) (one_place before later x y after rest more.0 less.0 f g more.1 less.1 said other bad worse others)

one_bad_line : (body : Text) (m n : ℕ) (f g : LineFault) → IsFirstBadLine body m f → IsFirstBadLine body n g → revision.Bad m f ≡ revision.Bad n g
one_bad_line body m n f g h k =
    let same = one_place h.before k.before h.here k.here h.after k.after h.spelled k.spelled f g h.clean k.clean h.said k.said h.bad k.bad (sym h.split ∙ k.split) in
    ap (λ (l : ℕ). revision.Bad l f) h.number_is ∙ ap (λ (p : ℕ × LineFault). revision.Bad (p.0 + 1) p.1) same ∙ ap (λ (l : ℕ). revision.Bad l g) (sym k.number_is)

-- a fault is that no line says anything, or the first bad line
data Why (body : Text) (why : RevisionFault) : Type 0 where
  silent : why ≡ revision.Bad 1 fault.NoLine → IsSilent body → Why body why
  bad : (number : ℕ) (f : LineFault) → why ≡ revision.Bad number f → IsFirstBadLine body number f → Why body why

why_of : (body : Text) (why : RevisionFault) → IsRevisionFault body why → Why body why
why_of body (revision.Bad number fault.NoLine) h = silent (ap (λ (n : ℕ). revision.Bad n fault.NoLine) h.0) h.1
why_of body (revision.Bad number fault.Form) h = bad number fault.Form refl h
why_of body (revision.Bad number fault.LineKind) h = bad number fault.LineKind refl h
why_of body (revision.Bad number fault.Fields) h = bad number fault.Fields refl h
why_of body (revision.Bad number (fault.Value n)) h = bad number (fault.Value n) refl h
why_of body (revision.Bad number fault.Order) h = bad number fault.Order refl h
why_of body revision.OutOfMemory h = absurd h

not_silent : (body : Text) (number : ℕ) (f : LineFault) → IsSilent body → IsFirstBadLine body number f → ⊥
not_silent body number f quiet h =
    all_and_bad h.before h.here h.after [] f (subst (λ (ts : List Text). AreLines (said_in ts) []) h.split (subst (λ (ts : List Text). AreLines ts []) (sym quiet) tt)) h.said h.bad

one_why : (body : Text) (f g : RevisionFault) → Why body f → Why body g → f ≡ g
one_why body f g (silent e h) (silent d k) = e ∙ sym d
one_why body f g (silent e h) (bad n b d k) = absurd (not_silent body n b h k)
one_why body f g (bad m a e h) (silent d k) = absurd (not_silent body m a k h)
one_why body f g (bad m a e h) (bad n b d k) = e ∙ one_bad_line body m n a b h k ∙ sym d

no_why : (body : Text) (spelled : List LineValues) (why : RevisionFault) → IsRevision body spelled → Why body why → ⊥
no_why body spelled why h (silent e k) =
    let none : spelled ≡ [] = one_lines [] spelled [] (subst (λ (ts : List Text). AreLines ts spelled) k h.each) tt in
    h.some none
no_why body spelled why h (bad n f e k) = all_and_bad k.before k.here k.after spelled f (subst (λ (ts : List Text). AreLines (said_in ts) spelled) k.split h.each) k.said k.bad

only_revision : (body : Text) (answer : Result (List LineValues) RevisionFault) → MatchResult answer (IsRevision body) (IsRevisionFault body) → IsOnly (IsRevision body) (IsRevisionFault body) answer
only_revision body answer right =
    only_from (IsRevision body) (IsRevisionFault body) (λ a b h k. one_lines (said_in (lines body)) a b h.each k.each) (λ f g h k. one_why body f g (why_of body f h) (why_of body g k))
    (λ spelled f h k. no_why body spelled f h (why_of body f k)) answer right

pub only_read : (body : Text) (spelled : List LineValues) → IsRevision body spelled → IsOnly (IsRevision body) (IsRevisionFault body) (Ok spelled)
only_read body spelled h = only_revision body (Ok spelled) h

-- the same of a reader that may want memory
pub only_refused : (body : Text) (why : RevisionFault) → RefusesRevision body why → (why ≡ revision.OutOfMemory) ⊎ IsOnly (IsRevision body) (IsRevisionFault body) (Err why)
only_refused body (revision.Bad number f) h = inr (only_revision body (Err (revision.Bad number f)) h)
only_refused body revision.OutOfMemory h = inl refl

skipped_before : (text : Text) (texts : List Text) (spelled : List LineValues) → is_skipped text ≡ true → AreLines (said_in texts) spelled → AreLines (said_in (text ∷ texts)) spelled
skipped_before text texts spelled is h = subst (λ (b : Bool). AreLines (cond (not b) (text ∷ said_in texts) (said_in texts)) spelled) (sym is) h

said_before : (text : Text) (texts : List Text) (e : LineValues) (spelled : List LineValues) → is_skipped text ≡ false → IsLine text e → AreLines (said_in texts) spelled → AreLines (said_in (text ∷ texts)) (e ∷ spelled)
said_before text texts e spelled is here h = subst (λ (b : Bool). AreLines (cond (not b) (text ∷ said_in texts) (said_in texts)) (e ∷ spelled)) (sym is) (here, h)

-- one of these lines is the first with a fault
record HasBad (texts : List Text) : Type 0 where
  why : LineFault
  before : List Text
  here : Text
  after : List Text
  split : texts ≡ before ++ here ∷ after
  spelled : List LineValues
  clean : AreLines (said_in before) spelled
  said : is_skipped here ≡ false
  bad : IsLineFault here why

abbrev Read : List Text → Type 0
Read texts = ((spelled : List LineValues) × AreLines (said_in texts) spelled) ⊎ HasBad texts

after_skipped : (text : Text) (texts : List Text) → is_skipped text ≡ true → Read texts → Read (text ∷ texts)
after_skipped text texts is (inl all) = inl (all.0, skipped_before text texts all.0 is all.1)
after_skipped text texts is (inr h) =
    inr (record { why = h.why; before = text ∷ h.before; here = h.here; after = h.after; split = ap (λ (ts : List Text). text ∷ ts) h.split; spelled = h.spelled; clean = skipped_before text h.before h.spelled is h.clean; said = h.said; bad = h.bad })

after_said : (text : Text) (texts : List Text) → is_skipped text ≡ false → (answer : Result LineValues LineFault) → MatchResult answer (IsLine text) (IsLineFault text) → Read texts → Read (text ∷ texts)
after_said text texts is (Err why) here read = inr (record { why = why; before = []; here = text; after = texts; split = refl; spelled = []; clean = tt; said = is; bad = here })
after_said text texts is (Ok e) here (inl all) = inl (e ∷ all.0, said_before text texts e all.0 is here all.1)
after_said text texts is (Ok e) here (inr h) =
    inr (record { why = h.why; before = text ∷ h.before; here = h.here; after = h.after; split = ap (λ (ts : List Text). text ∷ ts) h.split; spelled = e ∷ h.spelled; clean = said_before text h.before e h.spelled is here h.clean; said = h.said; bad = h.bad })

-- lines spell values, or one is the first with a fault
lines_read : (texts : List Text) → Read texts
lines_read [] = inl ([], tt)
lines_read (text ∷ texts) =
    let more = lines_read texts in
    let here = line_answer text in
    elim (cases_Bool (is_skipped text)) [
      | inl skipped ↦ after_skipped text texts skipped more
      | inr said ↦ after_said text texts said here.0 here.1 more
    ]

abbrev Answer : Text → Type 0
Answer body = (answer : Result (List LineValues) RevisionFault) × IsOnly (IsRevision body) (IsRevisionFault body) answer

first_bad : (body : Text) (number : ℕ) (f : LineFault) → IsFirstBadLine body number f → IsRevisionFault body (revision.Bad number f)
first_bad body number fault.NoLine h = absurd h.bad
first_bad body number fault.Form h = h
first_bad body number fault.LineKind h = h
first_bad body number fault.Fields h = h
first_bad body number (fault.Value n) h = h
first_bad body number fault.Order h = h

no_lines : (texts : List Text) → AreLines texts [] → texts ≡ []
no_lines [] h = refl
no_lines (t ∷ texts) h = absurd h

answer_of : (body : Text) → Read (lines body) → Answer body
answer_of body (inl ([], each)) = (Err (revision.Bad 1 fault.NoLine), only_revision body (Err (revision.Bad 1 fault.NoLine)) (refl, no_lines (said_in (lines body)) each))
answer_of body (inl (e ∷ spelled, each)) = (Ok (e ∷ spelled), only_read body (e ∷ spelled) (record { each = each; some = λ none. let f : e ∷ spelled ≡ [] = none in cc }))
answer_of body (inr h) =
    let number = length h.before + 1 in
    let line : IsFirstBadLine body number h.why = record { before = h.before; here = h.here; after = h.after; split = h.split; number_is = refl; spelled = h.spelled; clean = h.clean; said = h.said; bad = h.bad } in
    (Err (revision.Bad number h.why), only_revision body (Err (revision.Bad number h.why)) (first_bad body number h.why line))

-- every body is one revision or has one fault
pub revision_or_fault : (body : Text) → Answer body
revision_or_fault body = answer_of body (lines_read (lines body))
