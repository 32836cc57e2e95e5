-- The words of `coverage` and the bytes of the file have one answer.
use Rattle.std.proofs.Common.{◌≡◌, inl, inr, ℕ, ℤ, Bool, true, false, cond, List, [], ◌∷◌, length, Result, Ok, Err, MatchResult, nat_lt, refl, sym, ap, ◌∙◌, subst}
use Rattle.exact_time.specs.declared.error.TextRefusal.{TextRefusal}
use Rattle.exact_time.specs.declared.error.TextRefusal.TheVariants as text
use Rattle.archive_entry.specs.declared.entry.Entry.{Entry}
use Rattle.archive_log.specs.Opening.{OpensWith, IsStartFault}
use Rattle.archive_log.specs.declared.fault.StartFault.{StartFault}
use Rattle.archive_log.specs.declared.fault.StartFault.TheVariants as start
use Rattle.archive_log.proofs.OneOpening.{one_opening}
use Rattle.archive_state.specs.History.{held_of}
use Rattle.command_words.specs.Commands.{CoverageWords}
use Rattle.coverage_report.specs.Answers.{text_of, report}
use Rattle.coverage_report.specs.Lines.{report_lines}
use Rattle.coverage_report.specs.declared.line.Line.{Line}
use Rattle.centre_coverage.specs.Answers.{ComesOf, IsFileAnswer, IsCoverageAnswer, OpensOrNot}
use Rattle.centre_coverage.specs.Words.{IsAsked, IsWordsAnswer}
use Rattle.centre_coverage.specs.declared.ending.CoverageRefusal.{CoverageRefusal}
use Rattle.centre_coverage.specs.declared.ending.CoverageRefusal.TheVariants.{Value, Order, NoData, TooManyLines, NotAJournal, Damaged}
use Rattle.centre_coverage.proofs.Decide.{one_asked, one_refused, not_both}

-- what comes of a report, and of how the file opens
by_report : ℕ → Result (List ℕ) TextRefusal → Result (List ℕ) CoverageRefusal
by_report most (Ok lines) = Ok lines
by_report most (Err text.Empty) = Err NoData
by_report most (Err (text.TooLarge lines)) = Err (TooManyLines lines most)
by_report most (Err text.OutOfMemory) = Err NoData

by_opening : CoverageWords → ℤ → ℕ → Result (List Entry) StartFault → Result (List ℕ) CoverageRefusal
by_opening w first days (Ok h) = by_report w.max_lines (report (held_of h) first days w.max_lines)
by_opening w first days (Err start.NotAJournal) = Err NotAJournal
by_opening w first days (Err (start.Damaged at)) = Err (Damaged at)
by_opening w first days (Err start.DiskFault) = Err NoData
by_opening w first days (Err start.OutOfMemory) = Err NoData

-- how a file opens, from which an answer comes
record Comes (w : CoverageWords) (first : ℤ) (days : ℕ) (file : List ℕ) (answer : Result (List ℕ) CoverageRefusal) : Type 0 where
  opening : Result (List Entry) StartFault
  opens : MatchResult opening (OpensWith file) (IsStartFault file)
  is : answer ≡ by_opening w first days opening

done_is : (most : ℕ) (lines : List ℕ) → Ok lines ≡ by_report most (Ok lines)
unfolding by_report
done_is most lines = refl

none_is : (most : ℕ) → Err NoData ≡ by_report most (Err text.Empty)
unfolding by_report
none_is most = refl

many_is : (most lines limit : ℕ) → limit ≡ most → Err (TooManyLines lines limit) ≡ by_report most (Err (text.TooLarge lines))
unfolding by_report
many_is most lines limit is = ap (λ n. Err (TooManyLines lines n)) is

comes_is : (w : CoverageWords) (first : ℤ) (days : ℕ) (file : List ℕ) (answer : Result (List ℕ) CoverageRefusal) → ComesOf w first days file answer → Comes w first days file answer
unfolding by_opening
comes_is w first days file (Ok lines) h = record { opening = Ok h.0; opens = h.1; is = done_is w.max_lines lines ∙ ap (by_report w.max_lines) (sym h.2) }
comes_is w first days file (Err NoData) h = record { opening = Ok h.0; opens = h.1; is = none_is w.max_lines ∙ ap (by_report w.max_lines) (sym h.2) }
comes_is w first days file (Err (TooManyLines lines limit)) h =
    record { opening = Ok h.0; opens = h.1; is = many_is w.max_lines lines limit h.3 ∙ ap (by_report w.max_lines) (sym h.2) }
comes_is w first days file (Err NotAJournal) h = record { opening = Err start.NotAJournal; opens = h; is = refl }
comes_is w first days file (Err (Damaged at)) h = record { opening = Err (start.Damaged at); opens = h; is = refl }
comes_is w first days file (Err (Value word)) h = absurd h
comes_is w first days file (Err Order) h = absurd h

one_comes : (w : CoverageWords) (first : ℤ) (days : ℕ) (file : List ℕ) (a b : Result (List ℕ) CoverageRefusal) → Comes w first days file a → Comes w first days file b → a ≡ b
one_comes w first days file a b h k =
    let same : k.opening ≡ h.opening = (one_opening file h.opening h.opens).only k.opening k.opens in
    h.is ∙ ap (by_opening w first days) (sym same) ∙ sym k.is

one_file : (w : CoverageWords) (file : List ℕ) (a b : Result (List ℕ) CoverageRefusal) → IsFileAnswer w file a → IsFileAnswer w file b → a ≡ b
one_file w file a b h k =
    let same = one_asked w k.first h.first k.days h.days k.asked h.asked in
    let P : ℤ → ℕ → Type 0 = λ first days. ComesOf w first days file b in
    let there = subst (λ (days : ℕ). P h.first days) same.1 (subst (λ (first : ℤ). P first k.days) same.0 k.comes) in
    one_comes w h.first h.days file a b (comes_is w h.first h.days file a h.comes) (comes_is w h.first h.days file b there)

pub one_coverage : (w : CoverageWords) (file : List ℕ) (a b : Result (List ℕ) CoverageRefusal) → IsCoverageAnswer w file a → IsCoverageAnswer w file b → a ≡ b
one_coverage w file (Ok x) (Ok y) h k = one_file w file (Ok x) (Ok y) h k
one_coverage w file (Ok x) (Err s) h (inl k) = absurd (not_both w s h.first h.days k h.asked)
one_coverage w file (Ok x) (Err s) h (inr k) = one_file w file (Ok x) (Err s) h k
one_coverage w file (Err r) (Ok y) (inl h) k = absurd (not_both w r k.first k.days h k.asked)
one_coverage w file (Err r) (Ok y) (inr h) k = one_file w file (Err r) (Ok y) h k
one_coverage w file (Err r) (Err s) (inl h) (inl k) = ap Err (one_refused w r s h k)
one_coverage w file (Err r) (Err s) (inl h) (inr k) = absurd (not_both w r k.first k.days h k.asked)
one_coverage w file (Err r) (Err s) (inr h) (inl k) = absurd (not_both w s h.first h.days k h.asked)
one_coverage w file (Err r) (Err s) (inr h) (inr k) = one_file w file (Err r) (Err s) h k

-- ---- and where the file opens or has a fault there is one

-- a report of lines has some text, or no line, or too many
data OfLines (answer : Result (List ℕ) TextRefusal) : Type 0 where
  some : (lines : List ℕ) → answer ≡ Ok lines → OfLines answer
  none : answer ≡ Err text.Empty → OfLines answer
  many : (n : ℕ) → answer ≡ Err (text.TooLarge n) → OfLines answer

by_count : (b : Bool) (n : ℕ) (lines : List ℕ) → OfLines (cond b (Err (text.TooLarge n)) (Ok lines))
by_count true n lines = many n refl
by_count false n lines = some lines refl

of_lines : (most : ℕ) (lines : List Line) → OfLines (text_of most lines)
of_lines most [] = none refl
of_lines most (l ∷ lines) = by_count (nat_lt most (length (l ∷ lines))) (length (l ∷ lines)) _

abbrev SomeComes : CoverageWords → ℤ → ℕ → List ℕ → Type 0
SomeComes w first days file = (answer : Result (List ℕ) CoverageRefusal) × ComesOf w first days file answer

opened : (w : CoverageWords) (first : ℤ) (days : ℕ) (file : List ℕ) (h : List Entry) → OpensWith file h → OfLines (report (held_of h) first days w.max_lines) → SomeComes w first days file
opened w first days file h opens (some lines e) = (Ok lines, (h, opens, e))
opened w first days file h opens (none e) = (Err NoData, (h, opens, e))
opened w first days file h opens (many n e) = (Err (TooManyLines n w.max_lines), (h, opens, e, refl))

refused : (w : CoverageWords) (first : ℤ) (days : ℕ) (file : List ℕ) (fault : StartFault) → IsStartFault file fault → SomeComes w first days file
refused w first days file start.NotAJournal h = (Err NotAJournal, h)
refused w first days file (start.Damaged at) h = (Err (Damaged at), h)
refused w first days file start.DiskFault h = absurd h
refused w first days file start.OutOfMemory h = absurd h

some_comes : (w : CoverageWords) (first : ℤ) (days : ℕ) (file : List ℕ) → OpensOrNot file → SomeComes w first days file
some_comes w first days file (inl opens) = opened w first days file opens.0 opens.1 (of_lines w.max_lines (report_lines (held_of opens.0) first days))
some_comes w first days file (inr fault) = refused w first days file fault.0 fault.1

is_answer : (w : CoverageWords) (file : List ℕ) (answer : Result (List ℕ) CoverageRefusal) → IsFileAnswer w file answer → IsCoverageAnswer w file answer
is_answer w file (Ok lines) h = h
is_answer w file (Err refusal) h = inr h

pub some_coverage : (w : CoverageWords) (file : List ℕ) (first : ℤ) (days : ℕ) → IsAsked w first days → OpensOrNot file → (answer : Result (List ℕ) CoverageRefusal) × IsCoverageAnswer w file answer
some_coverage w file first days asked opens =
    let found = some_comes w first days file opens in
    (found.0, is_answer w file found.0 (record { first = first; days = days; asked = asked; comes = found.1 }))

pub some_words : (w : CoverageWords) (file : List ℕ) (answer : Result (List ℕ) CoverageRefusal) → IsWordsAnswer w answer → IsCoverageAnswer w file answer
some_words w file (Ok lines) h = absurd h
some_words w file (Err refusal) h = inl h
