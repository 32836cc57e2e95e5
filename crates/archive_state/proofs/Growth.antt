-- A history with one entry more.
use Rattle.std.proofs.Common.{◌≡◌, ◌==◌, ◌&&◌, ℕ, zero, suc, take, ◌+◌, Bool, true, false, cond, List, [], ◌∷◌, ◌++◌, length, None, Some, refl, sym, ap, ◌∙◌, append_assoc, append-nil, zero-add}
use Rattle.std.specs.Prelude.{◌↔◌, max, if◌then◌else◌}
use Rattle.std.specs.List.{flat_map, slice_get}
use Rattle.std.specs.Option.{option_or}
use Rattle.std.proofs.lemmas.Bool.{and_parts}
use Rattle.std.proofs.lemmas.List.Folds.{find-append}
use Rattle.std.proofs.lemmas.List.Sums.{fold-append, sum_by-append}
use Rattle.std.proofs.lemmas.Grind.{flat_map-append}
use Rattle.mseed_header.specs.declared.row.Row.{Row}
use Rattle.dataselect.specs.Rows.{held_rows, with_rows}
use Rattle.dataselect.proofs.Held.{held_all}
use Rattle.epochs.specs.Lines.{LineValues}
use Rattle.epoch_rules.specs.LiveLines.{live_lines}
use Rattle.epoch_rules.specs.Catalog.{IsCatalog}
use Rattle.epoch_rules.proofs.LiveByKey.{live_again, live_lines_go_on}
use Rattle.archive_entry.specs.Batches.{batch_rows}
use Rattle.archive_entry.specs.Bodies.{revision_of}
use Rattle.archive_entry.specs.declared.entry.Entry.{Entry}
use Rattle.archive_entry.specs.declared.entry.Kind.{Kind}
use Rattle.archive_entry.specs.declared.entry.Kind.TheVariants.{Batch, Revise}
use Rattle.archive_state.specs.History.{lines_in, lines_by, lines_of, live_of, rows_by, rows_of, arrived_of, records_by, records_of, bytes_of, is_by, earlier_of, last_seq}
use Rattle.archive_state.specs.Lawful.{is_next, goes_on, is_lawful, IsLawful}

pub live_more : (h : List Entry) (e : Entry) → live_of (h ++ e ∷ []) ≡ live_lines (live_of h ++ lines_of e)
live_more h e =
    ap live_lines (flat_map-append lines_of h (e ∷ []) ∙ ap (λ (xs : List LineValues). flat_map lines_of h ++ xs) (append-nil (lines_of e)))
    ∙ sym (live_lines_go_on (flat_map lines_of h) (lines_of e))

-- no more lines leave the live lines
pub none_more : (live : List LineValues) → IsCatalog live → live ≡ live_lines (live ++ [])
none_more live is = sym (ap live_lines (append-nil live) ∙ live_again live is.rises is.states)

pub arrived_more : (h : List Entry) (e : Entry) → arrived_of (h ++ e ∷ []) ≡ with_rows (arrived_of h) (rows_of e)
arrived_more h e =
    ap held_rows (flat_map-append rows_of h (e ∷ []) ∙ ap (λ (xs : List Row). flat_map rows_of h ++ xs) (append-nil (rows_of e)))
    ∙ sym (held_all (flat_map rows_of h) (rows_of e))

-- a batch leaves the live lines, and adds its rows
pub live_by_batch : (h : List Entry) (e : Entry) → e.kind ≡ Batch → live_of (h ++ e ∷ []) ≡ live_of h
live_by_batch h e kind =
    ap live_lines
    (flat_map-append lines_of h (e ∷ [])
    ∙ ap (λ (k : Kind). flat_map lines_of h ++ (lines_by k e.body ++ [])) kind
    ∙ append-nil (flat_map lines_of h))

pub arrived_by_batch : (h : List Entry) (e : Entry) → e.kind ≡ Batch → arrived_of (h ++ e ∷ []) ≡ with_rows (arrived_of h) (batch_rows e.number e.moment e.body)
arrived_by_batch h e kind = arrived_more h e ∙ ap (λ (k : Kind). with_rows (arrived_of h) (rows_by k e)) kind

-- a revision leaves the rows, and changes the live lines
pub arrived_by_revision : (h : List Entry) (e : Entry) → e.kind ≡ Revise → arrived_of (h ++ e ∷ []) ≡ arrived_of h
arrived_by_revision h e kind = arrived_more h e ∙ ap (λ (k : Kind). with_rows (arrived_of h) (rows_by k e)) kind

pub live_by_revision : (h : List Entry) (e : Entry) → e.kind ≡ Revise → live_of (h ++ e ∷ []) ≡ live_lines (live_of h ++ lines_in (revision_of e.body))
live_by_revision h e kind = live_more h e ∙ ap (λ (k : Kind). live_lines (live_of h ++ lines_by k e.body)) kind

pub records_more : (h : List Entry) (e : Entry) → records_of (h ++ e ∷ []) ≡ records_of h + records_by e.kind e.body
records_more h e = sum_by-append (λ (x : Entry). records_by x.kind x.body) h (e ∷ []) ∙ ap (λ (n : ℕ). records_of h + n) (zero-add (records_by e.kind e.body))

pub bytes_more : (h : List Entry) (e : Entry) → bytes_of (h ++ e ∷ []) ≡ bytes_of h + length e.body
bytes_more h e = sum_by-append (λ (x : Entry). length x.body) h (e ∷ []) ∙ ap (λ (n : ℕ). bytes_of h + n) (zero-add (length e.body))

pub last_more : (h : List Entry) (e : Entry) (author : List ℕ) → last_seq (h ++ e ∷ []) author ≡ (if is_by author e then max (last_seq h author) e.seq else last_seq h author)
last_more h e author = fold-append (λ (last : ℕ) (x : Entry). cond (is_by author x) (max last x.seq) last) 0 h (e ∷ [])

pub earlier_more : (h : List Entry) (e : Entry) (author : List ℕ) (seq : ℕ) → earlier_of (h ++ e ∷ []) author seq ≡ option_or (earlier_of h author seq) (if is_by author e && e.seq == seq then Some e else None)
earlier_more h e author seq = find-append (λ (x : Entry). is_by author x && x.seq == seq) h (e ∷ [])

-- one entry more is lawful exactly where it is the next
true_and : (b : Bool) → (b && true) ≡ b
true_and true = refl
true_and false = refl

and_joined : (a b c : Bool) → (a && (b && c)) ≡ ((a && b) && c)
and_joined true b c = refl
and_joined false b c = refl

on_more : (past es : List Entry) (e : Entry) → goes_on past (es ++ e ∷ []) ≡ (goes_on past es && is_next (past ++ es) e)
on_more past [] e = true_and (is_next past e) ∙ ap (λ (xs : List Entry). is_next xs e) (sym (append-nil past))
on_more past (x ∷ es) e =
    ap (λ (b : Bool). is_next past x && b) (on_more (past ++ x ∷ []) es e ∙ ap (λ (xs : List Entry). goes_on (past ++ x ∷ []) es && is_next xs e) (append_assoc past (x ∷ []) es))
    ∙ and_joined (is_next past x) (goes_on (past ++ x ∷ []) es) (is_next (past ++ x ∷ es) e)

pub lawful_more : (h : List Entry) (e : Entry) → is_lawful (h ++ e ∷ []) ≡ (is_lawful h && is_next h e)
lawful_more h e = on_more [] h e

-- a lawful history with the entry that comes next
pub lawful_push : (h : List Entry) (e : Entry) → IsLawful h → is_next h e ≡ true → IsLawful (h ++ e ∷ [])
lawful_push h e lawful next = lawful_more h e ∙ (λ i. lawful i && next i)

-- ---- each entry is the next one of those before it

abbrev EachIsNext : (past entries : List Entry) → Type 0
EachIsNext past entries = (n : ℕ) (e : Entry) → slice_get entries n ≡ Some e → is_next (past ++ take n entries) e ≡ true

each_next : (past entries : List Entry) → goes_on past entries ≡ true → EachIsNext past entries
each_next past [] is n e at = absurd cc
each_next past (x ∷ entries) is zero e at =
    let same : x ≡ e = cc in
    ap (λ (xs : List Entry). is_next xs e) (append-nil past) ∙ ap (is_next past) (sym same) ∙ (and_parts (is_next past x) (goes_on (past ++ x ∷ []) entries) is).0
each_next past (x ∷ entries) is (suc n) e at =
    ap (λ (xs : List Entry). is_next xs e) (sym (append_assoc past (x ∷ []) (take n entries)))
    ∙ each_next (past ++ x ∷ []) entries (and_parts (is_next past x) (goes_on (past ++ x ∷ []) entries) is).1 n e at

all_next : (past entries : List Entry) → EachIsNext past entries → goes_on past entries ≡ true
all_next past [] each = refl
all_next past (x ∷ entries) each =
    let first : is_next past x ≡ true = ap (λ (xs : List Entry). is_next xs x) (sym (append-nil past)) ∙ each 0 x refl in
    let rest : goes_on (past ++ x ∷ []) entries ≡ true = all_next (past ++ x ∷ []) entries (λ n e at. ap (λ (xs : List Entry). is_next xs e) (append_assoc past (x ∷ []) (take n entries)) ∙ each (suc n) e at) in
    λ i. first i && rest i

pub lawful_by_each : (h : List Entry) → (is_lawful h ≡ true) ↔ ((n : ℕ) (e : Entry) → slice_get h n ≡ Some e → is_next (take n h) e ≡ true)
lawful_by_each h = (each_next [] h, all_next [] h)
