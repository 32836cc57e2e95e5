-- All lines together: how many they are, and their text.
use Rattle.std.proofs.Common.{◌≡◌, ℕ, zero, suc, ◌+◌, ◌*◌, ◌^◌, ◌<◌, ◌≤◌, ◌==◌, ℤ, Bool, true, false, List, [], ◌∷◌, ◌++◌, length, filter, map, cond, Ok, Err, refl, sym, ap, ◌∙◌, arith, subst, append_assoc, length-append}
use Rattle.std.specs.Prelude.{nat_lt}
use Rattle.std.specs.List.{AllByRecursion, flat_map}
use Rattle.std.proofs.lemmas.Bool.Decides.{nat_tests}
use Rattle.list_laws.proofs.Keys.{length_in_order}
use Rattle.exact_time.specs.declared.error.TextRefusal.TheVariants.{Empty, TooLarge}
use Rattle.channel_globs.specs.Names.{name_cmp}
use Rattle.channel_globs.specs.declared.nslc.Nslc.{Nslc}
use Rattle.mseed_header.specs.declared.row.Row.{Row}
use Rattle.coverage_report.specs.Answers.{text_of}
use Rattle.coverage_report.specs.Covered.{covered}
use Rattle.coverage_report.specs.Days.{numbers_from, day_at}
use Rattle.coverage_report.specs.Lines.{line_if, lines_of_name, names_of, report_lines}
use Rattle.coverage_report.specs.Printable.{IsPrintableName}
use Rattle.coverage_report.specs.Sweep.{put, put_all}
use Rattle.coverage_report.specs.Texts.{line_text}
use Rattle.coverage_report.specs.declared.line.Line.{Line}
use Rattle.coverage_report.specs.declared.lines.Lines.{Lines}
use Rattle.coverage_report.proofs.Starts.{names_printable}

-- as many lines as are put are counted, while they are fewer than 2^64
pub put_count : (lines : Lines) (ls : List Line) → lines.count + length ls < 2 ^ 64 → (put_all lines ls).count ≡ lines.count + length ls
put_count lines [] h = omega arith
put_count lines (l ∷ ls) h =
    let one : (put lines l).count ≡ lines.count + 1 = omega (arith, h) in
    put_count (put lines l) ls (omega (arith, one, h)) ∙ omega (arith, one)

-- and they are all written where they are no more than may be
pub put_text : (lines : Lines) (ls : List Line) → lines.count + length ls < 2 ^ 64 → lines.count + length ls ≤ lines.most → (put_all lines ls).text ≡ lines.text ++ flat_map line_text ls
put_text lines [] h few = sym (append_none lines.text)
  where
    append_none : (xs : List ℕ) → xs ++ [] ≡ xs
    append_none [] = refl
    append_none (x ∷ xs) = ap (λ (ys : List ℕ). x ∷ ys) (append_none xs)
put_text lines (l ∷ ls) h few =
    let one : (put lines l).count ≡ lines.count + 1 = omega (arith, h) in
    let room : nat_lt lines.count lines.most ≡ true = grind (arith, nat_tests, few) in
    let written : (put lines l).text ≡ lines.text ++ line_text l = ap (λ b. cond b (lines.text ++ line_text l) lines.text) room in
    put_text (put lines l) ls (omega (arith, one, h)) (omega (arith, one, few))
    ∙ ap (λ (t : List ℕ). t ++ flat_map line_text ls) written
    ∙ append_assoc lines.text (line_text l) (flat_map line_text ls)

one_at_most : (name : Nslc) (day : ℤ) (n : ℕ) → length (line_if name day n) ≤ 1
one_at_most name day n =
    let one : Line = record { name = name; day = record { micros = day }; covered = n } in
    elim (n == 0) as (λ b. length (cond b [] (one ∷ [])) ≤ 1) [ true ↦ omega arith | false ↦ omega arith ]

module _ (rows : List Row) (first : ℤ) (days : ℕ) where
  few_from : (name : Nslc) (d n : ℕ) → length (flat_map (λ day. line_if name (day_at first day) (covered rows name (day_at first day))) (numbers_from d n)) ≤ n
  few_from name d zero = omega arith
  few_from name d (suc n) =
      let here = line_if name (day_at first d) (covered rows name (day_at first d)) in
      let rest = flat_map (λ day. line_if name (day_at first day) (covered rows name (day_at first day))) (numbers_from (d + 1) n) in
      let one = one_at_most name (day_at first d) (covered rows name (day_at first d)) in
      let more = few_from name (d + 1) n in
      omega (arith, length-append here rest, one, more)

  few_lines : (names : List Nslc) → days ≤ 3660 → length (flat_map (lines_of_name rows first days) names) ≤ length names * 3660
  few_lines [] h = omega arith
  few_lines (name ∷ names) h =
      let here = lines_of_name rows first days name in
      let rest = flat_map (lines_of_name rows first days) names in
      omega (arith, length-append here rest, few_from name 0 days, few_lines names h)

  -- there are fewer than 2^64 lines
  pub lines_few : days ≤ 3660 → length rows ≤ 2 ^ 32 → length (report_lines rows first days) < 2 ^ 64
  lines_few h few =
      let names = length_in_order name_cmp [] (map (λ (row : Row). row.header.name) rows) in
      let same = length_map rows in
      let many = few_lines (names_of rows) h in
      omega (arith, names, same, many)
    where
      length_map : (rs : List Row) → length (map (λ (row : Row). row.header.name) rs) ≡ length rs
      length_map [] = refl
      length_map (r ∷ rs) = ap suc (length_map rs)

pub fewer_seen : (seen : Row → Bool) (rows : List Row) → length (filter seen rows) ≤ length rows
fewer_seen seen [] = omega arith
fewer_seen seen (row ∷ rows) =
    let rest = fewer_seen seen rows in
    elim (seen row) as (λ b. length (cond b (row ∷ filter seen rows) (filter seen rows)) ≤ length (row ∷ rows)) [ true ↦ omega (arith, rest) | false ↦ omega (arith, rest) ]

-- what the text of lines is, by their number
pub text_empty : (most : ℕ) (ls : List Line) → length ls ≡ 0 → text_of most ls ≡ Err Empty
text_empty most [] h = refl
text_empty most (l ∷ ls) h = absurd (omega (arith, h))

pub text_large : (most : ℕ) (ls : List Line) → most < length ls → text_of most ls ≡ Err (TooLarge (length ls))
text_large most [] h = absurd (omega (arith, h))
text_large most (l ∷ ls) h =
    let test : nat_lt most (length (l ∷ ls)) ≡ true = grind (arith, nat_tests, h) in
    ap (λ b. cond b (Err (TooLarge (length (l ∷ ls)))) (Ok (flat_map line_text (l ∷ ls)))) test

pub text_some : (most : ℕ) (ls : List Line) → 0 < length ls → length ls ≤ most → text_of most ls ≡ Ok (flat_map line_text ls)
text_some most [] some h = absurd (omega (arith, some))
text_some most (l ∷ ls) some h =
    let test : nat_lt most (length (l ∷ ls)) ≡ false = grind (arith, nat_tests, h) in
    ap (λ b. cond b (Err (TooLarge (length (l ∷ ls)))) (Ok (flat_map line_text (l ∷ ls)))) test

-- the answer, by the number of lines that were put
module _ (start new : Lines) (most : ℕ) (ls : List Line) (none : start.text ≡ []) (zero_count : start.count ≡ 0) (limit : start.most ≡ most)
    (all : new ≡ put_all start ls) (few : length ls < 2 ^ 64) where
  counted_all : new.count ≡ length ls
  counted_all = ap (λ (l : Lines). l.count) all ∙ put_count start ls (omega (arith, zero_count, few)) ∙ omega (arith, zero_count)

  pub told_empty : new.count ≡ 0 → text_of most ls ≡ Err Empty
  told_empty h = text_empty most ls (sym counted_all ∙ h)

  pub told_large : most < new.count → text_of most ls ≡ Err (TooLarge new.count)
  told_large h = let n = counted_all in text_large most ls (omega (arith, h, n)) ∙ ap (λ (k : ℕ). Err (TooLarge k)) (sym n)

  pub told_text : (new.count ≡ 0 → ⊥) → new.count ≤ most → text_of most ls ≡ Ok new.text
  told_text some h =
      let n = counted_all in
      let more : 0 < length ls = omega (arith, some, n) in
      let within : length ls ≤ most = omega (arith, h, n) in
      text_some most ls more within
      ∙ ap (λ (t : List ℕ). Ok t)
      (sym (ap (λ (l : Lines). l.text) all ∙ put_text start ls (omega (arith, zero_count, few)) (omega (arith, zero_count, limit, within)) ∙ ap (λ (t : List ℕ). t ++ flat_map line_text ls) none))

-- before the first name all lines are still to come, and every name can be printed
module _ (rows : List Row) (names keys : List Nslc) (same : names ≡ keys) (are : keys ≡ names_of rows) where
  pub lines_begun : (first : ℤ) (days : ℕ) (lines : Lines) → put_all lines (flat_map (lines_of_name rows first days) names) ≡ put_all lines (report_lines rows first days)
  lines_begun first days lines = ap (λ (ns : List Nslc). put_all lines (flat_map (lines_of_name rows first days) ns)) (same ∙ are)

  pub names_begun : AllByRecursion IsPrintableName names
  names_begun = subst (λ (ns : List Nslc). AllByRecursion IsPrintableName ns) (sym (same ∙ are)) (names_printable rows)
