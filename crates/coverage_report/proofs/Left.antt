-- What a sweep leaves to be written, and what each step of it takes.
use Rattle.std.proofs.Common.{◌≡◌, ℕ, zero, suc, ◌+◌, ◌-◌, ◌*◌, ◌^◌, ◌/◌, ◌<◌, ◌≤◌, min, max, ℤ, ◌==◌, false, cond, List, length, [], ◌∷◌, ◌++◌, refl, sym, ap, ap₂, ◌∙◌, arith, append_assoc, length-append}
use Rattle.std.specs.List.{AllByRecursion}
use Rattle.std.specs.Prelude.{nat_lt}
use Rattle.std.proofs.lemmas.Bool.Decides.{nat_tests}
use Rattle.channel_globs.specs.declared.nslc.Nslc.{Nslc}
use Rattle.coverage_report.specs.Days.{day_at}
use Rattle.coverage_report.specs.Lines.{line_if}
use Rattle.coverage_report.specs.Sweep.{AreBehind, shared, swept, swept_on, lines_swept, put, put_all}
use Rattle.coverage_report.specs.Texts.{line_text}
use Rattle.coverage_report.specs.declared.line.Line.{Line}
use Rattle.coverage_report.specs.declared.lines.Lines.{Lines}
use Rattle.coverage_report.specs.declared.stretch.Stretch.{Stretch}

-- nothing is swept before the stretches begin, and none behind the sweep
none_before : (behind from to least : ℕ) (ss : List Stretch) → AllByRecursion (λ r. least ≤ r.start) ss → to ≤ max behind least → swept behind from to ss ≡ 0
none_before behind from to least [] all h = refl
none_before behind from to least (s ∷ ss) all h =
    let start = all.0 in
    let here : shared behind from to s ≡ 0 = omega (arith, h, start) in
    let rest = none_before (max behind s.end) from to least ss all.1 (omega (arith, h)) in
    omega (arith, here, rest)

-- a stretch that the sweep has passed has nothing more
swept_past : (b from to : ℕ) (s : Stretch) (ss : List Stretch) → s.start < s.end → s.end ≤ b → swept b from to (s ∷ ss) ≡ swept b from to ss
swept_past b from to s ss some h =
    let here : shared b from to s ≡ 0 = omega (arith, h, some) in
    let far : max b s.end ≡ b = omega (arith, h) in
    ap₂ (λ (m k : ℕ). m + swept k from to ss) here far ∙ (let k = swept b from to ss in omega arith)

-- going on within a stretch changes nothing behind where the sweep goes on
swept_later : (b e from to : ℕ) (s : Stretch) (ss : List Stretch) → max b s.start ≤ e → e ≤ s.end → e ≤ from → swept b from to (s ∷ ss) ≡ swept e from to (s ∷ ss)
swept_later b e from to s ss lo hi h =
    let here : shared b from to s ≡ shared e from to s = omega (arith, lo, h) in
    let far : max b s.end ≡ max e s.end = omega (arith, lo, hi) in
    ap₂ (λ (m k : ℕ). m + swept k from to ss) here far

-- and what lies between is swept
swept_here : (b e from to : ℕ) (s : Stretch) (ss : List Stretch) → from ≤ max b s.start → max b s.start < e → e ≡ min s.end to
    → swept b from to (s ∷ ss) ≡ (e - max b s.start) + swept e from to (s ∷ ss)
swept_here b e from to s ss begun more is =
    let here : shared b from to s ≡ e - max b s.start = omega (arith, begun, more, is) in
    let none : shared e from to s ≡ 0 = omega (arith, begun, more, is) in
    let far : max b s.end ≡ max e s.end = omega (arith, more, is) in
    ap₂ (λ (m k : ℕ). m + swept k from to ss) here far ∙ (let k = swept (max e s.end) from to ss in omega (arith, none))

module _ (name : Nslc) (first : ℤ) where
  abbrev line_on : ℕ → List Stretch → ℕ → List Line
  line_on behind ss d = line_if name (day_at first d) (swept_on behind d ss)

  pub no_line : (day : ℤ) (n : ℕ) → n ≡ 0 → line_if name day n ≡ []
  no_line day n h = ap (line_if name day) h

  lines_none : (behind least : ℕ) (ss : List Stretch) (day n : ℕ) → AllByRecursion (λ r. least ≤ r.start) ss → (day + n) * 86_400_000_000 ≤ max behind least
      → lines_swept name first behind ss day n ≡ []
  lines_none behind least ss day zero all h = refl
  lines_none behind least ss day (suc n) all h =
      let here = none_before behind (day * 86_400_000_000) (day * 86_400_000_000 + 86_400_000_000) least ss all (omega (arith, h)) in
      λ i. no_line (day_at first day) (swept_on behind day ss) here i ++ lines_none behind least ss (day + 1) n all (omega (arith, h)) i

  lines_alike : (b e : ℕ) (xs ys : List Stretch) (day n : ℕ) → ((d : ℕ) → day ≤ d → swept_on b d xs ≡ swept_on e d ys) → lines_swept name first b xs day n ≡ lines_swept name first e ys day n
  lines_alike b e xs ys day zero same = refl
  lines_alike b e xs ys day (suc n) same =
      λ i. line_if name (day_at first day) (same day (omega arith) i) ++ lines_alike b e xs ys (day + 1) n (λ d h. same d (omega (arith, h))) i

  lines_split : (b : ℕ) (ss : List Stretch) (day m n : ℕ) → lines_swept name first b ss day (m + n) ≡ lines_swept name first b ss day m ++ lines_swept name first b ss (day + m) n
  lines_split b ss day zero n =
      let e : zero + n ≡ n = omega arith in let f : day ≡ day + zero = omega arith in
      ap₂ (λ (d k : ℕ). lines_swept name first b ss d k) f e
  lines_split b ss day (suc m) n =
      let e : suc m + n ≡ suc (m + n) = omega arith in let f : (day + 1) + m ≡ day + suc m = omega arith in
      ap (lines_swept name first b ss day) e
      ∙ ap (λ (ls : List Line). line_on b ss day ++ ls) (lines_split b ss (day + 1) m n ∙ ap (λ (d : ℕ). lines_swept name first b ss (day + 1) m ++ lines_swept name first b ss d n) f)
      ∙ sym (append_assoc (line_on b ss day) (lines_swept name first b ss (day + 1) m) (lines_swept name first b ss (day + suc m) n))

  -- what a sweep leaves: the line of its day, of which so much is covered already, and those of the days behind it
  abbrev pub left : ℕ → ℕ → ℕ → ℕ → List Stretch → List Line
  left days b d c ss = line_if name (day_at first d) (c + swept_on b d ss) ++ lines_swept name first b ss (d + 1) (days - (d + 1))

  pub left_at_first : (days : ℕ) (ss : List Stretch) → 1 ≤ days → left days 0 0 0 ss ≡ lines_swept name first 0 ss 0 days
  left_at_first days ss some =
      let e : suc (days - (0 + 1)) ≡ days = omega (arith, some) in
      let f : 0 + swept_on 0 0 ss ≡ swept_on 0 0 ss = omega arith in
      ap (λ (n : ℕ). line_if name (day_at first 0) n ++ lines_swept name first 0 ss (0 + 1) (days - (0 + 1))) f
      ∙ ap (lines_swept name first 0 ss 0) e

  pub left_at_last : (days b d c : ℕ) → left days b d c [] ≡ line_if name (day_at first d) c
  left_at_last days b d c =
      let e : c + 0 ≡ c = omega arith in
      (λ i. line_if name (day_at first d) (e i) ++ lines_of_none (d + 1) (days - (d + 1)) i) ∙ append_none (line_if name (day_at first d) c)
    where
      lines_of_none : (day n : ℕ) → lines_swept name first b [] day n ≡ []
      lines_of_none day zero = refl
      lines_of_none day (suc n) = lines_of_none (day + 1) n

      append_none : (ls : List Line) → ls ++ [] ≡ ls
      append_none [] = refl
      append_none (l ∷ ls) = ap (λ (xs : List Line). l ∷ xs) (append_none ls)

  pub left_past : (days b d c : ℕ) (s : Stretch) (ss : List Stretch) → s.start < s.end → s.end ≤ b → left days b d c (s ∷ ss) ≡ left days b d c ss
  left_past days b d c s ss some h = λ i.
      line_if name (day_at first d) (c + swept_past b (d * 86_400_000_000) (d * 86_400_000_000 + 86_400_000_000) s ss some h i)
      ++ lines_alike b b (s ∷ ss) ss (d + 1) (days - (d + 1)) (λ k _. swept_past b (k * 86_400_000_000) (k * 86_400_000_000 + 86_400_000_000) s ss some h) i

  -- the sweep goes on to a later day, where the stretch goes on
  pub left_skipped : (days b d c k : ℕ) (s : Stretch) (ss : List Stretch) → AreBehind s ss → d < k → k < days → k * 86_400_000_000 ≤ max b s.start
      → left days b d c (s ∷ ss) ≡ line_if name (day_at first d) c ++ left days b k 0 (s ∷ ss)
  left_skipped days b d c k s ss behind lt within h =
      let all : AllByRecursion (λ (r : Stretch). s.start ≤ r.start) (s ∷ ss) = (omega arith, behind) in
      let none = none_before b (d * 86_400_000_000) (d * 86_400_000_000 + 86_400_000_000) s.start (s ∷ ss) all (omega (arith, lt, h)) in
      let here : c + swept_on b d (s ∷ ss) ≡ c = omega (arith, none) in
      let count : days - (d + 1) ≡ (k - (d + 1)) + suc (days - (k + 1)) = omega (arith, lt, within) in
      let at : (d + 1) + (k - (d + 1)) ≡ k = omega (arith, lt) in
      let same : swept_on b k (s ∷ ss) ≡ 0 + swept_on b k (s ∷ ss) = omega arith in
      ap₂ (λ (n : ℕ) (ls : List Line). line_if name (day_at first d) n ++ ls) here
      (ap (lines_swept name first b (s ∷ ss) (d + 1)) count
      ∙ lines_split b (s ∷ ss) (d + 1) (k - (d + 1)) (suc (days - (k + 1)))
      ∙ ap₂ (λ (ls : List Line) (j : ℕ). ls ++ lines_swept name first b (s ∷ ss) j (suc (days - (k + 1)))) (lines_none b s.start (s ∷ ss) (d + 1) (k - (d + 1)) all (omega (arith, lt, h))) at
      ∙ ap (λ (n : ℕ). line_if name (day_at first k) n ++ lines_swept name first b (s ∷ ss) (k + 1) (days - (k + 1))) same)

  -- the sweep goes on within a stretch, up to its end or that of the day
  pub left_advanced : (days b c k e : ℕ) (s : Stretch) (ss : List Stretch) → k * 86_400_000_000 ≤ max b s.start → max b s.start < e → e ≡ min s.end (k * 86_400_000_000 + 86_400_000_000)
      → left days b k c (s ∷ ss) ≡ left days e k (c + (e - max b s.start)) (s ∷ ss)
  left_advanced days b c k e s ss begun more is =
      let from = k * 86_400_000_000 in
      let part = swept_here b e from (from + 86_400_000_000) s ss begun more is in
      let here : c + swept_on b k (s ∷ ss) ≡ (c + (e - max b s.start)) + swept_on e k (s ∷ ss) = omega (arith, part) in
      λ i. line_if name (day_at first k) (here i)
      ++ lines_alike b e (s ∷ ss) (s ∷ ss) (k + 1) (days - (k + 1)) (λ d h. swept_later b e (d * 86_400_000_000) (d * 86_400_000_000 + 86_400_000_000) s ss (omega (arith, more)) (omega (arith, is)) (omega (arith, is, h))) i

-- lines put behind lines, one list after another
pub put_both : (lines : Lines) (xs ys : List Line) → put_all lines (xs ++ ys) ≡ put_all (put_all lines xs) ys
put_both lines [] ys = refl
put_both lines (x ∷ xs) ys = put_both (put lines x) xs ys

module _ (name : Nslc) (first : ℤ) (days b d c k e f : ℕ) (s : Stretch) (ss : List Stretch)
    (from : f ≡ max b s.start) (at : k ≡ f / 86_400_000_000) (to : e ≡ min s.end (k * 86_400_000_000 + 86_400_000_000)) (more : f < s.end) where
  advanced : (n : ℕ) → left name first days b k n (s ∷ ss) ≡ left name first days e k (n + (e - f)) (s ∷ ss)
  advanced n =
      left_advanced name first days b n k e s ss (omega (arith, from, at)) (omega (arith, from, at, to, more)) to
      ∙ ap (λ (m : ℕ). left name first days e k (n + (e - m)) (s ∷ ss)) (sym from)

  -- a step within the day
  pub step_same : (lines : Lines) → k ≡ d → put_all lines (left name first days e k (c + (e - f)) (s ∷ ss)) ≡ put_all lines (left name first days b d c (s ∷ ss))
  step_same lines same = ap (put_all lines) (sym (advanced c) ∙ ap (λ (j : ℕ). left name first days b j c (s ∷ ss)) same)

  -- a step to a later day
  pub step_later : (old new : Lines) → AreBehind s ss → s.end ≤ days * 86_400_000_000 → c + d * 86_400_000_000 ≤ b → (k ≡ d → ⊥) → new ≡ put_all old (line_if name (day_at first d) c)
      → put_all new (left name first days e k (e - f) (s ∷ ss)) ≡ put_all old (left name first days b d c (s ∷ ss))
  step_later old new behind within covered other written =
      let le : d ≤ k = omega (arith, covered, from, at) in
      let lt : d < k = omega (arith, le, other) in
      let zero_more : e - f ≡ 0 + (e - f) = omega arith in
      ap₂ (λ (ls : Lines) (n : ℕ). put_all ls (left name first days e k n (s ∷ ss))) written zero_more
      ∙ sym (put_both old (line_if name (day_at first d) c) (left name first days e k (0 + (e - f)) (s ∷ ss)))
      ∙ ap (λ (ls : List Line). put_all old (line_if name (day_at first d) c ++ ls)) (sym (advanced 0))
      ∙ ap (put_all old) (sym (left_skipped name first days b d c k s ss behind lt (omega (arith, at, within, more)) (omega (arith, from, at))))

-- whole days of a stretch, where the sweep goes on with the last of them
swept_whole : (b from to : ℕ) (s : Stretch) (ss : List Stretch) → b ≤ from → s.start ≤ from → from ≤ to → to ≤ s.end → swept b from to (s ∷ ss) ≡ (to - from) + swept to from to (s ∷ ss)
swept_whole b from to s ss lo begun up hi =
    let here : shared b from to s ≡ to - from = omega (arith, lo, begun, up, hi) in
    let none : shared to from to s ≡ 0 = omega (arith, begun, up, hi) in
    let far : max b s.end ≡ max to s.end = omega (arith, lo, up, hi) in
    ap₂ (λ (m k : ℕ). m + swept k from to ss) here far ∙ (let k = swept (max to s.end) from to ss in omega (arith, none))

one_line : (name : Nslc) (day : ℤ) (n : ℕ) → 0 < n → length (line_if name day n) ≡ 1
one_line name day n some =
    let one : Line = record { name = name; day = record { micros = day }; covered = n } in
    let test : (n == 0) ≡ false = grind (arith, nat_tests, some) in
    ap (λ c. length (cond c [] (one ∷ []))) test

-- beyond the lines that are written each is counted
put_beyond : (lines : Lines) (ls : List Line) → lines.count < 2 ^ 64 → lines.most < 2 ^ 64 → lines.most ≤ lines.count
    → put_all lines ls ≡ record lines { count = min (lines.count + length ls) (2 ^ 64 - 1) }
put_beyond lines [] fit top beyond = let same : lines.count ≡ min (lines.count + 0) (2 ^ 64 - 1) = omega (arith, fit) in λ i. record lines { count = same i }
put_beyond lines (l ∷ ls) fit top beyond =
    let test : nat_lt lines.count lines.most ≡ false = grind (arith, nat_tests, beyond) in
    let kept : put lines l ≡ record lines { count = min (lines.count + 1) (2 ^ 64 - 1) } =
    λ i. record lines { text = cond (test i) (lines.text ++ line_text l) lines.text; count = min (lines.count + 1) (2 ^ 64 - 1) } in
    let more : min (min (lines.count + 1) (2 ^ 64 - 1) + length ls) (2 ^ 64 - 1) ≡ min (lines.count + suc (length ls)) (2 ^ 64 - 1) = omega arith in
    ap (λ (x : Lines). put_all x ls) kept
    ∙ put_beyond (record lines { count = min (lines.count + 1) (2 ^ 64 - 1) }) ls (omega (arith, fit)) top (omega (arith, top, beyond))
    ∙ (λ i. record lines { count = more i })

module _ (name : Nslc) (first : ℤ) where
  -- each whole day has a line
  whole_days : (b day n : ℕ) (s : Stretch) (ss : List Stretch) → b ≤ day * 86_400_000_000 → s.start ≤ b → (day + n) * 86_400_000_000 ≤ s.end → length (lines_swept name first b (s ∷ ss) day n) ≡ n
  whole_days b day zero s ss lo begun hi = refl
  whole_days b day (suc n) s ss lo begun hi =
      let from = day * 86_400_000_000 in
      let all = swept_whole b from (from + 86_400_000_000) s ss lo (omega (arith, lo, begun)) (omega arith) (omega (arith, hi)) in
      let one = one_line name (day_at first day) (swept_on b day (s ∷ ss)) (omega (arith, all)) in
      let more = whole_days b (day + 1) n s ss (omega (arith, lo)) begun (omega (arith, hi)) in
      length-append (line_if name (day_at first day) (swept_on b day (s ∷ ss))) (lines_swept name first b (s ∷ ss) (day + 1) n) ∙ omega (arith, one, more)

module _ (name : Nslc) (first : ℤ) (days b k c w : ℕ) (s : Stretch) (ss : List Stretch)
    (behind : AreBehind s ss) (begun : s.start ≤ b) (at : b ≡ k * 86_400_000_000 + 86_400_000_000) (some : 0 < w) (open_line : 0 < c)
    (hi : (k + w) * 86_400_000_000 + 86_400_000_000 ≤ s.end) (within : s.end ≤ days * 86_400_000_000) where
  abbrev passed : List Line
  passed = line_if name (day_at first k) c ++ lines_swept name first b (s ∷ ss) (k + 1) (w - 1)

  left_passed : left name first days b k c (s ∷ ss) ≡ passed ++ left name first days ((k + w) * 86_400_000_000 + 86_400_000_000) (k + w) 86_400_000_000 (s ∷ ss)
  left_passed =
      let all : AllByRecursion (λ (r : Stretch). s.start ≤ r.start) (s ∷ ss) = (omega arith, behind) in
      let none = none_before b (k * 86_400_000_000) (k * 86_400_000_000 + 86_400_000_000) s.start (s ∷ ss) all (omega (arith, at)) in
      let here : c + swept_on b k (s ∷ ss) ≡ c = omega (arith, none) in
      let count : days - (k + 1) ≡ (w - 1) + suc (days - ((k + w) + 1)) = omega (arith, some, hi, within) in
      let there : (k + 1) + (w - 1) ≡ k + w = omega (arith, some) in
      let from = (k + w) * 86_400_000_000 in
      let last = swept_whole b from (from + 86_400_000_000) s ss (omega (arith, at, some)) (omega (arith, at, some, begun)) (omega arith) hi in
      let full : swept_on b (k + w) (s ∷ ss) ≡ 86_400_000_000 + swept_on (from + 86_400_000_000) (k + w) (s ∷ ss) = omega (arith, last) in
      let rest = lines_alike name first b (from + 86_400_000_000) (s ∷ ss) (s ∷ ss) ((k + w) + 1) (days - ((k + w) + 1))
      (λ d h. swept_later b (from + 86_400_000_000) (d * 86_400_000_000) (d * 86_400_000_000 + 86_400_000_000) s ss (omega (arith, at, begun)) hi (omega (arith, h))) in
      ap₂ (λ (n : ℕ) (ls : List Line). line_if name (day_at first k) n ++ ls) here
      (ap (lines_swept name first b (s ∷ ss) (k + 1)) count
      ∙ lines_split name first b (s ∷ ss) (k + 1) (w - 1) (suc (days - ((k + w) + 1)))
      ∙ ap (λ (j : ℕ). lines_swept name first b (s ∷ ss) (k + 1) (w - 1) ++ lines_swept name first b (s ∷ ss) j (suc (days - ((k + w) + 1)))) there
      ∙ ap₂ (λ (n : ℕ) (ls : List Line). lines_swept name first b (s ∷ ss) (k + 1) (w - 1) ++ (line_if name (day_at first (k + w)) n ++ ls)) full rest)
      ∙ sym (append_assoc (line_if name (day_at first k) c) (lines_swept name first b (s ∷ ss) (k + 1) (w - 1)) (left name first days (from + 86_400_000_000) (k + w) 86_400_000_000 (s ∷ ss)))

  many_passed : length passed ≡ w
  many_passed =
      let one = one_line name (day_at first k) c open_line in
      let more = whole_days name first b (k + 1) (w - 1) s ss (omega (arith, at)) begun (omega (arith, some, hi)) in
      length-append (line_if name (day_at first k) c) (lines_swept name first b (s ∷ ss) (k + 1) (w - 1)) ∙ omega (arith, one, more, some)

  -- the days that are passed are counted
  pub days_passed : (old new : Lines) → old.count < 2 ^ 64 → old.most < 2 ^ 64 → old.most ≤ old.count → new ≡ record old { count = min (old.count + w) (2 ^ 64 - 1) }
      → put_all new (left name first days ((k + w) * 86_400_000_000 + 86_400_000_000) (k + w) 86_400_000_000 (s ∷ ss)) ≡ put_all old (left name first days b k c (s ∷ ss))
  days_passed old new fit top beyond grown =
      let after = left name first days ((k + w) * 86_400_000_000 + 86_400_000_000) (k + w) 86_400_000_000 (s ∷ ss) in
      let total : min (old.count + w) (2 ^ 64 - 1) ≡ min (old.count + length passed) (2 ^ 64 - 1) = ap (λ (n : ℕ). min (old.count + n) (2 ^ 64 - 1)) (sym many_passed) in
      ap (λ (ls : Lines). put_all ls after) (grown ∙ (λ i. record old { count = total i }) ∙ sym (put_beyond old passed fit top beyond))
      ∙ sym (put_both old passed after)
      ∙ ap (put_all old) (sym left_passed)
