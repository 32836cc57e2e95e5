-- A list of patterns that is written as one code matches that code alone, and one that is written as the blank location that.
use Rattle.std.proofs.Common.{◌≡◌, ℕ, ◌≤◌, Bool, true, false, not, ◌&&◌, ◌||◌, ◌==◌, List, [], ◌∷◌, length, map, reverse, if◌then◌else◌, Ok, Err, codes, inl, inr, refl, sym, ap, subst, ◌∙◌, arith}
use Rattle.std.specs.Prelude.{nat_lt}
use Rattle.std.specs.List.{list_all, slice_split, onto_first}
use Rattle.std.specs.Str.{bytes_eq}
use Rattle.std.specs.Char.{is_ascii_alphanumeric}
use Rattle.std.proofs.lemmas.Bool.Decides.{nat_tests}
use Rattle.std.proofs.lemmas.Bool.{and_parts, and_from, not-true, or_cases, true≢false, eqb-true}
use Rattle.std.proofs.lemmas.List.{reverse-append, reverse-reverse}
use Rattle.std.proofs.lemmas.List.Folds.{list_all-append}
use Rattle.std.proofs.lemmas.List.Splits.{slice_split-cons_no}
use Rattle.std.proofs.lemmas.Slice.Eq.{bytes_eq-Decides}
use Rattle.channel_globs.specs.Matching.{star, question_mark, some_suffix, is_match, is_match_any}
use Rattle.channel_globs.specs.PatternText.{comma, space, drop_spaces, hyphen, drop_end_spaces, without_spaces, is_pattern_byte, is_blank, is_blank_word, item_of, words_of, IsPatternList}
use Rattle.channel_globs.specs.declared.nslc.Part.{Part}
use Rattle.channel_globs.specs.declared.nslc.Part.TheVariants.{Location}
use Rattle.channel_globs.specs.declared.patterns.GlobFault.TheVariants.{Character, Length}
use Rattle.epoch_catalog.specs.Wide.{is_one_code, is_one_location}
use Rattle.epoch_catalog.specs.Withdrawals.{location_in}

-- a letter or digit is none of the other characters of a list
other : (c mark : ℕ) → is_ascii_alphanumeric mark ≡ false → is_ascii_alphanumeric c ≡ true → (c == mark) ≡ false
other c mark unlike h =
    elim (c == mark) as (λ b. (c == mark) ≡ b → b ≡ false) [
      | true ↦ λ same. absurd (true≢false (sym (subst (λ (n : ℕ). is_ascii_alphanumeric n ≡ true) (eqb-true c mark same) h) ∙ unlike))
      | false ↦ λ same. refl
    ] refl

no_comma : (text : List ℕ) → list_all is_ascii_alphanumeric text ≡ true → list_all (λ c. not (c == comma)) text ≡ true
no_comma [] h = refl
no_comma (c ∷ cs) h =
    let p = and_parts (is_ascii_alphanumeric c) (list_all is_ascii_alphanumeric cs) h in
    and_from (not (c == comma)) (list_all (λ c. not (c == comma)) cs) (ap not (other c comma refl p.0)) (no_comma cs p.1)

one_part : (text : List ℕ) → list_all is_ascii_alphanumeric text ≡ true → slice_split (λ c. c == comma) text ≡ text ∷ []
one_part [] h = refl
one_part (c ∷ cs) h =
    let p = and_parts (is_ascii_alphanumeric c) (list_all is_ascii_alphanumeric cs) h in
    slice_split-cons_no (λ c. c == comma) c cs (other c comma refl p.0) ∙ ap (onto_first c) (one_part cs p.1)

no_spaces : (text : List ℕ) → list_all is_ascii_alphanumeric text ≡ true → drop_spaces text ≡ text
no_spaces [] h = refl
no_spaces (c ∷ cs) h = ap (λ b. if b then drop_spaces cs else c ∷ cs) (other c space refl (and_parts (is_ascii_alphanumeric c) (list_all is_ascii_alphanumeric cs) h).0)

all_turned : (text : List ℕ) → list_all is_ascii_alphanumeric text ≡ true → list_all is_ascii_alphanumeric (reverse text) ≡ true
all_turned [] h = refl
all_turned (c ∷ cs) h =
    let p = and_parts (is_ascii_alphanumeric c) (list_all is_ascii_alphanumeric cs) h in
    ap (list_all is_ascii_alphanumeric) (reverse-append (c ∷ []) cs) ∙ list_all-append is_ascii_alphanumeric (reverse cs) (c ∷ [])
    ∙ and_from (list_all is_ascii_alphanumeric (reverse cs)) (is_ascii_alphanumeric c && true) (all_turned cs p.1) (and_from (is_ascii_alphanumeric c) true p.0 refl)

untrimmed : (text : List ℕ) → list_all is_ascii_alphanumeric text ≡ true → without_spaces text ≡ text
untrimmed text h =
    ap drop_end_spaces (no_spaces text h) ∙ ap reverse (no_spaces (reverse text) (all_turned text h)) ∙ reverse-reverse text

-- an item that isn't the blank location spells itself
item_is : (part : Part) (text p : List ℕ) → is_blank part text ≡ false → item_of part text ≡ Ok p → p ≡ text
item_is part text p other h =
    spelled (list_all is_pattern_byte text) (length text == 0 || nat_lt 8 (length text))
    (ap (λ b. if b then Ok (space ∷ space ∷ []) else (if not (list_all is_pattern_byte text) then Err Character else (if length text == 0 || nat_lt 8 (length text) then Err Length else Ok text))) (sym other) ∙ h)
  where
    spelled : (plain long : Bool) → (if not plain then Err Character else (if long then Err Length else Ok text)) ≡ Ok p → p ≡ text
    spelled false long e = absurd (let k : Err Character ≡ Ok p = e in cc)
    spelled true true e = absurd (let k : Err Length ≡ Ok p = e in cc)
    spelled true false e = (let k : Ok text ≡ Ok p = e in cc)

blank_is : (part : Part) (text p : List ℕ) → is_blank part text ≡ true → item_of part text ≡ Ok p → p ≡ space ∷ space ∷ []
blank_is part text p blank h =
    let e = ap (λ b. if b then Ok (space ∷ space ∷ []) else (if not (list_all is_pattern_byte text) then Err Character else (if length text == 0 || nat_lt 8 (length text) then Err Length else Ok text))) (sym blank) ∙ h in
    (cc)

-- a text of one item spells one pattern
one_item : (part : Part) (text : List ℕ) (list : List (List ℕ)) → words_of text ≡ text ∷ [] → IsPatternList part text list → (p : List ℕ) × (list ≡ p ∷ []) × (item_of part text ≡ Ok p)
one_item part text list word read = only list (ap (map (item_of part)) (sym word) ∙ read.each)
  where
    only : (ps : List (List ℕ)) → map (item_of part) (text ∷ []) ≡ map Ok ps → (p : List ℕ) × (ps ≡ p ∷ []) × (item_of part text ≡ Ok p)
    only [] h = absurd (cc)
    only (p ∷ []) h = (p, refl, (cc))
    only (p ∷ q ∷ ps) h = absurd (cc)

one_word : (text : List ℕ) → list_all is_ascii_alphanumeric text ≡ true → words_of text ≡ text ∷ []
one_word text h = ap (map without_spaces) (one_part text h) ∙ ap (λ (w : List ℕ). w ∷ []) (untrimmed text h)

-- a pattern without a wildcard matches itself alone
abbrev is_fixed : ℕ → Bool
is_fixed c = not (c == star) && not (c == question_mark)

all_fixed : (text : List ℕ) → list_all is_ascii_alphanumeric text ≡ true → list_all is_fixed text ≡ true
all_fixed [] h = refl
all_fixed (c ∷ cs) h =
    let p = and_parts (is_ascii_alphanumeric c) (list_all is_ascii_alphanumeric cs) h in
    and_from (is_fixed c) (list_all is_fixed cs) (and_from (not (c == star)) (not (c == question_mark)) (ap not (other c star refl p.0)) (ap not (other c question_mark refl p.0))) (all_fixed cs p.1)

matches_itself : (text code : List ℕ) → list_all is_fixed text ≡ true → is_match text code ≡ true → text ≡ code
matches_itself [] [] h m = refl
matches_itself [] (c ∷ cs) h m = absurd (let e = eqb-true (length (c ∷ cs)) 0 m in omega (arith, e))
matches_itself (p ∷ ps) code h m =
    let q = and_parts (is_fixed p) (list_all is_fixed ps) h in
    let marks = and_parts (not (p == star)) (not (p == question_mark)) q.0 in
    takes_itself p ps code (not-true (p == star) marks.0) (not-true (p == question_mark) marks.1) (λ left k. matches_itself ps left q.1 k) m
  where
    takes_itself : (p : ℕ) (ps code : List ℕ) → (p == star) ≡ false → (p == question_mark) ≡ false → ((left : List ℕ) → is_match ps left ≡ true → ps ≡ left) → is_match (p ∷ ps) code ≡ true → p ∷ ps ≡ code
    takes_itself p ps [] no_star no_mark rest m = absurd (true≢false (sym (sym (ap (λ b. if b then some_suffix (is_match ps) [] else false) no_star) ∙ m)))
    takes_itself p ps (c ∷ cs) no_star no_mark rest m =
        let here : (((p == question_mark) || (p == c)) && is_match ps cs) ≡ true = sym (ap (λ b. if b then some_suffix (is_match ps) (c ∷ cs) else (((p == question_mark) || (p == c)) && is_match ps cs)) no_star) ∙ m in
        let both = and_parts ((p == question_mark) || (p == c)) (is_match ps cs) here in
        let same : (p == c) ≡ true = ap (λ b. b || (p == c)) (sym no_mark) ∙ both.0 in
        (λ i. eqb-true p c same i ∷ rest cs both.1 i)

-- a list of one pattern without a wildcard matches that alone
one_matches : (list : List (List ℕ)) (pattern code : List ℕ) → list ≡ pattern ∷ [] → list_all is_fixed pattern ≡ true → is_match_any list code ≡ true → pattern ≡ code
one_matches list pattern code only fixed m =
    let here : (is_match pattern code || false) ≡ true = ap (λ (l : List (List ℕ)). is_match_any l code) (sym only) ∙ m in
    matches_itself pattern code fixed (elim (is_match pattern code) as (λ b. (b || false) ≡ true → b ≡ true) [ true ↦ λ h. refl | false ↦ λ h. h ] here)

-- a list that is written as one code matches that alone
pub one_code_matches : (part : Part) (text : List ℕ) (list : List (List ℕ)) (code : List ℕ) → is_blank part text ≡ false → IsPatternList part text list → is_one_code text ≡ true → is_match_any list code ≡ true → text ≡ code
one_code_matches part text list code shown read one m =
    let item = one_item part text list (one_word text one) read in
    one_matches list text code (item.1 ∙ ap (λ (p : List ℕ). p ∷ []) (item_is part text item.0 shown item.2)) (all_fixed text one) m

-- such a list has one to eight bytes
pub one_code_fits : (part : Part) (text : List ℕ) (list : List (List ℕ)) → is_blank part text ≡ false → IsPatternList part text list → is_one_code text ≡ true → (1 ≤ length text) × (length text ≤ 8)
one_code_fits part text list shown read one =
    let item = one_item part text list (one_word text one) read in
    spelled (list_all is_pattern_byte text) (length text == 0 || nat_lt 8 (length text)) refl
    (ap (λ b. if b then Ok (space ∷ space ∷ []) else (if not (list_all is_pattern_byte text) then Err Character else (if length text == 0 || nat_lt 8 (length text) then Err Length else Ok text))) (sym shown) ∙ item.2)
  where
    within : (n : ℕ) → (n == 0 || nat_lt 8 n) ≡ false → (1 ≤ n) × (n ≤ 8)
    within n h = grind (arith, nat_tests)

    spelled : (plain long : Bool) → (length text == 0 || nat_lt 8 (length text)) ≡ long → (if not plain then Err Character else (if long then Err Length else Ok text)) ≡ Ok (one_item part text list (one_word text one) read).0 → (1 ≤ length text) × (length text ≤ 8)
    spelled false long is e = absurd (let k : Err Character ≡ Ok (one_item part text list (one_word text one) read).0 = e in cc)
    spelled true true is e = absurd (let k : Err Length ≡ Ok (one_item part text list (one_word text one) read).0 = e in cc)
    spelled true false is e = within (length text) is

-- and the location that is written so has one to eight
pub one_location_fits : (text : List ℕ) (list : List (List ℕ)) → IsPatternList Location text list → is_one_location text ≡ true → (1 ≤ length (location_in text)) × (length (location_in text) ≤ 8)
one_location_fits text list read one = by (is_blank_word text) refl
  where
    by : (b : Bool) → is_blank_word text ≡ b → (1 ≤ length (location_in text)) × (length (location_in text) ≤ 8)
    by true is = subst (λ (t : List ℕ). (1 ≤ length t) × (length t ≤ 8)) (ap (λ c. if c then space ∷ space ∷ [] else text) (sym is)) ((omega arith), (omega arith))
    by false is =
        subst (λ (t : List ℕ). (1 ≤ length t) × (length t ≤ 8)) (ap (λ c. if c then space ∷ space ∷ [] else text) (sym is))
        (elim (or_cases (is_one_code text) (bytes_eq text (codes "--")) one) [
          | inl plain ↦ one_code_fits Location text list is read plain
          | inr marks ↦ absurd (true≢false (ap is_blank_word (sym ((bytes_eq-Decides text (codes "--")).0 marks)) ∙ is))
        ])

-- a list for locations that is written as the blank location matches that alone
blank_matches : (text : List ℕ) (list : List (List ℕ)) (code : List ℕ) → is_blank_word text ≡ true → words_of text ≡ text ∷ [] → IsPatternList Location text list → is_match_any list code ≡ true → space ∷ space ∷ [] ≡ code
blank_matches text list code blank word read m =
    let item = one_item Location text list word read in
    one_matches list (space ∷ space ∷ []) code (item.1 ∙ ap (λ (p : List ℕ). p ∷ []) (blank_is Location text item.0 blank item.2)) refl m

-- a list for locations that is written as one code names what it matches
pub one_location_matches : (text : List ℕ) (list : List (List ℕ)) (code : List ℕ) → IsPatternList Location text list → is_one_location text ≡ true → is_match_any list code ≡ true → location_in text ≡ code
one_location_matches text list code read one m = by (is_blank_word text) refl
  where
    word : is_blank_word text ≡ true → words_of text ≡ text ∷ []
    word blank = elim (or_cases (is_one_code text) (bytes_eq text (codes "--")) one) [
      | inl plain ↦ one_word text plain
      | inr marks ↦ (let same = (bytes_eq-Decides text (codes "--")).0 marks in subst (λ (t : List ℕ). words_of t ≡ t ∷ []) (sym same) refl)
    ]

    by : (b : Bool) → is_blank_word text ≡ b → location_in text ≡ code
    by true is = ap (λ c. if c then space ∷ space ∷ [] else text) is ∙ blank_matches text list code is (word is) read m
    by false is =
        ap (λ c. if c then space ∷ space ∷ [] else text) is
        ∙ elim (or_cases (is_one_code text) (bytes_eq text (codes "--")) one) [
          | inl plain ↦ one_code_matches Location text list code is read plain m
          | inr marks ↦ absurd (true≢false (ap is_blank_word (sym ((bytes_eq-Decides text (codes "--")).0 marks)) ∙ is))
        ]
