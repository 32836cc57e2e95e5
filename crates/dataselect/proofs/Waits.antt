-- The best segment so far, which waits until one of another name comes.
use Rattle.std.proofs.Common.{◌≡◌, ◌==◌, ◌||◌, ℕ, zero, suc, ◌<◌, Bool, true, false, not, List, [], ◌∷◌, ◌++◌, length, take, drop, cond, Option, Some, None, slice_index, refl, sym, ap, ◌∙◌, arith, append_assoc, append-nil}
use Rattle.std.specs.List.{AllByRecursion, concat, slice_get}
use Rattle.std.proofs.lemmas.Bool.Decides.{nat_tests}
use Rattle.mseed_header.specs.declared.row.Row.{Row}
use Rattle.dataselect.specs.Longest.{longest_by}
use Rattle.dataselect.specs.Picked.{NamesRise, long_segments}
use Rattle.dataselect.specs.Segments.{have_one_name, is_longer, is_same_name, are_same_or}
use Rattle.dataselect.proofs.Bests.{best_stands, best_falls, best_keeps}
use Rattle.dataselect.proofs.Fractions.{longer_further}
use Rattle.dataselect.proofs.Rises.{others_behind, same_names, rise_skipped, rise_begun}

-- the segments with the best before them, where there is one
abbrev pub with_best : List ℕ → List (List ℕ) → List (List ℕ)
with_best [] segments = segments
with_best (h ∷ best) segments = (h ∷ best) ∷ segments

-- what is still to be put: the longest of each name
abbrev pub to_put : List Row → List ℕ → List (List ℕ) → List ℕ
to_put rows best segments = concat (longest_by (have_one_name rows) (is_longer rows) (with_best best segments))

with_some : (segment : List ℕ) (segments : List (List ℕ)) → 0 < length segment → with_best segment segments ≡ segment ∷ segments
with_some [] segments some = absurd (omega arith)
with_some (h ∷ segment) segments some = refl

alike_names : (r s b : Option Row) → are_same_or s b ≡ true → are_same_or r s ≡ are_same_or r b
alike_names (Some r) (Some s) (Some b) h = ap (is_same_name r.header.name) (same_names s.header.name b.header.name h)
alike_names None s b h = refl
alike_names (Some r) (Some s) None h = (cc)
alike_names (Some r) None b h = (cc)

pub alike_segments : (rows : List Row) (b s : List ℕ) → have_one_name rows s b ≡ true → (r : List ℕ) → have_one_name rows r s ≡ have_one_name rows r b
unfolding have_one_name
alike_segments rows b s h r = alike_names (slice_get rows (slice_index r 0)) (slice_get rows (slice_index s 0)) (slice_get rows (slice_index b 0)) h

above_none : (n : ℕ) (t : Bool) → (suc n == 0 || t) ≡ t
above_none n t = let apart : (suc n == 0) ≡ false = grind (arith, nat_tests) in ap (λ b. b || t) apart

not_true : (b : Bool) → not b ≡ true → b ≡ false
not_true true h = (cc)
not_true false h = refl

not_false : (b : Bool) → not b ≡ false → b ≡ true
not_false true h = refl
not_false false h = (cc)

-- the next segment is the first of its name: the best is put
pub put_best : (rows : List Row) (minimum : ℕ) (picked new best segment rest whole : List ℕ) (segments : List (List ℕ)) (n : ℕ)
    → 0 < n → 0 < length rest → 0 < length segment → segment ≡ take n rest → NamesRise rows (take 1 best ++ rest) → long_segments rows minimum rest ≡ segment ∷ segments
    → (length best == 0 || not (have_one_name rows segment best)) ≡ true → new ≡ picked ++ best
    → picked ++ to_put rows best (long_segments rows minimum rest) ≡ whole → new ++ to_put rows segment segments ≡ whole
put_best rows minimum picked new [] segment rest whole segments n some within here front rise cut first grown is =
    let longest : List (List ℕ) → List ℕ = λ xs. concat (longest_by (have_one_name rows) (is_longer rows) xs) in
    rw (grown, append-nil) (ap (λ (xs : List (List ℕ)). picked ++ longest xs) (with_some segment segments here ∙ sym cut) ∙ is)
put_best rows minimum picked new (h ∷ best) segment rest whole segments n some within here front rise cut first grown is =
    let longest : List (List ℕ) → List ℕ = λ xs. concat (longest_by (have_one_name rows) (is_longer rows) xs) in
    let apart : have_one_name rows segment (h ∷ best) ≡ false = not_true (have_one_name rows segment (h ∷ best)) (sym (above_none (length best) (not (have_one_name rows segment (h ∷ best)))) ∙ first) in
    let stands = best_stands (have_one_name rows) (is_longer rows) (h ∷ best) (long_segments rows minimum rest) (others_behind rows minimum h best rest segment n some within front rise apart) in
    rw (grown, append_assoc)
    (ap (λ (xs : List (List ℕ)). picked ++ ((h ∷ best) ++ longest xs)) (with_some segment segments here ∙ sym cut)
    ∙ ap (λ (xs : List (List ℕ)). picked ++ concat xs) (sym stands) ∙ is)

-- the next segment has the name of the best: the longer of both waits
pub wait_longer : (rows : List Row) (minimum : ℕ) (picked best segment longer rest whole : List ℕ) (segments : List (List ℕ))
    → 0 < length segment → long_segments rows minimum rest ≡ segment ∷ segments
    → (length best == 0 || not (have_one_name rows segment best)) ≡ false → longer ≡ cond (is_longer rows segment best) segment best
    → picked ++ to_put rows best (long_segments rows minimum rest) ≡ whole → picked ++ to_put rows longer segments ≡ whole
wait_longer rows minimum picked [] segment longer rest whole segments here cut first chosen is = (cc)
wait_longer rows minimum picked (h ∷ best) segment longer rest whole segments here cut first chosen is =
    let all : List (List ℕ) → List ℕ = λ xs. picked ++ concat (longest_by (have_one_name rows) (is_longer rows) xs) in
    let alike : have_one_name rows segment (h ∷ best) ≡ true = not_false (have_one_name rows segment (h ∷ best)) (sym (above_none (length best) (not (have_one_name rows segment (h ∷ best)))) ∙ first) in
    let before : all ((h ∷ best) ∷ segment ∷ segments) ≡ whole = ap (λ (xs : List (List ℕ)). all ((h ∷ best) ∷ xs)) (sym cut) ∙ is in
    let picks : (b : Bool) → is_longer rows segment (h ∷ best) ≡ b → all (with_best (cond b segment (h ∷ best)) segments) ≡ whole =
    λ b. elim b as (λ t. is_longer rows segment (h ∷ best) ≡ t → all (with_best (cond t segment (h ∷ best)) segments) ≡ whole) [
      | true ↦ λ e. ap all (with_some segment segments here) ∙ ap (λ (xs : List (List ℕ)). picked ++ concat xs) (sym (best_falls (have_one_name rows) (is_longer rows) (h ∷ best) segment segments alike e)) ∙ before
      | false ↦ λ e. ap (λ (xs : List (List ℕ)). picked ++ concat xs) (sym (best_keeps (have_one_name rows) (is_longer rows) (h ∷ best) segment (alike_segments rows (h ∷ best) segment alike) (longer_further rows (h ∷ best) segment e) segments alike e)) ∙ before
    ] in
    rw chosen (picks (is_longer rows segment (h ∷ best)) refl)

-- at the end the best is put
pub put_last : (rows : List Row) (picked new best whole : List ℕ) → new ≡ picked ++ best → picked ++ to_put rows best [] ≡ whole → new ≡ whole
put_last rows picked new [] whole grown is = grown ∙ is
put_last rows picked new (h ∷ best) whole grown is = grown ∙ ap (λ (xs : List ℕ). picked ++ xs) (sym (append-nil (h ∷ best))) ∙ is

-- one of two segments is inside, and has a place
pub all_of_longer : (P : ℕ → Type 0) (b : Bool) (segment best longer : List ℕ) → longer ≡ cond b segment best → AllByRecursion P segment → AllByRecursion P best → AllByRecursion P longer
all_of_longer P true segment best longer e one two = rw e one
all_of_longer P false segment best longer e one two = rw e two

pub rise_longer : (rows : List Row) (b : Bool) (best segment longer rest after : List ℕ) (n : ℕ) → longer ≡ cond b segment best → segment ≡ take n rest → after ≡ drop n rest
    → NamesRise rows (take 1 best ++ rest) → NamesRise rows (take 1 longer ++ after)
rise_longer rows true best segment longer rest after n e front back rise = rw e (rise_begun rows best segment rest after n front back rise)
rise_longer rows false best segment longer rest after n e front back rise = rw e (rise_skipped rows best rest after n back rise)

-- the first segment of some places has a place
pub some_taken : (n : ℕ) (segment rest : List ℕ) → 0 < n → 0 < length rest → segment ≡ take n rest → 0 < length segment
some_taken zero segment rest some within e = absurd (omega arith)
some_taken (suc n) segment [] some within e = absurd (omega arith)
some_taken (suc n) segment (r ∷ rest) some within e = rw e (omega arith)
