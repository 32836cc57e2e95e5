-- Which rows are too late after others: a test of whole microseconds.
use Rattle.std.proofs.Common.{◌≡◌, ℕ, ◌==◌, ℤ, Bool, true, false, ◌&&◌, List, [], ◌∷◌, ◌++◌, refl, sym, ap, ◌∙◌, arith, cond, true≢false}
use Rattle.std.specs.Prelude.{int_lt}
use Rattle.std.specs.Int.{int_max}
use Rattle.std.specs.List.{list_all}
use Rattle.std.proofs.lemmas.Int.{ints}
use Rattle.std.proofs.lemmas.List.Folds.{list_all-append}
use Rattle.exact_time.specs.SampleTime.{reach_at}
use Rattle.exact_time.proofs.Wholes.{reach_decides}
use Rattle.mseed_header.specs.Times.{next_index}
use Rattle.mseed_header.specs.declared.header.Header.{Header}
use Rattle.dataselect.specs.Spans.{is_too_late}

next_still : (h : Header) → h.rate.num ≡ 0 → next_index h ≡ 0
next_still h none = elim (h.rate.num == 0) as (λ b. h.rate.num == 0 ≡ b → cond b 0 h.samples ≡ 0) [
  | true ↦ λ _. refl
  | false ↦ λ e. absurd (let same : h.rate.num == 0 ≡ true = ap (λ n. n == 0) none in let no : true ≡ false = sym same ∙ e in true≢false no)
] refl

-- the last microsecond that isn't too late after a record
abbrev pub reach_of : ℕ → Header → ℤ
reach_of gap h = reach_at h.start.micros (next_index h) h.rate gap

pub too_late_is : (gap : ℕ) (h : Header) (q : ℤ) → is_too_late gap h q ≡ int_lt (reach_of gap h) q
too_late_is gap h q = reach_decides h.start.micros (next_index h) h.rate gap q (next_still h)

lt_both : (a b q : ℤ) → (int_lt a q && (int_lt b q && true)) ≡ int_lt (int_max a b) q
lt_both a b q = grind (arith, ints)

and_true : (b : Bool) → (b && true) ≡ b
and_true true = refl
and_true false = refl

-- one record more: a moment is too late after all of them exactly where it is behind the greater reach
pub far_more : (gap : ℕ) (earlier : List Header) (far : ℤ) (h : Header) (q : ℤ) → list_all (λ e. is_too_late gap e q) earlier ≡ int_lt far q
    → list_all (λ e. is_too_late gap e q) (earlier ++ h ∷ []) ≡ int_lt (int_max far (reach_of gap h)) q
far_more gap earlier far h q known =
    list_all-append (λ (e : Header). is_too_late gap e q) earlier (h ∷ [])
    ∙ ap (λ b. b && (is_too_late gap h q && true)) known
    ∙ ap (λ b. int_lt far q && (b && true)) (too_late_is gap h q)
    ∙ lt_both far (reach_of gap h) q

pub far_alone : (gap : ℕ) (h : Header) (q : ℤ) → list_all (λ e. is_too_late gap e q) (h ∷ []) ≡ int_lt (reach_of gap h) q
far_alone gap h q = and_true (is_too_late gap h q) ∙ too_late_is gap h q
