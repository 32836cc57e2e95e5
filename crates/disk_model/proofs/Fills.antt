-- Files with some of their bytes set.
use Rattle.std.proofs.Common.{◌≡◌, inl, inr, ℕ, ◌+◌, ◌-◌, ◌<◌, min, List, length, get_or, replicate, true, false, if◌then◌else◌, sym, ◌∙◌, ap, arith}
use Rattle.std.proofs.lemmas.List.{places}
use Rattle.std.proofs.lemmas.Bool.{cases_lt}
use Rattle.std.proofs.lemmas.Bool.Decides.{nat_tests}
use borrow.Rule.Slice.PartMut.{put_mid}
use Rattle.disk_model.specs.Images.{Images, is_within}
use Rattle.disk_model.specs.Choices.{IsFilled, is_free}

pub set_within : (xs ys : List ℕ) (at n len k byte : ℕ) → ys ≡ replicate n byte → at + n ≡ min (at + len) (length xs) → k < length xs → get_or (put_mid at n xs ys) k 0 ≡ (if is_within at len k then byte else get_or xs k 0)
set_within xs ys at n len k byte is end lt = grind (arith, places, nat_tests)

-- the bytes past the end of a first part are set too
pub filled_past : (images : Images) (n : ℕ) (content middle image : List ℕ) (byte past : ℕ) → n ≡ length images.base → past ≡ length middle - n → IsFilled images.is_written content byte middle → length image ≡ length middle
    → ((k : ℕ) → k < length middle → get_or image k 0 ≡ (if is_within n past k then byte else get_or middle k 0)) → IsFilled (is_free images) content byte image
filled_past images n content middle image byte past size is filled long set = record {
  as_long = long ∙ filled.as_long;
  each = λ k lt. set k (omega (arith, long, lt)) ∙ elim (cases_lt k (length images.base)) [
    | inl below ↦
        let out : is_within n past k ≡ false = grind (arith, nat_tests) in
        let free : is_free images k ≡ images.is_written k = grind (arith, nat_tests) in
        ap (λ b. if b then byte else get_or middle k 0) out ∙ filled.each k (omega (arith, long, lt)) ∙ ap (λ b. if b then byte else get_or content k 0) (sym free)
    | inr above ↦
        let within : is_within n past k ≡ true = grind (arith, nat_tests) in
        let free : is_free images k ≡ true = grind (arith, nat_tests) in
        ap (λ b. if b then byte else get_or middle k 0) within ∙ ap (λ b. if b then byte else get_or content k 0) (sym free)
  ];
}
