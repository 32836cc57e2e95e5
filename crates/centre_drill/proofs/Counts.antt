-- What is counted of rows.
use Rattle.std.proofs.Common.{◌≡◌, ◌∙◌, ℕ, zero, suc, ◌+◌, List, [], ◌∷◌, length, take, map, Some, Ok, refl, sym, ap, arith, length-append}
use Rattle.std.specs.List.{slice_get}
use Rattle.std.specs.Prelude.{Result}
use Rattle.mseed_header.specs.Records.{images_of}
use Rattle.mseed_header.specs.declared.row.Row.{Row}
use Rattle.channel_globs.specs.declared.nslc.Part.{Part}
use Rattle.channel_globs.specs.declared.patterns.GlobFault.{GlobFault}
use Rattle.channel_globs.specs.PatternText.{IsPatternList}

-- the bytes of one row more
pub sized_more : (rows : List Row) (i : ℕ) (row : Row) → slice_get rows i ≡ Some row → length (images_of (take (suc i) rows)) ≡ length (images_of (take i rows)) + length row.image
sized_more [] i row there = absurd cc
sized_more (r ∷ rows) zero row there =
    let same : r ≡ row = cc in
    let all = length-append r.image [] in
    omega (arith, all, ap (λ (x : Row). length x.image) same)
sized_more (r ∷ rows) (suc i) row there =
    let more = length-append r.image (images_of (take (suc i) rows)) in
    let all = length-append r.image (images_of (take i rows)) in
    omega (arith, more, all, sized_more rows i row there)

-- two lists of patterns that a text spells are one
each_is : (xs ys : List (List ℕ)) → map {B = Result (List ℕ) GlobFault} Ok xs ≡ map Ok ys → xs ≡ ys
each_is [] [] e = refl
each_is [] (y ∷ ys) e = absurd cc
each_is (x ∷ xs) [] e = absurd cc
each_is (x ∷ xs) (y ∷ ys) e =
    let head : x ≡ y = cc in
    let tail : map {B = Result (List ℕ) GlobFault} Ok xs ≡ map Ok ys = cc in
    λ i. head i ∷ each_is xs ys tail i

pub one_list : (part : Part) (text : List ℕ) (xs ys : List (List ℕ)) → IsPatternList part text xs → IsPatternList part text ys → xs ≡ ys
one_list part text xs ys is also = each_is xs ys (sym is.each ∙ also.each)
