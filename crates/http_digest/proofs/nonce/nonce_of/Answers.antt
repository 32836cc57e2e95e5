use Rattle.std.proofs.Common.{◌≡◌, ◌≤◌, ℕ, List, [], ◌∷◌, ◌++◌, length, take, drop, ◌∙◌, ap, ap₂, subst, arith}
use Rattle.std.proofs.Math.Seq.{take-append_seam, drop-append_seam}
use Rattle.std.proofs.lemmas.List.{append-nil, drop_all}
use borrow.Rule.Slice.PartMut.{put_mid}
use Rattle.http_digest.specs.Nonces.{nonce_of}
use Rattle.http_digest.specs.Responses.{digest_of}
use Rattle.http_digest.proofs.nonce.nonce_of.Goals as goal

-- what is put behind the first 16
placed : (front rest back : List ℕ) → length front ≡ 16 → length rest ≤ 32 → put_mid 16 32 (front ++ rest) back ≡ front ++ back
placed front rest back size room =
    let a : take 16 (front ++ rest) ≡ front = subst (λ n. take n (front ++ rest) ≡ front) size (take-append_seam front rest) in
    let b : drop 16 (front ++ rest) ≡ rest = subst (λ n. drop n (front ++ rest) ≡ rest) size (drop-append_seam front rest) in
    let d : drop 32 (drop 16 (front ++ rest)) ≡ [] = ap (drop 32) b ∙ drop_all 32 rest room in
    ap₂ (λ (x y : List ℕ). x ++ (back ++ y)) a d ∙ ap (λ (y : List ℕ). front ++ y) (append-nil back)

pub returns : goal.returns
unfolding nonce_of
returns c =
    placed c.copy_from_slice.new.self _ c.copy_from_slice-2.new.self c.copy_from_slice.ensures.len (omega arith)
    ∙ ap₂ (λ (x y : List ℕ). x ++ y) (c.copy_from_slice.ensures.after ∙ c.second_digits-digits.ensures)
    (c.copy_from_slice-2.ensures.after ∙ c.digest_of_two-seal.ensures
    ∙ ap₂ (λ (x y : List ℕ). digest_of (x ∷ y ∷ [])) c.secret_digits.ensures c.second_digits-digits.ensures)
