use Rattle.std.proofs.Common.{◌≡◌, ◌++◌, ◌∷◌, [], List, ℕ, ap, ◌∙◌, codes, append_assoc}
use Rattle.std.specs.List.{join_with_byte}
use Rattle.hex.specs.Hex.{encode_lower}
use Rattle.md5.specs.Md5.{md5}
use Rattle.http_digest.specs.Responses.{colon}
use Rattle.http_digest.proofs.response.auth_response.Goals as goal

-- pieces with one between
between : (s a b c d e f : List ℕ)
    → a ++ (s ++ b) ++ s ++ (c ++ (s ++ (d ++ (s ++ e)))) ++ s ++ f ≡ a ++ (s ++ (b ++ (s ++ (c ++ (s ++ (d ++ (s ++ (e ++ (s ++ f)))))))))
between s a b c d e f = simp append_assoc

-- the parts as they are fed
joined : (ha1 nonce nc cnonce word ha2 : List ℕ)
    → (ha1 ++ colon ∷ nonce) ++ colon ∷ [] ++ (nc ++ colon ∷ (cnonce ++ colon ∷ word)) ++ colon ∷ [] ++ ha2
    ≡ join_with_byte colon (ha1 ∷ nonce ∷ nc ∷ cnonce ∷ word ∷ ha2 ∷ [])
joined ha1 nonce nc cnonce word ha2 = between (colon ∷ []) ha1 nonce nc cnonce word ha2

pub returns : goal.returns
returns c =
    let h1 = c.feed_user.ensures [] c.new-hasher.ensures in
    let h2 = c.update.ensures _ h1 in
    let h3 = c.feed_part.ensures _ h2 in
    let h4 = c.update-2.ensures _ h3 in
    let h5 = c.update-3.ensures _ h4 in
    c.text_of.ensures
    ∙ ap encode_lower (c.finalize.ensures _ h5 ∙ ap (λ (ha2 : List ℕ). md5 (c.args.ha1.now ++ colon ∷ c.args.nonce.now ++ colon ∷ [] ++ (c.args.part.now.nc ++ colon ∷ (c.args.part.now.cnonce ++ colon ∷ codes "auth")) ++ colon ∷ [] ++ ha2)) c.as_slice.ensures
    ∙ ap md5 (joined c.args.ha1.now c.args.nonce.now c.args.part.now.nc c.args.part.now.cnonce (codes "auth") c.args.ha2.now))
