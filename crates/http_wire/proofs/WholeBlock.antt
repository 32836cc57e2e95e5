-- A head that begins a head block is the whole block.
use Rattle.std.proofs.Common.{◌≡◌, ◌∙◌, ℕ, ◌+◌, List, [], ◌∷◌, ◌++◌, length, refl, sym, ap, subst, arith, length-append, append-nil, append_assoc, inl, inr}
use Rattle.std.specs.List.{flat_map}
use Rattle.httparse.specs.Grammar.{LineEnd, crlf, lf, print_end, Field, print_field, print_blank, print_version, RequestHead, ReadsRequest, print_request}
use Rattle.std.proofs.Common.{take}
use Rattle.std.proofs.lemmas.Bool.{cases_lt}
use Rattle.std.proofs.lemmas.List.{take_at, nil_from_length}
use Rattle.http_wire.specs.Blocks.{EndsBlock, IsBlock}

-- the text ends in LF
abbrev EndsLine : List ℕ → Type 0
EndsLine text = (front : List ℕ) × (text ≡ front ++ 10 ∷ [])

end_line : (e : LineEnd) → EndsLine (print_end e)
end_line crlf = (13 ∷ [], refl)
end_line lf = ([], refl)

after : (a b : List ℕ) → EndsLine b → EndsLine (a ++ b)
after a b (f, e) = (a ++ f, ap (λ x. a ++ x) e ∙ sym (append_assoc a f (10 ∷ [])))

fields_line : (text : List ℕ) (fs : List Field) → EndsLine text → EndsLine (text ++ flat_map print_field fs)
fields_line text [] h = subst EndsLine (sym (append-nil text)) h
fields_line text (f ∷ fs) h =
    let one : EndsLine (text ++ print_field f) = after text (print_field f) (after (f.name ++ 58 ∷ f.raw) (print_end f.end) (end_line f.end)) in
    subst EndsLine (append_assoc text (print_field f) (flat_map print_field fs)) (fields_line (text ++ print_field f) fs one)

last_line : (text : List ℕ) (e : LineEnd) → EndsLine text → EndsBlock (text ++ print_end e)
last_line text lf (f, h) = (f, inl (ap (λ x. x ++ 10 ∷ []) h ∙ append_assoc f (10 ∷ []) (10 ∷ [])))
last_line text crlf (f, h) = (f, inr (ap (λ x. x ++ 13 ∷ 10 ∷ []) h ∙ append_assoc f (10 ∷ []) (13 ∷ 10 ∷ [])))

pub head_ends : (t : RequestHead) → EndsBlock (print_request t)
unfolding print_request
head_ends t =
    let line = print_blank t.blank ++ t.method ++ 32 ∷ t.target ++ 32 ∷ print_version t.minor in
    let start = line ++ print_end t.line_end in
    subst EndsBlock (append_assoc start (flat_map print_field t.fields) (print_end t.last))
    (last_line (start ++ flat_map print_field t.fields) t.last
    (fields_line start t.fields (after line (print_end t.line_end) (end_line t.line_end))))

-- a head that begins a block is all of it
pub head_is_whole : (block : List ℕ) (t : RequestHead) (rest : List ℕ) → IsBlock block (length block) → ReadsRequest block t rest → rest ≡ []
head_is_whole block t rest b r =
    let long : length block ≡ length (print_request t) + length rest = ap length r.1 ∙ length-append (print_request t) rest in
    let front : take (length (print_request t)) block ≡ print_request t = ap (take (length (print_request t))) r.1 ∙ take_at (print_request t) rest (length (print_request t)) refl in
    elim (cases_lt (length (print_request t)) (length block)) [
      | inl short ↦ absurd (b.first (length (print_request t)) short (subst EndsBlock (sym front) (head_ends t)))
      | inr all ↦ nil_from_length rest (omega (arith, long))
    ]
