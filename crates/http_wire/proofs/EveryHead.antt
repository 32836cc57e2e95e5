-- Each block reads as a head, or as none.
use Rattle.std.proofs.Common.{◌≡◌, ◌∙◌, ◌⊎◌, inl, inr, ℕ, zero, suc, ◌+◌, ◌<◌, ◌≤◌, Bool, List, [], ◌∷◌, ◌++◌, length, length-append, append-nil, append_assoc, refl, sym, ap, arith}
use Rattle.std.specs.Prelude.{All, IsUtf8, Option, None, Some}
use Rattle.std.specs.Str.{is_utf8}
use Rattle.std.specs.List.{flat_map, list_all}
use Rattle.std.proofs.lemmas.List.Sums.{AllPass-from_list_all, list_all-from_AllPass}
use Rattle.std.proofs.lemmas.Str.{IsUtf8-from_is_utf8, is_utf8-from_IsUtf8}
use Rattle.httparse.specs.Grammar.{LineEnd, crlf, lf, print_end, print_blank, print_version, Field, print_field, IsField, IsToken, AllPass, is_token_byte, is_uri_byte, is_value_byte, RequestHead, print_request, ReadsRequest}
use Rattle.http_wire.specs.Heads.{HeadView, head_said, ReadsBlock}
use Rattle.http_wire.proofs.Decided.{OrNot, both, either, alike, passes, same_text, Splits, splits, Begins, begins, prints}

some_or_not : (text : List ℕ) → OrNot (0 < length text)
some_or_not [] = inr (λ lt. omega (arith, lt))
some_or_not (b ∷ bytes) = inl (omega arith)

all_pass : (test : ℕ → Bool) (text : List ℕ) → OrNot (AllPass test text)
all_pass test text = alike (AllPass-from_list_all test text) (list_all-from_AllPass test text) (passes (list_all test text))

token : (text : List ℕ) → OrNot (IsToken text)
token text = both (some_or_not text) (all_pass is_token_byte text)

-- what a target is
abbrev IsTarget : List ℕ → Type 0
IsTarget text = ((0 < length text) × AllPass is_uri_byte text) × IsUtf8 text

target : (text : List ℕ) → OrNot (IsTarget text)
target text =
    both (both (some_or_not text) (all_pass is_uri_byte text)) (alike (IsUtf8-from_is_utf8 text) (is_utf8-from_IsUtf8 text) (passes (is_utf8 text)))

-- a line's end
abbrev Any : {T : Type 0} → T → Type 0
Any x = Unit {0}

abbrev IsEnd : List ℕ → Type 0
IsEnd text = (e : LineEnd) × (text ≡ print_end e)

line_end : (text : List ℕ) → OrNot (IsEnd text)
line_end text = alike to (λ h. from h.0 h.1) (either (same_text text (print_end crlf)) (same_text text (print_end lf)))
  where
    to : (text ≡ print_end crlf) ⊎ (text ≡ print_end lf) → IsEnd text
    to (inl e) = (crlf, e)
    to (inr e) = (lf, e)

    from : (e : LineEnd) → text ≡ print_end e → (text ≡ print_end crlf) ⊎ (text ≡ print_end lf)
    from crlf e = inl e
    from lf e = inr e

some_end : (e : LineEnd) → 0 < length (print_end e)
some_end crlf = omega arith
some_end lf = omega arith

abbrev IsBlanks : List ℕ → Type 0
IsBlanks text = (ends : List LineEnd) × (text ≡ print_blank ends)

blanks : (text : List ℕ) → OrNot (IsBlanks text)
blanks text =
    alike (λ h. (h.0, h.2)) (λ h. (h.0, (λ k d lt. tt), h.1))
    (prints (λ (e : LineEnd). Unit {0}) print_end some_end (λ t. alike (λ h. (h.0, tt, h.1)) (λ h. (h.0, h.2)) (line_end t)) text)

-- the version, 1.0 or 1.1
abbrev IsVersion : List ℕ → Type 0
IsVersion text = (minor : ℕ) × (minor ≤ 1) × (text ≡ print_version minor)

version : (text : List ℕ) → OrNot (IsVersion text)
version text = alike to (λ h. from h.0 h.1 h.2) (either (same_text text (print_version 0)) (same_text text (print_version 1)))
  where
    to : (text ≡ print_version 0) ⊎ (text ≡ print_version 1) → IsVersion text
    to (inl e) = (0, omega arith, e)
    to (inr e) = (1, omega arith, e)

    from : (minor : ℕ) → minor ≤ 1 → text ≡ print_version minor → (text ≡ print_version 0) ⊎ (text ≡ print_version 1)
    from zero le e = inl e
    from (suc zero) le e = inr e
    from (suc (suc n)) le e = absurd (omega (arith, le))

-- a field's line
abbrev IsLine : List ℕ → Type 0
IsLine text = (field : Field) × IsField field × (text ≡ print_field field)

abbrev IsValueLine : List ℕ → Type 0
IsValueLine = Splits (AllPass is_value_byte) IsEnd

value_line : (text : List ℕ) → OrNot (IsValueLine text)
value_line = splits (AllPass is_value_byte) IsEnd (all_pass is_value_byte) line_end

field_line : (text : List ℕ) → OrNot (IsLine text)
field_line text = alike to from (splits IsToken (Begins 58 IsValueLine) token (begins 58 IsValueLine value_line) text)
  where
    to : Splits IsToken (Begins 58 IsValueLine) text → IsLine text
    to (name, behind, e, is_token, (rest, f, (raw, ending, g, is_raw, (end, h)))) =
        let field : Field = record { name = name; raw = raw; end = end } in
        let line : behind ≡ 58 ∷ (raw ++ print_end end) = f ∙ ap (λ (t : List ℕ). 58 ∷ t) (g ∙ ap (λ (t : List ℕ). raw ++ t) h) in
        let whole : text ≡ print_field field = e ∙ ap (λ (t : List ℕ). name ++ t) line ∙ sym (append_assoc name (58 ∷ raw) (print_end end)) in
        (field, record { name = is_token; raw = is_raw }, whole)

    from : IsLine text → Splits IsToken (Begins 58 IsValueLine) text
    from (field, is, e) = (field.name, 58 ∷ field.raw ++ print_end field.end, e ∙ append_assoc field.name (58 ∷ field.raw) (print_end field.end), is.name, (field.raw ++ print_end field.end, refl, (field.raw, print_end field.end, refl, is.raw, (field.end, refl))))

some_line : (field : Field) → 0 < length (print_field field)
some_line field =
    let whole : length (print_field field) ≡ length (field.name ++ 58 ∷ field.raw) + length (print_end field.end) = length-append (field.name ++ 58 ∷ field.raw) (print_end field.end) in
    let end = some_end field.end in
    omega (arith, whole, end)

abbrev IsLines : List ℕ → Type 0
IsLines text = (fields : List Field) × All IsField fields × (text ≡ flat_map print_field fields)

lines : (text : List ℕ) → OrNot (IsLines text)
lines = prints IsField print_field some_line field_line

-- the parts of a head, one behind another
abbrev BehindVersion : List ℕ → Type 0
BehindVersion = Splits IsEnd (Splits IsLines IsEnd)

abbrev BehindTarget : List ℕ → Type 0
BehindTarget = Begins 32 (Splits IsVersion BehindVersion)

abbrev BehindMethod : List ℕ → Type 0
BehindMethod = Begins 32 (Splits IsTarget BehindTarget)

abbrev IsHead : List ℕ → Type 0
IsHead = Splits IsBlanks (Splits IsToken BehindMethod)

behind_version : (text : List ℕ) → OrNot (BehindVersion text)
behind_version = splits IsEnd (Splits IsLines IsEnd) line_end (splits IsLines IsEnd lines line_end)

behind_target : (text : List ℕ) → OrNot (BehindTarget text)
behind_target = begins 32 (Splits IsVersion BehindVersion) (splits IsVersion BehindVersion version behind_version)

behind_method : (text : List ℕ) → OrNot (BehindMethod text)
behind_method = begins 32 (Splits IsTarget BehindTarget) (splits IsTarget BehindTarget target behind_target)

head_or_not : (text : List ℕ) → OrNot (IsHead text)
head_or_not = splits IsBlanks (Splits IsToken BehindMethod) blanks (splits IsToken BehindMethod token behind_method)

abbrev HasTree : List ℕ → Type 0
HasTree block = (tree : RequestHead) × ReadsRequest block tree []

-- a head's bytes, part behind part
by_part : (a b c d e f : List ℕ) → a ++ b ++ c ++ d ++ e ++ f ≡ a ++ (b ++ (c ++ (d ++ (e ++ f))))
by_part a b c d e f =
    append_assoc (a ++ b ++ c ++ d) e f ∙ append_assoc (a ++ b ++ c) d (e ++ f) ∙ append_assoc (a ++ b) c (d ++ (e ++ f)) ∙ append_assoc a b (c ++ (d ++ (e ++ f)))

abbrev parts : RequestHead → List ℕ
parts t =
    print_blank t.blank ++ (t.method ++ (32 ∷ (t.target ++ (32 ∷ (print_version t.minor ++ (print_end t.line_end ++ (flat_map print_field t.fields ++ print_end t.last)))))))

print_parts : (t : RequestHead) → print_request t ≡ parts t
unfolding print_request
print_parts t = by_part (print_blank t.blank) t.method (32 ∷ t.target) (32 ∷ print_version t.minor) (print_end t.line_end) (flat_map print_field t.fields ++ print_end t.last)

tree_of : (block : List ℕ) → IsHead block → HasTree block
tree_of block (b, r1, e1, (blank, e2), (method, r2, e3, is_method, (r3, e4, (path, r4, e5, is_path, (r5, e6, (v, r6, e7, (minor, le, e8), (l, r7, e9, (line, e10), (fs, last_text, e11, (fields, all, e12), (last, e13))))))))) =
    let tree : RequestHead = record { blank = blank; method = method; target = path; minor = minor; line_end = line; fields = fields; last = last } in
    let f7 : r7 ≡ flat_map print_field fields ++ print_end last = e11 ∙ ap (λ (t : List ℕ). t ++ last_text) e12 ∙ ap (λ (t : List ℕ). flat_map print_field fields ++ t) e13 in
    let f6 : r6 ≡ print_end line ++ (flat_map print_field fields ++ print_end last) = e9 ∙ ap (λ (t : List ℕ). t ++ r7) e10 ∙ ap (λ (t : List ℕ). print_end line ++ t) f7 in
    let f5 : r5 ≡ print_version minor ++ (print_end line ++ (flat_map print_field fields ++ print_end last)) = e7 ∙ ap (λ (t : List ℕ). t ++ r6) e8 ∙ ap (λ (t : List ℕ). print_version minor ++ t) f6 in
    let f3 : r3 ≡ path ++ 32 ∷ (print_version minor ++ (print_end line ++ (flat_map print_field fields ++ print_end last))) = e5 ∙ ap (λ (t : List ℕ). path ++ t) (e6 ∙ ap (λ (t : List ℕ). 32 ∷ t) f5) in
    let f1 : r1 ≡ method ++ 32 ∷ (path ++ 32 ∷ (print_version minor ++ (print_end line ++ (flat_map print_field fields ++ print_end last)))) = e3 ∙ ap (λ (t : List ℕ). method ++ t) (e4 ∙ ap (λ (t : List ℕ). 32 ∷ t) f3) in
    let all_of : block ≡ parts tree = e1 ∙ ap (λ (t : List ℕ). t ++ r1) e2 ∙ ap (λ (t : List ℕ). print_blank blank ++ t) f1 in
    (tree, (record { method = is_method; target = is_path.0; target_text = is_path.1; minor = le; fields = all }, all_of ∙ sym (print_parts tree) ∙ sym (append-nil (print_request tree))))

parts_of : (block : List ℕ) → HasTree block → IsHead block
parts_of block (tree, (is, e)) =
    let r7 = flat_map print_field tree.fields ++ print_end tree.last in
    let r6 = print_end tree.line_end ++ r7 in
    let r5 = print_version tree.minor ++ r6 in
    let r3 = tree.target ++ 32 ∷ r5 in
    let r1 = tree.method ++ 32 ∷ r3 in (
      print_blank tree.blank,
      r1,
      e ∙ append-nil (print_request tree) ∙ print_parts tree,
      (tree.blank, refl),
      (
        tree.method,
        32 ∷ r3,
        refl,
        is.method,
        (
          r3,
          refl,
          (
            tree.target,
            32 ∷ r5,
            refl,
            (is.target, is.target_text),
            (
              r5,
              refl,
              (
                print_version tree.minor,
                r6,
                refl,
                (tree.minor, is.minor, refl),
                (
                  print_end tree.line_end,
                  r7,
                  refl,
                  (tree.line_end, refl),
                  (flat_map print_field tree.fields, print_end tree.last, refl, (tree.fields, is.fields, refl), (tree.last, refl)),
                ),
              ),
            ),
          ),
        ),
      ),
    )

-- a block is a head, or none
pub every_block : (block : List ℕ) → (read : Option HeadView) × ReadsBlock block read
every_block block = elim (alike (tree_of block) (parts_of block) (head_or_not block)) [
  | inl found ↦ (Some (head_said found.0), (found.0, found.1, refl))
  | inr none ↦ (None, (λ tree reads. none (tree, reads)))
]
