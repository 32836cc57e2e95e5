-- The values of fields, one after the other.
use Rattle.std.proofs.Common.{◌≡◌, ℕ, ◌+◌, ◌<◌, true, false, List, length, get_or, drop, map, sym, ◌∙◌, ap, add-one, drop-cons, Some}
use Rattle.std.specs.Str.{str_eq_ignore_ascii_case}
use Rattle.std.proofs.lemmas.Bool.{cond-true, cond-false}
use Rattle.httparse.specs.Spans.{header_bytes, span_bytes}
use Rattle.httparse.specs.declared.spans.HeaderSpan.{HeaderSpan}
use Rattle.http_answers.specs.ReplyHeads.{value_of}

pub value_here : (block name : List ℕ) (spans : List HeaderSpan) (i : ℕ) (d : HeaderSpan) → i < length spans
    → str_eq_ignore_ascii_case (span_bytes block (get_or spans i d).name) name ≡ true → value_of name (map (header_bytes block) (drop i spans)) ≡ Some (span_bytes block (get_or spans i d).value)
value_here block name spans i d lt is = ap (λ (s : List HeaderSpan). value_of name (map (header_bytes block) s)) (drop-cons spans i d lt) ∙ cond-true _ _ _ is

pub value_behind : (block name : List ℕ) (spans : List HeaderSpan) (i : ℕ) (d : HeaderSpan) → i < length spans
    → str_eq_ignore_ascii_case (span_bytes block (get_or spans i d).name) name ≡ false → value_of name (map (header_bytes block) (drop i spans)) ≡ value_of name (map (header_bytes block) (drop (i + 1) spans))
value_behind block name spans i d lt isnt =
    ap (λ (s : List HeaderSpan). value_of name (map (header_bytes block) s)) (drop-cons spans i d lt) ∙ cond-false _ _ _ isnt
    ∙ ap (λ (k : ℕ). value_of name (map (header_bytes block) (drop k spans))) (sym (add-one i))
