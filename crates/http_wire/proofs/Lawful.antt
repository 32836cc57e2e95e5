-- The parts of a head of the grammar are lawful.
use Rattle.std.proofs.Common.{◌≡◌, ℕ, ◌<◌, ◌≤◌, Bool, true, false, List, [], ◌∷◌, length, get_or, take, drop, map, refl, sym, ◌∙◌, ap, subst, arith, nat_lt}
use Rattle.std.specs.Prelude.{◌&&◌, All}
use Rattle.std.specs.List.{list_all}
use Rattle.std.proofs.lemmas.Bool.{false≢true}
use Rattle.std.proofs.lemmas.Bool.Decides.{nat_tests}
use Rattle.std.proofs.lemmas.List.Elements.{All-head, All-tail}
use Rattle.std.proofs.lemmas.List.Folds.{list_all-map, list_all_at}
use Rattle.std.proofs.lemmas.List.Sums.{list_all-from_AllPass}
use Rattle.httparse.specs.Grammar.{Field, IsField, field_value, is_token, is_token_byte, is_value_byte, is_uri_byte, IsToken, AllPass, RequestHead, ReadsRequest}
use Rattle.httparse.specs.Spans.{header_bytes, name_and_value, span_bytes, IsRequestAt, IsRequestOf}
use Rattle.httparse.specs.declared.spans.HeaderSpan.{HeaderSpan}
use Rattle.httparse.specs.declared.spans.RequestSpans.{RequestSpans}
use Rattle.httparse.proofs.TrimLemmas.{AllPass-trim_ows}
use Rattle.std.proofs.Common.{length-take}
use Rattle.std.proofs.lemmas.List.{length-map}
use Rattle.http_wire.proofs.WholeBlock.{head_is_whole}
use Rattle.http_wire.specs.Blocks.{IsBlock}
use Rattle.http_wire.specs.Heads.{is_value, is_target}
use Rattle.http_wire.specs.Spanned.{is_lawful_pair}

some : (n : ℕ) → 0 < n → nat_lt 0 n ≡ true
some n lt = grind (arith, nat_tests)

pub token_test : (text : List ℕ) → IsToken text → is_token text ≡ true
token_test text (lt, all) = rw (some (length text) lt, list_all-from_AllPass is_token_byte text all) refl

pub target_test : (text : List ℕ) → 0 < length text → AllPass is_uri_byte text → is_target text ≡ true
target_test text lt all = rw (some (length text) lt, list_all-from_AllPass is_uri_byte text all) refl

pub value_test : (text : List ℕ) → AllPass is_value_byte text → is_value text ≡ true
value_test text all = list_all-from_AllPass is_value_byte text all

lawful_field : (f : Field) → IsField f → is_lawful_pair (name_and_value f) ≡ true
lawful_field f h = rw (token_test f.name h.name, value_test (field_value f) (AllPass-trim_ows is_value_byte f.raw h.raw)) refl

pub lawful_fields : (fs : List Field) → All IsField fs → list_all is_lawful_pair (map name_and_value fs) ≡ true
lawful_fields [] h = refl
lawful_fields (f ∷ fs) h = rw (lawful_field f (All-head IsField f fs h), lawful_fields fs (All-tail IsField f fs h)) refl

both : (x y : Bool) → (x && y) ≡ true → (x ≡ true) × (y ≡ true)
both true y h = (refl, h)
both false y h = absurd cc

decide : (p : List ℕ × List ℕ → Bool) (g : HeaderSpan → List ℕ × List ℕ) (spans : List HeaderSpan) (i : ℕ) (d : HeaderSpan) (t : Bool)
    → i < length spans → list_all p (map g spans) ≡ true → p (g (get_or spans i d)) ≡ t → t ≡ true
decide p g spans i d true lt all is = refl
decide p g spans i d false lt all is =
    absurd (false≢true (sym (list_all_at (λ y. p (g y)) spans i d lt is) ∙ sym (list_all-map p g spans) ∙ all))

-- one of them is lawful
pub lawful_at : (block : List ℕ) (spans : List HeaderSpan) (i : ℕ) (d : HeaderSpan) → i < length spans
    → list_all is_lawful_pair (map (header_bytes block) spans) ≡ true
    → (is_token (span_bytes block (get_or spans i d).name) ≡ true) × (is_value (span_bytes block (get_or spans i d).value) ≡ true)
lawful_at block spans i d lt all =
    let one = decide is_lawful_pair (header_bytes block) spans i d (is_lawful_pair (header_bytes block (get_or spans i d))) lt all refl in
    both (is_token (span_bytes block (get_or spans i d).name)) (is_value (span_bytes block (get_or spans i d).value)) one

-- a parse of a block gives a head that is all of it, with no more fields than there is room for
pub parse_whole : (block : List ℕ) (headers : List HeaderSpan) (r : RequestSpans) → IsBlock block (length block) → IsRequestOf block headers r
    → (tree : RequestHead) × ReadsRequest block tree [] × IsRequestAt block headers r tree × (length tree.fields ≤ length headers)
parse_whole block headers r b (tree, at) =
    let P : List ℕ → Type 0 = λ rest. ReadsRequest block tree rest in
    let same : length (take r.headers headers) ≡ length tree.fields =
    sym (length-map (take r.headers headers) (header_bytes block)) ∙ ap length at.fields ∙ length-map tree.fields name_and_value in
    let few = length-take r.headers headers in
    (tree, subst P (head_is_whole block tree (drop r.len block) b at.reads) at.reads, at, omega (arith, same, few))

pub lawful_method : (block : List ℕ) (headers : List HeaderSpan) (r : RequestSpans) → IsRequestOf block headers r → is_token (span_bytes block r.method) ≡ true
lawful_method block headers r (tree, at) = ap is_token at.method ∙ token_test tree.method at.reads.0.method

pub lawful_target : (block : List ℕ) (headers : List HeaderSpan) (r : RequestSpans) → IsRequestOf block headers r → is_target (span_bytes block r.path) ≡ true
lawful_target block headers r (tree, at) = ap is_target at.path ∙ target_test tree.target at.reads.0.target.0 at.reads.0.target.1

pub lawful_spans : (block : List ℕ) (headers : List HeaderSpan) (r : RequestSpans) → IsRequestOf block headers r
    → list_all is_lawful_pair (map (header_bytes block) (take r.headers headers)) ≡ true
lawful_spans block headers r (tree, at) = ap (list_all is_lawful_pair) at.fields ∙ lawful_fields tree.fields at.reads.0.fields
