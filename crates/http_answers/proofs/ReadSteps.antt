-- Heads and bodies of what was taken so far.
use Rattle.std.proofs.Common.{◌≡◌, inl, inr, ℕ, ◌+◌, ◌*◌, ◌/◌, ◌<◌, ◌≤◌, List, [], ◌∷◌, ◌++◌, length, take, drop, map, Option, None, Some, refl, sym, ◌∙◌, ap, subst, arith, append-nil, length-append, length-take, drop-drop}
use Rattle.std.proofs.lemmas.Bool.{cases_lt}
use Rattle.std.proofs.lemmas.List.{take_at, take-append-drop, length-map, take-append-le}
use Rattle.std.proofs.Math.Seq.{take-append-add, drop-append_seam}
use Rattle.httparse.specs.Grammar.{ResponseHead, IsResponseHead, ReadsResponse, HasNoResponse, print_response}
use Rattle.httparse.specs.Spans.{header_bytes, name_and_value, IsResponseOf, IsResponseWithin, ResponseOverflows, ResponseExceeds}
use Rattle.httparse.specs.declared.spans.HeaderSpan.{HeaderSpan}
use Rattle.httparse.specs.declared.spans.ResponseSpans.{ResponseSpans}
use Rattle.httparse.proofs.GrammarLemmas.{response_prefix_free, ReadsResponse-append}
use Rattle.http_wire.specs.Taking.{TookMore}
use Rattle.http_wire.proofs.BlockSteps.{took_then}
use Rattle.http_wire.proofs.Room.{fields_are_long}
use Rattle.http_answers.specs.ReplyHeads.{Said, said, said_by}
use Rattle.http_answers.specs.Reading.{NeverBegins, IsCrowded, HasNoHead, LacksSize, IsLong, EndsInHead, EndsInBody, head_said, IsHeadRead, HasHead, Saw, GivesReply, said_of}
use Rattle.http_answers.specs.declared.got.Got.{Got}
use Rattle.http_answers.specs.declared.parsing.Head.{Head}
use Rattle.http_answers.specs.declared.parsing.HeadRead.TheVariants as found

-- ---- a parse

pub whole_read : (text : List ℕ) (headers : List HeaderSpan) (r : ResponseSpans) (head : Head) → IsResponseOf text headers r → IsResponseWithin text headers r → length headers ≡ 64
    → head.size ≡ r.len → head_said head ≡ said_by r.code (map (header_bytes text) (take r.headers headers)) → IsHeadRead text (found.Whole head)
whole_read text headers r head (tree, at) within room size says =
    let count : length tree.fields ≤ 64 =
    (let a = ap length at.fields in let b = length-map (take r.headers headers) (header_bytes text) in let d = length-map tree.fields name_and_value in
    omega (arith, a, b, d, length-take r.headers headers, room)) in
    let same : head_said head ≡ said tree = says ∙ (λ i. said_by (at.code i) (at.fields i)) in
    let fits : head.size ≤ length text = (let w = within.section.len_fits in omega (arith, w, size)) in
    record {
      tree = tree;
      reads = subst (λ (n : ℕ). ReadsResponse text tree (drop n text)) (sym size) at.reads;
      size = size ∙ at.len;
      few = count;
      says = same;
      within = fits;
    }

pub has_head : (text : List ℕ) (head : Head) → IsHeadRead text (found.Whole head) → head.size ≤ 16384 → HasHead text head
has_head text head w le = record {
  tree = w.tree;
  begins = record { reads = w.reads; size = (let size = w.size in omega (arith, size, le)); few = w.few };
  size = w.size;
  says = w.says;
}

-- ---- no head within the limits

response_is_long : (t : ResponseHead) → IsResponseHead t → 3 * length t.fields + 9 ≤ length (print_response t)
unfolding print_response
response_is_long t h =
    let fs = fields_are_long t.fields h.fields in
    grind (arith, length-append, fs)

-- there is room for all fields
pub has_room : (text : List ℕ) → ResponseExceeds (length text / 3) text → ⊥
has_room text (front, rest, split, h, reads, many) =
    let long = response_is_long h reads.0 in
    let all = ap length reads.1 in
    omega (arith, many, long, all, ap length split, length-append front rest, length-append front (10 ∷ []), length-append (print_response h) [])

-- a head that is found where there was no room for it has too many fields
pub is_crowded : (text : List ℕ) (headers : List HeaderSpan) (r : ResponseSpans) → ResponseOverflows 64 text → IsResponseOf text headers r → IsCrowded text
is_crowded text headers r over (tree, at) =
    let many = over [] tree (drop r.len text) (subst (λ (l : List ℕ). ReadsResponse l tree (drop r.len text)) (sym (append-nil text)) at.reads) in
    record { tree = tree; rest = drop r.len text; reads = at.reads; many = many }

pub is_too_big : (text : List ℕ) (head : Head) → IsHeadRead text (found.Whole head) → 16384 < head.size → HasNoHead text
is_too_big text head w lt =
    inr (inr (inl (record { tree = w.tree; rest = drop head.size text; reads = w.reads; big = (let size = w.size in omega (arith, lt, size)) })))

pub none_in_time : (text : List ℕ) → IsHeadRead text found.Short → 16384 ≤ length text → HasNoHead text
none_in_time text (none, may) le = inr (inr (inr (none, le)))

-- a head that goes on past the text
longer : (text more : List ℕ) (tree : ResponseHead) (rest : List ℕ) → HasNoResponse text → ReadsResponse (text ++ more) tree rest → length text < length (print_response tree)
longer text more tree rest none reads =
    elim (cases_lt (length text) (length (print_response tree))) [
      | inl lt ↦ lt
      | inr ge ↦ absurd (
          let p = print_response tree in
          let front : take (length p) text ≡ p = sym (take-append-le (length p) text more ge) ∙ ap (take (length p)) reads.1 ∙ take_at p rest (length p) refl in
          let split : text ≡ p ++ drop (length p) text = sym (take-append-drop (length p) text) ∙ ap (λ (l : List ℕ). l ++ drop (length p) text) front in
          none tree (drop (length p) text) (reads.0, split))
    ]

-- it is so whatever follows
pub no_head_never : (text : List ℕ) → HasNoHead text → NeverBegins text
no_head_never text (inl never) more tree rest is = never more tree rest is.reads
no_head_never text (inr (inl crowded)) more tree rest is =
    let same = response_prefix_free text more crowded.tree tree crowded.rest rest crowded.reads is.reads in
    let few = is.few in
    let many = crowded.many in
    omega (arith, few, many, ap (λ (t : ResponseHead). length t.fields) same.0)
no_head_never text (inr (inr (inl big))) more tree rest is =
    let same = response_prefix_free text more big.tree tree big.rest rest big.reads is.reads in
    let small = is.size in
    let large = big.big in
    omega (arith, small, large, ap (λ (t : ResponseHead). length (print_response t)) same.0)
no_head_never text (inr (inr (inr (none, le)))) more tree rest is = let small = is.size in omega (arith, longer text more tree rest none is.reads, le, small)

-- ---- what was seen

pub saw : (a b : Option (List ℕ)) (old held : List ℕ) (P : List ℕ → Type 0) → TookMore a b old held → P held → Saw a b old P
saw a b old held P t is = record { taken = t.taken; lost = t.lost; is = subst P t.held is }

pub ends_in_head : (text : List ℕ) → IsHeadRead text found.Short → length text < 16384 → EndsInHead text
ends_in_head text (none, open_yet) lt = record { none = none; may = open_yet; short = lt }

-- ---- bodies

pub lacks_size : (text : List ℕ) (head : Head) → HasHead text head → head.more ≡ None → LacksSize text
lacks_size text head h none = record { tree = h.tree; rest = drop head.size text; begins = h.begins; none = ap (λ (s : Said). s.size) (sym h.says) ∙ none }

pub is_long : (text : List ℕ) (head : Head) (n : ℕ) → HasHead text head → head.more ≡ Some n → IsLong text n
is_long text head n h some = record { tree = h.tree; rest = drop head.size text; begins = h.begins; size = ap (λ (s : Said). s.size) (sym h.says) ∙ some }

-- what is behind the head, where more came
behind_more : (text more : List ℕ) (head : Head) (h : HasHead text head) → ReadsResponse (text ++ more) h.tree (drop head.size text ++ more)
behind_more text more head h = ReadsResponse-append text h.tree (drop head.size text) more h.begins.reads

sizes : (text : List ℕ) (head : Head) → HasHead text head → length text ≡ head.size + length (drop head.size text)
sizes text head h = let all = ap length h.begins.reads.1 in let size = h.size in omega (arith, all, size, length-append (print_response h.tree) (drop head.size text))

pub ends_in_body : (a b : Option (List ℕ)) (text new : List ℕ) (head : Head) (n most : ℕ) → HasHead text head → TookMore a b text new → head.more ≡ Some n → length new < head.size + n → n ≤ most → EndsInBody most new
ends_in_body a b text new head n most h t some lt le = record {
  tree = h.tree;
  part = drop head.size text ++ t.taken;
  begins = record { reads = subst (λ (l : List ℕ). ReadsResponse l h.tree (drop head.size text ++ t.taken)) (sym t.held) (behind_more text t.taken head h); size = h.begins.size; few = h.begins.few };
  count = n;
  size = ap (λ (s : Said). s.size) (sym h.says) ∙ some;
  short = omega (arith, lt, sizes text head h, ap length t.held, length-append text t.taken, length-append (drop head.size text) t.taken);
  within = le;
}

-- the whole reply: its head was held, its body is what was taken behind it, and the rest is held
module _ (a b c : Option (List ℕ)) (old mid new last : List ℕ) (head : Head) (n most : ℕ) (got : Got) where
  abbrev Parts : Type 0
  Parts = (got.status ≡ head.status) × (got.front ≡ head.front) × (got.nonce ≡ head.nonce) × (got.body ≡ take n (drop head.size new)) × (last ≡ drop n (drop head.size new))

  pub gives : TookMore a b old mid → HasHead mid head → TookMore b c mid new → head.more ≡ Some n → head.size + n ≤ length new → n ≤ most
      → Parts → GivesReply most a c old last got
  gives t h u some full le (status, front, nonce, body, last-is) =
      let all = took_then a b c old mid new t u in
      let p = print_response h.tree in
      let rest = drop head.size mid ++ u.taken in
      let reads : ReadsResponse new h.tree rest =
      subst (λ (l : List ℕ). ReadsResponse l h.tree rest) (sym u.held) (behind_more mid u.taken head h) in
      let new-is : new ≡ p ++ rest = reads.1 in
      let behind : drop head.size new ≡ rest = (λ i. drop (h.size i) (new-is i)) ∙ drop-append_seam p rest in
      let used : take (head.size + n) new ≡ p ++ take n rest = (λ i. take (h.size i + n) (new-is i)) ∙ take-append-add p rest n in
      let body-is : got.body ≡ take n rest = body ∙ ap (take n) behind in
      let count : length got.body ≡ n =
      (let len = length-take n rest in let size = h.size in omega (arith, ap length body-is, len, full, ap length new-is, length-append p rest, size)) in
      let left : last ≡ drop (head.size + n) new = last-is ∙ drop-drop n head.size new in
      let same : said_of got ≡ head_said head =
      (λ i. record { status = status i; front = front i; nonce = nonce i; size = (ap Some count ∙ sym some) i }) in
      record {
        used = take (head.size + n) new;
        moved = record {
          taken = all.taken;
          lost = all.lost;
          split = sym all.held ∙ sym (take-append-drop (head.size + n) new) ∙ ap (λ (l : List ℕ). take (head.size + n) new ++ l) (sym left);
        };
        item = record {
          tree = h.tree;
          begins = record { reads = (reads.0, used ∙ ap (λ (l : List ℕ). p ++ l) (sym body-is)); size = h.begins.size; few = h.begins.few };
          says_is = same ∙ h.says;
          size = refl;
        };
        within = omega (arith, count, le);
      }
