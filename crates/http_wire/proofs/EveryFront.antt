-- Each stream begins with a front, each front says something, and a head that it says is one of lawful parts.
use Rattle.std.proofs.Common.{◌≡◌, ◌∙◌, ◌⊎◌, inl, inr, ℕ, zero, suc, ◌+◌, ◌-◌, ◌≤◌, true, false, List, [], ◌∷◌, ◌++◌, length, take, drop, map, refl, sym, ap, subst, arith, Result, Ok, Err, Option, None, Some}
use Rattle.std.specs.List.{list_all}
use Rattle.std.proofs.lemmas.Bool.{cases_lt, and_parts, false≢true}
use Rattle.std.proofs.lemmas.List.{take-append-drop}
use Rattle.httparse.specs.Grammar.{RequestHead, ReadsRequest, is_token}
use Rattle.httparse.specs.Spans.{name_and_value}
use Rattle.http_wire.specs.Blocks.{EndsBlock, NoBlock, IsBlock}
use Rattle.http_wire.specs.FieldPairs.{as_pair}
use Rattle.http_wire.specs.Fronts.{begins_blank, has_long_target, IsFront}
use Rattle.http_wire.specs.Heads.{HeadView, in_lower_case, head_said, ReadsBlock, head_fault, unless_faulty, checked, BlockSays, or_ends, end_behind, KindSays, FrontSays, is_target, is_value}
use Rattle.http_wire.specs.Laws.{SomeFront}
use Rattle.http_wire.specs.Spanned.{is_lawful_pair}
use Rattle.http_wire.specs.Taking.{skip_blank, StopsAs, front_size}
use Rattle.http_wire.specs.declared.block.BlockEnd.{BlockEnd}
use Rattle.http_wire.specs.declared.block.BlockEnd.TheVariants.{Block, Long, Ended}
use Rattle.http_wire.specs.declared.ending.HeadFault.{HeadFault}
use Rattle.http_wire.specs.declared.ending.HeadFault.TheVariants as fault
use Rattle.http_wire.specs.declared.ending.StreamEnd.{StreamEnd}
use Rattle.http_wire.specs.declared.ending.StreamEnd.TheVariants as end
use Rattle.http_wire.specs.declared.field.Field.{Field}
use Rattle.http_wire.proofs.BlockSteps.{no_bytes, one_more, found_at, none_to, ends_late}
use Rattle.http_wire.proofs.Decided.{OrNot, alike, either, same_text, Splits, splits}
use Rattle.http_wire.proofs.EveryHead.{every_block}
use Rattle.http_wire.proofs.FieldSteps.{lower_token}
use Rattle.http_wire.proofs.FrontSteps.{skip_split, skip_starts, stops_as}
use Rattle.http_wire.proofs.ItemSteps.{two_ways}
use Rattle.http_wire.proofs.Lawful.{token_test, target_test, lawful_fields}

-- the two ways in which a block ends
abbrev IsEmptyLine : List ℕ → Type 0
IsEmptyLine text = (text ≡ 10 ∷ 10 ∷ []) ⊎ (text ≡ 10 ∷ 13 ∷ 10 ∷ [])

ends_block : (text : List ℕ) → OrNot (EndsBlock text)
ends_block text = alike to from (splits (λ (t : List ℕ). Unit {0}) IsEmptyLine (λ t. inl tt) (λ t. either (same_text t (10 ∷ 10 ∷ [])) (same_text t (10 ∷ 13 ∷ 10 ∷ []))) text)
  where
    to : Splits (λ (t : List ℕ). Unit {0}) IsEmptyLine text → EndsBlock text
    to (front, rest, e, any, inl is) = (front, inl (e ∙ ap (λ (t : List ℕ). front ++ t) is))
    to (front, rest, e, any, inr is) = (front, inr (e ∙ ap (λ (t : List ℕ). front ++ t) is))

    from : EndsBlock text → Splits (λ (t : List ℕ). Unit {0}) IsEmptyLine text
    from (front, inl e) = (front, 10 ∷ 10 ∷ [], e, tt, inl refl)
    from (front, inr e) = (front, 10 ∷ 13 ∷ 10 ∷ [], e, tt, inr refl)

-- no block ends in the first n bytes, or a first one does
abbrev SearchedTo : List ℕ → ℕ → Type 0
SearchedTo text n = NoBlock text n ⊎ ((m : ℕ) × (m ≤ n) × IsBlock text m)

search_to : (text : List ℕ) (n : ℕ) → n ≤ length text → SearchedTo text n
search_to text zero le = inl (no_bytes text)
search_to text (suc n) le =
    let next : n + 1 ≡ suc n = omega arith in
    elim (search_to text n (omega (arith, le))) [
      | inr found ↦ inr (found.0, omega (arith, found.1), found.2)
      | inl none ↦ elim (ends_block (take (n + 1) text)) [
        | inl ends ↦ inr (n + 1, omega arith, found_at text n (omega (arith, le)) none ends)
        | inr not ↦ inl (subst (λ (k : ℕ). NoBlock text k) next (one_more text n none not))
      ]
    ]

-- a text ends its first block in the room, or goes on past it, or ends before
some_stop : (room : ℕ) (text : List ℕ) → (kind : BlockEnd) × StopsAs room text kind
some_stop room text = elim (search_to text (length text) (omega arith)) [
  | inr found ↦ elim (cases_lt room found.0) [
    | inl late ↦ (let w = found.2.within in (Long, (omega (arith, w, late), ends_late text room found.0 late found.2)))
    | inr within ↦ (Block found.0, (found.2, within))
  ]
  | inl none ↦ elim (cases_lt (length text) room) [
    | inl short ↦ (Ended, (short, none))
    | inr full ↦ (Long, (full, none_to text room (length text) full none))
  ]
]

begins_taken : (n : ℕ) (text : List ℕ) → begins_blank text ≡ false → begins_blank (take n text) ≡ false
begins_taken zero text e = refl
begins_taken (suc n) [] e = refl
begins_taken (suc n) (b ∷ bytes) e = e

abbrev HasFront : ℕ → List ℕ → Type 0
HasFront limit bytes = (kind : BlockEnd) × (front : List ℕ) × (rest : List ℕ) × IsFront limit bytes kind front rest

pub every_front : (limit : ℕ) (bytes : List ℕ) → HasFront limit bytes
every_front limit bytes =
    let s = skip_split bytes in
    let text = skip_blank bytes in
    let n = length s.0 in
    elim (cases_lt n limit) [
      | inl lt ↦
          let stop = some_stop (limit - n) text in
          let size = front_size stop.0 (length text) (limit - n) in
          let stops = stops_as limit n text stop.0 lt stop.1 in (
            stop.0,
            take size text,
            drop size text,
            record {
              blanks = s.0;
              split = s.1 ∙ ap (λ (t : List ℕ). s.0 ++ t) (sym (take-append-drop size text));
              skipped = s.2;
              starts = begins_taken size text (skip_starts bytes);
              stops = stops.1;
            },
          )
      | inr past ↦ (Long, [], text, record { blanks = s.0; split = s.1; skipped = s.2; starts = refl; stops = (omega (arith, past), no_bytes []) })
    ]

kind_says : (most : ℕ) (front : List ℕ) (kind : BlockEnd) → (says : Result HeadView StreamEnd) × KindSays most front kind says
kind_says most front (Block n) =
    let read = every_block front in
    let said = checked most read.0 in
    (or_ends said, (said, record { read = read.0; reads = read.1; is = refl }, refl))
kind_says most front Long = (Err (end.Head fault.HeadTooLong), refl)
kind_says most front Ended = (Err (end_behind front), refl)

pub every_front_says : (most : ℕ) (front : List ℕ) (kind : BlockEnd) → (says : Result HeadView StreamEnd) × FrontSays most front kind says
every_front_says most front kind = elim (two_ways (has_long_target front)) [
  | inl long ↦ (Err (end.Head fault.TargetTooLong), record { long = λ is. refl; other = λ isnt. absurd (false≢true (sym isnt ∙ long)) })
  | inr other ↦ (let k = kind_says most front kind in (k.0, record { long = λ is. absurd (false≢true (sym other ∙ is)); other = λ isnt. k.1 }))
]

pub some_front : SomeFront
some_front limit most bytes =
    let f = every_front limit bytes in
    let s = every_front_says most f.1 f.0 in
    (f.0, f.1, f.2, f.3, s)

-- the tree of a head that a front says
abbrev HasTree : List ℕ → HeadView → Type 0
HasTree front head = (tree : RequestHead) × ReadsRequest front tree [] × (head ≡ head_said tree)

by_fault : (h head : HeadView) (first : Option HeadFault) → ◌≡◌ {A = Result HeadView HeadFault} (unless_faulty h first) (Ok head) → h ≡ head
by_fault h head None e = cc
by_fault h head (Some f) e = absurd cc

by_read : (most : ℕ) (front : List ℕ) (head : HeadView) (read : Option HeadView) → ReadsBlock front read → checked most read ≡ Ok head → HasTree front head
by_read most front head None reads e = absurd cc
by_read most front head (Some h) (tree, reads, is) e = (tree, reads, sym (by_fault h head (head_fault most h) e) ∙ is)

by_said : (most : ℕ) (front : List ℕ) (head : HeadView) (said : Result HeadView HeadFault) → BlockSays most front said
    → ◌≡◌ {A = Result HeadView StreamEnd} (Ok head) (or_ends said) → HasTree front head
by_said most front head (Ok h) says e =
    let same : h ≡ head = cc in
    by_read most front head says.read says.reads (says.is ∙ ap Ok same)
by_said most front head (Err f) says e = absurd cc

by_kind : (most : ℕ) (front : List ℕ) (head : HeadView) (kind : BlockEnd) → KindSays most front kind (Ok head) → HasTree front head
by_kind most front head (Block n) (said, says, e) = by_said most front head said says e
by_kind most front head Long e = absurd cc
by_kind most front head Ended e = absurd cc

tree_said : (most : ℕ) (front : List ℕ) (head : HeadView) (kind : BlockEnd) → FrontSays most front kind (Ok head) → HasTree front head
tree_said most front head kind says = elim (two_ways (has_long_target front)) [
  | inl long ↦ (let bad = says.long long in absurd cc)
  | inr other ↦ by_kind most front head kind (says.other other)
]

-- lawful pairs are fields
pub fields_from : (pairs : List (List ℕ × List ℕ)) → list_all is_lawful_pair pairs ≡ true → (fields : List Field) × (map as_pair fields ≡ map in_lower_case pairs)
fields_from [] all = ([], refl)
fields_from (p ∷ pairs) all =
    let parts = and_parts (is_lawful_pair p) (list_all is_lawful_pair pairs) all in
    let one = and_parts (is_token p.0) (is_value p.1) parts.0 in
    let more = fields_from pairs parts.1 in
    let field : Field = record { name = (in_lower_case p).0; value = p.1; name_is = lower_token p.0 one.0; value_is = one.1 } in
    (field ∷ more.0, ap (λ (fs : List (List ℕ × List ℕ)). as_pair field ∷ fs) more.1)

-- what a head is made of
pub record HasParts (head : HeadView) : Type 0 where
  pub fields : List Field
  pub fields_are : map as_pair fields ≡ head.fields
  pub method_is : is_token head.method ≡ true
  pub target_is : is_target head.target ≡ true

pub parts_of : (most : ℕ) (front : List ℕ) (head : HeadView) (kind : BlockEnd) → FrontSays most front kind (Ok head) → HasParts head
parts_of most front head kind says =
    let t = tree_said most front head kind says in
    let tree = t.0 in
    let is = t.1.0 in
    let fs = fields_from (map name_and_value tree.fields) (lawful_fields tree.fields is.fields) in
    subst HasParts (sym t.2) (record {
      fields = fs.0;
      fields_are = fs.1;
      method_is = token_test tree.method is.method;
      target_is = target_test tree.target is.target.0 is.target.1;
    })
