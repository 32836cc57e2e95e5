-- What the answers say of all that was held and left, and the target of a front.
use Rattle.std.proofs.Common.{◌≡◌, ℕ, ◌+◌, ◌-◌, inl, inr, Bool, true, false, not, List, [], ◌∷◌, ◌++◌, length, take, refl, sym, ◌∙◌, ap, subst, arith, append_assoc, append-nil, Some}
use Rattle.std.specs.Prelude.{◌==◌, nat_lt}
use Rattle.std.specs.List.{list_any, prefix_len}
use Rattle.std.proofs.lemmas.Bool.{false≢true}
use Rattle.std.proofs.lemmas.List.{take_at, take_all}
use Rattle.std.proofs.Math.Seq.{take-append-add}
use Rattle.std.proofs.lemmas.Bool.Decides.{nat_tests}
use Rattle.http_wire.specs.Blocks.{EndsBlock}
use Rattle.http_wire.specs.Fronts.{front_limit, is_stop, after_space, target_limit, has_long_target, IsFront}
use Rattle.http_wire.specs.Items.{EndsInBody}
use Rattle.http_wire.specs.Taking.{Moved, AtEndIf}
use Rattle.http_wire.specs.Laws.{RequestOfAll, EndOfAll, CutOfAll, TargetOfAll}
use Rattle.http_wire.specs.declared.block.BlockEnd.{BlockEnd}
use Rattle.http_wire.specs.declared.block.BlockEnd.TheVariants.{Block, Long, Ended}
use Rattle.http_wire.proofs.ItemSteps.{two_ways}

-- what was held and left is what was used, and what is held and left then
pub moved_all : (left rest old used new : List ℕ) → Moved (Some left) (Some rest) old used new → old ++ left ≡ used ++ (new ++ rest)
moved_all left rest old used new m =
    ap (λ x. old ++ x) m.lost ∙ sym (append_assoc old m.taken rest) ∙ ap (λ x. x ++ rest) m.split ∙ append_assoc used new rest

pub request_of_all : RequestOfAll
request_of_all most left rest old new out written request g = (g.used, g.head, g.item, moved_all left rest old g.used new g.moved)

-- a front that isn't the input's end stays one where more bytes come, and at the end no more do
front_to : (limit : ℕ) (bytes more : List ℕ) (kind : BlockEnd) (front rest : List ℕ) → IsFront limit bytes kind front rest → (AtEndIf (Some more) kind)
    → (tail : List ℕ) × IsFront limit (bytes ++ more) kind front tail
front_to limit bytes more (Block n) front rest p done = (
  rest ++ more,
  record {
    blanks = p.blanks;
    split = ap (λ x. x ++ more) p.split ∙ append_assoc p.blanks (front ++ rest) more ∙ ap (λ x. p.blanks ++ x) (append_assoc front rest more);
    skipped = p.skipped;
    starts = p.starts;
    stops = p.stops;
  },
)
front_to limit bytes more Long front rest p done = (
  rest ++ more,
  record {
    blanks = p.blanks;
    split = ap (λ x. x ++ more) p.split ∙ append_assoc p.blanks (front ++ rest) more ∙ ap (λ x. p.blanks ++ x) (append_assoc front rest more);
    skipped = p.skipped;
    starts = p.starts;
    stops = p.stops;
  },
)
front_to limit bytes more Ended front rest p done =
    let same : bytes ++ more ≡ bytes = ap (λ x. bytes ++ x) done ∙ append-nil bytes in
    let P : List ℕ → Type 0 = λ x. IsFront limit x Ended front rest in
    (rest, subst P (sym same) p)

pub end_of_all : EndOfAll
end_of_all most left rest old out written why s =
    let e : old ++ left ≡ (old ++ s.taken) ++ rest = ap (λ x. old ++ x) s.lost ∙ sym (append_assoc old s.taken rest) in
    let f = front_to front_limit (old ++ s.taken) rest s.item.kind s.item.front s.item.rest s.item.is_front s.at_end in
    let P : List ℕ → Type 0 = λ x. IsFront front_limit x s.item.kind s.item.front f.0 in
    record { kind = s.item.kind; front = s.item.front; rest = f.0; is_front = subst P (sym e) f.1; says = s.item.says }

pub cut_of_all : CutOfAll
cut_of_all most left rest old out written s =
    let none : rest ≡ [] = s.spent in
    let e : old ++ left ≡ old ++ s.taken = ap (λ x. old ++ x) (s.lost ∙ ap (λ x. s.taken ++ x) none ∙ append-nil s.taken) in
    let P : List ℕ → Type 0 = λ x. EndsInBody front_limit most x in
    subst P (sym e) s.item

-- whether the bytes have an LF
abbrev has_line : List ℕ → Bool
has_line text = list_any (λ b. b == 10) text

abbrev goes : ℕ → Bool
goes b = not (is_stop b)

-- the run up to a stop ends before the LF
run_on : (text more : List ℕ) → has_line text ≡ true → prefix_len goes (text ++ more) ≡ prefix_len goes text
run_on [] more has = absurd cc
run_on (b ∷ bytes) more has = elim (two_ways (goes b)) [
  | inl on ↦ elim (two_ways (b == 10)) [
    | inl line ↦ absurd (false≢true (sym (stops_at b line) ∙ on))
    | inr other ↦ (let behind = run_on bytes more (rw other at has) in rw on (omega arith))
  ]
  | inr off ↦ rw off refl
]
  where
    stops_at : (b : ℕ) → (b == 10) ≡ true → goes b ≡ false
    stops_at b line = elim (two_ways (b == 32)) [ inl s ↦ rw s refl | inr s ↦ elim (two_ways (b == 13)) [ inl r ↦ rw (s, r) refl | inr r ↦ rw (s, r, line) refl ] ]

-- what follows an LF changes nothing of the target
target_on : (text more : List ℕ) → has_line text ≡ true → prefix_len goes (after_space (text ++ more)) ≡ prefix_len goes (after_space text)
target_on [] more has = absurd cc
target_on (b ∷ bytes) more has = elim (two_ways (b == 32)) [
  | inl gap ↦ rw gap (run_on bytes more (behind b bytes gap has))
  | inr other ↦ elim (two_ways (b == 10)) [
    | inl line ↦ rw (other, line) refl
    | inr neither ↦ rw (other, neither) (target_on bytes more (rw neither at has))
  ]
]
  where
    behind : (b : ℕ) (bytes : List ℕ) → (b == 32) ≡ true → has_line (b ∷ bytes) ≡ true → has_line bytes ≡ true
    behind b bytes gap has = elim (two_ways (b == 10)) [ inl line ↦ absurd (apart b gap line) | inr isnt ↦ rw isnt at has ]
      where
        apart : (b : ℕ) → (b == 32) ≡ true → (b == 10) ≡ true → ⊥
        apart b gap line = grind (arith, nat_tests)

line_in : (front rest : List ℕ) → has_line (front ++ 10 ∷ rest) ≡ true
line_in [] rest = refl
line_in (b ∷ front) rest = elim (two_ways (b == 10)) [ inl is ↦ rw is refl | inr isnt ↦ rw isnt (line_in front rest) ]

block_line : (text : List ℕ) → EndsBlock text → has_line text ≡ true
block_line text (front, inl e) = ap has_line e ∙ line_in front (10 ∷ [])
block_line text (front, inr e) = ap has_line e ∙ line_in front (13 ∷ 10 ∷ [])

pub target_of_all : TargetOfAll
target_of_all limit bytes (Block n) front rest is =
    let room = limit - length is.blanks in
    let stops = is.stops in
    let whole : take n front ≡ front = take_all n front (omega (arith, stops.1)) in
    let line : has_line front ≡ true = block_line front (subst EndsBlock whole stops.0.ends) in
    let more : take room (front ++ rest) ≡ front ++ take (room - length front) rest =
    (let parts : room ≡ length front + (room - length front) = omega (arith, stops.1, stops.2) in
    ap (λ k. take k (front ++ rest)) parts ∙ take-append-add front rest (room - length front)) in
    ap (nat_lt target_limit) (sym (target_on front (take (room - length front) rest) line)) ∙ ap has_long_target (sym more)
target_of_all limit bytes Long front rest is = ap has_long_target (sym (take_at front rest (limit - length is.blanks) is.stops.0))
target_of_all limit bytes Ended front rest is =
    let stops = is.stops in
    let all : front ++ rest ≡ front = ap (λ x. front ++ x) stops.2 ∙ append-nil front in
    ap has_long_target (sym (ap (take (limit - length is.blanks)) all ∙ take_all (limit - length is.blanks) front (omega (arith, stops.0))))
