use Rattle.std.proofs.Common.{◌≡◌, ℕ, ◌+◌, ◌*◌, ◌<◌, ◌≤◌, ◌↔◌, true, false, List, length, get_or, nat_eq, sym, ap, subst, ◌∙◌, inl, inr, arith, below_more, eq-eqb}
use Rattle.std.specs.Int.Bits.{bit_xor, bit_or, bit_and, xor_self, xor_add_and, or_zero_r}
use Rattle.std.specs.Str.{bytes_eq}
use Rattle.std.proofs.lemmas.Bool.{cases_Bool, ne_eqb}
use Rattle.std.proofs.lemmas.List.{ext_get_or}
use Rattle.std.proofs.lemmas.Nat.{le_or_l, le_or_r, and_le_l, and_le_r}
use Rattle.std.proofs.lemmas.Slice.Eq.{bytes_eq-Decides}
use Rattle.http_digest.proofs.same.same_all.Goals as goal

-- both parts of an or are nothing where it is
none_left : (a b : ℕ) → bit_or a b ≡ 0 → a ≡ 0
none_left a b h = let l : a ≤ bit_or a b = le_or_l a b in omega (arith, l, h)

none_right : (a b : ℕ) → bit_or a b ≡ 0 → b ≡ 0
none_right a b h = let l : b ≤ bit_or a b = le_or_r a b in omega (arith, l, h)

-- numbers that differ in no bit are the same
same_bits : (a b : ℕ) → bit_xor a b ≡ 0 → a ≡ b
same_bits a b h =
    let sum : bit_xor a b + bit_and a b * 2 ≡ a + b = xor_add_and a b in
    let l : bit_and a b ≤ a = and_le_l a b in
    let r : bit_and a b ≤ b = and_le_r a b in
    omega (arith, sum, l, r, h)

nothing_differs : (d a b : ℕ) → d ≡ 0 → a ≡ b → bit_or d (bit_xor a b) ≡ 0
nothing_differs d a b none e = ap (bit_or d) (ap (bit_xor a) (sym e) ∙ xor_self a) ∙ or_zero_r d ∙ none

decided : (d : ℕ) (xs ys : List ℕ) → length xs ≡ length ys → (d ≡ 0) ↔ ((k : ℕ) → k < length xs → get_or xs k 0 ≡ get_or ys k 0) → nat_eq d 0 ≡ bytes_eq xs ys
decided d xs ys size h =
    elim (cases_Bool (bytes_eq xs ys)) [
      | inl same ↦
          let e : xs ≡ ys = (bytes_eq-Decides xs ys).0 same in
          eq-eqb d 0 (h.1 (λ k lt. ap (λ (zs : List ℕ). get_or zs k 0) e)) ∙ sym same
      | inr other ↦
          ne_eqb d 0 (λ none. let e : xs ≡ ys = ext_get_or 0 xs ys size (h.0 none) in let bad : true ≡ false = sym ((bytes_eq-Decides xs ys).1 e) ∙ other in cc)
          ∙ sym other
    ]

pub bytes-preserved : goal.bytes-preserved
bytes-preserved c = (
  λ h. below_more _ _ (c.bytes.invariant.0 (none_left _ _ h)) (same_bits _ _ (none_right _ _ h)),
  λ h. nothing_differs _ _ _ (c.bytes.invariant.1 (λ k lt. h k (omega arith))) (h c.bytes.place (omega arith)),
)

pub returns : goal.returns
returns c =
    decided c.bytes.differing c.args.first.now c.args.second.now c.requires
    (let e : c.bytes.place ≡ length c.args.first.now = omega arith in subst (λ n. (c.bytes.differing ≡ 0) ↔ ((k : ℕ) → k < n → get_or c.args.first.now k 0 ≡ get_or c.args.second.now k 0)) e c.bytes.invariant)
