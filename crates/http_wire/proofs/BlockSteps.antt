-- No block ends at a place, or at a place behind, also where more bytes come.
use Rattle.std.proofs.Common.{◌≡◌, ℕ, ◌+◌, ◌<◌, ◌≤◌, inl, inr, List, [], ◌∷◌, ◌++◌, length, take, sym, subst, arith, length-append, length-take, ap, append_assoc, ◌∙◌}
use Rattle.std.specs.declared.option.Option.{Option}
use Rattle.streams.proofs.Grows.{Consumes-then}
use Rattle.http_wire.specs.Taking.{TookMore}
use Rattle.std.proofs.lemmas.List.{take-append-le}
use Rattle.std.proofs.lemmas.Bool.{cases_eq, cases_lt}
use Rattle.http_wire.specs.Blocks.{EndsBlock, NoBlock, IsBlock}

-- a text without bytes ends no block
pub no_bytes : (text : List ℕ) → NoBlock text 0
no_bytes text m le (front, inl e) = omega (arith, ap length e, length-take m text, length-append front (10 ∷ 10 ∷ []))
no_bytes text m le (front, inr e) = omega (arith, ap length e, length-take m text, length-append front (10 ∷ 13 ∷ 10 ∷ []))

-- one place more
pub one_more : (text : List ℕ) (n : ℕ) → NoBlock text n → (EndsBlock (take (n + 1) text) → ⊥) → NoBlock text (n + 1)
one_more text n before here m le ends =
    let P : ℕ → Type 0 = λ k. EndsBlock (take k text) in
    elim (cases_eq m (n + 1)) [ inl e ↦ here (subst P e ends) | inr ne ↦ before m (omega (arith, ne)) ends ]

-- what comes later changes no earlier place
pub no_block_on : (text more : List ℕ) (n : ℕ) → n ≤ length text → NoBlock text n → NoBlock (text ++ more) n
no_block_on text more n within none m le ends = none m le (subst EndsBlock (take-append-le m text more (omega arith)) ends)

pub block_on : (text more : List ℕ) (n : ℕ) → IsBlock text n → IsBlock (text ++ more) n
block_on text more n b = record {
  within = (let e = length-append text more in let w = b.within in omega arith);
  ends = subst EndsBlock (sym (take-append-le n text more b.within)) b.ends;
  first = λ m lt ends. let w = b.within in b.first m lt (subst EndsBlock (take-append-le m text more (omega arith)) ends);
}

-- a block is the only one
pub one_block : (text : List ℕ) (n m : ℕ) → IsBlock text n → IsBlock text m → n ≡ m
one_block text n m a b =
    elim (cases_lt n m) [
      | inl lt ↦ absurd (b.first n lt a.ends)
      | inr ge ↦ elim (cases_eq n m) [ inl e ↦ e | inr ne ↦ absurd (a.first m (omega (arith, ne)) b.ends) ]
    ]

-- the end of a block, found where no earlier place ends one
pub found_at : (text : List ℕ) (n : ℕ) → n < length text → NoBlock text n → EndsBlock (take (n + 1) text) → IsBlock text (n + 1)
found_at text n lt none ends = record { within = omega arith; ends = ends; first = λ m l e. none m (omega arith) e }

-- what a search of all the text did not find
pub none_to : (text : List ℕ) (n m : ℕ) → n ≤ m → NoBlock text m → NoBlock text n
none_to text n m le none k l e = none k (omega arith) e

-- the block's end is past the limit
pub ends_late : (text : List ℕ) (limit n : ℕ) → limit < n → IsBlock text n → NoBlock text limit
ends_late text limit n lt b k l e = b.first k (omega arith) e

-- how a text that was searched whole ends
pub full : (text seen : List ℕ) (limit : ℕ) → seen ≡ text → limit ≤ length text → NoBlock seen (length seen) → NoBlock text limit
full text seen limit e le none k l ends =
    let P : List ℕ → Type 0 = λ t. NoBlock t (length t) in subst P e none k (omega arith) ends

pub late : (text seen : List ℕ) (limit n : ℕ) → seen ≡ text → limit < n → IsBlock seen n → (limit ≤ length text) × NoBlock text limit
late text seen limit n e lt b =
    let P : List ℕ → Type 0 = λ t. IsBlock t n in
    let c = subst P e b in
    let w = c.within in
    (omega arith, ends_late text limit n lt c)

-- what was taken before, and what was taken then
pub took_then : (a b c : Option (List ℕ)) (old mid new : List ℕ) → TookMore a b old mid → TookMore b c mid new → TookMore a c old new
took_then a b c old mid new t u = record {
  taken = t.taken ++ u.taken;
  lost = Consumes-then a b c t.taken u.taken t.lost u.lost;
  held = u.held ∙ ap (λ x. x ++ u.taken) t.held ∙ append_assoc old t.taken u.taken;
}

-- no block ended in what was held, nor does one with what was taken
pub took_none : (a b : Option (List ℕ)) (old new : List ℕ) (n : ℕ) → TookMore a b old new → n ≤ length old → NoBlock old n → NoBlock new n
took_none a b old new n t le none =
    let P : List ℕ → Type 0 = λ x. NoBlock x n in subst P (sym t.held) (no_block_on old t.taken n le none)

pub took_long : (a b : Option (List ℕ)) (old new : List ℕ) → TookMore a b old new → length old ≤ length new
took_long a b old new t = omega (arith, ap length t.held, length-append old t.taken)
