-- Moments and ends.
use Rattle.std.proofs.Common.{◌≡◌, true, false, ℤ, ◌≤ℤ◌, ◌<ℤ◌, int_lt, Option, Some, None, refl, arith}
use Rattle.std.specs.Prelude.{int_le}
use Rattle.std.proofs.lemmas.Int.{ints}
use Rattle.epoch_rules.specs.Rules.{is_before_end, ends_by}

lt_from : (a b : ℤ) → int_lt a b ≡ true → a <ℤ b
lt_from a b h = grind (arith, ints)

le_from : (a b : ℤ) → int_le a b ≡ true → a ≤ℤ b
le_from a b h = grind (arith, ints)

not_lt_from : (a b : ℤ) → int_lt a b ≡ false → b ≤ℤ a
not_lt_from a b h = grind (arith, ints)

to_lt : (a b : ℤ) → a <ℤ b → int_lt a b ≡ true
to_lt a b h = grind (arith, ints)

to_le : (a b : ℤ) → a ≤ℤ b → int_le a b ≡ true
to_le a b h = grind (arith, ints)

to_not_le : (a b : ℤ) → b <ℤ a → int_le a b ≡ false
to_not_le a b h = grind (arith, ints)

-- an end no later than a second, which is no later than a third
pub ends_trans : (a b c : Option ℤ) → ends_by a b ≡ true → ends_by b c ≡ true → ends_by a c ≡ true
ends_trans a b None h k = refl
ends_trans a None (Some z) h k = cc
ends_trans None (Some y) (Some z) h k = cc
ends_trans (Some x) (Some y) (Some z) h k =
    let low = le_from x y h in
    let high = le_from y z k in
    to_le x z (omega (arith, ints))

pub ends_itself : (a : Option ℤ) → ends_by a a ≡ true
ends_itself None = refl
ends_itself (Some x) = to_le x x (omega (arith, ints))

pub before_ends : (m : ℤ) (a b : Option ℤ) → is_before_end m a ≡ true → ends_by a b ≡ true → is_before_end m b ≡ true
before_ends m a None h k = refl
before_ends m None (Some y) h k = cc
before_ends m (Some x) (Some y) h k =
    let low = lt_from m x h in
    let high = le_from x y k in
    to_lt m y (omega (arith, ints))

pub earlier_before : (m n : ℤ) (a : Option ℤ) → int_le m n ≡ true → is_before_end n a ≡ true → is_before_end m a ≡ true
earlier_before m n None h k = refl
earlier_before m n (Some x) h k =
    let low = le_from m n h in
    let high = lt_from n x k in
    to_lt m x (omega (arith, ints))

-- an end that a moment isn't before
pub ends_at : (m : ℤ) (a : Option ℤ) → is_before_end m a ≡ false → ends_by a (Some m) ≡ true
ends_at m None h = cc
ends_at m (Some x) h = to_le x m (not_lt_from m x h)

pub ends_before : (m : ℤ) (a : Option ℤ) → is_before_end m a ≡ true → ends_by a (Some m) ≡ false
ends_before m None h = refl
ends_before m (Some x) h = to_not_le x m (lt_from m x h)

pub moment_ends : (m : ℤ) (a : Option ℤ) → is_before_end m a ≡ true → ends_by (Some m) a ≡ true
moment_ends m None h = refl
moment_ends m (Some x) h = let low = lt_from m x h in to_le m x (omega (arith, ints))
