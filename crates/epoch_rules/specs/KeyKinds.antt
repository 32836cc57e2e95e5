-- The kinds of keys, in the order in which lines stand.
use Rattle.std.specs.Prelude.{◌≡◌, ℕ, nat_eq}
use Rattle.std.specs.Ordering.{nat_cmp, eq_by_cmp}
use Rattle.std.specs.Cmp.{IsEquivalence, IsPartialOrder, IsTotalOrder, nat_cmp_total, nat_eq_equiv, on_equiv, on_total, po, unsigned_tied}
use Rattle.std.proofs.Common.{sym, Some}
use Rattle.epoch_rules.specs.declared.key_kind.KeyKind.{KeyKind}
use Rattle.epoch_rules.specs.declared.key_kind.KeyKind.TheVariants.{Network, Station, Channel, Event, Restriction, Grant, User, Withdrawal, Last}

-- networks first, withdrawals last, and behind them the end of all keys
abbrev pub key_rank : KeyKind → ℕ
key_rank Network = 0
key_rank Station = 1
key_rank Channel = 2
key_rank Event = 3
key_rank Restriction = 4
key_rank Grant = 5
key_rank User = 6
key_rank Withdrawal = 7
key_rank Last = 255

pub same_kinds : IsEquivalence (λ a b. nat_eq (key_rank a) (key_rank b))
same_kinds = on_equiv key_rank nat_eq_equiv

pub kinds_total : IsTotalOrder (λ a b. nat_cmp (key_rank a) (key_rank b))
kinds_total = on_total key_rank nat_cmp_total

pub kinds_tied : (a b : KeyKind) → nat_eq (key_rank a) (key_rank b) ≡ eq_by_cmp (λ a b. nat_cmp (key_rank a) (key_rank b)) a b
kinds_tied a b = sym (unsigned_tied (key_rank a) (key_rank b))

pub kinds_ordered : IsPartialOrder (λ a b. nat_eq (key_rank a) (key_rank b)) (λ a b. Some (nat_cmp (key_rank a) (key_rank b)))
kinds_ordered = po kinds_total kinds_tied
