-- The container that a key names.
use Rattle.std.specs.Prelude.{◌≡◌, false, ◌==◌, ◌⊎◌, [], Option, Some, None}
use Rattle.epochs.specs.declared.kinds.LineKind.TheVariants.{Net, Sta, Cha}
use Rattle.epoch_rules.specs.declared.container.Container.{Container}
use Rattle.epoch_rules.specs.KeyKinds.{key_rank}
use Rattle.epoch_rules.specs.KeyOrder.{KeyParts, rank_of}

-- the network of a key, in which stations lie, and its station, in which channels lie
pub record IsNetworkOf (key : KeyParts) (c : Container) : Type 0 where
  pub rank : key.rank ≡ rank_of Net
  pub kind : key_rank c.kind ≡ rank_of Sta
  pub first : c.first ≡ key.first
  pub second : c.second ≡ []

pub record IsStationOf (key : KeyParts) (c : Container) : Type 0 where
  pub rank : key.rank ≡ rank_of Sta
  pub kind : key_rank c.kind ≡ rank_of Cha
  pub first : c.first ≡ key.first
  pub second : c.second ≡ key.second

-- the container of a key; keys of other kinds have none
abbrev pub IsContainerOf : KeyParts → Option Container → Type 0
IsContainerOf key None = ((key.rank == rank_of Net) ≡ false) × ((key.rank == rank_of Sta) ≡ false)
IsContainerOf key (Some c) = IsNetworkOf key c ⊎ IsStationOf key c
