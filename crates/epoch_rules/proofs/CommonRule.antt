-- The first rule that the live lines break with one line more.
use Rattle.std.proofs.Common.{◌≡◌, Bool, true, false, List, Option, Some, None, if◌then◌else◌, refl}
use Rattle.std.specs.List.{list_any, AllByRecursion}
use Rattle.epochs.specs.Lines.{LineValues}
use Rattle.epoch_rules.specs.declared.rule.Rule.{Rule}
use Rattle.epoch_rules.specs.declared.rule.Rule.TheVariants.{Overlap, NoStationEpoch, NoNetworkEpoch, NoUser, Orphans, NoOperator, TooMany}
use Rattle.epoch_rules.specs.Catalog.{IsCatalog}
use Rattle.epoch_rules.specs.Losses.{makes_orphans}
use Rattle.epoch_rules.specs.Rules.{has_rival, is_orphan, lacks_network, lacks_station, lacks_user, own_rule, with_line}
use Rattle.epoch_rules.proofs.Orphans.{orphans_made}
use Rattle.epoch_rules.proofs.Tidy.{Tidy}

-- a ladder that gives nothing goes past its first rung
past : (b : Bool) (rule : Rule) (rest : Option Rule) → (if b then Some rule else rest) ≡ None → (b ≡ false) × (rest ≡ None)
past true rule rest h = absurd (some_none h)
  where
    some_none : Some rule ≡ None → ⊥
    some_none h = cc
past false rule rest h = (refl, h)

abbrev pub ladder : Bool → Bool → Bool → Option Rule
ladder orphans idle many = if orphans then Some Orphans else (if idle then Some NoOperator else (if many then Some TooMany else None))

-- where a line breaks no rule by itself, the orphans are those that it makes
pub orphans_are : (live : List LineValues) (e : LineValues) → IsCatalog live → AllByRecursion Tidy live → Tidy e → own_rule live e ≡ None
    → list_any (is_orphan (with_line live e)) (with_line live e) ≡ makes_orphans live e
orphans_are live e is neat tidy_e own =
    let a = past (has_rival live e) Overlap _ own in
    let b = past (lacks_station live e) NoStationEpoch _ a.1 in
    let c = past (lacks_network live e) NoNetworkEpoch _ b.1 in
    let d = past (lacks_user live e) NoUser _ c.1 in
    orphans_made live e is neat tidy_e b.0 c.0 d.0
