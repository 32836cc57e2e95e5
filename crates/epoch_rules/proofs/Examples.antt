-- Worked examples of the definitions.
use Rattle.std.proofs.Common.{◌≡◌, ℕ, ℤ, pos, true, false, List, [], ◌∷◌, Option, Some, None, codes, refl}
use Rattle.epochs.specs.declared.kinds.LineKind.TheVariants.{Net, Sta}
use Rattle.epochs.specs.declared.kinds.Head.TheVariants.{Says, Deletes}
use Rattle.epochs.specs.Fields.{code, words, time, end, number}
use Rattle.epochs.specs.Lines.{LineValues, line_values}
use Rattle.epoch_rules.specs.declared.rule.Rule.TheVariants.{Overlap, NoNetworkEpoch, Absent}
use Rattle.epoch_rules.specs.LiveLines.{live_lines}
use Rattle.epoch_rules.specs.Rules.{own_rule, overlap, contains, is_orphan}

-- a network from a moment on, with its description
abbrev network : List ℕ → ℤ → Option ℤ → LineValues
network description start stop = line_values (Says Net) (code (codes "IU") ∷ words description ∷ time start ∷ end stop ∷ [])

abbrev no_network : ℤ → LineValues
no_network start = line_values (Deletes Net) (code (codes "IU") ∷ time start ∷ [])

abbrev station : ℤ → Option ℤ → LineValues
station start stop =
    line_values (Says Sta) (code (codes "IU") ∷ code (codes "ANMO") ∷ number (pos 0) ∷ number (pos 0) ∷ number (pos 0) ∷ words [] ∷ time start ∷ end stop ∷ [])

-- a later line with the same key stands, whatever else it says
later_stands : live_lines (network (codes "a") (pos 1) None ∷ network (codes "b") (pos 1) (Some (pos 9)) ∷ []) ≡ network (codes "b") (pos 1) (Some (pos 9)) ∷ []
later_stands = refl

-- no earlier line comes back with a deletion
gone : live_lines (network (codes "a") (pos 1) None ∷ network (codes "b") (pos 1) None ∷ no_network (pos 1) ∷ []) ≡ []
gone = refl

-- lines stand by kind, and then by their texts and starts
ordered : live_lines (station (pos 5) None ∷ network (codes "b") (pos 9) None ∷ network (codes "a") (pos 1) (Some (pos 9)) ∷ []) ≡ network (codes "a") (pos 1) (Some (pos 9)) ∷ network (codes "b") (pos 9) None ∷ station (pos 5) None ∷ []
ordered = refl

-- epochs that touch don't overlap, and an open one overlaps all that start later
touching : overlap (network [] (pos 1) (Some (pos 9))) (network [] (pos 9) None) ≡ false
touching = refl

open_overlaps : own_rule (network [] (pos 1) None ∷ []) (network [] (pos 5) None) ≡ Some Overlap
open_overlaps = refl

-- an open epoch is contained in an open one alone
open_in_closed : contains (network [] (pos 1) (Some (pos 9))) (station (pos 2) None) ≡ false
open_in_closed = refl

without_network : own_rule (network [] (pos 1) (Some (pos 9)) ∷ []) (station (pos 2) None) ≡ Some NoNetworkEpoch
without_network = refl

absent : own_rule (network [] (pos 1) None ∷ []) (no_network (pos 2)) ≡ Some Absent
absent = refl

-- a station without its network is an orphan
orphan : is_orphan (station (pos 2) None ∷ []) (station (pos 2) None) ≡ true
orphan = refl
