-- Worked examples of the definitions.
use Rattle.std.proofs.Common.{◌≡◌, ℕ, ℤ, pos, true, false, List, [], ◌∷◌, Option, Some, None, codes, refl}
use Rattle.epochs.specs.declared.kinds.LineKind.TheVariants.{Net, Sta}
use Rattle.epochs.specs.declared.kinds.Head.TheVariants.{Says}
use Rattle.epochs.specs.Fields.{code, words, time, end, number, optional}
use Rattle.epochs.specs.Lines.{LineValues, line_values}
use Rattle.station_text.specs.Windows.{ends_before, ends_after}
use Rattle.station_text.specs.Asked.{is_every, station_codes, total_stations}
use Rattle.line_columns.specs.Texts.{code_text, barred, column_text}

-- a network from 100 on, two epochs of one of its stations, one of another before it, and a channel
abbrev network : LineValues
network = line_values (Says Net) (code (codes "IU") ∷ words (codes "GSN") ∷ time (pos 100) ∷ end None ∷ [])

abbrev station : List ℕ → ℤ → Option ℤ → LineValues
station name start stop =
    line_values (Says Sta) (code (codes "IU") ∷ code name ∷ number (pos 0) ∷ number (pos 0) ∷ number (pos 0) ∷ words [] ∷ time start ∷ end stop ∷ [])

abbrev live : List LineValues
live =
    network
    ∷ station (codes "ANMO") (pos 100) (Some (pos 200))
    ∷ station (codes "ANMO") (pos 200) None
    ∷ station (codes "COLA") (pos 99) None
    ∷ []

-- a station counts once, and only with an epoch within the network's
one_station : station_codes live network ≡ codes "ANMO" ∷ []
one_station = refl

counted_once : total_stations live network ≡ 1
counted_once = refl

-- the blank location is printed as nothing
blank : code_text (codes "  ") ≡ []
blank = refl

bars : barred (codes "IU" ∷ code_text (codes "  ") ∷ codes "BHZ" ∷ []) ≡ codes "IU||BHZ"
bars = refl

absent : column_text (optional None) ≡ []
absent = refl

-- an open end is after every moment and before none
open_after : ends_after (pos 5) None ≡ true
open_after = refl

open_before : ends_before (pos 5) None ≡ false
open_before = refl

-- only the one pattern `*` asks for all
star : is_every (codes "*" ∷ []) ≡ true
star = refl

two_stars : is_every (codes "**" ∷ []) ≡ false
two_stars = refl
