-- The kinds of revision lines, the fields that each has, and those that make its key.
use Rattle.std.specs.Prelude.{ℕ, List, [], ◌∷◌, ◌++◌, Bool, true, false, map, filter, codes}
use Rattle.channel_globs.specs.declared.nslc.Part.{Part}
use Rattle.channel_globs.specs.declared.nslc.Part.TheVariants.{Network, Station, Location, Channel}
use Rattle.epochs.specs.declared.kinds.LineKind.{LineKind}
use Rattle.epochs.specs.declared.kinds.LineKind.TheVariants.{Net, Sta, Cha, Evt, Rst, Grt, Usr, Wdr}
use Rattle.epochs.specs.declared.kinds.Head.{Head}
use Rattle.epochs.specs.declared.kinds.Head.TheVariants.{Says, Deletes}
use Rattle.epochs.specs.declared.quantity.Quantity.{Quantity}
use Rattle.epochs.specs.declared.quantity.Quantity.TheVariants.{Latitude, Longitude, Azimuth, Dip, Rate, Measure}

abbrev pub Text : Type 0
Text = List ℕ

-- what a field holds
pub data FieldKind : Type 0 where
  CodeOf : Part → FieldKind
  Words : FieldKind
  Time : FieldKind
  End : FieldKind
  Required : Quantity → FieldKind
  Optional : Quantity → FieldKind
  PatternsOf : Part → FieldKind
  EventId : FieldKind
  UserName : FieldKind
  Ha1 : FieldKind
  RoleNames : FieldKind
  EntryNumber : FieldKind

-- a field of a line, and whether it is part of the line's key
pub record Field : Type 0 where
  pub kind : FieldKind
  pub in_key : Bool

abbrev pub keyed : FieldKind → Field
keyed kind = record { kind = kind; in_key = true }

abbrev pub plain : FieldKind → Field
plain kind = record { kind = kind; in_key = false }

-- the pattern lists of the four codes
abbrev pub pattern_fields : List Field
pattern_fields =
    keyed (PatternsOf Network)
    ∷ keyed (PatternsOf Station)
    ∷ keyed (PatternsOf Location)
    ∷ keyed (PatternsOf Channel)
    ∷ []

-- an epoch: its start, which is part of the key, and its end
abbrev pub epoch_fields : List Field
epoch_fields = keyed Time ∷ plain End ∷ []

-- the fields behind the kind
abbrev pub fields_of : LineKind → List Field
fields_of Net = keyed (CodeOf Network) ∷ plain Words ∷ epoch_fields
fields_of Sta =
    keyed (CodeOf Network)
    ∷ keyed (CodeOf Station)
    ∷ plain (Required Latitude)
    ∷ plain (Required Longitude)
    ∷ plain (Required Measure)
    ∷ plain Words
    ∷ epoch_fields
fields_of Cha =
    keyed (CodeOf Network)
    ∷ keyed (CodeOf Station)
    ∷ keyed (CodeOf Location)
    ∷ keyed (CodeOf Channel)
    ∷ plain (Required Latitude)
    ∷ plain (Required Longitude)
    ∷ plain (Required Measure)
    ∷ plain (Required Measure)
    ∷ plain (Optional Azimuth)
    ∷ plain (Optional Dip)
    ∷ plain Words
    ∷ plain (Optional Measure)
    ∷ plain (Optional Measure)
    ∷ plain Words
    ∷ plain (Required Rate)
    ∷ epoch_fields
fields_of Evt =
    keyed EventId
    ∷ plain Time
    ∷ plain (Required Latitude)
    ∷ plain (Required Longitude)
    ∷ plain (Optional Measure)
    ∷ plain Words
    ∷ plain Words
    ∷ plain Words
    ∷ plain Words
    ∷ plain Words
    ∷ plain (Optional Measure)
    ∷ plain Words
    ∷ plain Words
    ∷ []
fields_of Rst = pattern_fields ++ epoch_fields
fields_of Grt = keyed UserName ∷ pattern_fields ++ epoch_fields
fields_of Usr = keyed UserName ∷ plain Ha1 ∷ plain RoleNames ∷ []
fields_of Wdr = pattern_fields ++ (epoch_fields ++ plain EntryNumber ∷ [])

-- the first field of a line of that kind
abbrev pub name_of : LineKind → Text
name_of Net = codes "NET"
name_of Sta = codes "STA"
name_of Cha = codes "CHA"
name_of Evt = codes "EVT"
name_of Rst = codes "RST"
name_of Grt = codes "GRT"
name_of Usr = codes "USR"
name_of Wdr = codes "WDR"

-- how a line begins: with its kind, or with DEL and the kind whose key it deletes
abbrev pub head_texts : Head → List Text
head_texts (Says kind) = name_of kind ∷ []
head_texts (Deletes kind) = codes "DEL" ∷ name_of kind ∷ []

abbrev pub kinds_in : List Field → List FieldKind
kinds_in fields = map (λ f. f.kind) fields

-- the fields that make the key of a kind
abbrev pub key_fields : LineKind → List Field
key_fields kind = filter (λ f. f.in_key) (fields_of kind)

-- the fields that stand behind the head: all, or those of the key
abbrev pub fields_behind : Head → List FieldKind
fields_behind (Says kind) = kinds_in (fields_of kind)
fields_behind (Deletes kind) = kinds_in (key_fields kind)
