-- The ends of stations and channels, in order for each network and station.
use Rattle.std.specs.Prelude.{◌≡◌, ℕ, ℤ, pos, Bool, not, ◌&&◌, ◌||◌, List, [], Option, is_none, if◌then◌else◌}
use Rattle.std.specs.List.{list_any}
use Rattle.std.specs.declared.cmp.Ordering.{Ordering}
use Rattle.std.specs.Ordering.{nat_cmp, int_cmp, bool_cmp, ordering_then, is_eq}
use Rattle.std.specs.declared.ops.Bound.TheVariants.{Included, Excluded}
use Rattle.std.specs.BTreeMap.Range.{range_contains}
use Rattle.std.specs.BTreeSet.{BTreeSet}
use Rattle.epochs.specs.declared.kinds.LineKind.TheVariants.{Sta, Cha}
use Rattle.epochs.specs.Kinds.{Text}
use Rattle.epochs.specs.Lines.{LineValues, end_of}
use Rattle.epoch_rules.specs.declared.endings.ChildKey.{ChildKey}
use Rattle.epoch_rules.specs.declared.endings.Ending.{Ending}
use Rattle.epoch_rules.specs.KeyKinds.{key_rank}
use Rattle.epoch_rules.specs.KeyOrder.{KeyParts, key_parts_of, text_cmp, parts_cmp, or_zero}
use Rattle.epoch_rules.specs.KeyViews.{view_of}
use Rattle.epoch_rules.specs.Rules.{is_line_of}

-- the end of an epoch in a container: the epoch's kind, the container's codes, the end, and the epoch's key
pub record EndingParts : Type 0 where
  pub rank : ℕ
  pub first : Text
  pub second : Text
  pub forever : Bool
  pub micros : ℤ
  pub key : KeyParts

abbrev pub ending : ℕ → (first second : Text) → Option ℤ → KeyParts → EndingParts
ending rank first second stop key = record {
  rank = rank;
  first = first;
  second = second;
  forever = is_none stop;
  micros = or_zero stop;
  key = key;
}

-- as the program keeps them, without the line
abbrev pub parts_of_child : ChildKey → KeyParts
parts_of_child k = view_of (key_rank k.kind) k.network k.station k.location k.channel [] k.start

abbrev pub parts_of_ending : Ending → EndingParts
parts_of_ending e = record {
  rank = key_rank e.kind;
  first = e.first;
  second = e.second;
  forever = e.forever;
  micros = e.micros;
  key = parts_of_child e.key;
}

-- a line that lies in a container
abbrev pub is_child : LineValues → Bool
is_child e = is_line_of Sta e || is_line_of Cha e

abbrev pub ending_of : LineValues → EndingParts
ending_of e =
    ending (key_parts_of e).rank (key_parts_of e).first (if is_line_of Cha e then (key_parts_of e).second else []) (end_of e.values) (key_parts_of e)

-- a key behind all keys
abbrev pub last_key : KeyParts
last_key = view_of 255 [] [] [] [] [] (pos 0)

-- behind all of a container's epochs of a kind that end by some end, and before the others
abbrev pub cut : ℕ → (first second : Text) → Option ℤ → EndingParts
cut rank first second stop = ending rank first second stop last_key

abbrev pub ending_cmp : EndingParts → EndingParts → Ordering
ending_cmp a b =
    ordering_then (nat_cmp a.rank b.rank)
    (ordering_then (text_cmp a.first b.first)
    (ordering_then (text_cmp a.second b.second)
    (ordering_then (bool_cmp a.forever b.forever)
    (ordering_then (int_cmp a.micros b.micros) (parts_cmp a.key b.key)))))

-- some end of a set passes a test
abbrev pub has_end : BTreeSet Ending → (EndingParts → Bool) → Bool
has_end ends test = list_any (λ q. test (parts_of_ending q)) ends.keys

-- a test passes some end exactly where it passes that of a line that lies in a container
abbrev pub AreEndsOf : ((EndingParts → Bool) → Bool) → List LineValues → Type 0
AreEndsOf passes lines = (test : EndingParts → Bool) → passes test ≡ list_any (λ e. is_child e && test (ending_of e)) lines

-- the set holds the ends of those lines that lie in containers, and no others
abbrev pub HoldsEnds : BTreeSet Ending → List LineValues → Type 0
HoldsEnds ends lines =
    (test : EndingParts → Bool) → list_any (λ q. test (parts_of_ending q)) ends.keys ≡ list_any (λ e. is_child e && test (ending_of e)) lines

-- there is one end more, or all but one
abbrev pub AddsEnd : ((EndingParts → Bool) → Bool) → EndingParts → ((EndingParts → Bool) → Bool) → Type 0
AddsEnd passes e more = (test : EndingParts → Bool) → more test ≡ (test e || passes test)

abbrev pub DropsEnd : ((EndingParts → Bool) → Bool) → EndingParts → ((EndingParts → Bool) → Bool) → Type 0
DropsEnd passes e fewer = (test : EndingParts → Bool) → fewer test ≡ passes (λ q. not (is_eq (ending_cmp e q)) && test q)

abbrev pub KeepsEnds : ((EndingParts → Bool) → Bool) → ((EndingParts → Bool) → Bool) → Type 0
KeepsEnds passes same = (test : EndingParts → Bool) → same test ≡ passes test

-- an end stands at a cut or after it, and before another
abbrev pub is_between : EndingParts → EndingParts → EndingParts → Bool
is_between low high p = range_contains ending_cmp (Included low) (Excluded high) p
