-- By what lines are ordered: their keys.
use Rattle.std.specs.Prelude.{ℕ, zero, suc, ℤ, pos, Bool, List, [], ◌∷◌, Option, Some, None}
use Rattle.std.specs.declared.cmp.Ordering.{Ordering}
use Rattle.std.specs.Ordering.{nat_cmp, int_cmp, is_eq, ordering_then}
use Rattle.std.specs.Cmp.Lexicographic.{slice_cmp}
use Rattle.epochs.specs.declared.kinds.LineKind.{LineKind}
use Rattle.epochs.specs.declared.kinds.LineKind.TheVariants.{Net, Sta, Cha, Evt, Rst, Grt, Usr, Wdr}
use Rattle.epochs.specs.Kinds.{Text}
use Rattle.epochs.specs.Fields.{Value, code, words, patterns}
use Rattle.epochs.specs.Keys.{KeyValues, key_of}
use Rattle.epochs.specs.Lines.{LineValues, start_of}

-- A key as it is compared: its kind, its texts and its start. A key has at most five texts, and empty
-- ones stand for the others; a pattern list counts as it was written.
pub record KeyParts : Type 0 where
  pub rank : ℕ
  pub first : Text
  pub second : Text
  pub third : Text
  pub fourth : Text
  pub fifth : Text
  pub start : ℤ

-- the kinds stand in this order
abbrev pub rank_of : LineKind → ℕ
rank_of Net = 0
rank_of Sta = 1
rank_of Cha = 2
rank_of Evt = 3
rank_of Rst = 4
rank_of Grt = 5
rank_of Usr = 6
rank_of Wdr = 7

-- the texts among the values of a key
abbrev pub texts_in : List Value → List Text
texts_in [] = []
texts_in (code c ∷ values) = c ∷ texts_in values
texts_in (words t ∷ values) = t ∷ texts_in values
texts_in (patterns t list ∷ values) = t ∷ texts_in values
texts_in (_ ∷ values) = texts_in values

abbrev pub text_at : ℕ → List Text → Text
text_at n [] = []
text_at zero (t ∷ ts) = t
text_at (suc n) (t ∷ ts) = text_at n ts

abbrev pub or_zero : Option ℤ → ℤ
or_zero None = pos 0
or_zero (Some n) = n

-- the start among some values
abbrev pub start_in : List Value → ℤ
start_in values = or_zero (start_of values)

abbrev pub key_parts : KeyValues → KeyParts
key_parts key = record {
  rank = rank_of key.kind;
  first = text_at 0 (texts_in key.values);
  second = text_at 1 (texts_in key.values);
  third = text_at 2 (texts_in key.values);
  fourth = text_at 3 (texts_in key.values);
  fifth = text_at 4 (texts_in key.values);
  start = start_in key.values;
}

-- the key of a line; a deletion has the key that it deletes
abbrev pub key_parts_of : LineValues → KeyParts
key_parts_of e = key_parts (key_of e)

-- texts by their bytes
abbrev pub text_cmp : Text → Text → Ordering
text_cmp = slice_cmp nat_cmp

-- by kind and texts
abbrev pub family_cmp : KeyParts → KeyParts → Ordering
family_cmp a b =
    ordering_then (nat_cmp a.rank b.rank)
    (ordering_then (text_cmp a.first b.first)
    (ordering_then (text_cmp a.second b.second)
    (ordering_then (text_cmp a.third b.third)
    (ordering_then (text_cmp a.fourth b.fourth) (text_cmp a.fifth b.fifth)))))

-- by kind, texts and start
abbrev pub parts_cmp : KeyParts → KeyParts → Ordering
parts_cmp a b =
    ordering_then (nat_cmp a.rank b.rank)
    (ordering_then (text_cmp a.first b.first)
    (ordering_then (text_cmp a.second b.second)
    (ordering_then (text_cmp a.third b.third)
    (ordering_then (text_cmp a.fourth b.fourth)
    (ordering_then (text_cmp a.fifth b.fifth) (int_cmp a.start b.start))))))

-- lines by their keys
abbrev pub line_cmp : LineValues → LineValues → Ordering
line_cmp a b = parts_cmp (key_parts_of a) (key_parts_of b)

-- two lines say something of one thing
abbrev pub have_one_key : LineValues → LineValues → Bool
have_one_key a b = is_eq (line_cmp a b)
