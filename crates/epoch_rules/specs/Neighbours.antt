-- Lines by where their keys stand.
use Rattle.std.specs.Prelude.{◌≡◌, Bool, false, not, List, [], ◌∷◌, ◌++◌, Option, Some, None, MatchOption, if◌then◌else◌}
use Rattle.std.specs.Ordering.{is_lt, is_le, is_eq}
use Rattle.std.specs.Borrow.{Bor}
use Rattle.epochs.specs.Lines.{LineValues}
use Rattle.epochs.specs.Views.{values_of_line}
use Rattle.epochs.specs.declared.line.Line.{Line}
use Rattle.epoch_rules.specs.KeyOrder.{KeyParts, key_parts_of, line_cmp, parts_cmp}

-- a line's key is that one, before it, no later, or after it
abbrev pub is_at_key : KeyParts → LineValues → Bool
is_at_key key l = is_eq (parts_cmp key (key_parts_of l))

abbrev pub is_below_key : KeyParts → LineValues → Bool
is_below_key key l = not (is_le (parts_cmp key (key_parts_of l)))

abbrev pub is_up_to_key : KeyParts → LineValues → Bool
is_up_to_key key l = not (is_lt (parts_cmp key (key_parts_of l)))

abbrev pub is_above_key : KeyParts → LineValues → Bool
is_above_key key l = is_lt (parts_cmp key (key_parts_of l))

abbrev pub is_from_key : KeyParts → LineValues → Bool
is_from_key key l = is_le (parts_cmp key (key_parts_of l))

-- the last of some lines, and the first, if there are any
abbrev pub IsLastOf : List LineValues → Option (Bor Line) → Type 0
IsLastOf lines last = MatchOption last (lines ≡ []) (λ l. (before : List LineValues) × (lines ≡ before ++ values_of_line l.now ∷ []))

abbrev pub IsFirstOf : List LineValues → Option (Bor Line) → Type 0
IsFirstOf lines first = MatchOption first (lines ≡ []) (λ l. (after : List LineValues) × (lines ≡ values_of_line l.now ∷ after))

-- a line, if there is one, passes a test
abbrev pub passes_there : (LineValues → Bool) → Option (Bor Line) → Bool
passes_there test None = false
passes_there test (Some l) = test (values_of_line l.now)

-- of two lines, where they are there, the one behind and the one before
abbrev pub later_of : (a b : Option (Bor Line)) → Option (Bor Line)
later_of None b = b
later_of (Some a) None = Some a
later_of (Some a) (Some b) = if is_lt (line_cmp (values_of_line a.now) (values_of_line b.now)) then Some b else Some a

abbrev pub earlier_of : (a b : Option (Bor Line)) → Option (Bor Line)
earlier_of None b = b
earlier_of (Some a) None = Some a
earlier_of (Some a) (Some b) = if is_lt (line_cmp (values_of_line a.now) (values_of_line b.now)) then Some a else Some b

-- a line, if it is there and has the key
abbrev pub at_there : KeyParts → Option (Bor Line) → Option (Bor Line)
at_there key None = None
at_there key (Some l) = if is_at_key key (values_of_line l.now) then Some l else None
