-- Where the channels of a station at one location stand, and of these the one with a code.
use Rattle.std.specs.Prelude.{ℕ, Bool, List, Option, Some, None}
use Rattle.std.specs.declared.cmp.Ordering.{Ordering}
use Rattle.std.specs.declared.cmp.Ordering.TheVariants.{Equal}
use Rattle.std.specs.Ordering.{nat_cmp, ordering_then, is_eq}
use Rattle.epochs.specs.Lines.{LineValues}
use Rattle.epoch_rules.specs.KeyOrder.{KeyParts, key_parts_of, text_cmp}
use Rattle.station_text.specs.declared.sections.Section.{Section}

-- where a text stands to a code; where there is none, each is at it
abbrev pub code_order : Option (List ℕ) → List ℕ → Ordering
code_order None text = Equal
code_order (Some code) text = text_cmp text code

-- where a key stands to those of a section: before them, among them or behind them
abbrev pub section_order : Section → KeyParts → Ordering
section_order section p =
    ordering_then (nat_cmp p.rank 2)
    (ordering_then (text_cmp p.first section.place.network)
    (ordering_then (text_cmp p.second section.place.station)
    (ordering_then (text_cmp p.third section.location) (code_order section.channel p.fourth))))

abbrev pub stands_in : Section → LineValues → Bool
stands_in section e = is_eq (section_order section (key_parts_of e))
