-- The first two entries, and whom their lines make users.
use Rattle.std.proofs.Common.{◌≡◌, ◌∙◌, ◌≤◌, true, false, List, [], ◌∷◌, ◌++◌, length, None, Ok, Result, refl, ap, codes, arith}
use Rattle.std.specs.Prelude.{nat_lt}
use Rattle.std.specs.Char.{is_control}
use Rattle.std.specs.List.{list_all, list_any}
use Rattle.std.specs.Str.{IsAscii}
use Rattle.std.proofs.lemmas.Bool.{and_parts, ltb-true}
use Rattle.std.proofs.lemmas.Str.{IsUtf8-from_ascii, chars-IsAscii}
use Rattle.std.proofs.lemmas.Str.Ascii.{IsAscii-nil, IsAscii-cons}
use Rattle.epochs.specs.declared.parts.Roles.{Roles}
use Rattle.epochs.specs.Kinds.{Text}
use Rattle.epochs.specs.Lines.{LineValues, IsPlain, IsLine}
use Rattle.epochs.specs.Values.{user_line}
use Rattle.epochs.specs.declared.fault.RevisionFault.{RevisionFault}
use Rattle.epoch_rules.specs.Kept.{first_broken}
use Rattle.epoch_rules.specs.LiveLines.{live_lines}
use Rattle.archive_entry.specs.Bodies.{revision_of}
use Rattle.archive_entry.specs.declared.entry.Entry.{Entry}
use Rattle.archive_entry.specs.declared.entry.Kind.TheVariants.{Batch, Revise}
use Rattle.archive_entry.proofs.Readings.{revision_is}
use Rattle.archive_state.specs.History.{live_of, lines_in, may_post}
use Rattle.archive_state.specs.Lawful.{founding_body, founding_entry}
use Rattle.archive_state.proofs.Founding.{founding_revision, operator as operator_role}
use Rattle.centre_drill.specs.History.{feed, feed_body, feed_entry, ha1, operator}

ascii : (text : Text) → list_all (λ c. nat_lt c 128) text ≡ true → IsAscii text
ascii [] h = IsAscii-nil
ascii (c ∷ text) h =
    let both = and_parts (nat_lt c 128) (list_all (λ b. nat_lt b 128) text) h in
    IsAscii-cons c text (ltb-true c 128 both.0) (ascii text both.1)

plain : (text : Text) → length text ≤ 4000 → list_all (λ c. nat_lt c 128) text ≡ true → list_any is_control text ≡ false → IsPlain text
plain text short low printable = record { short = short; utf8 = IsUtf8-from_ascii text (ascii text low); printable = ap (list_any is_control) (chars-IsAscii text (ascii text low)) ∙ printable }

abbrev pub feed_role : Roles
feed_role = record { reader = false; feed = true; operator = false; replica = false }

abbrev pub operator_line : LineValues
operator_line = user_line operator ha1 operator_role

abbrev pub feed_line : LineValues
feed_line = user_line feed ha1 feed_role

abbrev feed_text : Text
feed_text = codes "USR|drill|00000000000000000000000000000000|feed"

feed_spells : IsLine feed_text feed_line
feed_spells = record {
  rest = feed ∷ ha1 ∷ codes "feed" ∷ [];
  has_head = record { is_plain = plain feed_text (omega arith) refl refl; split = refl };
  spells = ((refl, refl), ((refl, refl), (refl, tt)));
  in_order = tt;
}

pub feed_revision : revision_of feed_body ≡ Ok (feed_line ∷ [])
feed_revision = revision_is feed_body (Ok (feed_line ∷ [])) (record { each = (feed_spells, tt); some = λ e. cc })

pub first_revision : revision_of (founding_body operator ha1) ≡ Ok (operator_line ∷ [])
first_revision = founding_revision operator ha1 refl refl

-- the live lines of the first entry, and of both
abbrev pub first : List Entry
first = founding_entry operator ha1 ∷ []

abbrev pub both : List Entry
both = founding_entry operator ha1 ∷ feed_entry ∷ []

abbrev pub two_live : List LineValues
two_live = live_lines (operator_line ∷ feed_line ∷ [])

pub first_live : live_of first ≡ operator_line ∷ []
first_live = ap (λ (r : Result (List LineValues) RevisionFault). live_lines (lines_in r ++ [])) first_revision

pub both_live : live_of both ≡ two_live
both_live = λ i. live_lines (lines_in (first_revision i) ++ (lines_in (feed_revision i) ++ []))

-- the operator may post revisions, and the feed batches
operator_may : may_post (operator_line ∷ []) operator Revise ≡ true
operator_may = refl

pub first_may : may_post (live_of first) operator Revise ≡ true
first_may = ap (λ (live : List LineValues). may_post live operator Revise) first_live ∙ operator_may

feed_may : may_post two_live feed Batch ≡ true
feed_may = refl

pub both_may : may_post (live_of both) feed Batch ≡ true
both_may = ap (λ (live : List LineValues). may_post live feed Batch) both_live ∙ feed_may

-- the feed's line keeps the rules
pub feed_kept : first_broken (operator_line ∷ []) (feed_line ∷ []) ≡ None
feed_kept = refl
