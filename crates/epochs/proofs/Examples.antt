-- Worked examples of the definitions.
use Rattle.std.proofs.Common.{◌≡◌, ◌≤◌, true, false, [], ◌∷◌, Some, None, pos, refl, ap, ◌∙◌, codes, arith, length, nat_lt}
use Rattle.std.specs.Str.Lines.{lines}
use Rattle.std.specs.Char.{is_control}
use Rattle.std.specs.List.{list_all, list_any}
use Rattle.std.specs.Str.{chars, IsAscii}
use Rattle.std.proofs.lemmas.Bool.{and_parts, ltb-true}
use Rattle.std.proofs.lemmas.Str.{IsUtf8-from_ascii, chars-IsAscii}
use Rattle.std.proofs.lemmas.Str.Ascii.{IsAscii-nil, IsAscii-cons}
use Rattle.channel_globs.specs.declared.nslc.Part.TheVariants.{Network, Location}
use Rattle.epochs.specs.declared.kinds.LineKind.TheVariants.{Net, Cha, Evt, Grt}
use Rattle.epochs.specs.declared.kinds.Head.TheVariants.{Says, Deletes}
use Rattle.epochs.specs.declared.quantity.Quantity.TheVariants.{Azimuth}
use Rattle.epochs.specs.declared.fault.LineFault.TheVariants as fault
use Rattle.epochs.specs.declared.fault.RevisionFault.TheVariants as revision
use Rattle.epochs.specs.Kinds.{Text, EventId, kinds_in, key_fields, fields_behind}
use Rattle.epochs.specs.Fields.{code, words, time, end, IsQuantity, code_of, is_words, is_event_id, is_user_name, is_ha1, roles_of}
use Rattle.epochs.specs.Lines.{line_values, IsPlain, IsLine, IsLineFault, SpellsNone, is_skipped, texts_of, IsInOrder}
use Rattle.epochs.specs.Keys.{key_values, key_of}
use Rattle.epochs.specs.Revisions.{said_in, IsRevision, IsRevisionFault}
use Rattle.epochs.proofs.OneField.{spells}
use Rattle.epochs.proofs.OneLine.{no_head}

-- the key of a channel is its four codes and its start, and a deletion has these fields alone
channel_key : kinds_in (key_fields Cha) ≡ fields_behind (Deletes Cha)
channel_key = refl

grant_key : length (fields_behind (Deletes Grt)) ≡ 6
grant_key = refl

channel_fields : length (fields_behind (Says Cha)) ≡ 17
channel_fields = refl

two_hyphens : code_of Location (codes "--") ≡ code_of Location []
two_hyphens = refl

blank : code_of Location [] ≡ Some (codes "  ")
blank = refl

no_location : code_of Location (codes "000") ≡ None
no_location = refl

no_network : code_of Network [] ≡ None
no_network = refl

north : IsQuantity Azimuth (pos 360_000_000)
north = (omega arith, omega arith)

no_bar : is_words (codes "a|b") ≡ false
unfolding chars
no_bar = refl

no_control : is_words (194 ∷ 133 ∷ []) ≡ false
unfolding chars
no_control = refl

event_id : is_event_id (codes "quakes:2024/7.a_b-c") ≡ true
event_id = refl

no_user_name : is_user_name (codes "a:b") ≡ false
no_user_name = refl

upper_case : is_ha1 (codes "939E7578ed9e3c518a452acee763bce9") ≡ false
upper_case = refl

two_roles : roles_of (codes "feed,reader") ≡ Some (record { reader = true; feed = true; operator = false; replica = false })
two_roles = refl

twice : roles_of (codes "feed,feed") ≡ None
twice = refl

no_roles : roles_of [] ≡ None
no_roles = refl

comment : is_skipped (codes "# text") ≡ true
comment = refl

spaces : is_skipped (32 ∷ 9 ∷ []) ≡ true
spaces = refl

fields : texts_of (codes "DEL|EVT|7") ≡ codes "DEL" ∷ codes "EVT" ∷ codes "7" ∷ []
fields = refl

-- a comment, an empty line, and one that says something and has no end
said : said_in (lines (35 ∷ 13 ∷ 10 ∷ 10 ∷ 65 ∷ 13 ∷ [])) ≡ (65 ∷ 13 ∷ []) ∷ []
said = refl

-- an end is after its start
forward : IsInOrder (time (pos 1) ∷ end (Some (pos 2)) ∷ [])
forward = omega arith

at_once : ¬ (IsInOrder (time (pos 1) ∷ end (Some (pos 1)) ∷ []))
at_once h = omega (arith, h)

open_end : IsInOrder (time (pos 1) ∷ end None ∷ [])
open_end = tt

ascii : (text : Text) → list_all (λ c. nat_lt c 128) text ≡ true → IsAscii text
ascii [] h = IsAscii-nil
ascii (c ∷ text) h =
    let both = and_parts (nat_lt c 128) (list_all (λ b. nat_lt b 128) text) h in
    IsAscii-cons c text (ltb-true c 128 both.0) (ascii text both.1)

plain_ascii : (text : Text) → length text ≤ 4000 → list_all (λ c. nat_lt c 128) text ≡ true → list_any is_control text ≡ false → IsPlain text
plain_ascii text short low printable = record { short = short; utf8 = IsUtf8-from_ascii text (ascii text low); printable = ap (list_any is_control) (chars-IsAscii text (ascii text low)) ∙ printable }

-- a deletion, and the key that it ends
deletion : IsLine (codes "DEL|EVT|7") (line_values (Deletes Evt) (words (codes "7") ∷ []))
deletion = record {
  rest = codes "7" ∷ [];
  has_head = record { is_plain = plain_ascii (codes "DEL|EVT|7") (omega arith) refl refl; split = refl };
  spells = ((refl, refl), tt);
  in_order = tt;
}

event_key : key_of (line_values (Deletes Evt) (words (codes "7") ∷ [])) ≡ key_values Evt (words (codes "7") ∷ [])
event_key = refl

network_key : key_of (line_values (Says Net) (code (codes "IU") ∷ words [] ∷ time (pos 1) ∷ end None ∷ [])) ≡ key_values Net (code (codes "IU") ∷ time (pos 1) ∷ [])
network_key = refl

-- no text is no id, in field 3
no_id : SpellsNone EventId []
no_id value h = let s = spells EventId [] value h in absurd (let f : false ≡ true = s.0 in cc)

bad_id : IsLineFault (codes "DEL|EVT|") (fault.Value 3)
bad_id = record {
  head = Deletes Evt;
  rest = [] ∷ [];
  has_head = record { is_plain = plain_ascii (codes "DEL|EVT|") (omega arith) refl refl; split = refl };
  as_many = refl;
  count = 0;
  first = no_id;
  number_is = refl;
}

-- no such kind, also behind DEL
no_kind : IsLineFault (codes "FOO|1") fault.LineKind
no_kind = record { is_plain = plain_ascii (codes "FOO|1") (omega arith) refl refl; none = no_head (texts_of (codes "FOO|1")) refl }

no_kind_behind : IsLineFault (codes "DEL") fault.LineKind
no_kind_behind = record { is_plain = plain_ascii (codes "DEL") (omega arith) refl refl; none = no_head (texts_of (codes "DEL")) refl }

first_line : IsRevisionFault (codes "FOO|1") (revision.Bad 1 fault.LineKind)
first_line = record { before = []; here = codes "FOO|1"; after = []; split = refl; number_is = refl; spelled = []; clean = tt; said = refl; bad = no_kind }

silence : IsRevisionFault (codes "#") (revision.Bad 1 fault.NoLine)
silence = (refl, refl)

one_deletion : IsRevision (codes "DEL|EVT|7") (line_values (Deletes Evt) (words (codes "7") ∷ []) ∷ [])
one_deletion = record { each = (deletion, tt); some = λ e. let f : line_values (Deletes Evt) (words (codes "7") ∷ []) ∷ [] ≡ [] = e in cc }
