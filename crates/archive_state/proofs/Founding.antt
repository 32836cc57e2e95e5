-- The body of a founding entry is a revision of one line, which keeps the rules.
use Rattle.std.proofs.Common.{◌≡◌, ◌==◌, ◌&&◌, ◌||◌, ◌∙◌, ℕ, zero, suc, ◌+◌, ◌-◌, ◌≤◌, ◌<◌, Bool, true, false, not, List, [], ◌∷◌, ◌++◌, length, refl, sym, ap, subst, arith, codes, append_assoc, length-append, Ok}
use Rattle.std.specs.Prelude.{nat_le, slice_index, take, if◌then◌else◌}
use Rattle.std.specs.Char.{is_control}
use Rattle.std.specs.List.{list_all, list_any, All}
use Rattle.std.specs.Str.{IsAscii, bytes_eq}
use Rattle.std.specs.Str.Lines.{lines, lines_of_parts, strip_carriage_return}
use Rattle.std.proofs.lemmas.Bool.{and_parts}
use Rattle.std.proofs.lemmas.Bool.Decides.{nat_tests}
use Rattle.std.proofs.lemmas.List.Elements.{All-nil, All-cons}
use Rattle.std.proofs.lemmas.List.Splits.{slice_split_at}
use Rattle.std.proofs.lemmas.Slice.Eq.{bytes_eq-Decides}
use Rattle.std.proofs.lemmas.Str.{IsUtf8-from_ascii, chars-IsAscii}
use Rattle.epochs.specs.declared.parts.Roles.{Roles}
use Rattle.epochs.specs.Kinds.{Text}
use Rattle.epochs.specs.Fields.{is_name_byte, is_lower_hex, is_user_name, is_ha1, bar}
use Rattle.epochs.specs.Lines.{IsPlain, IsLine, texts_of}
use Rattle.epochs.specs.Values.{user_line}
use Rattle.epochs.specs.Revisions.{said_in, AreLines, IsRevision}
use Rattle.epoch_rules.specs.Kept.{AreKept}
use Rattle.archive_entry.specs.Bodies.{revision_of}
use Rattle.archive_entry.proofs.Readings.{revision_is}
use Rattle.archive_state.specs.Lawful.{founding_body, ha1_behind, founds}

-- the roles of an operator
abbrev pub operator : Roles
operator = record { reader = false; feed = false; operator = true; replica = false }

-- ---- bytes

-- a byte of ASCII that isn't a control character
abbrev is_shown : ℕ → Bool
is_shown c = nat_le 32 c && nat_le c 126

-- and no bar
abbrev is_inner : ℕ → Bool
is_inner c = is_shown c && not (c == 124)

inner_name : (c : ℕ) → is_name_byte c ≡ true → is_inner c ≡ true
inner_name c h = grind (arith, nat_tests)

inner_hex : (c : ℕ) → is_lower_hex c ≡ true → is_inner c ≡ true
inner_hex c h = grind (arith, nat_tests)

all_by : (p q : ℕ → Bool) → ((c : ℕ) → p c ≡ true → q c ≡ true) → (cs : List ℕ) → list_all p cs ≡ true → list_all q cs ≡ true
all_by p q so [] h = refl
all_by p q so (c ∷ cs) h =
    let both = and_parts (p c) (list_all p cs) h in
    λ i. so c both.0 i && all_by p q so cs both.1 i

all_joined : (p : ℕ → Bool) (xs ys : List ℕ) → list_all p xs ≡ true → list_all p ys ≡ true → list_all p (xs ++ ys) ≡ true
all_joined p [] ys h k = k
all_joined p (x ∷ xs) ys h k =
    let both = and_parts (p x) (list_all p xs) h in
    λ i. both.0 i && all_joined p xs ys both.1 k i

ascii_byte : (c : ℕ) → is_shown c ≡ true → c < 128
ascii_byte c h = grind (arith, nat_tests)

ascii : (cs : List ℕ) → list_all is_shown cs ≡ true → IsAscii cs
ascii [] h i = omega arith
ascii (c ∷ cs) h zero = ascii_byte c (and_parts (is_shown c) (list_all is_shown cs) h).0
ascii (c ∷ cs) h (suc i) = ascii cs (and_parts (is_shown c) (list_all is_shown cs) h).1 i

no_control_byte : (c : ℕ) → is_shown c ≡ true → is_control c ≡ false
no_control_byte c h = grind (arith, nat_tests)

no_control : (cs : List ℕ) → list_all is_shown cs ≡ true → list_any is_control cs ≡ false
no_control [] h = refl
no_control (c ∷ cs) h =
    let both = and_parts (is_shown c) (list_all is_shown cs) h in
    λ i. no_control_byte c both.0 i || no_control cs both.1 i

no_bar : (c : ℕ) → is_inner c ≡ true → (c == bar) ≡ false
no_bar c h = grind (arith, nat_tests)

no_bars : (cs : List ℕ) → list_all is_inner cs ≡ true → All (λ c. (c == bar) ≡ false) cs
no_bars [] h = All-nil (λ c. (c == bar) ≡ false)
no_bars (c ∷ cs) h =
    let both = and_parts (is_inner c) (list_all is_inner cs) h in
    All-cons (λ c. (c == bar) ≡ false) c cs (no_bar c both.0) (no_bars cs both.1)

no_feed_byte : (c : ℕ) → is_shown c ≡ true → (c == 10) ≡ false
no_feed_byte c h = grind (arith, nat_tests)

no_feeds : (cs : List ℕ) → list_all is_shown cs ≡ true → All (λ c. (c == 10) ≡ false) cs
no_feeds [] h = All-nil (λ c. (c == 10) ≡ false)
no_feeds (c ∷ cs) h =
    let both = and_parts (is_shown c) (list_all is_shown cs) h in
    All-cons (λ c. (c == 10) ≡ false) c cs (no_feed_byte c both.0) (no_feeds cs both.1)

shown_inner : (c : ℕ) → is_inner c ≡ true → is_shown c ≡ true
shown_inner c h = (and_parts (is_shown c) (not (c == 124)) h).0

-- ---- one line

last_at : (xs : List ℕ) (c : ℕ) → slice_index (xs ++ c ∷ []) (length xs) ≡ c
last_at [] c = refl
last_at (x ∷ xs) c = last_at xs c

last_of : (xs : List ℕ) (c : ℕ) → slice_index (xs ++ c ∷ []) (length (xs ++ c ∷ []) - 1) ≡ c
last_of xs c =
    let longer = length-append xs (c ∷ []) in
    let place : length (xs ++ c ∷ []) - 1 ≡ length xs = omega (arith, longer) in
    ap (slice_index (xs ++ c ∷ [])) place ∙ last_at xs c

-- a text of such bytes with a line feed behind it is one line
one_line : (front : Text) (c : ℕ) → list_all is_shown (front ++ c ∷ []) ≡ true → (c == 13) ≡ false → lines ((front ++ c ∷ []) ++ 10 ∷ []) ≡ (front ++ c ∷ []) ∷ []
one_line front c shown apart =
    let text = front ++ c ∷ [] in
    let stays : strip_carriage_return text ≡ text =
    ap (λ (n : ℕ). if n == 13 then take (length text - 1) text else text) (last_of front c) ∙ ap (λ (b : Bool). if b then take (length text - 1) text else text) apart in
    ap lines_of_parts (slice_split_at (λ (b : ℕ). b == 10) text 10 [] (no_feeds text shown) refl)
    ∙ ap (λ (line : Text). line ∷ []) stays

module _ (name ha1 : Text) (name_is : is_user_name name ≡ true) (ha1_is : is_ha1 ha1 ≡ true) where
  name_all : list_all is_name_byte name ≡ true
  name_all = (and_parts (nat_le 1 (length name) && nat_le (length name) 32) (list_all is_name_byte name) name_is).1

  name_short : length name ≤ 32
  name_short =
      let sizes = and_parts (nat_le 1 (length name)) (nat_le (length name) 32) (and_parts (nat_le 1 (length name) && nat_le (length name) 32) (list_all is_name_byte name) name_is).0 in
      let high = sizes.1 in
      grind (arith, nat_tests)

  pub ha1_parts : ((length ha1 == 32) ≡ true) × (list_all is_lower_hex ha1 ≡ true)
  ha1_parts = and_parts (length ha1 == 32) (list_all is_lower_hex ha1) ha1_is

  ha1_short : length ha1 ≤ 32
  ha1_short = let h = ha1_parts.0 in grind (arith, nat_tests)

  name_inner : list_all is_inner name ≡ true
  name_inner = all_by is_name_byte is_inner inner_name name name_all

  ha1_inner : list_all is_inner ha1 ≡ true
  ha1_inner = all_by is_lower_hex is_inner inner_hex ha1 ha1_parts.1

  abbrev front : Text
  front = codes "USR|" ++ (name ++ (codes "|" ++ (ha1 ++ codes "|operato")))

  abbrev text : Text
  text = codes "USR|" ++ (name ++ (codes "|" ++ (ha1 ++ codes "|operator")))

  text_is : text ≡ front ++ 114 ∷ []
  text_is =
      ap (λ (xs : Text). codes "USR|" ++ xs)
      (sym (append_assoc name (codes "|" ++ (ha1 ++ codes "|operato")) (114 ∷ [])
      ∙ ap (λ (xs : Text). name ++ (codes "|" ++ xs)) (append_assoc ha1 (codes "|operato") (114 ∷ []))))

  body_is : founding_body name ha1 ≡ text ++ 10 ∷ []
  body_is =
      append_assoc (codes "USR|" ++ name ++ codes "|") ha1 (codes "|operator\n")
      ∙ append_assoc (codes "USR|" ++ name) (codes "|") (ha1 ++ codes "|operator\n")
      ∙ append_assoc (codes "USR|") name (codes "|" ++ (ha1 ++ codes "|operator\n"))
      ∙ ap (λ (xs : Text). codes "USR|" ++ xs)
      (sym (append_assoc name (codes "|" ++ (ha1 ++ codes "|operator")) (10 ∷ [])
      ∙ ap (λ (xs : Text). name ++ (codes "|" ++ xs)) (append_assoc ha1 (codes "|operator") (10 ∷ []))))

  shown : list_all is_shown text ≡ true
  shown =
      all_joined is_shown (codes "USR|") (name ++ (codes "|" ++ (ha1 ++ codes "|operator"))) refl
      (all_joined is_shown name (codes "|" ++ (ha1 ++ codes "|operator")) (all_by is_inner is_shown shown_inner name name_inner)
      (all_joined is_shown (codes "|") (ha1 ++ codes "|operator") refl
      (all_joined is_shown ha1 (codes "|operator") (all_by is_inner is_shown shown_inner ha1 ha1_inner) refl)))

  text_length : length text ≡ length name + length ha1 + 14
  text_length =
      let a = length-append name (codes "|" ++ (ha1 ++ codes "|operator")) in
      let b = length-append ha1 (codes "|operator") in
      omega (arith, a, b)

  plain : IsPlain text
  plain = record {
    short = omega (arith, text_length, name_short, ha1_short);
    utf8 = IsUtf8-from_ascii text (ascii text shown);
    printable = ap (list_any is_control) (chars-IsAscii text (ascii text shown)) ∙ no_control text shown;
  }

  fields : texts_of text ≡ codes "USR" ∷ name ∷ ha1 ∷ codes "operator" ∷ []
  fields =
      let p = λ (c : ℕ). c == bar in
      slice_split_at p (codes "USR") bar (name ++ (codes "|" ++ (ha1 ++ codes "|operator"))) (no_bars (codes "USR") refl) refl
      ∙ ap (λ (parts : List Text). codes "USR" ∷ parts)
      (slice_split_at p name bar (ha1 ++ codes "|operator") (no_bars name name_inner) refl
      ∙ ap (λ (parts : List Text). name ∷ parts)
      (slice_split_at p ha1 bar (codes "operator") (no_bars ha1 ha1_inner) refl))

  spells : IsLine text (user_line name ha1 operator)
  spells = record {
    rest = name ∷ ha1 ∷ codes "operator" ∷ [];
    has_head = record { is_plain = plain; split = fields };
    spells = ((refl, name_is), ((refl, ha1_is), (refl, tt)));
    in_order = tt;
  }

  body_lines : lines (founding_body name ha1) ≡ text ∷ []
  body_lines =
      ap lines (body_is ∙ ap (λ (xs : Text). xs ++ 10 ∷ []) text_is)
      ∙ one_line front 114 (subst (λ (xs : Text). list_all is_shown xs ≡ true) text_is shown) refl
      ∙ ap (λ (xs : Text). xs ∷ []) (sym text_is)

  revision : IsRevision (founding_body name ha1) (user_line name ha1 operator ∷ [])
  revision = record {
    each = subst (λ (texts : List Text). AreLines (said_in texts) (user_line name ha1 operator ∷ [])) (sym body_lines) (spells, tt);
    some = λ e. cc;
  }

  -- what the body says
  pub founding_revision : revision_of (founding_body name ha1) ≡ Ok (user_line name ha1 operator ∷ [])
  founding_revision = revision_is (founding_body name ha1) (Ok (user_line name ha1 operator ∷ [])) revision

  -- it keeps the rules over no lines
  pub founding_kept : AreKept [] (user_line name ha1 operator ∷ [])
  founding_kept = (refl, tt)

  -- and it has a byte, and at most 79
  pub founding_length : (1 ≤ length (founding_body name ha1)) × (length (founding_body name ha1) ≤ 79)
  founding_length =
      let whole = ap length body_is ∙ length-append text (10 ∷ []) in
      (omega (arith, whole, text_length), omega (arith, whole, text_length, name_short, ha1_short))

-- a body that founds an archive is the founding body of an HA1
pub founds_parts : (name : Text) (body : List ℕ) → founds name body ≡ true → (is_user_name name ≡ true) × (is_ha1 (ha1_behind name body) ≡ true) × (body ≡ founding_body name (ha1_behind name body))
founds_parts name body h =
    let ha1 = ha1_behind name body in
    let a = and_parts (is_user_name name && is_ha1 ha1) (bytes_eq body (founding_body name ha1)) h in
    let b = and_parts (is_user_name name) (is_ha1 ha1) a.0 in
    (b.0, b.1, (bytes_eq-Decides body (founding_body name ha1)).0 a.1)
