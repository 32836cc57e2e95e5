-- What is written as a request is read as that request.
use Rattle.std.proofs.Common.{◌≡◌, ℕ, suc, ◌+◌, ◌<◌, ◌≤◌, ◌==◌, ◌&&◌, ◌||◌, Bool, true, false, List, [], ◌∷◌, ◌++◌, length, map, Option, None, Some, Ok, refl, sym, ◌∙◌, ap, subst, arith, append_assoc, append-nil, nat_lt}
use Rattle.std.specs.Prelude.{All, if◌then◌else◌, codes, flat_map, not, unwrap_or}
use Rattle.std.specs.List.{list_all, list_any, prefix_len, AllByRecursion}
use Rattle.std.specs.Char.{is_ascii_uppercase, to_ascii_lowercase}
use Rattle.std.specs.Str.{str_to_ascii_lowercase}
use Rattle.std.proofs.lemmas.Bool.{and_parts, and_from, cond-false}
use Rattle.std.proofs.lemmas.Bool.Decides.{nat_tests}
use Rattle.std.proofs.lemmas.List.{length-map}
use Rattle.std.proofs.lemmas.List.Elements.{All-nil, All-cons}
use Rattle.std.proofs.lemmas.List.Sums.{AllPass-from_list_all}
use Rattle.httparse.specs.Ascii.{space, crlf_bytes}
use Rattle.httparse.specs.Grammar.{Field as Line, IsField, print_field, is_token, is_token_byte, is_value_byte, is_uri_byte, trim_ows, crlf, IsToken, RequestHead, IsRequestHead, print_request, ReadsRequest}
use Rattle.httparse.specs.Spans.{name_and_value}
use Rattle.httparse.proofs.GrammarLemmas.{print_request-append}
use Rattle.http_replies.specs.Replies.{field_line}
use Rattle.http_wire.specs.Blocks.{EndsBlock, IsBlock}
use Rattle.http_wire.specs.FieldPairs.{as_pair}
use Rattle.http_wire.specs.Fronts.{front_limit, is_blank_byte, begins_blank, is_stop, after_space, has_long_target}
use Rattle.http_wire.specs.Heads.{in_lower_case, is_field, has_field, first_length, body_length, head_fault, unless_faulty, FrontSays}
use Rattle.http_wire.specs.Items.{IsRequest}
use Rattle.http_wire.specs.declared.block.BlockEnd.TheVariants.{Block}
use Rattle.http_wire.specs.declared.field.Field.{Field}
use Rattle.http_wire.proofs.Unique.{one_request}
use Rattle.http_wire.proofs.WholeBlock.{head_ends}
use Rattle.http_answers.specs.Requests.{request_line, lines_of, request_bytes, head_meant, IsPlain, RequestReadsBack, RequestReadsAsNoOther}
use Rattle.http_answers.specs.declared.asked.Asked.{Asked}
use Rattle.http_answers.proofs.Blocks.{is_quiet, IsLine, lines_text, one_block}

-- ---- tests as facts

some_bytes : (n : ℕ) → nat_lt 0 n ≡ true → 0 < n
some_bytes n h = grind (arith, nat_tests)

token_of : (text : List ℕ) → is_token text ≡ true → IsToken text
token_of text h =
    let two = and_parts (nat_lt 0 (length text)) (list_all is_token_byte text) h in
    (some_bytes (length text) two.0, AllPass-from_list_all is_token_byte text two.1)

-- a byte that passes the one test passes the other
all_weaker : (p q : ℕ → Bool) → ((b : ℕ) → p b ≡ true → q b ≡ true) → (text : List ℕ) → list_all p text ≡ true → list_all q text ≡ true
all_weaker p q w [] h = refl
all_weaker p q w (b ∷ text) h =
    let two = and_parts (p b) (list_all p text) h in
    and_from _ _ (w b two.0) (all_weaker p q w text two.1)

all_join : (p : ℕ → Bool) (xs ys : List ℕ) → list_all p xs ≡ true → list_all p ys ≡ true → list_all p (xs ++ ys) ≡ true
all_join p [] ys a b = b
all_join p (x ∷ xs) ys a b = let two = and_parts (p x) (list_all p xs) a in and_from _ _ two.0 (all_join p xs ys two.1 b)

quiet_token : (b : ℕ) → is_token_byte b ≡ true → is_quiet b ≡ true
unfolding is_token_byte
quiet_token b h = grind (arith, nat_tests)

visible : (b : ℕ) → is_token_byte b ≡ true → is_blank_byte b ≡ false
unfolding is_token_byte
visible b h = grind (arith, nat_tests)

no_space : (b : ℕ) → is_token_byte b ≡ true → (b == 32) ≡ false
unfolding is_token_byte
no_space b h = grind (arith, nat_tests)

no_line : (b : ℕ) → is_token_byte b ≡ true → (b == 10) ≡ false
unfolding is_token_byte
no_line b h = grind (arith, nat_tests)

quiet_uri : (b : ℕ) → is_uri_byte b ≡ true → is_quiet b ≡ true
quiet_uri b h = grind (arith, nat_tests)

quiet_value : (b : ℕ) → is_value_byte b ≡ true → is_quiet b ≡ true
quiet_value b h = grind (arith, nat_tests)

-- ---- the fields

abbrev line_of : Field → Line
line_of field = record { name = field.name; raw = space ∷ field.value; end = crlf }

name_of : (field : Field) → is_token field.name ≡ true
name_of field = (and_parts (is_token field.name) (list_all (λ b. not (is_ascii_uppercase b)) field.name) field.name_is).0

line_is : (field : Field) → IsField (line_of field)
line_is field = record {
  name = token_of field.name (name_of field);
  raw = AllPass-from_list_all is_value_byte (space ∷ field.value) (and_from _ _ refl field.value_is);
}

lines_are : (fields : List Field) → All IsField (map line_of fields)
lines_are [] = All-nil IsField
lines_are (field ∷ fields) = All-cons IsField (line_of field) (map line_of fields) (line_is field) (lines_are fields)

lines_printed : (fields : List Field) → flat_map print_field (map line_of fields) ≡ lines_of fields
lines_printed [] = refl
lines_printed (field ∷ fields) =
    (λ i. append_assoc field.name (58 ∷ 32 ∷ field.value) crlf_bytes i ++ lines_printed fields i)

low_byte : (b : ℕ) → not (is_ascii_uppercase b) ≡ true → to_ascii_lowercase b ≡ b
low_byte b h = grind (arith, nat_tests)

low_name : (text : List ℕ) → list_all (λ b. not (is_ascii_uppercase b)) text ≡ true → str_to_ascii_lowercase text ≡ text
low_name [] h = refl
low_name (b ∷ text) h =
    let two = and_parts (not (is_ascii_uppercase b)) (list_all (λ b. not (is_ascii_uppercase b)) text) h in
    λ i. low_byte b two.0 i ∷ low_name text two.1 i

raw_is : (value : List ℕ) → trim_ows (space ∷ value) ≡ trim_ows value
unfolding trim_ows
raw_is value = refl

fields_meant : (fields : List Field) → AllByRecursion (λ (field : Field). trim_ows field.value ≡ field.value) fields
    → map in_lower_case (map name_and_value (map line_of fields)) ≡ map as_pair fields
fields_meant [] h = refl
fields_meant (field ∷ fields) h =
    let low = (and_parts (is_token field.name) (list_all (λ b. not (is_ascii_uppercase b)) field.name) field.name_is).1 in
    λ i. (low_name field.name low i, (raw_is field.value ∙ h.0) i) ∷ fields_meant fields h.1 i

-- ---- the block

abbrev text_of : Field → List ℕ
text_of field = field.name ++ (codes ": " ++ field.value)

abbrev all_lines : Asked → List (List ℕ)
all_lines asked = (asked.method ++ (codes " " ++ (asked.target ++ codes " HTTP/1.1"))) ∷ map text_of asked.fields

token_bytes : (text : List ℕ) → is_token text ≡ true → list_all is_token_byte text ≡ true
token_bytes text token = (and_parts (nat_lt 0 (length text)) (list_all is_token_byte text) token).1

line_with : (front back : List ℕ) → is_token front ≡ true → list_all is_quiet back ≡ true → IsLine (front ++ back)
line_with [] back token h = absurd cc
line_with (b ∷ front) back token h =
    all_join is_quiet (b ∷ front) back (all_weaker is_token_byte is_quiet quiet_token (b ∷ front) (token_bytes (b ∷ front) token)) h

text_line : (field : Field) → IsLine (text_of field)
text_line field = line_with field.name (codes ": " ++ field.value) (name_of field) (and_from _ _ refl (and_from _ _ refl (all_weaker is_value_byte is_quiet quiet_value field.value field.value_is)))

text_lines : (fields : List Field) → AllByRecursion IsLine (map text_of fields)
text_lines [] = tt
text_lines (field ∷ fields) = (text_line field, text_lines fields)

fields_text : (fields : List Field) → lines_of fields ++ crlf_bytes ≡ lines_text (map text_of fields)
fields_text [] = refl
fields_text (field ∷ fields) =
    let line = field_line (as_pair field) in
    append_assoc line (lines_of fields) crlf_bytes ∙ ap (λ (l : List ℕ). line ++ l) (fields_text fields)
    ∙ together field.name field.value (lines_text (map text_of fields))
  where
    together : (name value rest : List ℕ) → (name ++ (codes ": " ++ (value ++ crlf_bytes))) ++ rest ≡ (name ++ (codes ": " ++ value)) ++ 13 ∷ 10 ∷ rest
    together name value rest =
        append_assoc name (codes ": " ++ (value ++ crlf_bytes)) rest
        ∙ ap (λ (l : List ℕ). name ++ (58 ∷ 32 ∷ l)) (append_assoc value crlf_bytes rest)
        ∙ sym (append_assoc name (codes ": " ++ value) (13 ∷ 10 ∷ rest))

module _ (asked : Asked) (plain : IsPlain asked) where
  abbrev text : List ℕ
  text = request_bytes asked

  abbrev pairs : List (List ℕ × List ℕ)
  pairs = map as_pair asked.fields

  abbrev tree : RequestHead
  tree = record {
    blank = [];
    method = asked.method;
    target = asked.target;
    minor = 1;
    line_end = crlf;
    fields = map line_of asked.fields;
    last = crlf;
  }

  target_parts : (nat_lt 0 (length asked.target) ≡ true) × (list_all is_uri_byte asked.target ≡ true)
  target_parts = and_parts (nat_lt 0 (length asked.target)) (list_all is_uri_byte asked.target) asked.target_is

  is_head : IsRequestHead tree
  is_head = record {
    method = token_of asked.method asked.method_is;
    target = (some_bytes (length asked.target) target_parts.0, AllPass-from_list_all is_uri_byte asked.target target_parts.1);
    target_text = plain.text;
    minor = omega arith;
    fields = lines_are asked.fields;
  }

  -- method, target and what is behind them
  in_order : (rest : List ℕ) → request_line asked ++ rest ≡ asked.method ++ 32 ∷ (asked.target ++ (codes " HTTP/1.1\r\n" ++ rest))
  in_order rest =
      append_assoc asked.method (codes " " ++ (asked.target ++ codes " HTTP/1.1\r\n")) rest
      ∙ ap (λ (l : List ℕ). asked.method ++ 32 ∷ l) (append_assoc asked.target (codes " HTTP/1.1\r\n") rest)

  printed : print_request tree ++ [] ≡ text
  printed =
      print_request-append tree []
      ∙ (λ i. asked.method ++ 32 ∷ (asked.target ++ (codes " HTTP/1.1\r\n" ++ append-nil (lines_printed asked.fields i ++ crlf_bytes) i)))
      ∙ sym (in_order (lines_of asked.fields ++ crlf_bytes))

  reads : ReadsRequest text tree []
  reads = (is_head, sym printed)

  lines_are_text : text ≡ lines_text (all_lines asked)
  lines_are_text =
      ap (λ (l : List ℕ). request_line asked ++ l) (fields_text asked.fields)
      ∙ in_order (lines_text (map text_of asked.fields))
      ∙ sym (append_assoc asked.method (codes " " ++ (asked.target ++ codes " HTTP/1.1")) (13 ∷ 10 ∷ lines_text (map text_of asked.fields))
      ∙ ap (λ (l : List ℕ). asked.method ++ 32 ∷ l) (append_assoc asked.target (codes " HTTP/1.1") (13 ∷ 10 ∷ lines_text (map text_of asked.fields))))

  first_line : IsLine (asked.method ++ (codes " " ++ (asked.target ++ codes " HTTP/1.1")))
  first_line =
      line_with asked.method (codes " " ++ (asked.target ++ codes " HTTP/1.1")) asked.method_is
      (and_from _ _ refl (all_join is_quiet asked.target (codes " HTTP/1.1") (all_weaker is_uri_byte is_quiet quiet_uri asked.target target_parts.1) refl))

  ends : EndsBlock (lines_text (all_lines asked))
  ends = subst EndsBlock (sym (append-nil (print_request tree)) ∙ printed ∙ lines_are_text) (head_ends tree)

  is_block : IsBlock text (length text)
  is_block = subst (λ (l : List ℕ). IsBlock l (length l)) (sym lines_are_text) (one_block (all_lines asked) (first_line, text_lines asked.fields) ends)

  -- ---- the front

  not_blank : (front back : List ℕ) → is_token front ≡ true → begins_blank (front ++ back) ≡ false
  not_blank [] back token = absurd cc
  not_blank (b ∷ front) back token = visible b (and_parts (is_token_byte b) (list_all is_token_byte front) (token_bytes (b ∷ front) token)).0

  behind_method : (front back : List ℕ) → list_all is_token_byte front ≡ true → after_space (front ++ 32 ∷ back) ≡ back
  behind_method [] back h = refl
  behind_method (b ∷ front) back h =
      let two = and_parts (is_token_byte b) (list_all is_token_byte front) h in
      cond-false _ _ _ (no_space b two.0) ∙ cond-false _ _ _ (no_line b two.0) ∙ behind_method front back two.1

  stops_there : (front back : List ℕ) → prefix_len (λ b. not (is_stop b)) (front ++ 32 ∷ back) ≤ length front
  stops_there [] back = omega arith
  stops_there (b ∷ front) back = by (not (is_stop b)) (stops_there front back)
    where
      by : (t : Bool) → prefix_len (λ b. not (is_stop b)) (front ++ 32 ∷ back) ≤ length front
          → (if t then 1 + prefix_len (λ b. not (is_stop b)) (front ++ 32 ∷ back) else 0) ≤ suc (length front)
      by true le = omega (arith, le)
      by false le = omega arith

  short_target : has_long_target text ≡ false
  short_target =
      let back = codes "HTTP/1.1\r\n" ++ (lines_of asked.fields ++ crlf_bytes) in
      let whole : text ≡ asked.method ++ 32 ∷ (asked.target ++ 32 ∷ back) = in_order (lines_of asked.fields ++ crlf_bytes) in
      let token = token_bytes asked.method asked.method_is in
      let at : after_space text ≡ asked.target ++ 32 ∷ back = ap after_space whole ∙ behind_method asked.method (asked.target ++ 32 ∷ back) token in
      let few = plain.target in
      below (prefix_len (λ b. not (is_stop b)) (after_space text))
      (subst (λ (l : List ℕ). prefix_len (λ b. not (is_stop b)) l ≤ 8000) (sym at) (omega (arith, few, stops_there asked.target back)))
    where
      below : (n : ℕ) → n ≤ 8000 → nat_lt 8000 n ≡ false
      below n le = grind (arith, nat_tests)

  -- ---- the tests of the head

  none_of : (name : List ℕ) (q : List ℕ × List ℕ → Bool) (fields : List (List ℕ × List ℕ)) → has_field name fields ≡ false → list_any (λ f. is_field name f && q f) fields ≡ false
  none_of name q [] h = refl
  none_of name q (f ∷ fields) h = by (is_field name f) (q f) (λ none. none_of name q fields none) h
    where
      by : (t u : Bool) → (has_field name fields ≡ false → list_any (λ f. is_field name f && q f) fields ≡ false)
          → (t || has_field name fields) ≡ false → ((t && u) || list_any (λ f. is_field name f && q f) fields) ≡ false
      by true u again no_field = absurd cc
      by false u again no_field = again no_field

  no_first : (fields : List (List ℕ × List ℕ)) → has_field (codes "content-length") fields ≡ false → first_length fields ≡ None
  no_first [] h = refl
  no_first (f ∷ fields) h = by (is_field (codes "content-length") f) refl (λ none. no_first fields none) h
    where
      by : (t : Bool) → is_field (codes "content-length") f ≡ t → (has_field (codes "content-length") fields ≡ false → first_length fields ≡ None)
          → (t || has_field (codes "content-length") fields) ≡ false → first_length (f ∷ fields) ≡ None
      by true is again no_field = absurd cc
      by false is again no_field = cond-false _ _ _ is ∙ again no_field

  no_size : body_length pairs ≡ 0
  no_size = ap (λ (o : Option ℕ). unwrap_or o 0) (no_first pairs plain.no_length)

  no_fault : (most : ℕ) → head_fault most (head_meant asked) ≡ None
  no_fault most =
      cond-false _ _ _ (few (length pairs) (let short = plain.few in omega (arith, short, length-map asked.fields as_pair)))
      ∙ cond-false _ _ _ (none_of (codes "content-length") _ pairs plain.no_length)
      ∙ cond-false _ _ _ (or_false plain.no_coding (and_false _ plain.method))
      ∙ cond-false _ _ _ (not_less most (body_length pairs) no_size)
    where
      few : (n : ℕ) → n ≤ 64 → nat_lt 64 n ≡ false
      few n le = grind (arith, nat_tests)

      not_less : (m n : ℕ) → n ≡ 0 → nat_lt m n ≡ false
      not_less m n is = grind (arith, nat_tests)

      or_false : {a b : Bool} → a ≡ false → b ≡ false → (a || b) ≡ false
      or_false is and = rw (is, and) refl

      and_false : {a : Bool} (b : Bool) → a ≡ false → (a && b) ≡ false
      and_false b is = rw is refl

  says : (most : ℕ) → FrontSays most text (Block (length text)) (Ok (head_meant asked))
  says most = record {
    long = λ long. absurd (let bad : true ≡ false = sym long ∙ short_target in cc);
    other = λ other. (
      Ok (head_meant asked),
      record {
        read = Some (head_meant asked);
        reads = (tree, reads, λ i. record { method = asked.method; target = asked.target; minor = 1; fields = sym (fields_meant asked.fields plain.values) i });
        is = ap (unless_faulty (head_meant asked)) (no_fault most);
      },
      refl,
    );
  }

  pub asked_back : (most : ℕ) → IsRequest front_limit most text (head_meant asked) []
  asked_back most = record {
    kind = Block (length text);
    front = text;
    is_front = record {
      blanks = [];
      split = sym (append-nil text);
      skipped = refl;
      starts = ap begins_blank (in_order (lines_of asked.fields ++ crlf_bytes)) ∙ not_blank asked.method _ asked.method_is;
      stops = (is_block, refl, (let size = plain.size in omega (arith, size)));
    };
    says = says most;
    size = sym no_size;
  }

pub request_reads_back : RequestReadsBack
request_reads_back asked most plain = asked_back asked plain most

pub request_reads_as_no_other : RequestReadsAsNoOther
request_reads_as_no_other asked most rest used behind head body plain split is =
    let same = one_request front_limit most used (request_bytes asked) behind rest head (head_meant asked) body [] is (asked_back asked plain most) (sym split) in
    (same.0, same.1, same.2)
