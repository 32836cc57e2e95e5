-- A target is one: it has no space and no control byte.
use Rattle.std.proofs.Common.{◌≡◌, ◌⊎◌, inl, inr, ℕ, ◌<◌, Bool, true, false, List, [], ◌∷◌, ◌++◌, length, codes, All, refl, ◌∙◌, ap, arith, nat_lt, append_assoc}
use Rattle.std.specs.Prelude.{if◌then◌else◌}
use Rattle.std.specs.List.{list_all}
use Rattle.std.proofs.lemmas.Bool.{and_from}
use Rattle.std.proofs.lemmas.Bool.Decides.{nat_tests}
use Rattle.std.proofs.lemmas.List.Elements.{All-head, All-tail}
use Rattle.std.proofs.lemmas.List.Folds.{list_all-append}
use Rattle.httparse.specs.Grammar.{is_uri_byte}
use Rattle.form_urlencoded.specs.Form.{IsUnchanged, byte_serialize, separator, serialize_pair, append_pair, extend_pairs, is_nonempty}
use Rattle.form_urlencoded.proofs.FormLemmas.{IsSerializedByte, All-byte_serialize}
use Rattle.http_wire.specs.FieldPairs.{as_pair}
use Rattle.http_wire.specs.Heads.{is_target}
use Rattle.http_wire.specs.declared.field.Field.{Field}
use Rattle.http_replies.specs.Replies.{field_line}
use Rattle.http_answers.specs.Requests.{lines_of}
use Rattle.split_fetch.specs.Peers.{window_request}
use Rattle.split_fetch.specs.Targets.{code_pairs, time_pairs, target_bytes}
use Rattle.split_fetch.specs.declared.asked.Codes.{Codes}
use Rattle.split_fetch.specs.declared.window.Window.{Window}

abbrev AreUri : List ℕ → Type 0
AreUri text = list_all is_uri_byte text ≡ true

uri_unchanged : (b : ℕ) → IsUnchanged b → is_uri_byte b ≡ true
uri_unchanged b h = grind (arith, nat_tests)

uri_byte : (b : ℕ) → IsUnchanged b ⊎ ((b ≡ 43) ⊎ (b ≡ 37)) → is_uri_byte b ≡ true
uri_byte b (inl kept) = uri_unchanged b kept
uri_byte b (inr (inl plus)) = ap is_uri_byte plus
uri_byte b (inr (inr percent)) = ap is_uri_byte percent

uri_text : (bs : List ℕ) → All IsSerializedByte bs → AreUri bs
uri_text [] h = refl
uri_text (b ∷ bs) h = and_from _ _ (uri_byte b (All-head IsSerializedByte b bs h).allowed) (uri_text bs (All-tail IsSerializedByte b bs h))

uri_join : (xs ys : List ℕ) → AreUri xs → AreUri ys → AreUri (xs ++ ys)
uri_join xs ys a b = list_all-append is_uri_byte xs ys ∙ and_from _ _ a b

uri_written : (bs : List ℕ) → AreUri (byte_serialize bs)
uri_written bs = uri_text (byte_serialize bs) (All-byte_serialize bs)

uri_separator : (form : List ℕ) → AreUri (separator form)
uri_separator form = by (is_nonempty form)
  where
    by : (t : Bool) → AreUri (if t then 38 ∷ [] else [])
    by true = refl
    by false = refl

uri_pair : (form name value : List ℕ) → AreUri form → AreUri (append_pair form name value)
uri_pair form name value h =
    uri_join (form ++ separator form) (serialize_pair (name, value)) (uri_join form (separator form) h (uri_separator form))
    (uri_join (byte_serialize name ++ 61 ∷ []) (byte_serialize value) (uri_join (byte_serialize name) (61 ∷ []) (uri_written name) refl) (uri_written value))

uri_pairs : (form : List ℕ) (pairs : List (List ℕ × List ℕ)) → AreUri form → AreUri (extend_pairs form pairs)
uri_pairs form [] h = h
uri_pairs form (p ∷ pairs) h = uri_pairs (append_pair form p.0 p.1) pairs (uri_pair form p.0 p.1 h)

some : (n : ℕ) → 0 < n → nat_lt 0 n ≡ true
some n lt = grind (arith, nat_tests)

pub target_is : (c : Codes) (w : Window) → is_target (target_bytes c w) ≡ true
target_is c w =
    and_from _ _ (some (length (target_bytes c w)) (omega arith))
    (uri_join (codes "/fdsnws/dataselect/1/query?") (extend_pairs [] (code_pairs c ++ time_pairs w)) refl (uri_pairs [] (code_pairs c ++ time_pairs w) refl))

-- the request that these parts are
pub request_is : (c : Codes) (w : Window) (method target : List ℕ) (fields : List Field) (host close : Field) → method ≡ codes "GET" → target ≡ target_bytes c w
    → fields ≡ host ∷ close ∷ [] → as_pair host ≡ (codes "host", codes "localhost") → as_pair close ≡ (codes "connection", codes "close")
    → (method ++ (codes " " ++ (target ++ codes " HTTP/1.1\r\n"))) ++ (lines_of fields ++ codes "\r\n") ≡ window_request c w
request_is c w method target fields host close method_is target_is fields_are host_is close_is =
    let line = codes " HTTP/1.1\r\n" in
    let rest = codes "host: localhost\r\nconnection: close\r\n\r\n" in
    let lines : lines_of fields ++ codes "\r\n" ≡ rest =
    ap (λ (fs : List Field). lines_of fs ++ codes "\r\n") fields_are
    ∙ (λ i. (field_line (host_is i) ++ (field_line (close_is i) ++ [])) ++ codes "\r\n") in
    (λ i. (method_is i ++ (codes " " ++ (target_is i ++ line))) ++ lines i)
    ∙ ap (λ (l : List ℕ). codes "GET " ++ l) (append_assoc (target_bytes c w) line rest)
