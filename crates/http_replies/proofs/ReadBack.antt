-- The head of a reply is a head of the grammar.
use Rattle.std.proofs.Common.{◌≡◌, ℕ, ◌<◌, ◌^◌, ◌==◌, Bool, true, false, List, [], ◌∷◌, ◌++◌, length, map, reverse, refl, sym, ◌∙◌, ap, subst, arith, append_assoc, append-nil, nat_lt, Some, None}
use Rattle.std.specs.Prelude.{All, if◌then◌else◌, codes, decimal, flat_map}
use Rattle.std.specs.declared.option.Option.{Option}
use Rattle.std.specs.List.{list_all}
use Rattle.std.specs.Char.{is_ascii_digit, is_ascii_hexdigit}
use Rattle.std.proofs.lemmas.List.Elements.{All-nil, All-cons, All-head, All-tail, All-append, All-map, All-weaker}
use Rattle.std.proofs.lemmas.Bool.Decides.{nat_tests}
use Rattle.std.proofs.lemmas.List.Sums.{AllPass-from_list_all}
use Rattle.httparse.specs.Ascii.{space, crlf_bytes}
use Rattle.httparse.specs.Grammar.{Field, IsField, print_field, is_token, is_token_byte, is_value_byte, skip_ows, crlf, IsToken, ResponseHead, IsResponseHead, print_response, ReadsResponse}
use Rattle.httparse.specs.Spans.{name_and_value}
use Rattle.httparse.proofs.TrimLemmas.{trim_ows_space}
use Rattle.httparse.proofs.GrammarLemmas.{response_unique}
use Rattle.http_digest.specs.Challenge.{challenge_text, stale_text}
use Rattle.http_digest.specs.declared.challenges.Challenge.{Challenge}
use Rattle.http_replies.specs.Laws.{SaysReply, EveryReplyReadsBack, NoReplyReadsAsAnother}
use Rattle.http_replies.specs.Replies.{phrase, field_line, media_type, body_of, content_fields, challenge_fields, allow_text, allow_fields, close_fields, reply_fields, reply_head, IsSendable}
use Rattle.http_replies.specs.declared.reply.Allow.{Allow}
use Rattle.http_replies.specs.declared.reply.Allow.TheVariants as allow
use Rattle.http_replies.specs.declared.reply.BodyKind.{BodyKind}
use Rattle.http_replies.specs.declared.reply.BodyKind.TheVariants as kind
use Rattle.http_replies.specs.declared.reply.Reply.{Reply}
use Rattle.http_replies.proofs.PlainBytes.{both, list_all-join, plain_value, ends_so, plain_ends, decimal_plain, hexdigits_plain}
use Rattle.http_replies.proofs.StatusFacts.{status_facts}

-- a field of the grammar, as it is written
abbrev as_field : List ℕ × List ℕ → Field
as_field field = record { name = field.0; raw = space ∷ field.1; end = crlf }

-- a name is a token, and a value keeps all its bytes
pub record IsClean (field : List ℕ × List ℕ) : Type 0 where
  pub name : is_token field.0 ≡ true
  pub value : list_all is_value_byte field.1 ≡ true
  pub front : skip_ows field.1 ≡ field.1
  pub back : skip_ows (reverse field.1) ≡ reverse field.1

printed : (fields : List (List ℕ × List ℕ)) → flat_map print_field (map as_field fields) ≡ flat_map field_line fields
printed [] = refl
printed (f ∷ fs) =
    ap (λ (s : List ℕ). s ++ flat_map print_field (map as_field fs)) (append_assoc f.0 (58 ∷ 32 ∷ f.1) crlf_bytes)
    ∙ ap (λ (s : List ℕ). field_line f ++ s) (printed fs)

some_bytes : (n : ℕ) → nat_lt 0 n ≡ true → 0 < n
some_bytes n h = grind (arith, nat_tests)

token_of : (text : List ℕ) → is_token text ≡ true → IsToken text
token_of text h =
    let two = both (nat_lt 0 (length text)) (list_all is_token_byte text) h in
    (some_bytes (length text) two.0, AllPass-from_list_all is_token_byte text two.1)

field_of : (f : List ℕ × List ℕ) → IsClean f → IsField (as_field f)
field_of f c = record { name = token_of f.0 c.name; raw = AllPass-from_list_all is_value_byte (space ∷ f.1) c.value }

all_fields : (fs : List (List ℕ × List ℕ)) → All IsClean fs → All IsField (map as_field fs)
all_fields fs h = All-map IsField as_field fs (All-weaker IsClean (λ f. IsField (as_field f)) field_of fs h)

meant : (f : List ℕ × List ℕ) → IsClean f → name_and_value (as_field f) ≡ f
meant f c = ap (λ (v : List ℕ). (f.0, v)) (trim_ows_space f.1 c.front c.back)

all_meant : (fs : List (List ℕ × List ℕ)) → All IsClean fs → map name_and_value (map as_field fs) ≡ fs
all_meant [] h = refl
all_meant (f ∷ fs) h =
    ap (λ (g : List ℕ × List ℕ). g ∷ map name_and_value (map as_field fs)) (meant f (All-head IsClean f fs h))
    ∙ ap (λ (gs : List (List ℕ × List ℕ)). f ∷ gs) (all_meant fs (All-tail IsClean f fs h))

number_clean : (name : List ℕ) (n : ℕ) → is_token name ≡ true → n < 2 ^ 64 → IsClean (name, decimal n)
number_clean name n h lt =
    let plain = decimal_plain n lt in
    let ends = plain_ends (decimal n) plain in
    record { name = h; value = plain_value (decimal n) plain; front = ends.0; back = ends.1 }

type_clean : (k : BodyKind) → IsClean (codes "Content-Type", media_type k)
unfolding is_token_byte
type_clean kind.Miniseed = record { name = refl; value = refl; front = refl; back = refl }
type_clean kind.Plain = record { name = refl; value = refl; front = refl; back = refl }
type_clean kind.Octets = record { name = refl; value = refl; front = refl; back = refl }

size_name : is_token (codes "Content-Length") ≡ true
unfolding is_token_byte
size_name = refl

front_name : is_token (codes "X-Archive-Front") ≡ true
unfolding is_token_byte
front_name = refl

allow_clean : (m : Allow) → IsClean (codes "Allow", allow_text m)
unfolding is_token_byte
allow_clean allow.Get = record { name = refl; value = refl; front = refl; back = refl }
allow_clean allow.Post = record { name = refl; value = refl; front = refl; back = refl }
allow_clean allow.Both = record { name = refl; value = refl; front = refl; back = refl }

close_clean : IsClean (codes "Connection", codes "close")
unfolding is_token_byte
close_clean = record { name = refl; value = refl; front = refl; back = refl }

challenge_name : is_token (codes "WWW-Authenticate") ≡ true
unfolding is_token_byte
challenge_name = refl

abbrev opening : List ℕ
opening = codes "Digest realm=\"FDSN\", qop=\"auth\", algorithm=MD5, nonce=\""

quoted : (nonce : List ℕ) → list_all is_ascii_hexdigit nonce ≡ true → list_all is_value_byte (opening ++ nonce ++ codes "\"") ≡ true
quoted nonce h =
    list_all-join is_value_byte (opening ++ nonce) (codes "\"")
    (list_all-join is_value_byte opening nonce refl (plain_value nonce (hexdigits_plain nonce h))) refl

stale_bytes : (stale : Bool) → list_all is_value_byte (stale_text stale) ≡ true
stale_bytes true = refl
stale_bytes false = refl

last_byte : (nonce : List ℕ) (stale : Bool) → let text = opening ++ nonce ++ codes "\"" ++ stale_text stale in skip_ows (reverse text) ≡ reverse text
last_byte nonce true =
    ends_so _ (opening ++ nonce ++ codes "\"" ++ codes ", stale=tru") 101
    (sym (append_assoc (opening ++ nonce ++ codes "\"") (codes ", stale=tru") (101 ∷ []))) refl
last_byte nonce false = ends_so _ (opening ++ nonce) 34 (append-nil (opening ++ nonce ++ codes "\"")) refl

challenge_clean : (c : Challenge) → IsClean (codes "WWW-Authenticate", challenge_text c)
challenge_clean c = record {
  name = challenge_name;
  value = list_all-join is_value_byte (opening ++ c.nonce ++ codes "\"") (stale_text c.stale) (quoted c.nonce c.digits) (stale_bytes c.stale);
  front = refl;
  back = last_byte c.nonce c.stale;
}

-- fields that are there by a test
if_clean : (t : Bool) (fs : List (List ℕ × List ℕ)) → (t ≡ true → All IsClean fs) → All IsClean (if t then fs else [])
if_clean true fs h = h refl
if_clean false fs h = All-nil IsClean

unless_clean : (t : Bool) (fs : List (List ℕ × List ℕ)) → All IsClean fs → All IsClean (if t then [] else fs)
unless_clean true fs h = All-nil IsClean
unless_clean false fs h = h

one_clean : (f : List ℕ × List ℕ) → IsClean f → All IsClean (f ∷ [])
one_clean f h = All-cons IsClean f [] h (All-nil IsClean)

challenge_all : (n : ℕ) (o : Option Challenge) → All IsClean (challenge_fields n o)
challenge_all n None = All-nil IsClean
challenge_all n (Some c) = if_clean (n == 401) _ (λ is. one_clean _ (challenge_clean c))

allow_all : (n : ℕ) (o : Option Allow) → All IsClean (allow_fields n o)
allow_all n None = All-nil IsClean
allow_all n (Some m) = if_clean (n == 405) _ (λ is. one_clean _ (allow_clean m))

abbrev sizes : Reply → Type 0
sizes reply = (length (body_of reply) < 2 ^ 64) × (reply.front < 2 ^ 64)

fields_clean : (reply : Reply) → IsSendable reply → sizes reply → All IsClean (reply_fields reply)
fields_clean reply s (body, front) =
    let size : List ℕ × List ℕ = (codes "Content-Length", decimal (length (body_of reply))) in
    let content : List (List ℕ × List ℕ) = (codes "Content-Type", media_type reply.kind) ∷ size ∷ [] in
    let close : List (List ℕ × List ℕ) = (codes "Connection", codes "close") ∷ [] in
    let last : List ℕ × List ℕ = (codes "X-Archive-Front", decimal reply.front) in
    let size_clean = number_clean (codes "Content-Length") (length (body_of reply)) size_name body in
    let challenge = challenge_fields reply.status reply.challenge in
    let methods = allow_fields reply.status reply.allow in
    All-append IsClean (content_fields reply) (challenge ++ (methods ++ (last ∷ close_fields reply.close)))
    (unless_clean (reply.status == 204) content (All-cons IsClean (codes "Content-Type", media_type reply.kind) (size ∷ []) (type_clean reply.kind) (one_clean size size_clean)))
    (All-append IsClean challenge (methods ++ (last ∷ close_fields reply.close)) (challenge_all reply.status reply.challenge)
    (All-append IsClean methods (last ∷ close_fields reply.close) (allow_all reply.status reply.allow)
    (All-cons IsClean last (close_fields reply.close) (number_clean (codes "X-Archive-Front") reply.front front_name front)
    (if_clean reply.close close (λ is. one_clean (codes "Connection", codes "close") close_clean)))))

abbrev tree_of : Reply → ResponseHead
tree_of reply = record {
  blank = [];
  minor = 1;
  digits = decimal reply.status;
  reason = Some (phrase reply.status);
  line_end = crlf;
  fields = map as_field (reply_fields reply);
  last = crlf;
}

head_printed : (reply : Reply) → print_response (tree_of reply) ≡ reply_head reply
unfolding print_response
head_printed reply =
    let d = decimal reply.status in
    let p = phrase reply.status in
    let fs = reply_fields reply in
    ap (λ (s : List ℕ). codes "HTTP/1.1 " ++ (s ++ (flat_map print_field (map as_field fs) ++ crlf_bytes))) (append_assoc d (32 ∷ p) crlf_bytes)
    ∙ ap (λ (s : List ℕ). codes "HTTP/1.1 " ++ ((d ++ (32 ∷ (p ++ crlf_bytes))) ++ (s ++ crlf_bytes))) (printed fs)

is_head : (reply : Reply) → IsSendable reply → sizes reply → IsResponseHead (tree_of reply)
is_head reply s z =
    let f = status_facts reply.status s.status in
    record {
      minor = omega arith;
      digits = (f.0, AllPass-from_list_all is_ascii_digit (decimal reply.status) f.1);
      reason = AllPass-from_list_all is_value_byte (phrase reply.status) f.3;
      fields = all_fields (reply_fields reply) (fields_clean reply s z);
    }

says : (reply : Reply) → IsSendable reply → sizes reply → SaysReply reply (tree_of reply)
says reply s z = record {
  minor = refl;
  status = (status_facts reply.status s.status).2;
  phrase_is = refl;
  fields = all_meant (reply_fields reply) (fields_clean reply s z);
}

reads : (reply : Reply) (rest : List ℕ) → IsSendable reply → sizes reply → ReadsResponse (reply_head reply ++ rest) (tree_of reply) rest
reads reply rest s z = (is_head reply s z, ap (λ (x : List ℕ). x ++ rest) (sym (head_printed reply)))

body_size : (reply : Reply) → length reply.body < 2 ^ 64 → length (body_of reply) < 2 ^ 64
body_size reply lt = by_tests (reply.status == 500) (reply.status == 204)
  where
    by_tests : (a b : Bool) → length (if a then codes "Error 500: out of memory\n" else (if b then [] else reply.body)) < 2 ^ 64
    by_tests true b = omega arith
    by_tests false true = omega arith
    by_tests false false = lt

pub reads_back : EveryReplyReadsBack
reads_back reply rest s f =
    let z : sizes reply = (body_size reply f.body, f.front) in
    (tree_of reply, reads reply rest s z, says reply s z)

pub reads_as_no_other : NoReplyReadsAsAnother
reads_as_no_other reply rest s f tree behind r =
    let z : sizes reply = (body_size reply f.body, f.front) in
    let same = response_unique (reply_head reply ++ rest) (tree_of reply) tree rest behind (reads reply rest s z) r in
    (subst (SaysReply reply) same.0 (says reply s z), sym same.1)
