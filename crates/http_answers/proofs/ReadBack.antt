-- What was written as a reply reads back.
use Rattle.std.proofs.Common.{◌≡◌, ℕ, ◌+◌, ◌%◌, ◌<◌, ◌≤◌, ◌^◌, ◌==◌, Bool, true, false, List, [], ◌∷◌, ◌++◌, length, take, drop, Option, None, Some, refl, sym, ◌∙◌, ap, subst, arith, append_assoc, append-nil, length-append, nat_lt, inl, inr}
use Rattle.std.specs.Prelude.{if◌then◌else◌, codes, decimal, nat_le}
use Rattle.std.specs.List.{list_all}
use Rattle.std.specs.Char.{is_ascii_digit, is_ascii_hexdigit}
use Rattle.std.specs.Str.{str_eq_ignore_ascii_case}
use Rattle.std.specs.Str.Parse.{digits_value}
use Rattle.std.proofs.lemmas.Bool.{cond-true, cond-false}
use Rattle.std.proofs.lemmas.Bool.Decides.{nat_tests}
use Rattle.std.proofs.lemmas.Fmt.{decimal_by_steps, decimal_nonempty, decimal_is_IsNumeral, length-decimal-le}
use Rattle.std.proofs.lemmas.List.{take_at, drop_at, length-map}
use Rattle.std.proofs.lemmas.List.Folds.{list_all-append}
use Rattle.httparse.specs.Grammar.{ResponseHead, ReadsResponse, print_response}
use Rattle.httparse.specs.Spans.{name_and_value}
use Rattle.httparse.proofs.GrammarLemmas.{response_unique, ReadsResponse-append}
use Rattle.http_digest.specs.Challenge.{challenge_text, stale_text}
use Rattle.http_digest.specs.declared.challenges.Challenge.{Challenge}
use Rattle.http_replies.specs.Replies.{media_type, body_of, content_fields, challenge_fields, allow_text, allow_fields, close_fields, reply_fields, reply_head, reply_bytes, sent_body}
use Rattle.http_replies.specs.declared.reply.Allow.{Allow}
use Rattle.http_replies.specs.declared.reply.Reply.{Reply}
use Rattle.http_replies.proofs.ReadBack.{reads_back}
use Rattle.http_wire.specs.Heads.{length_in}
use Rattle.http_answers.specs.ReplyHeads.{Said, said, said_by, value_of, then_read, front_in, nonce_in, begins_nonce, size_of}
use Rattle.http_answers.specs.Laws.{nonce_asked, nonce_written, meant, WasWritten, ReadsBack, ReadsAsNoOther, NeverRefused}
use Rattle.http_answers.specs.declared.got.GotEnd.TheVariants as end
use Rattle.http_answers.specs.Reading.{NeverBegins, IsReply, LacksSize, IsLong, EndsInHead, EndsInBody}
use Rattle.http_answers.proofs.ReadSteps.{no_head_never}

abbrev Fields : Type 0
Fields = List (List ℕ × List ℕ)

-- ---- the first field of a name

value_behind : (name : List ℕ) (xs ys : Fields) → value_of name xs ≡ None → value_of name (xs ++ ys) ≡ value_of name ys
value_behind name [] ys none = refl
value_behind name (x ∷ xs) ys none = by (str_eq_ignore_ascii_case x.0 name) refl (λ rest. value_behind name xs ys rest) none
  where
    by : (t : Bool) → str_eq_ignore_ascii_case x.0 name ≡ t → (value_of name xs ≡ None → value_of name (xs ++ ys) ≡ value_of name ys) → value_of name (x ∷ xs) ≡ None → value_of name (x ∷ (xs ++ ys)) ≡ value_of name ys
    by true is again none = absurd (let bad : Some x.1 ≡ None = sym (cond-true _ _ _ is) ∙ none in cc)
    by false isnt again none = cond-false _ _ _ isnt ∙ again (sym (cond-false _ _ _ isnt) ∙ none)

value_front : (name v : List ℕ) (xs ys : Fields) → value_of name xs ≡ Some v → value_of name (xs ++ ys) ≡ Some v
value_front name v [] ys is = absurd cc
value_front name v (x ∷ xs) ys is = by (str_eq_ignore_ascii_case x.0 name) refl (λ rest. value_front name v xs ys rest) is
  where
    by : (t : Bool) → str_eq_ignore_ascii_case x.0 name ≡ t → (value_of name xs ≡ Some v → value_of name (xs ++ ys) ≡ Some v) → value_of name (x ∷ xs) ≡ Some v → value_of name (x ∷ (xs ++ ys)) ≡ Some v
    by true here again is = cond-true _ _ _ here ∙ sym (cond-true _ _ _ here) ∙ is
    by false isnt again is = cond-false _ _ _ isnt ∙ again (sym (cond-false _ _ _ isnt) ∙ is)

abbrev front_name : List ℕ
front_name = codes "x-archive-front"

abbrev nonce_name : List ℕ
nonce_name = codes "www-authenticate"

abbrev size_name : List ℕ
size_name = codes "content-length"

-- groups that have no field of the name
content_lacks : (t : Bool) (a b : List ℕ) → (value_of front_name (if t then [] else (codes "Content-Type", a) ∷ (codes "Content-Length", b) ∷ []) ≡ None)
    × (value_of nonce_name (if t then [] else (codes "Content-Type", a) ∷ (codes "Content-Length", b) ∷ []) ≡ None)
content_lacks true a b = (refl, refl)
content_lacks false a b = (refl, refl)

content_size : (a b : List ℕ) → value_of size_name ((codes "Content-Type", a) ∷ (codes "Content-Length", b) ∷ []) ≡ Some b
content_size a b = refl

challenge_lacks : (n : ℕ) (o : Option Challenge) → value_of front_name (challenge_fields n o) ≡ None
challenge_lacks n None = refl
challenge_lacks n (Some c) = by (n == 401)
  where
    by : (t : Bool) → value_of front_name (if t then (codes "WWW-Authenticate", challenge_text c) ∷ [] else []) ≡ None
    by true = refl
    by false = refl

allow_lacks : (n : ℕ) (o : Option Allow) → (value_of front_name (allow_fields n o) ≡ None) × (value_of nonce_name (allow_fields n o) ≡ None)
allow_lacks n None = (refl, refl)
allow_lacks n (Some m) = by (n == 405)
  where
    by : (t : Bool) → (value_of front_name (if t then (codes "Allow", allow_text m) ∷ [] else []) ≡ None) × (value_of nonce_name (if t then (codes "Allow", allow_text m) ∷ [] else []) ≡ None)
    by true = (refl, refl)
    by false = (refl, refl)

last_lacks : (a : List ℕ) (t : Bool) → value_of nonce_name ((codes "X-Archive-Front", a) ∷ close_fields t) ≡ None
last_lacks a true = refl
last_lacks a false = refl

last_front : (a : List ℕ) (t : Bool) → value_of front_name ((codes "X-Archive-Front", a) ∷ close_fields t) ≡ Some a
last_front a t = refl

-- ---- numbers

digits_of_decimal : (n : ℕ) → n < 2 ^ 64 → list_all is_ascii_digit (decimal n) ≡ true
digits_of_decimal = decimal_by_steps (λ m ds. list_all is_ascii_digit ds ≡ true) (λ m small. rw (digit m small) refl)
    (λ m ds more is. list_all-append is_ascii_digit ds ((48 + m % 10) ∷ []) ∙ rw (is, digit (m % 10) (last m)) refl)
  where
    digit : (m : ℕ) → m < 10 → is_ascii_digit (48 + m) ≡ true
    digit m small = grind (arith, nat_tests)

    last : (m : ℕ) → m % 10 < 10
    last m = omega arith

le_test : (m n : ℕ) → m ≤ n → nat_le m n ≡ true
le_test m n le = grind (arith, nat_tests)

lt_test : (m n : ℕ) → m < n → nat_lt m n ≡ true
lt_test m n lt = grind (arith, nat_tests)

front_back : (n : ℕ) → n < 2 ^ 64 → front_in (decimal n) ≡ Some n
front_back n lt =
    let some = le_test 1 (length (decimal n)) (decimal_nonempty n lt) in
    let few = le_test (length (decimal n)) 20 (length-decimal-le 20 n (omega arith) (omega (arith, lt)) lt) in
    let digits = digits_of_decimal n lt in
    let value : digits_value 10 (decimal n) ≡ n = (decimal_is_IsNumeral n lt).1 in
    rw (some, few, digits, value, lt_test n (2 ^ 64) lt) refl

size_back : (n : ℕ) → n < 10 ^ 18 → length_in (decimal n) ≡ Some n
size_back n small =
    let lt : n < 2 ^ 64 = omega (arith, small) in
    let some = le_test 1 (length (decimal n)) (decimal_nonempty n lt) in
    let few = le_test (length (decimal n)) 18 (length-decimal-le 18 n (omega arith) small lt) in
    let digits = digits_of_decimal n lt in
    let value : digits_value 10 (decimal n) ≡ n = (decimal_is_IsNumeral n lt).1 in
    rw (some, few, digits, value) refl

-- ---- the nonce

abbrev opening : List ℕ
opening = codes "Digest realm=\"FDSN\", qop=\"auth\", algorithm=MD5, "

here_it_is : (nonce more : List ℕ) → length nonce ≡ 48 → list_all is_ascii_hexdigit nonce ≡ true → begins_nonce (codes "nonce=\"" ++ (nonce ++ (34 ∷ more))) ≡ true
here_it_is nonce more size digits =
    let long : nat_le 49 (length (nonce ++ (34 ∷ more))) ≡ true = le_test _ _ (omega (arith, size, length-append nonce (34 ∷ more))) in
    let front : take 48 (nonce ++ (34 ∷ more)) ≡ nonce = take_at nonce (34 ∷ more) 48 size in
    let seam : drop 48 (nonce ++ (34 ∷ more)) ≡ 34 ∷ more = drop_at nonce (34 ∷ more) 48 size in
    rw (long, front, digits, seam) refl

nonce_back : (c : Challenge) → length c.nonce ≡ 48 → nonce_in (challenge_text c) ≡ Some c.nonce
nonce_back c size =
    let more = stale_text c.stale in
    let rest = c.nonce ++ (34 ∷ more) in
    let text : challenge_text c ≡ opening ++ (codes "nonce=\"" ++ rest) = append_assoc (opening ++ codes "nonce=\"" ++ c.nonce) (34 ∷ []) more ∙ append_assoc (opening ++ codes "nonce=\"") c.nonce (34 ∷ more) in
    let here : nonce_in (codes "nonce=\"" ++ rest) ≡ Some (take 48 rest) = cond-true _ _ _ (here_it_is c.nonce more size c.digits) in
    ap nonce_in text ∙ here ∙ ap Some (take_at c.nonce (34 ∷ more) 48 size)

-- ---- what is said

none_either : (t : Bool) → (let none : Option (List ℕ) = None in none) ≡ (if t then None else None)
none_either true = refl
none_either false = refl

nonce_by : (n : ℕ) (o : Option Challenge) (after : Fields) → value_of nonce_name after ≡ None → ((c : Challenge) → o ≡ Some c → length c.nonce ≡ 48)
    → then_read nonce_in (value_of nonce_name (challenge_fields n o ++ after)) ≡ (if n == 401 then nonce_asked o else None)
nonce_by n None after none fits = ap (then_read nonce_in) none ∙ none_either (n == 401)
nonce_by n (Some c) after none fits = by (n == 401)
  where
    by : (t : Bool) → then_read nonce_in (value_of nonce_name ((if t then (codes "WWW-Authenticate", challenge_text c) ∷ [] else []) ++ after)) ≡ (if t then Some c.nonce else None)
    by true = nonce_back c (fits c refl)
    by false = ap (then_read nonce_in) none

one_few : (t : Bool) (f : List ℕ × List ℕ) → length (if t then f ∷ [] else []) ≤ 1
one_few true f = omega arith
one_few false f = omega arith

module _ (reply : Reply) (w : WasWritten reply) where
  says_front : then_read front_in (value_of front_name (reply_fields reply)) ≡ Some reply.front
  says_front =
      let challenge = challenge_fields reply.status reply.challenge in
      let methods = allow_fields reply.status reply.allow in
      let last = (codes "X-Archive-Front", decimal reply.front) ∷ close_fields reply.close in
      let at : value_of front_name (reply_fields reply) ≡ Some (decimal reply.front) =
      value_behind front_name (content_fields reply) (challenge ++ (methods ++ last)) (content_lacks (reply.status == 204) (media_type reply.kind) (decimal (length (body_of reply)))).0
      ∙ value_behind front_name challenge (methods ++ last) (challenge_lacks reply.status reply.challenge)
      ∙ value_behind front_name methods last (allow_lacks reply.status reply.allow).0
      ∙ last_front (decimal reply.front) reply.close in
      ap (then_read front_in) at ∙ front_back reply.front w.fits.front

  says_nonce : then_read nonce_in (value_of nonce_name (reply_fields reply)) ≡ nonce_written reply
  says_nonce =
      let challenge = challenge_fields reply.status reply.challenge in
      let methods = allow_fields reply.status reply.allow in
      let last = (codes "X-Archive-Front", decimal reply.front) ∷ close_fields reply.close in
      let rest : value_of nonce_name (methods ++ last) ≡ None =
      value_behind nonce_name methods last (allow_lacks reply.status reply.allow).1 ∙ last_lacks (decimal reply.front) reply.close in
      ap (then_read nonce_in) (value_behind nonce_name (content_fields reply) (challenge ++ (methods ++ last)) (content_lacks (reply.status == 204) (media_type reply.kind) (decimal (length (body_of reply)))).1)
      ∙ nonce_by reply.status reply.challenge (methods ++ last) rest w.nonce

  says_size : size_of reply.status (value_of size_name (reply_fields reply)) ≡ Some (length (body_of reply))
  says_size = by_status (reply.status == 204) refl
    where
      rest : Fields
      rest = challenge_fields reply.status reply.challenge ++ (allow_fields reply.status reply.allow ++ ((codes "X-Archive-Front", decimal reply.front) ∷ close_fields reply.close))

      none_is : (reply.status == 204) ≡ true → length (body_of reply) ≡ 0
      none_is is =
          let n : reply.status ≡ 204 = grind (arith, nat_tests) in
          let other : (reply.status == 500) ≡ false = ap (λ (k : ℕ). k == 500) n in
          ap length (cond-false _ _ _ other ∙ cond-true _ _ _ is)

      by_status : (t : Bool) → (reply.status == 204) ≡ t → size_of reply.status (value_of size_name (reply_fields reply)) ≡ Some (length (body_of reply))
      by_status true is = cond-true _ _ _ is ∙ ap Some (sym (none_is is))
      by_status false isnt =
          let size = decimal (length (body_of reply)) in
          let there : value_of size_name (content_fields reply) ≡ Some size = ap (value_of size_name) (cond-false _ _ _ isnt) ∙ content_size (media_type reply.kind) size in
          cond-false _ _ _ isnt ∙ ap (then_read length_in) (value_front size_name size (content_fields reply) rest there) ∙ size_back (length (body_of reply)) w.body

  said_back : said_by reply.status (reply_fields reply) ≡ meant reply
  said_back = λ i. record { status = reply.status; front = says_front i; nonce = says_nonce i; size = says_size i }

  few_fields : length (reply_fields reply) ≤ 64
  few_fields =
      let content = content_few (reply.status == 204) in
      let challenge = challenge_few reply.status reply.challenge in
      let methods = allow_few reply.status reply.allow in
      let last = close_few reply.close in
      let a = length-append (content_fields reply) (challenge_fields reply.status reply.challenge ++ (allow_fields reply.status reply.allow ++ ((codes "X-Archive-Front", decimal reply.front) ∷ close_fields reply.close))) in
      let b = length-append (challenge_fields reply.status reply.challenge) (allow_fields reply.status reply.allow ++ ((codes "X-Archive-Front", decimal reply.front) ∷ close_fields reply.close)) in
      let d = length-append (allow_fields reply.status reply.allow) ((codes "X-Archive-Front", decimal reply.front) ∷ close_fields reply.close) in
      omega (arith, content, challenge, methods, last, a, b, d)
    where
      content_few : (t : Bool) → length {A = List ℕ × List ℕ} (if t then [] else (codes "Content-Type", media_type reply.kind) ∷ (codes "Content-Length", decimal (length (body_of reply))) ∷ []) ≤ 2
      content_few true = omega arith
      content_few false = omega arith

      challenge_few : (n : ℕ) (o : Option Challenge) → length (challenge_fields n o) ≤ 1
      challenge_few n None = omega arith
      challenge_few n (Some c) = one_few (n == 401) (codes "WWW-Authenticate", challenge_text c)

      allow_few : (n : ℕ) (o : Option Allow) → length (allow_fields n o) ≤ 1
      allow_few n None = omega arith
      allow_few n (Some m) = one_few (n == 405) (codes "Allow", allow_text m)

      close_few : (t : Bool) → length (close_fields t) ≤ 1
      close_few t = one_few t (codes "Connection", codes "close")

  -- the head of the grammar, whatever follows
  record Head (rest : List ℕ) : Type 0 where
    tree : ResponseHead
    reads : ReadsResponse (reply_bytes reply ++ rest) tree (body_of reply ++ rest)
    said_is : said tree ≡ meant reply
    size : length (print_response tree) ≤ 16384
    few : length tree.fields ≤ 64

  sent_is : sent_body reply ≡ body_of reply
  sent_is = cond-false _ _ _ w.whole

  head_at : (rest : List ℕ) → Head rest
  head_at rest =
      let found = reads_back reply (body_of reply ++ rest) w.sendable w.fits in
      let tree = found.0 in
      let says = found.2 in
      let bytes : reply_head reply ++ (body_of reply ++ rest) ≡ reply_bytes reply ++ rest =
      ap (λ (l : List ℕ). reply_head reply ++ (l ++ rest)) (sym sent_is) ∙ sym (append_assoc (reply_head reply) (sent_body reply) rest) in
      let long = ap length found.1.1 in
      record {
        tree = tree;
        reads = subst (λ (l : List ℕ). ReadsResponse l tree (body_of reply ++ rest)) bytes found.1;
        said_is = (λ i. said_by (says.status i) (says.fields i)) ∙ said_back;
        size = (let head = w.head in omega (arith, head, long, length-append (reply_head reply) (body_of reply ++ rest), length-append (print_response tree) (body_of reply ++ rest)));
        few = (let few = few_fields in omega (arith, few, ap length says.fields, length-map tree.fields name_and_value));
      }

  some_is : (m n : ℕ) → (let s : Option ℕ = Some m in s) ≡ Some n → m ≡ n
  some_is m n e = cc

  pub back : IsReply (reply_bytes reply) (meant reply) (body_of reply)
  back =
      let h = head_at [] in
      record {
        tree = h.tree;
        begins = record { reads = subst (λ (l : List ℕ × List ℕ). ReadsResponse l.0 h.tree l.1) (λ i. (append-nil (reply_bytes reply) i, append-nil (body_of reply) i)) h.reads; size = h.size; few = h.few };
        says_is = sym h.said_is;
        size = refl;
      }

  -- what bytes that begin with this reply begin with
  module _ (rest bytes : List ℕ) (at : bytes ≡ reply_bytes reply ++ rest) where
    one_head : (tree : ResponseHead) (behind : List ℕ) → ReadsResponse bytes tree behind → (said tree ≡ meant reply) × (behind ≡ body_of reply ++ rest)
    one_head tree behind reads =
        let h = head_at rest in
        let two = response_unique (reply_bytes reply ++ rest) tree h.tree behind (body_of reply ++ rest) (subst (λ (l : List ℕ). ReadsResponse l tree behind) at reads) h.reads in
        (ap said two.0 ∙ h.said_is, two.1)

    size_is : (tree : ResponseHead) (behind : List ℕ) (n : ℕ) → ReadsResponse bytes tree behind → (said tree).size ≡ Some n → n ≡ length (body_of reply)
    size_is tree behind n reads is = some_is n (length (body_of reply)) (sym is ∙ ap (λ (s : Said). s.size) (one_head tree behind reads).0)

    pub never_bad : NeverBegins bytes → ⊥
    never_bad never =
        let h = head_at rest in
        never [] h.tree (body_of reply ++ rest) (record { reads = subst (λ (l : List ℕ). ReadsResponse l h.tree (body_of reply ++ rest)) (sym at ∙ sym (append-nil bytes)) h.reads; size = h.size; few = h.few })

    pub never_lacks : LacksSize bytes → ⊥
    never_lacks lacks = let bad : None ≡ Some (length (body_of reply)) = sym lacks.none ∙ ap (λ (s : Said). s.size) (one_head lacks.tree lacks.rest lacks.begins.reads).0 in cc

    pub never_long : (most n : ℕ) → length (body_of reply) ≤ most → IsLong bytes n → most < n → ⊥
    never_long most n le long lt = omega (arith, le, lt, size_is long.tree long.rest n long.begins.reads long.size)

    pub never_in_head : EndsInHead bytes → ⊥
    never_in_head ends = let h = head_at rest in ends.none h.tree (body_of reply ++ rest) (subst (λ (l : List ℕ). ReadsResponse l h.tree (body_of reply ++ rest)) (sym at) h.reads)

    pub never_in_body : (most : ℕ) → EndsInBody most bytes → ⊥
    never_in_body most ends =
        let count = size_is ends.tree ends.part ends.count ends.begins.reads ends.size in
        let behind = ap length (one_head ends.tree ends.part ends.begins.reads).1 in
        let short = ends.short in
        omega (arith, count, behind, short, length-append (body_of reply) rest)

    pub no_other : (used behind : List ℕ) (says : Said) (body : List ℕ) → bytes ≡ used ++ behind → IsReply used says body → (says ≡ meant reply) × (body ≡ body_of reply) × (behind ≡ rest)
    no_other used behind says body split is =
        let reads : ReadsResponse bytes is.tree (body ++ behind) = subst (λ (l : List ℕ). ReadsResponse l is.tree (body ++ behind)) (sym split) (ReadsResponse-append used is.tree body behind is.begins.reads) in
        let one = one_head is.tree (body ++ behind) reads in
        let says-is : says ≡ meant reply = is.says_is ∙ one.0 in
        let count : length body ≡ length (body_of reply) = some_is (length body) (length (body_of reply)) (sym is.size ∙ ap (λ (s : Said). s.size) says-is) in
        let front : body ≡ body_of reply = sym (take_at body behind (length body) refl) ∙ ap (take (length body)) one.1 ∙ take_at (body_of reply) rest (length body) (sym count) in
        let back : behind ≡ rest = sym (drop_at body behind (length body) refl) ∙ ap (drop (length body)) one.1 ∙ drop_at (body_of reply) rest (length body) (sym count) in
        (says-is, front, back)

pub reads_back_whole : ReadsBack
reads_back_whole = back

pub reads_no_other : ReadsAsNoOther
reads_no_other reply rest used behind says body w at is = no_other reply w rest (reply_bytes reply ++ rest) refl used behind says body at is

pub never_refused : NeverRefused
never_refused reply rest most end.BadReply w le (inl none) = never_bad reply w rest (reply_bytes reply ++ rest) refl (no_head_never (reply_bytes reply ++ rest) none)
never_refused reply rest most end.BadReply w le (inr lacks) = never_lacks reply w rest (reply_bytes reply ++ rest) refl lacks
never_refused reply rest most (end.TooLong n) w le long = never_long reply w rest (reply_bytes reply ++ rest) refl most n le long.0 long.1
never_refused reply rest most end.Cut w le (inl ends) = never_in_head reply w rest (reply_bytes reply ++ rest) refl ends
never_refused reply rest most end.Cut w le (inr ends) = never_in_body reply w rest (reply_bytes reply ++ rest) refl most ends
never_refused reply rest most end.LinkFault w le row = row
never_refused reply rest most end.OutOfMemory w le row = row
